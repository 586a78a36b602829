use Rattle.std.proofs.Common.{◌∙◌}
use Rattle.ojp_steps.proofs.ServingFacts.{served_one}
use Rattle.ojp_steps.proofs.serving.serve_next.Goals as goal

pub returns-clause-served : goal.returns-clause-served
returns-clause-served g c = (
  served_one _ _ _ _ _ _ _ _ _ c.in-Ok.ensures.given c.in-Ok.ensures.told_empty c.serve_one.ensures.serves c.serve_one.ensures.taken c.back.ensures.returned,
  c.back.ensures.at_rest ∙ c.in-Ok.ensures.at_rest (λ is. cc),
)
