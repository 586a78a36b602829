use Rattle.std.proofs.Common.{◌≡◌, ◌++◌, ℕ, List, ◌∙◌, subst, OnOk}
use Rattle.std.specs.Prelude.{codes}
use Rattle.ojp_traces.proofs.trace.Trace.add_reach.Goals as goal

pub returns-clause-ok : goal.returns-clause-ok
returns-clause-ok c =
    let t = c.as_bytes.ensures.value ∙ c.format.ensures.text in
    let n = c.as_bytes-2.ensures.value ∙ c.format-2.ensures.text in
    subst (λ (l : List ℕ). OnOk c.add_parts.result (c.add_parts.new.self.lines ≡ c.args.self.now.lines ++ l))
    (λ i. t i ++ (codes " ask " ++ (n i ++ (codes " " ++ (c.text.ensures.value i ++ (codes " " ++ (c.text-2.ensures.value i ++ (codes " " ++ (c.text-moment.ensures.value i ++ codes "\n")))))))))
    c.add_parts.ensures.ok
