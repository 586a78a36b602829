use Rattle.ojp_http.proofs.WholeMessages.{body_law}
use Rattle.ojp_http.proofs.laws.one_body.Goals as goal

pub returns : goal.returns
returns c = body_law
