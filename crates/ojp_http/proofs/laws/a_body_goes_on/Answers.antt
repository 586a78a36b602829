use Rattle.ojp_http.proofs.Continuing.{body_goes_on_law}
use Rattle.ojp_http.proofs.laws.a_body_goes_on.Goals as goal

pub returns : goal.returns
returns c = body_goes_on_law
