use Rattle.ojp_http.proofs.WrittenRequests.{body_is_only}
use Rattle.ojp_http.proofs.laws.a_body_is_the_only_outcome.Goals as goal

pub returns : goal.returns
returns c = body_is_only
