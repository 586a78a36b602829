use Rattle.ojp_http.proofs.WrittenRequests.{request_is_ask}
use Rattle.ojp_http.proofs.laws.a_request_gives_its_body.Goals as goal

pub returns : goal.returns
returns c = request_is_ask
