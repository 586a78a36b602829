use Rattle.ojp_http.proofs.WholeMessages.{beginning_law}
use Rattle.ojp_http.proofs.laws.no_reply_begins_another.Goals as goal

pub returns : goal.returns
returns c = beginning_law
