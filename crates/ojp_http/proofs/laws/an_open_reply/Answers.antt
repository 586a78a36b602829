use Rattle.ojp_http.proofs.Opened.{open_holds_none, open_goes_on}
use Rattle.ojp_http.proofs.laws.an_open_reply.Goals as goal

pub returns-clause-none : goal.returns-clause-none
returns-clause-none c = open_holds_none

pub returns-clause-goes_on : goal.returns-clause-goes_on
returns-clause-goes_on c = open_goes_on
