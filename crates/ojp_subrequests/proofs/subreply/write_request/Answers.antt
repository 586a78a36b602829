use Rattle.ojp_subrequests.proofs.BeginFacts.{request_is}
use Rattle.ojp_subrequests.proofs.subreply.write_request.Goals as goal

pub returns : goal.returns
returns c =
    request_is c.args.code.now c.args.doc.now c.in-Ok.text.written c.text.result.now c.written.result.now c.request.result c.text.ensures.value c.written.ensures c.text.ensures.well c.in-Ok.ensures c.request.ensures
