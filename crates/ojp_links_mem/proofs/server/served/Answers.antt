use Rattle.std.proofs.Common.{ℕ, List, Some, ap, subst, sym}
use Rattle.ojp_http.specs.Connections.{wire}
use Rattle.ojp_outside.specs.Memory.{MemSinkView, MemSourceView}
use Rattle.ojp_outside.specs.MemorySeen.{sink_of, source_of}
use Rattle.ojp_links.specs.Replies.{ServesByTable}
use Rattle.ojp_links_mem.proofs.ServedFacts.{if_ok_map, served_reply}
use Rattle.ojp_links_mem.proofs.server.served.Goals as goal

pub returns-in-Answered-clause-serves : goal.returns-in-Answered-clause-serves
returns-in-Answered-clause-serves c =
    let table = c.args.table.now in
    let request = c.args.request.items in
    let serves = served_reply table (wire (source_of c.new-input.result) (sink_of c.new-output.result)) (wire (source_of c.serve_one.new.input) (sink_of c.serve_one.new.output)) _ request c.written.result.now
    (ap (λ (s : MemSourceView). Some s.left) c.new-input.ensures)
    (ap (λ (s : MemSinkView). Some s.written) c.new-output.ensures)
    (ap Some (sym c.written.ensures))
    c.in-Answered.ensures.serves in
    if_ok_map c.copied.result _ _ (λ copy is. subst (λ (bytes : List ℕ). ServesByTable table request bytes) (sym is) serves) c.copied.ensures
