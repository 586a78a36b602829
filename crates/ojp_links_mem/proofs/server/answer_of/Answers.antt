use Rattle.std.proofs.Common.{◌≡◌, List, ℕ, Some, length, refl, slice_get, subst, sym, ◌∙◌}
use Rattle.std.proofs.lemmas.Option.{same_Some, slice_get_read}
use Rattle.ojp_timetable.specs.Tables.{Timetable}
use Rattle.ojp_links.specs.Replies.{ServesByTable}
use Rattle.ojp_links_mem.proofs.ServedFacts.{if_ok_map}
use Rattle.ojp_links_mem.proofs.server.answer_of.Goals as goal

pub returns-clause-serves : goal.returns-clause-serves
returns-clause-serves c =
    let tables = c.args.servers.now.items in
    let server = c.index_mut.result.now in
    let at : slice_get tables c.args.number ≡ Some server = slice_get_read tables (length tables) c.args.number server refl c.requires c.index_mut.ensures.value in
    if_ok_map c.reply.result _ _ (λ reply serves.
    λ table e. subst (λ (t : Timetable). ServesByTable t c.args.request.now reply.items) (same_Some server table (sym at ∙ e)) (subst (λ (bytes : List ℕ). ServesByTable server bytes reply.items) c.in_ok-sent.ensures serves))
    c.reply.ensures.serves
