use Rattle.std.proofs.Common.{sym, subst, Option}
use Rattle.ojp_values.specs.declared.documents.Doc.{Doc}
use Rattle.ojp_grammar.specs.Running.{IsRead}
use Rattle.ojp_grammar.proofs.Ended.{run_done}
use Rattle.ojp_grammar.proofs.machine.Machine.into_document.Goals as goal

pub returns : goal.returns
returns c fed stands ended =
    let done = run_done c.args.self fed stands ended in
    let P : Option Doc → Type 0 = IsRead c.args.self.want fed in
    subst P (sym (c.into_document.ensures done.document done.done)) (done.wanted, done.spells)
