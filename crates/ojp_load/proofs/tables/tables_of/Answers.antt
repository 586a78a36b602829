use Rattle.std.proofs.Common.{◌+◌, List, [], ◌∷◌, ◌++◌, take, sym, subst}
use Rattle.ojp_values.specs.Lists.{Pairwise}
use Rattle.ojp_values.specs.Texts.{Text}
use Rattle.ojp_timetable.specs.Tables.{Timetable}
use Rattle.ojp_timetable.specs.TableText.{IsText}
use Rattle.ojp_load.proofs.CountFacts.{pairwise_more, take_one, take_whole}
use Rattle.ojp_load.proofs.tables.tables_of.Goals as goal

pub loop-file-preserved : goal.loop-file-preserved
loop-file-preserved c =
    let files = c.args.files.now in
    let file = c.file-item.result in
    let text : IsText file c.in-Ok.table = subst (λ (t : Text). IsText t c.in-Ok.table) c.as_slice.ensures c.in-Ok.ensures.text in
    let more = pairwise_more IsText (take c.loop-file.file-index files) c.loop-file.tables.items file c.in-Ok.table c.loop-file.invariant text in
    subst (λ (ts : List Timetable). Pairwise IsText (take (c.loop-file.file-index + 1) files) ts) (sym c.in-Ok-push.ensures.items)
    (subst (λ (fs : List Text). Pairwise IsText fs (c.loop-file.tables.items ++ c.in-Ok.table ∷ [])) (sym (take_one files c.loop-file.file-index file c.loop-file-test.true c.file-item.is)) more)

pub returns : goal.returns
returns c = subst (λ (fs : List Text). Pairwise IsText fs c.loop-file.tables.items) (take_whole c.args.files.now c.loop-file.file-index c.loop-file-test.false) c.loop-file.invariant
