use Rattle.std.proofs.Common.{sym, ◌∙◌, ◌∷◌}
use Rattle.ojp_timetable.specs.TableText.{lines_of}
use Rattle.ojp_timetable.proofs.LineFacts.{lines_of-at, lines_of-last}
use Rattle.ojp_timetable.proofs.file.reading.split_line.Goals as goal

pub returns-in-Some-clause-lines : goal.returns-in-Some-clause-lines
returns-in-Some-clause-lines c =
    lines_of-at c.args.text.now c.in-Some.end c.in-Some.ensures
    ∙ (λ i. sym c.split_at.ensures.front i ∷ lines_of (sym c.split_at.ensures.back i))

pub returns-in-None-clause-lines : goal.returns-in-None-clause-lines
unfolding lines_of
returns-in-None-clause-lines c = lines_of-last c.args.text.now c.requires c.in-None.ensures
