use Rattle.std.proofs.Common.{sym, ap, map, ◌==◌, ◌∙◌, ℕ, List, arith}
use Rattle.ojp_timetable.proofs.MarkFacts.{seven}
use Rattle.ojp_timetable.proofs.file.said.read_marks.Goals as goal

pub returns-in-len7 : goal.returns-in-len7
returns-in-len7 c =
    let e = seven c.args.text.now (omega arith) in
    (sym c.are_marks.ensures ∙ c.if-not-are_marks.false, sym (ap (λ (t : List ℕ). map (λ (b : ℕ). b == 49) t) e))
