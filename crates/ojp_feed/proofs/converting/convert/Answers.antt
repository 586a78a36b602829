use Rattle.std.proofs.Common.{List, ℕ, subst}
use Rattle.ojp_timetable.specs.Refusals.{IsRefusal}
use Rattle.ojp_feed.proofs.CauseFacts.{cause_planned, cause_read}
use Rattle.ojp_feed.proofs.converting.convert.Goals as goal

pub returns-in-Err-clause-refused : goal.returns-in-Err-clause-refused
returns-in-Err-clause-refused c = cause_planned c.args.feed.now c.args.settings.now c.in-Err.refused c.refused_by_plan.result c.in-Err.ensures.refused c.refused_by_plan.ensures

pub returns-in-Err-read-clause-refused : goal.returns-in-Err-read-clause-refused
returns-in-Err-read-clause-refused c =
    let refused = c.in-Err-read.refused in
    let text = c.in-Ok-text_of.text.items in
    let why = subst (λ (t : List ℕ). IsRefusal t refused) c.as_slice.ensures.value c.in-Err-read.ensures.refused in
    cause_read c.args.feed.now c.args.settings.now c.in-Ok.plan text refused c.refused_by_reading.result c.in-Ok.ensures.of c.in-Ok-text_of.ensures why c.refused_by_reading.ensures
