use Rattle.std.proofs.Common.{sym, ◌∙◌, ap, arith, true≢false}
use Rattle.ojp_values.specs.Texts.{is_label}
use Rattle.ojp_calendars.proofs.LabelFacts.{label_is_label}
use Rattle.ojp_calendars.proofs.labels.label.Goals as goal

pub unreachable-requires : goal.unreachable-requires
unreachable-requires c =
    let is = label_is_label c.args.days.now (omega (arith, c.label_bytes.ensures.first)) (omega (arith, c.label_bytes.ensures.last)) in
    true≢false (sym (c.in-None.ensures.exact.1 (ap is_label c.label_bytes.ensures.value ∙ is)))
