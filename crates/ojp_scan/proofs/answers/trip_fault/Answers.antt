use Rattle.std.proofs.Common.{◌∙◌, sym}
use Rattle.ojp_values.specs.Texts.{same}
use Rattle.ojp_scan.proofs.TripFacts.{fault-same, fault-origin, fault-target, fault-none}
use Rattle.ojp_scan.proofs.answers.trip_fault.Goals as goal

pub returns-then-eq : goal.returns-then-eq
unfolding same
returns-then-eq c = sym (fault-same c.args.table.now c.args.ask.now.origin c.args.ask.now.target (sym c.eq.ensures ∙ c.if-eq.true))

pub returns-then-not-has : goal.returns-then-not-has
unfolding same
returns-then-not-has c =
    sym (fault-origin c.args.table.now c.args.ask.now.origin c.args.ask.now.target (sym c.eq.ensures ∙ c.if-eq.false) (sym c.has.ensures ∙ c.if-not-has.true))

pub returns-then-not-has-2 : goal.returns-then-not-has-2
unfolding same
returns-then-not-has-2 c =
    sym (fault-target c.args.table.now c.args.ask.now.origin c.args.ask.now.target (sym c.eq.ensures ∙ c.if-eq.false) (sym c.has.ensures ∙ c.if-not-has.false) (sym c.has-else-not-has.ensures ∙ c.if-not-has-2.true))

pub returns-else-not-has-2 : goal.returns-else-not-has-2
unfolding same
returns-else-not-has-2 c =
    sym (fault-none c.args.table.now c.args.ask.now.origin c.args.ask.now.target (sym c.eq.ensures ∙ c.if-eq.false) (sym c.has.ensures ∙ c.if-not-has.false) (sym c.has-else-not-has.ensures ∙ c.if-not-has-2.false))
