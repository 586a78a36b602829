use Rattle.std.proofs.Common.{true≢false, ◌+◌, sym, ◌∙◌, subst, inr, refl, arith}
use Rattle.ojp_regions.specs.RegionsText.{IsRefusal}
use Rattle.ojp_regions.proofs.ReadFacts.{read_more, read_refused, read_all, read_nothing, no_text}
use Rattle.ojp_regions.proofs.reading.read_regions.Goals as goal

pub returns-in-Err-clause-refused : goal.returns-in-Err-clause-refused
returns-in-Err-clause-refused c =
    subst (IsRefusal c.args.bytes.now) (sym c.refusal.ensures)
    (read_refused c.args.bytes.now c.lines.rest.now c.lines.regions c.split_line.result.0.now c.split_line.result.1.now (c.len.result + 1) c.in-Err.refused
    c.lines.invariant c.split_line.ensures.lines (omega (arith, c.len.ensures)) c.in-Err.ensures.refused)

pub lines-preserved : goal.lines-preserved
lines-preserved c =
    read_more c.args.bytes.now c.lines.rest.now c.lines.regions c.split_line.result.0.now c.split_line.result.1.now c.add_line.new.regions
    c.lines.invariant c.split_line.ensures.lines c.in_default.ensures.added

pub returns-then-is_empty-clause-refused : goal.returns-then-is_empty-clause-refused
returns-then-is_empty-clause-refused c =
    let end = no_text c.lines.rest.now (sym c.is_empty.ensures ∙ c.lines-test.false) in
    inr (read_nothing c.args.bytes.now c.lines.rest.now c.lines.regions c.lines.invariant end (c.is_empty-2.ensures.0 c.if-is_empty.true), refl, refl)

pub returns-clause-text : goal.returns-clause-text
returns-clause-text c =
    let end = no_text c.lines.rest.now (sym c.is_empty.ensures ∙ c.lines-test.false) in
    read_all c.args.bytes.now c.lines.rest.now c.lines.regions c.lines.invariant end (λ none. true≢false (sym (c.is_empty-2.ensures.1 none) ∙ c.if-is_empty.false))
