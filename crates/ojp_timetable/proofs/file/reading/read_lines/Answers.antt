use Rattle.std.proofs.Common.{◌≡◌, ◌+◌, ℕ, take, drop, sym, ◌∙◌, ap, subst, arith}
use Rattle.std.specs.Prelude.{None}
use Rattle.ojp_timetable.specs.Lines.{Above, no_lines}
use Rattle.ojp_timetable.specs.Checks.{is_cut, read_line}
use Rattle.ojp_timetable.specs.TableText.{ArePassed, IsTextRefused, above_of, lines_of, reason_of, with_line}
use Rattle.ojp_timetable.specs.Refusals.{IsLineRefusal, IsRefusal, refusal_of}
use Rattle.ojp_timetable.specs.declared.file.refusals.TableRefused.{TableRefused}
use Rattle.ojp_timetable.specs.declared.file.lines.TableReason.TheVariants.{LineForm}
use Rattle.ojp_timetable.proofs.PassFacts.{above_of-more, all_read, fault_at-next, is_next, none_passed, passed-more, passed_all, no_text, refused_at_end, refused_here, counted}
use Rattle.ojp_timetable.proofs.file.reading.read_lines.Goals as goal

pub loop-rest-init : goal.loop-rest-init
unfolding above_of
loop-rest-init c =
    let all = lines_of c.args.bytes.now in
    let e : c.args.above.now ≡ no_lines = c.requires in
    let n : c.args.above.now.lines ≡ 0 = ap (λ (a : Above). a.lines) e in
    record {
      left = ap (λ (k : ℕ). drop k all) n;
      made = e ∙ ap (λ (k : ℕ). above_of (take k all)) (sym n);
      passed = subst (ArePassed all) (sym n) (none_passed all);
      room = omega (arith, n);
      within = omega (arith, n);
    }

pub returns-in-Err-clause-refused : goal.returns-in-Err-clause-refused
returns-in-Err-clause-refused c =
    let all = lines_of c.args.bytes.now in
    let n = c.loop-rest.above.lines in
    let inv = c.loop-rest.invariant in
    let line = c.split_line.result.0.now in
    let next = is_next all n line (lines_of c.split_line.result.1.now) (inv.left ∙ c.split_line.ensures.lines) in
    let why = subst (λ (above : Above). IsLineRefusal (read_line above line) c.in-Err.refused) inv.made c.in-Err.ensures.refused in
    let here = refused_here c.args.bytes.now n line (lines_of c.split_line.result.1.now) c.in-Err.refused next inv.passed why in
    subst (λ (refused : TableRefused). IsRefusal c.args.bytes.now refused)
    (sym (c.refusal.ensures ∙ ap (λ (k : ℕ). refusal_of c.in-Err.refused (k + 1)) c.lines-number.ensures)) here

pub loop-rest-preserved : goal.loop-rest-preserved
loop-rest-preserved c =
    let all = lines_of c.args.bytes.now in
    let n = c.loop-rest.above.lines in
    let inv = c.loop-rest.invariant in
    let line = c.split_line.result.0.now in
    let more = lines_of c.split_line.result.1.now in
    let next = is_next all n line more (inv.left ∙ c.split_line.ensures.lines) in
    let passes : reason_of (read_line c.loop-rest.above line) ≡ None = c.in_default.ensures.passed in
    let taken : c.take.new.self ≡ with_line c.loop-rest.above line = c.in_default.ensures.taken in
    let count : c.take.new.self.lines ≡ n + 1 = ap (λ (above : Above). above.lines) taken ∙ counted c.loop-rest.above line passes in
    record {
      left = ap (λ (k : ℕ). drop k all) count ∙ next.left;
      made = taken ∙ (ap (λ (above : Above). with_line above line) inv.made ∙ (above_of-more all n line more next ∙ ap (λ (k : ℕ). above_of (take k all)) (sym count)));
      passed = subst (ArePassed all) (sym count)
          (passed-more all n inv.passed (fault_at-next all n line more next ∙ (ap (λ (above : Above). reason_of (read_line above line)) (sym inv.made) ∙ passes)));
      room = omega (arith, count, c.split_line.ensures.shorter, inv.room);
      within = omega (arith, count, next.within);
    }

pub returns-then-is_cut-clause-refused : goal.returns-then-is_cut-clause-refused
returns-then-is_cut-clause-refused c =
    let all = lines_of c.args.bytes.now in
    let n = c.loop-rest.above.lines in
    let inv = c.loop-rest.invariant in
    let read = all_read all n (inv.left ∙ no_text c.loop-rest.rest.now (sym c.is_empty.ensures ∙ c.loop-rest-test.false)) inv.within in
    let made : c.loop-rest.above ≡ above_of all = inv.made ∙ ap above_of read.1 in
    let cut = ap is_cut (sym made) ∙ (sym c.is_cut.ensures ∙ c.if-is_cut.true) in
    subst (λ (k : ℕ). IsTextRefused c.args.bytes.now (k + 1) LineForm) (sym c.lines.ensures) (refused_at_end c.args.bytes.now n read.0 inv.passed cut)

pub returns-clause-passed : goal.returns-clause-passed
returns-clause-passed c =
    let all = lines_of c.args.bytes.now in
    let n = c.loop-rest.above.lines in
    let inv = c.loop-rest.invariant in
    let read = all_read all n (inv.left ∙ no_text c.loop-rest.rest.now (sym c.is_empty.ensures ∙ c.loop-rest-test.false)) inv.within in
    let made : c.loop-rest.above ≡ above_of all = inv.made ∙ ap above_of read.1 in
    let cut = ap is_cut (sym made) ∙ (sym c.is_cut.ensures ∙ c.if-is_cut.false) in
    subst (λ (k : ℕ). ArePassed all (k + 1)) (sym read.0) (passed_all c.args.bytes.now n read.0 inv.passed cut)

pub returns-clause-made : goal.returns-clause-made
returns-clause-made c =
    let all = lines_of c.args.bytes.now in
    let n = c.loop-rest.above.lines in
    let inv = c.loop-rest.invariant in
    let read = all_read all n (inv.left ∙ no_text c.loop-rest.rest.now (sym c.is_empty.ensures ∙ c.loop-rest-test.false)) inv.within in
    inv.made ∙ ap above_of read.1
