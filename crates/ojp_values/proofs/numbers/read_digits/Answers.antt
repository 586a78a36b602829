use Rattle.std.proofs.Common.{refl, arith, drop, get_or, fold, ◌+◌}
use Rattle.std.proofs.lemmas.List.{at_drop_more}
use Rattle.ojp_values.specs.Numbers.{number, with_digit}
use Rattle.ojp_values.proofs.Numerals.{fold-ge}
use Rattle.ojp_values.proofs.numbers.read_digits.Goals as goal

pub loop-digit-init : goal.loop-digit-init
unfolding number
loop-digit-init c = record { tied = refl; small = omega arith }

pub returns-then-sum-most : goal.returns-then-sum-most
returns-then-sum-most c =
    let e = at_drop_more (λ rest. fold with_digit c.loop-digit.sum rest) c.args.text.now c.loop-digit.digit-index 0 (omega arith) in
    let g = fold-ge (drop (c.loop-digit.digit-index + 1) c.args.text.now) (with_digit c.loop-digit.sum (get_or c.args.text.now c.loop-digit.digit-index 0)) in
    omega (arith, e, g, c.loop-digit.invariant.tied)
