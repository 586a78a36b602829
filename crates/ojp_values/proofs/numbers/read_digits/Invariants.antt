use Rattle.std.proofs.Common.{◌≡◌, ◌≤◌, drop, fold}
use Rattle.ojp_values.specs.Numbers.{number, with_digit}
use Rattle.ojp_values.proofs.numbers.read_digits.Given as goal

abbrev pub invariant-loop-digit : goal.invariant-loop-digit
invariant-loop-digit l = record { tied : fold with_digit l.sum (drop l.digit-index l.text) ≡ number l.text; small : l.sum ≤ l.most }
