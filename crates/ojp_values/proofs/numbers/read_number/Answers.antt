use Rattle.std.proofs.Common.{◌∙◌, sym}
use Rattle.ojp_values.proofs.Numerals.{not_plain, plain_read}
use Rattle.ojp_values.proofs.numbers.read_number.Goals as goal

pub returns-then-not-is_plain : goal.returns-then-not-is_plain
returns-then-not-is_plain c = not_plain c.args.text.now (sym c.is_plain.ensures ∙ c.if-not-is_plain.true)

pub returns : goal.returns
returns c = plain_read c.args.text.now c.read_digits.result (sym c.is_plain.ensures ∙ c.if-not-is_plain.false) c.read_digits.ensures
