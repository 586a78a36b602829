use Rattle.std.proofs.Common.{Some, length, refl, sym, ◌∙◌, ap, arith, inl, inr}
use Rattle.std.proofs.Math.Nat.{eq-or-lt_of_le}
use Rattle.std.proofs.lemmas.Option.{slice_get_read, slice_get_within}
use Rattle.ojp_values.proofs.EachFacts.{up_to}
use Rattle.ojp_timetable.proofs.ReadFacts.{read_once}
use Rattle.ojp_exchange.proofs.places.number_of.Goals as goal

pub returns-then-is_code : goal.returns-then-is_code
returns-then-is_code c =
    let codes = c.args.codes.now in
    slice_get_read codes (length codes) c.codes.number c.index-codes-number.result refl c.codes-test.true c.index-codes-number.is ∙ ap Some c.if-is_code.ensures

pub codes-preserved : goal.codes-preserved
codes-preserved c k less at =
    let codes = c.args.codes.now in
    let here = slice_get_read codes (length codes) c.codes.number c.index-codes-number.result refl c.codes-test.true c.index-codes-number.is in
    elim (eq-or-lt_of_le (up_to k c.codes.number less)) [
      | inl e ↦ c.if-is_code.ensures (read_once codes c.codes.number k c.index-codes-number.result c.args.code.now (sym e) here at)
      | inr m ↦ c.codes.invariant k m at
    ]

pub returns : goal.returns
returns c number at =
    let within = slice_get_within c.args.codes.now number c.args.code.now at in
    c.codes.invariant number (omega (arith, within, c.codes-test.false)) at
