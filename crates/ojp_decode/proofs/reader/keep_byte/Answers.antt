use Rattle.std.proofs.Common.{ℕ, [], ◌∷◌, refl, subst}
use Rattle.ojp_grammar.specs.Machine.{StaysCut}
use Rattle.ojp_decode.proofs.reader.keep_byte.Goals as goal

pub returns-in-Ok : goal.returns-in-Ok
returns-in-Ok c =
    let P : ℕ → Type 0 = λ n. StaysCut c.args.cut n (c.args.byte ∷ []) in
    (subst P c.len.ensures.value (c.if-not-stays_cut_behind.ensures refl), c.in-Ok.ensures.ok)
