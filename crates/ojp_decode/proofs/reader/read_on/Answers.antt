use Rattle.std.proofs.Common.{ℕ, List, refl, sym, subst}
use Rattle.ojp_decode.specs.Standing.{IsWaiting}
use Rattle.ojp_decode.proofs.reader.read_on.Goals as goal

pub returns-then-keep_cut : goal.returns-then-keep_cut
returns-then-keep_cut c bytes waiting = (refl, c.if-keep_cut.ensures bytes waiting)

pub read_behind-requires : goal.read_behind-requires
read_behind-requires c =
    let P : List ℕ → Type 0 = IsWaiting c.args.machine.now c.requires.0 in
    (c.requires.0, subst P (sym c.if-keep_cut.ensures) c.requires.1)

pub returns-else-keep_cut : goal.returns-else-keep_cut
returns-else-keep_cut c bytes waiting =
    let P : List ℕ → Type 0 = IsWaiting c.args.machine.now bytes in
    c.read_behind.ensures bytes (subst P (sym c.if-keep_cut.ensures) waiting)
