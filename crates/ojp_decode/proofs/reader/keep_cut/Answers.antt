use Rattle.std.proofs.Common.{◌≡◌, ◌++◌, ℕ, List, [], ◌∷◌, get_or, sym, subst}
use Rattle.std.specs.Prelude.{MatchBool}
use Rattle.ojp_decode.specs.Standing.{IsWaiting}
use Rattle.ojp_decode.proofs.Bytes.{one_byte}
use Rattle.ojp_decode.proofs.Readings.{kept_waits}
use Rattle.ojp_decode.proofs.reader.keep_cut.Goals as goal

pub returns-in-len1 : goal.returns-in-len1
returns-in-len1 c =
    let kept : List ℕ = c.args.kept.now.items in
    let new : List ℕ = c.keep_byte.new.kept.items in
    let P : List ℕ → Type 0 = λ piece. MatchBool c.keep_byte.result ((bytes : List ℕ) → IsWaiting c.args.machine.now bytes kept → IsWaiting c.args.machine.now (bytes ++ piece) new) (new ≡ kept) in
    subst P (sym (one_byte c.args.piece.now c.in-len1.len_at_least c.in-len1.len_below))
    (kept_waits c.args.machine.now c.in-Some.cut kept (get_or c.args.piece.now 0 0 ∷ []) new c.keep_byte.result c.in-Some.is c.keep_byte.ensures)

pub returns-in_default-piece : goal.returns-in_default-piece
returns-in_default-piece c =
    kept_waits c.args.machine.now c.in-Some.cut c.args.kept.now.items c.args.piece.now c.keep_piece.new.kept.items c.keep_piece.result c.in-Some.is c.keep_piece.ensures
