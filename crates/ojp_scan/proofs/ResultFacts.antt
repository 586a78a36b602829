-- What holds where a call did not fail.
use Rattle.std.proofs.Common.{◌≡◌, true, true≢false, sym, Result, Ok, Err, is_ok}
use Rattle.std.specs.Prelude.{OnOk}

pub ok-then : {T E P : Type 0} (r : Result T E) → is_ok r ≡ true → OnOk r P → P
ok-then (Ok x) e h = h
ok-then (Err x) e h = absurd (true≢false (sym e))
