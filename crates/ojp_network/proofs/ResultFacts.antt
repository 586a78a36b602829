-- What holds in any case holds at Ok.
use Rattle.std.specs.Prelude.{Result, Ok, Err, OnOk}

pub always : {T E : Type 0} (r : Result T E) (P : Type 0) → P → OnOk r P
always (Ok x) P h = h
always (Err e) P h = tt
