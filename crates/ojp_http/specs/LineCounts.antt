-- Counting lines, by bytes and by runs of bytes.
use Rattle.std.specs.Prelude.{ℕ, ◌+◌, Bool, true, false, not, ◌&&◌, ◌||◌, List, [], ◌∷◌, if◌then◌else◌, ◌==◌, nat_le}
use Rattle.ojp_http.specs.declared.count.Begun.{Begun}
use Rattle.ojp_http.specs.declared.count.Begun.TheVariants.{Nothing, Return, Other}
use Rattle.ojp_http.specs.declared.count.LineCount.{LineCount}

-- before the first byte
abbrev pub no_lines : LineCount
no_lines = record { begun = Nothing; counted = 0; has_empty = false }

-- the line that has begun, after one more byte
abbrev pub begun_step : Begun → ℕ → Begun
begun_step Nothing b = if b == 13 then Return else Other
begun_step Return b = Other
begun_step Other b = Other

-- the line that has begun, after a run of bytes without a line feed
abbrev pub begun_run : Begun → List ℕ → Begun
begun_run begun [] = begun
begun_run begun (b ∷ []) = begun_step begun b
begun_run begun (b ∷ c ∷ run) = Other

-- a line without bytes, or with a carriage return alone, is empty; those at the front are not counted
abbrev pub end_by : Begun → ℕ → Bool → LineCount
end_by Nothing counted has_empty = if counted == 0 then record { begun = Nothing; counted = 0; has_empty = has_empty } else record { begun = Nothing; counted = counted + 1; has_empty = true }
end_by Return counted has_empty = if counted == 0 then record { begun = Nothing; counted = 0; has_empty = has_empty } else record { begun = Nothing; counted = counted + 1; has_empty = true }
end_by Other counted has_empty = record { begun = Nothing; counted = counted + 1; has_empty = has_empty }

-- after a line feed
abbrev pub count_end : LineCount → LineCount
count_end s = end_by s.begun s.counted s.has_empty

-- after one more byte
abbrev pub count_step : LineCount → ℕ → LineCount
count_step s b = if b == 10 then count_end s else record { begun = begun_step s.begun b; counted = s.counted; has_empty = s.has_empty }

-- after these bytes
abbrev pub count_from : LineCount → List ℕ → LineCount
count_from s [] = s
count_from s (b ∷ bytes) = count_from (count_step s b) bytes

-- so many bytes, or so many counted lines of which none is empty
abbrev pub is_full_by : ℕ → ℕ → LineCount → Bool
is_full_by most len s = nat_le 16384 len || (nat_le most s.counted && not s.has_empty)
