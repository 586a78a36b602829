-- Texts of zones that are tried.
use Rattle.std.specs.Prelude.{ℕ, ◌+◌, ◌-◌, ◌/◌, ◌%◌, ℤ, pos, int_lt, nat_lt, cond, unsigned_abs, [], ◌∷◌, ◌++◌}
use Rattle.ojp_values.specs.Dates.{two}
use Rattle.ojp_zones.specs.Parts.{Text}
use Rattle.ojp_zones.specs.declared.zone.DateRule.{DateRule}

-- `-` (45) west of UTC, and else `+` (43)
abbrev pub sign : ℤ → ℕ
sign east = cond (int_lt east (pos 0)) 45 43

abbrev pub other_sign : ℤ → ℕ
other_sign east = cond (int_lt east (pos 0)) 43 45

abbrev pub hours : ℤ → Text
hours east = two (unsigned_abs east / 3_600)

abbrev pub minutes : ℤ → Text
minutes east = two (unsigned_abs east / 60 % 60)

-- +hh:mm
unfoldable pub offset_text : ℤ → Text
offset_text east = sign east ∷ hours east ++ 58 ∷ minutes east

-- <+hhmm>-hh:mm: a name that tells the offset, and what is added to local time to give UTC
unfoldable pub named_text : ℤ → Text
named_text east = 60 ∷ sign east ∷ hours east ++ minutes east ++ 62 ∷ other_sign east ∷ hours east ++ 58 ∷ minutes east

-- a month without a leading zero
abbrev pub month_text : ℕ → Text
month_text month = cond (nat_lt month 10) ((48 + month) ∷ []) (49 ∷ (48 + (month - 10)) ∷ [])

-- ,Mm.w.d
unfoldable pub date_text : DateRule → Text
date_text date = 44 ∷ 77 ∷ month_text date.month ++ 46 ∷ (48 + date.week) ∷ 46 ∷ (48 + date.weekday) ∷ []

-- a rule with two offsets, and the dates from which and before which the second holds
unfoldable pub rule_text : ℤ → ℤ → DateRule → DateRule → Text
rule_text east second from to = named_text east ++ named_text second ++ date_text from ++ date_text to
