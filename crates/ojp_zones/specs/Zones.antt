-- The text of a zone: an offset from UTC, or a rule after the TZ text of POSIX.
use Rattle.std.specs.Prelude.{ℕ, ◌+◌, ◌*◌, Bool, ◌&&◌, ◌||◌, ◌==◌, not, cond, nat_le, ℤ, pos, neg_ℤ, ◌+ℤ◌, List, [], ◌∷◌, drop, take, slice_index, Option, Some, None, option_map, option_and_then}
use Rattle.std.specs.List.{prefix_len}
use Rattle.std.specs.Char.{is_ascii_alphabetic, is_ascii_alphanumeric}
use Rattle.ojp_zones.specs.Parts.{Text, parts}
use Rattle.ojp_zones.specs.Numbers.{number, is_number, is_pair, is_hour}
use Rattle.ojp_zones.specs.declared.zone.DateRule.{DateRule}
use Rattle.ojp_zones.specs.declared.zone.Zone.{Zone}

-- the later reading, where there is an earlier one
infixl 10 ◌>>=◌
abbrev pub ◌>>=◌ : {A B : Type 0} → Option A → (A → Option B) → Option B
o >>= f = option_and_then f o

-- `+` is 43, `,` 44, `-` 45, `.` 46, `/` 47, `:` 58, `<` 60, `>` 62 and `M` 77

abbrev pub is_sign : ℕ → Bool
is_sign b = b == 43 || b == 45

-- a sign at the front is left out
abbrev pub unsigned : Text → Text
unsigned text = drop (cond (is_sign (slice_index text 0)) 1 0) text

-- the seconds of hours and minutes
abbrev pub seconds_of : ℕ → ℕ → ℕ
seconds_of hours minutes = 3600 * hours + 60 * minutes

-- ---- an offset from UTC

-- two digits of hours up to 14, a colon, two digits of minutes
abbrev pub clock_parts : List Text → Option ℕ
clock_parts (hours ∷ minutes ∷ []) =
    cond (is_pair 14 hours && is_pair 59 minutes) (Some (seconds_of (number hours) (number minutes))) None
clock_parts _ = None

-- east of UTC for a plus
abbrev pub east_if_plus : Text → ℕ → ℤ
east_if_plus text seconds = cond (slice_index text 0 == 45) (neg_ℤ (pos seconds)) (pos seconds)

abbrev pub fixed_zone : ℤ → Zone
fixed_zone east = record { east = east; summer = None }

-- a sign and a time
unfoldable pub offset_zone : Text → Option Zone
offset_zone text = option_map (λ seconds. fixed_zone (east_if_plus text seconds)) (clock_parts (parts 58 (unsigned text)))

-- ---- a rule

-- one digit of hours or two up to 14, and minutes behind a colon if there are any
abbrev pub hour_parts : List Text → Option ℕ
hour_parts (hours ∷ []) = cond (is_hour 14 hours) (Some (seconds_of (number hours) 0)) None
hour_parts (hours ∷ minutes ∷ []) =
    cond (is_hour 14 hours && is_pair 59 minutes) (Some (seconds_of (number hours) (number minutes))) None
hour_parts _ = None

-- what is added to local time to give UTC, so east of UTC for a minus
abbrev pub east_if_minus : Text → ℕ → ℤ
east_if_minus text seconds = cond (slice_index text 0 == 45) (pos seconds) (neg_ℤ (pos seconds))

-- the seconds east of an offset in a rule
unfoldable pub rule_offset : Text → Option ℤ
rule_offset text = option_map (east_if_minus text) (hour_parts (parts 58 (unsigned text)))

abbrev pub is_name_length : ℕ → Bool
is_name_length n = nat_le 3 n && nat_le n 16

-- a byte of a name between angle brackets
abbrev pub is_quoted_byte : ℕ → Bool
is_quoted_byte b = is_ascii_alphanumeric b || is_sign b

-- where n bytes are a name that ends at the byte `>`, what stands behind it
abbrev pub behind_quoted : ℕ → Text → Option Text
behind_quoted n text = cond (is_name_length n && slice_index text n == 62) (Some (drop (n + 1) text)) None

abbrev pub behind_plain : ℕ → Text → Option Text
behind_plain n text = cond (is_name_length n) (Some (drop n text)) None

-- what stands behind the name at the front: 3 to 16 letters, or 3 to 16 letters, digits and signs between angle brackets
unfoldable pub behind_name : Text → Option Text
behind_name text =
    cond (slice_index text 0 == 60)
    (behind_quoted (prefix_len is_quoted_byte (drop 1 text)) (drop 1 text))
    (behind_plain (prefix_len is_ascii_alphabetic text) text)

-- a byte that an offset may have
abbrev pub is_offset_byte : ℕ → Bool
is_offset_byte b = not (is_ascii_alphabetic b || b == 60)

-- where the name that follows the offset begins
abbrev pub offset_end : Text → ℕ
offset_end text = prefix_len is_offset_byte text

-- `Mm.w.d`: a month, a week from 1 to 5, and a weekday of which 0 is Sunday
abbrev pub day_parts : List Text → Option DateRule
day_parts (month ∷ week ∷ weekday ∷ []) =
    cond (slice_index month 0 == 77 && is_number 1 12 (drop 1 month) && is_number 1 5 week && is_number 0 6 weekday)
    (Some (record { month = number (drop 1 month); week = number week; weekday = number weekday })) None
day_parts _ = None

-- a day, and behind a slash the hour of the change, which moves no noon
abbrev pub date_parts : List Text → Option DateRule
date_parts (day ∷ []) = day_parts (parts 46 day)
date_parts (day ∷ hour ∷ []) = cond (is_hour 10 hour) (day_parts (parts 46 day)) None
date_parts _ = None

unfoldable pub date_rule : Text → Option DateRule
date_rule text = date_parts (parts 47 text)

-- the second offset: one hour further east than the first where it is left out
abbrev pub second_offset : ℤ → Text → Option ℤ
second_offset east [] = Some (east +ℤ pos 3600)
second_offset east (b ∷ text) = rule_offset (b ∷ text)

abbrev pub summer_zone : ℤ → ℤ → DateRule → DateRule → Zone
summer_zone east summer from to = record { east = east; summer = Some (record { east = summer; from = from; to = to }) }

-- a second name, an offset if one is written, and the two dates of change
abbrev pub changing : ℤ → Text → Text → Text → Option Zone
changing east text from to = do
  offset ← behind_name text
  summer ← second_offset east offset
  first ← date_rule from
  second ← date_rule to
  Some (summer_zone east summer first second)

-- a name and an offset
abbrev pub named_offset : Text → Option ℤ
named_offset text = option_and_then rule_offset (behind_name text)

-- a name, an offset, and what follows the offset
abbrev pub changing_behind : Text → Text → Text → Option Zone
changing_behind text from to = do
  east ← rule_offset (take (offset_end text) text)
  changing east (drop (offset_end text) text) from to

abbrev pub rule_parts : List Text → Option Zone
rule_parts (names ∷ []) = option_map fixed_zone (named_offset names)
rule_parts (names ∷ from ∷ to ∷ []) = do
  text ← behind_name names
  changing_behind text from to
rule_parts _ = None

unfoldable pub rule_zone : Text → Option Zone
rule_zone text = rule_parts (parts 44 text)

-- the zone that the text names, if it names one
unfoldable pub zone_of : Text → Option Zone
zone_of text = cond (is_sign (slice_index text 0)) (offset_zone text) (rule_zone text)
