-- The labels of a trip's journeys.
use Rattle.std.specs.Prelude.{ℕ, ◌+◌, ◌/◌, ◌%◌, ◌==◌, cond, [], ◌∷◌, ◌++◌, Option, Some, None}
use Rattle.std.specs.Fmt.{decimal}
use Rattle.ojp_values.specs.Texts.{Text}
use Rattle.ojp_feed_labels.specs.Labels.{label_of}

-- the last two digits of a number
abbrev pub two_digits : ℕ → Text
two_digits n = (48 + n / 10 % 10) ∷ (48 + n % 10) ∷ []

-- the seconds of a time, where it is no full minute
abbrev pub seconds_text : ℕ → Text
seconds_text seconds = cond (seconds == 0) [] (two_digits seconds)

-- `.`, which is 46, and a time as hhmm or hhmmss; nothing where there is no time
abbrev pub time_text : Option ℕ → Text
time_text None = []
time_text (Some seconds) = 46 ∷ two_digits (seconds / 3600) ++ two_digits (seconds / 60 % 60) ++ seconds_text (seconds % 60)

-- `.` and a number; nothing where there is none
abbrev pub line_text : Option ℕ → Text
line_text None = []
line_text (Some line) = 46 ∷ decimal line

-- the label of a journey of a trip with that label, told from the others by its departure and the number of its line
unfoldable pub repeated : Text → Option ℕ → Option ℕ → Text
repeated trip departs line = label_of 32 (trip ++ time_text departs ++ line_text line)
