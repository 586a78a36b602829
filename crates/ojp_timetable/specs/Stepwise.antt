-- United journeys leg by leg: one remembers the region where one stands, and where the row of its legs began.
use Rattle.std.specs.Prelude.{◌≢◌, ℕ, ◌+◌, ◌≤◌, ◌≡◌, List, [], ◌∷◌, ◌⊎◌}
use Rattle.ojp_values.specs.Lists.{Among}
use Rattle.ojp_values.specs.Texts.{Text}
use Rattle.ojp_values.specs.declared.trips.Leg.{Leg}
use Rattle.ojp_timetable.specs.Tables.{Timetable}
use Rattle.ojp_timetable.specs.Runs.{IsLeg, day_long}
use Rattle.ojp_timetable.specs.Journeys.{Standing, IsAt, alighted, after, Follows, Crosses, United, AreTables}

-- from where one stands, in a row of legs of the table that began at the stop `from`, the legs lead on to the stop
-- d, and arrive there at a
abbrev pub LeadsOn : List Timetable → Text → Timetable → Standing → List Leg → Text → ℕ → Type 0
LeadsOn tables from table at [] d a = (from ≢ d) × IsAt at d a
LeadsOn tables from table at (leg ∷ legs) d a =
    (Follows table at leg × LeadsOn tables from table (after at leg) legs d a)
    ⊎ ((right : Timetable) × Among right tables × (from ≢ at.stop) × Crosses table at right leg × LeadsOn tables leg.board right (after at leg) legs d a)

-- a united journey, leg by leg
abbrev pub Stepwise : List Timetable → Text → ℕ → Text → ℕ → List Leg → Type 0
Stepwise tables o t d a [] = ⊥
Stepwise tables o t d a (leg ∷ legs) =
    (table : Timetable) × Among table tables × (o ≢ d) × (a ≤ t + day_long) × IsLeg table leg × (leg.board ≡ o) × (t ≤ leg.departs) × LeadsOn tables o table (alighted leg) legs d a

-- both forms say the same
abbrev pub FormsAgree : Type 0
FormsAgree =
    (tables : List Timetable) → AreTables tables → (o : Text) (t : ℕ) (d : Text) (a : ℕ) (legs : List Leg)
    → (Stepwise tables o t d a legs → United tables o t d a legs) × (United tables o t d a legs → Stepwise tables o t d a legs)
