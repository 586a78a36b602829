-- What becomes of a trip.
use Rattle.std.specs.Prelude.{ℕ, List}
use Rattle.ojp_feed_rows.specs.declared.trips.Trip.{Trip}
use Rattle.ojp_feed_trips.specs.declared.fates.Fate.{Fate}
use Rattle.ojp_feed_trips.specs.declared.fates.Fate.TheVariants.{Written}
use Rattle.ojp_feed_trips.specs.declared.weighing.Weighed.{Weighed}
use Rattle.ojp_feed_trips.specs.declared.weighing.Weighed.TheVariants.{Written as AsPattern, Left}
use Rattle.ojp_feed_trips.specs.Halts.{IsPattern}

-- a reason to leave a trip out
abbrev pub IsReason : Fate → Type 0
IsReason Written = ⊥
IsReason _ = Unit {0}

-- the trip of that number is written as a pattern of it, or left out for a reason
abbrev pub IsWeighed : Trip → ℕ → List ℕ → Weighed → Type 0
IsWeighed trip number places (AsPattern pattern) = IsPattern trip number places pattern
IsWeighed trip number places (Left fate) = IsReason fate
