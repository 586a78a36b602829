-- A trip's legs, one part after another: how it begins, goes on and ends, and its totals.
use Rattle.std.specs.Prelude.{◌≡◌, ℕ, ◌+◌, ◌≤◌, List}
use Rattle.ojp_values.specs.Texts.{Text}
use Rattle.ojp_values.specs.declared.trips.Leg.{Leg}
use Rattle.ojp_values.specs.declared.trips.Trip.{Trip}
use Rattle.ojp_timetable.specs.Journeys.{AllFollow, IsAt, alighted, reached}
use Rattle.ojp_links.specs.Fits.{FitsNext}

-- the leg is of the region and leaves the stop, not before the moment
abbrev pub Begins : Text → Text → ℕ → Leg → Type 0
Begins region stop moment leg = (leg.region ≡ region) × (leg.board ≡ stop) × (moment ≤ leg.departs) × (leg.departs ≤ leg.arrives)

-- the totals are those of the first leg and so many others
abbrev pub HasTotals : Trip → Leg → ℕ → Type 0
HasTotals trip first others = (trip.start ≡ first.departs) × (trip.start + trip.duration ≡ trip.end) × (trip.transfers ≡ others)

-- the legs go on from the first one, each by one of the region, and end at the stop at the moment
abbrev pub LeadsOn : Text → Leg → List Leg → Text → ℕ → Type 0
LeadsOn region first legs stop end = AllFollow (FitsNext region) (alighted first) legs × IsAt (reached (alighted first) legs) stop end
