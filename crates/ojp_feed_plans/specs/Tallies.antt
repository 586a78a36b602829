-- Trips counted by what becomes of them.
use Rattle.std.specs.Prelude.{ℕ, ◌+◌, List}
use Rattle.std.specs.List.{fold}
use Rattle.ojp_feed_trips.specs.declared.fates.Fate.{Fate}
use Rattle.ojp_feed_trips.specs.declared.fates.Fate.TheVariants as fates
use Rattle.ojp_feed_plans.specs.declared.counts.Tally.{Tally}

-- a trip more
abbrev pub with_fate : Tally → Fate → Tally
with_fate tally fates.Written = record tally { written = tally.written + 1 }
with_fate tally fates.UnknownRoute = record tally { unknown_route = tally.unknown_route + 1 }
with_fate tally fates.UnknownService = record tally { unknown_service = tally.unknown_service + 1 }
with_fate tally fates.UnknownStop = record tally { unknown_stop = tally.unknown_stop + 1 }
with_fate tally fates.NoDay = record tally { no_day = tally.no_day + 1 }
with_fate tally fates.DoubledSequence = record tally { doubled_sequence = tally.doubled_sequence + 1 }
with_fate tally fates.NoTimeAtEnd = record tally { no_time_at_end = tally.no_time_at_end + 1 }
with_fate tally fates.FallingTimes = record tally { falling_times = tally.falling_times + 1 }
with_fate tally fates.PastEnd = record tally { past_end = tally.past_end + 1 }
with_fate tally fates.TooFewCalls = record tally { too_few_calls = tally.too_few_calls + 1 }

-- no trips
abbrev pub no_trips : Tally
no_trips = record {
  written = 0;
  unknown_route = 0;
  unknown_service = 0;
  unknown_stop = 0;
  no_day = 0;
  doubled_sequence = 0;
  no_time_at_end = 0;
  falling_times = 0;
  past_end = 0;
  too_few_calls = 0;
}

-- how many of the trips are written, and how many are left out for each reason
unfoldable pub tally_of : List Fate → Tally
tally_of all = fold with_fate no_trips all

-- all counts together
abbrev pub total : Tally → ℕ
total tally =
    tally.written + tally.unknown_route + tally.unknown_service + tally.unknown_stop + tally.no_day + tally.doubled_sequence + tally.no_time_at_end
    + tally.falling_times + tally.past_end + tally.too_few_calls
