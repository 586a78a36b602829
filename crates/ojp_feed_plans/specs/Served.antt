-- The stops that are served.
use Rattle.std.specs.Prelude.{◌≡◌, ℕ, ◌<◌, ◌==◌, Bool, false, List, length, slice_index_or}
use Rattle.std.specs.List.{filter, list_any, range_with_len}
use Rattle.ojp_feed_rows.specs.declared.feed.Feed.{Feed}
use Rattle.ojp_feed_trips.specs.declared.halts.Halt.{Halt}
use Rattle.ojp_feed_trips.specs.declared.weighing.Pattern.{Pattern}

-- one of the halts is at the place
abbrev pub halts_at : List Halt → ℕ → Bool
halts_at halts place = list_any (λ (halt : Halt). halt.place == place) halts

-- one of the patterns has a halt at the place
abbrev pub is_served : List Pattern → ℕ → Bool
is_served patterns place = list_any (λ (pattern : Pattern). halts_at pattern.halts.items place) patterns

-- the place is marked
abbrev pub is_marked : List Bool → ℕ → Bool
is_marked marks place = slice_index_or marks place false

-- of so many places those are marked that are served
pub record AreServed (patterns : List Pattern) (count : ℕ) (marks : List Bool) : Type 0 where
  pub long : length marks ≡ count
  pub each : (place : ℕ) → place < count → is_marked marks place ≡ is_served patterns place

-- the stops of the feed that are served, by number; they are places of the same numbers
unfoldable pub served_stops : Feed → List Pattern → List ℕ
served_stops feed patterns = filter (is_served patterns) (range_with_len 0 (length feed.stops.items))
