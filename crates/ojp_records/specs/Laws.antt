-- Laws of the definitions.
use Rattle.std.specs.Prelude.{◌≡◌, ◌≢◌, ◌↔◌, ℕ, ◌+◌, ◌<◌, ◌≤◌, List, [], ◌∷◌, ◌++◌, not, filter, Some, None, length}
use Rattle.ojp_values.specs.Lists.{Among, IsRising, least}
use Rattle.ojp_values.specs.Texts.{Text}
use Rattle.ojp_values.specs.declared.asks.TripAsk.{TripAsk}
use Rattle.ojp_values.specs.declared.trips.Leg.{Leg}
use Rattle.ojp_timetable.specs.Tables.{Timetable}
use Rattle.ojp_timetable.specs.Runs.{day_long}
use Rattle.ojp_timetable.specs.Journeys.{United}
use Rattle.ojp_exchange.specs.Book.{Book}
use Rattle.ojp_links.specs.Sure.{IsSure}
use Rattle.ojp_records.specs.declared.queries.Query.{Query}
use Rattle.ojp_records.specs.declared.queries.Query.TheVariants.{Reach}
use Rattle.ojp_records.specs.declared.queries.Entry.{Entry}
use Rattle.ojp_records.specs.Records.{region_of, same_query}
use Rattle.ojp_records.specs.Pairs.{Pair, ends_towards, AreInOrder}
use Rattle.ojp_records.specs.Starts.{known_starts, best}
use Rattle.ojp_records.specs.Wanted.{Improves, IsNext, next_of, reach_lt, wanted_pairs, PairWanted, wanted}
use Rattle.ojp_records.specs.Told.{document, IsOpenQuery, IsRecord}
use Rattle.ojp_records.specs.Ends.{fault}
use Rattle.ojp_records.specs.Headline.{AreTablesOf, AreGiven, EndMeans}
use Rattle.ojp_records.specs.Chains.{Chained}

-- where nothing is wanted any more, the end is right
abbrev pub EndIsRight : Type 0
EndIsRight =
    (tables : List Timetable) (book : Book) (ask : TripAsk) (told : List Entry)
    → AreTablesOf tables book → ask.origin ≢ ask.target
    → IsRecord book ask told → AreGiven tables book ask told
    → wanted book ask told ≡ []
    → EndMeans tables book ask told (fault book ask told)

-- as the record grows, the least known start of a pair only falls
abbrev pub StartsFall : Type 0
StartsFall =
    (book : Book) (ask : TripAsk) (told more : List Entry) (stop region : Text) (start : ℕ)
    → least (known_starts book ask told stop region) ≡ Some start
    → (now : ℕ) × (least (known_starts book ask (told ++ more) stop region) ≡ Some now) × (now ≤ start)

-- where a pair is wanted at one start and later at another one, the later one is less
abbrev pub AskedStartsFall : Type 0
AskedStartsFall =
    (book : Book) (ask : TripAsk) (told more : List Entry) (region stop : Text) (start later : ℕ)
    → Among (Reach region stop start) (wanted book ask told) → Among (Reach region stop later) (wanted book ask (told ++ more))
    → start ≢ later → later < start

-- no start is known before the asked one, whatever fitting replies were told
abbrev pub StartsAreLow : Type 0
StartsAreLow =
    (book : Book) (ask : TripAsk) (told : List Entry) (stop region : Text) (start : ℕ)
    → IsRecord book ask told → least (known_starts book ask told stop region) ≡ Some start → ask.start ≤ start

-- as the record grows, the best arrival only falls
abbrev pub BestFalls : Type 0
BestFalls =
    (book : Book) (ask : TripAsk) (told more : List Entry) (arrival : ℕ)
    → best book ask told ≡ Some arrival
    → (now : ℕ) × (best book ask (told ++ more) ≡ Some now) × (now ≤ arrival)

-- a query that was wanted and is wanted again was wanted all the time between: once it no longer is, it never is again
abbrev pub NeverAgain : Type 0
NeverAgain =
    (book : Book) (ask : TripAsk) (told more rest : List Entry) (query : Query)
    → Among query (wanted book ask told) → Among query (wanted book ask ((told ++ more) ++ rest)) → Among query (wanted book ask (told ++ more))

-- where the record has a best arrival, trips of it are chained that end then
abbrev pub BestIsChained : Type 0
BestIsChained =
    (book : Book) (ask : TripAsk) (told : List Entry) (a : ℕ)
    → IsRecord book ask told → best book ask told ≡ Some a
    → (legs : List Leg) × Chained book ask told legs a

-- legs that are chained are a united journey
abbrev pub ChainsAreJourneys : Type 0
ChainsAreJourneys =
    (tables : List Timetable) (book : Book) (ask : TripAsk) (told : List Entry) (legs : List Leg) (a : ℕ)
    → AreTablesOf tables book → ask.origin ≢ ask.target → AreGiven tables book ask told
    → Chained book ask told legs a
    → United tables ask.origin ask.start ask.target a legs

-- what is wanted of the pairs is listed once each, rising by stop and region, and nothing else is listed
abbrev pub PairsAreListed : Type 0
PairsAreListed =
    (book : Book) (ask : TripAsk) (told : List Entry) → AreInOrder book.spots
    → ((query : Query) → Among query (wanted_pairs book ask told) ↔ PairWanted book ask told query)
    × IsRising reach_lt (wanted_pairs book ask told)

-- the book of well timetables is in order
abbrev pub BooksAreInOrder : Type 0
BooksAreInOrder = (tables : List Timetable) (book : Book) → AreTablesOf tables book → AreInOrder book.spots

-- a wanted query is open
abbrev pub WantedIsOpen : Type 0
WantedIsOpen = (book : Book) (ask : TripAsk) (told : List Entry) (query : Query) → Among query (wanted book ask told) → IsOpenQuery book ask told query

-- where a wanted query fails, just it is wanted no more
abbrev pub FailureDropsOne : Type 0
FailureDropsOne =
    (book : Book) (ask : TripAsk) (told : List Entry) (query : Query)
    → ask.origin ≢ ask.target → Among query (wanted book ask told)
    → wanted book ask (told ++ record { query = query; reply = None } ∷ []) ≡ filter (λ (other : Query). not (same_query query other)) (wanted book ask told)

-- a pair that can improve has 1 to 256 targets, as many as a document may ask for
abbrev pub TargetsAreFew : Type 0
TargetsAreFew =
    (tables : List Timetable) (book : Book) (ask : TripAsk) (told : List Entry) (pair : Pair) (start : ℕ)
    → AreTablesOf tables book → Improves book ask told pair start
    → (1 ≤ length (ends_towards book ask.target pair.stop pair.region)) × (length (ends_towards book ask.target pair.stop pair.region) ≤ 256)

-- what is asked next is the first wanted query that is not live
abbrev pub NextIsFirst : Type 0
NextIsFirst = (queries live : List Query) → IsNext queries live (next_of queries live)

-- a start at which a pair is wanted is within the requested day, whatever fitting replies were told
abbrev pub WantedStartsAreWithin : Type 0
WantedStartsAreWithin =
    (book : Book) (ask : TripAsk) (told : List Entry) (region stop : Text) (start : ℕ)
    → IsRecord book ask told → Among (Reach region stop start) (wanted book ask told)
    → (ask.start ≤ start) × (start ≤ ask.start + day_long)

-- a region is sure of the subrequest of each open query: it has each place of a pair's, and no target is the pair's stop
abbrev pub OpenIsSure : Type 0
OpenIsSure =
    (tables : List Timetable) (book : Book) (ask : TripAsk) (told : List Entry) (query : Query) (table : Timetable)
    → AreTablesOf tables book → ask.origin ≢ ask.target → AreGiven tables book ask told → IsOpenQuery book ask told query
    → Among table tables → table.region ≡ region_of query
    → IsSure table (document book ask query)
