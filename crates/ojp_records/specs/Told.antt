-- Which queries are open, how each is asked, and which records are told in turn.
use Rattle.std.specs.Prelude.{◌≡◌, false, List, [], ◌∷◌, ◌++◌, Option, Some, None}
use Rattle.ojp_values.specs.Lists.{Among, Each}
use Rattle.ojp_values.specs.declared.asks.TripAsk.{TripAsk}
use Rattle.ojp_values.specs.declared.asks.Ask.{Ask}
use Rattle.ojp_values.specs.declared.asks.Ask.TheVariants as asks
use Rattle.ojp_values.specs.declared.kinds.EventKind.TheVariants.{Departure}
use Rattle.ojp_values.specs.declared.replies.Delivery.{Delivery}
use Rattle.ojp_exchange.specs.Book.{Book}
use Rattle.ojp_links.specs.Fits.{Fits}
use Rattle.ojp_records.specs.declared.queries.Query.{Query}
use Rattle.ojp_records.specs.declared.queries.Query.TheVariants.{Check, Reach}
use Rattle.ojp_records.specs.declared.queries.Entry.{Entry}
use Rattle.ojp_records.specs.Records.{region_of, is_told}
use Rattle.ojp_records.specs.Pairs.{ends_towards}
use Rattle.ojp_records.specs.Wanted.{wanted}

-- the subrequest that asks the query: a check asks for one departure, a pair for trips to all its targets
abbrev pub document : Book → TripAsk → Query → Ask
document book ask (Check region stop) = asks.Events (record { stop = stop; start = ask.start; kind = Departure; number = 1 })
document book ask (Reach region stop start) = asks.Multi (record { origin = stop; start = start; targets = ends_towards book ask.target stop region })

-- the query is open: it was wanted at some time before, and nothing was told of it
pub record IsOpenQuery (book : Book) (ask : TripAsk) (told : List Entry) (query : Query) : Type 0 where
  pub before : List Entry
  pub since : List Entry
  pub split : before ++ since ≡ told
  pub was_wanted : Among query (wanted book ask before)
  pub untold : is_told told query ≡ false

-- each of the later entries was open before it was told
abbrev pub ToldInTurn : Book → TripAsk → List Entry → List Entry → Type 0
ToldInTurn book ask told [] = Unit {0}
ToldInTurn book ask told (entry ∷ later) = IsOpenQuery book ask told entry.query × ToldInTurn book ask (told ++ entry ∷ []) later

-- a reply fits the subrequest of the query, where there is one
abbrev pub ReplyFits : Book → TripAsk → Query → Option Delivery → Type 0
ReplyFits book ask query None = Unit {0}
ReplyFits book ask query (Some reply) = Fits (region_of query) (document book ask query) reply

-- the entry's reply fits, where it has one
abbrev pub EntryFits : Book → TripAsk → Entry → Type 0
EntryFits book ask entry = ReplyFits book ask entry.query entry.reply

-- a record: each query was open when it was told, and each reply fits
pub record IsRecord (book : Book) (ask : TripAsk) (told : List Entry) : Type 0 where
  pub in_turn : ToldInTurn book ask [] told
  pub fits : Each (EntryFits book ask) told
