-- The subrequests that a search has live, and that they are just what it wants.
use Rattle.std.specs.Prelude.{◌≡◌, ◌↔◌, ℕ, List, [], ◌∷◌, map, Option, None}
use Rattle.ojp_values.specs.Lists.{Among}
use Rattle.ojp_values.specs.Texts.{Text}
use Rattle.ojp_values.specs.declared.asks.TripAsk.{TripAsk}
use Rattle.ojp_exchange.specs.Book.{Book}
use Rattle.ojp_links.specs.declared.expect.Expect.TheVariants as expects
use Rattle.ojp_links.specs.Seen.{View, Live, code_in, codes_of}
use Rattle.ojp_records.specs.declared.queries.Query.{Query}
use Rattle.ojp_records.specs.declared.queries.Entry.{Entry}
use Rattle.ojp_records.specs.Records.{region_of}
use Rattle.ojp_records.specs.Told.{document, IsOpenQuery}
use Rattle.ojp_records.specs.Wanted.{wanted}
use Rattle.ojp_subrequests.specs.Subrequests.{IsHeldAs}
use Rattle.ojp_turns.specs.declared.kept.Kept.{Kept}

-- the query of a subrequest
abbrev pub query_of : Kept → Query
query_of kept = kept.query

-- the key of its ask
abbrev pub key_of : Kept → ℕ
key_of kept = kept.sub.key

-- x stands nowhere in the list
abbrev pub NotAmong : {X : Type 0} → X → List X → Type 0
NotAmong x xs = Among x xs → ⊥

-- no element stands twice
abbrev pub AreApart : {X : Type 0} → List X → Type 0
AreApart [] = Unit {0}
AreApart (x ∷ xs) = NotAmong x xs × AreApart xs

-- the subrequest's ask is this one, it is of its query's region, and asks its query's document
pub record IsFor (book : Book) (ask : TripAsk) (codes : List Text) (live : Option Live) (kept : Kept) : Type 0 where
  pub of_region : code_in codes kept.sub.region ≡ region_of kept.query
  pub asks : kept.sub.expect ≡ expects.Region (region_of kept.query) (document book ask kept.query)
  pub held_as : IsHeldAs kept.sub codes live

-- the same, among the asks that are live
abbrev pub IsForIn : Book → TripAsk → List Text → (ℕ → Option Live) → Kept → Type 0
IsForIn book ask codes live kept = IsFor book ask codes (live (key_of kept)) kept

-- the live asks are those of the subrequests, each once
pub record AreLive (book : Book) (ask : TripAsk) (subs : List Kept) (codes : List Text) (live : ℕ → Option Live) : Type 0 where
  pub each : (kept : Kept) → Among kept subs → IsForIn book ask codes live kept
  pub apart : AreApart (map key_of subs)
  pub only : (key : ℕ) → NotAmong key (map key_of subs) → live key ≡ None

-- just the asks of the subrequests are live, each once, whatever they ask
pub record AreHeld (subs : List Kept) (v : View) : Type 0 where
  pub each : (kept : Kept) → Among kept subs → IsHeldAs kept.sub (codes_of v.fixed) (v.live (key_of kept))
  pub apart : AreApart (map key_of subs)
  pub only : (key : ℕ) → NotAmong key (map key_of subs) → v.live key ≡ None

-- the queries of the subrequests are open, each once
pub record AreOpen (book : Book) (ask : TripAsk) (told : List Entry) (subs : List Kept) : Type 0 where
  pub once : AreApart (map query_of subs)
  pub each : (kept : Kept) → Among kept subs → IsOpenQuery book ask told kept.query

-- the subrequests are just what is live, and their queries are open
pub record Stands (book : Book) (ask : TripAsk) (told : List Entry) (subs : List Kept) (codes : List Text) (live : ℕ → Option Live) : Type 0 where
  pub are_live : AreLive book ask subs codes live
  pub are_open : AreOpen book ask told subs

-- the same, over links
abbrev pub StandsIn : Book → TripAsk → List Entry → List Kept → View → Type 0
StandsIn book ask told subs v = Stands book ask told subs (codes_of v.fixed) v.live

-- the queries of the subrequests are just those that are wanted, each once
pub record AreWanted (book : Book) (ask : TripAsk) (told : List Entry) (subs : List Kept) : Type 0 where
  pub just_these : (query : Query) → Among query (map query_of subs) ↔ Among query (wanted book ask told)
  pub once : AreApart (map query_of subs)

-- the book's regions are the links' codes
abbrev pub HasRegions : Book → View → Type 0
HasRegions book v = (code : Text) → Among code book.codes ↔ Among code (codes_of v.fixed)
