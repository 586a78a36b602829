-- The files of a network are texts of timetables.
use Rattle.std.specs.Prelude.{◌≡◌, ◌≢◌, ◌≤◌, ℕ, true, List, [], ◌∷◌, ◌++◌, codes, length, map}
use Rattle.ojp_timetable.specs.Tables.{Service, Timetable}
use Rattle.ojp_timetable.specs.TableText.{IsTextRefused, IsText}
use Rattle.ojp_timetable.specs.declared.file.lines.TableReason.{TableReason}
use Rattle.ojp_values.specs.Lists.{Each, IsRising, Pairwise}
use Rattle.ojp_values.specs.Texts.{Text, text_lt}
use Rattle.ojp_values.specs.declared.trips.Point.{Point}
use Rattle.ojp_timetable.specs.GatewayAnswers.{EndsAreKnown}
use Rattle.ojp_exchange.specs.Book.{points_of}
use Rattle.ojp_exchange.specs.Joins.{JoinFails as IsBookRefused}
use Rattle.ojp_exchange.specs.declared.refusals.BookRefused.{BookRefused}
use Rattle.ojp_exchange.specs.declared.refusals.BookRefused.TheVariants as book_refusals
use Rattle.ojp_links.specs.Seen.{region_of_table}
use Rattle.ojp_network.specs.declared.shapes.LoadAsk.{LoadAsk}
use Rattle.ojp_network.specs.Networks.{asks, files}
use Rattle.ojp_timetable.specs.Tables.{Place}
use Rattle.ojp_network.specs.Draws.{state_after}
use Rattle.ojp_network.specs.Regions.{file, higher_point, journeys, lower_point, own_places, region_code, shared_place, shared_point}

-- the one service: from 2024-01-01 to 2024-12-31, on each weekday
abbrev pub daily : Service
daily = record { id = codes "D"; first = 19_723; last = 20_088; marks = true ∷ true ∷ true ∷ true ∷ true ∷ true ∷ true ∷ [] }

-- the places and the exchange points of a region that is drawn from a state on
abbrev pub all_places : ℕ → ℕ → List Place
all_places z region =
    own_places z region ++ shared_place (state_after z 30) (lower_point region) ∷ shared_place (state_after z 32) (higher_point region) ∷ []

abbrev pub all_points : ℕ → ℕ → List Point
all_points z region =
    shared_point (state_after z 30) region (lower_point region) ∷ shared_point (state_after z 32) region (higher_point region) ∷ []

-- the timetable of the values that are drawn from a state on
abbrev pub drawn_table : ℕ → ℕ → List ℕ → Timetable
drawn_table z region noons = record {
  region = region_code region;
  places = all_places z region;
  points = all_points z region;
  services = daily ∷ [];
  journeys = journeys (state_after z 34) region;
  noons = noons;
}

-- the file of a region is the text of the timetable of its values, and of no other
pub record IsDrawnText (z region : ℕ) : Type 0 where
  pub accepted : (line : ℕ) (reason : TableReason) → IsTextRefused (file z region) line reason → ⊥
  pub table : (table : Timetable) → IsText (file z region) table → table ≡ drawn_table z region table.noons

abbrev pub FilesAreTexts : Type 0
FilesAreTexts = (z region : ℕ) → 1 ≤ region → region ≤ 12 → IsDrawnText z region

-- ---- the whole network

-- the timetables that the files are the texts of
abbrev pub AreTables : ℕ → List Timetable → Type 0
AreTables number tables = Pairwise IsText (files number) tables

-- no file of a network is refused
abbrev pub FilesAreAccepted : Type 0
FilesAreAccepted = (number : ℕ) → Each (λ (bytes : Text). (line : ℕ) (reason : TableReason) → IsTextRefused bytes line reason → ⊥) (files number)

-- the codes of the timetables rise
abbrev pub CodesRise : Type 0
CodesRise = (number : ℕ) (tables : List Timetable) → AreTables number tables → IsRising text_lt (map region_of_table tables)

-- the timetables make a book
abbrev pub BooksJoin : Type 0
BooksJoin =
    (number : ℕ) (tables : List Timetable) → AreTables number tables → (reason : BookRefused) → IsBookRefused (map points_of tables) reason
    → reason ≢ book_refusals.NoMemory → ⊥

-- each order is one, and each ask is for a trip between two different known stops
pub record IsGood (tables : List Timetable) (load : LoadAsk) : Type 0 where
  pub low : load.order ≤ 10
  pub ends : EndsAreKnown tables load.ask

abbrev pub AsksAreGood : Type 0
AsksAreGood = (number : ℕ) (tables : List Timetable) → AreTables number tables → Each (IsGood tables) (asks number) × (length (asks number) ≡ 200)
