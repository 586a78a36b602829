-- The exchange points that a text declares, told by what its lines say.
use Rattle.std.specs.Prelude.{◌≡◌, ◌↔◌, ℕ, true, IsTrue, List}
use Rattle.ojp_values.specs.Lists.{Among}
use Rattle.ojp_values.specs.Texts.{Text, is_exchange}
use Rattle.ojp_values.specs.declared.trips.Neighbour.{Neighbour}
use Rattle.ojp_values.specs.declared.trips.Point.{Point}
use Rattle.ojp_timetable.specs.Tables.{Timetable}
use Rattle.ojp_timetable.specs.Checks.{has_neighbour}
use Rattle.ojp_timetable.specs.SaidLines.{say}
use Rattle.ojp_timetable.specs.TableText.{IsText, above_of, lines_of}
use Rattle.ojp_timetable.specs.declared.file.lines.Line.{Line}
use Rattle.ojp_timetable.specs.declared.file.lines.Line.TheVariants as lines

-- one of the points has that reference and that change time
abbrev pub HasPoint : List Point → Text → ℕ → Type 0
HasPoint points stop change = (point : Point) × Among point points × (point.stop ≡ stop) × (point.change ≡ change)

-- one of the points has that reference and that neighbour
abbrev pub HasNeighbour : List Point → Text → Neighbour → Type 0
HasNeighbour points stop neighbour = (point : Point) × Among point points × (point.stop ≡ stop) × Among neighbour point.neighbours

-- the exchange points are the shared places that the lines declare, and their neighbours those that lines declare there
pub record ArePointsSaid (said : List Line) (points : List Point) : Type 0 where
  pub point : (stop : Text) (change : ℕ) → HasPoint points stop change
      ↔ ((name : Text) × (is_exchange stop ≡ true) × Among (lines.Place stop change name) said)
  pub neighbour : (stop : Text) (neighbour : Neighbour) → HasNeighbour points stop neighbour ↔ Among (lines.Neighbour stop neighbour) said

-- the exchange points of a timetable are those that the lines of its text declare
abbrev pub PointsAreAsSaid : Type 0
PointsAreAsSaid = (bytes : Text) (table : Timetable) → IsText bytes table → ArePointsSaid (say (lines_of bytes)) table.points

-- a neighbour stands above at an exchange point just where a line above declares it there
abbrev pub NeighboursAreAsSaid : Type 0
NeighboursAreAsSaid =
    (texts : List Text) (stop code : Text) → IsTrue (has_neighbour (above_of texts).contents stop code)
    ↔ ((change : ℕ) × Among (lines.Neighbour stop (record { code = code; change = change })) (say texts))
