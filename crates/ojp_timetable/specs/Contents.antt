-- What the lines of a file declare.
use Rattle.std.specs.Prelude.{ℕ, Bool, pos, List, [], ◌∷◌, Option, None, find, position, length, if◌then◌else◌, insert, ◌++◌, unwrap_or, option_map}
use Rattle.std.specs.List.{list_any}
use Rattle.ojp_zones.specs.declared.zone.Zone.{Zone}
use Rattle.ojp_values.specs.Texts.{Text, same, text_lt}
use Rattle.ojp_values.specs.declared.trips.Point.{Point}
use Rattle.ojp_values.specs.declared.trips.Neighbour.{Neighbour}
use Rattle.ojp_timetable.specs.Tables.{Timetable, Place, Service, Journey, Call}
use Rattle.ojp_timetable.specs.Runs.{calls_of}

-- the points stand by rising reference, each with its neighbours by rising code; the others in the order of the file
pub record Contents : Type 0 where
  pub region : Text
  pub zone : Zone
  pub places : List Place
  pub points : List Point
  pub services : List Service
  pub journeys : List Journey

-- nothing is declared
abbrev pub no_contents : Contents
no_contents =
    record { region = []; zone = record { east = pos 0; summer = None }; places = []; points = []; services = []; journeys = [] }

-- the timetable of these contents, with the noons of its zone
abbrev pub timetable_of : Contents → List ℕ → Timetable
timetable_of contents noons =
    record {
      region = contents.region;
      places = contents.places;
      points = contents.points;
      services = contents.services;
      journeys = contents.journeys;
      noons = noons;
    }

-- the stop stands above, as an own stop or as an exchange point
unfoldable pub has_place : Contents → Text → Bool
has_place contents stop = list_any (λ place. same stop place.stop) contents.places

unfoldable pub has_service : Contents → Text → Bool
has_service contents id = list_any (λ service. same id service.id) contents.services

unfoldable pub has_journey : Contents → Text → Bool
has_journey contents id = list_any (λ journey. same id journey.id) contents.journeys

-- the number of the service of that label
unfoldable pub service_number : Contents → Text → Option ℕ
service_number contents id = position (λ service. same id service.id) contents.services

-- the exchange point of that reference
unfoldable pub point_at : Contents → Text → Option Point
point_at contents stop = find (λ (point : Point). same stop point.stop) contents.points

-- its neighbours
unfoldable pub neighbours_at : Contents → Text → List Neighbour
neighbours_at contents stop = unwrap_or (option_map (λ (point : Point). point.neighbours) (point_at contents stop)) []

-- how many calls all journeys have
unfoldable pub calls_in : Contents → ℕ
calls_in contents = calls_of contents.journeys

-- the point in its place, before the first of a greater reference, or at the end
abbrev pub with_point : List Point → Point → List Point
with_point points point = insert points (unwrap_or (position (λ (other : Point). text_lt point.stop other.stop) points) (length points)) point

-- the neighbour in its place, before the first of a greater code, or at the end
abbrev pub with_neighbour : List Neighbour → Neighbour → List Neighbour
with_neighbour neighbours neighbour =
    insert neighbours (unwrap_or (position (λ (other : Neighbour). text_lt neighbour.code other.code) neighbours) (length neighbours)) neighbour

abbrev pub point_with : Point → Neighbour → Point
point_with point neighbour = record point { neighbours = with_neighbour point.neighbours neighbour }

-- the first point of that reference with one more neighbour
abbrev pub points_with : List Point → Text → Neighbour → List Point
points_with [] stop neighbour = []
points_with (point ∷ points) stop neighbour =
    if same stop point.stop then point_with point neighbour ∷ points else point ∷ points_with points stop neighbour

-- the call behind those of the last journey
abbrev pub with_call : List Journey → Call → List Journey
with_call [] call = []
with_call (journey ∷ []) call = record journey { calls = journey.calls ++ call ∷ [] } ∷ []
with_call (journey ∷ next ∷ more) call = journey ∷ with_call (next ∷ more) call
