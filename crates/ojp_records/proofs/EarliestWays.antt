-- The search by earliest arrival as ways: a label is the moment from which one may leave, or at which one arrives.
use Rattle.std.proofs.Common.{◌≡◌, ◌≢◌, ℕ, ◌+◌, ◌≤◌, List, ◌∷◌, refl, arith}
use Rattle.ojp_values.specs.Lists.{Among}
use Rattle.ojp_values.specs.Texts.{Text}
use Rattle.ojp_values.specs.declared.trips.Leg.{Leg}
use Rattle.ojp_timetable.specs.Tables.{Timetable}
use Rattle.ojp_timetable.specs.Runs.{IsWell}
use Rattle.ojp_timetable.specs.Journeys.{Leads, IsCrossing}
use Rattle.ojp_timetable.proofs.RideFacts.{leads_forward, leads_earlier}
use Rattle.ojp_timetable.proofs.Parts.{Parts, LastPart, NextPart, parts_table, IsPart, part_leads}
use Rattle.ojp_ways.specs.Ways.{Ways, LeadsTo, LastRides, RidesThen, IsOrder}
use Rattle.ojp_records.specs.Pairs.{Pair}

-- rides of the region of both places, from the one stop, not before the moment, to the other
pub record RidesOf (tables : List Timetable) (p q : Pair) (from to : ℕ) (legs : List Leg) : Type 0 where
  pub table : Timetable
  pub of_tables : Among table tables
  pub here : table.region ≡ p.region
  pub there : table.region ≡ q.region
  pub elsewhere : p.stop ≢ q.stop
  pub leads : Leads table p.stop from legs q.stop to

-- at the stop of both places one may change from the region of the one to that of the other, in so many seconds
pub record ChangeAt (tables : List Timetable) (q p : Pair) (change : ℕ) : Type 0 where
  pub left : Timetable
  pub right : Timetable
  pub of_left : Among left tables
  pub of_right : Among right tables
  pub at : p.stop ≡ q.stop
  pub from : left.region ≡ q.region
  pub to : right.region ≡ p.region
  pub crossing : IsCrossing left q.stop right change

abbrev pub earliest : List Timetable → Text → ℕ → Ways
earliest tables origin start =
    record {
      Place = Pair;
      Label = ℕ;
      Starts = λ (p : Pair) (l : ℕ). (p.stop ≡ origin) × (l ≡ start);
      Rides = λ (p : Pair) (l : ℕ) (q : Pair) (m : ℕ). (legs : List Leg) × RidesOf tables p q l m legs;
      Change = λ (q : Pair) (m : ℕ) (p : Pair) (l : ℕ). (change : ℕ) × ChangeAt tables q p change × (l ≡ m + change);
    }

rides_of_part : (tables : List Timetable) (table : Timetable) (o : Text) (t m : ℕ) (d : Text) (a n : ℕ) → t ≤ m → (part : IsPart tables table o m d a n) → RidesOf tables (record { stop = o; region = table.region }) (record { stop = d; region = table.region }) t a (part.first ∷ part.rest)
rides_of_part tables table o t m d a n early part =
    record { table = table; of_tables = part.of_tables; here = refl; there = refl; elsewhere = part.elsewhere; leads = part_leads tables table o t m d a n early part }

-- earlier is as good
abbrev pub Earlier : ℕ → ℕ → Type 0
Earlier k l = k ≤ l

rides_forward : (tables : List Timetable) (p q : Pair) (l m : ℕ) (legs : List Leg) → ((table : Timetable) → Among table tables → IsWell table) → RidesOf tables p q l m legs → l ≤ m
rides_forward tables p q l m legs well it = (leads_forward it.table p.stop l legs q.stop m (well it.table it.of_tables) it.leads).0

rides_earlier : (tables : List Timetable) (p q : Pair) (k l m : ℕ) (legs : List Leg) → k ≤ l → RidesOf tables p q l m legs → RidesOf tables p q k m legs
rides_earlier tables p q k l m legs h it =
    record { table = it.table; of_tables = it.of_tables; here = it.here; there = it.there; elsewhere = it.elsewhere; leads = leads_earlier it.table p.stop k l legs q.stop m h it.leads }

pub earliest_order : (tables : List Timetable) (origin : Text) (start : ℕ) → ((table : Timetable) → Among table tables → IsWell table) → IsOrder (earliest tables origin start) Earlier
earliest_order tables origin start well =
    record {
      itself = λ l. omega arith;
      trans = λ l m n h i. omega (arith, h, i);
      rides_worsen = λ p l q m rides. rides_forward tables p q l m rides.0 well rides.1;
      change_worsens = λ q m p l change. let is : l ≡ m + change.0 = change.2 in omega arith;
      rides_as_well = λ k l p q m h rides. record { label = m; rides = (rides.0, rides_earlier tables p q k l m rides.0 h rides.1); as_good = omega arith };
      change_as_well = λ k m q p l h change. let is : l ≡ m + change.0 = change.2 in record { label = k + change.0; change = (change.0, change.1, refl); as_good = omega (arith, h) };
    }

-- parts in a row are a row of rides and changes, from each moment that is not after the first departure
pub by_earliest :
    (tables : List Timetable) (origin : Text) (start : ℕ) (d : Text) (a : ℕ) (table : Timetable) (o : Text) (t m n : ℕ)
    → t ≤ m → Parts tables d a table o m n
    → (region : Text) × LeadsTo (earliest tables origin start) (record { stop = d; region = region }) a (record { stop = o; region = table.region }) t
by_earliest tables origin start d a table o t m n early (LastPart part) =
    (table.region, LastRides (part.first ∷ part.rest, rides_of_part tables table o t m d a n early part))
by_earliest tables origin start d a table o t m n early (NextPart {n = n'} {right = right} {departs = departs} {k = k} stop arrived change part crossing passed more) =
    let rest : (region : Text) × LeadsTo (earliest tables origin start) (record { stop = d; region = region }) a (record { stop = stop; region = right.region }) (arrived + change) =
    by_earliest tables origin start d a right stop (arrived + change) departs k passed more in (
      rest.0,
      RidesThen {r = record { stop = stop; region = table.region }} {n = arrived}
          (part.first ∷ part.rest, rides_of_part tables table o t m stop arrived n' early part) (
            change,
            record {
              left = table;
              right = right;
              of_left = part.of_tables;
              of_right = parts_table tables d a right stop departs k more;
              at = refl;
              from = refl;
              to = refl;
              crossing = crossing;
            },
            refl,
          ) rest.1,
    )
