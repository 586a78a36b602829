-- One region with two exchange points and one ride between them: every premise of the law on ends holds, with a trip.
use Rattle.std.specs.Prelude.{◌≡◌, ◌≢◌, ℕ, true, List, [], ◌∷◌, Some, None, replicate, codes}
use Rattle.ojp_values.specs.Texts.{Text}
use Rattle.ojp_values.specs.declared.asks.TripAsk.{TripAsk}
use Rattle.ojp_values.specs.declared.trips.Leg.{Leg}
use Rattle.ojp_values.specs.declared.trips.Point.{Point}
use Rattle.ojp_values.specs.declared.trips.Trip.{Trip}
use Rattle.ojp_values.specs.declared.replies.TripResult.TheVariants as results
use Rattle.ojp_values.specs.declared.replies.MultiReply.TheVariants as multi_replies
use Rattle.ojp_values.specs.declared.replies.Delivery.TheVariants as deliveries
use Rattle.ojp_timetable.specs.Tables.{Timetable, Place, Service, Journey}
use Rattle.ojp_timetable.specs.declared.calls.Call.{Call}
use Rattle.ojp_exchange.specs.Book.{Book}
use Rattle.ojp_records.specs.declared.queries.Query.TheVariants.{Reach}
use Rattle.ojp_records.specs.declared.queries.Entry.{Entry}
use Rattle.ojp_records.specs.Wanted.{wanted}
use Rattle.ojp_records.specs.Told.{IsRecord}
use Rattle.ojp_records.specs.Ends.{fault}
use Rattle.ojp_records.specs.Examples.{code_aa, point_p, point_q}
use Rattle.ojp_records.specs.Headline.{AreTablesOf, AreGiven}

-- x:P and x:Q, which no other region shares
abbrev pub point_at : Text → Point
point_at stop = record { region = code_aa; stop = stop; change = 60; neighbours = [] }

abbrev pub place_at : Text → Place
place_at stop = record { stop = stop; change = 60; name = codes "P" }

-- each day of 2024
abbrev pub daily : Service
daily = record { id = codes "W"; first = 19723; last = 20088; marks = replicate 7 true }

-- J1 leaves x:P at 08:10 and reaches x:Q at 08:20
abbrev pub leaving : Call
leaving = record { stop = point_p; arrives = None; departs = Some 29400 }

abbrev pub arriving : Call
arriving = record { stop = point_q; arrives = Some 30000; departs = None }

abbrev pub one_journey : Journey
one_journey = record { id = codes "J1"; line = codes "L"; service = 0; calls = leaving ∷ arriving ∷ [] }

-- the timetable of the region, with these noons
abbrev pub one_table : List ℕ → Timetable
one_table noons =
    record {
      region = code_aa;
      places = place_at point_p ∷ place_at point_q ∷ [];
      points = point_at point_p ∷ point_at point_q ∷ [];
      services = daily ∷ [];
      journeys = one_journey ∷ [];
      noons = noons;
    }

-- its book
abbrev pub one_book : Book
one_book = record { codes = code_aa ∷ []; spots = record { stop = point_p; region = code_aa; change = 60 } ∷ record { stop = point_q; region = code_aa; change = 60 } ∷ []; links = [] }

-- from x:P at 08:10 on 2024-05-06 to x:Q
abbrev pub across : TripAsk
across = record { origin = point_p; start = 1714983000; target = point_q }

-- the ride of J1 on that day
abbrev pub ride : Leg
ride =
    record { region = code_aa; journey = codes "J1"; line = codes "L"; day = 19849; board = point_p; board_name = codes "P"; departs = 1714983000; alight = point_q; alight_name = codes "P"; arrives = 1714983600 }

-- the trip by it
abbrev pub trip : Trip
trip = record { duration = 600; start = 1714983000; end = 1714983600; transfers = 0; legs = ride ∷ [] }

-- the record of a search to which the region gave the trip
abbrev pub with_trip : List Entry
with_trip = record { query = Reach code_aa point_p 1714983000; reply = Some (deliveries.Multi (multi_replies.Results (results.Trip trip ∷ []))) } ∷ []

-- all premises of the law on ends
pub record PremisesHold (tables : List Timetable) (book : Book) (ask : TripAsk) (told : List Entry) : Type 0 where
  pub whole : AreTablesOf tables book
  pub differ : ask.origin ≢ ask.target
  pub told_well : IsRecord book ask told
  pub given : AreGiven tables book ask told
  pub settled : wanted book ask told ≡ []

-- with the noons of a zone without an offset they hold, and the search ends with a trip
abbrev pub PremisesAreMet : Type 0
PremisesAreMet = (noons : List ℕ) × PremisesHold (one_table noons ∷ []) one_book across with_trip × (fault one_book across with_trip ≡ None)
