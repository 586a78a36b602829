-- The spelled lines of a timetable are its text.
use Rattle.std.proofs.Common.{◌≡◌, inl, inr, ◌+◌, true, List, [], ◌∷◌, ◌++◌, length, refl, sym, ◌∙◌, ap, subst, arith, map}
use Rattle.std.specs.List.{concat, flat_map, list_any}
use Rattle.ojp_values.specs.Limits.{IsWellPoint}
use Rattle.ojp_values.specs.Lists.{Among, Each}
use Rattle.ojp_values.specs.Texts.{Text, is_code, is_label, is_stop_ref, same}
use Rattle.ojp_values.specs.declared.trips.Neighbour.{Neighbour}
use Rattle.ojp_values.specs.declared.trips.Point.{Point}
use Rattle.ojp_values.proofs.ListFacts.{among_list_any, each_at}
use Rattle.ojp_zones.specs.Noons.{AreNoons}
use Rattle.ojp_zones.specs.declared.zone.Zone.{Zone}
use Rattle.ojp_timetable.specs.Checks.{is_stop_elsewhere}
use Rattle.ojp_timetable.specs.Contents.{Contents, timetable_of}
use Rattle.ojp_timetable.specs.Points.{IsPointOf}
use Rattle.ojp_timetable.specs.Runs.{HaveOwnLabels, IsWellCall}
use Rattle.ojp_timetable.specs.SaidLines.{say}
use Rattle.ojp_timetable.specs.TableText.{ArePassed, IsText, above_of, lines_of}
use Rattle.ojp_timetable.specs.Tables.{Journey, Place, Timetable}
use Rattle.ojp_timetable.specs.declared.calls.Call.{Call}
use Rattle.ojp_timetable.specs.declared.file.lines.Open.TheVariants.{Nothing}
use Rattle.ojp_timetable.specs.Said.{is_closed}
use Rattle.ojp_timetable.proofs.TextFacts.{is_same}
use Rattle.ojp_texts.specs.Spelled.{CanBeSpelled, HaveOwn, IsNamed, SpelledIsText, entries, journey_lines, lines_spelled, neighbour_lines, place_line, service_line, spelled}
use Rattle.ojp_texts.proofs.Fitting.{ends_below, read_below}
use Rattle.ojp_texts.proofs.JourneyRows.{IsSpelledCall, IsSpelledJourney, takes_journeys}
use Rattle.ojp_texts.proofs.PlaceRows.{IsSpelledPoint, declares, no_stranger, takes_neighbours, takes_places, takes_services}
use Rattle.ojp_texts.proofs.PointsGrow.{bare, points_after, points_are, shared_few}
use Rattle.ojp_texts.proofs.Spelling.{lines_back}
use Rattle.ojp_texts.proofs.Steps.{Takes, takes_more}

each_from : {X : Type 0} (P : X → Type 0) (xs : List X) → ((x : X) → Among x xs → P x) → Each P xs
each_from P [] f = tt
each_from P (x ∷ xs) f = (f x (inl refl), each_from P xs (λ y h. f y (inr h)))

labels_own : (journeys : List Journey) → HaveOwnLabels journeys → HaveOwn (λ (j : Journey). j.id) journeys
labels_own [] h = tt
labels_own (j ∷ js) h = (h.0, labels_own js h.1)

stands_at : (stop : Text) (place : Place) (places : List Place) → Among place places → place.stop ≡ stop → list_any (λ (p : Place). same stop p.stop) places ≡ true
stands_at stop place places h e = among_list_any (λ (p : Place). same stop p.stop) place places h (is_same stop place.stop (sym e))

points_known : (table : Timetable) (zone : Text) (is : Zone) → CanBeSpelled table zone is → Each (IsSpelledPoint table.region table.places) table.points
points_known table zone is can = each_from (IsSpelledPoint table.region table.places) table.points (λ point h.
    let at = can.well.placed point h in
    record {
      of = each_at (IsPointOf table.region) point table.points can.well.points.each h;
      bounded = each_at IsWellPoint point table.points can.well.points.bounded h;
      ref = ap is_stop_ref at.2.0 ∙ (each_at (IsNamed table.region) at.0 table.places can.places at.1).0;
      stands = stands_at point.stop at.0 table.places at.1 (sym at.2.0);
      codes_are = each_at (λ (p : Point). Each (λ (neighbour : Neighbour). is_code neighbour.code ≡ true) p.neighbours) point table.points can.neighbours h;
    })

call_known : (table : Timetable) (zone : Text) (is : Zone) → CanBeSpelled table zone is → (call : Call) → IsWellCall table call → IsSpelledCall table.region table.places call
call_known table zone is can call well =
    let named = each_at (IsNamed table.region) well.place table.places can.places well.is_place in
    record {
      ref = ap is_stop_ref (sym well.at) ∙ named.0;
      own = ap (is_stop_elsewhere table.region) (sym well.at) ∙ no_stranger table.region well.place named.2;
      stands = stands_at call.stop well.place table.places well.is_place well.at;
      arrives = well.arrives;
      departs = well.departs;
    }

journeys_known : (table : Timetable) (zone : Text) (is : Zone) → CanBeSpelled table zone is → Each (IsSpelledJourney table.region table.places table.services) table.journeys
journeys_known table zone is can = each_from (IsSpelledJourney table.region table.places table.services) table.journeys (λ journey h. record {
  labels = each_at (λ (j : Journey). (is_label j.id ≡ true) × (is_label j.line ≡ true)) journey table.journeys can.journeys h;
  service = can.well.services journey h;
  whole = can.well.shape journey h;
  times = can.well.times journey h;
  calls = each_from (IsSpelledCall table.region table.places) journey.calls (λ call k. call_known table zone is can call (can.well.calls journey h call k));
})

entries_taken : (table : Timetable) (zone : Text) (is : Zone) → CanBeSpelled table zone is
    → Takes zone (declares table.region is [] [] [] []) Nothing (entries table) (declares table.region is table.places table.points table.services table.journeys) Nothing
entries_taken table zone is can =
    let region = table.region in
    let are = points_are region table.places table.points can.own_stops can.well.points can.well.shared can.well.placed in
    let first = takes_places zone region is table.places [] table.places [] refl can.places can.own_stops can.well.changes can.well.few.places_few
    (omega (arith, shared_few region table.places table.points are can.well.points.few)) in
    let second = takes_neighbours zone region is table.places table.points [] table.points refl (points_known table zone is can) can.well.points.rising in
    let third = takes_services zone region is table.places table.points table.services [] table.services refl can.services can.own_services can.well.dates can.well.few.services_few in
    let fourth = takes_journeys zone region is table.places table.points table.services table.journeys [] table.journeys refl (journeys_known table zone is can)
    (labels_own table.journeys can.well.labels) can.services can.own_services can.well.few.journeys_few can.well.few.calls_few in
    let all_places = map place_line table.places in
    let all_neighbours = flat_map neighbour_lines table.points in
    let all_services = map service_line table.services in
    let none = declares region is [] [] [] [] in
    let with_places = declares region is table.places (map bare table.points) [] [] in
    let with_points = declares region is table.places table.points [] [] in
    let with_services = declares region is table.places table.points table.services [] in
    let whole = declares region is table.places table.points table.services table.journeys in
    takes_more zone none with_services whole Nothing Nothing Nothing (all_places ++ all_neighbours ++ all_services) (flat_map (journey_lines table.services) table.journeys)
    (takes_more zone none with_points with_services Nothing Nothing Nothing (all_places ++ all_neighbours) all_services
    (takes_more zone none with_places with_points Nothing Nothing Nothing all_places all_neighbours
    (subst (λ (ps : List Point). Takes zone none Nothing all_places (declares region is table.places ps [] []) Nothing) are first) second)
    third)
    fourth

-- a text whose lines are such is that of the timetable
text_of : (table : Timetable) (zone : Text) (is : Zone) → CanBeSpelled table zone is → (bytes : Text) (texts : List Text) → lines_of bytes ≡ texts → ArePassed texts (length texts + 1)
    → (above_of texts).contents ≡ declares table.region is table.places table.points table.services table.journeys → IsText bytes table
text_of table zone is can bytes texts e passed made =
    let declared = ap (λ (ts : List Text). (above_of ts).contents) e ∙ made in
    record {
      passed = subst (λ (ts : List Text). ArePassed ts (length ts + 1)) (sym e) passed;
      makes = ap (λ (contents : Contents). timetable_of contents table.noons) (sym declared);
      noons = subst (λ (contents : Contents). AreNoons contents.zone table.noons) (sym declared) can.noons;
      days = can.well.days;
    }

pub spelled_is_text : SpelledIsText
spelled_is_text table zone is can short =
    let taken = entries_taken table zone is can in
    let read = read_below zone table.region is (entries table) can.region can.word can.zone_is taken.fit (ap is_closed taken.leaves) short in
    let lines_are = lines_back (lines_spelled table zone is) (ends_below zone table.region is (entries table) can.region can.word taken.fit) in (
      text_of table zone is can (concat (lines_spelled table zone is)) (lines_spelled table zone is) lines_are read.passed (read.contents ∙ taken.makes),
      ap say lines_are ∙ read.says,
    )
