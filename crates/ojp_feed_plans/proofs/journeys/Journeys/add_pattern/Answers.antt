use Rattle.std.proofs.Common.{◌≡◌, ℕ, ◌+◌, ◌*◌, ◌++◌, List, Option, Some, None, Vec, Global, length, map, sym, ◌∙◌, ap, subst, append-nil, arith}
use Rattle.std.proofs.lemmas.Result.{IfErr-weaker, on_ok_weaker}
use Rattle.std.specs.Prelude.{slice_get}
use Rattle.std.specs.String.{string_bytes}
use Rattle.ojp_values.specs.Texts.{Text}
use Rattle.ojp_calendars.specs.declared.day_box.DayBox.{DayBox}
use Rattle.ojp_feed_rows.specs.declared.trips.Trip.{Trip}
use Rattle.ojp_feed_trips.specs.Starts.{departures}
use Rattle.ojp_feed_plans.specs.Journeys.{IsOfPattern, IsOfTrip, Run, run_of, runs_at, runs_of_starts, runs_of_trip}
use Rattle.ojp_feed_plans.specs.Labels.{is_key, labels_of, labels_of_trip, repeats, stem_labels}
use Rattle.ojp_feed_plans.specs.Refusals.{IsPast}
use Rattle.ojp_feed_plans.proofs.AddingFacts.{adds_weaker}
use Rattle.ojp_feed_plans.proofs.journeys.Journeys.add_pattern.Goals as goal

pub returns-in_default-clause-all : goal.returns-in_default-clause-all
returns-in_default-clause-all c =
    let all = map (λ (v : Vec DayBox Global). v.items) c.args.boxes.now in
    let none : slice_get c.args.feed.now.trips.items c.args.pattern.now.trip ≡ None = sym c.in_default.ensures in
    let old = map run_of c.args.self.now.journeys.items in
    sym (ap (λ (t : Option Trip). old ++ runs_of_trip all c.args.number t) none ∙ append-nil old)

pub returns-in_default-clause-labels : goal.returns-in_default-clause-labels
returns-in_default-clause-labels c =
    let all = map (λ (v : Vec DayBox Global). v.items) c.args.boxes.now in
    let none : slice_get c.args.feed.now.trips.items c.args.pattern.now.trip ≡ None = sym c.in_default.ensures in
    let old = labels_of c.args.self.now.journeys.items in
    sym (ap (λ (t : Option Trip). old ++ labels_of_trip (is_key c.args.self.now.trips) all c.args.label t) none ∙ append-nil old)

pub returns-in_default-clause-calls : goal.returns-in_default-clause-calls
returns-in_default-clause-calls c =
    let all = map (λ (v : Vec DayBox Global). v.items) c.args.boxes.now in
    let none : slice_get c.args.feed.now.trips.items c.args.pattern.now.trip ≡ None = sym c.in_default.ensures in
    let times = ap (λ (t : Option Trip). length (runs_of_trip all c.args.number t) * length c.args.pattern.now.halts.items) none in
    omega (arith, times)

pub returns-clause-stem : goal.returns-clause-stem
returns-clause-stem c =
    let feed = c.args.feed.now in
    let pattern = c.args.pattern.now in
    let trip = c.in-Some.trip.now in
    let number = c.args.number in
    let all = map (λ (v : Vec DayBox Global). v.items) c.args.boxes.now in
    let days = c.boxes_of_trip-days.result.now in
    let at : slice_get feed.trips.items pattern.trip ≡ Some trip = sym c.in-Some.ensures in
    let old = c.args.self.now.journeys.items in
    let new = c.add_trip.new.self.journeys.items in
    on_ok_weaker c.add_trip.result
    (λ adds. adds_weaker (IsOfTrip trip number days) (IsOfPattern feed all number pattern) old new
    (λ j of. record { trip = trip; at = at; is = subst (λ (bs : List DayBox). IsOfTrip trip number bs j) c.boxes_of_trip-days.ensures of }) adds)
    c.add_trip.ensures.stem

pub returns-clause-all : goal.returns-clause-all
returns-clause-all c =
    let feed = c.args.feed.now in
    let pattern = c.args.pattern.now in
    let trip = c.in-Some.trip.now in
    let number = c.args.number in
    let all = map (λ (v : Vec DayBox Global). v.items) c.args.boxes.now in
    let days = c.boxes_of_trip-days.result.now in
    let at : slice_get feed.trips.items pattern.trip ≡ Some trip = sym c.in-Some.ensures in
    let runs : runs_of_starts number days (departures trip) ≡ runs_at feed all number pattern =
    ap (λ (bs : List DayBox). runs_of_starts number bs (departures trip)) c.boxes_of_trip-days.ensures ∙ sym (ap (runs_of_trip all number) at) in
    on_ok_weaker c.add_trip.result (λ made. made ∙ ap (λ (xs : List Run). map run_of c.args.self.now.journeys.items ++ xs) runs) c.add_trip.ensures.all

pub returns-clause-labels : goal.returns-clause-labels
returns-clause-labels c =
    let pattern = c.args.pattern.now in
    let trip = c.in-Some.trip.now in
    let all = map (λ (v : Vec DayBox Global). v.items) c.args.boxes.now in
    let taken = is_key c.args.self.now.trips in
    let label = c.args.label in
    let at : slice_get c.args.feed.now.trips.items pattern.trip ≡ Some trip = sym c.in-Some.ensures in
    let labels = ap (λ (bs : List DayBox). stem_labels taken (string_bytes trip.id) (repeats trip) (length bs) label (departures trip)) c.boxes_of_trip-days.ensures ∙ sym (ap (labels_of_trip taken all label) at) in
    on_ok_weaker c.add_trip.result (λ made. made ∙ ap (λ (xs : List Text). labels_of c.args.self.now.journeys.items ++ xs) labels) c.add_trip.ensures.labels

pub returns-clause-calls : goal.returns-clause-calls
returns-clause-calls c =
    let feed = c.args.feed.now in
    let pattern = c.args.pattern.now in
    let trip = c.in-Some.trip.now in
    let number = c.args.number in
    let all = map (λ (v : Vec DayBox Global). v.items) c.args.boxes.now in
    let days = c.boxes_of_trip-days.result.now in
    let at : slice_get feed.trips.items pattern.trip ≡ Some trip = sym c.in-Some.ensures in
    let runs : runs_of_starts number days (departures trip) ≡ runs_at feed all number pattern =
    ap (λ (bs : List DayBox). runs_of_starts number bs (departures trip)) c.boxes_of_trip-days.ensures ∙ sym (ap (runs_of_trip all number) at) in
    let calls : c.len.result ≡ length pattern.halts.items = omega (arith, c.len.ensures, pattern.halts.ok) in
    on_ok_weaker c.add_trip.result
    (λ made. made ∙ (ap (λ (xs : List Run). c.args.self.now.calls + length xs * c.len.result) runs ∙ ap (λ (n : ℕ). c.args.self.now.calls + length (runs_at feed all number pattern) * n) calls))
    c.add_trip.ensures.calls

pub returns-clause-past : goal.returns-clause-past
returns-clause-past c =
    let feed = c.args.feed.now in
    let pattern = c.args.pattern.now in
    let trip = c.in-Some.trip.now in
    let number = c.args.number in
    let all = map (λ (v : Vec DayBox Global). v.items) c.args.boxes.now in
    let days = c.boxes_of_trip-days.result.now in
    let at : slice_get feed.trips.items pattern.trip ≡ Some trip = sym c.in-Some.ensures in
    let runs : runs_of_starts number days (departures trip) ≡ runs_at feed all number pattern =
    ap (λ (bs : List DayBox). runs_of_starts number bs (departures trip)) c.boxes_of_trip-days.ensures ∙ sym (ap (runs_of_trip all number) at) in
    let calls : c.len.result ≡ length pattern.halts.items = omega (arith, c.len.ensures, pattern.halts.ok) in
    let old = length c.args.self.now.journeys.items in
    let before = c.args.self.now.calls in
    let many = length (runs_at feed all number pattern) in
    IfErr-weaker c.add_trip.result (IsPast (old + length (runs_of_starts number days (departures trip))) (before + length (runs_of_starts number days (departures trip)) * c.len.result))
    (IsPast (old + many) (before + many * length pattern.halts.items))
    (λ refused past. subst (λ (n : ℕ). IsPast (old + many) (before + many * n) refused) calls (subst (λ (xs : List Run). IsPast (old + length xs) (before + length xs * c.len.result) refused) runs past))
    c.add_trip.ensures.past
