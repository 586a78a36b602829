use Rattle.std.proofs.Common.{◌≡◌, ℕ, Option, Some, None, sym, ap, slice_get, refl}
use Rattle.std.specs.Prelude.{option_map}
use Rattle.std.proofs.lemmas.Option.{none-some, same_Some}
use Rattle.ojp_timetable.specs.Tables.{Timetable, Journey}
use Rattle.ojp_timetable.specs.Views.{view_of}
use Rattle.ojp_timetable.specs.declared.kept.JourneyView.{JourneyView}
use Rattle.ojp_scan.specs.Views.{IsJourneyAt}
use Rattle.ojp_scan.proofs.views.journey_at.Goals as goal

seen : (table : Timetable) (i : ℕ) (view : JourneyView) (o : Option Journey) → slice_get table.journeys i ≡ o → Some view ≡ option_map view_of o → IsJourneyAt table i view
seen table i view None at e = absurd (none-some view (sym e))
seen table i view (Some journey) at e =
    let same = same_Some view (view_of journey) e in
    record {
      journey = journey;
      at = at;
      id = ap (λ (v : JourneyView). v.id) same;
      line = ap (λ (v : JourneyView). v.line) same;
      service = ap (λ (v : JourneyView). v.service) same;
      calls = ap (λ (v : JourneyView). v.calls) same;
    }

pub returns : goal.returns
returns c = seen c.args.table.now c.args.i c.journey.result (slice_get c.args.table.now.journeys c.args.i) refl c.journey.ensures
