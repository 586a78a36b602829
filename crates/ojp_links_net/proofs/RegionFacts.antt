-- What regions keep, and what is seen of them.
use Rattle.std.proofs.Common.{◌≡◌, ◌≢◌, ℕ, suc, ◌<◌, ◌≤◌, List, [], ◌∷◌, ◌++◌, map, length, Option, Some, Result, Ok, Err, OnOk, OnErr, option_map, slice_get, unwrap_or, sym, ◌∙◌, ap, subst, arith}
use Rattle.std.proofs.lemmas.List.{length-map, map-append}
use Rattle.std.proofs.lemmas.Option.{slice_get-map, slice_get_within}
use Rattle.ojp_values.specs.Texts.{Text}
use Rattle.ojp_links.specs.Seen.{AreDistinct, Station, code_in, code_of_station}
use Rattle.ojp_links.proofs.MoreFacts.{distinct_more, length_more}
use Rattle.ojp_links_net.specs.Regions.{AddsRegion, IsNewAmong, RegionsView, station_of}
use Rattle.ojp_links_net.specs.Kept.{AreCounted, regions_of}
use Rattle.ojp_links_net.specs.declared.regions.Endpoint.{Endpoint}
use Rattle.ojp_links_net.specs.declared.regions.Regions.TheInside.{Inside}

-- a region that there is
pub place_below : (r : Inside) (v : RegionsView) (at : ℕ) → regions_of r ≡ v → at < length v.stations → at < length r.places.items
place_below r v at e below =
    let here : at < length (map station_of r.places.items) = subst (λ (w : RegionsView). at < length w.stations) (sym e) below in
    subst (λ (n : ℕ). at < n) (length-map r.places.items station_of) here

-- its code
pub code_seen : (r : Inside) (v : RegionsView) (at : ℕ) (place : Endpoint) → regions_of r ≡ v → slice_get r.places.items at ≡ Some place → place.code ≡ code_in (map code_of_station v.stations) at
code_seen r v at place e is =
    let stations : slice_get (map station_of r.places.items) at ≡ Some (station_of place) = slice_get-map station_of r.places.items at ∙ ap (option_map station_of) is in
    let codes : slice_get (map code_of_station (map station_of r.places.items)) at ≡ Some place.code = slice_get-map code_of_station (map station_of r.places.items) at ∙ ap (option_map code_of_station) stations in
    sym (ap (λ (o : Option Text). unwrap_or o []) codes) ∙ ap (λ (w : RegionsView). code_in (map code_of_station w.stations) at) e

-- ---- one more region

-- a code that no region has is not among the codes
apart_from : (stations : List Station) (name : Text) → IsNewAmong stations name → (k : ℕ) (other : Text) → slice_get (map code_of_station stations) k ≡ Some other → other ≢ name
apart_from stations name fresh k other at e =
    let within : k < length (map code_of_station stations) = slice_get_within (map code_of_station stations) k other at in
    let below : k < length stations = subst (λ (n : ℕ). k < n) (length-map stations code_of_station) within in
    fresh k below (ap (λ (o : Option Text). unwrap_or o []) at ∙ e)

codes_more : (places : List Endpoint) (place : Endpoint) → map code_of_station (map station_of (places ++ place ∷ [])) ≡ map code_of_station (map station_of places) ++ place.code ∷ []
codes_more places place =
    ap (map code_of_station) (map-append station_of places (place ∷ [])) ∙ map-append code_of_station (map station_of places) (station_of place ∷ [])

more_each : {X Y : Type 0} (xs now : List X) (x : X) (ys then : List Y) (y : Y) → now ≡ xs ++ x ∷ [] → then ≡ ys ++ y ∷ [] → length xs ≡ length ys → length now ≡ length then
more_each xs now x ys then y a b e = ap length a ∙ (length_more xs x ∙ (ap suc e ∙ (sym (length_more ys y) ∙ sym (ap length b))))

pub counted_more : (r n : Inside) (place : Endpoint) (fault rejection : ℕ) → AreCounted r → n.places.items ≡ r.places.items ++ place ∷ [] → n.faults.items ≡ r.faults.items ++ fault ∷ []
    → n.rejections.items ≡ r.rejections.items ++ rejection ∷ [] → IsNewAmong (map station_of r.places.items) place.code → AreCounted n
counted_more r n place fault rejection counted places faults rejections fresh = record {
  faults_each = more_each r.faults.items n.faults.items fault r.places.items n.places.items place faults places counted.faults_each;
  rejections_each = more_each r.rejections.items n.rejections.items rejection r.places.items n.places.items place rejections places counted.rejections_each;
  distinct =
      let codes = ap (λ (ps : List Endpoint). map code_of_station (map station_of ps)) places ∙ codes_more r.places.items place in
      subst (λ (cs : List Text). AreDistinct cs) (sym codes)
      (distinct_more (map code_of_station (map station_of r.places.items)) place.code counted.distinct (apart_from (map station_of r.places.items) place.code fresh));
}

-- regions are added, and none goes
pub no_fewer : {T E : Type 0} (result : Result T E) (old new : RegionsView) (name at : Text) (door : ℕ) → OnOk result (AddsRegion old new name at door) → OnErr result (new ≡ old) → length old.stations ≤ length new.stations
no_fewer (Ok done) old new name at door adds same = omega (arith, ap length adds.behind, length_more old.stations (record { code = name; address = Some (record { host = at; port = door }) }))
no_fewer (Err refused) old new name at door adds same = omega (arith, ap (λ (v : RegionsView). length v.stations) same)
