-- One more region is added to links.
use Rattle.std.proofs.Common.{◌≡◌, ◌≢◌, ℕ, zero, suc, ◌+◌, ◌<◌, ◌≤◌, List, [], ◌∷◌, ◌++◌, length, map, take, Some, slice_get, get_or, refl, sym, ◌∙◌, ap, subst, inl, inr, arith, length-append}
use Rattle.std.proofs.Math.Seq.{take-suc}
use Rattle.std.proofs.lemmas.List.{length-map, map-append, take_all}
use Rattle.std.proofs.lemmas.Option.{none-some, same_Some, slice_get-get_or}
use Rattle.ojp_values.specs.Lists.{Among}
use Rattle.ojp_values.specs.Texts.{Text}
use Rattle.ojp_links.specs.Seen.{Station, View, code_in, code_of_station, codes_of}
use Rattle.ojp_links.specs.Calls.{Adds, IsNewCode}
use Rattle.ojp_links.proofs.MoreFacts.{code_among}
use Rattle.ojp_regions.specs.Lines.{codes_in}
use Rattle.ojp_regions.specs.RegionsText.{AreApart}
use Rattle.ojp_regions.specs.declared.line.RegionLine.{RegionLine}
use Rattle.ojp_gateway.proofs.HearFacts.{by_key}
use Rattle.ojp_online.specs.Added.{HasRejectedNone, HasStations, station_at, station_of}

-- a code that stands among the first ones is not that of a later one
among_code : (regions : List RegionLine) (i : ℕ) (x : RegionLine) → slice_get regions i ≡ Some x → Among x.code (codes_in regions)
among_code [] i x at = absurd (none-some x at)
among_code (r ∷ regions) zero x at = inl (ap (λ (r : RegionLine). r.code) (sym (same_Some r x at)))
among_code (r ∷ regions) (suc i) x at = inr (among_code regions i x at)

apart_before : (regions : List RegionLine) (i : ℕ) (x : RegionLine) → AreApart (codes_in regions) → slice_get regions i ≡ Some x → Among x.code (codes_in (take i regions)) → ⊥
apart_before [] i x apart at among = absurd (none-some x at)
apart_before (r ∷ regions) zero x apart at among = among
apart_before (r ∷ regions) (suc i) x apart at (inl e) = apart.0 (subst (λ (c : Text). Among c (codes_in regions)) e (among_code regions i x at))
apart_before (r ∷ regions) (suc i) x apart at (inr among) = apart_before regions i x apart.1 at among

-- the codes of the links
codes_added : (regions : List RegionLine) → map code_of_station (map station_of regions) ≡ codes_in regions
codes_added [] = refl
codes_added (r ∷ regions) = ap (λ (l : List Text). r.code ∷ l) (codes_added regions)

pub codes_of_added : (v : View) (regions : List RegionLine) → HasStations regions v → codes_of v.fixed ≡ codes_in regions
codes_of_added v regions has = ap (map code_of_station) has ∙ codes_added regions

pub new_code : (v : View) (regions : List RegionLine) (i : ℕ) (x : RegionLine) → HasStations (take i regions) v → AreApart (codes_in regions) → slice_get regions i ≡ Some x → IsNewCode v x.code
new_code v regions i x has apart at r below e =
    let codes : codes_of v.fixed ≡ codes_in (take i regions) = codes_of_added v (take i regions) has in
    let within : r < length (codes_of v.fixed) = omega (arith, below, length-map v.fixed.stations code_of_station) in
    let among : Among (code_in (codes_of v.fixed) r) (codes_of v.fixed) = code_among (codes_of v.fixed) r within in
    apart_before regions i x apart at (subst (Among x.code) codes (subst (λ (c : Text). Among c (codes_of v.fixed)) e among))

-- one region more
pub one_more : (old new : View) (regions : List RegionLine) (i : ℕ) (x : RegionLine) → HasStations (take i regions) old → Adds old new x.code x.host x.port → slice_get regions i ≡ Some x → i < length regions
    → HasStations (take (i + 1) regions) new
one_more old new regions i x has adds at below =
    let plus : i + 1 ≡ suc i = omega arith in
    let last : get_or regions i x ≡ x = same_Some (get_or regions i x) x (sym (slice_get-get_or regions i x below) ∙ at) in
    let taken : take (i + 1) regions ≡ take i regions ++ x ∷ [] = ap (λ (n : ℕ). take n regions) plus ∙ (take-suc regions i x below ∙ ap (λ (r : RegionLine). take i regions ++ r ∷ []) last) in
    adds.stations ∙ (ap (λ (l : List Station). l ++ station_of x ∷ []) has ∙ (sym (map-append station_of (take i regions) (x ∷ [])) ∙ ap (map station_of) (sym taken)))

pub none_rejected : (old new : View) (code host : Text) (port : ℕ) → HasRejectedNone old → Adds old new code host port → HasRejectedNone new
none_rejected old new code host port none adds region below =
    by (λ e. ap new.rejections e ∙ adds.no_rejections) (λ apart. adds.rejections region apart ∙ none region (earlier apart))
  where
    long : length new.fixed.stations ≡ length old.fixed.stations + 1
    long = ap length adds.stations ∙ length-append old.fixed.stations (station_at code host port ∷ [])

    earlier : region ≢ length old.fixed.stations → region < length old.fixed.stations
    earlier apart = omega (arith, below, long, apart)

    by : (region ≡ length old.fixed.stations → new.rejections region ≡ 0) → (region ≢ length old.fixed.stations → new.rejections region ≡ 0) → new.rejections region ≡ 0
    by here there = by_key (λ (r : ℕ). new.rejections r ≡ 0) (length old.fixed.stations) region here there

pub no_regions : (v : View) (regions : List RegionLine) → v.fixed.stations ≡ [] → HasStations (take 0 regions) v
no_regions v regions none = none

pub none_of_none : (v : View) → v.fixed.stations ≡ [] → HasRejectedNone v
none_of_none v none region below = absurd (omega (arith, below, ap length none))

pub all_regions : (v : View) (regions : List RegionLine) (i : ℕ) → length regions ≤ i → HasStations (take i regions) v → HasStations regions v
all_regions v regions i whole has = has ∙ ap (map station_of) (take_all i regions whole)
