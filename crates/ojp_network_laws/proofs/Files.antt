-- The files of a network are the texts of the timetables of their values.
use Rattle.std.proofs.Common.{◌≡◌, inl, inr, ℕ, ◌+◌, ◌-◌, ◌≤◌, List, [], ◌∷◌, ◌++◌, length, map, refl, sym, ◌∙◌, ap, subst, arith}
use Rattle.std.specs.Prelude.{Some, None, pos}
use Rattle.std.specs.List.{flat_map}
use Rattle.ojp_values.specs.Lists.{Among}
use Rattle.ojp_values.specs.Numbers.{number}
use Rattle.ojp_values.specs.Texts.{Text}
use Rattle.ojp_zones.specs.Numbers.{is_pair}
use Rattle.ojp_zones.specs.Parts.{parts}
use Rattle.ojp_zones.specs.Zones.{offset_zone, zone_of}
use Rattle.ojp_zones.specs.declared.zone.Zone.{Zone}
use Rattle.ojp_timetable.specs.Contents.{Contents, timetable_of}
use Rattle.ojp_timetable.specs.Runs.{AreDays}
use Rattle.ojp_timetable.specs.Said.{is_closed}
use Rattle.ojp_timetable.specs.TableText.{ArePassed, IsTextRefused, above_of, lines_of}
use Rattle.ojp_timetable.specs.Tables.{Service}
use Rattle.ojp_timetable.specs.declared.file.above.TheConstants.{BYTES}
use Rattle.ojp_timetable.specs.declared.file.lines.Open.TheVariants.{Nothing}
use Rattle.ojp_timetable.specs.declared.file.lines.TableReason.{TableReason}
use Rattle.ojp_texts.specs.Spelled.{journey_lines, service_line, spelled}
use Rattle.ojp_texts.proofs.Fitting.{AreRead, ends_below, read_below}
use Rattle.ojp_texts.proofs.PlaceRows.{declares, takes_services}
use Rattle.ojp_texts.proofs.Spelling.{lines_back}
use Rattle.ojp_texts.proofs.Steps.{Takes, takes_more}
use Rattle.ojp_texts.proofs.Words.{IsWord}
use Rattle.ojp_network.specs.Draws.{state_after}
use Rattle.ojp_network.specs.Regions.{file, journeys, region_code}
use Rattle.ojp_network_laws.specs.Laws.{FilesAreTexts, all_places, all_points, daily}
use Rattle.ojp_network_laws.proofs.JourneyRows.{journeys_taken}
use Rattle.ojp_network_laws.proofs.Names.{region_is_code}
use Rattle.ojp_network_laws.proofs.PlaceRows.{place_rows, places_taken}
use Rattle.ojp_network_laws.proofs.Ring.{in_ring}
use Rattle.ojp_network_laws.proofs.Sizes.{file_size}
use Rattle.ojp_network_laws.proofs.Texts.{all_lines, entries, file_text, text_of, zone}

-- UTC
abbrev utc : Zone
utc = record { east = pos 0; summer = None }

zone_is : zone_of zone ≡ Some utc
unfolding zone_of offset_zone parts is_pair number
zone_is = refl

zone_word : IsWord zone
zone_word = refl

daily_days : AreDays 19_723 20_088 daily.marks
daily_days = (omega arith, omega arith, omega arith, refl)

service_days : (s : Service) → Among s (daily ∷ []) → AreDays s.first s.last s.marks
service_days s (inl e) = subst (λ (t : Service). AreDays t.first t.last t.marks) (sym e) daily_days
service_days s (inr h) = absurd h

abbrev table_contents : ℕ → ℕ → Contents
table_contents z region = declares (region_code region) utc (all_places z region) (all_points z region) (daily ∷ []) (journeys (state_after z 34) region)

taken : (z region : ℕ) → 1 ≤ region → region ≤ 12 → Takes zone (declares (region_code region) utc [] [] [] []) Nothing (entries z region) (table_contents z region) Nothing
taken z region low high =
    let code = region_code region in
    let none = declares code utc [] [] [] [] in
    let places = declares code utc (all_places z region) (all_points z region) [] [] in
    let services = declares code utc (all_places z region) (all_points z region) (daily ∷ []) [] in
    takes_more zone none services (table_contents z region) Nothing Nothing Nothing (place_rows z region ++ map service_line (daily ∷ [])) (flat_map (journey_lines (daily ∷ [])) (journeys (state_after z 34) region))
    (takes_more zone none places services Nothing Nothing Nothing (place_rows z region) (map service_line (daily ∷ [])) (places_taken zone utc z region (in_ring region low high) high)
    (takes_services zone code utc (all_places z region) (all_points z region) (daily ∷ []) [] (daily ∷ []) refl (refl, tt) (tt, tt) service_days (omega arith)))
    (journeys_taken zone utc z region)

short : (z region : ℕ) → length (text_of (all_lines utc z region)) ≤ BYTES
short z region = let same = ap (λ (t : Text). length t) (file_text utc z region) in omega (arith, file_size z region, same)

read : (z region : ℕ) → 1 ≤ region → region ≤ 12 → AreRead zone (all_lines utc z region)
read z region low high =
    let t = taken z region low high in
    read_below zone (region_code region) utc (entries z region) (region_is_code region) zone_word zone_is t.fit (ap is_closed t.leaves) (short z region)

lines_are : (z region : ℕ) → 1 ≤ region → region ≤ 12 → lines_of (file z region) ≡ map (spelled zone) (all_lines utc z region)
lines_are z region low high =
    ap lines_of (file_text utc z region)
    ∙ lines_back (map (spelled zone) (all_lines utc z region)) (ends_below zone (region_code region) utc (entries z region) (region_is_code region) zone_word (taken z region low high).fit)

accepted : (z region : ℕ) → 1 ≤ region → region ≤ 12 → (line : ℕ) (reason : TableReason) → IsTextRefused (file z region) line reason → ⊥
accepted z region low high line reason refused =
    let passed = subst (λ (ts : List Text). ArePassed ts (length ts + 1)) (sym (lines_are z region low high)) (read z region low high).passed in
    let none = passed.passed (line - 1) (omega (arith, refused.counted, refused.within)) in
    let clash : Some reason ≡ None = sym refused.here ∙ none in
    absurd (cc clash)

contents_are : (z region : ℕ) → 1 ≤ region → region ≤ 12 → (above_of (lines_of (file z region))).contents ≡ table_contents z region
contents_are z region low high =
    ap (λ (ts : List Text). (above_of ts).contents) (lines_are z region low high) ∙ ((read z region low high).contents ∙ (taken z region low high).makes)

pub files_are_texts : FilesAreTexts
files_are_texts z region low high = record {
  accepted = accepted z region low high;
  table = λ table text. text.makes ∙ ap (λ (c : Contents). timetable_of c table.noons) (contents_are z region low high);
}
