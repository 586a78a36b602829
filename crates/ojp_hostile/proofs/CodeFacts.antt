-- Codes that differ, and one code more.
use Rattle.std.proofs.Common.{◌≡◌, ◌≢◌, ℕ, zero, suc, ◌<◌, false, List, [], ◌∷◌, ◌++◌, length, map, Some, slice_get, sym, ◌∙◌, ap, subst, inl, inr, arith}
use Rattle.std.specs.List.{list_any}
use Rattle.std.proofs.lemmas.List.{length-map, map-append}
use Rattle.std.proofs.lemmas.Option.{none-some, same_Some}
use Rattle.ojp_values.specs.Lists.{Among}
use Rattle.ojp_values.specs.Texts.{Text, same}
use Rattle.ojp_values.proofs.ListFacts.{none_list_any}
use Rattle.ojp_timetable.specs.Tables.{Timetable}
use Rattle.ojp_timetable.proofs.TextFacts.{is_same}
use Rattle.ojp_links.specs.Seen.{AreDistinct, View, code_at, code_of_station, codes_of, region_of_table}
use Rattle.ojp_links.specs.Calls.{IsNewCode}
use Rattle.ojp_links.proofs.MoreFacts.{code_among, distinct_more}
use Rattle.ojp_hostile.specs.Ready.{AreOfRegions}

among_of : {X : Type 0} (xs : List X) (k : ℕ) (x : X) → slice_get xs k ≡ Some x → Among x xs
among_of [] k x e = absurd (none-some x e)
among_of (y ∷ xs) zero x e = inl (sym (same_Some y x e))
among_of (y ∷ xs) (suc k) x e = inr (among_of xs k x e)

pub tables_more : (tables all : List Timetable) (table : Timetable) (codes more : List Text) (code : Text) → code ≡ table.region → AreOfRegions codes tables → list_any (λ (other : Text). same other code) codes ≡ false
    → all ≡ tables ++ table ∷ [] → more ≡ codes ++ code ∷ [] → AreOfRegions more all
tables_more tables all table codes more code own regions none by_table by_code = record {
  are = ap (map region_of_table) by_table ∙ (map-append region_of_table tables (table ∷ []) ∙ (ap (λ (cs : List Text). cs ++ table.region ∷ []) regions.are ∙ (ap (λ (c : Text). codes ++ c ∷ []) (sym own) ∙ sym by_code)));
  distinct = subst (λ (cs : List Text). AreDistinct cs) (sym by_code) (distinct_more codes code regions.distinct apart);
}
  where
    apart : (k : ℕ) (other : Text) → slice_get codes k ≡ Some other → other ≢ code
    apart k other at is = none_list_any (λ (o : Text). same o code) other codes none (among_of codes k other at) (is_same other code is)

pub new_code : (v : View) (codes : List Text) (code : Text) → codes_of v.fixed ≡ codes → list_any (λ (other : Text). same other code) codes ≡ false → IsNewCode v code
new_code v codes code are none r below e =
    let within : r < length (codes_of v.fixed) = omega (arith, below, length-map v.fixed.stations code_of_station) in
    let among : Among (code_at v r) codes = subst (λ (cs : List Text). Among (code_at v r) cs) are (code_among (codes_of v.fixed) r within) in
    none_list_any (λ (other : Text). same other code) (code_at v r) codes none among (is_same (code_at v r) code e)
