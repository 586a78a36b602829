-- What links tell of themselves stays where their terms and the regions' codes and timetables do.
use Rattle.std.proofs.Common.{◌≡◌, ℕ, ◌<◌, ◌≤◌, true, false, Bool, List, [], ◌∷◌, map, length, Option, Some, IfSome, refl, sym, ◌∙◌, ap, subst}
use Rattle.std.proofs.lemmas.List.{length-map}
use Rattle.ojp_values.specs.Lists.{Each, IsRising}
use Rattle.ojp_values.specs.Texts.{text_lt}
use Rattle.ojp_timetable.specs.Tables.{Timetable}
use Rattle.ojp_timetable.specs.Runs.{IsWell}
use Rattle.ojp_links.specs.Seen.{AreDistinct, Fixed, Station, code_of_station, region_of_table}
use Rattle.ojp_links_mem.specs.Regions.{number_of_table, station_of}
use Rattle.ojp_links_mem.specs.Memory.{SameTerms, fixed_of, said_in, told_order, told_tables}
use Rattle.ojp_links_mem.specs.Pending.{AreKept}
use Rattle.ojp_links_mem.specs.Kept.{IsNumbered, IsToldOf, IsWhole, view_of}
use Rattle.ojp_links_mem.specs.declared.regions.Region.{Region}
use Rattle.ojp_links_mem.specs.declared.script.What.{What}
use Rattle.ojp_links_mem.specs.declared.memory.MemLinks.TheInside.{Inside}
use Rattle.ojp_links_mem.proofs.RegionFacts.{same_tables}
use Rattle.ojp_links_mem.proofs.SoundFacts.{told_by}

-- the regions have the codes, addresses and timetables that they had
pub record SameRegions (m n : Inside) : Type 0 where
  pub stations : map station_of n.regions.items ≡ map station_of m.regions.items
  pub numbers : map number_of_table n.regions.items ≡ map number_of_table m.regions.items

told_alike : (tells : Bool) (tables others : List Timetable) (regions more : List Region) → others ≡ tables → map number_of_table more ≡ map number_of_table regions → told_tables tells others more ≡ told_tables tells tables regions
told_alike tells tables others regions more same numbers =
    ap (λ (ts : List Timetable). told_tables tells ts more) same ∙ by_case tells
  where
    by_case : (b : Bool) → told_tables b tables more ≡ told_tables b tables regions
    by_case true = ap Some (same_tables tables regions more numbers)
    by_case false = refl

pub same_told : (m n : Inside) → SameTerms (view_of m) (view_of n) → SameRegions m n → told_by n ≡ told_by m
same_told m n terms same =
    ap (λ (b : Bool). told_tables b n.servers.items n.regions.items) terms.servers_same
    ∙ told_alike m.tells_servers m.servers.items n.servers.items m.regions.items n.regions.items terms.tables_same same.numbers

abbrev fixed_with : List Station → Option (List Timetable) → Option ℕ → Bool → Fixed
fixed_with stations servers order sure = record { stations = stations; servers = servers; tells_replies = true; order = order; is_sure = sure }

pub same_fixed : (m n : Inside) → SameTerms (view_of m) (view_of n) → SameRegions m n → fixed_of (view_of n) ≡ fixed_of (view_of m)
same_fixed m n terms same =
    let order : told_order n.tells_order n.order ≡ told_order m.tells_order m.order = ap (λ (b : Bool). told_order b n.order) terms.tells_same ∙ ap (told_order m.tells_order) terms.order_same in
    ap (λ (s : List Station). fixed_with s (told_by n) (told_order n.tells_order n.order) n.tells_servers) same.stations
    ∙ (ap (λ (t : Option (List Timetable)). fixed_with (map station_of m.regions.items) t (told_order n.tells_order n.order) n.tells_servers) (same_told m n terms same)
    ∙ (ap (λ (o : Option ℕ). fixed_with (map station_of m.regions.items) (told_by m) o n.tells_servers) order
    ∙ ap (λ (b : Bool). fixed_with (map station_of m.regions.items) (told_by m) (told_order m.tells_order m.order) b) terms.servers_same))

pub same_length : (m n : Inside) → SameRegions m n → length n.regions.items ≡ length m.regions.items
same_length m n same = sym (length-map n.regions.items station_of) ∙ (ap (λ (s : List Station). length s) same.stations ∙ length-map m.regions.items station_of)

-- a number, where there is one, is one of so many
abbrev FitsBelow : ℕ → Option ℕ → Type 0
FitsBelow count o = IfSome o (λ number. number < count)

to_numbers : (count : ℕ) (rs : List Region) → Each (IsNumbered count) rs → Each (FitsBelow count) (map number_of_table rs)
to_numbers count [] h = tt
to_numbers count (r ∷ rs) h = (h.0, to_numbers count rs h.1)

from_numbers : (count : ℕ) (rs : List Region) → Each (FitsBelow count) (map number_of_table rs) → Each (IsNumbered count) rs
from_numbers count [] h = tt
from_numbers count (r ∷ rs) h = (h.0, from_numbers count rs h.1)

numbered_alike : (count : ℕ) (old new : List Region) → map number_of_table new ≡ map number_of_table old → Each (IsNumbered count) old → Each (IsNumbered count) new
numbered_alike count old new e all = from_numbers count new (subst (λ (ns : List (Option ℕ)). Each (FitsBelow count) ns) (sym e) (to_numbers count old all))

-- links that were whole are whole
pub whole_after : (m n : Inside) → IsWhole m → SameTerms (view_of m) (view_of n) → SameRegions m n → (m.tells_servers ≡ true → Each IsToldOf n.regions.items)
    → AreKept (length m.regions.items) (told_by m) m.most n.patience n.asks → IsWhole n
whole_after m n whole terms same told kept = record {
  rising = subst (λ (ts : List Timetable). IsRising text_lt (map region_of_table ts)) (sym terms.tables_same) whole.rising;
  well = subst (λ (ts : List Timetable). Each IsWell ts) (sym terms.tables_same) whole.well;
  distinct = subst (λ (ss : List Station). AreDistinct (map code_of_station ss)) (sym same.stations) whole.distinct;
  numbered = subst (λ (ts : List Timetable). Each (IsNumbered (length ts)) n.regions.items) (sym terms.tables_same) (numbered_alike (length m.servers.items) m.regions.items n.regions.items same.numbers whole.numbered);
  told = λ tells. told (sym terms.servers_same ∙ tells);
  unsaid = λ tells number. ap (λ (s : List (ℕ × What)). said_in s number) terms.script_same ∙ whole.unsaid (sym terms.servers_same ∙ tells) number;
  low = subst (λ (k : ℕ). k ≤ 10) (sym terms.order_same) whole.low;
  ordered = λ tells. let is = whole.ordered (sym terms.tells_same ∙ tells) in (terms.most_same ∙ is.0, terms.servers_same ∙ is.1);
  kept =
      subst (λ (k : ℕ). AreKept k (told_by n) n.most n.patience n.asks) (sym (same_length m n same))
      (subst (λ (t : Option (List Timetable)). AreKept (length m.regions.items) t n.most n.patience n.asks) (sym (same_told m n terms same))
      (subst (λ (k : ℕ). AreKept (length m.regions.items) (told_by m) k n.patience n.asks) (sym terms.most_same) kept));
}
