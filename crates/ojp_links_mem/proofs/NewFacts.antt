-- Timetables whose codes differ, sorted by them: their codes rise.
use Rattle.std.proofs.Common.{◌≡◌, ℕ, zero, suc, ◌==◌, ◌≤◌, Bool, true, false, cond, List, [], ◌∷◌, map, length, Option, Some, None, slice_get, slice_index_or, option_map, refl, sym, ◌∙◌, ap, subst, inl, inr, arith, true≢false}
use Rattle.std.specs.List.{count_by}
use Rattle.std.specs.List.Sorted.{IsPermutation, IsSortedBy}
use Rattle.std.proofs.lemmas.Bool.{cases_Bool, cases_order, ne_eqb}
use Rattle.std.proofs.lemmas.Bool.Decides.{nat_tests}
use Rattle.std.proofs.lemmas.Option.{none-some}
use Rattle.slab.specs.Slab.{Slab, get}
use Rattle.std.proofs.lemmas.List.Sorted.{sum_by-IsPermutation}
use Rattle.ojp_values.specs.Lists.{Among, Each, IsRising}
use Rattle.ojp_values.specs.Texts.{Text, same, text_lt}
use Rattle.ojp_timetable.specs.Tables.{Timetable}
use Rattle.ojp_timetable.specs.Runs.{IsWell}
use Rattle.ojp_timetable.proofs.Orders.{IsOrder, not_before_itself, text_order}
use Rattle.ojp_timetable.proofs.TextFacts.{same_is}
use Rattle.ojp_exchange.proofs.RisingFacts.{rising_at}
use Rattle.ojp_exchange.proofs.SortFacts.{count_no, count_none, count_yes, rising_from, sorted_list}
use Rattle.ojp_links.specs.Seen.{AreDistinct, NoneLive, code_of_station, region_of_table}
use Rattle.ojp_links_mem.specs.Regions.{count_at, fault_count, region_at, regions_from, rejection_count, station_of, tables_of}
use Rattle.ojp_links_mem.specs.Scripts.{said_of}
use Rattle.ojp_links_mem.specs.Memory.{AreRising, IsFresh, IsNewOver, IsOver, IsScriptedOver, IsUnopenedOver, links_of, order_by, said_in, told_order, told_tables}
use Rattle.ojp_links_mem.specs.Pending.{AreKept, live_of}
use Rattle.ojp_links_mem.specs.Kept.{IsNumbered, IsToldOf, IsWhole, view_of}
use Rattle.ojp_links_mem.specs.declared.memory.MemLinks.TheInside.{Inside}
use Rattle.ojp_links_mem.specs.declared.pending.Pending.{Pending}
use Rattle.ojp_links_mem.specs.declared.regions.Region.{Region}
use Rattle.ojp_links_mem.specs.declared.script.Script.{Script}
use Rattle.ojp_links_mem.proofs.RegionFacts.{from_numbered, from_stations, from_tables, from_told}
use Rattle.ojp_links_mem.proofs.SoundFacts.{told_by}

-- by the codes of the regions
abbrev pub table_lt : Timetable → Timetable → Bool
table_lt x y = text_lt x.region y.region

abbrev pub table_same : Timetable → Timetable → Bool
table_same x y = same x.region y.region

pub table_order : IsOrder table_lt table_same
table_order = text_order (λ (t : Timetable). t.region)

-- the codes behind the first one differ from it, and from one another
distinct_rest : (t : Timetable) (ts : List Timetable) → AreDistinct (map region_of_table (t ∷ ts)) → AreDistinct (map region_of_table ts)
distinct_rest t ts h i j x a b = let e : suc i ≡ suc j = h (suc i) (suc j) x a b in omega (arith, e)

placed : (ts : List Timetable) (t : Timetable) → Among t ts → (k : ℕ) × (slice_get (map region_of_table ts) k ≡ Some t.region)
placed [] t a = absurd a
placed (u ∷ ts) t a = elim a [
  | inl e ↦ (zero, ap (λ (v : Timetable). Some v.region) (sym e))
  | inr b ↦ let it = placed ts t b in (suc it.0, it.1)
]

none_again : (t : Timetable) (ts : List Timetable) → AreDistinct (map region_of_table (t ∷ ts)) → (u : Timetable) → Among u ts → t.region ≡ u.region → ⊥
none_again t ts h u a e =
    let it = placed ts u a in
    let z : zero ≡ suc it.0 = h zero (suc it.0) t.region refl (it.1 ∙ ap Some (sym e)) in
    absurd (omega (arith, z))

few_same : (ts : List Timetable) (z : Timetable) → AreDistinct (map region_of_table ts) → count_by (table_same z) ts ≤ 1
few_same [] z h = omega arith
few_same (t ∷ ts) z h = elim (cases_Bool (table_same z t)) [
  | inl e ↦
      let none = count_none (table_same z) ts (λ u a. elim (cases_Bool (table_same z u)) [
        | inl s ↦ absurd (none_again t ts h u a (sym (same_is z.region t.region e) ∙ same_is z.region u.region s))
        | inr s ↦ s
      ]) in
      omega (arith, count_yes (table_same z) t ts e, none)
  | inr e ↦ omega (arith, count_no (table_same z) t ts e, few_same ts z (distinct_rest t ts h))
]

each_code : (t : Timetable) (ts : List Timetable) → Each (λ (u : Timetable). table_lt t u ≡ true) ts → Each (λ (code : Text). text_lt t.region code ≡ true) (map region_of_table ts)
each_code t [] h = tt
each_code t (u ∷ ts) h = (h.0, each_code t ts h.1)

rising_codes : (ts : List Timetable) → IsRising table_lt ts → IsRising text_lt (map region_of_table ts)
rising_codes [] h = tt
rising_codes (t ∷ ts) h = (each_code t ts h.0, rising_codes ts h.1)

pub codes_rise : (given sorted : List Timetable) → AreDistinct (map region_of_table given) → IsPermutation given sorted → IsSortedBy table_lt sorted → IsRising text_lt (map region_of_table sorted)
codes_rise given sorted distinct moved up =
    rising_codes sorted (rising_from table_lt table_same table_order sorted (sorted_list table_lt table_same table_order sorted up) (λ z.
    let few = few_same given z distinct in
    let e : count_by (table_same z) sorted ≡ count_by (table_same z) given = sum_by-IsPermutation (λ (t : Timetable). cond (table_same z t) 1 0) given sorted moved in
    omega (arith, few, e)))

-- codes that rise differ
pub rising_differ : (codes : List Text) → IsRising text_lt codes → AreDistinct codes
rising_differ codes h i j x a b = elim (cases_order i j) [
  | inl e ↦ e
  | inr way ↦ elim way [
    | inl below ↦ absurd (true≢false (sym (rising_at text_lt codes i j x x h a b below) ∙ not_before_itself x))
    | inr above ↦ absurd (true≢false (sym (rising_at text_lt codes j i x x h b a above) ∙ not_before_itself x))
  ]
]

-- ---- links that were just made

-- a slab with no slot has no value
pub none_in : (asks : Slab Pending) (key : ℕ) → asks.slots ≡ [] → get asks key ≡ None
none_in asks key e = ap (λ (slots : List (Option Pending)). slice_index_or slots key None) e

none_kept : (regions : ℕ) (told : Option (List Timetable)) (most patience : ℕ) (asks : Slab Pending) → asks.slots ≡ [] → AreKept regions told most patience asks
none_kept regions told most patience asks empty key p at = absurd (none-some p (sym (none_in asks key empty) ∙ at))

codes_from : (k : ℕ) (tables : List Timetable) → map code_of_station (map station_of (regions_from k tables)) ≡ map region_of_table tables
codes_from k [] = refl
codes_from k (t ∷ tables) = ap (λ (codes : List Text). t.region ∷ codes) (codes_from (suc k) tables)

zero_from : (f : Region → ℕ) → ((k : ℕ) (t : Timetable) → f (region_at k t) ≡ 0) → (k : ℕ) (tables : List Timetable) (at : ℕ) → count_at (map f (regions_from k tables)) at ≡ 0
zero_from f h k [] at = refl
zero_from f h k (t ∷ tables) zero = h k t
zero_from f h k (t ∷ tables) (suc at) = zero_from f h (suc k) tables at

-- the timetables stand in rising order, and each is well
pub record AreSorted (m : Inside) (tables : List Timetable) : Type 0 where
  pub tables_are : m.servers.items ≡ tables
  pub rising : IsRising text_lt (map region_of_table tables)
  pub well : Each IsWell m.servers.items
  pub low : m.order ≤ 10
  pub empty : m.asks.slots ≡ []

-- links whose regions are those of the timetables are whole
pub made_whole : (m : Inside) (tables : List Timetable) → AreSorted m tables → m.regions.items ≡ regions_from 0 m.servers.items → (m.tells_servers ≡ true → (number : ℕ) → said_in m.script.entries number ≡ None)
    → (m.tells_order ≡ true → (m.most ≡ 0) × (m.tells_servers ≡ true)) → IsWhole m
made_whole m tables sorted regions unsaid ordered =
    let rising : IsRising text_lt (map region_of_table m.servers.items) = subst (λ (ts : List Timetable). IsRising text_lt (map region_of_table ts)) (sym sorted.tables_are) sorted.rising in
    let codes : map code_of_station (map station_of m.regions.items) ≡ map region_of_table m.servers.items = ap (λ (rs : List Region). map code_of_station (map station_of rs)) regions ∙ codes_from 0 m.servers.items in
    record {
      rising = rising;
      well = sorted.well;
      distinct = subst (λ (cs : List Text). AreDistinct cs) (sym codes) (rising_differ (map region_of_table m.servers.items) rising);
      numbered = subst (λ (rs : List Region). Each (IsNumbered (length m.servers.items)) rs) (sym regions) (from_numbered 0 (length m.servers.items) m.servers.items (omega arith));
      told = λ _. subst (λ (rs : List Region). Each IsToldOf rs) (sym regions) (from_told 0 m.servers.items);
      unsaid = unsaid;
      low = sorted.low;
      ordered = ordered;
      kept = none_kept (length m.regions.items) (told_by m) m.most m.patience m.asks sorted.empty;
    }

-- links with no region are whole
pub bare_whole : (m : Inside) (tables : List Timetable) → AreSorted m tables → m.regions.items ≡ [] → (m.tells_servers ≡ true → (number : ℕ) → said_in m.script.entries number ≡ None) → m.tells_order ≡ false → IsWhole m
bare_whole m tables sorted regions unsaid ordered = record {
  rising = subst (λ (ts : List Timetable). IsRising text_lt (map region_of_table ts)) (sym sorted.tables_are) sorted.rising;
  well = sorted.well;
  distinct = subst (λ (rs : List Region). AreDistinct (map code_of_station (map station_of rs))) (sym regions) (λ i j x e. absurd (none-some x e));
  numbered = subst (λ (rs : List Region). Each (IsNumbered (length m.servers.items)) rs) (sym regions) tt;
  told = λ _. subst (λ (rs : List Region). Each IsToldOf rs) (sym regions) tt;
  unsaid = unsaid;
  low = sorted.low;
  ordered = λ tells. absurd (true≢false (sym tells ∙ ordered));
  kept = none_kept (length m.regions.items) (told_by m) m.most m.patience m.asks sorted.empty;
}

fresh_none : (m : Inside) → m.asks.slots ≡ [] → NoneLive (links_of (view_of m))
fresh_none m empty key = ap (option_map live_of) (none_in m.asks key empty)

fresh_of : (m : Inside) → m.regions.items ≡ regions_from 0 m.servers.items → m.asks.slots ≡ [] → m.made ≡ 0 → m.rested ≡ 0 → IsFresh (view_of m)
fresh_of m regions empty made rest = record {
  none_live = fresh_none m empty;
  none_made = made;
  no_rest = rest;
  no_faults = λ at. ap (λ (rs : List Region). count_at (map fault_count rs) at) regions ∙ zero_from fault_count (λ k t. refl) 0 m.servers.items at;
  no_rejections = λ at. ap (λ (rs : List Region). count_at (map rejection_count rs) at) regions ∙ zero_from rejection_count (λ k t. refl) 0 m.servers.items at;
}

pub made_over : (m : Inside) (given tables : List Timetable) → m.servers.items ≡ tables → AreRising given tables → m.regions.items ≡ regions_from 0 m.servers.items → m.asks.slots ≡ [] → m.made ≡ 0 → m.rested ≡ 0 → IsOver given m.order m.most (view_of m)
made_over m given tables same rising regions empty made rest = record {
  rising = subst (λ (ts : List Timetable). AreRising given ts) (sym same) rising;
  stations_are = ap (map station_of) regions ∙ from_stations 0 m.servers.items;
  order_is = refl;
  most_is = refl;
  fresh = fresh_of m regions empty made rest;
}

order_seen : (tells : Bool) (most order : ℕ) → tells ≡ (most == 0) → told_order tells order ≡ order_by most order
order_seen tells zero order e = ap (λ (b : Bool). told_order b order) e
order_seen tells (suc most) order e = ap (λ (b : Bool). told_order b order) (e ∙ ne_eqb (suc most) 0 (λ h. absurd (omega (arith, h))))

-- as `new` says
pub new_over : (m : Inside) (given : List Timetable) → IsOver given m.order m.most (view_of m) → m.regions.items ≡ regions_from 0 m.servers.items → m.tells_servers ≡ true → m.tells_order ≡ (m.most == 0) → ((number : ℕ) → said_in m.script.entries number ≡ None)
    → IsNewOver given m.order m.most (view_of m)
new_over m given over regions tells ordered unsaid = record {
  over = over;
  servers_are = ap (λ (b : Bool). told_tables b m.servers.items m.regions.items) tells ∙ ap Some (ap (tables_of m.servers.items) regions ∙ from_tables [] m.servers.items);
  tells = order_seen m.tells_order m.most m.order ordered;
  sure = tells;
  no_script = unsaid;
}

-- as `scripted` says
pub scripted_over : (m : Inside) (given : List Timetable) (says : List Script) → IsOver given m.order m.most (view_of m) → m.tells_servers ≡ false → m.tells_order ≡ false → ((number : ℕ) → said_in m.script.entries number ≡ said_of says number)
    → IsScriptedOver given m.order m.most says (view_of m)
scripted_over m given says over tells ordered said = record {
  over = over;
  no_servers = ap (λ (b : Bool). told_tables b m.servers.items m.regions.items) tells;
  no_order = ap (λ (b : Bool). told_order b m.order) ordered;
  script_is = said;
}

pub bare_fresh : (m : Inside) → m.regions.items ≡ [] → m.asks.slots ≡ [] → m.made ≡ 0 → m.rested ≡ 0 → IsFresh (view_of m)
bare_fresh m regions empty made rest = record {
  none_live = fresh_none m empty;
  none_made = made;
  no_rest = rest;
  no_faults = λ at. ap (λ (rs : List Region). count_at (map fault_count rs) at) regions;
  no_rejections = λ at. ap (λ (rs : List Region). count_at (map rejection_count rs) at) regions;
}

-- as `unopened` says
pub unopened_over : (m : Inside) (given tables : List Timetable) → m.servers.items ≡ tables → AreRising given tables → m.regions.items ≡ [] → m.asks.slots ≡ [] → m.made ≡ 0 → m.rested ≡ 0 → m.most ≡ 0 → m.tells_servers ≡ true → m.tells_order ≡ false
    → ((number : ℕ) → said_in m.script.entries number ≡ None) → IsUnopenedOver given m.order (view_of m)
unopened_over m given tables same rising regions empty made rest most tells ordered unsaid = record {
  rising = subst (λ (ts : List Timetable). AreRising given ts) (sym same) rising;
  no_stations = ap (map station_of) regions;
  no_servers = ap (λ (b : Bool). told_tables b m.servers.items m.regions.items) tells ∙ ap Some (ap (tables_of m.servers.items) regions);
  no_order = ap (λ (b : Bool). told_order b m.order) ordered;
  sure = tells;
  order_is = refl;
  all_bytes = most;
  no_script = unsaid;
  fresh = bare_fresh m regions empty made rest;
}

pub zero_most : (most : ℕ) → (most == 0) ≡ true → most ≡ 0
zero_most most e = grind (arith, nat_tests)
