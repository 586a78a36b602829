-- What a region that is added does to what is seen of the links.
use Rattle.std.proofs.Common.{◌≡◌, ◌≢◌, ℕ, zero, suc, ◌<◌, ◌≤◌, ◌&&◌, true, false, Bool, List, [], ◌∷◌, ◌++◌, map, length, Option, Some, None, IfSome, Vec, Global, is_some, option_map, slice_get, unwrap_or, refl, sym, ◌∙◌, ap, subst, arith, true≢false}
use Rattle.std.proofs.lemmas.List.{length-map, map-append}
use Rattle.std.proofs.lemmas.Option.{none-some, slice_get_within}
use Rattle.slab.specs.Slab.{Slab, get}
use Rattle.ojp_values.specs.Lists.{Each, IsRising}
use Rattle.ojp_values.specs.Texts.{Text, text_lt}
use Rattle.ojp_timetable.specs.Tables.{Timetable}
use Rattle.ojp_timetable.specs.Runs.{IsWell}
use Rattle.ojp_timetable.proofs.AmongFacts.{each_push}
use Rattle.ojp_links.specs.Seen.{AreDistinct, Station, code_of_station, region_of_table}
use Rattle.ojp_links.specs.Calls.{Adds, IsNewCode, ServersGrow, without_rests}
use Rattle.ojp_links.proofs.MoreFacts.{distinct_more, length_more}
use Rattle.ojp_links_mem.specs.Regions.{count_at, fault_count, in_front, rejection_count, station_of, table_at, tables_of}
use Rattle.ojp_links_mem.specs.Memory.{IsNumberOf, links_of, said_in, told_tables}
use Rattle.ojp_links_mem.specs.Pending.{IsKept, IsServed, live_of}
use Rattle.ojp_links_mem.specs.Kept.{IsNumbered, IsToldOf, IsWhole, view_of}
use Rattle.ojp_links_mem.specs.declared.pending.Pending.{Pending}
use Rattle.ojp_links_mem.specs.declared.regions.Region.{Region}
use Rattle.ojp_links_mem.specs.declared.script.What.{What}
use Rattle.ojp_links_mem.specs.declared.memory.MemLinks.TheInside.{Inside}
use Rattle.ojp_links_mem.proofs.RegionFacts.{table_of}
use Rattle.ojp_links_mem.proofs.SoundFacts.{if_tables, le_from, of_tables, told_by}

-- ---- lists with one more

get_before : {X : Type 0} (xs : List X) (x y : X) (k : ℕ) → slice_get xs k ≡ Some y → slice_get (xs ++ x ∷ []) k ≡ Some y
get_before [] x y k e = absurd (none-some y e)
get_before (z ∷ xs) x y zero e = e
get_before (z ∷ xs) x y (suc k) e = get_before xs x y k e

count_last : (xs : List ℕ) (x : ℕ) → count_at (xs ++ x ∷ []) (length xs) ≡ x
count_last [] x = refl
count_last (y ∷ xs) x = count_last xs x

count_other : (xs : List ℕ) (x k : ℕ) → k ≢ length xs → count_at (xs ++ x ∷ []) k ≡ count_at xs k
count_other [] x zero ne = absurd (ne refl)
count_other [] x (suc k) ne = refl
count_other (y ∷ xs) x zero ne = refl
count_other (y ∷ xs) x (suc k) ne = count_other xs x k (λ e. ne (ap suc e))

tables_more : (tables : List Timetable) (regions : List Region) (region : Region) (table : Timetable) → table_at tables region.table ≡ Some table → tables_of tables (regions ++ region ∷ []) ≡ tables_of tables regions ++ table ∷ []
tables_more tables [] region table e = ap (λ (o : Option Timetable). in_front o []) e
tables_more tables (r ∷ regions) region table e =
    ap (in_front (table_at tables r.table)) (tables_more tables regions region table e) ∙ front_more (table_at tables r.table) (tables_of tables regions) table
  where
    front_more : (o : Option Timetable) (ts : List Timetable) (t : Timetable) → in_front o (ts ++ t ∷ []) ≡ in_front o ts ++ t ∷ []
    front_more None ts t = refl
    front_more (Some u) ts t = refl

-- ---- the links

-- what an added region does to what links keep
pub record IsAdded (m n : Inside) (region : Region) : Type 0 where
  pub tables_same : n.servers.items ≡ m.servers.items
  pub script_same : n.script.entries ≡ m.script.entries
  pub behind : n.regions.items ≡ m.regions.items ++ region ∷ []
  pub order_same : n.order ≡ m.order
  pub tells : n.tells_servers ≡ (m.tells_servers && is_some region.table)
  pub tells_no_order : n.tells_order ≡ false
  pub asks_same : n.asks ≡ m.asks
  pub most_same : n.most ≡ m.most
  pub patience_same : n.patience ≡ m.patience
  pub made_same : n.made ≡ m.made
  pub numbered : IsNumbered (length m.servers.items) region
  pub no_faults : region.faults ≡ 0
  pub no_rejections : region.rejections ≡ 0

-- the links with these regions, which tell their servers where this says so
abbrev pub with_regions : Inside → Vec Region Global → Bool → Inside
with_regions m regions tells = record m { regions = regions; tells_servers = tells; tells_order = false }

pub is_added : (m : Inside) (regions : Vec Region Global) (tells : Bool) (region : Region) → regions.items ≡ m.regions.items ++ region ∷ [] → tells ≡ (m.tells_servers && is_some region.table)
    → IsNumbered (length m.servers.items) region → region.faults ≡ 0 → region.rejections ≡ 0 → IsAdded m (with_regions m regions tells) region
is_added m regions tells region behind tells_is numbered no_faults no_rejections = record {
  tables_same = refl;
  script_same = refl;
  behind = behind;
  order_same = refl;
  tells = tells_is;
  tells_no_order = refl;
  asks_same = refl;
  most_same = refl;
  patience_same = refl;
  made_same = refl;
  numbered = numbered;
  no_faults = no_faults;
  no_rejections = no_rejections;
}

both_true : (a b : Bool) → (a && b) ≡ true → (a ≡ true) × (b ≡ true)
both_true true b e = (refl, e)
both_true false b e = absurd (true≢false (sym e))

told_both : (m n : Inside) (region : Region) → IsAdded m n region → n.tells_servers ≡ true → (m.tells_servers ≡ true) × (is_some region.table ≡ true)
told_both m n region added tells = both_true m.tells_servers (is_some region.table) (sym added.tells ∙ tells)

told_region : (m n : Inside) (region : Region) → IsAdded m n region → is_some region.table ≡ true → IsToldOf region
told_region m n region added some = record { has_table = some; sure = added.no_faults ∙ sym added.no_rejections }

-- the timetables with that of the region
tables_now : (m n : Inside) (region : Region) (table : Timetable) → IsAdded m n region → table_at m.servers.items region.table ≡ Some table → tables_of n.servers.items n.regions.items ≡ tables_of m.servers.items m.regions.items ++ table ∷ []
tables_now m n region table added e =
    ap (λ (ts : List Timetable). tables_of ts n.regions.items) added.tables_same
    ∙ (ap (tables_of m.servers.items) added.behind ∙ tables_more m.servers.items m.regions.items region table e)

grows : (m n : Inside) (region : Region) → IsAdded m n region → ServersGrow (told_by m) (told_by n)
grows m n region added =
    if_tables n.tells_servers n.servers.items n.regions.items (λ tables. (before : List Timetable) × (table : Timetable) × (told_by m ≡ Some before) × (tables ≡ before ++ table ∷ []))
    (λ tells.
    let both = told_both m n region added tells in
    let it = table_of m.servers.items region added.numbered (told_region m n region added both.1) in
    (tables_of m.servers.items m.regions.items, it.table, ap (λ (b : Bool). told_tables b m.servers.items m.regions.items) both.0, tables_now m n region it.table added it.at))

pub adds_at : (m n : Inside) (region : Region) (code host : Text) (port : ℕ) → IsAdded m n region → station_of region ≡ record { code = code; address = Some (record { host = host; port = port }) } → Adds (links_of (view_of m)) (links_of (view_of n)) code host port
adds_at m n region code host port added is =
    let here : length (map station_of m.regions.items) ≡ length m.regions.items = length-map m.regions.items station_of in
    record {
      stations = ap (map station_of) added.behind ∙ (map-append station_of m.regions.items (region ∷ []) ∙ ap (λ (s : Station). map station_of m.regions.items ++ s ∷ []) is);
      servers = grows m n region added;
      no_faults = at_last fault_count ∙ added.no_faults;
      no_rejections = at_last rejection_count ∙ added.no_rejections;
      faults = λ k ne. le_from _ _ (elsewhere fault_count k ne);
      rejections = λ k ne. elsewhere rejection_count k ne;
      made = added.made_same;
      live = λ key. ap (λ (asks : Slab Pending). option_map without_rests (option_map live_of (get asks key))) added.asks_same;
    }
  where
    counts : (f : Region → ℕ) → map f n.regions.items ≡ map f m.regions.items ++ f region ∷ []
    counts f = ap (map f) added.behind ∙ map-append f m.regions.items (region ∷ [])

    place : (f : Region → ℕ) → length (map station_of m.regions.items) ≡ length (map f m.regions.items)
    place f = length-map m.regions.items station_of ∙ sym (length-map m.regions.items f)

    at_last : (f : Region → ℕ) → count_at (map f n.regions.items) (length (map station_of m.regions.items)) ≡ f region
    at_last f = ap (λ (xs : List ℕ). count_at xs (length (map station_of m.regions.items))) (counts f) ∙ (ap (λ (k : ℕ). count_at (map f m.regions.items ++ f region ∷ []) k) (place f) ∙ count_last (map f m.regions.items) (f region))

    elsewhere : (f : Region → ℕ) (k : ℕ) → k ≢ length (map station_of m.regions.items) → count_at (map f n.regions.items) k ≡ count_at (map f m.regions.items) k
    elsewhere f k ne = ap (λ (xs : List ℕ). count_at xs k) (counts f) ∙ count_other (map f m.regions.items) (f region) k (λ e. ne (e ∙ sym (place f)))

served_more : (p : Pending) (tables : List Timetable) (table : Timetable) → IsServed p tables → IsServed p (tables ++ table ∷ [])
served_more p tables table s = record {
  steady = s.steady;
  some = s.some;
  serves = (s.serves.0, get_before tables table s.serves.0 p.region s.serves.1, s.serves.2);
}

kept_added : (m n : Inside) (region : Region) (p : Pending) → IsAdded m n region → IsKept (length m.regions.items) (told_by m) m.most m.patience p → IsKept (length n.regions.items) (told_by n) n.most n.patience p
kept_added m n region p added kept = record {
  of_region =
      let more : length n.regions.items ≡ suc (length m.regions.items) = ap (λ (rs : List Region). length rs) added.behind ∙ length_more m.regions.items region in
      omega (arith, more, kept.of_region);
  within = kept.within;
  at_end = kept.at_end;
  at_once = λ e. kept.at_once (sym added.most_same ∙ e);
  few = omega (arith, kept.few, added.patience_same);
  served = if_tables n.tells_servers n.servers.items n.regions.items (IsServed p) (λ tells.
      let both = told_both m n region added tells in
      let it = table_of m.servers.items region added.numbered (told_region m n region added both.1) in
      subst (λ (ts : List Timetable). IsServed p ts) (sym (tables_now m n region it.table added it.at)) (served_more p (tables_of m.servers.items m.regions.items) it.table (of_tables m.tells_servers m.servers.items m.regions.items (IsServed p) kept.served both.0)));
}

-- no region has the code
new_code : (codes : List Text) (code : Text) → ((k : ℕ) → k < length codes → unwrap_or (slice_get codes k) [] ≢ code) → (k : ℕ) (other : Text) → slice_get codes k ≡ Some other → other ≢ code
new_code codes code h k other e same = h k (slice_get_within codes k other e) (ap (λ (o : Option Text). unwrap_or o []) e ∙ same)

pub whole_added : (m n : Inside) (region : Region) → IsWhole m → IsAdded m n region → IsNewCode (links_of (view_of m)) region.code → IsWhole n
whole_added m n region whole added fresh =
    let stations : map station_of n.regions.items ≡ map station_of m.regions.items ++ station_of region ∷ [] = ap (map station_of) added.behind ∙ map-append station_of m.regions.items (region ∷ []) in
    let codes : map code_of_station (map station_of n.regions.items) ≡ map code_of_station (map station_of m.regions.items) ++ region.code ∷ [] = ap (map code_of_station) stations ∙ map-append code_of_station (map station_of m.regions.items) (station_of region ∷ []) in
    let apart = new_code (map code_of_station (map station_of m.regions.items)) region.code (λ k below. fresh k (subst (λ (c : ℕ). k < c) (length-map (map station_of m.regions.items) code_of_station) below)) in
    record {
      rising = subst (λ (ts : List Timetable). IsRising text_lt (map region_of_table ts)) (sym added.tables_same) whole.rising;
      well = subst (λ (ts : List Timetable). Each IsWell ts) (sym added.tables_same) whole.well;
      distinct = subst (λ (cs : List Text). AreDistinct cs) (sym codes) (distinct_more (map code_of_station (map station_of m.regions.items)) region.code whole.distinct apart);
      numbered = subst (λ (ts : List Timetable). Each (IsNumbered (length ts)) n.regions.items) (sym added.tables_same) (subst (λ (rs : List Region). Each (IsNumbered (length m.servers.items)) rs) (sym added.behind) (each_push (IsNumbered (length m.servers.items)) m.regions.items region whole.numbered added.numbered));
      told = λ tells.
          let both = told_both m n region added tells in
          subst (λ (rs : List Region). Each IsToldOf rs) (sym added.behind) (each_push IsToldOf m.regions.items region (whole.told both.0) (told_region m n region added both.1));
      unsaid = λ tells number. ap (λ (s : List (ℕ × What)). said_in s number) added.script_same ∙ whole.unsaid (told_both m n region added tells).0 number;
      low = subst (λ (k : ℕ). k ≤ 10) (sym added.order_same) whole.low;
      ordered = λ tells. absurd (true≢false (sym tells ∙ added.tells_no_order));
      kept = λ key p at. kept_added m n region p added (whole.kept key p (ap (λ (asks : Slab Pending). get asks key) (sym added.asks_same) ∙ at));
    }

-- the number of a timetable is one of theirs
pub number_fits : (tables : List Timetable) (code : Text) (number : Option ℕ) → IsNumberOf tables code number → IfSome number (λ k. k < length tables)
number_fits tables code None h = tt
number_fits tables code (Some k) h = slice_get_within tables k h.0 h.1
