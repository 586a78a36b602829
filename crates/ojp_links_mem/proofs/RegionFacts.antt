-- Regions after a change of one, and the timetables of regions.
use Rattle.std.proofs.Common.{◌≡◌, ◌≢◌, ℕ, zero, suc, ◌+◌, ◌^◌, ◌<◌, ◌≤◌, true, List, [], ◌∷◌, ◌++◌, map, length, Option, Some, None, IfSome, is_some, option_map, set, slice_get, refl, sym, ◌∙◌, ap, subst, inl, inr, arith, true≢false}
use Rattle.std.proofs.lemmas.Bool.{cases_eq}
use Rattle.std.proofs.lemmas.List.{length-map}
use Rattle.std.proofs.lemmas.Option.{get_or_from_slice_get, none-some, same_Some, slice_get-map}
use Rattle.ojp_outside.specs.Causes.{Rose, next_count}
use Rattle.ojp_values.proofs.EachFacts.{each_read}
use Rattle.ojp_values.specs.Lists.{Among, Each}
use Rattle.ojp_timetable.specs.Tables.{Timetable}
use Rattle.ojp_timetable.specs.Runs.{IsWell}
use Rattle.ojp_links.specs.Seen.{Station}
use Rattle.ojp_links.proofs.MoreFacts.{length_more}
use Rattle.ojp_links_mem.specs.Regions.{ChangesAt, DoesNotFall, count_at, fault_count, in_front, number_of_table, region_at, regions_from, station_of, table_at, tables_of}
use Rattle.ojp_links_mem.specs.Memory.{own_station}
use Rattle.ojp_links_mem.specs.Kept.{IsNumbered, IsToldOf}
use Rattle.ojp_links_mem.specs.declared.regions.Region.{Region}

module _ {Y : Type 0} where
  same_cons : (x y : Y) (xs ys : List Y) → x ≡ y → xs ≡ ys → x ∷ xs ≡ y ∷ ys
  same_cons x y xs ys e f = ap (λ (z : Y). z ∷ xs) e ∙ ap (λ (zs : List Y). y ∷ zs) f

-- lists that give the same at each place are the same
pub same_places : {X Y : Type 0} (f : X → Y) (xs ys : List X) → ((k : ℕ) → option_map f (slice_get ys k) ≡ option_map f (slice_get xs k)) → map f ys ≡ map f xs
same_places f [] [] h = refl
same_places f [] (y ∷ ys) h = absurd (none-some (f y) (sym (h zero)))
same_places f (x ∷ xs) [] h = absurd (none-some (f x) (h zero))
same_places f (x ∷ xs) (y ∷ ys) h = same_cons (f y) (f x) (map f ys) (map f xs) (same_Some (f y) (f x) (h zero)) (same_places f xs ys (λ k. h (suc k)))

through : {Y : Type 0} (f : Region → Y) (change : Region → Region) → ((r : Region) → f (change r) ≡ f r) → (o : Option Region) → option_map f (option_map change o) ≡ option_map f o
through f change h None = refl
through f change h (Some r) = ap Some (h r)

-- what the change leaves alone stays
pub changed_map : {Y : Type 0} (f : Region → Y) (change : Region → Region) (old new : List Region) (at : ℕ) → ChangesAt change old new at → ((r : Region) → f (change r) ≡ f r) → map f new ≡ map f old
changed_map f change old new at c h = same_places f old new (λ k. elim (cases_eq k at) [
  | inl e ↦
      let here : option_map f (slice_get new at) ≡ option_map f (slice_get old at) = ap (option_map f) c.here ∙ through f change h (slice_get old at) in
      subst (λ (n : ℕ). option_map f (slice_get new n) ≡ option_map f (slice_get old n)) (sym e) here
  | inr ne ↦ ap (option_map f) (c.others k ne)
])

pub changed_length : (change : Region → Region) (old new : List Region) (at : ℕ) → ChangesAt change old new at → ((r : Region) → station_of (change r) ≡ station_of r) → length new ≡ length old
changed_length change old new at c h = sym (length-map new station_of) ∙ (ap (λ (xs : List Station). length xs) (changed_map station_of change old new at c h) ∙ length-map old station_of)

-- a region that was changed
record WasChanged (change : Region → Region) (o : Option Region) (r : Region) : Type 0 where
  before : Region
  at : o ≡ Some before
  is : r ≡ change before

was_changed : (change : Region → Region) (o : Option Region) (r : Region) → option_map change o ≡ Some r → WasChanged change o r
was_changed change None r e = absurd (none-some r e)
was_changed change (Some p) r e = record { before = p; at = refl; is = sym (same_Some (change p) r e) }

each_from : {X : Type 0} (P : X → Type 0) (xs : List X) → ((k : ℕ) (x : X) → slice_get xs k ≡ Some x → P x) → Each P xs
each_from P [] h = tt
each_from P (x ∷ xs) h = (h zero x refl, each_from P xs (λ k y e. h (suc k) y e))

-- what the change keeps of each region holds of each
pub changed_each : (P : Region → Type 0) (change : Region → Region) (old new : List Region) (at : ℕ) → ChangesAt change old new at → ((r : Region) → P r → P (change r)) → Each P old → Each P new
changed_each P change old new at c h all = each_from P new (λ k r e. elim (cases_eq k at) [
  | inl same ↦
      let here : option_map change (slice_get old at) ≡ Some r = sym c.here ∙ subst (λ (n : ℕ). slice_get new n ≡ Some r) same e in
      let was = was_changed change (slice_get old at) r here in
      subst P (sym was.is) (h was.before (each_read P old at was.before all was.at))
  | inr ne ↦ each_read P old k r all (sym (c.others k ne) ∙ e)
])

-- ---- counts

-- the count of a region that is there
pub count_is : (f : Region → ℕ) (regions : List Region) (at : ℕ) (r : Region) → slice_get regions at ≡ Some r → count_at (map f regions) at ≡ f r
count_is f regions at r e = get_or_from_slice_get (map f regions) at (f r) 0 (slice_get-map f regions at ∙ ap (option_map f) e)

same_count : (xs ys : List ℕ) (k : ℕ) → slice_get ys k ≡ slice_get xs k → count_at ys k ≡ count_at xs k
same_count [] [] k e = refl
same_count [] (y ∷ ys) zero e = absurd (none-some y (sym e))
same_count [] (y ∷ ys) (suc k) e = same_count [] ys k e
same_count (x ∷ xs) [] zero e = absurd (none-some x e)
same_count (x ∷ xs) [] (suc k) e = same_count xs [] k e
same_count (x ∷ xs) (y ∷ ys) zero e = same_Some y x e
same_count (x ∷ xs) (y ∷ ys) (suc k) e = same_count xs ys k e

pub count_elsewhere : (f : Region → ℕ) (change : Region → Region) (old new : List Region) (at k : ℕ) → ChangesAt change old new at → k ≢ at → count_at (map f new) k ≡ count_at (map f old) k
count_elsewhere f change old new at k c ne = same_count (map f old) (map f new) k (slice_get-map f new k ∙ (ap (option_map f) (c.others k ne) ∙ sym (slice_get-map f old k)))

le_to : (a b c : ℕ) → a ≤ b → c ≡ b → a ≤ c
le_to a b c h e = omega (arith, h, e)

le_same : (n : ℕ) → n ≤ n
le_same n = omega arith

-- a count that rose by one
pub count_here : (f : Region → ℕ) (change : Region → Region) (old new : List Region) (at : ℕ) (r : Region) → ChangesAt change old new at → slice_get old at ≡ Some r → count_at (map f new) at ≡ f (change r)
count_here f change old new at r c e = count_is f new at (change r) (c.here ∙ ap (option_map change) e)

pub count_rose : (f : Region → ℕ) (change : Region → Region) (old new : List Region) (at : ℕ) (r : Region) → ((s : Region) → f (change s) ≡ next_count (f s)) → ChangesAt change old new at → slice_get old at ≡ Some r
    → Rose (count_at (map f old) at) (count_at (map f new) at)
count_rose f change old new at r h c e =
    let now : count_at (map f new) at ≡ next_count (f r) = count_here f change old new at r c e ∙ h r in
    let was : count_at (map f old) at ≡ f r = count_is f old at r e in
    let both : count_at (map f new) at ≡ next_count (count_at (map f old) at) = now ∙ ap next_count (sym was) in
    le_to _ _ _ (le_same (next_count (count_at (map f old) at))) both

-- no count of faults falls
pub faults_later : (change : Region → Region) (old new : List Region) (at : ℕ) → ((s : Region) → fault_count (change s) ≡ next_count (fault_count s)) → ChangesAt change old new at → IfSome (slice_get old at) DoesNotFall
    → (k : ℕ) → count_at (map fault_count old) k ≤ count_at (map fault_count new) k
faults_later change old new at h c later k = elim (cases_eq k at) [
  | inl e ↦ subst (λ (n : ℕ). count_at (map fault_count old) n ≤ count_at (map fault_count new) n) (sym e) (at_here (slice_get old at) refl later)
  | inr ne ↦ le_to _ _ _ (le_same (count_at (map fault_count old) k)) (count_elsewhere fault_count change old new at k c ne)
]
  where
    at_here : (o : Option Region) → slice_get old at ≡ o → IfSome o DoesNotFall → count_at (map fault_count old) at ≤ count_at (map fault_count new) at
    at_here None e l =
        let none : slice_get new at ≡ None = c.here ∙ ap (option_map change) e in
        let same : slice_get (map fault_count new) at ≡ slice_get (map fault_count old) at = slice_get-map fault_count new at ∙ (ap (option_map fault_count) (none ∙ sym e) ∙ sym (slice_get-map fault_count old at)) in
        le_to _ _ _ (le_same (count_at (map fault_count old) at)) (same_count (map fault_count old) (map fault_count new) at same)
    at_here (Some r) e l =
        let now : count_at (map fault_count new) at ≡ next_count (fault_count r) = count_here fault_count change old new at r c e ∙ h r in
        let was : count_at (map fault_count old) at ≡ fault_count r = count_is fault_count old at r e in
        le_to _ _ _ (subst (λ (n : ℕ). n ≤ next_count (fault_count r)) (sym was) l) now

-- ---- timetables

abbrev numbers_tables : List Timetable → List (Option ℕ) → List Timetable
numbers_tables tables [] = []
numbers_tables tables (number ∷ numbers) = in_front (table_at tables number) (numbers_tables tables numbers)

by_numbers : (tables : List Timetable) (regions : List Region) → tables_of tables regions ≡ numbers_tables tables (map number_of_table regions)
by_numbers tables [] = refl
by_numbers tables (region ∷ regions) = ap (in_front (table_at tables region.table)) (by_numbers tables regions)

pub same_tables : (tables : List Timetable) (old new : List Region) → map number_of_table new ≡ map number_of_table old → tables_of tables new ≡ tables_of tables old
same_tables tables old new e = by_numbers tables new ∙ (ap (numbers_tables tables) e ∙ sym (by_numbers tables old))

-- a region that has a timetable, where timetables are told
pub record HasTable (tables : List Timetable) (region : Region) : Type 0 where
  pub table : Timetable
  pub at : table_at tables region.table ≡ Some table

numbered_table : (tables : List Timetable) (k : ℕ) → k < length tables → (table : Timetable) × (slice_get tables k ≡ Some table)
numbered_table [] k below = absurd (omega (arith, below))
numbered_table (t ∷ tables) zero below = (t, refl)
numbered_table (t ∷ tables) (suc k) below = numbered_table tables k (omega (arith, below))

has_table : (tables : List Timetable) (region : Region) (number : Option ℕ) → region.table ≡ number → IfSome number (λ k. k < length tables) → is_some number ≡ true → HasTable tables region
has_table tables region None e below some = absurd (true≢false (sym some))
has_table tables region (Some k) e below some = let it = numbered_table tables k below in record { table = it.0; at = ap (table_at tables) e ∙ it.1 }

pub table_of : (tables : List Timetable) (region : Region) → IsNumbered (length tables) region → IsToldOf region → HasTable tables region
table_of tables region numbered told = has_table tables region region.table refl numbered told.has_table

-- there is one timetable for each region
pub one_each : (tables : List Timetable) (regions : List Region) → Each (IsNumbered (length tables)) regions → Each IsToldOf regions → length (tables_of tables regions) ≡ length regions
one_each tables [] numbered told = refl
one_each tables (region ∷ regions) numbered told =
    let it = table_of tables region numbered.0 told.0 in
    let rest : length (tables_of tables regions) ≡ length regions = one_each tables regions numbered.1 told.1 in
    ap (λ (o : Option Timetable). length (in_front o (tables_of tables regions))) it.at ∙ ap suc rest

-- it is that of the region
pub table_told : (tables : List Timetable) (regions : List Region) (at : ℕ) (region : Region) (table : Timetable) → Each (IsNumbered (length tables)) regions → Each IsToldOf regions → slice_get regions at ≡ Some region → table_at tables region.table ≡ Some table
    → slice_get (tables_of tables regions) at ≡ Some table
table_told tables [] at region table numbered told e f = absurd (none-some region e)
table_told tables (r ∷ regions) zero region table numbered told e f =
    let here : table_at tables r.table ≡ Some table = ap (λ (s : Region). table_at tables s.table) (same_Some r region e) ∙ f in
    ap (λ (o : Option Timetable). slice_get (in_front o (tables_of tables regions)) zero) here
table_told tables (r ∷ regions) (suc at) region table numbered told e f =
    let it = table_of tables r numbered.0 told.0 in
    ap (λ (o : Option Timetable). slice_get (in_front o (tables_of tables regions)) (suc at)) it.at ∙ table_told tables regions at region table numbered.1 told.1 e f

among_front : (o : Option Timetable) (tables : List Timetable) (table : Timetable) → Among table (in_front o tables) → (o ≡ Some table → IsWell table) → (Among table tables → IsWell table) → IsWell table
among_front None tables table a first rest = rest a
among_front (Some t) tables table a first rest = elim a [ inl e ↦ first (ap Some (sym e)) | inr b ↦ rest b ]

well_at : (tables : List Timetable) (number : Option ℕ) (table : Timetable) → Each IsWell tables → table_at tables number ≡ Some table → IsWell table
well_at tables None table well e = absurd (none-some table e)
well_at tables (Some k) table well e = each_read IsWell tables k table well e

-- each is well
pub tables_well : (tables : List Timetable) (regions : List Region) (table : Timetable) → Each IsWell tables → Among table (tables_of tables regions) → IsWell table
tables_well tables [] table well a = absurd a
tables_well tables (region ∷ regions) table well a = among_front (table_at tables region.table) (tables_of tables regions) table a (well_at tables region.table table well) (tables_well tables regions table well)

-- ---- regions that were just made

pub from_more : (k : ℕ) (tables : List Timetable) (table : Timetable) → regions_from k (tables ++ table ∷ []) ≡ regions_from k tables ++ region_at (k + length tables) table ∷ []
from_more k [] table = ap (λ (n : ℕ). region_at n table ∷ []) (omega arith)
from_more k (t ∷ tables) table =
    ap (λ (rs : List Region). region_at k t ∷ rs) (from_more (suc k) tables table ∙ ap (λ (n : ℕ). regions_from (suc k) tables ++ region_at n table ∷ []) (shift k (length tables)))
  where
    shift : (a b : ℕ) → suc a + b ≡ a + suc b
    shift a b = omega arith

pub from_stations : (k : ℕ) (tables : List Timetable) → map station_of (regions_from k tables) ≡ map own_station tables
from_stations k [] = refl
from_stations k (t ∷ tables) = ap (λ (ss : List Station). own_station t ∷ ss) (from_stations (suc k) tables)

pub from_length : (k : ℕ) (tables : List Timetable) → length (regions_from k tables) ≡ length tables
from_length k [] = refl
from_length k (t ∷ tables) = ap suc (from_length (suc k) tables)

pub from_told : (k : ℕ) (tables : List Timetable) → Each IsToldOf (regions_from k tables)
from_told k [] = tt
from_told k (t ∷ tables) = (record { has_table = refl; sure = refl }, from_told (suc k) tables)

pub from_numbered : (k n : ℕ) (tables : List Timetable) → k + length tables ≤ n → Each (IsNumbered n) (regions_from k tables)
from_numbered k n [] h = tt
from_numbered k n (t ∷ tables) h = (first k (length tables) n h, from_numbered (suc k) n tables (more k (length tables) n h))
  where
    first : (a b c : ℕ) → a + suc b ≤ c → a < c
    first a b c l = omega (arith, l)

    more : (a b c : ℕ) → a + suc b ≤ c → suc a + b ≤ c
    more a b c l = omega (arith, l)

at_end : (xs : List Timetable) (x : Timetable) (ys : List Timetable) → slice_get (xs ++ x ∷ ys) (length xs) ≡ Some x
at_end [] x ys = refl
at_end (z ∷ xs) x ys = at_end xs x ys

longer : (xs : List Timetable) (x : Timetable) (ys : List Timetable) → (xs ++ x ∷ []) ++ ys ≡ xs ++ x ∷ ys
longer [] x ys = refl
longer (z ∷ xs) x ys = ap (λ (zs : List Timetable). z ∷ zs) (longer xs x ys)

-- the timetables of the regions are those that they were made of
pub from_tables : (front tables : List Timetable) → tables_of (front ++ tables) (regions_from (length front) tables) ≡ tables
from_tables front [] = refl
from_tables front (t ∷ tables) =
    let here : table_at (front ++ t ∷ tables) (Some (length front)) ≡ Some t = at_end front t tables in
    let again : tables_of ((front ++ t ∷ []) ++ tables) (regions_from (length (front ++ t ∷ [])) tables) ≡ tables = from_tables (front ++ t ∷ []) tables in
    let moved : tables_of (front ++ t ∷ tables) (regions_from (suc (length front)) tables) ≡ tables =
    subst (λ (all : List Timetable). tables_of all (regions_from (suc (length front)) tables) ≡ tables) (longer front t tables)
    (subst (λ (n : ℕ). tables_of ((front ++ t ∷ []) ++ tables) (regions_from n tables) ≡ tables) (length_more front t) again) in
    ap (λ (o : Option Timetable). in_front o (tables_of (front ++ t ∷ tables) (regions_from (suc (length front)) tables))) here ∙ ap (λ (ts : List Timetable). t ∷ ts) moved

-- ---- a region in its place

set_here : (change : Region → Region) (xs : List Region) (at : ℕ) (r : Region) → slice_get xs at ≡ Some r → slice_get (set xs at (change r)) at ≡ option_map change (slice_get xs at)
set_here change [] at r e = absurd (none-some r e)
set_here change (x ∷ xs) zero r e = ap (λ (s : Region). Some (change s)) (sym (same_Some x r e))
set_here change (x ∷ xs) (suc at) r e = set_here change xs at r e

set_others : (xs : List Region) (at other : ℕ) (r : Region) → other ≢ at → slice_get (set xs at r) other ≡ slice_get xs other
set_others [] at other r ne = refl
set_others (x ∷ xs) zero zero r ne = absurd (ne refl)
set_others (x ∷ xs) zero (suc other) r ne = refl
set_others (x ∷ xs) (suc at) zero r ne = refl
set_others (x ∷ xs) (suc at) (suc other) r ne = set_others xs at other r (λ e. ne (ap suc e))

pub set_changes : (change : Region → Region) (xs : List Region) (at : ℕ) (r : Region) → slice_get xs at ≡ Some r → ChangesAt change xs (set xs at (change r)) at
set_changes change xs at r e = record { here = set_here change xs at r e; others = λ other ne. set_others xs at other (change r) ne }

-- a count is one that does not fall
pub count_grows : (regions : List Region) (at : ℕ) (r : Region) → slice_get regions at ≡ Some r → r.faults < 2 ^ 64 → IfSome (slice_get regions at) DoesNotFall
count_grows regions at r e fits = subst (λ (o : Option Region). IfSome o DoesNotFall) (sym e) (grows r.faults fits)
  where
    grows : (n : ℕ) → n < 2 ^ 64 → n ≤ next_count n
    grows n h = omega (arith, h)
