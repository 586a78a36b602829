-- What links in memory tell of themselves is so.
use Rattle.std.proofs.Common.{◌≡◌, ℕ, zero, suc, ◌<◌, ◌≤◌, true, false, Bool, List, [], ◌∷◌, length, map, drop, Option, Some, None, IfSome, is_some, option_map, slice_get, unwrap_or, refl, sym, ◌∙◌, ap, subst, arith, true≢false}
use Rattle.std.proofs.lemmas.List.{length-map, take-append-drop, take_all}
use Rattle.std.proofs.lemmas.Option.{slice_get-map}
use Rattle.slab.specs.Slab.{Slab, get}
use Rattle.ojp_values.specs.Lists.{Each}
use Rattle.ojp_values.specs.Texts.{Text}
use Rattle.ojp_timetable.specs.Tables.{Timetable}
use Rattle.ojp_links.specs.Seen.{AreServers, IsDrawnFrom, IsHonest, IsLive, IsOrder, IsServedByOne, IsServedWhole, IsSound, Live, code_at, code_of_station, live_or_none}
use Rattle.ojp_links_mem.specs.Regions.{count_at, fault_count, rejection_count, station_of, tables_of}
use Rattle.ojp_links_mem.specs.Memory.{MemView, fixed_of, links_of, told_order, told_tables}
use Rattle.ojp_links_mem.specs.Pending.{IsKept, IsServed, live_in, live_of}
use Rattle.ojp_links_mem.specs.Kept.{IsToldOf, IsWhole, view_of}
use Rattle.ojp_links_mem.specs.declared.pending.Pending.{Pending}
use Rattle.ojp_links_mem.specs.declared.regions.Region.{Region}
use Rattle.ojp_links_mem.specs.declared.memory.MemLinks.TheInside.{Inside}
use Rattle.ojp_links_mem.proofs.RegionFacts.{one_each, tables_well}

pub le_same : (n : ℕ) → n ≤ n
le_same n = omega arith

pub le_from : (a b : ℕ) → b ≡ a → a ≤ b
le_from a b e = omega (arith, e)

-- what holds of the order holds where it is told
pub if_told : (tells : Bool) (order : ℕ) (P : ℕ → Type 0) → (tells ≡ true → P order) → IfSome (told_order tells order) P
if_told true order P h = h refl
if_told false order P h = tt

-- what holds of the timetables holds where they are told
pub if_tables : (tells : Bool) (tables : List Timetable) (regions : List Region) (P : List Timetable → Type 0) → (tells ≡ true → P (tables_of tables regions)) → IfSome (told_tables tells tables regions) P
if_tables true tables regions P h = h refl
if_tables false tables regions P h = tt

-- and the other way round
pub of_tables : (tells : Bool) (tables : List Timetable) (regions : List Region) (P : List Timetable → Type 0) → IfSome (told_tables tells tables regions) P → tells ≡ true → P (tables_of tables regions)
of_tables true tables regions P h e = h
of_tables false tables regions P h e = absurd (true≢false (sym e))

pub if_some_map : {T : Type 0} (o : Option T) (P Q : T → Type 0) → ((x : T) → P x → Q x) → IfSome o P → IfSome o Q
if_some_map None P Q f h = tt
if_some_map (Some x) P Q f h = f x h

-- the timetables that the links tell
abbrev pub told_by : Inside → Option (List Timetable)
told_by m = told_tables m.tells_servers m.servers.items m.regions.items

-- a live ask is one that is kept
pub record Found (asks : Slab Pending) (key : ℕ) : Type 0 where
  pub ask : Pending
  pub at : get asks key ≡ Some ask

found_in : (asks : Slab Pending) (key : ℕ) (o : Option Pending) → get asks key ≡ o → is_some (option_map live_of o) ≡ true → Found asks key
found_in asks key None e h = absurd (true≢false (sym h))
found_in asks key (Some p) e h = record { ask = p; at = e }

pub found : (asks : Slab Pending) (key : ℕ) → is_some (live_in asks key) ≡ true → Found asks key
found asks key h = found_in asks key (get asks key) refl h

-- what is seen of it
pub seen_at : (asks : Slab Pending) (key : ℕ) (p : Pending) → get asks key ≡ Some p → live_or_none (live_in asks key) ≡ live_of p
seen_at asks key p e = ap (λ (o : Option Pending). live_or_none (option_map live_of o)) e

honest_of : (m : Inside) (p : Pending) → IsKept (length m.regions.items) (told_by m) m.most m.patience p → IsHonest (fixed_of (view_of m)) (live_of p)
honest_of m p kept =
    let drawn : IsDrawnFrom (live_of p) p.reply.items = (
      (drop p.taken p.reply.items, sym (take-append-drop p.taken p.reply.items)),
      λ e. let all : length p.reply.items ≤ p.taken = omega (arith, kept.at_end e) in take_all p.taken p.reply.items all,
    ) in
    record {
      is_region = subst (λ (n : ℕ). p.region < n) (sym (length-map m.regions.items station_of)) kept.of_region;
      tells = λ _. refl;
      reply = drawn;
      served = if_some_map (told_by m) (IsServed p) (IsServedByOne (live_of p)) (λ tables s. (s.serves.0, s.serves.1, (p.reply.items, s.serves.2, drawn))) kept.served;
      whole = if_some_map (told_by m) (IsServed p) (λ (tables : List Timetable). IsServedWhole (live_of p) tables p.reply.items) (λ tables s. s.serves) kept.served;
    }

same_counts : (regions : List Region) (at : ℕ) → Each IsToldOf regions → count_at (map fault_count regions) at ≡ count_at (map rejection_count regions) at
same_counts [] at told = refl
same_counts (r ∷ regions) zero told = told.0.sure
same_counts (r ∷ regions) (suc at) told = same_counts regions at told.1

pub sound_of : (m : Inside) → IsWhole m → IsSound (links_of (view_of m))
sound_of m whole = record {
  codes_distinct = whole.distinct;
  servers_well = if_tables m.tells_servers m.servers.items m.regions.items (AreServers (map station_of m.regions.items)) (λ tells. record {
    one_each = one_each m.servers.items m.regions.items whole.numbered (whole.told tells) ∙ sym (length-map m.regions.items station_of);
    well = λ table among. tables_well m.servers.items m.regions.items table whole.well among;
  });
  order_is = if_told m.tells_order m.order (IsOrder (fixed_of (view_of m))) (λ _. record { low = whole.low; replies = refl });
  sure = λ tells region. same_counts m.regions.items region (whole.told tells);
  honest = λ key live.
      let it = found m.asks key live in
      subst (λ (ask : Live). IsHonest (fixed_of (view_of m)) ask) (sym (seen_at m.asks key it.ask it.at)) (honest_of m it.ask (whole.kept key it.ask it.at));
}

pub found_live : (m : Inside) (v : MemView) (key : ℕ) → view_of m ≡ v → IsLive (links_of v) key → Found m.asks key
found_live m v key e live = found m.asks key (subst (λ (w : MemView). IsLive (links_of w) key) (sym e) live)

-- a region that the links have
pub region_below : (m : Inside) (v : MemView) (region : ℕ) → view_of m ≡ v → region < length (links_of v).fixed.stations → region < length m.regions.items
region_below m v region e below =
    let here : region < length (links_of (view_of m)).fixed.stations = subst (λ (w : MemView). region < length (links_of w).fixed.stations) (sym e) below in
    subst (λ (n : ℕ). region < n) (length-map m.regions.items station_of) here

-- its code
pub code_seen : (m : Inside) (v : MemView) (at : ℕ) (region : Region) → view_of m ≡ v → slice_get m.regions.items at ≡ Some region → region.code ≡ code_at (links_of v) at
code_seen m v at region e is =
    let stations : slice_get (map station_of m.regions.items) at ≡ Some (station_of region) = slice_get-map station_of m.regions.items at ∙ ap (option_map station_of) is in
    let codes : slice_get (map code_of_station (map station_of m.regions.items)) at ≡ Some region.code = slice_get-map code_of_station (map station_of m.regions.items) at ∙ ap (option_map code_of_station) stations in
    sym (ap (λ (o : Option Text). unwrap_or o []) codes) ∙ ap (λ (w : MemView). code_at (links_of w) at) e
