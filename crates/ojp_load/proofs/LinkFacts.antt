-- Links to the regions of a network are open, and stay so.
use Rattle.std.proofs.Common.{◌≡◌, ℕ, true, Bool, List, [], ◌∷◌, Err, map, refl, sym, ◌∙◌, ap, subst, arith}
use Rattle.std.specs.Prelude.{◌↔◌}
use Rattle.std.specs.List.Sorted.{IsPermutation}
use Rattle.ojp_values.specs.Lists.{Among, Each, IsRising}
use Rattle.ojp_values.specs.Texts.{Text, same, text_lt}
use Rattle.ojp_timetable.specs.Tables.{Timetable}
use Rattle.ojp_timetable.proofs.Orders.{text_order}
use Rattle.ojp_exchange.specs.Book.{Book}
use Rattle.ojp_exchange.specs.Joins.{JoinFails}
use Rattle.ojp_exchange.proofs.MadeFacts.{among_back, among_moved}
use Rattle.ojp_links.specs.Seen.{Fixed, IsSound, NoneLive, Station, View, code_of_station, codes_of, region_of_table}
use Rattle.ojp_links.specs.Calls.{Keeps}
use Rattle.ojp_turns.specs.Faults.{NoRejectionRose}
use Rattle.ojp_gateway.specs.Answers.{NoneRejected}
use Rattle.ojp_gateway.specs.Learning.{IsLearned, LearnsAs, RejectsNoneTold}
use Rattle.ojp_gateway.specs.declared.learning.LearnRefused.{LearnRefused}
use Rattle.ojp_gateway.specs.declared.learning.LearnRefused.TheVariants as refusals
use Rattle.ojp_gateway.specs.Serving.{NoFaultRose}
use Rattle.ojp_gateway.proofs.PointFacts.{alike}
use Rattle.ojp_links_mem.specs.Memory.{IsNewOver, MemView, Renumbers, links_of, own_station, told_tables}
use Rattle.ojp_links_mem.specs.Pending.{live_in}
use Rattle.ojp_links_mem.specs.Regions.{count_at, fault_count, station_of}
use Rattle.ojp_links_mem.specs.declared.pending.Pending.{Pending}
use Rattle.ojp_links_mem.specs.declared.regions.Region.{Region}
use Rattle.slab.specs.Slab.{Slab}
use Rattle.ojp_load.specs.Ready.{AreLinksOpen, IsReady, MakeBook}

-- ---- links are made

own_codes_of : (tables : List Timetable) → map code_of_station (map own_station tables) ≡ map region_of_table tables
own_codes_of [] = refl
own_codes_of (table ∷ tables) = ap (λ (codes : List Text). table.region ∷ codes) (own_codes_of tables)

each_of : {X : Type 0} (f : X → Text) (P : Text → Type 0) (xs : List X) → Each P (map f xs) → Each (λ x. P (f x)) xs
each_of f P [] h = tt
each_of f P (x ∷ xs) h = (h.0, each_of f P xs h.1)

-- timetables whose codes rise
rise_of : {X : Type 0} (f : X → Text) (xs : List X) → IsRising text_lt (map f xs) → IsRising (λ x y. text_lt (f x) (f y)) xs
rise_of f [] h = tt
rise_of f (x ∷ xs) h = (each_of f (λ t. text_lt (f x) t ≡ true) xs h.0, rise_of f xs h.1)

same_tables : (given rising : List Timetable) → IsPermutation given rising → IsRising text_lt (map region_of_table given) → IsRising text_lt (map region_of_table rising) → rising ≡ given
same_tables given rising p first second =
    alike (λ (x : Timetable) (y : Timetable). text_lt x.region y.region) (λ (x : Timetable) (y : Timetable). same x.region y.region) (text_order (λ (t : Timetable). t.region)) rising given
    (rise_of region_of_table rising second) (rise_of region_of_table given first) (λ x a. among_back given rising x p a) (λ x a. among_moved given rising x p a)

pub made : (given : List Timetable) (m : MemView) → IsRising text_lt (map region_of_table given) → IsNewOver given 0 0 m → AreLinksOpen given (links_of m)
made given m rise new =
    let is = same_tables given m.tables new.over.rising.just_these rise new.over.rising.codes_rise in
    subst (λ (tables : List Timetable). AreLinksOpen tables (links_of m)) is (record {
      none_live = new.over.fresh.none_live;
      tells = record {
        servers = new.servers_are;
        own = sym (ap (λ (stations : List Station). map code_of_station stations) new.over.stations_are ∙ own_codes_of m.tables);
      };
      sure = new.sure;
      no_faults = new.over.fresh.no_faults;
    })

-- ---- a call leaves them open

module _ (v w : View) (before : IsSound v) (after : IsSound w) (tables : List Timetable) (is_open : AreLinksOpen tables v) (fixed : w.fixed ≡ v.fixed) (calm : NoRejectionRose v w) where
  sure_after : w.fixed.is_sure ≡ true
  sure_after = ap (λ (f : Fixed). f.is_sure) fixed ∙ is_open.sure

  pub no_faults : (region : ℕ) → w.faults region ≡ 0
  no_faults region = after.sure sure_after region ∙ (calm region ∙ (sym (before.sure is_open.sure region) ∙ is_open.no_faults region))

  pub still : NoneLive w → AreLinksOpen tables w
  still none = record {
    none_live = none;
    tells = record {
      servers = ap (λ (f : Fixed). f.servers) fixed ∙ is_open.tells.servers;
      own = is_open.tells.own ∙ ap (λ (f : Fixed). codes_of f) (sym fixed);
    };
    sure = sure_after;
    no_faults = no_faults;
  }

  pub none_rose : NoFaultRose v w
  none_rose region within =
      let was = is_open.no_faults region in
      let is = no_faults region in
      record { same = is ∙ sym was; below_end = omega (arith, is) }

same_regions : (book : Book) (old new : Fixed) → new ≡ old → ((code : Text) → Among code book.codes ↔ Among code (codes_of old)) → (code : Text) → Among code book.codes ↔ Among code (codes_of new)
same_regions book old new e h = subst (λ (f : Fixed). (code : Text) → Among code book.codes ↔ Among code (codes_of f)) (sym e) h

-- ---- the book is learned

module _ (v w : View) (before : IsSound v) (after : IsSound w) (tables : List Timetable) (is_open : AreLinksOpen tables v) (keeps : Keeps v w) (none : NoneLive w) (calm : RejectsNoneTold v w) where
  pub learned : (book : Book) → IsLearned v book → IsReady tables book w
  learned book l = record {
    is_open = still v w before after tables is_open keeps.fixed (calm tables is_open.tells) none;
    theirs = l.theirs tables is_open.tells;
    regions = same_regions book v.fixed w.fixed keeps.fixed l.regions;
  }

  pub only_memory : MakeBook tables → (refused : LearnRefused) → LearnsAs v w (Err refused) → refused ≡ refusals.NoMemory
  only_memory makes (refusals.Region code) f =
      let was = is_open.no_faults f.region in
      let is = no_faults v w before after tables is_open keeps.fixed (calm tables is_open.tells) f.region in
      absurd (omega (arith, was, is, f.rose))
  only_memory makes (refusals.Book reason) r = absurd (makes reason (subst (λ ls. JoinFails ls reason) (r.heard.told tables is_open.tells) r.refused) r.some)
  only_memory makes refusals.NoMemory h = refl

-- ---- a connection is served

module _ (v w : View) (before : IsSound v) (after : IsSound w) (tables : List Timetable) (book : Book) (ready : IsReady tables book v) (keeps : Keeps v w) (none : NoneLive w) (calm : NoneRejected book v w) where
  calm_told : NoRejectionRose v w
  calm_told = calm tables (ready.is_open.tells, ready.theirs)

  pub served : IsReady tables book w
  served = record {
    is_open = still v w before after tables ready.is_open keeps.fixed calm_told none;
    theirs = ready.theirs;
    regions = same_regions book v.fixed w.fixed keeps.fixed ready.regions;
  }

  pub none_failed : NoFaultRose v w
  none_failed = none_rose v w before after tables ready.is_open keeps.fixed calm_told

-- ---- asks are counted anew

pub renumbered : (tables : List Timetable) (book : Book) (old new : MemView) (to : ℕ) → Renumbers old new to → IsReady tables book (links_of old) → IsReady tables book (links_of new)
renumbered tables book old new to by r = record {
  is_open = record {
    none_live = λ key. ap (λ (asks : Slab Pending). live_in asks key) by.asks_same ∙ r.is_open.none_live key;
    tells = record { servers = servers ∙ r.is_open.tells.servers; own = r.is_open.tells.own ∙ codes };
    sure = by.servers_same ∙ r.is_open.sure;
    no_faults = λ region. ap (λ (rs : List Region). count_at (map fault_count rs) region) by.regions_same ∙ r.is_open.no_faults region;
  };
  theirs = r.theirs;
  regions = subst (λ (cs : List Text). (code : Text) → Among code book.codes ↔ Among code cs) codes r.regions;
}
  where
    servers : told_tables new.tells_servers new.tables new.regions ≡ told_tables old.tells_servers old.tables old.regions
    servers =
        ap (λ (b : Bool). told_tables b new.tables new.regions) by.servers_same
        ∙ (ap (λ (ts : List Timetable). told_tables old.tells_servers ts new.regions) by.tables_same ∙ ap (λ (rs : List Region). told_tables old.tells_servers old.tables rs) by.regions_same)

    codes : map code_of_station (map station_of old.regions) ≡ map code_of_station (map station_of new.regions)
    codes = ap (λ (rs : List Region). map code_of_station (map station_of rs)) (sym by.regions_same)
