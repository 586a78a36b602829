-- Links to the regions of files stay ready, from their opening to the answer.
use Rattle.std.proofs.Common.{◌≡◌, ℕ, true, false, Bool, List, [], ◌∷◌, Some, Ok, Err, map, refl, sym, ◌∙◌, ap, subst, inl, inr, arith}
use Rattle.std.specs.List.{count_by}
use Rattle.std.specs.Prelude.{◌↔◌}
use Rattle.ojp_values.specs.Lists.{Among}
use Rattle.ojp_values.specs.Texts.{Text, same}
use Rattle.ojp_values.specs.declared.asks.Ask.{Ask}
use Rattle.ojp_values.specs.declared.asks.Ask.TheVariants as asks
use Rattle.ojp_values.specs.declared.replies.Delivery.{Delivery}
use Rattle.ojp_timetable.specs.Tables.{Timetable}
use Rattle.ojp_timetable.specs.GatewayAnswers.{GatewayAnswers}
use Rattle.ojp_exchange.specs.declared.region_points.RegionPoints.{RegionPoints}
use Rattle.ojp_exchange.specs.declared.refusals.BookRefused.{BookRefused}
use Rattle.ojp_exchange.specs.Book.{Book, points_of}
use Rattle.ojp_exchange.specs.Joins.{IsJoined, IsLeastTwice, JoinFails, times}
use Rattle.ojp_exchange.proofs.MadeFacts.{count_map}
use Rattle.ojp_links.specs.Seen.{Fixed, IsSound, NoneLive, Station, View, code_of_station, codes_of, region_of_table}
use Rattle.ojp_links.specs.Calls.{Keeps}
use Rattle.ojp_records.specs.declared.queries.Entry.{Entry}
use Rattle.ojp_turns.specs.Faults.{FaultRose, NoRejectionRose}
use Rattle.ojp_gateway.specs.Answers.{Answers, IsRight, NoneRejected}
use Rattle.ojp_gateway.specs.Learning.{FailsFirst, IsLearned, IsRefusedHeard, RejectsNoneTold}
use Rattle.ojp_links_mem.specs.Memory.{Renumbers, links_of, own_station, told_order, told_tables}
use Rattle.ojp_links_mem.specs.Files.{FilesView, IsLeastTwice as IsLeastCode, OpenEnds, Opens, RenumbersFiles}
use Rattle.ojp_links_mem.specs.declared.files.OpenRefused.{OpenRefused}
use Rattle.ojp_links_mem.specs.declared.files.OpenRefused.TheVariants as opens
use Rattle.ojp_plan.specs.Files.{reason_of_opening}
use Rattle.ojp_links_mem.specs.Pending.{live_in}
use Rattle.ojp_links_mem.specs.Regions.{count_at, fault_count, station_of}
use Rattle.ojp_links_mem.specs.declared.pending.Pending.{Pending}
use Rattle.ojp_links_mem.specs.declared.regions.Region.{Region}
use Rattle.slab.specs.Slab.{Slab}
use Rattle.ojp_traces.specs.Lines.{TraceView, Gains as TraceGains}
use Rattle.ojp_turns.specs.Ordering.{NoFaultRose}
use Rattle.ojp_gateway.specs.Ordering.{IsTraced}
use Rattle.ojp_gateway.specs.declared.answering.Answer.{Answer}
use Rattle.ojp_plan.specs.Plans.{IsTraceFor}
use Rattle.ojp_plan.specs.Ready.{IsLearnedOf, IsOpenOver, IsReady}
use Rattle.ojp_plan.proofs.OrderFacts.{answers_given, book_given, own_of_rising, refused_given, tables_given, trace_given}

-- ---- the links are opened

own_codes_of : (tables : List Timetable) → map code_of_station (map own_station tables) ≡ map region_of_table tables
own_codes_of [] = refl
own_codes_of (table ∷ tables) = ap (λ (codes : List Text). table.region ∷ codes) (own_codes_of tables)

pub opened : (old new : FilesView) → Opens old new → IsOpenOver old.tables 0 (links_of new.links)
opened old new o = record {
  tables = new.links.tables;
  rising = o.new_over.over.rising;
  ready = record {
    none_live = o.new_over.over.fresh.none_live;
    tells = record {
      servers = o.new_over.servers_are;
      own = sym (ap (λ (stations : List Station). map code_of_station stations) o.new_over.over.stations_are ∙ own_codes_of new.links.tables);
    };
    in_order = o.new_over.tells;
    sure = o.new_over.sure;
    no_faults = o.new_over.over.fresh.no_faults;
  };
}

-- a code that stands twice among those of the regions is the code of two lists
pub twice_listed : (tables : List Timetable) (code : Text) → IsLeastCode (map region_of_table tables) code → IsLeastTwice (map points_of tables) code
twice_listed tables code h = record {
  twice = omega (arith, h.twice, counts code);
  least = λ other two. h.least other (omega (arith, two, counts other));
}
  where
    counts : (z : Text) → count_by (same z) (map region_of_table tables) ≡ times (map points_of tables) z
    counts z = count_map region_of_table (same z) tables ∙ sym (count_map points_of (λ (list : RegionPoints). same z list.code) tables)

-- the links were not opened
pub not_opened : (old new : FilesView) (refused : OpenRefused) (reason : BookRefused) → OpenEnds {T = Unit {0}} old new (Err refused) → reason ≡ reason_of_opening refused → JoinFails (map points_of old.tables) reason
not_opened old new (opens.TwiceRegion code) reason h e = subst (JoinFails (map points_of old.tables)) (sym e) (twice_listed old.tables code h.0)
not_opened old new opens.NoMemory reason h e = subst (JoinFails (map points_of old.tables)) (sym e) tt

-- ---- calls on the links

-- the book's regions are the links' codes
same_regions : (book : Book) (old new : Fixed) → new ≡ old → ((code : Text) → Among code book.codes ↔ Among code (codes_of old)) → (code : Text) → Among code book.codes ↔ Among code (codes_of new)
same_regions book old new e h = subst (λ (f : Fixed). (code : Text) → Among code book.codes ↔ Among code (codes_of f)) (sym e) h

module _ (order : ℕ) (v w : View) (before : IsSound v) (after : IsSound w) where
  still : (fixed : w.fixed ≡ v.fixed) (tables : List Timetable) → IsReady v order tables → NoneLive w → NoRejectionRose v w → IsReady w order tables
  still fixed tables ready none calm = record {
    none_live = none;
    tells = record {
      servers = ap (λ (f : Fixed). f.servers) fixed ∙ ready.tells.servers;
      own = ready.tells.own ∙ ap (λ (f : Fixed). codes_of f) (sym fixed);
    };
    in_order = ap (λ (f : Fixed). f.order) fixed ∙ ready.in_order;
    sure = ap (λ (f : Fixed). f.is_sure) fixed ∙ ready.sure;
    no_faults = λ region.
        after.sure (ap (λ (f : Fixed). f.is_sure) fixed ∙ ready.sure) region ∙ (calm region ∙ (sym (before.sure ready.sure region) ∙ ready.no_faults region));
  }

  -- no region failed where nothing was rejected
  none_failed : (fixed : w.fixed ≡ v.fixed) (tables : List Timetable) → IsReady v order tables → NoRejectionRose v w → (code : Text) → FaultRose v w code → ⊥
  none_failed fixed tables ready calm code (region, within, at, rose) =
      let was : v.faults region ≡ 0 = ready.no_faults region in
      let is : w.faults region ≡ 0 =
      after.sure (ap (λ (f : Fixed). f.is_sure) fixed ∙ ready.sure) region ∙ (calm region ∙ (sym (before.sure ready.sure region) ∙ was)) in
      omega (arith, was, is, rose)

  -- ---- the book is learned

  module _ (given : List Timetable) (o : IsOpenOver given order v) (keeps : Keeps v w) (none : NoneLive w) (calm : RejectsNoneTold v w) where
    calm_told : NoRejectionRose v w
    calm_told = calm o.tables o.ready.tells

    pub learned : (book : Book) → IsLearned v book → IsLearnedOf given order book w
    learned book l = record {
      over = record { tables = o.tables; rising = o.rising; ready = still keeps.fixed o.tables o.ready none calm_told };
      theirs = l.theirs o.tables o.ready.tells;
      regions = same_regions book v.fixed w.fixed keeps.fixed l.regions;
    }

    pub not_learned : (reason : BookRefused) → IsRefusedHeard v reason → JoinFails (map points_of given) reason
    not_learned reason h =
        refused_given given o.tables o.rising.just_these reason (subst (λ (lists : List RegionPoints). JoinFails lists reason) (h.heard.told o.tables o.ready.tells) h.refused)

    pub none_failed_to_learn : (code : Text) → FailsFirst v w code → ⊥
    none_failed_to_learn code h = none_failed keeps.fixed o.tables o.ready calm_told code (h.region, h.below, h.is, h.rose)

  -- ---- an ask is answered

  module _ (given : List Timetable) (book : Book) (l : IsLearnedOf given order book v) (keeps : Keeps v w) (rejections : NoneRejected book v w) where
    calm_answered : NoRejectionRose v w
    calm_answered = rejections l.over.tables (l.over.ready.tells, l.theirs)

    failed : (code : Text) → FaultRose v w code → ⊥
    failed code h = none_failed keeps.fixed l.over.tables l.over.ready calm_answered code h

    by_tables : (ask : Ask) (delivery : Delivery) → IsRight v w l.over.tables ask delivery → GatewayAnswers l.over.tables ask delivery
    by_tables (asks.Trip ask) delivery (inl right) = right
    by_tables (asks.Trip ask) delivery (inr (inl (code, is, rose))) = absurd (failed code rose)
    by_tables (asks.Trip ask) delivery (inr (inr (is, unknown, (code, at, rose)))) = absurd (failed code rose)
    by_tables (asks.Multi ask) delivery right = right
    by_tables (asks.Events ask) delivery right = right
    by_tables (asks.Points ask) delivery right = right

    pub answered : (told : List Entry) (ask : Ask) (delivery : Delivery) → Answers book v w told ask delivery → GatewayAnswers given ask delivery
    answered told ask delivery a =
        answers_given given l.over.tables l.over.rising.just_these ask delivery
        (by_tables ask delivery (a.right l.over.tables (l.over.ready.tells, l.theirs)))

    -- no count rose
    no_rise : NoFaultRose v w
    no_rise region within =
        let was : v.faults region ≡ 0 = l.over.ready.no_faults region in
        let is : w.faults region ≡ 0 =
        after.sure (ap (λ (f : Fixed). f.is_sure) keeps.fixed ∙ l.over.ready.sure) region ∙ (calm_answered region ∙ (sym (before.sure l.over.ready.sure region) ∙ was)) in
        record { same = is ∙ sym was; below_end = omega (arith, is) }

    -- the trace is the definition's where one is asked for, and else empty
    pub traced : (ask : Ask) (first trace : TraceView) (answer : Answer) → v.made ≡ 0 → first.lines ≡ [] → TraceGains first trace → IsTraced book v w ask first trace (Ok answer) → IsTraceFor first.on given order ask trace.lines
    traced ask first trace answer none empty gains is = go first.on refl
      where
        go : (on : Bool) → first.on ≡ on → IsTraceFor on given order ask trace.lines
        go true e = (
          book,
          tables_given given l.over.tables l.over.rising.just_these book l.theirs,
          trace_given given l.over.tables l.over.rising.just_these book ask order trace.lines
              (is order l.over.tables (record { order_told = l.over.ready.in_order; tables_told = l.over.ready.tells; theirs = l.theirs; none_made = none; is_on = e; is_empty = empty }) no_rise),
        )
        go false e = ap (λ (t : TraceView). t.lines) (gains.stays_off e) ∙ empty

-- ---- asks are counted anew

tells_order : (tells : Bool) (order was to : ℕ) → told_order tells order ≡ Some was → told_order tells to ≡ Some to
tells_order true order was to e = refl
tells_order false order was to e = absurd (cc)

pub renumbered : (given : List Timetable) (was to : ℕ) (book : Book) (old new : FilesView) → RenumbersFiles old new to → IsLearnedOf given was book (links_of old.links) → IsLearnedOf given to book (links_of new.links)
renumbered given was to book old new r l = record {
  over = record {
    tables = l.over.tables;
    rising = l.over.rising;
    ready = record {
      none_live = λ key. ap (λ (asks : Slab Pending). live_in asks key) by.asks_same ∙ ready.none_live key;
      tells = record { servers = servers ∙ ready.tells.servers; own = ready.tells.own ∙ codes };
      in_order = ap (λ (n : ℕ). told_order new.links.tells_order n) by.order_is
          ∙ (ap (λ (b : Bool). told_order b to) by.tells_same ∙ tells_order old.links.tells_order old.links.order was to ready.in_order);
      sure = by.servers_same ∙ ready.sure;
      no_faults = λ region. ap (λ (rs : List Region). count_at (map fault_count rs) region) by.regions_same ∙ ready.no_faults region;
    };
  };
  theirs = l.theirs;
  regions = subst (λ (cs : List Text). (code : Text) → Among code book.codes ↔ Among code cs) codes l.regions;
}
  where
    by : Renumbers old.links new.links to
    by = r.links_by

    ready : IsReady (links_of old.links) was l.over.tables
    ready = l.over.ready

    servers : told_tables new.links.tells_servers new.links.tables new.links.regions ≡ told_tables old.links.tells_servers old.links.tables old.links.regions
    servers =
        ap (λ (b : Bool). told_tables b new.links.tables new.links.regions) by.servers_same
        ∙ (ap (λ (ts : List Timetable). told_tables old.links.tells_servers ts new.links.regions) by.tables_same
        ∙ ap (λ (rs : List Region). told_tables old.links.tells_servers old.links.tables rs) by.regions_same)

    codes : map code_of_station (map station_of old.links.regions) ≡ map code_of_station (map station_of new.links.regions)
    codes = ap (λ (rs : List Region). map code_of_station (map station_of rs)) (sym by.regions_same)

-- ---- the book

-- the book that was learned is that of the timetables in the order given
pub joined : (given : List Timetable) (order : ℕ) (book : Book) (v : View) → IsLearnedOf given order book v → IsJoined (map points_of given) book
joined given order book v l = record {
  own = own_of_rising given l.over.tables l.over.rising.just_these l.over.rising.codes_rise;
  book_of = book_given given l.over.tables l.over.rising.just_these book l.theirs.book_of;
  sound = l.theirs.book_well.sound;
}
