-- One turn: a round of polls, the cancelling and the asks, one after another.
use Rattle.std.proofs.Common.{◌≡◌, ◌≢◌, ℕ, ◌<◌, ◌≤◌, Bool, true, false, ◌||◌, cond, ◌⊎◌, List, [], ◌∷◌, ◌++◌, map, filter, length, Option, Some, None, IsSome, IfSome, unwrap_or, refl, sym, ◌∙◌, ap, subst, inl, inr, arith, append-nil}
use Rattle.std.specs.List.{filter_map, cons_option}
use Rattle.std.proofs.lemmas.Bool.{true≢false, cases_Bool}
use Rattle.std.proofs.lemmas.Option.{same_Some, none-some}
use Rattle.ojp_outside.specs.Causes.{Rose}
use Rattle.ojp_values.proofs.EachFacts.{each_of}
use Rattle.ojp_values.specs.Lists.{Among, Each}
use Rattle.ojp_values.specs.declared.asks.TripAsk.{TripAsk}
use Rattle.ojp_values.proofs.ListFacts.{Member, among_append_left, among_append_right, among_map, among_map_back, among_filter, among_filter_map, among_filter_map_back, each_at}
use Rattle.ojp_timetable.specs.Tables.{Timetable}
use Rattle.ojp_exchange.specs.Book.{Book}
use Rattle.ojp_links.specs.Seen.{View, Live, live_or_none, ask_at}
use Rattle.ojp_links.specs.Calls.{Keeps, NotRaised}
use Rattle.ojp_records.specs.declared.queries.Query.{Query}
use Rattle.ojp_records.specs.declared.queries.Entry.{Entry}
use Rattle.ojp_records.specs.Headline.{AreGiven, EntryGiven, ReplyGiven}
use Rattle.ojp_records.specs.Records.{region_of}
use Rattle.ojp_records.specs.Wanted.{wanted}
use Rattle.ojp_turns.specs.declared.kept.Kept.{Kept}
use Rattle.ojp_turns.specs.Held.{key_of, query_of, NotAmong, StandsIn}
use Rattle.ojp_turns.specs.Faults.{HasCause}
use Rattle.ojp_turns.specs.Polling.{IsSeenAgain, GotNothing, GotBytes, Fate, going, over, lost, Polled, EndsWith, HasFate, IsPolled, was_of, kept_by, going_of, told_by, entry_of, IsVain, InVain, IsNews, GotSome, IsKept, Round, Moves, PollsTo}
use Rattle.ojp_turns.specs.Asking.{is_still_wanted, StayLive, CancelsSome, Cancels, AllWanted, IsAsking, AsksMore, AsksSome}
use Rattle.ojp_turns.specs.Slots.{AreAsked, IsWithinBound}
use Rattle.ojp_turns.specs.Turning.{IsOfLive, Passes, LooksAtAll, Waited, HasMoved, MovesBy, total_left, patience_of, Tires, Settles}
use Rattle.ojp_turns.proofs.PollFacts.{keeps_on, keeps_self, not_raised_on}
use Rattle.ojp_turns.proofs.RoundFacts.{fault_on, fault_from, round_given, whole_ahead}
use Rattle.ojp_turns.proofs.AskedFacts.{among_is, is_among_is, not_among_is, told_unwanted, asked_polled, asked_sifted, sifted_wanted}

each_joined : {X : Type 0} (P : X → Type 0) (xs ys : List X) → Each P xs → Each P ys → Each P (xs ++ ys)
each_joined P [] ys all more = more
each_joined P (x ∷ xs) ys all more = (all.0, each_joined P xs ys all.1 more)

each_turned : {X : Type 0} (P Q : X → Type 0) (xs : List X) → ((x : X) → P x → Q x) → Each P xs → Each Q xs
each_turned P Q [] f all = tt
each_turned P Q (x ∷ xs) f all = (f x all.0, each_turned P Q xs f all.1)

-- ---- the record

-- the poll that told an entry
record ToldBy (book : Book) (ask : TripAsk) (old new : View) (ps : List Polled) (entry : Entry) : Type 0 where
  polled : Polled
  among : Among polled ps
  ends : EndsWith book ask old new polled.was entry

told_poll : (book : Book) (ask : TripAsk) (old new : View) (ps : List Polled) (entry : Entry) → Each (IsPolled book ask old new) ps → Among entry (filter_map entry_of ps) → ToldBy book ask old new ps entry
told_poll book ask old new ps entry each h =
    let m : Member ps (λ p. entry_of p ≡ Some entry) = among_filter_map_back entry_of entry ps h in
    record { polled = m.item; among = m.among; ends = by_fate m.item.was m.item.fate m.holds (each_at (IsPolled book ask old new) m.item ps each m.among) }
  where
    by_fate : (was : Kept) (fate : Fate) → told_by fate ≡ Some entry → HasFate book ask old new was fate → EndsWith book ask old new was entry
    by_fate was (going now) e has = absurd (none-some entry e)
    by_fate was (over told) e has = subst (EndsWith book ask old new was) (same_Some told entry e) has
    by_fate was lost e has = absurd (none-some entry e)

failures_given : (book : Book) (ask : TripAsk) (tables : List Timetable) (entries : List Entry) → Each (λ (entry : Entry). entry.reply ≡ None) entries → Each (EntryGiven tables book ask) entries
failures_given book ask tables entries all =
    each_turned (λ (entry : Entry). entry.reply ≡ None) (EntryGiven tables book ask) entries (λ entry none. subst (ReplyGiven tables book ask entry.query) (sym none) tt) all

module _ (book : Book) (ask : TripAsk) (old one two new : View) (start subs1 subs2 subs3 : List Kept) (before mid after : List Entry) (r : Round book ask old one start subs1 before mid) where
  live_entries : Each (IsOfLive old start) (filter_map entry_of r.polled)
  live_entries =
      each_of (IsOfLive old start) (filter_map entry_of r.polled) (λ entry h.
      let it : ToldBy book ask old one r.polled entry = told_poll book ask old one r.polled entry r.each h in
      record {
        sub = it.polled.was;
        was_live = subst (Among it.polled.was) (sym r.split) (among_append_left it.polled.was (map was_of r.polled) r.ahead (among_map was_of it.polled r.polled it.among));
        same = sym it.ends.query;
        told = it.ends.carried;
      })

  poll_causes : (now : View) → Keeps one now → Each (HasCause old now) (filter_map entry_of r.polled)
  poll_causes now keeps =
      each_of (HasCause old now) (filter_map entry_of r.polled) (λ entry h none.
      let it : ToldBy book ask old one r.polled entry = told_poll book ask old one r.polled entry r.each h in
      fault_on old one now (region_of entry.query) keeps (it.ends.cause none))

  -- where memory ran out in the round
  pub passes_round : Passes book ask old one start before mid
  passes_round =
      record {
        keeps = r.keeps;
        tells = record {
          heard = filter_map entry_of r.polled;
          refused = [];
          grows = r.tells ∙ sym (append-nil (before ++ filter_map entry_of r.polled));
          of_live = live_entries;
          failures = tt;
          causes = each_joined (HasCause old one) (filter_map entry_of r.polled) [] (poll_causes one (keeps_self one)) tt;
        };
        given = λ tables tells given. round_given book ask old one start subs1 before mid tables r tells given;
        rejects_none = r.rejects_none;
      }

  -- the whole turn
  pub passes_turn : Keeps one two → two.rejections ≡ one.rejections → AsksMore book ask two new subs2 subs3 mid after → Passes book ask old new start before after
  passes_turn keeps calm more =
      let later : Keeps one new = keeps_on one two new keeps more.keeps in
      let first : Keeps old two = keeps_on old one two r.keeps keeps in
      record {
        keeps = keeps_on old one new r.keeps later;
        tells = record {
          heard = filter_map entry_of r.polled;
          refused = more.refused;
          grows = more.tells ∙ ap (λ (xs : List Entry). xs ++ more.refused) r.tells;
          of_live = live_entries;
          failures = more.failures;
          causes = each_joined (HasCause old new) (filter_map entry_of r.polled) more.refused (poll_causes new later)
              (each_turned (HasCause two new) (HasCause old new) more.refused (λ entry cause none. fault_from old two new (region_of entry.query) first (cause none)) more.causes);
        };
        given = λ tables tells given.
            subst (AreGiven tables book ask) (sym more.tells)
            (each_joined (EntryGiven tables book ask) mid more.refused (round_given book ask old one start subs1 before mid tables r tells given) (failures_given book ask tables more.refused more.failures));
        rejects_none = λ tables tells whole given region.
            ap (λ (f : ℕ → ℕ). f region) more.rejections ∙ (ap (λ (f : ℕ → ℕ). f region) calm ∙ r.rejects_none tables tells whole given region);
      }

-- ---- what moved

-- the poll of a subrequest that was live
record PollOf (ps : List Polled) (kept : Kept) : Type 0 where
  polled : Polled
  among : Among polled ps
  was : polled.was ≡ kept

module _ (book : Book) (ask : TripAsk) (old one two new : View) (start subs1 subs2 subs3 : List Kept) (before mid after : List Entry) (came : Bool)
    (p : PollsTo came (length start) book ask old one start subs1 before mid)
    (sifted : subs2 ≡ filter (is_still_wanted book ask mid) subs1) (same : StayLive one two subs2)
    (more : AsksMore book ask two new subs2 subs3 mid after) (all : AllWanted book ask after subs3) where
  none_ahead : p.round.ahead ≡ []
  none_ahead = whole_ahead book ask old one start subs1 before mid came p

  pub all_polled : start ≡ map was_of p.round.polled
  all_polled = p.round.split ∙ (ap (λ (xs : List Kept). map was_of p.round.polled ++ xs) none_ahead ∙ append-nil (map was_of p.round.polled))

  pub all_going : subs1 ≡ filter_map going_of p.round.polled
  all_going = p.round.turned ∙ ap (λ (xs : List Kept). xs ++ filter_map going_of p.round.polled) none_ahead

  poll_of : (kept : Kept) → Among kept start → PollOf p.round.polled kept
  poll_of kept h =
      let m : Member p.round.polled (λ x. kept ≡ was_of x) = among_map_back was_of kept p.round.polled (subst (Among kept) all_polled h) in
      record { polled = m.item; among = m.among; was = sym m.holds }

  -- what is live at the end was wanted after the polls
  wanted_mid : (query : Query) → Among query (map query_of subs3) → Among query (wanted book ask mid)
  wanted_mid query h = more.none_new query (all query h)

  -- a subrequest that goes on and is wanted is as its poll left it
  stays_as : (was now : Kept) → Among now subs1 → now.query ≡ was.query → key_of now ≡ key_of was → Among was.query (wanted book ask mid) → new.live (key_of was) ≡ one.live (key_of was)
  stays_as was now h query key is =
      let yes : is_still_wanted book ask mid now ≡ true = among_is (wanted book ask mid) now.query (subst (λ (q : Query). Among q (wanted book ask mid)) (sym query) is) in
      let kept : Among now subs2 = subst (Among now) (sym sifted) (among_filter (is_still_wanted book ask mid) now subs1 h yes) in
      subst (λ (k : ℕ). new.live k ≡ one.live k) key (more.same now kept ∙ same now kept)

  -- a query that ended is live no more
  over_gone : (was : Kept) (entry : Entry) → Among entry (filter_map entry_of p.round.polled) → entry.query ≡ was.query → NotAmong was.query (map query_of subs3)
  over_gone was entry h query live =
      let listed : Among entry after = subst (Among entry) (sym more.tells) (among_append_left entry mid more.refused (subst (Among entry) (sym p.round.tells) (among_append_right entry before (filter_map entry_of p.round.polled) h))) in
      told_unwanted book ask after entry listed (subst (λ (q : Query). Among q (wanted book ask after)) (sym query) (all was.query live))

  going_among : (x : Polled) (now : Kept) → Among x p.round.polled → x.fate ≡ going now → Among now subs1
  going_among x now h e = subst (Among now) (sym all_going) (among_filter_map going_of x now p.round.polled h (ap kept_by e))

  over_among : (x : Polled) (entry : Entry) → Among x p.round.polled → x.fate ≡ over entry → Among entry (filter_map entry_of p.round.polled)
  over_among x entry h e = among_filter_map entry_of x entry p.round.polled h (ap told_by e)

  pub looks_at_all : LooksAtAll old new start subs3
  looks_at_all kept h live =
      let it : PollOf p.round.polled kept = poll_of kept h in
      let has : HasFate book ask old one it.polled.was it.polled.fate = each_at (IsPolled book ask old one) it.polled p.round.polled p.round.each it.among in
      let kept_is : IsKept it.polled.fate = each_at (λ (x : Polled). IsKept x.fate) it.polled p.round.polled p.none_lost it.among in
      subst (λ (k : Kept). Rose (ask_at old (key_of k)).looks (ask_at new (key_of k)).looks) it.was
      (by_fate it.polled it.among it.polled.fate refl has kept_is (subst (λ (k : Kept). Among k.query (map query_of subs3)) (sym it.was) live))
    where
      by_fate : (x : Polled) → Among x p.round.polled → (fate : Fate) → x.fate ≡ fate → HasFate book ask old one x.was x.fate → IsKept x.fate → Among x.was.query (map query_of subs3)
          → Rose (ask_at old (key_of x.was)).looks (ask_at new (key_of x.was)).looks
      by_fate x among (going now) e has keep live =
          let goes : HasFate book ask old one x.was (going now) = subst (HasFate book ask old one x.was) e has in
          let as_is : new.live (key_of x.was) ≡ one.live (key_of x.was) = stays_as x.was now (going_among x now among e) goes.query goes.key (wanted_mid x.was.query live) in
          subst (λ (o : Option Live). Rose (ask_at old (key_of x.was)).looks (live_or_none o).looks) (sym as_is) goes.again.looks
      by_fate x among (over entry) e has keep live =
          let ends : HasFate book ask old one x.was (over entry) = subst (HasFate book ask old one x.was) e has in
          absurd (over_gone x.was entry (over_among x entry among e) ends.query live)
      by_fate x among lost e has keep live = absurd (subst IsKept e keep)

  -- something came in the polls
  came_moved : (asks now : ℕ) → Moves true old one p.round.polled → HasMoved old new start subs3 asks now
  came_moved asks now moves = inr (x.was, was_live, by_fate x.fate refl has moves.2)
    where
      x : Polled
      x = moves.0

      has : HasFate book ask old one x.was x.fate
      has = each_at (IsPolled book ask old one) moves.0 p.round.polled p.round.each moves.1

      was_live : Among x.was start
      was_live = subst (Among moves.0.was) (sym all_polled) (among_map was_of moves.0 p.round.polled moves.1)

      by_fate : (fate : Fate) → moves.0.fate ≡ fate → HasFate book ask old one moves.0.was moves.0.fate → IsNews old one moves.0.was moves.0.fate
          → NotAmong moves.0.was.query (map query_of subs3) ⊎ GotBytes old.patience (old.live (key_of moves.0.was)) (new.live (key_of moves.0.was))
      by_fate (going g) e has news =
          let goes : HasFate book ask old one moves.0.was (going g) = subst (HasFate book ask old one moves.0.was) e has in
          let bytes : GotBytes old.patience (old.live (key_of moves.0.was)) (one.live (key_of moves.0.was)) = subst (IsNews old one moves.0.was) e news in
          elim (cases_Bool (is_still_wanted book ask mid g)) [
            | inl holds ↦
                let is : Among moves.0.was.query (wanted book ask mid) = subst (λ (q : Query). Among q (wanted book ask mid)) goes.query (is_among_is (wanted book ask mid) g.query holds) in
                inr (subst (λ (o : Option Live). GotBytes old.patience (old.live (key_of moves.0.was)) o) (sym (stays_as moves.0.was g (going_among moves.0 g moves.1 e) goes.query goes.key is)) bytes)
            | inr fails ↦
                inl (λ live. not_among_is (wanted book ask mid) g.query fails (subst (λ (q : Query). Among q (wanted book ask mid)) (sym goes.query) (wanted_mid moves.0.was.query live)))
          ]
      by_fate (over entry) e has news =
          let ends : HasFate book ask old one moves.0.was (over entry) = subst (HasFate book ask old one moves.0.was) e has in
          inl (over_gone moves.0.was entry (over_among moves.0 entry moves.1 e) ends.query)
      by_fate lost e has news = absurd (subst (IsNews old one moves.0.was) e news)

  -- something was cancelled
  cancelled_moved : (asks now : ℕ) → CancelsSome book ask mid subs1 → HasMoved old new start subs3 asks now
  cancelled_moved asks now it =
      let m : Member p.round.polled (λ x. going_of x ≡ Some it.0) = among_filter_map_back going_of it.0 p.round.polled (subst (Among it.0) all_going it.1) in
      inr (
        m.item.was,
        subst (Among m.item.was) (sym all_polled) (among_map was_of m.item p.round.polled m.among),
        inl (λ live. it.2 (subst (λ (q : Query). Among q (wanted book ask mid)) (sym (by_fate m.item.was m.item.fate m.holds (each_at (IsPolled book ask old one) m.item p.round.polled p.round.each m.among))) (wanted_mid m.item.was.query live))),
      )
    where
      by_fate : (was : Kept) (fate : Fate) → kept_by fate ≡ Some it.0 → HasFate book ask old one was fate → it.0.query ≡ was.query
      by_fate was (going g) e has = ap query_of (sym (same_Some g it.0 e)) ∙ has.query
      by_fate was (over entry) e has = absurd (none-some it.0 e)
      by_fate was lost e has = absurd (none-some it.0 e)

-- ---- nothing moved

vain_keys : (book : Book) (ask : TripAsk) (old new : View) (ps : List Polled) → Each (IsPolled book ask old new) ps → Each (InVain old new) ps
    → (map key_of (filter_map going_of ps) ≡ map key_of (map was_of ps)) × (map query_of (filter_map going_of ps) ≡ map query_of (map was_of ps)) × (filter_map entry_of ps ≡ [])
vain_keys book ask old new [] each vain = (refl, refl, refl)
vain_keys book ask old new (p ∷ ps) each vain = go (vain_keys book ask old new ps each.1 vain.1) p.fate refl each.0 vain.0
  where
    go : (map key_of (filter_map going_of ps) ≡ map key_of (map was_of ps)) × (map query_of (filter_map going_of ps) ≡ map query_of (map was_of ps)) × (filter_map entry_of ps ≡ []) → (fate : Fate) → p.fate ≡ fate → HasFate book ask old new p.was p.fate → IsVain old new p.was p.fate
        → (map key_of (filter_map going_of (p ∷ ps)) ≡ map key_of (map was_of (p ∷ ps))) × (map query_of (filter_map going_of (p ∷ ps)) ≡ map query_of (map was_of (p ∷ ps))) × (filter_map entry_of (p ∷ ps) ≡ [])
    go rest (going now) e has it =
        let goes : HasFate book ask old new p.was (going now) = subst (HasFate book ask old new p.was) e has in
        let here : filter_map going_of (p ∷ ps) ≡ now ∷ filter_map going_of ps = ap (λ (f : Fate). cons_option (kept_by f) (filter_map going_of ps)) e in
        let none : filter_map entry_of (p ∷ ps) ≡ filter_map entry_of ps = ap (λ (f : Fate). cons_option (told_by f) (filter_map entry_of ps)) e in (
          ap (map key_of) here ∙ (ap (λ (k : ℕ). k ∷ map key_of (filter_map going_of ps)) goes.key ∙ ap (λ (ks : List ℕ). key_of p.was ∷ ks) rest.0),
          ap (map query_of) here ∙ (ap (λ (q : Query). q ∷ map query_of (filter_map going_of ps)) goes.query ∙ ap (λ (qs : List Query). query_of p.was ∷ qs) rest.1),
          none ∙ rest.2,
        )
    go rest (over entry) e has it = absurd (subst (IsVain old new p.was) e it)
    go rest lost e has it = absurd (subst (IsVain old new p.was) e it)

module _ (book : Book) (ask : TripAsk) (old one : View) (start subs1 : List Kept) (before mid : List Entry)
    (p : PollsTo false (length start) book ask old one start subs1 before mid) (polled : start ≡ map was_of p.round.polled) (goes : subs1 ≡ filter_map going_of p.round.polled)
    (stands : StandsIn book ask before start old) where
  vain_at : (kept : Kept) → Among kept start → IsSeenAgain (old.live (key_of kept)) (one.live (key_of kept)) × GotNothing old.patience (old.live (key_of kept)) (one.live (key_of kept))
  vain_at kept h =
      let m : Member p.round.polled (λ x. kept ≡ was_of x) = among_map_back was_of kept p.round.polled (subst (Among kept) polled h) in
      subst (λ (k : Kept). IsSeenAgain (old.live (key_of k)) (one.live (key_of k)) × GotNothing old.patience (old.live (key_of k)) (one.live (key_of k))) (sym m.holds)
      (by_fate m.item.was m.item.fate (each_at (IsPolled book ask old one) m.item p.round.polled p.round.each m.among) (each_at (InVain old one) m.item p.round.polled p.moves m.among))
    where
      by_fate : (was : Kept) (fate : Fate) → HasFate book ask old one was fate → IsVain old one was fate → IsSeenAgain (old.live (key_of was)) (one.live (key_of was)) × GotNothing old.patience (old.live (key_of was)) (one.live (key_of was))
      by_fate was (going now) has it = (has.again, it)
      by_fate was (over entry) has it = absurd it
      by_fate was lost has it = absurd it

  -- a key under which nothing was live was no subrequest's
  not_live : (key : ℕ) → old.live key ≡ None → NotAmong key (map key_of start)
  not_live key none h =
      let m : Member start (λ k. key ≡ key_of k) = among_map_back key_of key start h in
      let live : IsSome (old.live (key_of m.item)) = (stands.are_live.each m.item m.among).held_as.own.live in
      let gone : old.live (key_of m.item) ≡ None = ap old.live (sym m.holds) ∙ none in
      absurd (true≢false (sym (subst IsSome gone live)))

  pub waited : (asks now : ℕ) → now ≡ asks → Waited old one start subs1 asks now before mid
  waited asks now same =
      let lists : (map key_of (filter_map going_of p.round.polled) ≡ map key_of (map was_of p.round.polled)) × (map query_of (filter_map going_of p.round.polled) ≡ map query_of (map was_of p.round.polled)) × (filter_map entry_of p.round.polled ≡ []) =
      vain_keys book ask old one p.round.polled p.round.each p.moves in
      record {
        same_keys = ap (map key_of) goes ∙ (lists.0 ∙ ap (map key_of) (sym polled));
        same_queries = ap (map query_of) goes ∙ (lists.1 ∙ ap (map query_of) (sym polled));
        same_told = p.round.tells ∙ (ap (λ (xs : List Entry). before ++ xs) lists.2 ∙ append-nil before);
        same_asks = same;
        again = λ kept h. (vain_at kept h).0;
        nothing = λ kept h. (vain_at kept h).1;
        none = λ key gone. p.round.elsewhere key (not_live key gone) ∙ gone;
      }

-- ---- patience, and what is left

told_left : (patience : Option ℕ) (Q : Type 0) → IsSome patience → IfSome patience (λ (p : ℕ). (0 < p) × Q) → Q
told_left None Q told it = absurd (true≢false (sym told))
told_left (Some p) Q told it = it.1

told_less : (patience : Option ℕ) (Q : Type 0) → IsSome patience → IfSome patience (λ (p : ℕ). Q) → Q
told_less None Q told it = absurd (true≢false (sym told))
told_less (Some p) Q told it = it

told_waits : (patience : Option ℕ) (Q : Type 0) → IsSome patience → IfSome patience (λ (p : ℕ). (0 < p) × Q) → 0 < unwrap_or patience 0
told_waits None Q told it = absurd (true≢false (sym told))
told_waits (Some p) Q told it = it.0

pub not_raised_is : (a b : Option ℕ) → NotRaised a b → IsSome a → IsSome b × (unwrap_or b 0 ≤ unwrap_or a 0)
not_raised_is None b less told = absurd (true≢false (sym told))
not_raised_is (Some p) b less told = subst (λ (o : Option ℕ). IsSome o × (unwrap_or o 0 ≤ p)) (sym less.1) (refl, less.2)

-- the asks are as they were
stay_total : (old new : View) (subs : List Kept) → StayLive old new subs → total_left new subs ≡ total_left old subs
unfolding total_left
stay_total old new [] same = refl
stay_total old new (k ∷ subs) same =
    let here : (ask_at new (key_of k)).left ≡ (ask_at old (key_of k)).left = ap (λ (o : Option Live). (live_or_none o).left) (same k (inl refl)) in
    omega (arith, here, stay_total old new subs (λ g h. same g (inr h)))

sift_step : (v : View) (k : Kept) (subs kept : List Kept) (b : Bool) → total_left v kept ≤ total_left v subs → total_left v (cond b (k ∷ kept) kept) ≤ total_left v (k ∷ subs)
unfolding total_left
sift_step v k subs kept true less = omega (arith, less)
sift_step v k subs kept false less = omega (arith, less)

sift_strict : (v : View) (k : Kept) (subs kept : List Kept) (b : Bool) → total_left v kept < total_left v subs → total_left v (cond b (k ∷ kept) kept) < total_left v (k ∷ subs)
unfolding total_left
sift_strict v k subs kept true less = omega (arith, less)
sift_strict v k subs kept false less = omega (arith, less)

drop_strict : (v : View) (k : Kept) (subs kept : List Kept) (b : Bool) → b ≡ false → total_left v kept ≤ total_left v subs → total_left v (cond b (k ∷ kept) kept) < total_left v (k ∷ subs)
unfolding total_left
drop_strict v k subs kept true e less = absurd (true≢false e)
drop_strict v k subs kept false e less = omega (arith, less)

sifted_total : (v : View) (f : Kept → Bool) (subs : List Kept) → total_left v (filter f subs) ≤ total_left v subs
unfolding total_left
sifted_total v f [] = omega arith
sifted_total v f (k ∷ subs) = sift_step v k subs (filter f subs) (f k) (sifted_total v f subs)

sifted_less : (v : View) (f : Kept → Bool) (subs : List Kept) (x : Kept) → Among x subs → f x ≡ false → total_left v (filter f subs) < total_left v subs
sifted_less v f [] x h fails = absurd h
sifted_less v f (k ∷ subs) x (inl e) fails = drop_strict v k subs (filter f subs) (f k) (ap f (sym e) ∙ fails) (sifted_total v f subs)
sifted_less v f (k ∷ subs) x (inr h) fails = sift_strict v k subs (filter f subs) (f k) (sifted_less v f subs x h fails)

module _ (book : Book) (ask : TripAsk) (old one : View) (told : IsSome old.patience) where
  came_left : (was : Kept) → GotNothing old.patience (old.live (key_of was)) (one.live (key_of was)) ⊎ GotBytes old.patience (old.live (key_of was)) (one.live (key_of was)) → (ask_at one (key_of was)).left ≤ (ask_at old (key_of was)).left
  came_left was (inl it) = told_left old.patience ((ask_at one (key_of was)).left ≤ (ask_at old (key_of was)).left) told it.left
  came_left was (inr it) = let less : (ask_at one (key_of was)).left < (ask_at old (key_of was)).left = told_less old.patience ((ask_at one (key_of was)).left < (ask_at old (key_of was)).left) told it.left in omega (arith, less)

  poll_total : (was : Kept) (fate : Fate) (rest : List Kept) (start : List Kept) → HasFate book ask old one was fate → total_left one rest ≤ total_left old start → total_left one (cons_option (kept_by fate) rest) ≤ total_left old (was ∷ start)
  unfolding total_left
  poll_total was (going now) rest start has less =
      let here : (ask_at one (key_of was)).left ≤ (ask_at old (key_of was)).left = came_left was has.came in
      let key : (ask_at one (key_of now)).left ≡ (ask_at one (key_of was)).left = ap (λ (k : ℕ). (ask_at one k).left) has.key in
      omega (arith, less, here, key)
  poll_total was (over entry) rest start has less = omega (arith, less)
  poll_total was lost rest start has less = omega (arith, less)

  poll_less : (was : Kept) (fate : Fate) (rest : List Kept) (start : List Kept) → HasFate book ask old one was fate → IsNews old one was fate → total_left one rest ≤ total_left old start → total_left one (cons_option (kept_by fate) rest) < total_left old (was ∷ start)
  unfolding total_left
  poll_less was (going now) rest start has news less =
      let here : (ask_at one (key_of was)).left < (ask_at old (key_of was)).left = told_less old.patience ((ask_at one (key_of was)).left < (ask_at old (key_of was)).left) told news.left in
      let key : (ask_at one (key_of now)).left ≡ (ask_at one (key_of was)).left = ap (λ (k : ℕ). (ask_at one k).left) has.key in
      omega (arith, less, here, key)
  poll_less was (over entry) rest start has news less = omega (arith, less)
  poll_less was lost rest start has news less = absurd news

  poll_strict : (was : Kept) (fate : Fate) (rest : List Kept) (start : List Kept) → HasFate book ask old one was fate → total_left one rest < total_left old start → total_left one (cons_option (kept_by fate) rest) < total_left old (was ∷ start)
  unfolding total_left
  poll_strict was (going now) rest start has less =
      let here : (ask_at one (key_of was)).left ≤ (ask_at old (key_of was)).left = came_left was has.came in
      let key : (ask_at one (key_of now)).left ≡ (ask_at one (key_of was)).left = ap (λ (k : ℕ). (ask_at one k).left) has.key in
      omega (arith, less, here, key)
  poll_strict was (over entry) rest start has less = omega (arith, less)
  poll_strict was lost rest start has less = omega (arith, less)

  polled_total : (ps : List Polled) → Each (IsPolled book ask old one) ps → total_left one (filter_map going_of ps) ≤ total_left old (map was_of ps)
  unfolding total_left
  polled_total [] each = omega arith
  polled_total (p ∷ ps) each = poll_total p.was p.fate (filter_map going_of ps) (map was_of ps) each.0 (polled_total ps each.1)

  polled_less : (ps : List Polled) (x : Polled) → Among x ps → GotSome old one x → Each (IsPolled book ask old one) ps → total_left one (filter_map going_of ps) < total_left old (map was_of ps)
  polled_less [] x h news each = absurd h
  polled_less (p ∷ ps) x (inl e) news each = poll_less p.was p.fate (filter_map going_of ps) (map was_of ps) each.0 (subst (GotSome old one) e news) (polled_total ps each.1)
  polled_less (p ∷ ps) x (inr h) news each = poll_strict p.was p.fate (filter_map going_of ps) (map was_of ps) each.0 (polled_less ps x h news each.1)

  vain_waits : (was : Kept) (fate : Fate) → IsVain old one was fate → 0 < patience_of old
  vain_waits was (going now) vain = told_waits old.patience ((ask_at one (key_of was)).left ≤ (ask_at old (key_of was)).left) told vain.left
  vain_waits was (over entry) vain = absurd vain
  vain_waits was lost vain = absurd vain

  vains_wait : (start : List Kept) (ps : List Polled) → start ≡ map was_of ps → start ≢ [] → Each (InVain old one) ps → 0 < patience_of old
  vains_wait start [] e some vain = absurd (some e)
  vains_wait start (p ∷ ps) e some vain = vain_waits p.was p.fate vain.0

total_moves : (book : Book) (ask : TripAsk) (old one two : View) (start subs1 subs2 : List Kept) (before mid : List Entry) (came cancelled : Bool)
    → IsSome old.patience → (p : PollsTo came (length start) book ask old one start subs1 before mid) → start ≡ map was_of p.round.polled → subs1 ≡ filter_map going_of p.round.polled
    → subs2 ≡ filter (is_still_wanted book ask mid) subs1 → StayLive one two subs2 → Cancels cancelled book ask mid one two subs1 subs2
    → (came || cancelled) ≡ true → total_left two subs2 < total_left old start
total_moves book ask old one two start subs1 subs2 before mid true cancelled told p polled goes sifted same cancels moved =
    let stays : total_left two subs2 ≡ total_left one subs2 = stay_total one two subs2 same in
    let less : total_left one subs2 ≤ total_left one subs1 = subst (λ (xs : List Kept). total_left one xs ≤ total_left one subs1) (sym sifted) (sifted_total one (is_still_wanted book ask mid) subs1) in
    let polls : total_left one (filter_map going_of p.round.polled) < total_left old (map was_of p.round.polled) = polled_less book ask old one told p.round.polled p.moves.0 p.moves.1 p.moves.2 p.round.each in
    let there : total_left one subs1 ≡ total_left one (filter_map going_of p.round.polled) = ap (total_left one) goes in
    let here : total_left old start ≡ total_left old (map was_of p.round.polled) = ap (total_left old) polled in
    omega (arith, stays, less, polls, there, here)
total_moves book ask old one two start subs1 subs2 before mid false true told p polled goes sifted same cancels moved =
    let stays : total_left two subs2 ≡ total_left one subs2 = stay_total one two subs2 same in
    let less : total_left one subs2 < total_left one subs1 = subst (λ (xs : List Kept). total_left one xs < total_left one subs1) (sym sifted)
    (sifted_less one (is_still_wanted book ask mid) subs1 cancels.0 cancels.1 (unwanted_is book ask mid cancels.0 cancels.2)) in
    let polls : total_left one (filter_map going_of p.round.polled) ≤ total_left old (map was_of p.round.polled) = polled_total book ask old one told p.round.polled p.round.each in
    let there : total_left one subs1 ≡ total_left one (filter_map going_of p.round.polled) = ap (total_left one) goes in
    let here : total_left old start ≡ total_left old (map was_of p.round.polled) = ap (total_left old) polled in
    omega (arith, stays, less, polls, there, here)
  where
    unwanted_is : (book : Book) (ask : TripAsk) (mid : List Entry) (k : Kept) → NotAmong k.query (wanted book ask mid) → is_still_wanted book ask mid k ≡ false
    unwanted_is book ask mid k none = elim (cases_Bool (is_still_wanted book ask mid k)) [ inl holds ↦ absurd (none (is_among_is (wanted book ask mid) k.query holds)) | inr fails ↦ fails ]
total_moves book ask old one two start subs1 subs2 before mid false false told p polled goes sifted same cancels moved = absurd (true≢false (sym moved))

or_first : (a b : Bool) → (a || b) ≡ false → a ≡ false
or_first true b e = e
or_first false b e = refl

vain_moves : (came : Bool) (old one : View) (ps : List Polled) → came ≡ false → Moves came old one ps → Each (InVain old one) ps
vain_moves true old one ps e moves = absurd (true≢false e)
vain_moves false old one ps e moves = moves

or_false : (a : Bool) → (a || false) ≡ a
or_false true = refl
or_false false = refl

tires_by : (book : Book) (ask : TripAsk) (old one two new : View) (start subs1 subs2 subs3 : List Kept) (before mid after : List Entry) (came cancelled some : Bool) (asks now : ℕ)
    → (p : PollsTo came (length start) book ask old one start subs1 before mid) → start ≡ map was_of p.round.polled → subs1 ≡ filter_map going_of p.round.polled
    → subs2 ≡ filter (is_still_wanted book ask mid) subs1 → StayLive one two subs2 → Cancels cancelled book ask mid one two subs1 subs2 → NotRaised one.patience two.patience
    → AsksSome some asks now two new subs2 subs3 mid after → IsSome old.patience → now ≡ asks → start ≢ [] → Tires ((came || cancelled) || some) old new start subs3
tires_by book ask old one two new start subs1 subs2 subs3 before mid after came cancelled true asks now p polled goes sifted same cancels patient asked told still some_live = absurd (omega (arith, asked, still))
tires_by book ask old one two new start subs1 subs2 subs3 before mid after came cancelled false asks now p polled goes sifted same cancels patient asked told still some_live =
    let less : NotRaised old.patience two.patience = not_raised_on old.patience one.patience two.patience p.round.patience patient in
    let lower : IsSome two.patience × (patience_of two ≤ patience_of old) = not_raised_is old.patience two.patience less told in
    let stays : total_left two subs2 ≡ total_left one subs2 = stay_total one two subs2 same in
    let sift : total_left one subs2 ≤ total_left one subs1 = subst (λ (xs : List Kept). total_left one xs ≤ total_left one subs1) (sym sifted) (sifted_total one (is_still_wanted book ask mid) subs1) in
    let polls : total_left one (filter_map going_of p.round.polled) ≤ total_left old (map was_of p.round.polled) = polled_total book ask old one told p.round.polled p.round.each in
    let there : total_left one subs1 ≡ total_left one (filter_map going_of p.round.polled) = ap (total_left one) goes in
    let here : total_left old start ≡ total_left old (map was_of p.round.polled) = ap (total_left old) polled in
    let it : Tires ((came || cancelled) || false) old two start subs2 = record {
      told = lower.0;
      patience = lower.1;
      left = omega (arith, stays, sift, polls, there, here);
      moves = λ e. total_moves book ask old one two start subs1 subs2 before mid came cancelled told p polled goes sifted same cancels (sym (or_false (came || cancelled)) ∙ e);
      waits = λ e. vains_wait book ask old one told start p.round.polled polled some_live (vain_moves came old one p.round.polled (or_first came cancelled (or_first (came || cancelled) false e)) p.moves);
    } in
    subst (λ (v : View). Tires ((came || cancelled) || false) old v start subs3) (sym asked.1.same_links)
    (subst (λ (xs : List Kept). Tires ((came || cancelled) || false) old two start xs) (sym asked.1.same_subs) it)

-- ---- all together

pub moves_by : (book : Book) (ask : TripAsk) (old one two new : View) (start subs1 subs2 subs3 : List Kept) (before mid after : List Entry) (came cancelled some : Bool) (asks now : ℕ)
    → (p : PollsTo came (length start) book ask old one start subs1 before mid)
    → subs2 ≡ filter (is_still_wanted book ask mid) subs1 → StayLive one two subs2 → Cancels cancelled book ask mid one two subs1 subs2
    → AsksMore book ask two new subs2 subs3 mid after → AsksSome some asks now two new subs2 subs3 mid after → AllWanted book ask after subs3 → StandsIn book ask before start old
    → MovesBy ((came || cancelled) || some) old new start subs3 asks now before after
moves_by book ask old one two new start subs1 subs2 subs3 before mid after true cancelled some asks now p sifted same cancels more asked all stands =
    came_moved book ask old one two new start subs1 subs2 subs3 before mid after true p sifted same more all asks now p.moves
moves_by book ask old one two new start subs1 subs2 subs3 before mid after false true some asks now p sifted same cancels more asked all stands =
    cancelled_moved book ask old one two new start subs1 subs2 subs3 before mid after false p sifted same more all asks now cancels
moves_by book ask old one two new start subs1 subs2 subs3 before mid after false false true asks now p sifted same cancels more asked all stands = inl asked
moves_by book ask old one two new start subs1 subs2 subs3 before mid after false false false asks now p sifted same cancels more asked all stands =
    let polled : start ≡ map was_of p.round.polled = all_polled book ask old one two new start subs1 subs2 subs3 before mid after false p sifted same more all in
    let goes : subs1 ≡ filter_map going_of p.round.polled = all_going book ask old one two new start subs1 subs2 subs3 before mid after false p sifted same more all in
    let it : Waited old one start subs1 asks now before mid = waited book ask old one start subs1 before mid p polled goes stands asks now asked.0 in
    let links : new ≡ one = asked.1.same_links ∙ cancels.same_links in
    let subs : subs3 ≡ subs1 = asked.1.same_subs ∙ cancels.same_subs in
    subst (λ (v : View). Waited old v start subs3 asks now before after) (sym links)
    (subst (λ (xs : List Kept). Waited old one start xs asks now before after) (sym subs)
    (subst (λ (es : List Entry). Waited old one start subs1 asks now before es) (sym asked.1.same_told) it))

pub settles : (book : Book) (ask : TripAsk) (old one two new : View) (start subs1 subs2 subs3 : List Kept) (before mid after : List Entry) (came cancelled some : Bool) (asks now : ℕ)
    → (p : PollsTo came (length start) book ask old one start subs1 before mid)
    → subs2 ≡ filter (is_still_wanted book ask mid) subs1 → StayLive one two subs2 → Cancels cancelled book ask mid one two subs1 subs2
    → AsksMore book ask two new subs2 subs3 mid after → AsksSome some asks now two new subs2 subs3 mid after → AllWanted book ask after subs3 → StandsIn book ask before start old
    → StandsIn book ask after subs3 new → NotRaised one.patience two.patience → ((query : Query) → Among query (wanted book ask after) → Among query (map query_of subs3))
    → Settles ((came || cancelled) || some) book ask old new start subs3 asks now before after
settles book ask old one two new start subs1 subs2 subs3 before mid after came cancelled some asks now p sifted same cancels more asked all stands last patient none_missing =
    record {
      just_wanted = record { just_these = λ query. (all query, none_missing query); once = last.are_open.once };
      looks = looks_at_all book ask old one two new start subs1 subs2 subs3 before mid after came p sifted same more all;
      moves = moves_by book ask old one two new start subs1 subs2 subs3 before mid after came cancelled some asks now p sifted same cancels more asked all stands;
      tires = λ told still some_live.
          tires_by book ask old one two new start subs1 subs2 subs3 before mid after came cancelled some asks now p
          (all_polled book ask old one two new start subs1 subs2 subs3 before mid after came p sifted same more all) (all_going book ask old one two new start subs1 subs2 subs3 before mid after came p sifted same more all)
          sifted same cancels patient asked told still some_live;
    }

-- ---- before the asks

-- what is live after the cancelling may be asked on
pub asking_next : (book : Book) (ask : TripAsk) (old one two : View) (start subs1 subs2 : List Kept) (before mid : List Entry) (came : Bool) (last : List (Option Query)) (asks : ℕ)
    → (p : PollsTo came (length start) book ask old one start subs1 before mid) → subs2 ≡ filter (is_still_wanted book ask mid) subs1
    → AreAsked book ask before start last → IsWithinBound book ask last asks → StandsIn book ask mid subs2 two → IsAsking book ask mid subs2 last asks two
asking_next book ask old one two start subs1 subs2 before mid came last asks p sifted asked bounded stands =
    record {
      stands = stands;
      asked = asked_sifted book ask mid subs1 subs2 last sifted
          (asked_polled book ask old one start subs1 before mid last came (length start) p (whole_ahead book ask old one start subs1 before mid came p) asked);
      bounded = bounded;
      all_wanted = sifted_wanted book ask mid subs1 subs2 sifted;
    }
