-- The lines of a whole turn.
use Rattle.std.proofs.Common.{◌≡◌, ℕ, ◌+◌, Bool, true, false, cond, not, List, [], ◌∷◌, ◌++◌, map, filter, length, refl, sym, ◌∙◌, ap, subst, inl, inr, append-nil}
use Rattle.std.specs.List.{filter_map}
use Rattle.std.proofs.lemmas.Bool.{true≢false, cases_Bool}
use Rattle.ojp_values.specs.Lists.{Among, Each}
use Rattle.ojp_values.specs.declared.asks.TripAsk.{TripAsk}
use Rattle.ojp_values.proofs.ListFacts.{Member, among_append_right, among_filter, among_filter_back, among_filter_map, among_map, among_map_back, each_at}
use Rattle.ojp_exchange.specs.Book.{Book}
use Rattle.ojp_links.specs.Seen.{View}
use Rattle.ojp_records.specs.declared.queries.Query.{Query}
use Rattle.ojp_records.specs.declared.queries.Entry.{Entry}
use Rattle.ojp_records.specs.Records.{is_told}
use Rattle.ojp_records.specs.Wanted.{wanted}
use Rattle.ojp_records.proofs.BoardFacts.{wanted_is_untold}
use Rattle.ojp_records.proofs.RecordFacts.{is_told_is}
use Rattle.ojp_traces.specs.Lines.{TraceView}
use Rattle.ojp_traces.specs.TurnEvents.{LiveAsk, asked_query, is_among, going_on, is_wanted, drop_event, end_event, drop_events, new_queries, ask_events, begun_asks, live_after}
use Rattle.ojp_turns.specs.declared.kept.Kept.{Kept}
use Rattle.ojp_turns.specs.Held.{NotAmong, query_of, StandsIn}
use Rattle.ojp_turns.specs.Polling.{Fate, going, over, lost, Polled, HasFate, IsPolled, was_of, kept_by, going_of, told_by, entry_of, IsKept, PollsTo}
use Rattle.ojp_turns.specs.Asking.{is_still_wanted}
use Rattle.ojp_outside.specs.Causes.{next_count}
use Rattle.ojp_turns.specs.declared.search.Outcome.{Outcome}
use Rattle.ojp_turns.specs.declared.search.Outcome.TheVariants as outcomes
use Rattle.ojp_turns.specs.declared.search.Search.{Search}
use Rattle.ojp_turns.specs.declared.search.Turn.{Turn}
use Rattle.ojp_turns.specs.declared.search.Turn.TheVariants as turns
use Rattle.ojp_turns.specs.Searches.{asked_for, asks_of, held_of, record_of}
use Rattle.ojp_turns.specs.Tracing.{Adds, Grew, Traces, UnlessLost, live_ask, live_asks, drops_of, missing_queries, TracesEnds, TracesAsks, TracesTurn, turns_of}
use Rattle.ojp_turns.proofs.AskedFacts.{among_is, is_among_is}
use Rattle.ojp_turns.proofs.RoundFacts.{whole_ahead}
use Rattle.ojp_turns.proofs.TraceFacts.{adds_on, stays_off}

-- ---- those that went on

-- what is known of each poll: it went on and nothing was told of its query, or its end was told
abbrev FateTold : List Entry → Kept → Fate → Type 0
FateTold told was (going now) = (live_ask now ≡ live_ask was) × (is_told told was.query ≡ false)
FateTold told was (over entry) = is_told told was.query ≡ true
FateTold told was lost = ⊥

one_left : (told : List Entry) (was : Kept) (fate : Fate) (p : Polled) (rest : List Polled) → p.was ≡ was → p.fate ≡ fate → FateTold told was fate → live_asks (filter_map going_of rest) ≡ filter (λ (a : LiveAsk). not (is_told told a.query)) (live_asks (map was_of rest))
    → live_asks (filter_map going_of (p ∷ rest)) ≡ filter (λ (a : LiveAsk). not (is_told told a.query)) (live_asks (map was_of (p ∷ rest)))
one_left told was (going now) p rest w f it e =
    let goes : live_asks (filter_map going_of (p ∷ rest)) ≡ live_ask now ∷ live_asks (filter_map going_of rest) = ap (λ (x : Fate). live_asks (filter_map going_of (record { was = p.was; fate = x } ∷ rest))) f in
    let tail : List LiveAsk = filter (λ (a : LiveAsk). not (is_told told a.query)) (live_asks (map was_of rest)) in
    let stays : filter (λ (a : LiveAsk). not (is_told told a.query)) (live_asks (map was_of (p ∷ rest))) ≡ live_ask was ∷ tail =
    ap (λ (k : Kept). filter (λ (a : LiveAsk). not (is_told told a.query)) (live_ask k ∷ live_asks (map was_of rest))) w ∙ ap (λ (b : Bool). cond (not b) (live_ask was ∷ tail) tail) it.1 in
    goes ∙ (ap (λ (a : LiveAsk). a ∷ live_asks (filter_map going_of rest)) it.0 ∙ (ap (λ (xs : List LiveAsk). live_ask was ∷ xs) e ∙ sym stays))
one_left told was (over entry) p rest w f it e =
    let goes : live_asks (filter_map going_of (p ∷ rest)) ≡ live_asks (filter_map going_of rest) = ap (λ (x : Fate). live_asks (filter_map going_of (record { was = p.was; fate = x } ∷ rest))) f in
    let tail : List LiveAsk = filter (λ (a : LiveAsk). not (is_told told a.query)) (live_asks (map was_of rest)) in
    let stays : filter (λ (a : LiveAsk). not (is_told told a.query)) (live_asks (map was_of (p ∷ rest))) ≡ tail =
    ap (λ (k : Kept). filter (λ (a : LiveAsk). not (is_told told a.query)) (live_ask k ∷ live_asks (map was_of rest))) w ∙ ap (λ (b : Bool). cond (not b) (live_ask was ∷ tail) tail) it in
    goes ∙ (e ∙ sym stays)
one_left told was lost p rest w f it e = absurd it

all_left : (told : List Entry) (ps : List Polled) → ((p : Polled) → Among p ps → FateTold told p.was p.fate) → live_asks (filter_map going_of ps) ≡ filter (λ (a : LiveAsk). not (is_told told a.query)) (live_asks (map was_of ps))
all_left told [] each = refl
all_left told (p ∷ ps) each = one_left told p.was p.fate p ps refl refl (each p (inl refl)) (all_left told ps (λ q h. each q (inr h)))

module _ (book : Book) (ask : TripAsk) (old one : View) (start subs : List Kept) (before told : List Entry) (came : Bool) (p : PollsTo came (length start) book ask old one start subs before told) (stands : StandsIn book ask told subs one) where
  fate_told : (x : Polled) (was : Kept) (fate : Fate) → x.was ≡ was → x.fate ≡ fate → Among x p.round.polled → HasFate book ask old one was fate → IsKept fate → FateTold told was fate
  fate_told x was (going now) w f h has kept =
      let here : Among now subs =
      subst (Among now) (sym (p.round.turned ∙ ap (λ (xs : List Kept). xs ++ filter_map going_of p.round.polled) (whole_ahead book ask old one start subs before told came p)))
      (among_filter_map going_of x now p.round.polled h (ap kept_by f)) in (
        (λ i. record { number = has.number i; query = has.query i }),
        subst (λ (q : Query). is_told told q ≡ false) has.query (stands.are_open.each now here).untold,
      )
  fate_told x was (over entry) w f h has kept =
      is_told_is told entry was.query (subst (Among entry) (sym p.round.tells) (among_append_right entry before (filter_map entry_of p.round.polled) (among_filter_map entry_of x entry p.round.polled h (ap told_by f)))) has.query
  fate_told x was lost w f h has kept = kept

  -- what is live after the polls went on
  pub live_goes : live_asks subs ≡ going_on told (live_asks start)
  live_goes =
      let whole : p.round.ahead ≡ [] = whole_ahead book ask old one start subs before told came p in
      ap live_asks (p.round.turned ∙ ap (λ (xs : List Kept). xs ++ filter_map going_of p.round.polled) whole)
      ∙ (all_left told p.round.polled (λ x h. fate_told x x.was x.fate refl refl h (each_at (IsPolled book ask old one) x p.round.polled p.round.each h) (each_at (λ (y : Polled). IsKept y.fate) x p.round.polled p.none_lost h))
      ∙ ap (λ (xs : List Kept). going_on told (live_asks xs)) (sym (p.round.split ∙ (ap (λ (xs : List Kept). map was_of p.round.polled ++ xs) whole ∙ append-nil (map was_of p.round.polled)))))

-- ---- those that are wanted still

map_sifted : (book : Book) (ask : TripAsk) (told : List Entry) (subs : List Kept) → live_asks (filter (is_still_wanted book ask told) subs) ≡ filter (is_wanted book ask told) (live_asks subs)
map_sifted book ask told [] = refl
map_sifted book ask told (k ∷ subs) =
    elim (cases_Bool (is_still_wanted book ask told k)) [
      | inl holds ↦
          ap (λ (b : Bool). live_asks (cond b (k ∷ filter (is_still_wanted book ask told) subs) (filter (is_still_wanted book ask told) subs))) holds
          ∙ (ap (λ (xs : List LiveAsk). live_ask k ∷ xs) (map_sifted book ask told subs)
          ∙ sym (ap (λ (b : Bool). cond b (live_ask k ∷ filter (is_wanted book ask told) (live_asks subs)) (filter (is_wanted book ask told) (live_asks subs))) holds))
      | inr fails ↦
          ap (λ (b : Bool). live_asks (cond b (k ∷ filter (is_still_wanted book ask told) subs) (filter (is_still_wanted book ask told) subs))) fails
          ∙ (map_sifted book ask told subs
          ∙ sym (ap (λ (b : Bool). cond b (live_ask k ∷ filter (is_wanted book ask told) (live_asks subs)) (filter (is_wanted book ask told) (live_asks subs))) fails))
    ]

filter_same : (p r : Query → Bool) (qs : List Query) → ((q : Query) → Among q qs → p q ≡ r q) → filter p qs ≡ filter r qs
filter_same p r [] same = refl
filter_same p r (q ∷ qs) same =
    ap (λ (b : Bool). cond b (q ∷ filter p qs) (filter p qs)) (same q (inl refl)) ∙ ap (λ (xs : List Query). cond (r q) (q ∷ xs) xs) (filter_same p r qs (λ x h. same x (inr h)))

-- a wanted query is asked by one of them just where one of those that are wanted still asks it
wanted_asked : (book : Book) (ask : TripAsk) (told : List Entry) (live : List LiveAsk) (q : Query) → Among q (wanted book ask told) → is_among (map asked_query (filter (is_wanted book ask told) live)) q ≡ is_among (map asked_query live) q
wanted_asked book ask told live q h =
    elim (cases_Bool (is_among (map asked_query (filter (is_wanted book ask told) live)) q)) [
      | inl holds ↦
          let m : Member (filter (is_wanted book ask told) live) (λ (a : LiveAsk). q ≡ asked_query a) = among_map_back asked_query q (filter (is_wanted book ask told) live) (is_among_is (map asked_query (filter (is_wanted book ask told) live)) q holds) in
          holds ∙ sym (among_is (map asked_query live) q (subst (λ (x : Query). Among x (map asked_query live)) (sym m.holds) (among_map asked_query m.item live (among_filter_back (is_wanted book ask told) m.item live m.among).0)))
      | inr fails ↦
          elim (cases_Bool (is_among (map asked_query live) q)) [
            | inl there ↦
                let m : Member live (λ (a : LiveAsk). q ≡ asked_query a) = among_map_back asked_query q live (is_among_is (map asked_query live) q there) in
                let kept : Among m.item (filter (is_wanted book ask told) live) =
                among_filter (is_wanted book ask told) m.item live m.among (among_is (wanted book ask told) m.item.query (subst (λ (x : Query). Among x (wanted book ask told)) m.holds h)) in
                absurd (true≢false (sym (among_is (map asked_query (filter (is_wanted book ask told) live)) q
                (subst (λ (x : Query). Among x (map asked_query (filter (is_wanted book ask told) live))) (sym m.holds) (among_map asked_query m.item (filter (is_wanted book ask told) live) kept))) ∙ fails))
            | inr none ↦ fails ∙ sym none
          ]
    ]

-- ---- all together

module _ (turn : ℕ) (book : Book) (ask : TripAsk) (start subs1 subs2 subs3 : List Kept) (before mid after : List Entry) (asks now : ℕ) (t0 t1 t2 t3 : TraceView)
    (ends : TracesEnds turn start before mid t0 t1) (goes : live_asks subs1 ≡ going_on mid (live_asks start)) (drops : Adds turn t1 t2 (drops_of book ask mid subs1)) (sifted : subs2 ≡ filter (is_still_wanted book ask mid) subs1)
    (made : TracesAsks turn book ask subs2 subs3 mid after asks now t2 t3) where
  sifted_asks : live_asks subs2 ≡ filter (is_wanted book ask mid) (going_on mid (live_asks start))
  sifted_asks = ap live_asks sifted ∙ (map_sifted book ask mid subs1 ∙ ap (filter (is_wanted book ask mid)) goes)

  pub missing_are : missing_queries book ask mid subs2 ≡ new_queries book ask mid (live_asks start)
  missing_are =
      ap (λ (xs : List LiveAsk). filter (λ q. not (is_among (map asked_query xs) q)) (wanted book ask mid)) sifted_asks
      ∙ filter_same (λ q. not (is_among (map asked_query (filter (is_wanted book ask mid) (going_on mid (live_asks start)))) q)) (λ q. not (is_among (map asked_query (going_on mid (live_asks start))) q)) (wanted book ask mid)
      (λ q h. ap not (wanted_asked book ask mid (going_on mid (live_asks start)) q h))

  -- a new query is of no ask that was live
  new_apart : (q : Query) → Among q (new_queries book ask mid (live_asks start)) → NotAmong q (map query_of start)
  new_apart q h there =
      let new : Among q (wanted book ask mid) × (not (is_among (map asked_query (going_on mid (live_asks start))) q) ≡ true) =
      among_filter_back (λ r. not (is_among (map asked_query (going_on mid (live_asks start))) r)) q (wanted book ask mid) h in
      let m : Member start (λ (k : Kept). q ≡ query_of k) = among_map_back query_of q start there in
      let none : is_told mid m.item.query ≡ false = wanted_is_untold book ask mid m.item.query (subst (λ (x : Query). Among x (wanted book ask mid)) m.holds new.0) in
      let on : Among (live_ask m.item) (going_on mid (live_asks start)) = among_filter (λ (a : LiveAsk). not (is_told mid a.query)) (live_ask m.item) (live_asks start) (among_map live_ask m.item start m.among) (ap not none) in
      let is : is_among (map asked_query (going_on mid (live_asks start))) q ≡ true =
      among_is (map asked_query (going_on mid (live_asks start))) q (subst (λ (x : Query). Among x (map asked_query (going_on mid (live_asks start)))) (sym m.holds) (among_map asked_query (live_ask m.item) (going_on mid (live_asks start)) on)) in
      true≢false (sym new.1 ∙ ap not is)

  each_new : (es : List Entry) → Each (λ (entry : Entry). Among entry.query (new_queries book ask mid (live_asks start))) es → Each (λ (entry : Entry). NotAmong entry.query (map query_of start)) es
  each_new [] all = tt
  each_new (e ∷ es) all = (new_apart e.query all.0, each_new es all.1)

  pub traces_turn : TracesTurn turn book ask start subs3 before after asks now t0 t3
  traces_turn =
      let heard : List Entry = ends.heard in
      record {
        heard = ends.heard;
        refused = made.refused;
        tells = made.tells ∙ ap (λ (xs : List Entry). xs ++ made.refused) ends.tells;
        of_live = ends.of_live;
        of_new = each_new made.refused (subst (λ (qs : List Query). Each (λ (entry : Entry). Among entry.query qs) made.refused) missing_are made.of_missing);
        counted = made.counted ∙ ap (λ (qs : List Query). asks + length qs) (missing_are ∙ ap (λ (m : List Entry). new_queries book ask m (live_asks start)) ends.tells);
        live = made.live
            ∙ (ap (λ (xs : List LiveAsk). xs ++ begun_asks after asks (missing_queries book ask mid subs2)) sifted_asks
            ∙ (ap (λ (qs : List Query). filter (is_wanted book ask mid) (going_on mid (live_asks start)) ++ begun_asks after asks qs) missing_are
            ∙ ap (λ (m : List Entry). live_after book ask (live_asks start) asks m after) ends.tells));
        adds = subst (λ (m : List Entry). Adds turn t0 t3 (map (end_event (live_asks start)) ends.heard ++ (drop_events book ask m (live_asks start) ++ ask_events after asks (new_queries book ask m (live_asks start))))) ends.tells
            (adds_on turn t0 t1 t3 (map (end_event (live_asks start)) ends.heard) (drop_events book ask mid (live_asks start) ++ ask_events after asks (new_queries book ask mid (live_asks start))) ends.adds
            (adds_on turn t1 t2 t3 (drop_events book ask mid (live_asks start)) (ask_events after asks (new_queries book ask mid (live_asks start)))
            (subst (λ (xs : List LiveAsk). Adds turn t1 t2 (map drop_event (filter (λ (live : LiveAsk). not (is_wanted book ask mid live)) xs))) goes drops)
            (subst (λ (qs : List Query). Adds turn t2 t3 (ask_events after asks qs)) missing_are made.adds)));
      }

-- ---- what a trace gains

pub traces_on : (book : Book) (s now : Search) (old new : TraceView) (answer : Turn) → turns_of now ≡ next_count (turns_of s) → Grew (turns_of now) old new
    → UnlessLost answer (TracesTurn (turns_of now) book (asked_for s) (held_of s) (held_of now) (record_of s) (record_of now) (asks_of s) (asks_of now) old new) → Traces book s now old new answer
traces_on book s now old new answer counted grew lines = record { counted = counted; stays_off = stays_off (turns_of now) old new grew; grew = grew; lines = lines }

pub unless_done : (outcome : Outcome) (P : Type 0) → P → UnlessLost (turns.Done outcome) P
unless_done (outcomes.Trip trip) P it = it
unless_done (outcomes.Fault fault) P it = it
unless_done outcomes.NoMemory P it = tt
