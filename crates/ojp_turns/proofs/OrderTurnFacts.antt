-- A turn over links that tell their order and their timetables leads where the definition's turn does.
use Rattle.std.proofs.Common.{◌≡◌, ◌≢◌, ℕ, suc, ◌+◌, Bool, true, false, cond, not, List, [], ◌∷◌, ◌++◌, map, filter, length, Option, Some, None, refl, sym, ◌∙◌, ap, subst, inl, inr, append-nil, arith}
use Rattle.std.proofs.lemmas.Bool.{cases_Bool}
use Rattle.std.proofs.lemmas.List.{map-append, append_cancel_left}
use Rattle.ojp_outside.specs.Causes.{Rests, Rose}
use Rattle.ojp_values.specs.Lists.{Among, Each}
use Rattle.ojp_values.specs.Texts.{Text}
use Rattle.ojp_values.specs.declared.asks.TripAsk.{TripAsk}
use Rattle.ojp_values.specs.declared.replies.Delivery.{Delivery}
use Rattle.ojp_values.proofs.ListFacts.{among_append, among_filter_back, each_at}
use Rattle.ojp_exchange.specs.Book.{Book}
use Rattle.ojp_links.specs.Seen.{View, Live, Fixed, live_or_none}
use Rattle.ojp_links.specs.Calls.{Keeps}
use Rattle.ojp_records.specs.declared.queries.Query.{Query}
use Rattle.ojp_records.specs.declared.queries.Entry.{Entry}
use Rattle.ojp_records.specs.Records.{is_failed, region_of}
use Rattle.ojp_records.specs.Wanted.{wanted}
use Rattle.ojp_records.proofs.BoardFacts.{wanted_is_untold}
use Rattle.ojp_traces.specs.declared.events.Event.{Event}
use Rattle.ojp_traces.specs.declared.events.Event.TheVariants.{Asked, Replied, Failed}
use Rattle.ojp_traces.specs.Lines.{TraceView, event_lines, shown}
use Rattle.ojp_traces.specs.TurnEvents.{LiveAsk, asked_query, is_among, going_on, number_of, end_event, drop_event, ask_events, begun_asks}
use Rattle.ojp_traces.specs.TurnEvents as events
use Rattle.ojp_traces.specs.Traces.{Waiting, Standing, turns_needed, is_due, is_later, is_wanted, is_unwanted, is_new, entry_of, asked_event, replied_event, dropped_event, asks_for, after_replies, told_in, turned}
use Rattle.ojp_traces.specs.Traces as traces
use Rattle.ojp_turns.specs.declared.kept.Kept.{Kept}
use Rattle.ojp_turns.specs.Held.{key_of, query_of, AreApart}
use Rattle.ojp_turns.specs.Faults.{HasCause, FaultRose}
use Rattle.ojp_turns.specs.Asking.{is_still_wanted, StayLive, AsksMore}
use Rattle.ojp_turns.specs.Tracing.{Adds, live_ask, live_asks, drops_of, missing_queries, TracesEnds, TracesAsks}
use Rattle.ojp_turns.specs.Ordering.{NoFaultRose, AreUntaken, waiting_in, waiting_all, told_query, PollsDue, RoundOrder, IsBegunIn, BeginsAll, AsksOrder, Agrees, standing, TurnsDue, TurnOrder}
use Rattle.ojp_turns.proofs.RoundFacts.{fault_from}
use Rattle.ojp_turns.proofs.TraceAskFacts.{untold_unfailed}
use Rattle.ojp_turns.proofs.TracePollFacts.{number_is}
use Rattle.ojp_turns.proofs.TraceTurnFacts.{missing_are}
use Rattle.ojp_turns.proofs.OrderPollFacts.{same_waiting}

-- ---- nothing is refused

-- a count that did not rise is no cause
pub no_rise : (a b : ℕ) → Rests a b → Rose a b → ⊥
no_rise a b rests rose = omega (arith, rests.same, rests.below_end, rose)

pub no_cause : (old new : View) (entry : Entry) → NoFaultRose old new → HasCause old new entry → entry.reply ≢ None
no_cause old new entry calm cause none =
    let rose : FaultRose old new (region_of entry.query) = cause none in
    no_rise (old.faults rose.0) (new.faults rose.0) (calm rose.0 rose.1) rose.3

none_refused : (old two new : View) (refused : List Entry) → Keeps old two → NoFaultRose old new → Each (λ (entry : Entry). entry.reply ≡ None) refused → Each (HasCause two new) refused → refused ≡ []
none_refused old two new [] keeps calm none causes = refl
none_refused old two new (e ∷ es) keeps calm none causes = absurd (no_cause old new e calm (λ n. fault_from old two new (region_of e.query) keeps (causes.0 n)) none.0)

-- ---- the asks that were made

-- an ask with its due turn, by its number
abbrev due_of : ℕ → ℕ → LiveAsk → Waiting
due_of order turn live = record { number = live.number; query = live.query; due = turn + turns_needed order live.number }

begun_due : (order turn : ℕ) (v : View) (begun : List Kept) → Each (IsBegunIn order v) begun → waiting_all turn v begun ≡ map (due_of order turn) (live_asks begun)
begun_due order turn v [] all = refl
begun_due order turn v (k ∷ begun) all =
    ap (λ (n : ℕ). record { number = k.number; query = k.query; due = turn + n } ∷ waiting_all turn v begun) all.0.0
    ∙ ap (λ (ws : List Waiting). due_of order turn (live_ask k) ∷ ws) (begun_due order turn v begun all.1)

asks_due : (order turn : ℕ) (after : List Entry) (made : ℕ) (qs : List Query) → ((q : Query) → Among q qs → is_failed after q ≡ false) → map (due_of order turn) (begun_asks after made qs) ≡ asks_for order turn made qs
asks_due order turn after made [] none = refl
asks_due order turn after made (q ∷ qs) none =
    ap (λ (b : Bool). map (due_of order turn) (cond b [] (record { number = made + 1; query = q } ∷ []) ++ begun_asks after (made + 1) qs)) (none q (inl refl))
    ∙ ap (λ (ws : List Waiting). due_of order turn (record { number = made + 1; query = q }) ∷ ws) (asks_due order turn after (made + 1) qs (λ r h. none r (inr h)))

asks_events : (order turn : ℕ) (after : List Entry) (made : ℕ) (qs : List Query) → ((q : Query) → Among q qs → is_failed after q ≡ false) → ask_events after made qs ≡ map asked_event (asks_for order turn made qs)
asks_events order turn after made [] none = refl
asks_events order turn after made (q ∷ qs) none =
    ap (λ (b : Bool). Asked (made + 1) q ∷ (cond b (Failed (made + 1) ∷ []) [] ++ ask_events after (made + 1) qs)) (none q (inl refl))
    ∙ ap (λ (es : List Event). Asked (made + 1) q ∷ es) (asks_events order turn after (made + 1) qs (λ r h. none r (inr h)))

asks_long : (order turn made : ℕ) (qs : List Query) → length (asks_for order turn made qs) ≡ length qs
asks_long order turn made [] = refl
asks_long order turn made (q ∷ qs) = ap suc (asks_long order turn (made + 1) qs)

-- ---- the asks that were live

waiting_queries : (turn : ℕ) (v : View) (subs : List Kept) → map traces.query_of (waiting_all turn v subs) ≡ map asked_query (live_asks subs)
waiting_queries turn v [] = refl
waiting_queries turn v (k ∷ subs) = ap (λ (qs : List Query). k.query ∷ qs) (waiting_queries turn v subs)

waiting_sifted : (turn : ℕ) (v : View) (book : Book) (ask : TripAsk) (told : List Entry) (subs : List Kept) → waiting_all turn v (filter (is_still_wanted book ask told) subs) ≡ filter (is_wanted (wanted book ask told)) (waiting_all turn v subs)
waiting_sifted turn v book ask told [] = refl
waiting_sifted turn v book ask told (k ∷ subs) =
    elim (cases_Bool (is_still_wanted book ask told k)) [
      | inl holds ↦
          ap (λ (b : Bool). waiting_all turn v (cond b (k ∷ filter (is_still_wanted book ask told) subs) (filter (is_still_wanted book ask told) subs))) holds
          ∙ (ap (λ (ws : List Waiting). waiting_in turn v k ∷ ws) (waiting_sifted turn v book ask told subs)
          ∙ sym (ap (λ (b : Bool). cond b (waiting_in turn v k ∷ filter (is_wanted (wanted book ask told)) (waiting_all turn v subs)) (filter (is_wanted (wanted book ask told)) (waiting_all turn v subs))) holds))
      | inr fails ↦
          ap (λ (b : Bool). waiting_all turn v (cond b (k ∷ filter (is_still_wanted book ask told) subs) (filter (is_still_wanted book ask told) subs))) fails
          ∙ (waiting_sifted turn v book ask told subs
          ∙ sym (ap (λ (b : Bool). cond b (waiting_in turn v k ∷ filter (is_wanted (wanted book ask told)) (waiting_all turn v subs)) (filter (is_wanted (wanted book ask told)) (waiting_all turn v subs))) fails))
    ]

drops_are : (turn : ℕ) (v : View) (book : Book) (ask : TripAsk) (told : List Entry) (subs : List Kept) → drops_of book ask told subs ≡ map dropped_event (filter (is_unwanted (wanted book ask told)) (waiting_all turn v subs))
drops_are turn v book ask told [] = refl
drops_are turn v book ask told (k ∷ subs) =
    let rest : List LiveAsk = filter (λ (live : LiveAsk). not (events.is_wanted book ask told live)) (live_asks subs) in
    let others : List Waiting = filter (is_unwanted (wanted book ask told)) (waiting_all turn v subs) in
    elim (cases_Bool (is_still_wanted book ask told k)) [
      | inl holds ↦
          ap (λ (b : Bool). map drop_event (cond (not b) (live_ask k ∷ rest) rest)) holds
          ∙ (drops_are turn v book ask told subs ∙ sym (ap (λ (b : Bool). map dropped_event (cond (not b) (waiting_in turn v k ∷ others) others)) holds))
      | inr fails ↦
          ap (λ (b : Bool). map drop_event (cond (not b) (live_ask k ∷ rest) rest)) fails
          ∙ (ap (λ (es : List Event). drop_event (live_ask k) ∷ es) (drops_are turn v book ask told subs) ∙ sym (ap (λ (b : Bool). map dropped_event (cond (not b) (waiting_in turn v k ∷ others) others)) fails))
    ]

-- ---- what was heard

abbrev made_entry : (Query → Delivery) → Query → Entry
made_entry reply query = record { query = query; reply = Some (reply query) }

heard_by : (reply : Query → Delivery) (heard : List Entry) → Agrees reply heard → heard ≡ map (made_entry reply) (map told_query heard)
heard_by reply [] all = refl
heard_by reply (e ∷ heard) all =
    ap (λ (r : Option Delivery). record { query = e.query; reply = r } ∷ heard) all.0 ∙ ap (λ (es : List Entry). made_entry reply e.query ∷ es) (heard_by reply heard all.1)

due_entries : (reply : Query → Delivery) (ws : List Waiting) → map (made_entry reply) (map traces.query_of ws) ≡ map (entry_of reply) ws
due_entries reply [] = refl
due_entries reply (w ∷ ws) = ap (λ (es : List Entry). entry_of reply w ∷ es) (due_entries reply ws)

agrees_behind : (reply : Query → Delivery) (xs ys : List Entry) → Agrees reply (xs ++ ys) → Agrees reply ys
agrees_behind reply [] ys all = all
agrees_behind reply (x ∷ xs) ys all = agrees_behind reply xs ys all.1

module _ (turn : ℕ) (v : View) (start : List Kept) (apart : AreApart (map query_of start)) (reply : Query → Delivery) where
  replies_are : (xs : List Kept) → ((k : Kept) → Among k xs → Among k start)
      → map (end_event (live_asks start)) (map (entry_of reply) (filter (is_due turn) (waiting_all turn v xs))) ≡ map replied_event (filter (is_due turn) (waiting_all turn v xs))
  replies_are [] within = refl
  replies_are (k ∷ xs) within =
      let w : Waiting = waiting_in turn v k in
      let rest : List Waiting = filter (is_due turn) (waiting_all turn v xs) in
      let more : map (end_event (live_asks start)) (map (entry_of reply) rest) ≡ map replied_event rest = replies_are xs (λ x h. within x (inr h)) in
      elim (cases_Bool (is_due turn w)) [
        | inl holds ↦
            ap (λ (b : Bool). map (end_event (live_asks start)) (map (entry_of reply) (cond b (w ∷ rest) rest))) holds
            ∙ (ap (λ (n : ℕ). Replied n ∷ map (end_event (live_asks start)) (map (entry_of reply) rest)) (number_is start k apart (within k (inl refl)))
            ∙ (ap (λ (es : List Event). replied_event w ∷ es) more ∙ sym (ap (λ (b : Bool). map replied_event (cond b (w ∷ rest) rest)) holds)))
        | inr fails ↦
            ap (λ (b : Bool). map (end_event (live_asks start)) (map (entry_of reply) (cond b (w ∷ rest) rest))) fails
            ∙ (more ∙ sym (ap (λ (b : Bool). map replied_event (cond b (w ∷ rest) rest)) fails))
      ]

-- ---- the lines

shown_on : (b : Bool) (x : Text) → b ≡ true → shown b x ≡ x
shown_on b x e = ap (λ (c : Bool). shown c x) e

adds_lines : (turn : ℕ) (a b : TraceView) (es : List Event) → Adds turn a b es → a.on ≡ true → (b.on ≡ true) × (b.lines ≡ a.lines ++ event_lines turn es)
adds_lines turn a b es it on = (
  ap (λ (t : TraceView). t.on) it ∙ on,
  ap (λ (t : TraceView). t.lines) it ∙ ap (λ (x : Text). a.lines ++ x) (shown_on a.on (event_lines turn es) on),
)

-- ---- all together

module _ (turn order : ℕ) (book : Book) (ask : TripAsk) (old one two new : View) (start subs1 subs2 subs3 : List Kept) (before mid after : List Entry) (asks now : ℕ) (t0 t1 t2 t3 : TraceView)
    (ends : TracesEnds turn start before mid t0 t1) (goes : live_asks subs1 ≡ going_on mid (live_asks start)) (drops : Adds turn t1 t2 (drops_of book ask mid subs1)) (sifted : subs2 ≡ filter (is_still_wanted book ask mid) subs1)
    (made : TracesAsks turn book ask subs2 subs3 mid after asks now t2 t3) (stays : StayLive one two subs2) (more : AsksMore book ask two new subs2 subs3 mid after) (apart : AreApart (map query_of start))
    (due : PollsDue turn old one start subs1 before mid) (begins : BeginsAll order new subs2 subs3 now) (same : after ≡ mid) (on : t0.on ≡ true) where
  still : (k : Kept) → Among k subs2 → new.live (key_of k) ≡ one.live (key_of k)
  still k h = more.same k h ∙ stays k h

  within : (k : Kept) → Among k subs2 → Among k subs1
  within k h = (among_filter_back (is_still_wanted book ask mid) k subs1 (subst (Among k) sifted h)).0

  untaken_now : AreUntaken new subs3
  untaken_now k h = elim (among_append k subs2 begins.begun (subst (Among k) begins.grows h)) [
    | inl l ↦ ap (λ (o : Option Live). (live_or_none o).taken) (still k l) ∙ due.untaken k (within k l)
    | inr r ↦ (each_at (IsBegunIn order new) k begins.begun begins.each r).1
  ]

  abbrev queries : List Query
  queries = missing_queries book ask mid subs2

  abbrev later : List Waiting
  later = filter (is_later turn) (waiting_all turn old start)

  none_failed : (q : Query) → Among q queries → is_failed after q ≡ false
  none_failed q h =
      ap (λ (es : List Entry). is_failed es q) same
      ∙ untold_unfailed mid q (wanted_is_untold book ask mid q (among_filter_back (λ r. not (is_among (map asked_query (live_asks subs2)) r)) q (wanted book ask mid) h).0)

  queries_are : queries ≡ filter (is_new later) (wanted book ask mid)
  queries_are =
      missing_are turn book ask start subs1 subs2 subs3 before mid after asks now t0 t1 t2 t3 ends goes drops sifted made
      ∙ ap (λ (qs : List Query). filter (λ q. not (is_among qs q)) (wanted book ask mid))
      (ap (map asked_query) (sym goes) ∙ (sym (waiting_queries turn one subs1) ∙ ap (map traces.query_of) due.waiting))

  kept_waiting : waiting_all turn new subs2 ≡ filter (is_wanted (wanted book ask mid)) later
  kept_waiting =
      same_waiting turn one new subs2 still
      ∙ (ap (waiting_all turn one) sifted ∙ (waiting_sifted turn one book ask mid subs1 ∙ ap (filter (is_wanted (wanted book ask mid))) due.waiting))

  begun_live : live_asks begins.begun ≡ begun_asks after asks queries
  begun_live =
      append_cancel_left (live_asks subs2) (live_asks begins.begun) (begun_asks after asks queries)
      (sym (map-append live_ask subs2 begins.begun) ∙ (ap live_asks (sym begins.grows) ∙ made.live))

  begun_waiting : waiting_all turn new begins.begun ≡ asks_for order turn asks queries
  begun_waiting = begun_due order turn new begins.begun begins.each ∙ (ap (map (due_of order turn)) begun_live ∙ asks_due order turn after asks queries none_failed)

  waiting_is : waiting_all turn new subs3 ≡ filter (is_wanted (wanted book ask mid)) later ++ asks_for order turn asks (filter (is_new later) (wanted book ask mid))
  waiting_is =
      ap (waiting_all turn new) begins.grows
      ∙ (map-append (waiting_in turn new) subs2 begins.begun
      ∙ (ap (λ (ws : List Waiting). ws ++ waiting_all turn new begins.begun) kept_waiting
      ∙ ap (λ (ws : List Waiting). filter (is_wanted (wanted book ask mid)) later ++ ws) (begun_waiting ∙ ap (asks_for order turn asks) queries_are)))

  made_is : now ≡ asks + length (asks_for order turn asks (filter (is_new later) (wanted book ask mid)))
  made_is = made.counted ∙ ap (λ (n : ℕ). asks + n) (ap length queries_are ∙ sym (asks_long order turn asks (filter (is_new later) (wanted book ask mid))))

  module _ (reply : Query → Delivery) (agrees : Agrees reply after) where
    abbrev ready : List Waiting
    ready = filter (is_due turn) (waiting_all turn old start)

    heard_is : due.heard ≡ map (entry_of reply) ready
    heard_is =
        heard_by reply due.heard (agrees_behind reply before due.heard (subst (Agrees reply) (same ∙ due.tells) agrees))
        ∙ (ap (map (made_entry reply)) due.of_due ∙ due_entries reply ready)

    mid_is : mid ≡ before ++ map (entry_of reply) ready
    mid_is = due.tells ∙ ap (λ (es : List Entry). before ++ es) heard_is

    ends_are : map (end_event (live_asks start)) ends.heard ≡ map replied_event ready
    ends_are =
        ap (map (end_event (live_asks start))) (append_cancel_left before ends.heard due.heard (sym ends.tells ∙ due.tells) ∙ heard_is)
        ∙ replies_are turn old start apart reply start (λ k h. h)

    abbrev lines_now : Text
    lines_now =
        ((t0.lines ++ event_lines turn (map replied_event ready)) ++ event_lines turn (map dropped_event (filter (is_unwanted (wanted book ask mid)) later)))
        ++ event_lines turn (map asked_event (asks_for order turn asks (filter (is_new later) (wanted book ask mid))))

    lines_are : t3.lines ≡ lines_now
    lines_are =
        let one_on : (t1.on ≡ true) × (t1.lines ≡ t0.lines ++ event_lines turn (map (end_event (live_asks start)) ends.heard)) = adds_lines turn t0 t1 (map (end_event (live_asks start)) ends.heard) ends.adds on in
        let two_on : (t2.on ≡ true) × (t2.lines ≡ t1.lines ++ event_lines turn (drops_of book ask mid subs1)) = adds_lines turn t1 t2 (drops_of book ask mid subs1) drops one_on.0 in
        let three_on : (t3.on ≡ true) × (t3.lines ≡ t2.lines ++ event_lines turn (ask_events after asks queries)) = adds_lines turn t2 t3 (ask_events after asks queries) made.adds two_on.0 in
        let first : t1.lines ≡ t0.lines ++ event_lines turn (map replied_event ready) = one_on.1 ∙ ap (λ (es : List Event). t0.lines ++ event_lines turn es) ends_are in
        let dropped : drops_of book ask mid subs1 ≡ map dropped_event (filter (is_unwanted (wanted book ask mid)) later) =
        drops_are turn one book ask mid subs1 ∙ ap (λ (ws : List Waiting). map dropped_event (filter (is_unwanted (wanted book ask mid)) ws)) due.waiting in
        let asked : ask_events after asks queries ≡ map asked_event (asks_for order turn asks (filter (is_new later) (wanted book ask mid))) =
        asks_events order turn after asks queries none_failed ∙ ap (λ (qs : List Query). map asked_event (asks_for order turn asks qs)) queries_are in
        three_on.1
        ∙ (ap (λ (x : Text). x ++ event_lines turn (ask_events after asks queries)) (two_on.1 ∙ (ap (λ (x : Text). x ++ event_lines turn (drops_of book ask mid subs1)) first ∙ ap (λ (es : List Event). (t0.lines ++ event_lines turn (map replied_event ready)) ++ event_lines turn es) dropped))
        ∙ ap (λ (es : List Event). ((t0.lines ++ event_lines turn (map replied_event ready)) ++ event_lines turn (map dropped_event (filter (is_unwanted (wanted book ask mid)) later))) ++ event_lines turn es) asked)

    stands_by : standing turn new subs3 after now t3.lines ≡ after_replies (wanted book ask mid) order turn mid later asks (t0.lines ++ event_lines turn (map replied_event ready))
    stands_by = λ i. record { told = same i; waiting = waiting_is i; made = made_is i; lines = lines_are i }

    turn_leads : standing turn new subs3 after now t3.lines ≡ turned book ask order reply turn (standing turn old start before asks t0.lines)
    unfolding turned told_in
    turn_leads =
        subst (λ (m : List Entry). standing turn new subs3 after now t3.lines ≡ after_replies (wanted book ask m) order turn m later asks (t0.lines ++ event_lines turn (map replied_event ready))) mid_is stands_by

  pub turns_due : TurnsDue turn order book ask old new start subs3 before after asks now t0.lines t3.lines
  turns_due = record { untaken = untaken_now; counted = begins.counted; turn_is = turn_leads }

pub turn_order : (turn : ℕ) (book : Book) (ask : TripAsk) (old one two new : View) (start subs1 subs2 subs3 : List Kept) (before mid after : List Entry) (asks now : ℕ) (t0 t1 t2 t3 : TraceView)
    → TracesEnds turn start before mid t0 t1 → live_asks subs1 ≡ going_on mid (live_asks start) → Adds turn t1 t2 (drops_of book ask mid subs1) → subs2 ≡ filter (is_still_wanted book ask mid) subs1
    → TracesAsks turn book ask subs2 subs3 mid after asks now t2 t3 → StayLive one two subs2 → AsksMore book ask two new subs2 subs3 mid after → AreApart (map query_of start) → Keeps old two
    → RoundOrder turn book ask old one start subs1 before mid → AsksOrder two new subs2 subs3 asks now mid after → two.made ≡ old.made
    → TurnOrder turn book ask old new start subs3 before after asks now t0 t3
turn_order turn book ask old one two new start subs1 subs2 subs3 before mid after asks now t0 t1 t2 t3 ends goes drops sifted made stays more apart keeps polled asked counted order tables tells untaken counts calm on =
    let same : after ≡ mid = more.tells ∙ (ap (λ (es : List Entry). mid ++ es) (none_refused old two new more.refused keeps calm more.failures more.causes) ∙ append-nil mid) in
    let begins : BeginsAll order new subs2 subs3 now = asked order (ap (λ (f : Fixed). f.order) keeps.fixed ∙ tells.order_told) (counted ∙ counts) same in
    turns_due turn order book ask old one two new start subs1 subs2 subs3 before mid after asks now t0 t1 t2 t3 ends goes drops sifted made stays more apart (polled order tables tells untaken) begins same on
