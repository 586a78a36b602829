-- The turns of a search over links that tell their order and their timetables, up to its end.
use Rattle.std.proofs.Common.{◌≡◌, ◌≢◌, ◌==◌, ℕ, suc, ◌+◌, ◌*◌, ◌≤◌, Bool, true, false, cond, List, [], ◌∷◌, ◌++◌, length, Option, Some, None, IsTrue, IfSome, IfOk, Result, Ok, Err, option_map, refl, sym, ◌∙◌, ap, subst, inl, inr, arith}
use Rattle.std.proofs.lemmas.Bool.{cases_Bool, eqb-true}
use Rattle.ojp_outside.specs.Causes.{next_count}
use Rattle.ojp_values.specs.Lists.{Among, Each}
use Rattle.ojp_values.specs.Texts.{is_stop_ref}
use Rattle.ojp_values.specs.declared.memory.NoMemory.{NoMemory}
use Rattle.ojp_values.specs.declared.asks.TripAsk.{TripAsk}
use Rattle.ojp_values.specs.declared.asks.Ask.{Ask}
use Rattle.ojp_values.specs.declared.asks.Ask.TheVariants as asks
use Rattle.ojp_values.specs.declared.replies.Delivery.{Delivery}
use Rattle.ojp_values.specs.declared.replies.TripReply.{TripReply}
use Rattle.ojp_values.proofs.ListFacts.{among_map}
use Rattle.ojp_timetable.specs.Tables.{Timetable}
use Rattle.ojp_exchange.specs.Book.{Book}
use Rattle.ojp_exchange.specs.Kept.{IsWellBook}
use Rattle.ojp_links.specs.Seen.{View, Fixed}
use Rattle.ojp_links.specs.Calls.{Keeps, RestsOnce, after_rest}
use Rattle.ojp_join.specs.Outcomes.{Ended}
use Rattle.ojp_records.specs.declared.queries.Query.{Query}
use Rattle.ojp_records.specs.declared.queries.Entry.{Entry}
use Rattle.ojp_records.specs.Told.{IsRecord}
use Rattle.ojp_records.specs.Wanted.{wanted}
use Rattle.ojp_records.specs.Headline.{AreGiven}
use Rattle.ojp_traces.specs.Lines.{TraceView, Gains}
use Rattle.ojp_traces.specs.Traces.{Waiting, Standing, before_all, turned, waits_for_none, ended_from, EndsWith}
use Rattle.ojp_traces.specs.TraceExamples.{reply_in}
use Rattle.ojp_turns.specs.declared.kept.Kept.{Kept}
use Rattle.ojp_turns.specs.declared.search.Outcome.{Outcome}
use Rattle.ojp_turns.specs.declared.search.Outcome.TheVariants as outcomes
use Rattle.ojp_turns.specs.declared.search.Search.{Search}
use Rattle.ojp_turns.specs.declared.search.Turn.TheVariants as turns
use Rattle.ojp_turns.specs.Faults.{HasCause}
use Rattle.ojp_turns.specs.Slots.{most_asks}
use Rattle.ojp_turns.specs.Searches.{IsNewFor, CanTurn, EndsAs, GoesOn, Turns, asked_for, asks_of, held_of, record_of}
use Rattle.ojp_turns.specs.Turning.{Passes}
use Rattle.ojp_turns.specs.Tracing.{Traces, UnlessLost, turns_of}
use Rattle.ojp_turns.specs.Ordering.{TellsOrder, NoFaultRose, AreUntaken, waiting_in, waiting_all, Agrees, standing, TurnsDue, TurnOrder, OrderedTurn}
use Rattle.ojp_turns.proofs.OrderTurnFacts.{no_cause}
use Rattle.ojp_turns.proofs.RoundFacts.{tells_on}
use Rattle.ojp_gateway.specs.declared.answering.Answer.{Answer}
use Rattle.ojp_gateway.specs.declared.answering.Begun.TheVariants as begun
use Rattle.ojp_gateway.specs.Passing.{Grows, Sought, StepsOn}
use Rattle.ojp_gateway.specs.Answering.{Begins, IsOutcome}
use Rattle.ojp_gateway.specs.Ordering.{RestsAll, StepsDue, EndsDue, Starts, EndsTraced, SoughtInOrder, TakesSearch, IsTraced}
use Rattle.ojp_gateway.proofs.OrderFacts.{AreHeard, agrees_record, agrees_front, WithinTurns, turned_within, turned_none, rest_untaken, rest_waiting, turns_few, calm_before, calm_after}

-- ---- one turn and a rest

rests_all : (mid new : View) → RestsOnce mid new → RestsAll mid new
rests_all mid new it =
    record { made = it.idles.made; rested = λ order told. subst (λ (o : Option ℕ). IfSome o (λ (n : ℕ). (key : ℕ) → new.live key ≡ option_map after_rest (mid.live key))) told it.ordered }

module _ (book : Book) (old mid new : View) (s now : Search) (t u : TraceView) (rests : RestsOnce mid new) where
  steps_by : (moved : Bool) → GoesOn moved book old mid s now → Passes book (asked_for s) old mid (held_of s) (record_of s) (record_of now) → turns_of now ≡ next_count (turns_of s)
      → TurnOrder (turns_of now) book (asked_for s) old mid (held_of s) (held_of now) (record_of s) (record_of now) (asks_of s) (asks_of now) t u → StepsDue book old new s now t u
  steps_by moved goes passes counted turned =
      record { counted = counted; some = goes.some_live; mid = mid; keeps_turn = passes.keeps; keeps_rest = rests.idles.keeps; rests = rests_all mid new rests; turned = turned }

  pub moved_due : Turns book old mid s now turns.Moved → Traces book s now t u turns.Moved → OrderedTurn book old mid s now t u turns.Moved → StepsDue book old new s now t u
  moved_due it traces ordered = steps_by true it.means it.passes traces.counted ordered

  pub waits_due : Turns book old mid s now turns.Waits → Traces book s now t u turns.Waits → OrderedTurn book old mid s now t u turns.Waits → StepsDue book old new s now t u
  waits_due it traces ordered = steps_by false it.means it.passes traces.counted ordered

-- ---- so many turns

-- where a search stands before its next turn
abbrev pub stands_at : View → Search → TraceView → Standing
stands_at v s t = standing (turns_of s + 1) v (held_of s) (record_of s) (asks_of s) t.lines

-- the definition's next turn from there
abbrev pub turn_from : Book → TripAsk → ℕ → (Query → Delivery) → View → Search → TraceView → Standing
turn_from book ask order reply v s t = turned book ask order reply (turns_of s + 1) (stands_at v s t)

-- the turns so far led where those of the definition do
pub record Run (order : ℕ) (tables : List Timetable) (book : Book) (ask : TripAsk) (v : View) (s : Search) (t : TraceView) : Type 0 where
  pub tells : TellsOrder order tables book ask (record_of s) v
  pub untaken : AreUntaken v (held_of s)
  pub counted : v.made ≡ asks_of s
  pub is_on : t.on ≡ true
  pub heard_all : AreHeard (record_of s)
  pub within : WithinTurns (turns_of s + 1) (stands_at v s t)
  pub leads : (reply : Query → Delivery) → Agrees reply (record_of s) → (more : ℕ)
      → ended_from book ask order reply (turns_of s + more) 1 before_all ≡ ended_from book ask order reply more (turns_of s + 1) (stands_at v s t)

-- the same, where it started so and no count rose since
abbrev pub RunTo : Book → View → View → Search → Search → TraceView → TraceView → Type 0
RunTo book old v first s start t = (order : ℕ) (tables : List Timetable) → Starts order tables book old first start → NoFaultRose old v → Run order tables book (asked_for first) v s t

pub run_start : (book : Book) (v : View) (s : Search) (t : TraceView) → RunTo book v v s s t t
run_start book v s t order tables starts calm =
    let is_before : stands_at v s t ≡ before_all = λ i. record { told = starts.nothing_told i; waiting = waiting_all (turns_of s + 1) v (starts.none_held i); made = starts.none_asked i; lines = starts.is_empty i } in
    record {
      tells = starts.tells;
      untaken = λ k h. absurd (subst (Among k) starts.none_held h);
      counted = starts.none_made ∙ sym starts.none_asked;
      is_on = starts.is_on;
      heard_all = subst AreHeard (sym starts.nothing_told) tt;
      within = subst (WithinTurns (turns_of s + 1)) (sym is_before) (record { each = λ w h. absurd h; low = (let none : turns_of s ≡ 0 = starts.no_turn in omega (arith, none)) });
      leads = λ reply agrees more.
          ap (λ (n : ℕ). ended_from book (asked_for s) order reply n 1 before_all) (let none : turns_of s ≡ 0 = starts.no_turn in omega (arith, none))
          ∙ (ap (λ (n : ℕ). ended_from book (asked_for s) order reply more n before_all) (let none : turns_of s ≡ 0 = starts.no_turn in omega (arith, none))
          ∙ ap (ended_from book (asked_for s) order reply more (turns_of s + 1)) (sym is_before));
    }

each_joined : (P : Entry → Type 0) (xs ys : List Entry) → Each P xs → Each P ys → Each P (xs ++ ys)
each_joined P [] ys all more = more
each_joined P (x ∷ xs) ys all more = (all.0, each_joined P xs ys all.1 more)

heard_more : (old new : View) (more : List Entry) → NoFaultRose old new → Each (HasCause old new) more → AreHeard more
heard_more old new [] calm causes = tt
heard_more old new (e ∷ more) calm causes = (no_cause old new e calm causes.0, heard_more old new more calm causes.1)

some_waits : (turn : ℕ) (v : View) (subs : List Kept) → subs ≢ [] → (length (waiting_all turn v subs) == 0) ≡ false
some_waits turn v [] some = absurd (some refl)
some_waits turn v (k ∷ subs) some =
    elim (cases_Bool (length (waiting_all turn v (k ∷ subs)) == 0)) [
      | inl holds ↦ let none : length (waiting_all turn v (k ∷ subs)) ≡ 0 = eqb-true (length (waiting_all turn v (k ∷ subs))) 0 holds in absurd (omega (arith, none))
      | inr fails ↦ fails
    ]

first_waits : (turn : ℕ) (v : View) (subs : List Kept) → subs ≢ [] → (w : Waiting) × Among w (waiting_all turn v subs)
first_waits turn v [] some = absurd (some refl)
first_waits turn v (k ∷ subs) some = (waiting_in turn v k, inl refl)

module _ (order : ℕ) (tables : List Timetable) (book : Book) (ask : TripAsk) (old : View) (s now : Search) (t u : TraceView) (run : Run order tables book ask old s t) (is_well : IsRecord book ask (record_of now))
    (few : asks_of s ≤ most_asks book ask) (book_well : IsWellBook book) (origin_well : IsTrue (is_stop_ref ask.origin)) (counted : turns_of now ≡ next_count (turns_of s)) where
  -- the turn has the next number
  turn_is_next : turns_of now ≡ turns_of s + 1
  turn_is_next = counted ∙ turns_few book ask (asks_of s) (turns_of s) book_well origin_well few run.within.low

  module _ (mid : View) (due : TurnsDue (turns_of now) order book ask old mid (held_of s) (held_of now) (record_of s) (record_of now) (asks_of s) (asks_of now) t.lines u.lines) (heard : AreHeard (record_of now)) where
    abbrev after : Standing
    after = standing (turns_of now) mid (held_of now) (record_of now) (asks_of now) u.lines

    -- the turn is that of the definition
    pub turn_by : (reply : Query → Delivery) → Agrees reply (record_of now) → after ≡ turned book ask order reply (turns_of s + 1) (stands_at old s t)
    turn_by reply agrees =
        due.turn_is reply agrees ∙ ap (λ (n : ℕ). turned book ask order reply n (standing n old (held_of s) (record_of s) (asks_of s) t.lines)) turn_is_next

    pub reply_by : Query → Delivery
    reply_by = reply_in (record_of now)

    pub agrees_by : Agrees (reply_in (record_of now)) (record_of now)
    agrees_by = agrees_record book ask (record_of now) is_well heard

    pub due_by : (w : Waiting) → Among w (waiting_all (turns_of now) mid (held_of now)) → (turns_of now + 1 ≤ w.due) × (w.due ≤ 1 + 11 * asks_of now)
    due_by w h =
        let there : after ≡ turned book ask order (reply_in (record_of now)) (turns_of s + 1) (stands_at old s t) = turn_by (reply_in (record_of now)) agrees_by in
        let it : ((turns_of s + 1) + 1 ≤ w.due) × (w.due ≤ 1 + 11 * (turned book ask order (reply_in (record_of now)) (turns_of s + 1) (stands_at old s t)).made) =
        turned_within book ask order (reply_in (record_of now)) (turns_of s + 1) (stands_at old s t) run.within w (subst (λ (at : Standing). Among w at.waiting) there h) in
        (let same : turns_of now ≡ turns_of s + 1 = turn_is_next in omega (arith, it.0, same), subst (λ (at : Standing). w.due ≤ 1 + 11 * at.made) (sym there) it.1)

-- one more turn, and a rest
pub run_more : (book : Book) (start old new : View) (first s now : Search) (begin t u : TraceView) → Keeps start old → asked_for s ≡ asked_for first → asks_of s ≤ most_asks book (asked_for first) → StepsOn book old new s now → StepsDue book old new s now t u → Gains t u
    → RunTo book start old first s begin t → RunTo book start new first now begin u
run_more book start old new first s now begin t u keeps same few steps due gains so_far order tables starts calm =
    go (so_far order tables starts (calm_before start old new keeps steps.grows.keeps calm)) (calm_after start old new keeps steps.grows.keeps calm)
    (subst (λ (a : TripAsk). TurnOrder (turns_of now) book a old due.mid (held_of s) (held_of now) (record_of s) (record_of now) (asks_of s) (asks_of now) t u) same due.turned)
    (subst (λ (a : TripAsk). Grows book a old new (record_of s) (record_of now)) same steps.grows)
    (subst (λ (a : TripAsk). IsRecord book a (record_of now)) (steps.same_ask ∙ same) steps.can_turn.is_search.board_of.record_of)
    (subst (λ (a : TripAsk). IsTrue (is_stop_ref a.origin)) (steps.same_ask ∙ same) steps.can_turn.is_search.board_of.origin_well)
  where
    go : Run order tables book (asked_for first) old s t → NoFaultRose old new → TurnOrder (turns_of now) book (asked_for first) old due.mid (held_of s) (held_of now) (record_of s) (record_of now) (asks_of s) (asks_of now) t u
        → Grows book (asked_for first) old new (record_of s) (record_of now) → IsRecord book (asked_for first) (record_of now) → IsTrue (is_stop_ref (asked_for first).origin) → Run order tables book (asked_for first) new now u
    go run calm turns_on grows well origin =
        let mid_calm : NoFaultRose old due.mid = calm_before old due.mid new due.keeps_turn due.keeps_rest calm in
        let leads_to : TurnsDue (turns_of now) order book (asked_for first) old due.mid (held_of s) (held_of now) (record_of s) (record_of now) (asks_of s) (asks_of now) t.lines u.lines =
        turns_on order tables run.tells run.untaken run.counted mid_calm run.is_on in
        let heard : AreHeard (record_of now) = subst AreHeard (sym grows.grows) (each_joined (λ (entry : Entry). entry.reply ≢ None) (record_of s) grows.more run.heard_all (heard_more old new grows.more calm grows.causes)) in
        let book_well : IsWellBook book = steps.can_turn.is_search.board_of.book_well in
        let next : turns_of now ≡ turns_of s + 1 = turn_is_next order tables book (asked_for first) old s now t u run well few book_well origin due.counted in
        let told : due.mid.fixed.order ≡ Some order = ap (λ (f : Fixed). f.order) due.keeps_turn.fixed ∙ run.tells.order_told in
        let rested : (key : ℕ) → new.live key ≡ option_map after_rest (due.mid.live key) = due.rests.rested order told in
        let dues : (w : Waiting) → Among w (waiting_all (turns_of now) due.mid (held_of now)) → (turns_of now + 1 ≤ w.due) × (w.due ≤ 1 + 11 * asks_of now) =
        due_by order tables book (asked_for first) old s now t u run well few book_well origin due.counted due.mid leads_to heard in
        let waiting : waiting_all (turns_of now + 1) new (held_of now) ≡ waiting_all (turns_of now) due.mid (held_of now) =
        rest_waiting due.mid new rested (turns_of now) (held_of now) (λ k h. (dues (waiting_in (turns_of now) due.mid k) (among_map (waiting_in (turns_of now) due.mid) k (held_of now) h)).0) in
        let stands : stands_at new now u ≡ standing (turns_of now) due.mid (held_of now) (record_of now) (asks_of now) u.lines =
        (λ i. record { told = record_of now; waiting = waiting i; made = asks_of now; lines = u.lines }) in
        let some : (w : Waiting) × Among w (waiting_all (turns_of now) due.mid (held_of now)) = first_waits (turns_of now) due.mid (held_of now) due.some in
        let low : (turns_of now + 1 ≤ some.0.due) × (some.0.due ≤ 1 + 11 * asks_of now) = dues some.0 some.1 in
        record {
          tells = record {
            order_told = ap (λ (f : Fixed). f.order) grows.keeps.fixed ∙ run.tells.order_told;
            tables_told = tells_on old new tables grows.keeps run.tells.tables_told;
            theirs = run.tells.theirs;
            given = grows.given tables run.tells.tables_told run.tells.given;
          };
          untaken = rest_untaken due.mid new rested (held_of now) leads_to.untaken;
          counted = due.rests.made ∙ leads_to.counted;
          is_on = ap (λ (x : TraceView). x.on) gains.is ∙ run.is_on;
          heard_all = heard;
          within = record {
            each = λ w h. dues w (subst (Among w) waiting h);
            low = omega (arith, low.0, low.1);
          };
          leads = λ reply agrees more.
              let front : Agrees reply (record_of s) = agrees_front reply (record_of s) grows.more (subst (Agrees reply) grows.grows agrees) in
              let there : standing (turns_of now) due.mid (held_of now) (record_of now) (asks_of now) u.lines ≡ (turn_from book (asked_for first) order reply old s t) = turn_by order tables book (asked_for first) old s now t u run well few book_well origin due.counted due.mid leads_to heard reply agrees in
              let goes_on : waits_for_none (turn_from book (asked_for first) order reply old s t) ≡ false = ap waits_for_none (sym there) ∙ some_waits (turns_of now) due.mid (held_of now) due.some in
              ap (λ (n : ℕ). ended_from book (asked_for first) order reply n 1 before_all) (omega (arith, next))
              ∙ (run.leads reply front (suc more)
              ∙ (ap (λ (b : Bool). cond b (Some (turn_from book (asked_for first) order reply old s t)) (ended_from book (asked_for first) order reply more ((turns_of s + 1) + 1) (turn_from book (asked_for first) order reply old s t))) goes_on
              ∙ (ap (λ (n : ℕ). ended_from book (asked_for first) order reply more (n + 1) (turn_from book (asked_for first) order reply old s t)) (sym next)
              ∙ ap (ended_from book (asked_for first) order reply more (turns_of now + 1)) (sym (stands ∙ there)))));
        }

-- ---- the end

ended_record : (book : Book) (ask : TripAsk) (told : List Entry) (reply : TripReply) → Ended book ask told reply → IsRecord book ask told × (wanted book ask told ≡ [])
ended_record book ask told reply it = (it.told_well, it.nothing_wanted)

pub run_end : (book : Book) (start old new : View) (first s now : Search) (begin t u : TraceView) (reply : TripReply) → Keeps start old → asked_for s ≡ asked_for first → asks_of s ≤ most_asks book (asked_for first) → CanTurn book s old
    → Grows book (asked_for first) old new (record_of s) (record_of now) → Ended book (asked_for first) (record_of now) reply → turns_of now ≡ next_count (turns_of s)
    → TurnOrder (turns_of now) book (asked_for first) old new (held_of s) (held_of now) (record_of s) (record_of now) (asks_of s) (asks_of now) t u
    → RunTo book start old first s begin t → (order : ℕ) (tables : List Timetable) → Starts order tables book start first begin → NoFaultRose start new → EndsWith tables book (asked_for first) order u.lines
run_end book start old new first s now begin t u outcome keeps same few can grows ended counted turns_on so_far order tables starts calm =
    let run : Run order tables book (asked_for first) old s t = so_far order tables starts (calm_before start old new keeps grows.keeps calm) in
    let now_calm : NoFaultRose old new = calm_after start old new keeps grows.keeps calm in
    let due : TurnsDue (turns_of now) order book (asked_for first) old new (held_of s) (held_of now) (record_of s) (record_of now) (asks_of s) (asks_of now) t.lines u.lines = turns_on order tables run.tells run.untaken run.counted now_calm run.is_on in
    let heard : AreHeard (record_of now) = subst AreHeard (sym grows.grows) (each_joined (λ (entry : Entry). entry.reply ≢ None) (record_of s) grows.more run.heard_all (heard_more old new grows.more now_calm grows.causes)) in
    let origin : IsTrue (is_stop_ref (asked_for first).origin) = subst (λ (a : TripAsk). IsTrue (is_stop_ref a.origin)) same can.is_search.board_of.origin_well in
    let agrees : Agrees (reply_in (record_of now)) (record_of now) = agrees_record book (asked_for first) (record_of now) ended.told_well heard in
    let there : standing (turns_of now) new (held_of now) (record_of now) (asks_of now) u.lines ≡ (turn_from book (asked_for first) order (reply_in (record_of now)) old s t) =
    turn_by order tables book (asked_for first) old s now t u run ended.told_well few can.is_search.board_of.book_well origin counted new due heard (reply_in (record_of now)) agrees in
    let none : (turn_from book (asked_for first) order (reply_in (record_of now)) old s t).waiting ≡ [] =
    turned_none book (asked_for first) order (reply_in (record_of now)) (turns_of s + 1) (stands_at old s t) (ap (λ (at : Standing). wanted book (asked_for first) at.told) (sym there) ∙ ended.nothing_wanted) in
    record {
      reply = reply_in (record_of now);
      turns = turns_of s + 1;
      last = (turn_from book (asked_for first) order (reply_in (record_of now)) old s t);
      ends = run.leads (reply_in (record_of now)) (agrees_front (reply_in (record_of now)) (record_of s) grows.more (subst (Agrees (reply_in (record_of now))) grows.grows agrees)) 1
          ∙ ap (λ (ws : List Waiting). cond (length ws == 0) (Some (turn_from book (asked_for first) order (reply_in (record_of now)) old s t)) (ended_from book (asked_for first) order (reply_in (record_of now)) 0 ((turns_of s + 1) + 1) (turn_from book (asked_for first) order (reply_in (record_of now)) old s t))) none;
      given = subst (λ (at : Standing). AreGiven tables book (asked_for first) at.told) there (grows.given tables run.tells.tables_told run.tells.given);
      is_text = ap (λ (at : Standing). at.lines) there;
    }

-- whatever the outcome
pub run_ends : (book : Book) (start old new : View) (first s now : Search) (begin t u : TraceView) (outcome : Outcome) → Keeps start old → asked_for s ≡ asked_for first → asks_of s ≤ most_asks book (asked_for first) → CanTurn book s old
    → Sought book old new s now outcome → EndsDue book old new s now t u outcome → RunTo book start old first s begin t → SoughtInOrder book start new first begin u outcome
run_ends book start old new first s now begin t u outcome keeps same few can sought due so_far =
    by outcome
    (subst (λ (a : TripAsk). EndsAs book a (record_of now) outcome) same sought.ends)
    (subst (λ (a : TripAsk). Grows book a old new (record_of s) (record_of now)) same sought.grows)
    (subst (λ (a : TripAsk). UnlessLost (turns.Done outcome) (TurnOrder (turns_of now) book a old new (held_of s) (held_of now) (record_of s) (record_of now) (asks_of s) (asks_of now) t u)) same due.turned)
  where
    by : (o : Outcome) → EndsAs book (asked_for first) (record_of now) o → Grows book (asked_for first) old new (record_of s) (record_of now)
        → UnlessLost (turns.Done o) (TurnOrder (turns_of now) book (asked_for first) old new (held_of s) (held_of now) (record_of s) (record_of now) (asks_of s) (asks_of now) t u) → SoughtInOrder book start new first begin u o
    by (outcomes.Trip trip) ended grows turned_so order tables starts calm = run_end book start old new first s now begin t u _ keeps same few can grows ended due.counted turned_so so_far order tables starts calm
    by (outcomes.Fault fault) ended grows turned_so order tables starts calm = run_end book start old new first s now begin t u _ keeps same few can grows ended due.counted turned_so so_far order tables starts calm
    by outcomes.NoMemory ended grows turned_so order tables starts calm = tt

-- ---- an ask

-- without a search the trace stays empty
pub traced_alone : (book : Book) (v : View) (ask : Ask) (answer : Answer) (t : TraceView) → TakesSearch ask (begun.Answered answer) → IsTraced book v v ask t t (Ok answer)
traced_alone book v (asks.Trip trip) answer t alone order tables tells calm = record { same_stop = λ e. tells.is_empty; search = λ differ. absurd (differ (alone trip refl)) }
traced_alone book v (asks.Multi ask) answer t alone order tables tells calm = tells.is_empty
traced_alone book v (asks.Events ask) answer t alone order tables tells calm = tells.is_empty
traced_alone book v (asks.Points ask) answer t alone order tables tells calm = tells.is_empty

traced_trip : (book : Book) (old new : View) (trip : TripAsk) (s now : Search) (outcome : Outcome) (result : Result Answer NoMemory) (t u : TraceView) → IsNewFor book trip s → turns_of s ≡ 0 → SoughtInOrder book old new s t u outcome
    → IfOk result (IsOutcome now outcome) → IsTraced book old new (asks.Trip trip) t u result
traced_trip book old new trip s now outcome (Err none) t u fresh no_turn sought is order tables tells calm = tt
traced_trip book old new trip s now outcome (Ok answer) t u fresh no_turn sought is order tables tells calm =
    record {
      same_stop = λ e. absurd (fresh.is_search.differ (ap (λ (a : TripAsk). a.origin) fresh.asks_this ∙ (e ∙ sym (ap (λ (a : TripAsk). a.target) fresh.asks_this))));
      search = λ differ. by outcome is (sought order tables starts calm);
    }
  where
    starts : Starts order tables book old s t
    starts = record {
      tells = record { order_told = tells.order_told; tables_told = tells.tables_told; theirs = tells.theirs; given = subst (AreGiven tables book (asked_for s)) (sym fresh.nothing_told) tt };
      nothing_told = fresh.nothing_told;
      none_held = fresh.none_held;
      none_asked = fresh.none_asked;
      no_turn = no_turn;
      none_made = tells.none_made;
      is_on = tells.is_on;
      is_empty = tells.is_empty;
    }

    by : (o : Outcome) → IsOutcome now o answer → EndsTraced o tables book (asked_for s) order u.lines → EndsWith tables book trip order u.lines
    by (outcomes.Trip found) is it = subst (λ (a : TripAsk). EndsWith tables book a order u.lines) fresh.asks_this it
    by (outcomes.Fault fault) is it = subst (λ (a : TripAsk). EndsWith tables book a order u.lines) fresh.asks_this it
    by outcomes.NoMemory is it = absurd is

pub traced_search : (book : Book) (old new : View) (ask : Ask) (s now : Search) (outcome : Outcome) (result : Result Answer NoMemory) (t u : TraceView) → Begins book ask (begun.Search s) → TakesSearch ask (begun.Search s) → SoughtInOrder book old new s t u outcome
    → IfOk result (IsOutcome now outcome) → IsTraced book old new ask t u result
traced_search book old new ask s now outcome result t u (trip, is, fresh, well) no_turn sought outcome_is =
    subst (λ (a : Ask). IsTraced book old new a t u result) (sym is) (traced_trip book old new trip s now outcome result t u fresh no_turn sought outcome_is)
