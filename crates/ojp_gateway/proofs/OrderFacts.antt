-- A search over links that tell their order and their timetables stands where the definition of its trace does, turn by turn.
use Rattle.std.proofs.Common.{◌≡◌, ◌≢◌, ◌==◌, ℕ, zero, suc, ◌+◌, ◌-◌, ◌*◌, ◌%◌, ◌<◌, ◌≤◌, Bool, true, false, cond, not, List, [], ◌∷◌, ◌++◌, filter, length, Option, Some, None, IsTrue, unwrap_or, option_map, refl, sym, ◌∙◌, ap, subst, inl, inr, append-nil, arith}
use Rattle.std.proofs.lemmas.Bool.{true≢false, cases_Bool, eq-eqb, eqb-false, eqb-true}
use Rattle.std.proofs.Math.Nat.{mod-lt}
use Rattle.ojp_outside.specs.Causes.{Rests, next_count}
use Rattle.ojp_values.specs.Lists.{Among, Each}
use Rattle.ojp_values.specs.Texts.{is_stop_ref}
use Rattle.ojp_values.specs.declared.asks.TripAsk.{TripAsk}
use Rattle.ojp_values.specs.declared.replies.Delivery.{Delivery}
use Rattle.ojp_values.proofs.ListFacts.{among_append, among_append_right, among_filter_back}
use Rattle.ojp_exchange.specs.Book.{Book}
use Rattle.ojp_exchange.specs.Kept.{IsWellBook}
use Rattle.ojp_links.specs.Seen.{View, Live, Fixed, no_ask}
use Rattle.ojp_links.specs.Calls.{Keeps, after_rest}
use Rattle.ojp_records.specs.declared.queries.Query.{Query}
use Rattle.ojp_records.specs.declared.queries.Entry.{Entry}
use Rattle.ojp_records.specs.Records.{same_query, is_told}
use Rattle.ojp_records.specs.Told.{IsRecord, ToldInTurn}
use Rattle.ojp_records.specs.Wanted.{wanted}
use Rattle.ojp_records.proofs.RecordFacts.{EntryOf, is_same_query, is_told_is, same_query_is, told_is, untold_before}
use Rattle.ojp_traces.specs.Traces.{Waiting, Standing, turns_needed, is_later, is_wanted, is_new, asks_for, told_in, turned}
use Rattle.ojp_traces.specs.TraceExamples.{reply_or_none, reply_in}
use Rattle.ojp_turns.specs.declared.kept.Kept.{Kept}
use Rattle.ojp_turns.specs.Held.{key_of}
use Rattle.ojp_turns.specs.Slots.{most_asks, pair_count}
use Rattle.ojp_turns.specs.Ordering.{NoFaultRose, AreUntaken, rests_at, waiting_in, waiting_all, Agrees}
use Rattle.ojp_turns.proofs.BoundFacts.{pairs_long, spots_few}

-- ---- replies by a record

-- no failure was told
abbrev pub AreHeard : List Entry → Type 0
AreHeard told = Each (λ (entry : Entry). entry.reply ≢ None) told

some_reply : (o : Option Delivery) → o ≢ None → o ≡ Some (reply_or_none o)
some_reply None some = absurd (some refl)
some_reply (Some d) some = refl

one_told : (entry other : Entry) → is_told (entry ∷ []) other.query ≡ false → same_query entry.query other.query ≡ false
one_told entry other e = elim (cases_Bool (same_query entry.query other.query)) [
  | inl holds ↦ absurd (true≢false (sym (is_told_is (entry ∷ []) entry other.query (inl refl) (same_query_is entry.query other.query holds)) ∙ e))
  | inr fails ↦ fails
]

-- each later entry is of another query than those before
later_untold : (book : Book) (ask : TripAsk) (before later : List Entry) → ToldInTurn book ask before later → Each (λ (entry : Entry). is_told before entry.query ≡ false) later
later_untold book ask before [] turn = tt
later_untold book ask before (e ∷ later) turn = (turn.0.untold, wider later (later_untold book ask (before ++ e ∷ []) later turn.1))
  where
    wider : (es : List Entry) → Each (λ (entry : Entry). is_told (before ++ e ∷ []) entry.query ≡ false) es → Each (λ (entry : Entry). is_told before entry.query ≡ false) es
    wider [] all = tt
    wider (x ∷ es) all = (untold_before before (e ∷ []) x.query all.0, wider es all.1)

agrees_more : (e : Entry) (told later : List Entry) → Each (λ (entry : Entry). is_told (e ∷ []) entry.query ≡ false) later → Agrees (reply_in told) later → Agrees (reply_in (e ∷ told)) later
agrees_more e told [] apart all = tt
agrees_more e told (x ∷ later) apart all = (
  all.0 ∙ ap Some (sym (ap (λ (b : Bool). cond b (reply_or_none e.reply) (reply_in told x.query)) (one_told e x apart.0))),
  agrees_more e told later apart.1 all.1,
)

apart_from : (before : List Entry) (e : Entry) (es : List Entry) → Each (λ (entry : Entry). is_told (before ++ e ∷ []) entry.query ≡ false) es → Each (λ (entry : Entry). is_told (e ∷ []) entry.query ≡ false) es
apart_from before e [] all = tt
apart_from before e (x ∷ es) all = (behind, apart_from before e es all.1)
  where
    behind : is_told (e ∷ []) x.query ≡ false
    behind = elim (cases_Bool (is_told (e ∷ []) x.query)) [
      | inl holds ↦
          let m : EntryOf (e ∷ []) x.query = told_is (e ∷ []) x.query holds in
          absurd (true≢false (sym (is_told_is (before ++ e ∷ []) m.item x.query (among_append_right m.item before (e ∷ []) m.among) m.holds) ∙ all.0))
      | inr fails ↦ fails
    ]

-- the replies of a record agree with it
agrees_turn : (book : Book) (ask : TripAsk) (before told : List Entry) → ToldInTurn book ask before told → AreHeard told → Agrees (reply_in told) told
agrees_turn book ask before [] turn heard = tt
agrees_turn book ask before (e ∷ told) turn heard = (
  some_reply e.reply heard.0 ∙ ap Some (sym (ap (λ (b : Bool). cond b (reply_or_none e.reply) (reply_in told e.query)) (is_same_query e.query e.query refl))),
  agrees_more e told told (apart_from before e told (later_untold book ask (before ++ e ∷ []) told turn.1)) (agrees_turn book ask (before ++ e ∷ []) told turn.1 heard.1),
)

pub agrees_record : (book : Book) (ask : TripAsk) (told : List Entry) → IsRecord book ask told → AreHeard told → Agrees (reply_in told) told
agrees_record book ask told it heard = agrees_turn book ask [] told it.in_turn heard

pub agrees_front : (reply : Query → Delivery) (xs ys : List Entry) → Agrees reply (xs ++ ys) → Agrees reply xs
agrees_front reply [] ys all = tt
agrees_front reply (x ∷ xs) ys all = (all.0, agrees_front reply xs ys all.1)

-- ---- the definition's turn

-- each ask waits for this turn or a later one, and not beyond eleven turns for each ask made
pub record WithinTurns (turn : ℕ) (at : Standing) : Type 0 where
  pub each : (w : Waiting) → Among w at.waiting → (turn ≤ w.due) × (w.due ≤ 1 + 11 * at.made)
  pub low : turn ≤ 1 + 11 * at.made

asks_within : (order turn made : ℕ) (qs : List Query) (w : Waiting) → Among w (asks_for order turn made qs) → (turn + 1 ≤ w.due) × (w.due ≤ turn + 11) × (1 ≤ length (asks_for order turn made qs))
asks_within order turn made [] w h = absurd h
asks_within order turn made (q ∷ qs) w (inl e) =
    let rest : ((made + 1) * 7 + order) % 11 < 11 = mod-lt ((made + 1) * 7 + order) (omega arith) in
    let due : w.due ≡ turn + turns_needed order (made + 1) = ap (λ (x : Waiting). x.due) e in
    (omega (arith, due, rest), omega (arith, due, rest), omega arith)
asks_within order turn made (q ∷ qs) w (inr h) =
    let it : (turn + 1 ≤ w.due) × (w.due ≤ turn + 11) × (1 ≤ length (asks_for order turn (made + 1) qs)) = asks_within order turn (made + 1) qs w h in
    (it.0, it.1, omega (arith, it.2))

later_not : (turn : ℕ) (w : Waiting) → is_later turn w ≡ true → turn ≢ w.due
later_not turn w e same = true≢false (sym e ∙ ap not (eq-eqb turn w.due same))

-- the asks after a turn wait for later ones
pub turned_within : (book : Book) (ask : TripAsk) (order : ℕ) (reply : Query → Delivery) (turn : ℕ) (at : Standing) → WithinTurns turn at → (w : Waiting) → Among w (turned book ask order reply turn at).waiting
    → (turn + 1 ≤ w.due) × (w.due ≤ 1 + 11 * (turned book ask order reply turn at).made)
unfolding turned
turned_within book ask order reply turn at it w h =
    let queries : List Query = wanted book ask (told_in reply turn at) in
    let later : List Waiting = filter (is_later turn) at.waiting in
    let asked : List Waiting = asks_for order turn at.made (filter (is_new later) queries) in
    elim (among_append w (filter (is_wanted queries) later) asked h) [
      | inl l ↦
          let on : Among w at.waiting × (is_later turn w ≡ true) = among_filter_back (is_later turn) w at.waiting (among_filter_back (is_wanted queries) w later l).0 in
          let was : (turn ≤ w.due) × (w.due ≤ 1 + 11 * at.made) = it.each w on.0 in
          (after (later_not turn w on.1) was.0, omega (arith, was.1))
      | inr r ↦
          let new : (turn + 1 ≤ w.due) × (w.due ≤ turn + 11) × (1 ≤ length asked) = asks_within order turn at.made (filter (is_new later) queries) w r in
          let low : turn ≤ 1 + 11 * at.made = it.low in
          (new.0, omega (arith, new.1, new.2, low))
    ]
  where
    after : turn ≢ w.due → turn ≤ w.due → turn + 1 ≤ w.due
    after differ below = elim (cases_Bool (turn == w.due)) [
      | inl holds ↦ absurd (differ (eqb-true turn w.due holds))
      | inr fails ↦ apart (eqb-false turn w.due fails) below
    ]
      where
        apart : (turn ≡ w.due → ⊥) → turn ≤ w.due → turn + 1 ≤ w.due
        apart never low = by_order (w.due - turn) refl
          where
            by_order : (n : ℕ) → w.due - turn ≡ n → turn + 1 ≤ w.due
            by_order zero e = absurd (never (omega (arith, e, low)))
            by_order (suc n) e = omega (arith, e, low)

-- where nothing is wanted, nothing waits after the turn
sifted_none : (ws : List Waiting) → filter (is_wanted []) ws ≡ []
sifted_none [] = refl
sifted_none (w ∷ ws) = sifted_none ws

pub turned_none : (book : Book) (ask : TripAsk) (order : ℕ) (reply : Query → Delivery) (turn : ℕ) (at : Standing) → wanted book ask (turned book ask order reply turn at).told ≡ [] → (turned book ask order reply turn at).waiting ≡ []
unfolding turned
turned_none book ask order reply turn at none =
    let later : List Waiting = filter (is_later turn) at.waiting in
    ap (λ (qs : List Query). filter (is_wanted qs) later ++ asks_for order turn at.made (filter (is_new later) qs)) none ∙ (append-nil (filter (is_wanted []) later) ∙ sifted_none later)

-- ---- a rest

rested_rests : (o : Option Live) → (unwrap_or (option_map after_rest o) no_ask).rests ≡ (unwrap_or o no_ask).rests - 1
rested_rests None = refl
rested_rests (Some a) = refl

rested_taken : (o : Option Live) → (unwrap_or (option_map after_rest o) no_ask).taken ≡ (unwrap_or o no_ask).taken
rested_taken None = refl
rested_taken (Some a) = refl

module _ (mid new : View) (rested : (key : ℕ) → new.live key ≡ option_map after_rest (mid.live key)) where
  pub rest_untaken : (subs : List Kept) → AreUntaken mid subs → AreUntaken new subs
  rest_untaken subs all k h = ap (λ (o : Option Live). (unwrap_or o no_ask).taken) (rested (key_of k)) ∙ (rested_taken (mid.live (key_of k)) ∙ all k h)

  -- what waits after a turn is what waits before the next one
  pub rest_waiting : (turn : ℕ) (subs : List Kept) → ((k : Kept) → Among k subs → turn + 1 ≤ (waiting_in turn mid k).due) → waiting_all (turn + 1) new subs ≡ waiting_all turn mid subs
  rest_waiting turn [] later = refl
  rest_waiting turn (k ∷ subs) later =
      let rests : rests_at new k ≡ rests_at mid k - 1 = ap (λ (o : Option Live). (unwrap_or o no_ask).rests) (rested (key_of k)) ∙ rested_rests (mid.live (key_of k)) in
      let some : turn + 1 ≤ turn + rests_at mid k = later k (inl refl) in
      let due : (turn + 1) + rests_at new k ≡ turn + rests_at mid k = omega (arith, rests, some) in
      ap (λ (n : ℕ). record { number = k.number; query = k.query; due = n } ∷ waiting_all (turn + 1) new subs) due ∙ ap (λ (ws : List Waiting). waiting_in turn mid k ∷ ws) (rest_waiting turn subs (λ x h. later x (inr h)))

-- ---- the number of turns

-- a search makes few turns
pub turns_few : (book : Book) (ask : TripAsk) (asks turn : ℕ) → IsWellBook book → IsTrue (is_stop_ref ask.origin) → asks ≤ most_asks book ask → turn + 1 ≤ 1 + 11 * asks → next_count turn ≡ turn + 1
turns_few book ask asks turn well ref bound low =
    let pairs : pair_count book ask ≤ length book.spots + 1 = (pairs_long book ask well ref).1 in
    let spots : length book.spots ≤ 8160 = spots_few book well in
    omega (arith, spots, pairs, bound, low)

-- ---- counts that did not rise

pub calm_before : (old mid new : View) → Keeps old mid → Keeps mid new → NoFaultRose old new → NoFaultRose old mid
calm_before old mid new x y calm region below =
    let it : Rests (old.faults region) (new.faults region) = calm region below in
    record { same = omega (arith, it.same, x.faults region, y.faults region); below_end = omega (arith, it.same, it.below_end, x.faults region, y.faults region) }

pub calm_after : (old mid new : View) → Keeps old mid → Keeps mid new → NoFaultRose old new → NoFaultRose mid new
calm_after old mid new x y calm region below =
    let it : Rests (old.faults region) (new.faults region) = calm region (subst (λ (f : Fixed). region < length f.stations) x.fixed below) in
    record { same = omega (arith, it.same, x.faults region, y.faults region); below_end = it.below_end }
