-- Two runs of the definition of a trace go the same way.
use Rattle.std.proofs.Common.{◌≡◌, ◌≢◌, ◌==◌, ℕ, zero, suc, ◌+◌, Bool, true, false, cond, List, [], ◌∷◌, ◌++◌, map, filter, length, Some, refl, sym, ◌∙◌, ap, subst, inl, inr, append_assoc}
use Rattle.std.proofs.lemmas.Bool.{true≢false, cases_Bool}
use Rattle.std.proofs.lemmas.Option.{same_Some}
use Rattle.ojp_values.specs.Lists.{Each}
use Rattle.ojp_values.specs.Texts.{Text, same}
use Rattle.ojp_values.specs.declared.asks.TripAsk.{TripAsk}
use Rattle.ojp_values.specs.declared.asks.Ask.TheVariants as asks
use Rattle.ojp_values.specs.declared.replies.Delivery.{Delivery}
use Rattle.ojp_timetable.specs.Tables.{Timetable}
use Rattle.ojp_timetable.specs.Journeys.{AreTables}
use Rattle.ojp_timetable.proofs.TextFacts.{same_is, is_same}
use Rattle.ojp_exchange.specs.Book.{Book}
use Rattle.ojp_records.specs.declared.queries.Query.{Query}
use Rattle.ojp_records.specs.declared.queries.Entry.{Entry}
use Rattle.ojp_records.specs.Wanted.{wanted}
use Rattle.ojp_records.specs.Headline.{AreGiven, EntryGiven}
use Rattle.ojp_traces.specs.Lines.{event_lines}
use Rattle.ojp_traces.specs.Traces.{Waiting, Standing, before_all, is_due, is_later, is_wanted, is_unwanted, is_new, entry_of, asked_event, replied_event, dropped_event, asks_for, told_in, turned, waits_for_none, ended_from, EndsWith, TripTrace, OneTrace}
use Rattle.ojp_trace_laws.proofs.AlikeFacts.{Alike, given_alike, wanted_same}

-- ---- records

each_front : (P : Entry → Type 0) (xs ys : List Entry) → Each P (xs ++ ys) → Each P xs
each_front P [] ys all = tt
each_front P (x ∷ xs) ys all = (all.0, each_front P xs ys all.1)

each_behind : (P : Entry → Type 0) (xs ys : List Entry) → Each P (xs ++ ys) → Each P ys
each_behind P [] ys all = all
each_behind P (x ∷ xs) ys all = each_behind P xs ys all.1

alike_joined : (book : Book) (ask : TripAsk) (xs ys us vs : List Entry) → Alike book ask xs ys → Alike book ask us vs → Alike book ask (xs ++ us) (ys ++ vs)
alike_joined book ask [] [] us vs all more = more
alike_joined book ask [] (y ∷ ys) us vs all more = absurd all
alike_joined book ask (x ∷ xs) [] us vs all more = absurd all
alike_joined book ask (x ∷ xs) (y ∷ ys) us vs all more = (all.0, alike_joined book ask xs ys us vs all.1 more)

due_alike : (tables : List Timetable) (book : Book) (ask : TripAsk) (r s : Query → Delivery) (ws : List Waiting) → AreTables tables → AreGiven tables book ask (map (entry_of r) ws) → AreGiven tables book ask (map (entry_of s) ws)
    → Alike book ask (map (entry_of r) ws) (map (entry_of s) ws)
due_alike tables book ask r s [] are p q = tt
due_alike tables book ask r s (w ∷ ws) are p q = (given_alike tables book ask w.query (r w.query) (s w.query) are p.0 q.0, due_alike tables book ask r s ws are p.1 q.1)

-- ---- one turn

told_turned : (book : Book) (ask : TripAsk) (order : ℕ) (r : Query → Delivery) (turn : ℕ) (at : Standing) → (turned book ask order r turn at).told ≡ at.told ++ map (entry_of r) (filter (is_due turn) at.waiting)
unfolding turned told_in
told_turned book ask order r turn at = refl

-- the runs stand alike
pub record StandAlike (book : Book) (ask : TripAsk) (at other : Standing) : Type 0 where
  pub told : Alike book ask at.told other.told
  pub waiting : at.waiting ≡ other.waiting
  pub made : at.made ≡ other.made
  pub lines : at.lines ≡ other.lines

module _ (tables : List Timetable) (book : Book) (ask : TripAsk) (order : ℕ) (r s : Query → Delivery) (turn : ℕ) (at other : Standing) (are : AreTables tables) (it : StandAlike book ask at other)
    (p : AreGiven tables book ask (turned book ask order r turn at).told) (q : AreGiven tables book ask (turned book ask order s turn other).told) where
  turned_told : Alike book ask (turned book ask order r turn at).told (turned book ask order s turn other).told
  turned_told =
      let first : AreGiven tables book ask (map (entry_of r) (filter (is_due turn) at.waiting)) =
      each_behind (EntryGiven tables book ask) at.told (map (entry_of r) (filter (is_due turn) at.waiting)) (subst (AreGiven tables book ask) (told_turned book ask order r turn at) p) in
      let second : AreGiven tables book ask (map (entry_of s) (filter (is_due turn) other.waiting)) =
      each_behind (EntryGiven tables book ask) other.told (map (entry_of s) (filter (is_due turn) other.waiting)) (subst (AreGiven tables book ask) (told_turned book ask order s turn other) q) in
      let due : Alike book ask (map (entry_of r) (filter (is_due turn) at.waiting)) (map (entry_of s) (filter (is_due turn) other.waiting)) =
      subst (λ (ws : List Waiting). Alike book ask (map (entry_of r) (filter (is_due turn) at.waiting)) (map (entry_of s) (filter (is_due turn) ws))) it.waiting
      (due_alike tables book ask r s (filter (is_due turn) at.waiting) are first (subst (λ (ws : List Waiting). AreGiven tables book ask (map (entry_of s) (filter (is_due turn) ws))) (sym it.waiting) second)) in
      subst (λ (es : List Entry). Alike book ask es (turned book ask order s turn other).told) (sym (told_turned book ask order r turn at))
      (subst (Alike book ask (at.told ++ map (entry_of r) (filter (is_due turn) at.waiting))) (sym (told_turned book ask order s turn other))
      (alike_joined book ask at.told other.told (map (entry_of r) (filter (is_due turn) at.waiting)) (map (entry_of s) (filter (is_due turn) other.waiting)) it.told due))

  wanted_now : wanted book ask (turned book ask order r turn at).told ≡ wanted book ask (turned book ask order s turn other).told
  wanted_now = wanted_same book ask (turned book ask order r turn at).told (turned book ask order s turn other).told turned_told

  waiting_now : (turned book ask order r turn at).waiting ≡ (turned book ask order s turn other).waiting
  unfolding turned
  waiting_now = λ i. filter (is_wanted (wanted_now i)) (filter (is_later turn) (it.waiting i)) ++ asks_for order turn (it.made i) (filter (is_new (filter (is_later turn) (it.waiting i))) (wanted_now i))

  made_now : (turned book ask order r turn at).made ≡ (turned book ask order s turn other).made
  unfolding turned
  made_now = λ i. it.made i + length (asks_for order turn (it.made i) (filter (is_new (filter (is_later turn) (it.waiting i))) (wanted_now i)))

  lines_now : (turned book ask order r turn at).lines ≡ (turned book ask order s turn other).lines
  unfolding turned
  lines_now = λ i.
      ((it.lines i ++ event_lines turn (map replied_event (filter (is_due turn) (it.waiting i)))) ++ event_lines turn (map dropped_event (filter (is_unwanted (wanted_now i)) (filter (is_later turn) (it.waiting i)))))
      ++ event_lines turn (map asked_event (asks_for order turn (it.made i) (filter (is_new (filter (is_later turn) (it.waiting i))) (wanted_now i))))

  pub turned_alike : StandAlike book ask (turned book ask order r turn at) (turned book ask order s turn other)
  turned_alike = record { told = turned_told; waiting = waiting_now; made = made_now; lines = lines_now }

-- ---- whole runs

-- the record of the end begins with that of each turn
record GrewTo (at last : Standing) : Type 0 where
  more : List Entry
  grows : last.told ≡ at.told ++ more

grew_from : (book : Book) (ask : TripAsk) (order : ℕ) (r : Query → Delivery) (n turn : ℕ) (at last : Standing) → ended_from book ask order r n turn at ≡ Some last → GrewTo at last
grew_from book ask order r zero turn at last e = absurd (cc)
grew_from book ask order r (suc n) turn at last e =
    let next : Standing = turned book ask order r turn at in
    elim (cases_Bool (waits_for_none (turned book ask order r turn at))) [
      | inl ends ↦
          let is : turned book ask order r turn at ≡ last =
          same_Some (turned book ask order r turn at) last (sym (ap (λ (b : Bool). cond b (Some (turned book ask order r turn at)) (ended_from book ask order r n (turn + 1) (turned book ask order r turn at))) ends) ∙ e) in
          record { more = map (entry_of r) (filter (is_due turn) at.waiting); grows = ap (λ (x : Standing). x.told) (sym is) ∙ told_turned book ask order r turn at }
      | inr goes ↦
          let on : ended_from book ask order r n (turn + 1) (turned book ask order r turn at) ≡ Some last =
          sym (ap (λ (b : Bool). cond b (Some (turned book ask order r turn at)) (ended_from book ask order r n (turn + 1) (turned book ask order r turn at))) goes) ∙ e in
          let later : GrewTo (turned book ask order r turn at) last = grew_from book ask order r n (turn + 1) (turned book ask order r turn at) last on in
          record {
            more = map (entry_of r) (filter (is_due turn) at.waiting) ++ later.more;
            grows = later.grows ∙ (ap (λ (es : List Entry). es ++ later.more) (told_turned book ask order r turn at) ∙ append_assoc at.told (map (entry_of r) (filter (is_due turn) at.waiting)) later.more);
          }
    ]

-- what a turn told is given, where the end's record is
turned_given : (tables : List Timetable) (book : Book) (ask : TripAsk) (order : ℕ) (r : Query → Delivery) (n turn : ℕ) (at last : Standing) → ended_from book ask order r (suc n) turn at ≡ Some last → AreGiven tables book ask last.told
    → AreGiven tables book ask (turned book ask order r turn at).told
turned_given tables book ask order r n turn at last e given =
    elim (cases_Bool (waits_for_none (turned book ask order r turn at))) [
      | inl ends ↦
          subst (λ (x : Standing). AreGiven tables book ask x.told)
          (sym (same_Some (turned book ask order r turn at) last (sym (ap (λ (b : Bool). cond b (Some (turned book ask order r turn at)) (ended_from book ask order r n (turn + 1) (turned book ask order r turn at))) ends) ∙ e))) given
      | inr goes ↦
          let later : GrewTo (turned book ask order r turn at) last =
          grew_from book ask order r n (turn + 1) (turned book ask order r turn at) last
          (sym (ap (λ (b : Bool). cond b (Some (turned book ask order r turn at)) (ended_from book ask order r n (turn + 1) (turned book ask order r turn at))) goes) ∙ e) in
          each_front (EntryGiven tables book ask) (turned book ask order r turn at).told later.more (subst (AreGiven tables book ask) later.grows given)
    ]

same_lines : (tables : List Timetable) (book : Book) (ask : TripAsk) (order : ℕ) (r s : Query → Delivery) (n m turn : ℕ) (at other last end : Standing) → AreTables tables → StandAlike book ask at other
    → ended_from book ask order r n turn at ≡ Some last → ended_from book ask order s m turn other ≡ Some end → AreGiven tables book ask last.told → AreGiven tables book ask end.told → last.lines ≡ end.lines
same_lines tables book ask order r s zero m turn at other last end are it e f p q = absurd (cc)
same_lines tables book ask order r s (suc n) zero turn at other last end are it e f p q = absurd (cc)
same_lines tables book ask order r s (suc n) (suc m) turn at other last end are it e f p q =
    let next : StandAlike book ask (turned book ask order r turn at) (turned book ask order s turn other) =
    turned_alike tables book ask order r s turn at other are it (turned_given tables book ask order r n turn at last e p) (turned_given tables book ask order s m turn other end f q) in
    elim (cases_Bool (waits_for_none (turned book ask order r turn at))) [
      | inl ends ↦
          let also : waits_for_none (turned book ask order s turn other) ≡ true = ap (λ (ws : List Waiting). length ws == 0) (sym next.waiting) ∙ ends in
          let first : turned book ask order r turn at ≡ last =
          same_Some (turned book ask order r turn at) last (sym (ap (λ (b : Bool). cond b (Some (turned book ask order r turn at)) (ended_from book ask order r n (turn + 1) (turned book ask order r turn at))) ends) ∙ e) in
          let second : turned book ask order s turn other ≡ end =
          same_Some (turned book ask order s turn other) end (sym (ap (λ (b : Bool). cond b (Some (turned book ask order s turn other)) (ended_from book ask order s m (turn + 1) (turned book ask order s turn other))) also) ∙ f) in
          ap (λ (x : Standing). x.lines) (sym first) ∙ (next.lines ∙ ap (λ (x : Standing). x.lines) second)
      | inr goes ↦
          let also : waits_for_none (turned book ask order s turn other) ≡ false = ap (λ (ws : List Waiting). length ws == 0) (sym next.waiting) ∙ goes in
          same_lines tables book ask order r s n m (turn + 1) (turned book ask order r turn at) (turned book ask order s turn other) last end are next
          (sym (ap (λ (b : Bool). cond b (Some (turned book ask order r turn at)) (ended_from book ask order r n (turn + 1) (turned book ask order r turn at))) goes) ∙ e)
          (sym (ap (λ (b : Bool). cond b (Some (turned book ask order s turn other)) (ended_from book ask order s m (turn + 1) (turned book ask order s turn other))) also) ∙ f) p q
    ]

ends_alike : (tables : List Timetable) (book : Book) (ask : TripAsk) (order : ℕ) (x y : Text) → AreTables tables → EndsWith tables book ask order x → EndsWith tables book ask order y → x ≡ y
ends_alike tables book ask order x y are p q =
    p.is_text
    ∙ (same_lines tables book ask order p.reply q.reply p.turns q.turns 1 before_all before_all p.last q.last are (record { told = tt; waiting = refl; made = refl; lines = refl }) p.ends q.ends p.given q.given
    ∙ sym q.is_text)

trip_alike : (tables : List Timetable) (book : Book) (ask : TripAsk) (order : ℕ) (x y : Text) → AreTables tables → TripTrace tables book ask order x → TripTrace tables book ask order y → x ≡ y
trip_alike tables book ask order x y are p q =
    elim (cases_Bool (same ask.origin ask.target)) [
      | inl holds ↦ let e : ask.origin ≡ ask.target = same_is ask.origin ask.target holds in p.same_stop e ∙ sym (q.same_stop e)
      | inr fails ↦
          let differ : ask.origin ≢ ask.target = λ e. true≢false (sym (is_same ask.origin ask.target e) ∙ fails) in
          ends_alike tables book ask order x y are (p.search differ) (q.search differ)
    ]

pub one_trace : OneTrace
one_trace tables book (asks.Trip ask) order x y are p q = trip_alike tables book ask order x y are.tables_well p q
one_trace tables book (asks.Multi ask) order x y are p q = p ∙ sym q
one_trace tables book (asks.Events ask) order x y are p q = p ∙ sym q
one_trace tables book (asks.Points ask) order x y are p q = p ∙ sym q
