-- Polls over links that tell their order and their timetables.
use Rattle.std.proofs.Common.{◌≡◌, ◌≢◌, ℕ, zero, suc, ◌+◌, ◌<◌, ◌≤◌, ◌⊎◌, Bool, true, false, cond, not, List, [], ◌∷◌, ◌++◌, map, filter, length, take, drop, get_or, Result, Option, Some, IfSome, refl, sym, ◌∙◌, ap, subst, inl, inr, append-nil, append_assoc, arith, slice_get}
use Rattle.std.proofs.lemmas.Bool.{cases_Bool, eq-eqb, eqb-true}
use Rattle.std.proofs.lemmas.Option.{same_Some}
use Rattle.std.proofs.lemmas.List.{map-append, take_more, drop_more, take_all, drop_all}
use Rattle.std.proofs.lemmas.List.Elements.{filter-append}
use Rattle.ojp_values.specs.Lists.{Among}
use Rattle.ojp_values.specs.declared.NoMemory.{NoMemory}
use Rattle.ojp_values.specs.declared.asks.TripAsk.{TripAsk}
use Rattle.ojp_values.proofs.ListFacts.{among_append}
use Rattle.ojp_timetable.specs.Tables.{Timetable}
use Rattle.ojp_timetable.proofs.ReadFacts.{among_at}
use Rattle.ojp_exchange.specs.Book.{Book}
use Rattle.ojp_links.specs.declared.expect.Expect.{Expect}
use Rattle.ojp_links.specs.declared.expect.Expect.TheVariants as expects
use Rattle.ojp_links.specs.declared.links.More.TheVariants as mores
use Rattle.ojp_links.specs.Laws.{SureIsNeverHopeless}
use Rattle.ojp_links.specs.Replies.{Requests, ServesByTable, ask_of}
use Rattle.ojp_links.specs.Seen.{View, Live, Fixed, IsSound, AreServers, IsServedWhole, TellsTables, ask_at, live_or_none, codes_of}
use Rattle.ojp_links.specs.Calls.{IsInOrder, OthersStay}
use Rattle.ojp_records.specs.declared.queries.Query.{Query}
use Rattle.ojp_records.specs.declared.queries.Entry.{Entry}
use Rattle.ojp_records.specs.Laws.{OpenIsSure}
use Rattle.ojp_records.specs.Records.{region_of}
use Rattle.ojp_records.specs.Told.{IsOpenQuery, document}
use Rattle.ojp_subrequests.specs.declared.subreply.SubPoll.TheVariants as polls
use Rattle.ojp_subrequests.specs.Subrequests.{IsSafe, Polls}
use Rattle.ojp_subrequests.specs.Hearing.{IsOpenReply}
use Rattle.ojp_subrequests.specs.Views.{SubView}
use Rattle.ojp_traces.specs.Traces.{Waiting, is_due, is_later}
use Rattle.ojp_traces.specs.Traces as traces
use Rattle.ojp_turns.specs.declared.kept.Kept.{Kept}
use Rattle.ojp_turns.specs.declared.polling.Step.{Step}
use Rattle.ojp_turns.specs.declared.polling.Step.TheVariants as steps
use Rattle.ojp_turns.specs.Held.{key_of, IsForIn, AreApart, StandsIn}
use Rattle.ojp_turns.specs.Polling.{FirstPolled, PollsTo, Steps}
use Rattle.ojp_turns.specs.Ordering.{TellsOrder, IsUntaken, AreUntaken, rests_at, waiting_in, waiting_all, PollOrder, GoesLater, IsReady, FirstOrder, told_query, RoundOrder}
use Rattle.ojp_turns.proofs.HeldFacts.{other_key}
use Rattle.ojp_turns.proofs.PollFacts.{is_safe}
use Rattle.ojp_turns.proofs.RoundFacts.{round_given, tells_on}

-- ---- one poll

none_of : (n : ℕ) → (0 < n → ⊥) → n ≡ 0
none_of zero f = refl
none_of (suc n) f = absurd (f (omega arith))

got_waits : mores.Got ≡ mores.NotYet → ⊥
got_waits e = cc

got_lost : mores.Got ≡ mores.NoMemory → ⊥
got_lost e = cc

-- the whole reply of a server goes on with nothing
module _ (book : Book) (ask : TripAsk) (told : List Entry) (old new : View) (was : Kept) (now : SubView) (is_for : IsForIn book ask (codes_of old.fixed) old.live was) (sound : IsSound old)
    (never : SureIsNeverHopeless) (sure : OpenIsSure) (differ : ask.origin ≢ ask.target) (is_open : IsOpenQuery book ask told was.query) (p : Polls old new was.sub now polls.Moved) where
  pub moved_never : PollOrder steps.Moved book ask told old new was
  moved_never order tables tells untaken =
      let x : Live = ask_at old (key_of was) in
      let y : Live = ask_at p.seen (key_of was) in
      let ordered : IsInOrder x y p.more = subst (λ (o : Option ℕ). IfSome o (λ (n : ℕ). IsInOrder x y p.more)) tells.order_told p.looks.ordered in
      let got : p.more ≡ mores.Got = p.after.0 in
      let rests : x.rests ≡ 0 = none_of x.rests (λ some. got_waits (sym got ∙ ordered.waits.1 some)) in
      let whole : (p.more ≡ mores.Got) × (y.reply ≡ Some y.taken) = ordered.whole rests untaken (λ lost. got_lost (sym got ∙ lost)) in
      let reply : x.reply ≡ Some y.taken = sym p.looks.reply ∙ whole.1 in
      let safe : IsSafe old was.sub was.sub.expect = is_safe book ask old was is_for sound sure told differ is_open tables tells.tables_told tells.theirs tells.given in
      served tables tells.tables_told y.taken reply p.after.2 (subst (IsSafe old was.sub) is_for.asks safe)
    where
      served : (tables : List Timetable) → TellsTables old tables → (bytes : List ℕ) → (ask_at old (key_of was)).reply ≡ Some bytes → IsOpenReply bytes → IsSafe old was.sub (expects.Region (region_of was.query) (document book ask was.query)) → ⊥
      served tables tells bytes reply unfinished safe =
          let same : tables ≡ safe.0 = same_Some tables safe.0 (sym tells.servers ∙ safe.1.servers) in
          let table : Timetable = safe.2.0 in
          let honest : IsServedWhole (ask_at old (key_of was)) safe.0 bytes =
          subst (λ (o : Option (List ℕ)). IfSome o (IsServedWhole (ask_at old (key_of was)) safe.0)) reply
          (subst (λ (o : Option (List Timetable)). IfSome o (λ (ts : List Timetable). IfSome (ask_at old (key_of was)).reply (IsServedWhole (ask_at old (key_of was)) ts))) safe.1.servers (sound.honest (key_of was) is_for.held_as.own.live).whole) in
          let at : slice_get safe.0 (ask_at old (key_of was)).region ≡ Some table = ap (slice_get safe.0) is_for.held_as.own.of_region ∙ safe.2.1 in
          let one : honest.0 ≡ table = same_Some honest.0 table (sym honest.1 ∙ at) in
          let servers : AreServers old.fixed.stations safe.0 = subst (λ (o : Option (List Timetable)). IfSome o (AreServers old.fixed.stations)) safe.1.servers sound.servers_well in
          never table (ask_at old (key_of was)).request bytes bytes (document book ask was.query) true (servers.well table (among_at safe.0 was.sub.region table safe.2.1)) safe.2.2
          (subst (λ (e : Expect). Requests (ask_at old (key_of was)).request (ask_of e)) is_for.asks is_for.held_as.own.asked) (subst (λ (t : Timetable). ServesByTable t (ask_at old (key_of was)).request bytes) one honest.2)
          ([], sym (append-nil bytes)) (λ e. refl)
          (λ more delivery ended is fits. unfinished.none (bytes ++ more) [] is.0 (sym (append-nil (bytes ++ more) ∙ (ap (λ (l : List ℕ). bytes ++ l) (ended refl) ∙ append-nil bytes))) is.1)

-- ---- the first of them

same_head : (was kept : Kept) (rest others : List Kept) → was ∷ rest ≡ kept ∷ others → (was ≡ kept) × (rest ≡ others)
same_head was kept rest others e = (cc, cc)

module _ (book : Book) (ask : TripAsk) (told told' : List Entry) (old new : View) (items rest subs : List Kept) (was now : Kept) (is_first : items ≡ was ∷ rest) where
  first_as : (kept : Kept) (others : List Kept) → items ≡ kept ∷ others → GoesLater old new was rest subs told told' ⊎ IsReady old was rest subs told told' → GoesLater old new kept others subs told told' ⊎ IsReady old kept others subs told told'
  first_as kept others e it =
      let both : (was ≡ kept) × (rest ≡ others) = same_head was kept rest others (sym is_first ∙ e) in
      subst (λ (k : Kept). GoesLater old new k others subs told told' ⊎ IsReady old k others subs told told') both.0
      (subst (λ (ks : List Kept). GoesLater old new was ks subs told told' ⊎ IsReady old was ks subs told told') both.1 it)

  untaken_as : (kept : Kept) (others : List Kept) → items ≡ kept ∷ others → IsUntaken old kept → IsUntaken old was
  untaken_as kept others e it = subst (IsUntaken old) (sym (same_head was kept rest others (sym is_first ∙ e)).0) it

  pub first_waits : (s : Step) → s ≡ steps.Waits → Steps steps.Waits book ask old new was now told told' → PollOrder s book ask told old new was → subs ≡ rest ++ now ∷ [] → FirstOrder book ask old new items subs told told'
  first_waits s is step ordered are order tables kept others tells e untaken =
      let it : (0 < rests_at old was) × (rests_at new was ≡ rests_at old was) × IsUntaken new was =
      subst (λ (t : Step). PollOrder t book ask told old new was) is ordered order tables tells (untaken_as kept others e untaken) in
      first_as kept others e
      (inl (record {
        waits = it.0;
        now = now;
        turned = are;
        same_key = step.1.key;
        same_ask = λ i. record { number = step.1.number i; query = step.1.query i };
        same_rests = ap (λ (k : ℕ). (ask_at new k).rests) step.1.key ∙ it.1;
        untaken = ap (λ (k : ℕ). (ask_at new k).taken) step.1.key ∙ it.2;
        same_told = step.0;
      }))

  pub first_moved : (s : Step) → s ≡ steps.Moved → PollOrder s book ask told old new was → FirstOrder book ask old new items subs told told'
  first_moved s is ordered order tables kept others tells e untaken =
      absurd (subst (λ (t : Step). PollOrder t book ask told old new was) is ordered order tables tells (untaken_as kept others e untaken))

  pub first_over : (s : Step) → s ≡ steps.Over → Steps steps.Over book ask old new was now told told' → PollOrder s book ask told old new was → subs ≡ rest → FirstOrder book ask old new items subs told told'
  first_over s is step ordered are order tables kept others tells e untaken =
      first_as kept others e
      (inr (record {
        none = subst (λ (t : Step). PollOrder t book ask told old new was) is ordered order tables tells (untaken_as kept others e untaken);
        gone = are;
        entry = step.0;
        of_it = step.2.query;
        tells = step.1;
      }))

-- ---- all of them

-- so many of the subrequests were polled: those that are due were heard, and the others wait behind those that are ahead
pub record DueTo (turn n : ℕ) (old now : View) (start subs : List Kept) (told after : List Entry) : Type 0 where
  pub waiting : waiting_all turn now subs ≡ waiting_all turn old (drop n start) ++ filter (is_later turn) (waiting_all turn old (take n start))
  pub untaken : AreUntaken now subs
  pub heard : List Entry
  pub tells : after ≡ told ++ heard
  pub of_due : map told_query heard ≡ map traces.query_of (filter (is_due turn) (waiting_all turn old (take n start)))

abbrev pub OrderTo : ℕ → ℕ → Book → TripAsk → View → View → List Kept → List Kept → List Entry → List Entry → Type 0
OrderTo turn n book ask old now start subs told after = (order : ℕ) (tables : List Timetable) → TellsOrder order tables book ask told old → AreUntaken old start → DueTo turn n old now start subs told after

pub order_start : (turn : ℕ) (book : Book) (ask : TripAsk) (v : View) (start : List Kept) (told : List Entry) → OrderTo turn 0 book ask v v start start told told
order_start turn book ask v start told order tables tells untaken =
    record { waiting = sym (append-nil (waiting_all turn v start)); untaken = untaken; heard = []; tells = sym (append-nil told); of_due = refl }

-- the asks of those that were not polled wait on
pub same_waiting : (turn : ℕ) (old new : View) (subs : List Kept) → ((kept : Kept) → Among kept subs → new.live (key_of kept) ≡ old.live (key_of kept)) → waiting_all turn new subs ≡ waiting_all turn old subs
same_waiting turn old new [] same = refl
same_waiting turn old new (k ∷ subs) same =
    ap (λ (o : Option Live). record { number = k.number; query = k.query; due = turn + (live_or_none o).rests } ∷ waiting_all turn new subs) (same k (inl refl))
    ∙ ap (λ (ws : List Waiting). waiting_in turn old k ∷ ws) (same_waiting turn old new subs (λ x h. same x (inr h)))

filter_cons : (p : Waiting → Bool) (w : Waiting) (b : Bool) → p w ≡ b → filter p (w ∷ []) ≡ cond b (w ∷ []) []
filter_cons p w b e = ap (λ (c : Bool). cond c (w ∷ []) []) e

-- the ask comes now where it needs no rests, and later where it needs some
pub due_now : (turn : ℕ) (w : Waiting) → w.due ≡ turn → is_due turn w ≡ true
due_now turn w e = eq-eqb turn w.due (sym e)

pub due_later : (turn : ℕ) (w : Waiting) → turn < w.due → is_due turn w ≡ false
due_later turn w less = elim (cases_Bool (is_due turn w)) [
  | inl holds ↦ let same : turn ≡ w.due = eqb-true turn w.due holds in absurd (omega (arith, same, less))
  | inr fails ↦ fails
]

waits_head : (x y : Waiting) (xs ys : List Waiting) → x ∷ xs ≡ y ∷ ys → (x ≡ y) × (xs ≡ ys)
waits_head x y xs ys e = (cc, cc)

module _ (turn n : ℕ) (book : Book) (ask : TripAsk) (old mid new : View) (start now after : List Kept) (before told told' : List Entry) (below : n < length start)
    (kept : Kept) (rest : List Kept) (is_first : now ≡ kept ∷ rest) (apart : AreApart (map key_of now)) (others : OthersStay mid new (key_of kept)) (so_far : DueTo turn n old mid start now before told) where
  abbrev x : Kept
  x = get_or start n kept

  keys_apart : AreApart (key_of kept ∷ map key_of rest)
  keys_apart = subst (λ (ks : List Kept). AreApart (map key_of ks)) is_first apart

  rest_same : waiting_all turn new rest ≡ waiting_all turn mid rest
  rest_same = same_waiting turn mid new rest (λ k h. others (key_of k) (other_key kept k rest keys_apart.0 h))

  rest_untaken : AreUntaken new rest
  rest_untaken k h =
      ap (λ (o : Option Live). (live_or_none o).taken) (others (key_of k) (other_key kept k rest keys_apart.0 h)) ∙ so_far.untaken k (subst (Among k) (sym is_first) (inr h))

  heads : (waiting_in turn mid kept ≡ waiting_in turn old x) × (waiting_all turn mid rest ≡ waiting_all turn old (drop (n + 1) start) ++ filter (is_later turn) (waiting_all turn old (take n start)))
  heads =
      waits_head (waiting_in turn mid kept) (waiting_in turn old x) (waiting_all turn mid rest) (waiting_all turn old (drop (n + 1) start) ++ filter (is_later turn) (waiting_all turn old (take n start)))
      (ap (waiting_all turn mid) (sym is_first)
      ∙ (so_far.waiting ∙ ap (λ (ks : List Kept). waiting_all turn old ks ++ filter (is_later turn) (waiting_all turn old (take n start))) (drop_more start n kept below)))

  more_due : (p : Waiting → Bool) → filter p (waiting_all turn old (take (n + 1) start)) ≡ filter p (waiting_all turn old (take n start)) ++ filter p (waiting_in turn old x ∷ [])
  more_due p =
      ap (λ (ks : List Kept). filter p (waiting_all turn old ks)) (take_more start n kept below)
      ∙ (ap (filter p) (map-append (waiting_in turn old) (take n start) (x ∷ [])) ∙ filter-append p (waiting_all turn old (take n start)) (waiting_in turn old x ∷ []))

  later_more : GoesLater mid new kept rest after told told' → DueTo turn (n + 1) old new start after before told'
  later_more l =
      let w : waiting_in turn new l.now ≡ waiting_in turn old x =
      (λ i. record { number = (l.same_ask i).number; query = (l.same_ask i).query; due = turn + l.same_rests i }) ∙ heads.0 in
      let less : turn < (waiting_in turn old x).due = subst (λ (v : Waiting). turn < v.due) heads.0 (let some : 0 < rests_at mid kept = l.waits in omega (arith, some)) in
      let not_due : is_due turn (waiting_in turn old x) ≡ false = due_later turn (waiting_in turn old x) less in
      record {
        waiting = ap (waiting_all turn new) l.turned
            ∙ (map-append (waiting_in turn new) rest (l.now ∷ [])
            ∙ (ap (λ (ws : List Waiting). ws ++ waiting_in turn new l.now ∷ []) (rest_same ∙ heads.1)
            ∙ (ap (λ (v : Waiting). (waiting_all turn old (drop (n + 1) start) ++ filter (is_later turn) (waiting_all turn old (take n start))) ++ v ∷ []) w
            ∙ (append_assoc (waiting_all turn old (drop (n + 1) start)) (filter (is_later turn) (waiting_all turn old (take n start))) (waiting_in turn old x ∷ [])
            ∙ ap (λ (ws : List Waiting). waiting_all turn old (drop (n + 1) start) ++ ws)
            (ap (λ (ws : List Waiting). filter (is_later turn) (waiting_all turn old (take n start)) ++ ws) (sym (filter_cons (is_later turn) (waiting_in turn old x) true (ap not not_due))) ∙ sym (more_due (is_later turn)))))));
        untaken = λ k h. elim (among_append k rest (l.now ∷ []) (subst (Among k) l.turned h)) [ inl r ↦ rest_untaken k r | inr e ↦ elim e [ inl same ↦ subst (IsUntaken new) (sym same) l.untaken | inr none ↦ absurd none ] ];
        heard = so_far.heard;
        tells = l.same_told ∙ so_far.tells;
        of_due = so_far.of_due
            ∙ ap (map traces.query_of) (sym (more_due (is_due turn) ∙ (ap (λ (ws : List Waiting). filter (is_due turn) (waiting_all turn old (take n start)) ++ ws) (filter_cons (is_due turn) (waiting_in turn old x) false not_due)
            ∙ append-nil (filter (is_due turn) (waiting_all turn old (take n start))))));
      }

  ready_more : IsReady mid kept rest after told told' → DueTo turn (n + 1) old new start after before told'
  ready_more r =
      let at : (waiting_in turn old x).due ≡ turn = ap (λ (w : Waiting). w.due) (sym heads.0) ∙ (let none : rests_at mid kept ≡ 0 = r.none in omega (arith, none)) in
      let due : is_due turn (waiting_in turn old x) ≡ true = due_now turn (waiting_in turn old x) at in
      let query : r.entry.query ≡ x.query = r.of_it ∙ ap (λ (w : Waiting). w.query) heads.0 in
      record {
        waiting = ap (waiting_all turn new) r.gone
            ∙ (rest_same
            ∙ (heads.1
            ∙ ap (λ (ws : List Waiting). waiting_all turn old (drop (n + 1) start) ++ ws)
            (sym (more_due (is_later turn) ∙ (ap (λ (ws : List Waiting). filter (is_later turn) (waiting_all turn old (take n start)) ++ ws) (filter_cons (is_later turn) (waiting_in turn old x) false (ap not due))
            ∙ append-nil (filter (is_later turn) (waiting_all turn old (take n start))))))));
        untaken = λ k h. rest_untaken k (subst (Among k) r.gone h);
        heard = so_far.heard ++ r.entry ∷ [];
        tells = r.tells ∙ (ap (λ (es : List Entry). es ++ r.entry ∷ []) so_far.tells ∙ append_assoc before so_far.heard (r.entry ∷ []));
        of_due = map-append told_query so_far.heard (r.entry ∷ [])
            ∙ (ap (λ (qs : List Query). qs ++ r.entry.query ∷ []) so_far.of_due
            ∙ (ap (λ (q : Query). map traces.query_of (filter (is_due turn) (waiting_all turn old (take n start))) ++ q ∷ []) query
            ∙ (sym (map-append traces.query_of (filter (is_due turn) (waiting_all turn old (take n start))) (waiting_in turn old x ∷ []))
            ∙ ap (map traces.query_of)
            (ap (λ (ws : List Waiting). filter (is_due turn) (waiting_all turn old (take n start)) ++ ws) (sym (filter_cons (is_due turn) (waiting_in turn old x) true due)) ∙ sym (more_due (is_due turn))))));
      }

-- one more poll
pub order_more : (turn n : ℕ) (book : Book) (ask : TripAsk) (old mid new : View) (start now after : List Kept) (before told told' : List Entry) (moved : Bool) (found : Result Bool NoMemory) → n < length start → PollsTo moved n book ask old mid start now before told
    → FirstPolled book ask mid new now after told told' found → StandsIn book ask told now mid → FirstOrder book ask mid new now after told told' → OrderTo turn n book ask old mid start now before told → OrderTo turn (n + 1) book ask old new start after before told'
order_more turn n book ask old mid new start now after before told told' moved found below polls f stands first so_far order tables tells untaken =
    let due : DueTo turn n old mid start now before told = so_far order tables tells untaken in
    let here : TellsOrder order tables book ask told mid = record {
      order_told = ap (λ (x : Fixed). x.order) polls.round.keeps.fixed ∙ tells.order_told;
      tables_told = tells_on old mid tables polls.round.keeps tells.tables_told;
      theirs = tells.theirs;
      given = round_given book ask old mid start now before told tables polls.round tells.tables_told tells.given;
    } in
    elim (first order tables f.kept f.rest here f.is_first (due.untaken f.kept (subst (Among f.kept) (sym f.is_first) (inl refl)))) [
      | inl later ↦ later_more turn n book ask old mid new start now after before told told' below f.kept f.rest f.is_first stands.are_live.apart f.others due later
      | inr ready ↦ ready_more turn n book ask old mid new start now after before told told' below f.kept f.rest f.is_first stands.are_live.apart f.others due ready
    ]

-- after the last
pub order_end : (turn n : ℕ) (book : Book) (ask : TripAsk) (old new : View) (start subs : List Kept) (told after : List Entry) → length start ≤ n → OrderTo turn n book ask old new start subs told after → RoundOrder turn book ask old new start subs told after
order_end turn n book ask old new start subs told after whole so_far order tables tells untaken =
    let due : DueTo turn n old new start subs told after = so_far order tables tells untaken in
    record {
      waiting = due.waiting ∙ (ap (λ (ks : List Kept). waiting_all turn old ks ++ filter (is_later turn) (waiting_all turn old (take n start))) (drop_all n start whole) ∙ ap (λ (ks : List Kept). filter (is_later turn) (waiting_all turn old ks)) (take_all n start whole));
      untaken = due.untaken;
      heard = due.heard;
      tells = due.tells;
      of_due = due.of_due ∙ ap (λ (ks : List Kept). map traces.query_of (filter (is_due turn) (waiting_all turn old ks))) (take_all n start whole);
    }
