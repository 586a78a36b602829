-- The lines of the polls of a turn.
use Rattle.std.proofs.Common.{◌≡◌, ℕ, ◌<◌, Bool, cond, List, [], ◌∷◌, ◌++◌, map, length, Result, refl, sym, ◌∙◌, ap, subst, inl, inr, append-nil, append_assoc, arith}
use Rattle.std.specs.List.{filter_map}
use Rattle.std.specs.Option.{option_to_list}
use Rattle.std.proofs.lemmas.List.{map-append, length-map, append_cancel_left}
use Rattle.ojp_values.specs.Lists.{Among, Each}
use Rattle.ojp_values.specs.declared.NoMemory.{NoMemory}
use Rattle.ojp_values.specs.declared.asks.TripAsk.{TripAsk}
use Rattle.ojp_values.proofs.ListFacts.{among_append_right, among_map}
use Rattle.ojp_exchange.specs.Book.{Book}
use Rattle.ojp_links.specs.Seen.{View}
use Rattle.ojp_records.specs.declared.queries.Query.{Query}
use Rattle.ojp_records.specs.declared.queries.Entry.{Entry}
use Rattle.ojp_records.proofs.RecordFacts.{is_same_query}
use Rattle.ojp_traces.specs.declared.events.Event.{Event}
use Rattle.ojp_traces.specs.Lines.{TraceView}
use Rattle.ojp_traces.specs.TurnEvents.{number_of, end_event}
use Rattle.ojp_turns.specs.declared.kept.Kept.{Kept}
use Rattle.ojp_turns.specs.Held.{query_of, AreApart}
use Rattle.ojp_turns.specs.Polling.{Fate, going, over, lost, HasFate, was_of, told_by, going_of, FirstPolled, PollsTo}
use Rattle.ojp_turns.specs.Tracing.{Adds, live_asks, end_by, first_number, TracesFirst, TracesEnds}
use Rattle.ojp_turns.proofs.HeldFacts.{other_query}
use Rattle.ojp_turns.proofs.TraceFacts.{adds_none, adds_on}

-- the number of the ask of a query
pub number_is : (subs : List Kept) (kept : Kept) → AreApart (map query_of subs) → Among kept subs → number_of (live_asks subs) kept.query ≡ kept.number
number_is [] kept apart h = absurd h
number_is (k ∷ subs) kept apart (inl e) =
    ap (λ (b : Bool). cond b k.number (number_of (live_asks subs) kept.query)) (is_same_query k.query kept.query (ap query_of (sym e))) ∙ ap (λ (x : Kept). x.number) (sym e)
number_is (k ∷ subs) kept apart (inr h) =
    ap (λ (b : Bool). cond b k.number (number_of (live_asks subs) kept.query))
    (other_query k.query kept.query (λ e. apart.0 (subst (λ (q : Query). Among q (map query_of subs)) e (among_map query_of kept subs h))))
    ∙ number_is subs kept apart.1 h

-- before the first poll
pub ends_start : (turn : ℕ) (start : List Kept) (told : List Entry) (t : TraceView) → TracesEnds turn start told told t t
ends_start turn start told t = record { heard = []; tells = sym (append-nil told); of_live = tt; adds = adds_none turn t }

each_joined : (P : Entry → Type 0) (xs ys : List Entry) → Each P xs → Each P ys → Each P (xs ++ ys)
each_joined P [] ys all more = more
each_joined P (x ∷ xs) ys all more = (all.0, each_joined P xs ys all.1 more)

-- what the first poll told has the line of the ask with its query
record AreOf (start : List Kept) (number : ℕ) (heard : List Entry) : Type 0 where
  of_live : Each (λ (entry : Entry). Among entry.query (map query_of start)) heard
  same : map (end_by number) heard ≡ map (end_event (live_asks start)) heard

fate_of : (book : Book) (ask : TripAsk) (mid new : View) (start : List Kept) (kept : Kept) (fate : Fate) → AreApart (map query_of start) → Among kept start → HasFate book ask mid new kept fate → AreOf start kept.number (option_to_list (told_by fate))
fate_of book ask mid new start kept (going now) apart h it = record { of_live = tt; same = refl }
fate_of book ask mid new start kept lost apart h it = record { of_live = tt; same = refl }
fate_of book ask mid new start kept (over entry) apart h it =
    record {
      of_live = (subst (λ (q : Query). Among q (map query_of start)) (sym it.query) (among_map query_of kept start h), tt);
      same = ap (λ (n : ℕ). end_by n entry ∷ []) (sym (ap (number_of (live_asks start)) it.query ∙ number_is start kept apart h));
    }

module _ (book : Book) (ask : TripAsk) (old mid new : View) (start now after : List Kept) (before told told' : List Entry) (moved : Bool) (n : ℕ) (found : Result Bool NoMemory) (polls : PollsTo moved n book ask old mid start now before told)
    (f : FirstPolled book ask mid new now after told told' found) where
  first_at : (ahead : List Kept) → polls.round.ahead ≡ ahead → n < length start → Among f.kept start
  first_at [] at below =
      let whole : start ≡ map was_of polls.round.polled = polls.round.split ∙ (ap (λ (xs : List Kept). map was_of polls.round.polled ++ xs) at ∙ append-nil (map was_of polls.round.polled)) in
      let long : length start ≡ length polls.round.polled = ap length whole ∙ length-map polls.round.polled was_of in
      absurd (omega (arith, below, long, polls.counted))
  first_at (k ∷ ahead) at below =
      let now_is : k ∷ (ahead ++ filter_map going_of polls.round.polled) ≡ f.kept ∷ f.rest = sym (polls.round.turned ∙ ap (λ (xs : List Kept). xs ++ filter_map going_of polls.round.polled) at) ∙ f.is_first in
      let same : k ≡ f.kept = ap (λ (xs : List Kept). first_or k xs) now_is in
      subst (λ (x : Kept). Among x start) same
      (subst (Among k) (sym (polls.round.split ∙ ap (λ (xs : List Kept). map was_of polls.round.polled ++ xs) at)) (among_append_right k (map was_of polls.round.polled) (k ∷ ahead) (inl refl)))
    where
      first_or : Kept → List Kept → Kept
      first_or d [] = d
      first_or d (x ∷ xs) = x

  -- one more poll
  pub ends_more : (turn : ℕ) (t u w : TraceView) → AreApart (map query_of start) → n < length start → TracesEnds turn start before told t u → TracesFirst turn now told told' u w → TracesEnds turn start before told' t w
  ends_more turn t u w apart below ends first =
      let heard_is : first.heard ≡ option_to_list (told_by f.fate) = append_cancel_left told first.heard (option_to_list (told_by f.fate)) (sym first.tells ∙ f.tells) in
      let number : first_number now ≡ f.kept.number = ap first_number f.is_first in
      let are : AreOf start (first_number now) first.heard =
      subst (λ (k : ℕ). AreOf start k first.heard) (sym number)
      (subst (AreOf start f.kept.number) (sym heard_is) (fate_of book ask mid new start f.kept f.fate apart (first_at polls.round.ahead refl below) f.has)) in
      record {
        heard = ends.heard ++ first.heard;
        tells = first.tells ∙ (ap (λ (xs : List Entry). xs ++ first.heard) ends.tells ∙ append_assoc before ends.heard first.heard);
        of_live = each_joined (λ (entry : Entry). Among entry.query (map query_of start)) ends.heard first.heard ends.of_live are.of_live;
        adds = subst (Adds turn t w)
            (ap (λ (es : List Event). map (end_event (live_asks start)) ends.heard ++ es) are.same ∙ sym (map-append (end_event (live_asks start)) ends.heard first.heard))
            (adds_on turn t u w (map (end_event (live_asks start)) ends.heard) (map (end_by (first_number now)) first.heard) ends.adds first.adds);
      }
