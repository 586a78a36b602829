-- The lines of the asks of a turn.
use Rattle.std.proofs.Common.{◌≡◌, ◌≢◌, ℕ, suc, ◌+◌, ◌<◌, ◌≤◌, ◌⊎◌, Bool, true, false, not, List, [], ◌∷◌, ◌++◌, map, filter, set, length, take, get_or, cond, ltb, Option, Some, None, IsTrue, refl, sym, ◌∙◌, ap, subst, inl, inr, append-nil, append_assoc, length-append, arith, get_or-set_same, take-suc}
use Rattle.std.proofs.lemmas.Bool.{true≢false, cases_Bool, lt-ltb, le-ltb}
use Rattle.std.proofs.lemmas.Option.{same_Some, slice_get-get_or, get_or_from_slice_get}
use Rattle.std.proofs.lemmas.List.{map-append, length-set, take_all}
use Rattle.std.proofs.lemmas.List.Elements.{filter-append}
use Rattle.ojp_values.specs.Lists.{Among, Each}
use Rattle.ojp_values.specs.Texts.{is_stop_ref}
use Rattle.ojp_values.specs.declared.asks.TripAsk.{TripAsk}
use Rattle.ojp_exchange.specs.Book.{Book}
use Rattle.ojp_exchange.specs.Kept.{IsWellBook}
use Rattle.ojp_links.specs.Seen.{View}
use Rattle.ojp_records.specs.declared.queries.Query.{Query}
use Rattle.ojp_records.specs.declared.queries.Entry.{Entry}
use Rattle.ojp_values.proofs.ListFacts.{among_append, among_append_left, among_append_right, among_filter}
use Rattle.ojp_records.specs.Records.{Failed as HasFailed, is_told, is_failed, same_query}
use Rattle.ojp_records.proofs.RecordFacts.{failed_is, is_failed_is, is_told_is, same_query_is, told_more}
use Rattle.ojp_records.proofs.FailFacts.{failure_drops_one}
use Rattle.ojp_records.specs.Wanted.{wanted}
use Rattle.ojp_records.proofs.BoardFacts.{wanted_is_untold}
use Rattle.ojp_labels.specs.Slots.{slots, somes}
use Rattle.ojp_labels.proofs.SlotFacts.{slot_wanted, slots_length, slots_wanted}
use Rattle.ojp_traces.specs.declared.events.Event.{Event}
use Rattle.ojp_traces.specs.declared.events.Event.TheVariants.{Asked, Failed}
use Rattle.ojp_traces.specs.Lines.{TraceView}
use Rattle.ojp_traces.specs.TurnEvents.{LiveAsk, asked_query, is_among, ask_event, ask_events, begun_asks}
use Rattle.ojp_turns.specs.declared.kept.Kept.{Kept}
use Rattle.ojp_turns.specs.Held.{NotAmong, query_of}
use Rattle.ojp_turns.specs.Slots.{IsLastAt, MayStandAt}
use Rattle.ojp_turns.specs.Asking.{AsksSome}
use Rattle.ojp_turns.specs.Tracing.{Adds, Grew, live_ask, live_asks, IsAskedAs, AsksAt, AsksThis, TracesThis, asked_events, missing_queries, TracesAsks}
use Rattle.ojp_turns.proofs.AskedFacts.{among_is, is_among_is}
use Rattle.ojp_turns.proofs.NumberFacts.{slot_stands, stands_once, wanted_stands}
use Rattle.ojp_turns.proofs.TraceFacts.{adds_none, adds_on}

-- ---- one ask

-- what was asked last at the place is the query
last_set : (last : List (Option Query)) (n : ℕ) (query : Query) → n < length last → IsLastAt (set last n (Some query)) n query
last_set last n query within =
    slice_get-get_or (set last n (Some query)) n None (omega (arith, within, length-set last n (Some query))) ∙ ap Some (get_or-set_same last n (Some query) None within)

pub asks_this : (book : Book) (ask : TripAsk) (told after : List Entry) (subs now : List Kept) (last last' : List (Option Query)) (asks asks' number place : ℕ) (query : Query) → place < length last
    → get_or (slots book ask told) place None ≡ Some query → NotAmong query (map query_of subs) → last' ≡ set last place (Some query) → asks' ≡ asks + 1 → number ≡ asks + 1 → IsAskedAs number subs now told after query
    → AsksThis true book ask place subs now told after asks asks' last'
asks_this book ask told after subs now last last' asks asks' number place query within at missing last_is counted number_is became = (
  query,
  subst (λ (l : List (Option Query)). IsLastAt l place query) (sym last_is) (last_set last place query within),
  record { at = at; missing = missing; counted = counted; became = subst (λ (n : ℕ). IsAskedAs n subs now told after query) (number_is ∙ sym counted) became },
)

-- ---- whether it was refused

pub untold_unfailed : (told : List Entry) (query : Query) → is_told told query ≡ false → is_failed told query ≡ false
untold_unfailed told query e =
    elim (cases_Bool (is_failed told query)) [
      | inl fails ↦
          let f : HasFailed told query = failed_is told query fails in
          absurd (true≢false (sym (is_told_is told f.0 query f.1 f.2) ∙ e))
      | inr none ↦ none
    ]

-- the failure is there
refused_fails : (told after : List Entry) (query : Query) → after ≡ told ++ record { query = query; reply = None } ∷ [] → is_failed after query ≡ true
refused_fails told after query tells =
    let failure : Entry = record { query = query; reply = None } in
    is_failed_is after query (failure, subst (Among failure) (sym tells) (among_append_right failure told (failure ∷ []) (inl refl)), refl, refl)

-- the failure of another query is there just where it was before
refused_other : (told after : List Entry) (query other : Query) → after ≡ told ++ record { query = query; reply = None } ∷ [] → other ≢ query → is_failed after other ≡ is_failed told other
refused_other told after query other tells differ =
    let failure : Entry = record { query = query; reply = None } in
    elim (cases_Bool (is_failed told other)) [
      | inl before ↦
          let f : HasFailed told other = failed_is told other before in
          is_failed_is after other (f.0, subst (Among f.0) (sym tells) (among_append_left f.0 told (failure ∷ []) f.1), f.2, f.3) ∙ sym before
      | inr none ↦
          elim (cases_Bool (is_failed after other)) [
            | inl fails ↦
                let f : HasFailed after other = failed_is after other fails in
                elim (among_append f.0 told (failure ∷ []) (subst (Among f.0) tells f.1)) [
                  | inl l ↦ absurd (true≢false (sym (is_failed_is told other (f.0, l, f.2, f.3)) ∙ none))
                  | inr r ↦ elim r [ inl e ↦ absurd (differ (sym f.2 ∙ ap (λ (entry : Entry). entry.query) e)) | inr n ↦ absurd n ]
                ]
            | inr still ↦ still ∙ sym none
          ]
    ]

long_more : (xs : List Entry) (x : Entry) → ltb (length xs) (length (xs ++ x ∷ [])) ≡ true
long_more xs x = lt-ltb (length xs) (length (xs ++ x ∷ [])) (let e : length (xs ++ x ∷ []) ≡ length xs + 1 = length-append xs (x ∷ []) in omega (arith, e))

module _ (book : Book) (ask : TripAsk) (told after : List Entry) (subs now : List Kept) (asks asks' place : ℕ) (query : Query) (well : IsWellBook book) (ref : IsTrue (is_stop_ref ask.origin))
    (asked : AsksAt book ask place subs now told after asks asks' query) where
  asked_unfailed : is_failed told query ≡ false
  asked_unfailed = untold_unfailed told query (wanted_is_untold book ask told query (slot_wanted book ask told place query well ref asked.at))

  -- it was refused just where the record is longer
  pub refused_is : (refused : Bool) → refused ≡ ltb (length told) (length after) → is_failed after query ≡ refused
  refused_is refused e = elim asked.became [
    | inl begun ↦
        ap (λ (xs : List Entry). is_failed xs query) begun.4 ∙ (asked_unfailed ∙ sym (e ∙ (ap (λ (xs : List Entry). ltb (length told) (length xs)) begun.4 ∙ le-ltb (length told) (length told) (omega arith))))
    | inr lost ↦ refused_fails told after query lost.1 ∙ sym (e ∙ (ap (λ (xs : List Entry). ltb (length told) (length xs)) lost.1 ∙ long_more told (record { query = query; reply = None })))
  ]

events_are : (after : List Entry) (number : ℕ) (query : Query) (refused : Bool) → is_failed after query ≡ refused → asked_events number query refused ≡ ask_event after number query
events_are after number query true e = ap (λ (b : Bool). Asked number query ∷ cond b (Failed number ∷ []) []) (sym e)
events_are after number query false e = ap (λ (b : Bool). Asked number query ∷ cond b (Failed number ∷ []) []) (sym e)

pub traces_this : (book : Book) (ask : TripAsk) (told after : List Entry) (subs now : List Kept) (last : List (Option Query)) (asks asks' number place turn : ℕ) (query : Query) (old new : TraceView) (some refused : Bool)
    → IsWellBook book → IsTrue (is_stop_ref ask.origin) → some ≡ true → AsksThis some book ask place subs now told after asks asks' last → get_or last place None ≡ Some query → number ≡ asks'
    → refused ≡ ltb (length told) (length after) → Adds turn old new (asked_events number query refused) → TracesThis true turn book ask place subs now told after asks asks' old new
traces_this book ask told after subs now last asks asks' number place turn query old new some refused well ref is it at number_is refused_e adds =
    let this : AsksThis true book ask place subs now told after asks asks' last = subst (λ (b : Bool). AsksThis b book ask place subs now told after asks asks' last) is it in
    let same : query ≡ this.0 = same_Some query this.0 (sym at ∙ get_or_from_slice_get last place (Some this.0) None this.1) in
    let fails : is_failed after this.0 ≡ refused = refused_is book ask told after subs now asks asks' place this.0 well ref this.2 refused refused_e in (
      this.0,
      this.2,
      subst (Adds turn old new) (ap (λ (n : ℕ). asked_events n query refused) number_is ∙ (ap (λ (q : Query). asked_events asks' q refused) same ∙ events_are after asks' this.0 refused fails)) adds,
    )

-- ---- the asks one after another

-- the query is of no live ask
abbrev is_new : List Kept → Query → Bool
is_new start query = not (is_among (map asked_query (live_asks start)) query)

-- what was asked up to a number of a place
pub record AsksTo (n turn : ℕ) (book : Book) (ask : TripAsk) (before told : List Entry) (start subs : List Kept) (made asks : ℕ) (old new : TraceView) : Type 0 where
  pub visited : List Query
  pub are : visited ≡ filter (is_new start) (somes (take n (slots book ask before)))
  pub ahead : (k : ℕ) (q : Query) → n ≤ k → get_or (slots book ask before) k None ≡ Some q → get_or (slots book ask told) k None ≡ Some q
  pub refused : List Entry
  pub tells : told ≡ before ++ refused
  pub of_visited : Each (λ (entry : Entry). Among entry.query visited) refused
  pub counted : asks ≡ made + length visited
  pub live : live_asks subs ≡ live_asks start ++ begun_asks told made visited
  pub adds : Adds turn old new (ask_events told made visited)
  pub grown : (q : Query) → Among q (map query_of start) → Among q (map query_of subs)
  pub gone : (q : Query) → Among q visited → Among q (map query_of subs) ⊎ (is_told told q ≡ true)
  pub behind : (q : Query) → Among q (map query_of subs) → Among q (map query_of start) ⊎ ((k : ℕ) × (k < n) × MayStandAt book ask k q)

pub asks_to_start : (turn : ℕ) (book : Book) (ask : TripAsk) (told : List Entry) (subs : List Kept) (made : ℕ) (t : TraceView) → AsksTo 0 turn book ask told told subs subs made made t t
asks_to_start turn book ask told subs made t =
    record {
      visited = [];
      are = refl;
      ahead = λ k q low e. e;
      refused = [];
      tells = sym (append-nil told);
      of_visited = tt;
      counted = omega arith;
      live = sym (append-nil (live_asks subs));
      adds = adds_none turn t;
      grown = λ q h. h;
      gone = λ q h. absurd h;
      behind = λ q h. inl h;
    }

somes_append : (xs ys : List (Option Query)) → somes (xs ++ ys) ≡ somes xs ++ somes ys
somes_append [] ys = refl
somes_append (None ∷ xs) ys = somes_append xs ys
somes_append (Some q ∷ xs) ys = ap (λ (l : List Query). q ∷ l) (somes_append xs ys)

-- what is visited with one more place
visited_more : (start : List Kept) (xs : List (Option Query)) (n : ℕ) (x : Option Query) (visited more : List Query) → n < length xs → get_or xs n None ≡ x → visited ≡ filter (is_new start) (somes (take n xs)) → filter (is_new start) (somes (x ∷ [])) ≡ more
    → visited ++ more ≡ filter (is_new start) (somes (take (n + 1) xs))
visited_more start xs n x visited more below at are one =
    let next : n + 1 ≡ suc n = omega arith in
    sym (ap (λ (l : List (Option Query)). filter (is_new start) (somes l)) (ap (λ (k : ℕ). take k xs) next ∙ (take-suc xs n None below ∙ ap (λ (o : Option Query). take n xs ++ o ∷ []) at))
    ∙ (ap (filter (is_new start)) (somes_append (take n xs) (x ∷ [])) ∙ (filter-append (is_new start) (somes (take n xs)) (somes (x ∷ [])) ∙ (ap (λ (l : List Query). l ++ filter (is_new start) (somes (x ∷ []))) (sym are) ∙ ap (λ (l : List Query). visited ++ l) one))))

queries_are : (subs : List Kept) → map asked_query (live_asks subs) ≡ map query_of subs
queries_are [] = refl
queries_are (k ∷ subs) = ap (λ (qs : List Query). k.query ∷ qs) (queries_are subs)

not_new : (start : List Kept) (q : Query) → Among q (map query_of start) → is_new start q ≡ false
not_new start q h = ap not (among_is (map asked_query (live_asks start)) q (subst (Among q) (sym (queries_are start)) h))

is_new_is : (start : List Kept) (q : Query) → NotAmong q (map query_of start) → is_new start q ≡ true
is_new_is start q none =
    elim (cases_Bool (is_among (map asked_query (live_asks start)) q)) [
      | inl holds ↦ absurd (none (subst (Among q) (queries_are start) (is_among_is (map asked_query (live_asks start)) q holds)))
      | inr fails ↦ ap not fails
    ]

filter_one : (p : Query → Bool) (q : Query) (b : Bool) → p q ≡ b → filter p (q ∷ []) ≡ cond b (q ∷ []) []
filter_one p q b e = ap (λ (c : Bool). cond c (q ∷ []) []) e

-- the events and the asks of queries are the same by a record that has the same failures of them
events_by : (told after : List Entry) (made : ℕ) (qs : List Query) → ((q : Query) → Among q qs → is_failed after q ≡ is_failed told q) → ask_events after made qs ≡ ask_events told made qs
events_by told after made [] same = refl
events_by told after made (q ∷ qs) same =
    ap (λ (b : Bool). (Asked (made + 1) q ∷ cond b (Failed (made + 1) ∷ []) []) ++ ask_events after (made + 1) qs) (same q (inl refl))
    ∙ ap (λ (es : List Event). ask_event told (made + 1) q ++ es) (events_by told after (made + 1) qs (λ r h. same r (inr h)))

begun_by : (told after : List Entry) (made : ℕ) (qs : List Query) → ((q : Query) → Among q qs → is_failed after q ≡ is_failed told q) → begun_asks after made qs ≡ begun_asks told made qs
begun_by told after made [] same = refl
begun_by told after made (q ∷ qs) same =
    ap (λ (b : Bool). cond b [] (record { number = made + 1; query = q } ∷ []) ++ begun_asks after (made + 1) qs) (same q (inl refl))
    ∙ ap (λ (es : List LiveAsk). cond (is_failed told q) [] (record { number = made + 1; query = q } ∷ []) ++ es) (begun_by told after (made + 1) qs (λ r h. same r (inr h)))

-- with one more query
events_more : (told : List Entry) (made n : ℕ) (qs : List Query) (q : Query) → n ≡ (made + length qs) + 1 → ask_events told made (qs ++ q ∷ []) ≡ ask_events told made qs ++ ask_event told n q
events_more told made n [] q e = append-nil (ask_event told (made + 1) q) ∙ ap (λ (k : ℕ). ask_event told k q) (omega (arith, e))
events_more told made n (r ∷ qs) q e =
    ap (λ (es : List Event). ask_event told (made + 1) r ++ es) (events_more told (made + 1) n qs q (omega (arith, e)))
    ∙ sym (append_assoc (ask_event told (made + 1) r) (ask_events told (made + 1) qs) (ask_event told n q))

begun_more : (told : List Entry) (made n : ℕ) (qs : List Query) (q : Query) (b : Bool) → n ≡ (made + length qs) + 1 → is_failed told q ≡ b
    → begun_asks told made (qs ++ q ∷ []) ≡ begun_asks told made qs ++ cond b [] (record { number = n; query = q } ∷ [])
begun_more told made n [] q b e f =
    append-nil (cond (is_failed told q) [] (record { number = made + 1; query = q } ∷ []))
    ∙ (ap (λ (c : Bool). cond c [] (record { number = made + 1; query = q } ∷ [])) f ∙ ap (λ (k : ℕ). cond b [] (record { number = k; query = q } ∷ [])) (omega (arith, e)))
begun_more told made n (r ∷ qs) q b e f =
    let first : List LiveAsk = cond (is_failed told r) [] (record { number = made + 1; query = r } ∷ []) in
    ap (λ (es : List LiveAsk). first ++ es) (begun_more told (made + 1) n qs q b (omega (arith, e)) f)
    ∙ sym (append_assoc first (begun_asks told (made + 1) qs) (cond b [] (record { number = n; query = q } ∷ [])))

module _ (turn : ℕ) (book : Book) (ask : TripAsk) (before told : List Entry) (start subs : List Kept) (made asks n : ℕ) (old mid : TraceView)
    (well : IsWellBook book) (ref : IsTrue (is_stop_ref ask.origin)) (differ : ask.origin ≢ ask.target) (below : n < length (slots book ask before)) (a : AsksTo n turn book ask before told start subs made asks old mid) where
  -- what stands at the place and is live was live at first
  was_live : (q : Query) → get_or (slots book ask before) n None ≡ Some q → Among q (map query_of subs) → Among q (map query_of start)
  was_live q e h = elim (a.behind q h) [
    | inl l ↦ l
    | inr r ↦
        let same : r.0 ≡ n = stands_once book ask well differ r.0 n q r.2 (slot_stands book ask before n q e) in
        absurd (omega (arith, same, r.1))
  ]

  none_at : (x : Option Query) → get_or (slots book ask before) n None ≡ x → ((q : Query) → get_or (slots book ask told) n None ≡ Some q → Among q (map query_of subs)) → filter (is_new start) (somes (x ∷ [])) ≡ []
  none_at None e live = refl
  none_at (Some q) e live = filter_one (is_new start) q false (not_new start q (was_live q e (live q (a.ahead n q (omega arith) e))))

  -- nothing was asked at the place
  pub asks_skip : ((q : Query) → get_or (slots book ask told) n None ≡ Some q → Among q (map query_of subs)) → AsksTo (n + 1) turn book ask before told start subs made asks old mid
  asks_skip live =
      record {
        visited = a.visited;
        are = sym (append-nil a.visited) ∙ visited_more start (slots book ask before) n (get_or (slots book ask before) n None) a.visited [] below refl a.are (none_at (get_or (slots book ask before) n None) refl live);
        ahead = λ k q low e. a.ahead k q (omega (arith, low)) e;
        refused = a.refused;
        tells = a.tells;
        of_visited = a.of_visited;
        counted = a.counted;
        live = a.live;
        adds = a.adds;
        grown = a.grown;
        gone = a.gone;
        behind = λ q h. elim (a.behind q h) [ inl l ↦ inl l | inr r ↦ inr (r.0, omega (arith, r.1), r.2) ];
      }

  module _ (told' : List Entry) (subs' : List Kept) (asks' : ℕ) (new : TraceView) (q : Query) (none_new : (r : Query) → Among r (wanted book ask told) → Among r (wanted book ask before))
      (asked : AsksAt book ask n subs subs' told told' asks asks' q) (adds : Adds turn mid new (ask_event told' asks' q)) where
    is_wanted : Among q (wanted book ask told)
    is_wanted = slot_wanted book ask told n q well ref asked.at

    at_first : get_or (slots book ask before) n None ≡ Some q
    at_first = wanted_stands book ask before n q well ref differ (slot_stands book ask told n q asked.at) (none_new q is_wanted)

    is_missing : NotAmong q (map query_of start)
    is_missing h = asked.missing (a.grown q h)

    other : (v : Query) → Among v a.visited → v ≢ q
    other v h e = elim (a.gone v h) [
      | inl l ↦ asked.missing (subst (λ (r : Query). Among r (map query_of subs)) e l)
      | inr t ↦ true≢false (sym (subst (λ (r : Query). is_told told r ≡ true) e t) ∙ wanted_is_untold book ask told q is_wanted)
    ]

    next_number : asks' ≡ (made + length a.visited) + 1
    next_number = asked.counted ∙ ap (λ (k : ℕ). k + 1) a.counted

    -- by what became of the ask
    record Became : Type 0 where
      is_same : (v : Query) → Among v a.visited → is_failed told' v ≡ is_failed told v
      live : live_asks subs' ≡ live_asks subs ++ cond (is_failed told' q) [] (record { number = asks'; query = q } ∷ [])
      refused : List Entry
      tells : told' ≡ told ++ refused
      of_this : Each (λ (entry : Entry). Among entry.query (q ∷ [])) refused
      grown : (v : Query) → Among v (map query_of subs) → Among v (map query_of subs')
      gone : Among q (map query_of subs') ⊎ (is_told told' q ≡ true)
      behind : (v : Query) → Among v (map query_of subs') → Among v (map query_of subs) ⊎ (v ≡ q)
      ahead : (v : Query) → v ≢ q → Among v (wanted book ask told) → Among v (wanted book ask told')

    begun_became : (kept : Kept) → kept.query ≡ q → kept.number ≡ asks' → subs' ≡ subs ++ kept ∷ [] → told' ≡ told → Became
    begun_became kept same number are tells =
        let fails : is_failed told' q ≡ false = ap (λ (xs : List Entry). is_failed xs q) tells ∙ asked_unfailed book ask told told' subs subs' asks asks' n q well ref asked in
        let one : live_ask kept ≡ record { number = asks'; query = q } = λ i. record { number = number i; query = same i } in
        let queries : map query_of subs' ≡ map query_of subs ++ q ∷ [] = ap (map query_of) are ∙ (map-append query_of subs (kept ∷ []) ∙ ap (λ (r : Query). map query_of subs ++ r ∷ []) same) in
        record {
          is_same = λ v h. ap (λ (xs : List Entry). is_failed xs v) tells;
          live = ap live_asks are ∙ (map-append live_ask subs (kept ∷ []) ∙ (ap (λ (l : LiveAsk). live_asks subs ++ l ∷ []) one ∙ ap (λ (b : Bool). live_asks subs ++ cond b [] (record { number = asks'; query = q } ∷ [])) (sym fails)));
          refused = [];
          tells = tells ∙ sym (append-nil told);
          of_this = tt;
          grown = λ v h. subst (Among v) (sym queries) (among_append_left v (map query_of subs) (q ∷ []) h);
          gone = inl (subst (Among q) (sym queries) (among_append_right q (map query_of subs) (q ∷ []) (inl refl)));
          behind = λ v h. elim (among_append v (map query_of subs) (q ∷ []) (subst (Among v) queries h)) [ inl l ↦ inl l | inr r ↦ elim r [ inl e ↦ inr e | inr none ↦ absurd none ] ];
          ahead = λ v differs h. subst (λ (xs : List Entry). Among v (wanted book ask xs)) (sym tells) h;
        }

    refused_became : subs' ≡ subs → told' ≡ told ++ record { query = q; reply = None } ∷ [] → Became
    refused_became are tells =
        let failure : Entry = record { query = q; reply = None } in
        let fails : is_failed told' q ≡ true = refused_fails told told' q tells in
        record {
          is_same = λ v h. refused_other told told' q v tells (other v h);
          live = ap live_asks are ∙ (sym (append-nil (live_asks subs)) ∙ ap (λ (b : Bool). live_asks subs ++ cond b [] (record { number = asks'; query = q } ∷ [])) (sym fails));
          refused = failure ∷ [];
          tells = tells;
          of_this = (inl refl, tt);
          grown = λ v h. subst (λ (ks : List Kept). Among v (map query_of ks)) (sym are) h;
          gone = inr (is_told_is told' failure q (subst (Among failure) (sym tells) (among_append_right failure told (failure ∷ []) (inl refl))) refl);
          behind = λ v h. inl (subst (λ (ks : List Kept). Among v (map query_of ks)) are h);
          ahead = λ v differs h.
              subst (λ (xs : List Entry). Among v (wanted book ask xs)) (sym tells)
              (subst (Among v) (sym (failure_drops_one book ask told q differ is_wanted))
              (among_filter (λ (r : Query). not (same_query q r)) v (wanted book ask told) h (apart_is q v differs)));
        }
      where
        apart_is : (x y : Query) → y ≢ x → not (same_query x y) ≡ true
        apart_is x y differs = elim (cases_Bool (same_query x y)) [ inl holds ↦ absurd (differs (sym (same_query_is x y holds))) | inr fails ↦ ap not fails ]

    became : Became
    became = elim asked.became [ inl it ↦ begun_became it.0 it.1 it.2 it.3 it.4 | inr it ↦ refused_became it.0 it.1 ]

    each_wider : (es : List Entry) (xs ys : List Query) → ((v : Query) → Among v xs → Among v ys) → Each (λ (entry : Entry). Among entry.query xs) es → Each (λ (entry : Entry). Among entry.query ys) es
    each_wider [] xs ys f all = tt
    each_wider (e ∷ es) xs ys f all = (f e.query all.0, each_wider es xs ys f all.1)

    each_joined : (P : Entry → Type 0) (xs ys : List Entry) → Each P xs → Each P ys → Each P (xs ++ ys)
    each_joined P [] ys all more = more
    each_joined P (x ∷ xs) ys all more = (all.0, each_joined P xs ys all.1 more)

    -- the query at the place was asked
    pub asks_next : AsksTo (n + 1) turn book ask before told' start subs' made asks' old new
    asks_next =
        let it : Became = became in
        record {
          visited = a.visited ++ q ∷ [];
          are = visited_more start (slots book ask before) n (Some q) a.visited (q ∷ []) below at_first a.are (filter_one (is_new start) q true (is_new_is start q is_missing));
          ahead = λ k r low e.
              let apart : r ≢ q = λ same.
              (let place : k ≡ n = stands_once book ask well differ k n r (slot_stands book ask before k r e) (subst (MayStandAt book ask n) (sym same) (slot_stands book ask before n q at_first)) in absurd (omega (arith, place, low))) in
              let now : get_or (slots book ask told) k None ≡ Some r = a.ahead k r (omega (arith, low)) e in
              wanted_stands book ask told' k r well ref differ (slot_stands book ask before k r e) (it.ahead r apart (slot_wanted book ask told k r well ref now));
          refused = a.refused ++ it.refused;
          tells = it.tells ∙ (ap (λ (xs : List Entry). xs ++ it.refused) a.tells ∙ append_assoc before a.refused it.refused);
          of_visited = each_joined (λ (entry : Entry). Among entry.query (a.visited ++ q ∷ [])) a.refused it.refused
              (each_wider a.refused a.visited (a.visited ++ q ∷ []) (λ v h. among_append_left v a.visited (q ∷ []) h) a.of_visited)
              (each_wider it.refused (q ∷ []) (a.visited ++ q ∷ []) (λ v h. among_append_right v a.visited (q ∷ []) h) it.of_this);
          counted = let long : length (a.visited ++ q ∷ []) ≡ length a.visited + 1 = length-append a.visited (q ∷ []) in omega (arith, long, next_number);
          live = it.live
              ∙ (ap (λ (ls : List LiveAsk). ls ++ cond (is_failed told' q) [] (record { number = asks'; query = q } ∷ [])) (a.live ∙ ap (λ (ls : List LiveAsk). live_asks start ++ ls) (sym (begun_by told told' made a.visited it.is_same)))
              ∙ (append_assoc (live_asks start) (begun_asks told' made a.visited) (cond (is_failed told' q) [] (record { number = asks'; query = q } ∷ []))
              ∙ ap (λ (ls : List LiveAsk). live_asks start ++ ls) (sym (begun_more told' made asks' a.visited q (is_failed told' q) next_number refl))));
          adds = subst (Adds turn old new)
              (ap (λ (es : List Event). es ++ ask_event told' asks' q) (sym (events_by told told' made a.visited it.is_same)) ∙ sym (events_more told' made asks' a.visited q next_number))
              (adds_on turn old mid new (ask_events told made a.visited) (ask_event told' asks' q) a.adds adds);
          grown = λ v h. it.grown v (a.grown v h);
          gone = λ v h. elim (among_append v a.visited (q ∷ []) h) [
            | inl l ↦ elim (a.gone v l) [ inl live ↦ inl (it.grown v live) | inr t ↦ inr (subst (λ (xs : List Entry). is_told xs v ≡ true) (sym it.tells) (told_more told it.refused v t)) ]
            | inr r ↦ elim r [ inl e ↦ subst (λ (x : Query). Among x (map query_of subs') ⊎ (is_told told' x ≡ true)) (sym e) it.gone | inr none ↦ absurd none ]
          ];
          behind = λ v h. elim (it.behind v h) [
            | inl l ↦ elim (a.behind v l) [ inl first ↦ inl first | inr r ↦ inr (r.0, omega (arith, r.1), r.2) ]
            | inr e ↦ inr (n, omega arith, subst (MayStandAt book ask n) (sym e) (slot_stands book ask before n q at_first))
          ];
        }

-- whatever happened at the place
pub asks_step : (some : Bool) (turn : ℕ) (book : Book) (ask : TripAsk) (before told told' : List Entry) (start subs subs' : List Kept) (made asks asks' n : ℕ) (old mid new : TraceView)
    → IsWellBook book → IsTrue (is_stop_ref ask.origin) → ask.origin ≢ ask.target → n < length (slots book ask before) → AsksTo n turn book ask before told start subs made asks old mid
    → ((r : Query) → Among r (wanted book ask told) → Among r (wanted book ask before)) → (v v' : View) → AsksSome some asks asks' v v' subs subs' told told'
    → ((q : Query) → get_or (slots book ask told') n None ≡ Some q → Among q (map query_of subs')) → TracesThis some turn book ask n subs subs' told told' asks asks' mid new
    → AsksTo (n + 1) turn book ask before told' start subs' made asks' old new
asks_step true turn book ask before told told' start subs subs' made asks asks' n old mid new well ref differ below a none_new v v' some live traces =
    asks_next turn book ask before told start subs made asks n old mid well ref differ below a told' subs' asks' new traces.0 none_new traces.1 traces.2
asks_step false turn book ask before told told' start subs subs' made asks asks' n old mid new well ref differ below a none_new v v' some live traces =
    subst (λ (t : TraceView). AsksTo (n + 1) turn book ask before told' start subs' made asks' old t) (sym traces)
    (subst (λ (k : ℕ). AsksTo (n + 1) turn book ask before told' start subs' made k old mid) (sym some.0)
    (subst (λ (ks : List Kept). AsksTo (n + 1) turn book ask before told' start ks made asks old mid) (sym some.1.same_subs)
    (subst (λ (xs : List Entry). AsksTo (n + 1) turn book ask before xs start subs made asks old mid) (sym some.1.same_told)
    (asks_skip turn book ask before told start subs made asks n old mid well ref differ below a
    (subst (λ (ks : List Kept). (q : Query) → get_or (slots book ask told) n None ≡ Some q → Among q (map query_of ks)) some.1.same_subs
    (subst (λ (xs : List Entry). (q : Query) → get_or (slots book ask xs) n None ≡ Some q → Among q (map query_of subs')) some.1.same_told live))))))

-- after the last place
pub asks_end : (turn : ℕ) (book : Book) (ask : TripAsk) (before told : List Entry) (start subs : List Kept) (made asks n : ℕ) (old new : TraceView) → IsWellBook book → IsTrue (is_stop_ref ask.origin) → length book.spots + 3 ≤ n
    → AsksTo n turn book ask before told start subs made asks old new → TracesAsks turn book ask start subs before told made asks old new
asks_end turn book ask before told start subs made asks n old new well ref whole a =
    let all : take n (slots book ask before) ≡ slots book ask before = take_all n (slots book ask before) (let long : length (slots book ask before) ≡ length book.spots + 3 = slots_length book ask before in omega (arith, long, whole)) in
    let are : a.visited ≡ missing_queries book ask before start = a.are ∙ (ap (λ (xs : List (Option Query)). filter (is_new start) (somes xs)) all ∙ ap (filter (is_new start)) (slots_wanted book ask before well ref)) in
    record {
      refused = a.refused;
      tells = a.tells;
      of_missing = subst (λ (qs : List Query). Each (λ (entry : Entry). Among entry.query qs) a.refused) are a.of_visited;
      counted = a.counted ∙ ap (λ (qs : List Query). made + length qs) are;
      live = a.live ∙ ap (λ (qs : List Query). live_asks start ++ begun_asks told made qs) are;
      adds = subst (λ (qs : List Query). Adds turn old new (ask_events told made qs)) are a.adds;
    }

pub asks_grew : (turn : ℕ) (a b : TraceView) (es : List Event) → Adds turn a b es → Grew turn a b
asks_grew turn a b es it = (es, it)
