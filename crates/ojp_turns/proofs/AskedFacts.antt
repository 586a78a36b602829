-- What was asked last, as polls end, as subrequests are cancelled and as asks are made.
use Rattle.std.proofs.Common.{◌≡◌, ◌≢◌, ℕ, ◌<◌, Bool, true, false, not, ◌⊎◌, List, [], ◌∷◌, ◌++◌, map, filter, Option, Some, None, length, get_or, set, refl, sym, ◌∙◌, ap, subst, inl, inr, arith, IsTrue, append_assoc, append-nil, length-set}
use Rattle.std.specs.List.{filter_map}
use Rattle.std.proofs.lemmas.Bool.{true≢false, cases_Bool}
use Rattle.std.proofs.lemmas.List.{map-append, get_or-set_same, get_or-set_other}
use Rattle.std.proofs.lemmas.Option.{same_Some, slice_get_within, slice_get-get_or, get_or_from_slice_get}
use Rattle.ojp_values.specs.Lists.{Among, Each}
use Rattle.ojp_values.specs.declared.asks.TripAsk.{TripAsk}
use Rattle.ojp_values.specs.Texts.{is_stop_ref}
use Rattle.ojp_values.proofs.ListFacts.{Member, among_append, among_append_left, among_append_right, among_map, among_map_back, among_filter, among_filter_back, among_filter_map, among_filter_map_back, among_list_any, among_list_any_back, each_at}
use Rattle.ojp_exchange.specs.Book.{Book}
use Rattle.ojp_exchange.specs.Kept.{IsWellBook}
use Rattle.ojp_links.specs.Seen.{View}
use Rattle.ojp_records.specs.declared.queries.Query.{Query}
use Rattle.ojp_records.specs.declared.queries.Entry.{Entry}
use Rattle.ojp_records.specs.Records.{same_query}
use Rattle.ojp_records.specs.Wanted.{wanted}
use Rattle.ojp_records.proofs.RecordFacts.{same_query_is, is_same_query, is_told_is}
use Rattle.ojp_records.proofs.BoardFacts.{wanted_is_open}
use Rattle.ojp_records.proofs.FailFacts.{failure_drops_one}
use Rattle.ojp_records.proofs.Falls.{never_again}
use Rattle.ojp_labels.specs.Slots.{slots}
use Rattle.ojp_turns.specs.declared.kept.Kept.{Kept}
use Rattle.ojp_turns.specs.Held.{query_of, NotAmong}
use Rattle.ojp_turns.specs.Polling.{Fate, going, over, lost, Polled, HasFate, IsPolled, was_of, kept_by, going_of, told_by, entry_of, IsKept, PollsTo}
use Rattle.ojp_turns.specs.Slots.{MayStandAt, WasWanted, IsLastAt, AreAsked}
use Rattle.ojp_turns.specs.Asking.{is_among, is_still_wanted, AllWanted}
use Rattle.ojp_turns.proofs.HeldFacts.{same_or_not}
use Rattle.ojp_turns.proofs.NumberFacts.{slot_stands, stands_once, wanted_stands}

-- ---- queries that are told or wanted no more

-- a told query is not wanted
pub told_unwanted : (book : Book) (ask : TripAsk) (told : List Entry) (entry : Entry) → Among entry told → NotAmong entry.query (wanted book ask told)
told_unwanted book ask told entry listed h =
    true≢false (sym (is_told_is told entry entry.query listed refl) ∙ (wanted_is_open book ask told entry.query h).untold)

was_more : (book : Book) (ask : TripAsk) (told more : List Entry) (query : Query) → WasWanted book ask told query → WasWanted book ask (told ++ more) query
was_more book ask told more query it =
    record {
      before = it.before;
      since = it.since ++ more;
      split = sym (append_assoc it.before it.since more) ∙ ap (λ (xs : List Entry). xs ++ more) it.split;
      wanted_then = it.wanted_then;
    }

-- what is wanted no more stays so
unwanted_more : (book : Book) (ask : TripAsk) (told more : List Entry) (query : Query) → WasWanted book ask told query → NotAmong query (wanted book ask told) → NotAmong query (wanted book ask (told ++ more))
unwanted_more book ask told more query was none h =
    none (subst (λ (xs : List Entry). Among query (wanted book ask xs)) was.split
    (never_again book ask was.before was.since more query was.wanted_then (subst (λ (xs : List Entry). Among query (wanted book ask (xs ++ more))) (sym was.split) h)))

now_wanted : (book : Book) (ask : TripAsk) (told : List Entry) (query : Query) → Among query (wanted book ask told) → WasWanted book ask told query
now_wanted book ask told query h = record { before = told; since = []; split = append-nil told; wanted_then = h }

-- ---- after a round of polls

-- a subrequest that went on is of a query that was live
going_query : (book : Book) (ask : TripAsk) (old new : View) (ps : List Polled) (query : Query) → Each (IsPolled book ask old new) ps → Among query (map query_of (filter_map going_of ps)) → Among query (map query_of (map was_of ps))
going_query book ask old new ps query each h =
    let k : Member (filter_map going_of ps) (λ g. query ≡ query_of g) = among_map_back query_of query (filter_map going_of ps) h in
    let p : Member ps (λ x. going_of x ≡ Some k.item) = among_filter_map_back going_of k.item ps k.among in
    let same : k.item.query ≡ p.item.was.query = by_fate p.item.was p.item.fate k.item p.holds (each_at (IsPolled book ask old new) p.item ps each p.among) in
    subst (λ (q : Query). Among q (map query_of (map was_of ps))) (sym (k.holds ∙ same)) (among_map query_of p.item.was (map was_of ps) (among_map was_of p.item ps p.among))
  where
    by_fate : (was : Kept) (fate : Fate) (now : Kept) → kept_by fate ≡ Some now → HasFate book ask old new was fate → now.query ≡ was.query
    by_fate was (going it) now e has = ap query_of (sym (same_Some it now e)) ∙ has.query
    by_fate was (over entry) now e has = absurd (cc)
    by_fate was lost now e has = absurd (cc)

-- a query that was polled is live still, or was told
polled_query : (book : Book) (ask : TripAsk) (old new : View) (ps : List Polled) (query : Query) → Each (IsPolled book ask old new) ps → Each (λ (p : Polled). IsKept p.fate) ps → Among query (map query_of (map was_of ps))
    → Among query (map query_of (filter_map going_of ps)) ⊎ ((entry : Entry) × Among entry (filter_map entry_of ps) × (entry.query ≡ query))
polled_query book ask old new ps query each kept h =
    let k : Member (map was_of ps) (λ g. query ≡ query_of g) = among_map_back query_of query (map was_of ps) h in
    let p : Member ps (λ x. k.item ≡ was_of x) = among_map_back was_of k.item ps k.among in
    by_fate p.item p.among (query_of k.item) (ap query_of p.holds) k.holds p.item.fate refl (each_at (IsPolled book ask old new) p.item ps each p.among) (each_at (λ (q : Polled). IsKept q.fate) p.item ps kept p.among)
  where
    by_fate : (p : Polled) → Among p ps → (q : Query) → q ≡ p.was.query → query ≡ q → (fate : Fate) → p.fate ≡ fate → HasFate book ask old new p.was p.fate → IsKept p.fate
        → Among query (map query_of (filter_map going_of ps)) ⊎ ((entry : Entry) × Among entry (filter_map entry_of ps) × (entry.query ≡ query))
    by_fate p among q same is (going now) e has keep =
        let goes : HasFate book ask old new p.was (going now) = subst (HasFate book ask old new p.was) e has in
        inl (subst (λ (x : Query). Among x (map query_of (filter_map going_of ps))) (goes.query ∙ sym (is ∙ same))
        (among_map query_of now (filter_map going_of ps) (among_filter_map going_of p now ps among (ap kept_by e))))
    by_fate p among q same is (over entry) e has keep =
        let ends : HasFate book ask old new p.was (over entry) = subst (HasFate book ask old new p.was) e has in
        inr (entry, among_filter_map entry_of p entry ps among (ap told_by e), ends.query ∙ sym (is ∙ same))
    by_fate p among q same is lost e has keep = absurd (subst IsKept e keep)

-- what was asked last agrees with what goes on after a round
pub asked_polled : (book : Book) (ask : TripAsk) (old new : View) (start subs : List Kept) (before after : List Entry) (last : List (Option Query)) (moved : Bool) (n : ℕ)
    → (r : PollsTo moved n book ask old new start subs before after) → r.round.ahead ≡ [] → AreAsked book ask before start last → AreAsked book ask after subs last
asked_polled book ask old new start subs before after last moved n r all it =
    let whole : start ≡ map was_of r.round.polled = r.round.split ∙ (ap (λ (xs : List Kept). map was_of r.round.polled ++ xs) all ∙ append-nil (map was_of r.round.polled)) in
    let now : subs ≡ filter_map going_of r.round.polled = r.round.turned ∙ ap (λ (xs : List Kept). xs ++ filter_map going_of r.round.polled) all in
    record {
      count = it.count;
      each_live = λ query h.
          it.each_live query (subst (λ (xs : List Kept). Among query (map query_of xs)) (sym whole)
          (going_query book ask old new r.round.polled query r.round.each (subst (λ (xs : List Kept). Among query (map query_of xs)) now h)));
      or_unwanted = λ number query at.
          elim (it.or_unwanted number query at) [
            | inl live ↦
                elim (polled_query book ask old new r.round.polled query r.round.each r.none_lost (subst (λ (xs : List Kept). Among query (map query_of xs)) whole live)) [
                  | inl still ↦ inl (subst (λ (xs : List Kept). Among query (map query_of xs)) (sym now) still)
                  | inr ended ↦
                      let listed : Among ended.0 after = subst (Among ended.0) (sym r.round.tells) (among_append_right ended.0 before (filter_map entry_of r.round.polled) ended.1) in
                      inr (subst (λ (q : Query). NotAmong q (wanted book ask after)) ended.2 (told_unwanted book ask after ended.0 listed))
                ]
            | inr none ↦
                inr (subst (λ (xs : List Entry). NotAmong query (wanted book ask xs)) (sym r.round.tells)
                (unwanted_more book ask before (filter_map entry_of r.round.polled) query (it.was number query at) none))
          ];
      stands = it.stands;
      was = λ number query at. subst (λ (xs : List Entry). WasWanted book ask xs query) (sym r.round.tells) (was_more book ask before (filter_map entry_of r.round.polled) query (it.was number query at));
    }

-- ---- after the cancelling

pub among_is : (queries : List Query) (query : Query) → Among query queries → is_among queries query ≡ true
among_is queries query h = among_list_any (same_query query) query queries h (is_same_query query query refl)

pub is_among_is : (queries : List Query) (query : Query) → is_among queries query ≡ true → Among query queries
is_among_is queries query e =
    let m : Member queries (λ x. same_query query x ≡ true) = among_list_any_back (same_query query) queries e in
    subst (λ (q : Query). Among q queries) (sym (same_query_is query m.item m.holds)) m.among

pub not_among_is : (queries : List Query) (query : Query) → is_among queries query ≡ false → NotAmong query queries
not_among_is queries query e h = true≢false (sym (among_is queries query h) ∙ e)

-- each subrequest that was not cancelled is wanted
pub sifted_wanted : (book : Book) (ask : TripAsk) (told : List Entry) (start subs : List Kept) → subs ≡ filter (is_still_wanted book ask told) start → AllWanted book ask told subs
sifted_wanted book ask told start subs are query h =
    let k : Member subs (λ g. query ≡ query_of g) = among_map_back query_of query subs h in
    let kept : Among k.item start × (is_still_wanted book ask told k.item ≡ true) = among_filter_back (is_still_wanted book ask told) k.item start (subst (Among k.item) are k.among) in
    subst (λ (q : Query). Among q (wanted book ask told)) (sym k.holds) (is_among_is (wanted book ask told) k.item.query kept.1)

pub asked_sifted : (book : Book) (ask : TripAsk) (told : List Entry) (start subs : List Kept) (last : List (Option Query)) → subs ≡ filter (is_still_wanted book ask told) start → AreAsked book ask told start last → AreAsked book ask told subs last
asked_sifted book ask told start subs last are it =
    record {
      count = it.count;
      each_live = λ query h.
          let k : Member subs (λ g. query ≡ query_of g) = among_map_back query_of query subs h in
          let kept : Among k.item start × (is_still_wanted book ask told k.item ≡ true) = among_filter_back (is_still_wanted book ask told) k.item start (subst (Among k.item) are k.among) in
          it.each_live query (subst (λ (q : Query). Among q (map query_of start)) (sym k.holds) (among_map query_of k.item start kept.0));
      or_unwanted = λ number query at.
          elim (it.or_unwanted number query at) [
            | inl live ↦
                let k : Member start (λ g. query ≡ query_of g) = among_map_back query_of query start live in
                elim (cases_Bool (is_still_wanted book ask told k.item)) [
                  | inl holds ↦
                      inl (subst (λ (q : Query). Among q (map query_of subs)) (sym k.holds)
                      (among_map query_of k.item subs (subst (Among k.item) (sym are) (among_filter (is_still_wanted book ask told) k.item start k.among holds))))
                  | inr fails ↦ inr (subst (λ (q : Query). NotAmong q (wanted book ask told)) (sym k.holds) (not_among_is (wanted book ask told) k.item.query fails))
                ]
            | inr none ↦ inr none
          ];
      stands = it.stands;
      was = it.was;
    }

-- ---- after an ask

last_set : (last : List (Option Query)) (n k : ℕ) (query q : Query) → n < length last → IsLastAt (set last n (Some query)) k q → ((k ≡ n) × (q ≡ query)) ⊎ ((k ≢ n) × IsLastAt last k q)
last_set last n k query q within at =
    elim (same_or_not k n) [
      | inl e ↦
          let here : get_or (set last n (Some query)) n None ≡ Some query = get_or-set_same last n (Some query) None within in
          let there : get_or (set last n (Some query)) k None ≡ Some q = get_or_from_slice_get (set last n (Some query)) k (Some q) None at in
          inl (e, same_Some q query (sym there ∙ (ap (λ (j : ℕ). get_or (set last n (Some query)) j None) e ∙ here)))
      | inr other ↦
          let long : length (set last n (Some query)) ≡ length last = length-set last n (Some query) in
          let below : k < length (set last n (Some query)) = slice_get_within (set last n (Some query)) k (Some q) at in
          let there : get_or (set last n (Some query)) k None ≡ Some q = get_or_from_slice_get (set last n (Some query)) k (Some q) None at in
          inr (other, slice_get-get_or last k None (omega (arith, long, below)) ∙ ap Some (sym (get_or-set_other last n k (Some query) None other) ∙ there))
    ]

last_here : (last : List (Option Query)) (n : ℕ) (query : Query) → n < length last → IsLastAt (set last n (Some query)) n query
last_here last n query within =
    slice_get-get_or (set last n (Some query)) n None (omega (arith, within, length-set last n (Some query))) ∙ ap Some (get_or-set_same last n (Some query) None within)

last_there : (last : List (Option Query)) (n k : ℕ) (query q : Query) → k ≢ n → IsLastAt last k q → IsLastAt (set last n (Some query)) k q
last_there last n k query q other at =
    let below : k < length last = slice_get_within last k (Some q) at in
    slice_get-get_or (set last n (Some query)) k None (omega (arith, below, length-set last n (Some query)))
    ∙ ap Some (get_or-set_other last n k (Some query) None other ∙ get_or_from_slice_get last k (Some q) None at)

module _ (book : Book) (ask : TripAsk) (told : List Entry) (subs : List Kept) (last : List (Option Query)) (number : ℕ) (query : Query)
    (well : IsWellBook book) (ref : IsTrue (is_stop_ref ask.origin)) (differ : ask.origin ≢ ask.target) (it : AreAsked book ask told subs last) (within : number < length last)
    (at : get_or (slots book ask told) number None ≡ Some query) where
  -- a query that was not asked last at its number is not live
  pub is_missing : (IsLastAt last number query → ⊥) → NotAmong query (map query_of subs)
  is_missing new h =
      let l : (k : ℕ) × IsLastAt last k query = it.each_live query h in
      let same : l.0 ≡ number = stands_once book ask well differ l.0 number query (it.stands l.0 query l.1) (slot_stands book ask told number query at) in
      new (subst (λ (k : ℕ). IsLastAt last k query) same l.1)

  -- each live query that is wanted keeps its number
  keeps_number : AllWanted book ask told subs → NotAmong query (map query_of subs) → (q : Query) → Among q (map query_of subs) → (k : ℕ) × IsLastAt (set last number (Some query)) k q
  keeps_number all missing q h =
      let l : (k : ℕ) × IsLastAt last k q = it.each_live q h in
      (l.0, last_there last number l.0 query q (λ e. missing (subst (λ (x : Query). Among x (map query_of subs)) (here l e) h)) l.1)
    where
      here : (l : (k : ℕ) × IsLastAt last k q) → l.0 ≡ number → q ≡ query
      here l e =
          let may : MayStandAt book ask number q = subst (λ (k : ℕ). MayStandAt book ask k q) e (it.stands l.0 q l.1) in
          same_Some q query (sym (wanted_stands book ask told number q well ref differ may (all q h)) ∙ at)

  -- the query is live, behind the others
  pub asked_begun : (kept : Kept) (now : List Kept) → kept.query ≡ query → now ≡ subs ++ kept ∷ [] → AllWanted book ask told subs → NotAmong query (map query_of subs) → Among query (wanted book ask told)
      → AreAsked book ask told now (set last number (Some query))
  asked_begun kept now same are all missing is_wanted =
      let queries : map query_of now ≡ map query_of subs ++ query ∷ [] = ap (map query_of) are ∙ (map-append query_of subs (kept ∷ []) ∙ ap (λ (q : Query). map query_of subs ++ q ∷ []) same) in
      record {
        count = length-set last number (Some query) ∙ it.count;
        each_live = λ q h. elim (among_append q (map query_of subs) (query ∷ []) (subst (Among q) queries h)) [
          | inl l ↦ keeps_number all missing q l
          | inr r ↦ elim r [ inl e ↦ (number, subst (IsLastAt (set last number (Some query)) number) (sym e) (last_here last number query within)) | inr n ↦ absurd n ]
        ];
        or_unwanted = λ k q l. elim (last_set last number k query q within l) [
          | inl e ↦ inl (subst (Among q) (sym queries) (among_append_right q (map query_of subs) (query ∷ []) (inl e.1)))
          | inr o ↦ elim (it.or_unwanted k q o.1) [
            | inl live ↦ inl (subst (Among q) (sym queries) (among_append_left q (map query_of subs) (query ∷ []) live))
            | inr none ↦ inr none
          ]
        ];
        stands = λ k q l. elim (last_set last number k query q within l) [
          | inl e ↦ subst (λ (x : Query). MayStandAt book ask k x) (sym e.1) (subst (λ (n : ℕ). MayStandAt book ask n query) (sym e.0) (slot_stands book ask told number query at))
          | inr o ↦ it.stands k q o.1
        ];
        was = λ k q l. elim (last_set last number k query q within l) [
          | inl e ↦ subst (WasWanted book ask told) (sym e.1) (now_wanted book ask told query is_wanted)
          | inr o ↦ it.was k q o.1
        ];
      }

  -- its failure was told
  pub asked_refused : (after : List Entry) → after ≡ told ++ record { query = query; reply = None } ∷ [] → AllWanted book ask told subs → NotAmong query (map query_of subs) → Among query (wanted book ask told)
      → AreAsked book ask after subs (set last number (Some query))
  asked_refused after tells all missing is_wanted =
      let failure : Entry = record { query = query; reply = None } in
      let listed : Among failure after = subst (Among failure) (sym tells) (among_append_right failure told (failure ∷ []) (inl refl)) in
      record {
        count = length-set last number (Some query) ∙ it.count;
        each_live = keeps_number all missing;
        or_unwanted = λ k q l. elim (last_set last number k query q within l) [
          | inl e ↦ inr (subst (λ (x : Query). NotAmong x (wanted book ask after)) (sym e.1) (told_unwanted book ask after failure listed))
          | inr o ↦ elim (it.or_unwanted k q o.1) [
            | inl live ↦ inl live
            | inr none ↦ inr (subst (λ (xs : List Entry). NotAmong q (wanted book ask xs)) (sym tells) (unwanted_more book ask told (failure ∷ []) q (it.was k q o.1) none))
          ]
        ];
        stands = λ k q l. elim (last_set last number k query q within l) [
          | inl e ↦ subst (λ (x : Query). MayStandAt book ask k x) (sym e.1) (subst (λ (n : ℕ). MayStandAt book ask n query) (sym e.0) (slot_stands book ask told number query at))
          | inr o ↦ it.stands k q o.1
        ];
        was = λ k q l. subst (λ (xs : List Entry). WasWanted book ask xs q) (sym tells) (elim (last_set last number k query q within l) [
          | inl e ↦ was_more book ask told (failure ∷ []) q (subst (WasWanted book ask told) (sym e.1) (now_wanted book ask told query is_wanted))
          | inr o ↦ was_more book ask told (failure ∷ []) q (it.was k q o.1)
        ]);
      }

-- ---- what is wanted after a failure

not_false : (b : Bool) → not b ≡ true → b ≡ false
not_false true e = absurd (true≢false (sym e))
not_false false e = refl

not_true : (b : Bool) → (b ≡ true → ⊥) → not b ≡ true
not_true true never = absurd (never refl)
not_true false never = refl

-- nothing new is wanted where a wanted query fails
pub fails_none_new : (book : Book) (ask : TripAsk) (told after : List Entry) (query : Query) → ask.origin ≢ ask.target → Among query (wanted book ask told) → after ≡ told ++ record { query = query; reply = None } ∷ []
    → (q : Query) → Among q (wanted book ask after) → Among q (wanted book ask told)
fails_none_new book ask told after query differ is tells q h =
    (among_filter_back (λ (other : Query). not (same_query query other)) q (wanted book ask told)
    (subst (Among q) (failure_drops_one book ask told query differ is) (subst (λ (xs : List Entry). Among q (wanted book ask xs)) tells h))).0

-- and what is live stays wanted
pub fails_all_wanted : (book : Book) (ask : TripAsk) (told after : List Entry) (query : Query) (subs : List Kept) → ask.origin ≢ ask.target → Among query (wanted book ask told) → after ≡ told ++ record { query = query; reply = None } ∷ []
    → NotAmong query (map query_of subs) → AllWanted book ask told subs → AllWanted book ask after subs
fails_all_wanted book ask told after query subs differ is tells missing all q h =
    subst (λ (xs : List Entry). Among q (wanted book ask xs)) (sym tells)
    (subst (Among q) (sym (failure_drops_one book ask told query differ is))
    (among_filter (λ (other : Query). not (same_query query other)) q (wanted book ask told) (all q h)
    (not_true (same_query query q) (λ e. missing (subst (λ (x : Query). Among x (map query_of subs)) (sym (same_query_is query q e)) h)))))

-- one more live query that is wanted
pub begun_all_wanted : (book : Book) (ask : TripAsk) (told : List Entry) (query : Query) (subs now : List Kept) (kept : Kept) → kept.query ≡ query → now ≡ subs ++ kept ∷ [] → Among query (wanted book ask told) → AllWanted book ask told subs → AllWanted book ask told now
begun_all_wanted book ask told query subs now kept same are is all q h =
    elim (among_append q (map query_of subs) (kept.query ∷ []) (subst (Among q) (ap (map query_of) are ∙ map-append query_of subs (kept ∷ [])) h)) [
      | inl l ↦ all q l
      | inr r ↦ elim r [ inl e ↦ subst (λ (x : Query). Among x (wanted book ask told)) (sym (e ∙ same)) is | inr n ↦ absurd n ]
    ]
