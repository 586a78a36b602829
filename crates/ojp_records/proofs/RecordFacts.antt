-- Which queries a record has, and that one told in turn has each query at most once.
use Rattle.std.proofs.Common.{◌≡◌, Bool, true, false, not, cond, ◌&&◌, List, [], ◌∷◌, ◌++◌, Option, Some, None, refl, sym, ◌∙◌, ap, subst, inl, inr, append_assoc}
use Rattle.std.proofs.lemmas.Bool.{true≢false, cases_Bool, and_parts, and_from, eqb-true, eq-eqb, not-true}
use Rattle.ojp_values.specs.Lists.{Among}
use Rattle.std.specs.List.{cons_option}
use Rattle.ojp_values.specs.Texts.{Text, same}
use Rattle.ojp_values.specs.declared.asks.TripAsk.{TripAsk}
use Rattle.ojp_values.specs.declared.replies.Delivery.{Delivery}
use Rattle.ojp_exchange.specs.Book.{Book}
use Rattle.ojp_records.specs.declared.queries.Query.{Query}
use Rattle.ojp_records.specs.declared.queries.Query.TheVariants.{Check, Reach}
use Rattle.ojp_records.specs.declared.queries.Entry.{Entry}
use Rattle.ojp_records.specs.Records.{same_query, is_told, has_reply, is_failed, Failed}
use Rattle.ojp_records.specs.Places.{ToldCheck, check_of, checks_in, CheckFailed, reply_state, is_check, check_state}
use Rattle.ojp_records.specs.Told.{IsOpenQuery, ToldInTurn}
use Rattle.ojp_values.proofs.ListFacts.{Member, among_append_left, among_append_right, among_list_any, among_list_any_back}
use Rattle.ojp_timetable.proofs.TextFacts.{same_is, is_same}

pub same_query_is : (p q : Query) → same_query p q ≡ true → p ≡ q
same_query_is (Check r s) (Check r' s') e =
    let parts : (same r r' ≡ true) × (same s s' ≡ true) = and_parts _ _ e in
    let regions : r ≡ r' = same_is r r' parts.0 in
    let stops : s ≡ s' = same_is s s' parts.1 in
    cc
same_query_is (Check r s) (Reach r' s' t') e = absurd (true≢false (sym e))
same_query_is (Reach r s t) (Check r' s') e = absurd (true≢false (sym e))
same_query_is (Reach r s t) (Reach r' s' t') e =
    let parts : (same r r' ≡ true) × ((same s s' && _) ≡ true) = and_parts (same r r') _ e in
    let more : (same s s' ≡ true) × (_ ≡ true) = and_parts (same s s') _ parts.1 in
    let regions : r ≡ r' = same_is r r' parts.0 in
    let stops : s ≡ s' = same_is s s' more.0 in
    let starts : t ≡ t' = eqb-true t t' more.1 in
    cc

query_itself : (q : Query) → same_query q q ≡ true
query_itself (Check r s) = and_from _ _ (is_same r r refl) (is_same s s refl)
query_itself (Reach r s t) = and_from _ _ (is_same r r refl) (and_from _ _ (is_same s s refl) (eq-eqb t t refl))

pub is_same_query : (p q : Query) → p ≡ q → same_query p q ≡ true
is_same_query p q e = subst (λ (x : Query). same_query p x ≡ true) e (query_itself p)

-- an entry of the query
abbrev pub EntryOf : List Entry → Query → Type 0
EntryOf told query = Member told (λ (entry : Entry). entry.query ≡ query)

pub told_is : (told : List Entry) (query : Query) → is_told told query ≡ true → EntryOf told query
unfolding is_told
told_is told query e =
    let m : Member told (λ (entry : Entry). same_query entry.query query ≡ true) = among_list_any_back (λ (entry : Entry). same_query entry.query query) told e in
    record { item = m.item; among = m.among; holds = same_query_is m.item.query query m.holds }

pub is_told_is : (told : List Entry) (entry : Entry) (query : Query) → Among entry told → entry.query ≡ query → is_told told query ≡ true
unfolding is_told
is_told_is told entry query listed e = among_list_any (λ (it : Entry). same_query it.query query) entry told listed (is_same_query entry.query query e)

pub told_more : (told more : List Entry) (query : Query) → is_told told query ≡ true → is_told (told ++ more) query ≡ true
told_more told more query e =
    let m : EntryOf told query = told_is told query e in
    is_told_is (told ++ more) m.item query (among_append_left m.item told more m.among) m.holds

pub untold_before : (told more : List Entry) (query : Query) → is_told (told ++ more) query ≡ false → is_told told query ≡ false
untold_before told more query e =
    elim (cases_Bool (is_told told query)) [
      | inl told_before ↦ absurd (true≢false (sym (told_more told more query told_before) ∙ e))
      | inr untold ↦ untold
    ]

no_reply : (reply : Option Delivery) → has_reply reply ≡ false → reply ≡ None
no_reply None e = refl
no_reply (Some delivery) e = absurd (true≢false e)

pub failed_is : (told : List Entry) (query : Query) → is_failed told query ≡ true → Failed told query
unfolding is_failed
failed_is told query e =
    let m : Member told (λ (entry : Entry). (same_query entry.query query && not (has_reply entry.reply)) ≡ true) =
    among_list_any_back (λ (entry : Entry). same_query entry.query query && not (has_reply entry.reply)) told e in
    let parts : (same_query m.item.query query ≡ true) × (not (has_reply m.item.reply) ≡ true) = and_parts _ _ m.holds in
    (m.item, m.among, same_query_is m.item.query query parts.0, no_reply m.item.reply (not-true _ parts.1))

pub is_failed_is : (told : List Entry) (query : Query) → Failed told query → is_failed told query ≡ true
unfolding is_failed
is_failed_is told query (entry, listed, e, none) =
    among_list_any (λ (it : Entry). same_query it.query query && not (has_reply it.reply)) entry told listed
    (and_from _ _ (is_same_query entry.query query e) (ap (λ (reply : Option Delivery). not (has_reply reply)) none))

-- told in turn: what was told is never told again

later_untold : (book : Book) (ask : TripAsk) (told later : List Entry) (query : Query) (entry : Entry) → is_told told query ≡ true → ToldInTurn book ask told later → Among entry later → entry.query ≡ query → ⊥
later_untold book ask told [] query entry e turn h same_one = h
later_untold book ask told (first ∷ later) query entry e turn (inl is) same_one =
    let untold : is_told told first.query ≡ false = turn.0.untold in
    let queries : first.query ≡ query = ap (λ (it : Entry). it.query) (sym is) ∙ same_one in
    true≢false (sym e ∙ subst (λ (q : Query). is_told told q ≡ false) queries untold)
later_untold book ask told (first ∷ later) query entry e turn (inr h) same_one =
    later_untold book ask (told ++ first ∷ []) later query entry (told_more told (first ∷ []) query e) turn.1 h same_one

failed_step :
    (book : Book) (ask : TripAsk) (told later : List Entry) (region stop : Text) (entry : Entry) (query : Query) (reply : Option Delivery)
    → entry.query ≡ query → entry.reply ≡ reply → ToldInTurn book ask told (entry ∷ later) → Failed (entry ∷ later) (Check region stop)
    → (Failed later (Check region stop) → check_state (checks_in later) region stop ≡ CheckFailed)
    → check_state (cons_option (check_of query reply) (checks_in later)) region stop ≡ CheckFailed
failed_step book ask told later region stop entry (Reach r s t) reply q p turn (it, inl is, same_one, none) rest =
    let queries : Reach r s t ≡ Check region stop = sym q ∙ (ap (λ (x : Entry). x.query) (sym is) ∙ same_one) in
    absurd (cc)
failed_step book ask told later region stop entry (Reach r s t) reply q p turn (it, inr h, same_one, none) rest = rest (it, h, same_one, none)
failed_step book ask told later region stop entry (Check r s) reply q p turn failed rest = go (is_check region stop first) refl failed
  where
    first : ToldCheck
    first = record { region = r; stop = s; reply = reply }

    this : is_check region stop first ≡ true → entry.query ≡ Check region stop
    this e =
        let parts : (same r region ≡ true) × (same s stop ≡ true) = and_parts _ _ e in
        q ∙ (ap (λ (x : Text). Check x s) (same_is r region parts.0) ∙ ap (λ (x : Text). Check region x) (same_is s stop parts.1))

    other : (b : Bool) → is_check region stop first ≡ b → b ≡ false → entry.query ≡ Check region stop → ⊥
    other b is_b off same_one =
        let queries : Check r s ≡ Check region stop = sym q ∙ same_one in
        let regions : r ≡ region = cc in
        let stops : s ≡ stop = cc in
        true≢false (sym (and_from _ _ (is_same r region regions) (is_same s stop stops)) ∙ (is_b ∙ off))

    go : (b : Bool) → is_check region stop first ≡ b → Failed (entry ∷ later) (Check region stop) → cond b (reply_state reply) (check_state (checks_in later) region stop) ≡ CheckFailed
    go true e (it, inl is, same_one, none) = ap reply_state (sym p ∙ (ap (λ (x : Entry). x.reply) (sym is) ∙ none))
    go true e (it, inr h, same_one, none) =
        let told_one : is_told (told ++ entry ∷ []) (Check region stop) ≡ true =
        is_told_is (told ++ entry ∷ []) entry (Check region stop) (among_append_right entry told (entry ∷ []) (inl refl)) (this e) in
        absurd (later_untold book ask (told ++ entry ∷ []) later (Check region stop) it told_one turn.1 h same_one)
    go false e (it, inl is, same_one, none) = absurd (other false e refl (ap (λ (x : Entry). x.query) (sym is) ∙ same_one))
    go false e (it, inr h, same_one, none) = rest (it, h, same_one, none)

-- a check that failed tells so
pub failed_state : (book : Book) (ask : TripAsk) (told later : List Entry) (region stop : Text) → ToldInTurn book ask told later → Failed later (Check region stop) → check_state (checks_in later) region stop ≡ CheckFailed
unfolding checks_in
failed_state book ask told [] region stop turn (entry, h, same_one, none) = absurd h
failed_state book ask told (first ∷ later) region stop turn failed =
    failed_step book ask told later region stop first first.query first.reply refl refl turn failed (failed_state book ask (told ++ first ∷ []) later region stop turn.1)

-- when the entry was told its query was open in what stood before it
pub record OpenAt (book : Book) (ask : TripAsk) (all : List Entry) (entry : Entry) : Type 0 where
  pub before : List Entry
  pub rest : List Entry
  pub split : all ≡ before ++ entry ∷ rest
  pub open_then : IsOpenQuery book ask before entry.query

pub open_at : (book : Book) (ask : TripAsk) (told later : List Entry) (entry : Entry) → ToldInTurn book ask told later → Among entry later → OpenAt book ask (told ++ later) entry
open_at book ask told [] entry turn h = absurd h
open_at book ask told (first ∷ later) entry turn (inl is) =
    record { before = told; rest = later; split = ap (λ (e : Entry). told ++ e ∷ later) (sym is); open_then = subst (λ (e : Entry). IsOpenQuery book ask told e.query) (sym is) turn.0 }
open_at book ask told (first ∷ later) entry turn (inr h) =
    let it : OpenAt book ask ((told ++ first ∷ []) ++ later) entry = open_at book ask (told ++ first ∷ []) later entry turn.1 h in
    record { before = it.before; rest = it.rest; split = sym (append_assoc told (first ∷ []) later) ∙ it.split; open_then = it.open_then }
