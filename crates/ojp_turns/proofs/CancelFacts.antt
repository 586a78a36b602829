-- The cancelling, one subrequest after another.
use Rattle.std.proofs.Common.{◌≡◌, ℕ, ◌+◌, ◌≤◌, ◌<◌, Bool, true, false, ◌||◌, cond, List, [], ◌∷◌, ◌++◌, map, filter, length, Option, refl, sym, ◌∙◌, ap, subst, inl, inr, arith, append-nil, append_assoc, length-append}
use Rattle.std.specs.Prelude.{MatchBool}
use Rattle.std.proofs.lemmas.Bool.{true≢false, cases_Bool}
use Rattle.std.proofs.lemmas.List.Elements.{filter-append}
use Rattle.ojp_values.specs.Lists.{Among}
use Rattle.ojp_values.specs.declared.asks.TripAsk.{TripAsk}
use Rattle.ojp_values.proofs.ListFacts.{among_append, among_append_right}
use Rattle.ojp_exchange.specs.Book.{Book}
use Rattle.ojp_links.specs.Seen.{View, Live, Fixed, codes_of}
use Rattle.ojp_links.specs.Calls.{Closes}
use Rattle.ojp_records.specs.declared.queries.Entry.{Entry}
use Rattle.ojp_records.specs.Wanted.{wanted}
use Rattle.ojp_subrequests.specs.Subrequests.{IsHeldAs, IsHeldIn}
use Rattle.ojp_turns.specs.declared.kept.Kept.{Kept}
use Rattle.ojp_turns.specs.Held.{key_of, NotAmong, AreHeld, StandsIn}
use Rattle.ojp_turns.specs.Asking.{is_still_wanted, StayLive, FirstIs, FirstSifted, Cancels}
use Rattle.ojp_turns.proofs.HeldFacts.{other_key, same_or_not, stands_dropped, stands_on}
use Rattle.ojp_turns.proofs.AskedFacts.{among_is, is_among_is, not_among_is}

-- so many of the subrequests were sifted: those that are wanted stand behind the others
pub record SiftsTo (cancelled : Bool) (n : ℕ) (book : Book) (ask : TripAsk) (told : List Entry) (old new : View) (start subs : List Kept) : Type 0 where
  pub visited : List Kept
  pub ahead : List Kept
  pub split : start ≡ visited ++ ahead
  pub turned : subs ≡ ahead ++ filter (is_still_wanted book ask told) visited
  pub counted : length visited ≡ n
  pub same : StayLive old new subs
  pub cancels : Cancels cancelled book ask told old new start (filter (is_still_wanted book ask told) visited ++ ahead)

pub sifts_start : (book : Book) (ask : TripAsk) (told : List Entry) (old : View) (start : List Kept) → SiftsTo false 0 book ask told old old start start
sifts_start book ask told old start =
    record {
      visited = [];
      ahead = start;
      split = refl;
      turned = sym (append-nil start);
      counted = refl;
      same = λ kept among. refl;
      cancels = record { same_links = refl; same_subs = refl };
    }

same_cons : (x y : Kept) (xs ys : List Kept) → x ∷ xs ≡ y ∷ ys → (x ≡ y) × (xs ≡ ys)
same_cons x y xs ys e = (cc, cc)

filter_one : (p : Kept → Bool) (x : Kept) (b : Bool) → p x ≡ b → filter p (x ∷ []) ≡ cond b (x ∷ []) []
filter_one p x b e = ap (λ (c : Bool). cond c (x ∷ []) []) e

module _ (book : Book) (ask : TripAsk) (told : List Entry) (old mid new : View) (start now after : List Kept) where
  cancels_more : (cancelled one : Bool) (kept : Kept) (rest sifted ahead all : List Kept) → Among kept start → Cancels cancelled book ask told old mid start (sifted ++ kept ∷ ahead) → FirstIs one book ask told mid new kept rest after
      → (one ≡ false → all ≡ sifted ++ kept ∷ ahead) → Cancels (cancelled || one) book ask told old new start all
  cancels_more true one kept rest sifted ahead all h before first same = before
  cancels_more false true kept rest sifted ahead all h before first same = (kept, h, not_among_is (wanted book ask told) kept.query first.0)
  cancels_more false false kept rest sifted ahead all h before first same =
      record { same_links = first.2 ∙ before.same_links; same_subs = same refl ∙ before.same_subs }

  stay_more : (one : Bool) (kept : Kept) (rest : List Kept) → NotAmong (key_of kept) (map key_of rest) → StayLive old mid (kept ∷ rest) → FirstIs one book ask told mid new kept rest after → StayLive old new after
  stay_more true kept rest apart stays first k h =
      let here : Among k rest = subst (Among k) first.1 h in
      first.2 (key_of k) (other_key kept k rest apart here) ∙ stays k (inr here)
  stay_more false kept rest apart stays first k h =
      ap (λ (v : View). v.live (key_of k)) first.2
      ∙ elim (among_append k rest (kept ∷ []) (subst (Among k) first.1 h)) [
        | inl l ↦ stays k (inr l)
        | inr r ↦ elim r [ inl e ↦ stays k (inl e) | inr n ↦ absurd n ]
      ]

  sifted_one : (one : Bool) (kept : Kept) (rest : List Kept) → FirstIs one book ask told mid new kept rest after → (after ≡ rest ++ filter (is_still_wanted book ask told) (kept ∷ [])) × (one ≡ false → filter (is_still_wanted book ask told) (kept ∷ []) ≡ kept ∷ [])
  sifted_one true kept rest first = (
    first.1 ∙ (sym (append-nil rest) ∙ ap (λ (xs : List Kept). rest ++ xs) (sym (filter_one (is_still_wanted book ask told) kept false first.0))),
    λ e. absurd (true≢false e),
  )
  sifted_one false kept rest first =
      let one : filter (is_still_wanted book ask told) (kept ∷ []) ≡ kept ∷ [] = filter_one (is_still_wanted book ask told) kept true first.0 in
      (first.1 ∙ ap (λ (xs : List Kept). rest ++ xs) (sym one), λ e. one)

  sift_by : (cancelled one : Bool) (n : ℕ) (s : SiftsTo cancelled n book ask told old mid start now) (f : FirstSifted one book ask told mid new now after) → StandsIn book ask told now mid
      → (kept : Kept) (ahead : List Kept) → s.ahead ≡ kept ∷ ahead → SiftsTo (cancelled || one) (n + 1) book ask told old new start after
  sift_by cancelled one n s f stands kept ahead at =
      let sifted : List Kept = filter (is_still_wanted book ask told) s.visited in
      let both : (kept ≡ f.kept) × (ahead ++ filter (is_still_wanted book ask told) s.visited ≡ f.rest) =
      same_cons kept f.kept (ahead ++ filter (is_still_wanted book ask told) s.visited) f.rest (sym (s.turned ∙ ap (λ (xs : List Kept). xs ++ filter (is_still_wanted book ask told) s.visited) at) ∙ f.is_first) in
      let first : FirstIs one book ask told mid new kept f.rest after = subst (λ (k : Kept). FirstIs one book ask told mid new k f.rest after) (sym both.0) f.is in
      let split : start ≡ s.visited ++ kept ∷ ahead = s.split ∙ ap (λ (xs : List Kept). s.visited ++ xs) at in
      let one_is : (after ≡ f.rest ++ filter (is_still_wanted book ask told) (kept ∷ [])) × (one ≡ false → filter (is_still_wanted book ask told) (kept ∷ []) ≡ kept ∷ []) = sifted_one one kept f.rest first in
      let visited : filter (is_still_wanted book ask told) (s.visited ++ kept ∷ []) ≡ filter (is_still_wanted book ask told) s.visited ++ filter (is_still_wanted book ask told) (kept ∷ []) =
      filter-append (is_still_wanted book ask told) s.visited (kept ∷ []) in
      let now_is : now ≡ kept ∷ f.rest = f.is_first ∙ ap (λ (k : Kept). k ∷ f.rest) (sym both.0) in
      record {
        visited = s.visited ++ kept ∷ [];
        ahead = ahead;
        split = split ∙ sym (append_assoc s.visited (kept ∷ []) ahead);
        turned = one_is.0
            ∙ (ap (λ (xs : List Kept). xs ++ filter (is_still_wanted book ask told) (kept ∷ [])) (sym both.1)
            ∙ (append_assoc ahead (filter (is_still_wanted book ask told) s.visited) (filter (is_still_wanted book ask told) (kept ∷ []))
            ∙ ap (λ (xs : List Kept). ahead ++ xs) (sym visited)));
        counted = length-append s.visited (kept ∷ []) ∙ ap (λ (k : ℕ). k + 1) s.counted;
        same = stay_more one kept f.rest (λ h. apart_first f.kept f.rest f.is_first (subst (λ (k : Kept). Among (key_of k) (map key_of f.rest)) both.0 h)) (subst (StayLive old mid) now_is s.same) first;
        cancels = cancels_more cancelled one kept f.rest (filter (is_still_wanted book ask told) s.visited) ahead (filter (is_still_wanted book ask told) (s.visited ++ kept ∷ []) ++ ahead)
            (subst (Among kept) (sym split) (among_append_right kept s.visited (kept ∷ ahead) (inl refl)))
            (subst (λ (xs : List Kept). Cancels cancelled book ask told old mid start (filter (is_still_wanted book ask told) s.visited ++ xs)) at s.cancels) first
            (λ e. ap (λ (xs : List Kept). xs ++ ahead) (visited ∙ ap (λ (xs : List Kept). filter (is_still_wanted book ask told) s.visited ++ xs) (one_is.1 e)) ∙ append_assoc (filter (is_still_wanted book ask told) s.visited) (kept ∷ []) ahead);
      }
    where
      apart_first : (k : Kept) (rest : List Kept) → now ≡ k ∷ rest → NotAmong (key_of k) (map key_of rest)
      apart_first k rest e = (subst (λ (xs : List Kept). StandsIn book ask told xs mid) e stands).are_live.apart.0

  sift_at : (cancelled one : Bool) (n : ℕ) (s : SiftsTo cancelled n book ask told old mid start now) (f : FirstSifted one book ask told mid new now after) → StandsIn book ask told now mid
      → (ahead : List Kept) → s.ahead ≡ ahead → n < length start → SiftsTo (cancelled || one) (n + 1) book ask told old new start after
  sift_at cancelled one n s f stands [] at below =
      let long : length start ≡ length s.visited = ap length (s.split ∙ (ap (λ (xs : List Kept). s.visited ++ xs) at ∙ append-nil s.visited)) in
      absurd (omega (arith, below, long, s.counted))
  sift_at cancelled one n s f stands (kept ∷ ahead) at below = sift_by cancelled one n s f stands kept ahead at

  pub sift_more : (cancelled one : Bool) (n : ℕ) (s : SiftsTo cancelled n book ask told old mid start now) (f : FirstSifted one book ask told mid new now after) → StandsIn book ask told now mid → n < length start
      → SiftsTo (cancelled || one) (n + 1) book ask told old new start after
  sift_more cancelled one n s f stands below = sift_at cancelled one n s f stands s.ahead refl below

-- while not all were sifted, there is a first
pub some_to_sift : (book : Book) (ask : TripAsk) (told : List Entry) (old new : View) (start now : List Kept) (cancelled : Bool) (n : ℕ) → n < length start → SiftsTo cancelled n book ask told old new start now → 0 < length now
some_to_sift book ask told old new start now cancelled n below s =
    let split : length start ≡ length s.visited + length s.ahead = ap length s.split ∙ length-append s.visited s.ahead in
    let turned : length now ≡ length s.ahead + length (filter (is_still_wanted book ask told) s.visited) = ap length s.turned ∙ length-append s.ahead (filter (is_still_wanted book ask told) s.visited) in
    omega (arith, below, s.counted, split, turned)

-- after the last
pub sifted_all : (book : Book) (ask : TripAsk) (told : List Entry) (old new : View) (start now : List Kept) (cancelled : Bool) (n : ℕ) → length start ≤ n → SiftsTo cancelled n book ask told old new start now
    → (now ≡ filter (is_still_wanted book ask told) start) × Cancels cancelled book ask told old new start now
sifted_all book ask told old new start now cancelled n whole s = go s.ahead refl
  where
    go : (ahead : List Kept) → s.ahead ≡ ahead → (now ≡ filter (is_still_wanted book ask told) start) × Cancels cancelled book ask told old new start now
    go [] e =
        let all : start ≡ s.visited = s.split ∙ (ap (λ (xs : List Kept). s.visited ++ xs) e ∙ append-nil s.visited) in
        let is : now ≡ filter (is_still_wanted book ask told) s.visited = s.turned ∙ ap (λ (xs : List Kept). xs ++ filter (is_still_wanted book ask told) s.visited) e in (
          is ∙ ap (filter (is_still_wanted book ask told)) (sym all),
          subst (Cancels cancelled book ask told old new start) (ap (λ (xs : List Kept). filter (is_still_wanted book ask told) s.visited ++ xs) e ∙ (append-nil (filter (is_still_wanted book ask told) s.visited) ∙ sym is)) s.cancels,
        )
    go (k ∷ ahead) e =
        let split : length start ≡ length s.visited + length (k ∷ ahead) = ap length (s.split ∙ ap (λ (xs : List Kept). s.visited ++ xs) e) ∙ length-append s.visited (k ∷ ahead) in
        absurd (omega (arith, whole, s.counted, split))

-- ---- the first of them

module _ (book : Book) (ask : TripAsk) (told : List Entry) (kept : Kept) where
  pub wanted_is : (b : Bool) → b ≡ true → MatchBool b (Among kept.query (wanted book ask told)) (Among kept.query (wanted book ask told) → ⊥) → is_still_wanted book ask told kept ≡ true
  wanted_is true e it = among_is (wanted book ask told) kept.query it
  wanted_is false e it = absurd (true≢false (sym e))

  pub unwanted_is : (b : Bool) → b ≡ false → MatchBool b (Among kept.query (wanted book ask told)) (Among kept.query (wanted book ask told) → ⊥) → is_still_wanted book ask told kept ≡ false
  unwanted_is true e it = absurd (true≢false e)
  unwanted_is false e it = elim (cases_Bool (is_still_wanted book ask told kept)) [ inl holds ↦ absurd (it (is_among_is (wanted book ask told) kept.query holds)) | inr fails ↦ fails ]

module _ (book : Book) (ask : TripAsk) (told : List Entry) (old new : View) (items rest : List Kept) (kept : Kept) (is_first : items ≡ kept ∷ rest) (stands : StandsIn book ask told items old) where
  first_stands : StandsIn book ask told (kept ∷ rest) old
  first_stands = subst (λ (xs : List Kept). StandsIn book ask told xs old) is_first stands

  pub first_held : IsHeldIn kept.sub old
  first_held = (first_stands.are_live.each kept (inl refl)).held_as

  -- the first is wanted, and stands behind the others
  pub rotated_stands : (after : List Kept) → after ≡ rest ++ kept ∷ [] → StandsIn book ask told after old
  rotated_stands after are =
      subst (λ (xs : List Kept). StandsIn book ask told xs old) (sym are)
      (stands_on book ask told old old kept kept rest refl first_stands refl refl (λ other apart. refl) (first_stands.are_live.each kept (inl refl)))

  pub kept_sifted : (after : List Kept) (b : Bool) → after ≡ rest ++ kept ∷ [] → b ≡ true → MatchBool b (Among kept.query (wanted book ask told)) (Among kept.query (wanted book ask told) → ⊥) → FirstSifted false book ask told old old items after
  kept_sifted after b are e it = record { kept = kept; rest = rest; is_first = is_first; is = (wanted_is book ask told kept b e it, are, refl) }

  -- it is not, and was cancelled
  pub cancelled_stands : Closes old new (key_of kept) → StandsIn book ask told rest new
  cancelled_stands closes = stands_dropped book ask told old new kept rest closes.drops.keeps.fixed first_stands closes.drops.others closes.drops.gone

  pub cancelled_sifted : (b : Bool) → b ≡ false → MatchBool b (Among kept.query (wanted book ask told)) (Among kept.query (wanted book ask told) → ⊥) → Closes old new (key_of kept) → FirstSifted true book ask told old new items rest
  cancelled_sifted b e it closes = record { kept = kept; rest = rest; is_first = is_first; is = (unwanted_is book ask told kept b e it, refl, closes.drops.others) }

-- ---- all of them

held_same : (s : Kept) (old new : View) → new.fixed ≡ old.fixed → new.live (key_of s) ≡ old.live (key_of s) → IsHeldIn s.sub old → IsHeldIn s.sub new
held_same s old new fixed e it =
    subst (λ (f : Fixed). IsHeldAs s.sub (codes_of f) (new.live (key_of s))) (sym fixed) (subst (λ (o : Option Live). IsHeldAs s.sub (codes_of old.fixed) o) (sym e) it)

pub held_drops : (old new : View) (kept : Kept) (items rest : List Kept) → items ≡ kept ∷ rest → AreHeld items old → Closes old new (key_of kept) → AreHeld rest new
held_drops old new kept items rest is_first all closes =
    let it : AreHeld (kept ∷ rest) old = subst (λ (xs : List Kept). AreHeld xs old) is_first all in
    record {
      each = λ g among. held_same g old new closes.drops.keeps.fixed (closes.drops.others (key_of g) (other_key kept g rest it.apart.0 among)) (it.each g (inr among));
      apart = it.apart.1;
      only = λ key none. elim (same_or_not key (key_of kept)) [
        | inl e ↦ ap new.live e ∙ closes.drops.gone
        | inr other ↦ closes.drops.others key other ∙ it.only key (λ a. elim a [ inl e ↦ other e | inr l ↦ none l ])
      ];
    }

pub first_is_held : (v : View) (kept : Kept) (items rest : List Kept) → items ≡ kept ∷ rest → AreHeld items v → IsHeldIn kept.sub v
first_is_held v kept items rest is_first all = (subst (λ (xs : List Kept). AreHeld xs v) is_first all).each kept (inl refl)

-- what stands is held
pub stands_held : (book : Book) (ask : TripAsk) (told : List Entry) (v : View) (subs : List Kept) → StandsIn book ask told subs v → AreHeld subs v
stands_held book ask told v subs it = record { each = λ g among. (it.are_live.each g among).held_as; apart = it.are_live.apart; only = it.are_live.only }
