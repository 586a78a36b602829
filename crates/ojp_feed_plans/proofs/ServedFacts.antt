-- Which places are served.
use Rattle.std.proofs.Common.{◌≡◌, ℕ, zero, suc, ◌+◌, ◌<◌, ◌≤◌, ◌||◌, Bool, true, false, cond, List, [], ◌∷◌, ◌++◌, length, get_or, take, refl, sym, ap, ◌∙◌, arith}
use Rattle.std.specs.List.{filter, list_any, range_with_len}
use Rattle.std.proofs.lemmas.List.{map-id}
use Rattle.std.proofs.lemmas.List.Folds.{list_any_more}
use Rattle.std.proofs.lemmas.List.FromFn.{filter_of_map_range_with_len_more}
use Rattle.ojp_feed_rows.specs.declared.feed.Feed.{Feed}
use Rattle.ojp_feed_trips.specs.declared.weighing.Pattern.{Pattern}
use Rattle.ojp_feed_plans.specs.Served.{AreServed, halts_at, is_marked, is_served, served_stops}

or_assoc : (a b c : Bool) → ((a || b) || c) ≡ (a || (b || c))
or_assoc true b c = refl
or_assoc false b c = refl

-- one more that is marked by what it has
pub any_marked : {X : Type 0} (p : X → Bool) (xs : List X) (i : ℕ) (d : X) (old mid new : Bool) → i < length xs → mid ≡ (old || list_any p (take i xs)) → new ≡ (mid || p (get_or xs i d)) → new ≡ (old || list_any p (take (i + 1) xs))
any_marked p xs i d old mid new h before step =
    let x = get_or xs i d in
    let more : list_any p (take (i + 1) xs) ≡ (list_any p (take i xs) || p x) = list_any_more p xs i d h in
    step ∙ (ap (λ (b : Bool). b || p x) before ∙ (or_assoc old (list_any p (take i xs)) (p x) ∙ ap (λ (b : Bool). old || b) (sym more)))

pub served_none : (count : ℕ) (marks : List Bool) → length marks ≡ count → ((k : ℕ) → is_marked marks k ≡ false) → AreServed [] count marks
served_none count marks long none = record { long = long; each = λ place h. none place }

pub served_more : (patterns : List Pattern) (i count : ℕ) (pattern : Pattern) (old new : List Bool) → i < length patterns → pattern ≡ get_or patterns i pattern → AreServed (take i patterns) count old → length new ≡ length old
    → ((place : ℕ) → place < length old → is_marked new place ≡ (is_marked old place || halts_at pattern.halts.items place)) → AreServed (take (i + 1) patterns) count new
served_more patterns i count pattern old new h is before long step = record {
  long = long ∙ before.long;
  each = λ place within.
      any_marked (λ (p : Pattern). halts_at p.halts.items place) patterns i pattern false (is_marked old place) (is_marked new place) h (before.each place within)
      (step place (omega (arith, within, before.long)) ∙ ap (λ (p : Pattern). is_marked old place || halts_at p.halts.items place) is);
}

-- ---- the numbers of those that are

module _ (p : ℕ → Bool) where
  filtered : (n : ℕ) → filter p (range_with_len 0 (n + 1)) ≡ filter p (range_with_len 0 n) ++ cond (p n) (n ∷ []) []
  filtered n =
      let id : ℕ → ℕ = λ k. k in
      ap (filter p) (sym (map-id (range_with_len 0 (n + 1)))) ∙ (filter_of_map_range_with_len_more p id 0 n n (omega arith) ∙ ap (λ (ks : List ℕ). filter p ks ++ cond (p n) (n ∷ []) []) (map-id (range_with_len 0 n)))

  pub filtered_more : (n : ℕ) (wanted : Bool) (old new : List ℕ) → wanted ≡ p n → old ≡ filter p (range_with_len 0 n) → new ≡ old ++ cond wanted (n ∷ []) [] → new ≡ filter p (range_with_len 0 (n + 1))
  filtered_more n wanted old new is before step =
      step ∙ (ap (λ (ks : List ℕ). ks ++ cond wanted (n ∷ []) []) before ∙ (ap (λ (b : Bool). filter p (range_with_len 0 n) ++ cond b (n ∷ []) []) is ∙ sym (filtered n)))

same_filter : (p q : ℕ → Bool) (a n : ℕ) → ((k : ℕ) → k < a + n → p k ≡ q k) → filter p (range_with_len a n) ≡ filter q (range_with_len a n)
same_filter p q a zero same = refl
same_filter p q a (suc n) same =
    let rest : filter p (range_with_len (a + 1) n) ≡ filter q (range_with_len (a + 1) n) = same_filter p q (a + 1) n (λ k h. same k (omega (arith, h))) in
    ap (λ (b : Bool). cond b (a ∷ filter p (range_with_len (a + 1) n)) (filter p (range_with_len (a + 1) n))) (same a (omega arith)) ∙ ap (λ (ks : List ℕ). cond (q a) (a ∷ ks) ks) rest

-- those that are marked below the count of the stops
pub served_are : (feed : Feed) (patterns : List Pattern) (count stops : ℕ) (marks : List Bool) (numbers : List ℕ) → AreServed patterns count marks → stops ≡ length feed.stops.items → stops ≤ count
    → numbers ≡ filter (is_marked marks) (range_with_len 0 stops) → numbers ≡ served_stops feed patterns
unfolding served_stops
served_are feed patterns count stops marks numbers served is within are =
    are ∙ (same_filter (is_marked marks) (is_served patterns) 0 stops (λ k h. served.each k (omega (arith, h, within))) ∙ ap (λ (n : ℕ). filter (is_served patterns) (range_with_len 0 n)) is)
