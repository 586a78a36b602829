-- How many ids have a label.
use Rattle.std.proofs.Common.{◌≡◌, ℕ, ◌+◌, ◌<◌, Bool, cond, eqb, ltb, List, [], ◌∷◌, ◌++◌, Option, Some, None, inl, inr, refl, sym, ap, subst, ◌∙◌, arith}
use Rattle.std.specs.Str.{bytes_eq}
use Rattle.std.specs.Option.{is_some}
use Rattle.std.proofs.lemmas.Bool.{cases_Bool, cases_lt, cond-false, cond-true, lt-ltb, ne_eqb}
use Rattle.std.proofs.lemmas.List.Sums.{sum_by-append}
use Rattle.std.proofs.lemmas.Slice.Eq.{bytes_eq-Decides}
use Rattle.indexmap.specs.IndexMap.{IndexMap, IsEmpty, get, Updates}
use Rattle.std.specs.Map.{lookup}
use Rattle.ojp_values.specs.Texts.{Text}
use Rattle.ojp_feed_labels.specs.Doubles.{AreShared, holders, told}
use Rattle.ojp_feed_labels.specs.Labels.{label_of}

told_some : (n : ℕ) → 0 < n → told n ≡ Some (ltb 1 n)
told_some n h = cond-false (eqb n 0) None (Some (ltb 1 n)) (ne_eqb n 0 (λ e. omega (arith, h, e)))

-- one more than so many are several where there were some
told_next : (n : ℕ) → Some (is_some (told n)) ≡ told (n + 1)
told_next n =
    elim (cases_lt 0 n) [
      | inl h ↦ ap (λ (o : Option Bool). Some (is_some o)) (told_some n h) ∙ (ap Some (sym (lt-ltb 1 (n + 1) (omega (arith, h)))) ∙ sym (told_some (n + 1) (omega arith)))
      | inr h ↦ let none : n ≡ 0 = omega (arith, h) in subst (λ (m : ℕ). Some (is_some (told m)) ≡ told (m + 1)) (sym none) refl
    ]

holders_more : (most : ℕ) (ids : List Text) (id label : Text) → holders most (ids ++ id ∷ []) label ≡ holders most ids label + cond (bytes_eq (label_of most id) label) 1 0
unfolding holders
holders_more most ids id label = let both = sum_by-append (λ (one : Text). cond (bytes_eq (label_of most one) label) 1 0) ids (id ∷ []) in omega (arith, both)

module _ {S : Type 0} where
  pub shared_none : (most : ℕ) (shared : IndexMap Text Bool S) → IsEmpty shared → AreShared most [] shared
  unfolding holders
  shared_none most shared empty label = ap (lookup (bytes_eq label)) empty

  pub shared_more : (most : ℕ) (ids : List Text) (id label : Text) (is_there : Bool) (old new : IndexMap Text Bool S) → label ≡ label_of most id → is_there ≡ is_some (get bytes_eq old label) → AreShared most ids old
      → Updates bytes_eq old new label (Some is_there) → AreShared most (ids ++ id ∷ []) new
  shared_more most ids id label is_there old new is there before updates text =
      let count = holders_more most ids id text in
      let same : bytes_eq (label_of most id) text ≡ bytes_eq label text = ap (λ (l : Text). bytes_eq l text) (sym is) in
      updates.0 text ∙ elim (cases_Bool (bytes_eq label text)) [
        | inl e ↦
            let one = cond-true {A = ℕ} (bytes_eq (label_of most id) text) 1 0 (same ∙ e) in
            let next : holders most (ids ++ id ∷ []) text ≡ holders most ids text + 1 = omega (arith, count, one) in
            let text_is : label ≡ text = (bytes_eq-Decides label text).0 e in
            let told_is : is_there ≡ is_some (told (holders most ids text)) = there ∙ (ap (λ (l : Text). is_some (get bytes_eq old l)) text_is ∙ ap is_some (before text)) in
            cond-true (bytes_eq label text) (Some is_there) (get bytes_eq old text) e ∙ (ap Some told_is ∙ (told_next (holders most ids text) ∙ ap told (sym next)))
        | inr e ↦
            let one = cond-false {A = ℕ} (bytes_eq (label_of most id) text) 1 0 (same ∙ e) in
            let next : holders most (ids ++ id ∷ []) text ≡ holders most ids text = omega (arith, count, one) in
            cond-false (bytes_eq label text) (Some is_there) (get bytes_eq old text) e ∙ (before text ∙ ap told (sym next))
      ]
