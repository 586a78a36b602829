-- What transfers from a place make ready.
use Rattle.std.proofs.Common.{◌≡◌, ℕ, ◌+◌, ◌<◌, ◌≤◌, ◌⊎◌, List, Some, length, sym, ap, subst, refl, inl, inr, arith, slice_get, slice_index, ◌∙◌}
use Rattle.std.proofs.lemmas.Bool.{cases_eq, cases_lt}
use Rattle.std.proofs.lemmas.Option.{same_Some}
use Rattle.ojp_sweep.specs.declared.connections.Connections.{Connections}
use Rattle.ojp_sweep.specs.declared.connections.Walk.{Walk}
use Rattle.ojp_sweep.specs.Rides.{IsWell, Transfers}
use Rattle.ojp_sweep.specs.Labels.{IsAtMost, IsReadied, IsReadying}

module _ (net : Connections) (well : IsWell net) (place arrival : ℕ) (within : place < length net.changes.items) where
  -- after the change, and before the walks
  pub readies-change : (old new : List ℕ) (change : ℕ) → change ≡ slice_index net.changes.items place → IsAtMost old new place (arrival + change) → IsReadying old new net place arrival (slice_index net.firsts.items place)
  readies-change old new change e m =
      record {
        count = m.count;
        falls = λ q.
            elim (cases_eq q place) as (λ _. slice_index new q ≤ slice_index old q) [
              | inl same ↦ let f = m.falls in subst (λ k. slice_index new k ≤ slice_index old k) (sym same) (omega arith)
              | inr ne ↦ omega (arith, m.others q ne)
            ];
        change = λ q seconds c. let h = m.here in subst (λ k. slice_index new k ≤ arrival + seconds) c.0 (omega (arith, c.2));
        walked = λ k walk low high at. absurd (omega arith);
        sound = λ q.
            elim (cases_eq q place) as (λ _. (slice_index new q ≡ slice_index old q) ⊎ ((seconds : ℕ) × Transfers net place q seconds × (slice_index new q ≡ arrival + seconds))) [
              | inl same ↦
                  elim m.is [
                    | inl was ↦ inl (subst (λ k. slice_index new k ≡ slice_index old k) (sym same) was)
                    | inr now ↦ inr (change, inl (sym same, within, e), ap (λ k. slice_index new k) same ∙ now)
                  ]
              | inr ne ↦ inl (m.others q ne)
            ];
      }

  -- one walk more
  pub readies-more : (old mid new : List ℕ) (k : ℕ) (walk : Walk) → IsReadying old mid net place arrival k → slice_index net.firsts.items place ≤ k → k < slice_index net.firsts.items (place + 1)
      → slice_get net.walks.items k ≡ Some walk → IsAtMost mid new walk.to (arrival + walk.seconds) → IsReadying old new net place arrival (k + 1)
  readies-more old mid new k walk r from to at m =
      let falls : (q : ℕ) → slice_index new q ≤ slice_index mid q =
      λ q.
      elim (cases_eq q walk.to) as (λ _. slice_index new q ≤ slice_index mid q) [
        | inl same ↦ let f = m.falls in subst (λ k. slice_index new k ≤ slice_index mid k) (sym same) (omega arith)
        | inr ne ↦ omega (arith, m.others q ne)
      ] in
      record {
        count = m.count ∙ r.count;
        falls = λ q. let f = falls q in let g = r.falls q in omega arith;
        change = λ q seconds c. let f = falls q in let g = r.change q seconds c in omega arith;
        walked = λ j other low high other_at.
            let f = falls other.to in
            elim (cases_lt j k) as (λ _. slice_index new other.to ≤ arrival + other.seconds) [
              | inl before ↦ let g = r.walked j other low before other_at in omega arith
              | inr here ↦
                  let e : j ≡ k = omega arith in
                  let same = same_Some walk other (sym at ∙ subst (λ n. slice_get net.walks.items n ≡ Some other) e other_at) in
                  subst (λ (w : Walk). slice_index new w.to ≤ arrival + w.seconds) same m.here
            ];
        sound = λ q.
            elim (cases_eq q walk.to) as (λ _. (slice_index new q ≡ slice_index old q) ⊎ ((seconds : ℕ) × Transfers net place q seconds × (slice_index new q ≡ arrival + seconds))) [
              | inl same ↦
                  elim m.is [
                    | inl was ↦
                        let same_new : slice_index new q ≡ slice_index mid q = subst (λ k. slice_index new k ≡ slice_index mid k) (sym same) was in
                        elim (r.sound q) [ inl x ↦ inl (same_new ∙ x) | inr x ↦ inr (x.0, x.1, same_new ∙ x.2) ]
                    | inr now ↦
                        inr
                        (walk.seconds, inr (record { k = k; walk = walk; at = at; from = well.of_place place k walk within from to at; to = sym same; takes = refl }), ap (λ k. slice_index new k) same ∙ now)
                  ]
              | inr ne ↦
                  let same_new = m.others q ne in
                  elim (r.sound q) [ inl x ↦ inl (same_new ∙ x) | inr x ↦ inr (x.0, x.1, same_new ∙ x.2) ]
            ];
      }

  -- all walks of the place
  pub readies-all : (old new : List ℕ) (k : ℕ) → slice_index net.firsts.items (place + 1) ≤ k → IsReadying old new net place arrival k → IsReadied old new net place arrival
  readies-all old new k past r =
      record {
        count = r.count;
        falls = r.falls;
        complete = complete;
        sound = r.sound;
      }
    where
      complete : (q seconds : ℕ) → Transfers net place q seconds → slice_index new q ≤ arrival + seconds
      complete q seconds (inl c) = r.change q seconds c
      complete q seconds (inr w) =
          let is = well.walks w.k w.walk w.at in
          let low : slice_index net.firsts.items place ≤ w.k = subst (λ n. slice_index net.firsts.items n ≤ w.k) w.from is.low in
          let high : w.k < slice_index net.firsts.items (place + 1) = subst (λ n. w.k < slice_index net.firsts.items (n + 1)) w.from is.high in
          let bound = r.walked w.k w.walk low (omega arith) w.at in
          let e = w.takes in
          subst (λ n. slice_index new n ≤ arrival + seconds) w.to (omega arith)
