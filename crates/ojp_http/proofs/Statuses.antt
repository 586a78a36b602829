-- The statuses of responses with a body, case by case.
use Rattle.std.proofs.Common.{◌≡◌, ℕ, ◌≤◌, inl, inr, true, IsTrue, length, [], subst, arith, ◌==◌, unwrap_or}
use Rattle.std.proofs.lemmas.Bool.Decides.{nat_tests}
use Rattle.http.specs.StatusCode.{reason_phrase}
use Rattle.ojp_http.specs.Responses.{is_answer_status}
use Rattle.std.proofs.lemmas.Bool.{or_cases}

status_is : (a status : ℕ) → (a == status) ≡ true → a ≡ status
status_is a status e = grind (arith, nat_tests)

-- what holds of each of the eight holds of each status of a response
module _ (P : ℕ → Type 0) where
  at : (a status : ℕ) → P a → (a == status) ≡ true → P status
  at a status p e = subst P (status_is a status e) p

  pub by_status : P 200 → P 400 → P 404 → P 405 → P 411 → P 413 → P 431 → P 501 → (status : ℕ) → IsTrue (is_answer_status status) → P status
  by_status ok bad target method length_lacks large head coding status answered =
      elim (or_cases _ _ answered) [
        | inl e ↦ at 200 status ok e
        | inr x ↦ elim (or_cases _ _ x) [
          | inl e ↦ at 400 status bad e
          | inr x ↦ elim (or_cases _ _ x) [
            | inl e ↦ at 404 status target e
            | inr x ↦ elim (or_cases _ _ x) [
              | inl e ↦ at 405 status method e
              | inr x ↦ elim (or_cases _ _ x) [
                | inl e ↦ at 411 status length_lacks e
                | inr x ↦ elim (or_cases _ _ x) [
                  | inl e ↦ at 413 status large e
                  | inr x ↦ elim (or_cases _ _ x) [
                    | inl e ↦ at 431 status head e
                    | inr x ↦ elim (or_cases _ _ x) [
                      | inl e ↦ at 501 status coding e
                      | inr x ↦ absurd (cc)
                    ]
                  ]
                ]
              ]
            ]
          ]
        ]
      ]

-- their phrases have at most 31 bytes
pub reason_short : (status : ℕ) → IsTrue (is_answer_status status) → length (unwrap_or (reason_phrase status) []) ≤ 31
reason_short =
    by_status (λ (s : ℕ). length (unwrap_or (reason_phrase s) []) ≤ 31)
    (omega arith) (omega arith) (omega arith) (omega arith) (omega arith) (omega arith) (omega arith) (omega arith)
