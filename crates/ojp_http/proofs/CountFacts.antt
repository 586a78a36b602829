-- What a count of lines says of the lines.
use Rattle.std.proofs.Common.{◌≡◌, ℕ, ◌+◌, ◌⊎◌, Bool, true, false, not, ◌&&◌, List, [], ◌∷◌, ◌++◌, length, refl, sym, ap, ◌∙◌, if◌then◌else◌, append_assoc, append-nil, inl, inr, subst, length-append, suc}
use Rattle.std.specs.List.{list_all}
use Rattle.std.specs.Prelude.{◌==◌}
use Rattle.std.proofs.lemmas.List.Folds.{list_all-append}
use lib.Dec.{eqb-suc-zero}
use Rattle.ojp_http.specs.declared.count.Begun.{Begun}
use Rattle.ojp_http.specs.declared.count.Begun.TheVariants.{Nothing, Return, Other}
use Rattle.ojp_http.specs.declared.count.LineCount.{LineCount}
use Rattle.ojp_http.specs.LineCounts.{no_lines, begun_step, end_by, count_end, count_step, count_from}
use Rattle.ojp_http.specs.Heads.{lines_after, is_empty_line, without_front}
use Rattle.std.proofs.lemmas.Bool.{and_right, cases_Bool}
use Rattle.std.proofs.Math.Bool.{and-true}

pub count_from-append : (s : LineCount) (a b : List ℕ) → count_from s (a ++ b) ≡ count_from (count_from s a) b
count_from-append s [] b = refl
count_from-append s (x ∷ a) b = count_from-append (count_step s x) a b

-- the line that has begun
abbrev pub begun_of : List ℕ → Begun
begun_of [] = Nothing
begun_of (b ∷ []) = if b == 13 then Return else Other
begun_of (b ∷ c ∷ rest) = Other

-- none of the lines is empty
abbrev pub are_filled : List (List ℕ) → Bool
are_filled lines = list_all (λ l. not (is_empty_line l)) lines

-- the counted lines with one line more
abbrev pub pushed : List (List ℕ) → List ℕ → List (List ℕ)
pushed [] line = if is_empty_line line then [] else line ∷ []
pushed (k ∷ counted) line = (k ∷ counted) ++ line ∷ []

pub without_front-push : (done : List (List ℕ)) (line : List ℕ) → without_front (done ++ line ∷ []) ≡ pushed (without_front done) line
without_front-push [] line = refl
without_front-push (k ∷ done) line =
    elim (is_empty_line k) as (λ e. (if e then without_front (done ++ line ∷ []) else (k ∷ (done ++ line ∷ []))) ≡ pushed (if e then without_front done else (k ∷ done)) line) [
      | true ↦ without_front-push done line
      | false ↦ refl
    ]

are_filled-push : (lines : List (List ℕ)) (line : List ℕ) → are_filled (lines ++ line ∷ []) ≡ (are_filled lines && (not (is_empty_line line) && true))
are_filled-push lines line = list_all-append (λ l. not (is_empty_line l)) lines (line ∷ [])

-- the count where these lines are counted, and no line has begun
abbrev pub count_of : List (List ℕ) → LineCount
count_of counted = record { begun = Nothing; counted = length counted; has_empty = not (are_filled counted) }

count_of-push : (k : List ℕ) (counted : List (List ℕ)) (line : List ℕ) (e : Bool) → is_empty_line line ≡ e
    → (record { begun = Nothing; counted = length (k ∷ counted) + 1; has_empty = not (are_filled (k ∷ counted) && (not e && true)) }) ≡ count_of (pushed (k ∷ counted) line)
count_of-push k counted line e is =
    λ i. record {
      begun = Nothing;
      counted = (sym (length-append (k ∷ counted) (line ∷ []))) i;
      has_empty = (sym (ap not (are_filled-push (k ∷ counted) line ∙ ap (λ v. are_filled (k ∷ counted) && (not v && true)) is))) i;
    }

by_which : (b : Begun) → (b ≡ Nothing) ⊎ (b ≡ Return) → (P : Begun → Type 0) → P Nothing → P Return → P b
by_which b (inl e) P p q = subst P (sym e) p
by_which b (inr e) P p q = subst P (sym e) q

-- an empty line ends
ends_empty : (b : Begun) → (b ≡ Nothing) ⊎ (b ≡ Return) → (counted : List (List ℕ)) (line : List ℕ) → is_empty_line line ≡ true
    → end_by b (length counted) (not (are_filled counted)) ≡ count_of (pushed counted line)
ends_empty b which [] line empty =
    let same : count_of [] ≡ count_of (pushed [] line) = ap count_of (sym (ap (λ e. if e then [] else (line ∷ [])) empty)) in
    by_which b which (λ v. end_by v 0 false ≡ count_of (pushed [] line)) same same
ends_empty b which (k ∷ counted) line empty =
    let P : Begun → Type 0 = λ v. end_by v (length (k ∷ counted)) (not (are_filled (k ∷ counted))) ≡ count_of (pushed (k ∷ counted) line) in
    let more : LineCount = record { begun = Nothing; counted = length (k ∷ counted) + 1; has_empty = true } in
    let first : LineCount = record { begun = Nothing; counted = 0; has_empty = not (are_filled (k ∷ counted)) } in
    let chosen : (if suc (length counted) == 0 then first else more) ≡ more = ap (λ t. if t then first else more) (eqb-suc-zero (length counted)) in
    let last : more ≡ count_of (pushed (k ∷ counted) line) =
    (λ i. record { begun = Nothing; counted = length (k ∷ counted) + 1; has_empty = not ((sym (and_right (are_filled (k ∷ counted)) false refl)) i) })
    ∙ count_of-push k counted line true empty in
    by_which b which P (chosen ∙ last) (chosen ∙ last)

-- a line ends that is not empty
ends_filled : (counted : List (List ℕ)) (line : List ℕ) → is_empty_line line ≡ false
    → end_by Other (length counted) (not (are_filled counted)) ≡ count_of (pushed counted line)
ends_filled [] line filled =
    let p : pushed [] line ≡ line ∷ [] = ap (λ e. if e then [] else (line ∷ [])) filled in
    (λ i. record { begun = Nothing; counted = 1; has_empty = not ((sym (ap (λ v. not v && true) filled)) i) }) ∙ ap count_of (sym p)
ends_filled (k ∷ counted) line filled =
    (λ i. record { begun = Nothing; counted = length (k ∷ counted) + 1; has_empty = not ((sym (and-true (are_filled (k ∷ counted)))) i) })
    ∙ count_of-push k counted line false filled

-- a line ends
pub ends : (counted : List (List ℕ)) (line : List ℕ) → end_by (begun_of line) (length counted) (not (are_filled counted)) ≡ count_of (pushed counted line)
ends counted [] = ends_empty Nothing (inl refl) counted [] refl
ends counted (b ∷ []) =
    elim (cases_Bool (b == 13)) [
      | inl e ↦ let r : begun_of (b ∷ []) ≡ Return = ap (λ t. if t then Return else Other) e in ends_empty (begun_of (b ∷ [])) (inr r) counted (b ∷ []) e
      | inr e ↦
          let r : begun_of (b ∷ []) ≡ Other = ap (λ t. if t then Return else Other) e in
          ap (λ v. end_by v (length counted) (not (are_filled counted))) r ∙ ends_filled counted (b ∷ []) e
    ]
ends counted (b ∷ c ∷ rest) = ends_filled counted (b ∷ c ∷ rest) refl

-- these lines were done, and this one has begun
pub record Counts (done : List (List ℕ)) (line : List ℕ) (s : LineCount) : Type 0 where
  pub begun : s.begun ≡ begun_of line
  pub counted : s.counted ≡ length (without_front done)
  pub has_empty : s.has_empty ≡ not (are_filled (without_front done))

Counts-end : (done : List (List ℕ)) (line : List ℕ) (s : LineCount) → Counts done line s → Counts (done ++ line ∷ []) [] (count_end s)
Counts-end done line s c =
    let here : count_end s ≡ count_of (without_front (done ++ line ∷ [])) =
    (λ i. end_by (c.begun i) (c.counted i) (c.has_empty i)) ∙ ends (without_front done) line ∙ ap count_of (sym (without_front-push done line)) in
    record {
      begun = ap (λ (v : LineCount). v.begun) here;
      counted = ap (λ (v : LineCount). v.counted) here;
      has_empty = ap (λ (v : LineCount). v.has_empty) here;
    }

pub begun_of-push : (line : List ℕ) (b : ℕ) → begun_step (begun_of line) b ≡ begun_of (line ++ b ∷ [])
begun_of-push [] b = refl
begun_of-push (x ∷ []) b = elim (x == 13) as (λ t. begun_step (if t then Return else Other) b ≡ Other) [ true ↦ refl | false ↦ refl ]
begun_of-push (x ∷ y ∷ rest) b = refl

-- however many bytes follow
pub Counts-run : (bytes : List ℕ) (done : List (List ℕ)) (line : List ℕ) (s : LineCount) → Counts done line s
    → (begun : List ℕ) × Counts (done ++ lines_after line bytes) begun (count_from s bytes)
Counts-run [] done line s c = (line, subst (λ (l : List (List ℕ)). Counts l line s) (sym (append-nil done)) c)
Counts-run (b ∷ bytes) done line s c =
    elim (b == 10) as
    (λ t. (begun : List ℕ) × Counts (done ++ (if t then (line ∷ lines_after [] bytes) else lines_after (line ++ b ∷ []) bytes)) begun
    (count_from (if t then count_end s else record { begun = begun_step s.begun b; counted = s.counted; has_empty = s.has_empty }) bytes)) [
      | true ↦
          let r = Counts-run bytes (done ++ line ∷ []) [] (count_end s) (Counts-end done line s c) in
          (r.0, subst (λ (l : List (List ℕ)). Counts l r.0 (count_from (count_end s) bytes)) (append_assoc done (line ∷ []) (lines_after [] bytes)) r.1)
      | false ↦ Counts-run bytes done (line ++ b ∷ []) (record { begun = begun_step s.begun b; counted = s.counted; has_empty = s.has_empty })
          (record { begun = ap (λ v. begun_step v b) c.begun ∙ begun_of-push line b; counted = c.counted; has_empty = c.has_empty })
    ]

-- the count of all lines of some bytes
pub counts : (bytes : List ℕ) → (begun : List ℕ) × Counts (lines_after [] bytes) begun (count_from no_lines bytes)
counts bytes = Counts-run bytes [] [] no_lines (record { begun = refl; counted = refl; has_empty = refl })
