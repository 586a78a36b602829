-- What a reader's answers say of the bytes fed.
use Rattle.std.proofs.Common.{◌≡◌, ◌≢◌, ℕ, List, [], ◌∷◌, ◌++◌, Result, Ok, Err, IfOk, refl, sym, ap, ◌∙◌, subst, length, append-nil, append_assoc, take, drop, take-append-drop, ◌≤◌, Bool, true, false, ◌==◌, ◌<◌, zero, suc, ◌+◌, ◌-◌, MatchBool, map, Option, Some, None, slice_get, option_map, arith}
use Rattle.std.proofs.Common.{inl, inr, ◌⊎◌}
use Rattle.std.proofs.lemmas.List.{take_rest}
use Rattle.std.proofs.lemmas.Option.{slice_get-map, slice_get-get_or}
use Rattle.std.proofs.Math.ListN.{get_or}
use Rattle.ojp_vectors.specs.declared.case.Case.{Case}
use Rattle.std.proofs.Math.Nat.{eq-or-lt_of_le}
use Rattle.ojp_values.specs.declared.memory.NoMemory.{NoMemory}
use Rattle.ojp_grammar.specs.declared.refusals.Want.{Want}
use Rattle.ojp_grammar.specs.declared.refusals.Refused.{Refused}
use Rattle.ojp_grammar.specs.Places.{IsDocumentRefused}
use Rattle.ojp_decode.specs.Progress.{Progress, reading, whole}
use Rattle.ojp_decode.specs.Feeding.{StaysRefused, FeedsOn, FeedsBehind, trailing}
use Rattle.ojp_decode.specs.Standing.{ReaderView, HasRead, Feeds}
use Rattle.ojp_decode.specs.declared.fed.Fed.{Fed}
use Rattle.ojp_decode.specs.declared.fed.Fed.TheVariants as feds
use Rattle.ojp_decode.specs.declared.fed.ReadRefused.{ReadRefused}
use Rattle.ojp_decode.specs.declared.fed.ReadRefused.TheVariants as refusals
use Rattle.ojp_vectors.specs.declared.case.CaseOutcome.{CaseOutcome}
use Rattle.ojp_grammar.proofs.Tests.{is_zero}
use Rattle.ojp_grammar.proofs.OnePlace.{one_refusal}
use Rattle.ojp_vectors.specs.declared.case.CaseOutcome.TheVariants.{Document, At}
use Rattle.ojp_vectors.specs.Cases.{IsOutcome, outcome_by, Stated, stated, Holds, HoldBelow}

-- what is refused whatever follows is refused as it is
pub refused_now : (want : Want) (bytes : List ℕ) (refused : Refused) → StaysRefused want bytes refused → IsDocumentRefused want bytes refused.at refused.reason
refused_now want bytes refused stays = subst (λ (l : List ℕ). IsDocumentRefused want l refused.at refused.reason) (append-nil bytes) (stays [])

-- bytes behind a document are refused at its end
pub behind_refused : (want : Want) (before behind : List ℕ) (refused : ReadRefused) (after : Progress) → behind ≢ []
    → FeedsBehind want before behind (Err refused) after → IfOk (outcome_by refused) (λ outcome. IsOutcome want (before ++ behind) outcome)
behind_refused want before behind (refusals.At r) after some b =
    let e = (b.more some).0 in
    let same : r ≡ trailing (length before) = cc in
    subst (λ (x : Refused). IsDocumentRefused want (before ++ behind) x.at x.reason) (sym same) (refused_now want (before ++ behind) (trailing (length before)) (b.stays some))
behind_refused want before behind refusals.NoMemory after some b = tt

-- a refusal while a document goes on is one of all the bytes
pub on_refused : (want : Want) (before piece rest : List ℕ) (refused : ReadRefused) (after : Progress)
    → FeedsOn want before piece (Err refused) after → IfOk (outcome_by refused) (λ outcome. IsOutcome want (before ++ (piece ++ rest)) outcome)
on_refused want before piece rest (refusals.At r) after f =
    subst (λ (l : List ℕ). IsDocumentRefused want l r.at r.reason) (append_assoc before piece rest) (f.0.stays rest)
on_refused want before piece rest refusals.NoMemory after f = tt

-- a piece after which a document goes on was read behind the others
pub fed_more : (want : Want) (before piece : List ℕ) (new : ReaderView) → Feeds (reading want before) piece (Ok feds.More) new → HasRead new (reading want (before ++ piece))
fed_more want before piece new fed = subst (HasRead new) fed.2.1 fed.1

-- a document that ends in a piece is whole with the bytes of it that are used
pub fed_whole : (want : Want) (before piece : List ℕ) (used : ℕ) (new : ReaderView) → Feeds (reading want before) piece (Ok (feds.Whole used)) new
    → HasRead new (whole want (before ++ take used piece)) × (used ≤ length piece)
fed_whole want before piece used new fed = (subst (HasRead new) fed.2.1 fed.1, fed.2.0.within)

pub no_bytes : (l : List ℕ) → (length l == 0) ≡ true → l ≡ []
no_bytes [] e = refl
no_bytes (x ∷ l) e = absurd (omega (arith, is_zero (length (x ∷ l)) e))

pub some_bytes : (l : List ℕ) → (length l == 0) ≡ false → l ≢ []
some_bytes l e none = let n : true ≡ false = sym (ap (λ (x : List ℕ). length x == 0) none) ∙ e in cc

pub joined : (l a b : List ℕ) (n : ℕ) → a ≡ take n l → b ≡ drop n l → l ≡ a ++ b
joined l a b n front back = sym (take-append-drop n l) ∙ ap (λ (x : List ℕ). x ++ drop n l) (sym front) ∙ ap (λ (x : List ℕ). a ++ x) (sym back)

-- what stands behind the bytes that are used
pub rest_behind : (n : ℕ) (front behind : List ℕ) → n ≤ length front → take n front ++ drop n (front ++ behind) ≡ front ++ behind
rest_behind zero front behind h = refl
rest_behind (suc n) [] behind h = absurd (omega (arith, h))
rest_behind (suc n) (x ∷ front) behind h = ap (λ (l : List ℕ). x ∷ l) (rest_behind n front behind (omega (arith, h)))

-- the bytes that a document uses, and those behind it, are all
pub whole_again : (bytes before front behind left : List ℕ) (used : ℕ) → bytes ≡ before ++ left → left ≡ front ++ behind → used ≤ length front
    → (before ++ take used front) ++ take (length left - used) (drop used left) ≡ bytes
whole_again bytes before front behind left used all parts within =
    ap (λ (l : List ℕ). (before ++ take used front) ++ l) (take_rest left used) ∙ append_assoc before (take used front) (drop used left)
    ∙ ap (λ (l : List ℕ). before ++ (take used front ++ drop used l)) parts
    ∙ ap (λ (l : List ℕ). before ++ l) (rest_behind used front behind within) ∙ ap (λ (l : List ℕ). before ++ l) (sym parts) ∙ sym all

-- bytes have one outcome
pub one_outcome : (want : Want) (bytes : List ℕ) (one other : CaseOutcome) → IsOutcome want bytes one → IsOutcome want bytes other → one ≡ other
one_outcome want bytes Document Document a b = refl
one_outcome want bytes Document (At at reason) a b = absurd (b.none a.0 a.1 a.2)
one_outcome want bytes (At at reason) Document a b = absurd (a.none b.0 b.1 b.2)
one_outcome want bytes (At at reason) (At place cause) a b =
    let same = one_refusal want bytes at place reason cause a b in
    ap (λ (n : ℕ). At n reason) same.0 ∙ ap (λ r. At place r) same.1

-- a case holds exactly where what was found is what it states
pub right_by : (case : Stated) (found : CaseOutcome) (right : Bool) → IsOutcome case.want case.bytes found
    → MatchBool right (found ≡ case.outcome) (found ≢ case.outcome) → MatchBool right (Holds case) (Holds case → ⊥)
right_by case found true is same = subst (IsOutcome case.want case.bytes) same is
right_by case found false is differs = λ holds. differs (one_outcome case.want case.bytes found case.outcome is holds)

-- one case more
pub hold_next : (cases : List Stated) (n : ℕ) (case : Stated) → slice_get cases n ≡ Some case → Holds case → HoldBelow cases n → HoldBelow cases (n + 1)
hold_next cases n case at holds below m other h has = by_place (eq-or-lt_of_le (omega (arith, h)))
  where
    by_place : (m ≡ n) ⊎ (m < n) → Holds other
    by_place (inr less) = below m other less has
    by_place (inl same) =
        let e : Some other ≡ Some case = sym has ∙ ap (slice_get cases) same ∙ at in
        let is : other ≡ case = cc in subst Holds (sym is) holds

-- the case of a number
pub case_at : (cases : List Case) (n : ℕ) (d : Case) → n < length cases → slice_get (map stated cases) n ≡ Some (stated (get_or cases n d))
case_at cases n d within = slice_get-map stated cases n ∙ ap (option_map stated) (slice_get-get_or cases n d within)
