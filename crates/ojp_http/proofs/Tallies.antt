-- How many of some fields have a name, and the value of the first.
use Rattle.std.proofs.Common.{◌≡◌, ℕ, ◌+◌, ◌<◌, ◌≤◌, ◌==◌, ◌&&◌, Bool, true, false, if◌then◌else◌, cond, List, [], ◌∷◌, ◌++◌, length, map, take, get_or, refl, sym, ap, ◌∙◌, subst, arith, zero-add}
use Rattle.std.specs.Prelude.{All}
use Rattle.std.proofs.lemmas.Bool.Decides.{nat_tests}
use Rattle.std.proofs.lemmas.List.Sums.{sum_by-append, sum_by-cons}
use Rattle.std.proofs.lemmas.List.{take_more, map-append}
use Rattle.httparse.specs.declared.spans.HeaderSpan.{HeaderSpan}
use Rattle.httparse.specs.declared.spans.Span.{Span}
use Rattle.httparse.specs.Spans.{IsHeaderWithin, IsWithin, header_bytes, span_bytes}
use Rattle.ojp_http.specs.declared.fields.Named.{Named}
use Rattle.ojp_http.specs.Fields.{is_same, count_named, value_named}
use Rattle.ojp_http.specs.Tallies.{Counts, IsTally}

counted_behind : (name : List ℕ) (fields : List (List ℕ × List ℕ)) (f : List ℕ × List ℕ) (b : Bool) → is_same f.0 name ≡ b
    → count_named name (fields ++ f ∷ []) ≡ (if b then count_named name fields + 1 else count_named name fields)
counted_behind name fields f true is =
    let sum = sum_by-append (λ (x : List ℕ × List ℕ). cond (is_same x.0 name) 1 0) fields (f ∷ []) in
    let one : ◌≡◌ {A = ℕ} (cond (is_same f.0 name) 1 0) 1 = ap (λ (v : Bool). cond v 1 0) is in
    omega (arith, sum, one)
counted_behind name fields f false is =
    let sum = sum_by-append (λ (x : List ℕ × List ℕ). cond (is_same x.0 name) 1 0) fields (f ∷ []) in
    let none : ◌≡◌ {A = ℕ} (cond (is_same f.0 name) 1 0) 0 = ap (λ (v : Bool). cond v 1 0) is in
    omega (arith, sum, none)

above_zero : (n : ℕ) → ((1 + n) == 0) ≡ false
above_zero n = grind (arith, nat_tests)

-- a field in front has the name, or the value is that of the fields behind
in_front : (b s : Bool) (count : ℕ) (last front value behind : List ℕ) → behind ≡ (if b && (count == 0) then last else value)
    → (if s then front else behind) ≡ (if b && ((cond s 1 0 + count) == 0) then last else (if s then front else value))
in_front true true count last front value behind e = sym (ap (λ (z : Bool). if z then last else front) (above_zero count))
in_front false true count last front value behind e = refl
in_front true false count last front value behind e = e ∙ ap (λ (n : ℕ). if n == 0 then last else value) (sym (zero-add count))
in_front false false count last front value behind e = e

first_behind : (name : List ℕ) (fields : List (List ℕ × List ℕ)) (f : List ℕ × List ℕ) (b : Bool) → is_same f.0 name ≡ b
    → value_named name (fields ++ f ∷ []) ≡ (if b && (count_named name fields == 0) then f.1 else value_named name fields)
first_behind name [] f true is = ap (λ (v : Bool). if v then f.1 else []) is
first_behind name [] f false is = ap (λ (v : Bool). if v then f.1 else []) is
first_behind name (g ∷ fields) f b is =
    in_front b (is_same g.0 name) (count_named name fields) f.1 g.1 (value_named name fields) (value_named name (fields ++ f ∷ [])) (first_behind name fields f b is)
    ∙ ap (λ (n : ℕ). if b && (n == 0) then f.1 else (if is_same g.0 name then g.1 else value_named name fields))
    (sym (sum_by-cons (λ (x : List ℕ × List ℕ). cond (is_same x.0 name) 1 0) g fields))

-- a chosen span covers the chosen bytes, and is within them as both are
chosen : (b : Bool) (bytes : List ℕ) (x y : Span) → span_bytes bytes (if b then x else y) ≡ (if b then span_bytes bytes x else span_bytes bytes y)
chosen true bytes x y = refl
chosen false bytes x y = refl

chosen_within : (b : Bool) (n : ℕ) (x y : Span) → IsWithin n x → IsWithin n y → IsWithin n (if b then x else y)
chosen_within true n x y p q = p
chosen_within false n x y p q = q

tally_behind : (name bytes : List ℕ) (before : List HeaderSpan) (header : HeaderSpan) (named now : Named) (b : Bool) → is_same (span_bytes bytes header.name) name ≡ b
    → IsHeaderWithin (length bytes) header → IsTally name bytes before named
    → now.count ≡ (if b then named.count + 1 else named.count) → now.first ≡ (if b && (named.count == 0) then header.value else named.first)
    → IsTally name bytes (before ++ header ∷ []) now
tally_behind name bytes before header named now b is header_within tally count first =
    let fields = map (header_bytes bytes) before in
    let f = header_bytes bytes header in
    let all : map (header_bytes bytes) (before ++ header ∷ []) ≡ fields ++ f ∷ [] = map-append (header_bytes bytes) before (header ∷ []) in
    record {
      counted = count ∙ ap (λ (n : ℕ). if b then n + 1 else n) tally.counted ∙ sym (counted_behind name fields f b is) ∙ ap (count_named name) (sym all);
      value = ap (span_bytes bytes) first ∙ chosen (b && (named.count == 0)) bytes header.value named.first
          ∙ (λ i. if b && (tally.counted i == 0) then f.1 else tally.value i) ∙ sym (first_behind name fields f b is) ∙ ap (value_named name) (sym all);
      within = subst (IsWithin (length bytes)) (sym first) (chosen_within (b && (named.count == 0)) (length bytes) header.value named.first header_within.1 tally.within);
    }

-- one field more
pub tally_with : (name bytes : List ℕ) (headers : List HeaderSpan) (i : ℕ) (d : HeaderSpan) (named now : Named) → i < length headers → All (IsHeaderWithin (length bytes)) headers
    → IsTally name bytes (take i headers) named → Counts name bytes (get_or headers i d) named now → IsTally name bytes (take (i + 1) headers) now
tally_with name bytes headers i d named now below within tally counts =
    let header = get_or headers i d in
    subst (λ (l : List HeaderSpan). IsTally name bytes l now) (sym (take_more headers i d below))
    (tally_behind name bytes (take i headers) header named now (is_same (span_bytes bytes header.name) name) refl (within i d below) tally counts.count counts.first)

counted_few : (b : Bool) (count now i : ℕ) → now ≡ (if b then count + 1 else count) → count ≤ i → now ≤ i + 1
counted_few true count now i is few = omega (arith, is, few)
counted_few false count now i is few = omega (arith, is, few)

-- no more fields have the name than there are
pub tally_few : (name bytes : List ℕ) (header : HeaderSpan) (named now : Named) (i : ℕ) → Counts name bytes header named now → named.count ≤ i → now.count ≤ i + 1
tally_few name bytes header named now i counts few = counted_few (is_same (span_bytes bytes header.name) name) named.count now.count i counts.count few
