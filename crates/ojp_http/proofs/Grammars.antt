-- The grammars of httparse: their heads are lines that are not empty, and an empty one.
use Rattle.std.proofs.Common.{◌≡◌, ℕ, ◌+◌, ◌≤◌, ◌<◌, ◌⊎◌, Bool, true, false, not, ◌&&◌, List, [], ◌∷◌, ◌++◌, length, map, refl, sym, ap, ◌∙◌, arith, append_assoc, append-nil, subst, inl, inr, length-append, take, suc, zero, All, Option, None, Some}
use Rattle.std.specs.Prelude.{◌==◌, codes}
use Rattle.std.specs.List.{flat_map}
use Rattle.std.specs.Char.{is_ascii_digit}
use Rattle.std.proofs.lemmas.List.{length-map, length-take}
use Rattle.std.proofs.lemmas.List.Folds.{list_all-append}
use Rattle.std.proofs.lemmas.Bool.Decides.{nat_tests}
use Rattle.httparse.specs.Grammar.{AllPass, is_token_byte, is_uri_byte, is_value_byte, IsField, Field, print_field, print_section, ReadsSection, RequestHead, print_request, ReadsRequest, ResponseHead, print_response, ReadsResponse, LineEnd, crlf, lf, print_end, print_blank, print_version, print_reason, reason_phrase}
use Rattle.httparse.proofs.GrammarLemmas.{print_request-append, print_response-append, ReadsRequest-append, ReadsResponse-append, ReadsSection-append, cons-append}
use Rattle.httparse.specs.Spans.{AreFieldsAt, header_bytes, name_and_value}
use Rattle.httparse.specs.declared.spans.HeaderSpan.{HeaderSpan}
use Rattle.ojp_http.specs.Heads.{is_empty_line}
use Rattle.ojp_http.specs.Bodies.{has_no_feed, ReadsTrailer}
use Rattle.ojp_http.proofs.Lines.{Heading, AreLines, print_lines, return_of, print_end-is}
use Rattle.ojp_http.proofs.Headed.{Grammar}

-- ---- no line feed

is_feed : (b : ℕ) → (b == 10) ≡ true → b ≡ 10
is_feed b h = grind (arith, nat_tests)

no_feed_byte : (p : ℕ → Bool) (b : ℕ) → p 10 ≡ false → p b ≡ true → (t : Bool) → (b == 10) ≡ t → not t ≡ true
no_feed_byte p b ten h true e = let x : p 10 ≡ true = subst (λ (n : ℕ). p n ≡ true) (is_feed b e) h in absurd (cc)
no_feed_byte p b ten h false e = refl

both : {a b : Bool} → a ≡ true → b ≡ true → (a && b) ≡ true
both e f = λ i. (e i) && (f i)

pub no_feed : (p : ℕ → Bool) (bytes : List ℕ) → p 10 ≡ false → AllPass p bytes → has_no_feed bytes ≡ true
no_feed p [] ten h = refl
no_feed p (b ∷ bytes) ten h =
    both (no_feed_byte p b ten (h 0 b (omega arith)) (b == 10) refl) (no_feed p bytes ten (λ k d lt. h (suc k) d (omega arith)))

pub no_feed_append : (a b : List ℕ) → has_no_feed a ≡ true → has_no_feed b ≡ true → has_no_feed (a ++ b) ≡ true
no_feed_append a b x y = list_all-append (λ n. not (n == 10)) a b ∙ both x y

token_ten : is_token_byte 10 ≡ false
unfolding is_token_byte
token_ten = refl

no_feed_return : (e : LineEnd) → has_no_feed (return_of e) ≡ true
no_feed_return e = elim e as (λ v. has_no_feed (return_of v) ≡ true) [ crlf ↦ refl | lf ↦ refl ]

-- ---- fields

-- a field's line, without its line feed
abbrev field_line : Field → List ℕ
field_line f = (f.name ++ 58 ∷ f.raw) ++ return_of f.end

print_field-is : (f : Field) → print_field f ≡ field_line f ++ 10 ∷ []
print_field-is f =
    ap (λ (l : List ℕ). (f.name ++ 58 ∷ f.raw) ++ l) (print_end-is f.end) ∙ sym (append_assoc (f.name ++ 58 ∷ f.raw) (return_of f.end) (10 ∷ []))

-- a line of two parts round a byte is not empty
pub long_line : (a : List ℕ) (c : ℕ) (b r : List ℕ) → 0 < length a → is_empty_line ((a ++ c ∷ b) ++ r) ≡ false
long_line [] c b r h = absurd (omega arith)
long_line (x ∷ []) c b r h = refl
long_line (x ∷ y ∷ a) c b r h = refl

fields_lines : (fields : List Field) → All IsField fields → AreLines (map field_line fields) × (flat_map print_field fields ≡ print_lines (map field_line fields))
fields_lines [] h = (tt, refl)
fields_lines (f ∷ fields) h =
    let x : IsField f = h 0 f (omega arith) in
    let more = fields_lines fields (λ k d lt. h (suc k) d (omega arith)) in
    let name = no_feed is_token_byte f.name token_ten x.name.1 in
    let raw = no_feed is_value_byte f.raw refl x.raw in (
      (
        (
          no_feed_append (f.name ++ 58 ∷ f.raw) (return_of f.end) (no_feed_append f.name (58 ∷ f.raw) name raw) (no_feed_return f.end),
          long_line f.name 58 f.raw (return_of f.end) x.name.0,
        ),
        more.0,
      ),
      (λ i. print_field-is f i ++ more.1 i),
    )

-- ---- headings

section_heading : (text : List ℕ) (fields : List Field) (last : LineEnd) → ReadsSection text fields last [] → Heading (length fields + 0) text
section_heading text fields last x =
    let lines = fields_lines fields x.0 in
    record {
      blanks = [];
      lines = map field_line fields;
      last = last;
      is = x.1 ∙ append-nil (print_section fields last) ∙ ap (λ (l : List ℕ). l ++ print_end last) lines.1;
      filled = lines.0;
      enough = omega (arith, length-map fields field_line);
    }

-- a start line and fields
start_heading : (blanks : List LineEnd) (start : List ℕ) (end : LineEnd) (fields : List Field) (last : LineEnd) (text : List ℕ)
    → has_no_feed start ≡ true → is_empty_line (start ++ return_of end) ≡ false → All IsField fields
    → text ≡ print_blank blanks ++ (start ++ (print_end end ++ print_section fields last))
    → Heading (length fields + 1) text
start_heading blanks start end fields last text plain filled all is =
    let lines = fields_lines fields all in
    record {
      blanks = blanks;
      lines = (start ++ return_of end) ∷ map field_line fields;
      last = last;
      is = is
          ∙ (λ i. print_blank blanks ++ (start ++ (print_end-is end i ++ (lines.1 i ++ print_end last))))
          ∙ regroup (print_blank blanks) start (return_of end) (print_lines (map field_line fields)) (print_end last);
      filled = ((no_feed_append start (return_of end) plain (no_feed_return end), filled), lines.0);
      enough = omega (arith, length-map fields field_line);
    }
  where
    regroup : (a b c d e : List ℕ) → a ++ (b ++ ((c ++ 10 ∷ []) ++ (d ++ e))) ≡ (a ++ (((b ++ c) ++ 10 ∷ []) ++ d)) ++ e
    regroup a b c d e = simp (append_assoc, cons-append)

minor_cases : (n : ℕ) → n ≤ 1 → (n ≡ 0) ⊎ (n ≡ 1)
minor_cases zero h = inl refl
minor_cases (suc n) h = inr (omega arith)

no_feed_version : (n : ℕ) → n ≤ 1 → has_no_feed (print_version n) ≡ true
no_feed_version n h = elim (minor_cases n h) [
  | inl e ↦ subst (λ (k : ℕ). has_no_feed (print_version k) ≡ true) (sym e) refl
  | inr e ↦ subst (λ (k : ℕ). has_no_feed (print_version k) ≡ true) (sym e) refl
]

request_heading : (text : List ℕ) (h : RequestHead) → ReadsRequest text h [] → Heading (length h.fields + 1) text
request_heading text h x =
    let ok = x.0 in
    let behind = h.target ++ 32 ∷ print_version h.minor in
    let method = no_feed is_token_byte h.method token_ten ok.method.1 in
    let target = no_feed is_uri_byte h.target refl ok.target.1 in
    start_heading h.blank (h.method ++ 32 ∷ behind) h.line_end h.fields h.last text
    (no_feed_append h.method (32 ∷ behind) method (no_feed_append h.target (32 ∷ print_version h.minor) target (no_feed_version h.minor ok.minor)))
    (long_line h.method 32 behind (return_of h.line_end) ok.method.0) ok.fields
    (x.1 ∙ print_request-append h [] ∙ regroup (print_blank h.blank) h.method h.target (print_version h.minor) (print_end h.line_end) (print_section h.fields h.last))
  where
    regroup : (a b c d e f : List ℕ) → a ++ (b ++ 32 ∷ (c ++ 32 ∷ (d ++ (e ++ (f ++ []))))) ≡ a ++ ((b ++ 32 ∷ (c ++ 32 ∷ d)) ++ (e ++ f))
    regroup a b c d e f = simp (append_assoc, cons-append, append-nil)

no_feed_reason : (reason : Option (List ℕ)) → AllPass is_value_byte (reason_phrase reason) → has_no_feed (print_reason reason) ≡ true
no_feed_reason None h = refl
no_feed_reason (Some phrase) h = no_feed is_value_byte phrase refl h

response_heading : (text : List ℕ) (h : ResponseHead) → ReadsResponse text h [] → Heading (length h.fields + 1) text
response_heading text h x =
    let ok = x.0 in
    let behind = h.digits ++ print_reason h.reason in
    let digits = no_feed is_ascii_digit h.digits refl ok.digits.1 in
    start_heading h.blank (print_version h.minor ++ 32 ∷ behind) h.line_end h.fields h.last text
    (no_feed_append (print_version h.minor) (32 ∷ behind) (no_feed_version h.minor ok.minor) (no_feed_append h.digits (print_reason h.reason) digits (no_feed_reason h.reason ok.reason)))
    (long_line (print_version h.minor) 32 behind (return_of h.line_end) (omega (arith, length-append (codes "HTTP/1.") ((48 + h.minor) ∷ [])))) ok.fields
    (x.1 ∙ print_response-append h [] ∙ regroup (print_blank h.blank) (print_version h.minor) h.digits (print_reason h.reason) (print_end h.line_end) (print_section h.fields h.last))
  where
    regroup : (a b c d e f : List ℕ) → a ++ (b ++ 32 ∷ (c ++ (d ++ (e ++ (f ++ []))))) ≡ a ++ ((b ++ 32 ∷ (c ++ d)) ++ (e ++ f))
    regroup a b c d e f = simp (append_assoc, cons-append, append-nil)

-- ---- the three grammars

pub requests : Grammar ReadsRequest (λ (h : RequestHead). h.fields) 1
requests = record {
  more = λ bytes h rest more x. ReadsRequest-append bytes h rest more x;
  front = λ bytes h rest x. (print_request h, x.1, (x.0, sym (append-nil (print_request h))));
  heading = request_heading;
}

pub responses : Grammar ReadsResponse (λ (h : ResponseHead). h.fields) 1
responses = record {
  more = λ bytes h rest more x. ReadsResponse-append bytes h rest more x;
  front = λ bytes h rest x. (print_response h, x.1, (x.0, sym (append-nil (print_response h))));
  heading = response_heading;
}

pub trailers : Grammar ReadsTrailer (λ t. t.0) 0
trailers = record {
  more = λ bytes t rest more x. ReadsSection-append bytes t.0 t.1 rest more x;
  front = λ bytes t rest x. (print_section t.0 t.1, x.1, (x.0, sym (append-nil (print_section t.0 t.1))));
  heading = λ text t x. section_heading text t.0 t.1 x;
}

-- spans for so many fields
pub few_fields : (buf : List ℕ) (headers : List HeaderSpan) (count : ℕ) (fields : List Field)
    → AreFieldsAt buf headers count fields → count ≤ 64 → length fields ≤ 64
few_fields buf headers count fields is le =
    omega (arith, sym (length-map fields name_and_value), sym (ap length is), length-map (take count headers) (header_bytes buf), length-take count headers, le)
