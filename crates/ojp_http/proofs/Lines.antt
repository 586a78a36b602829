-- Heads as lines that are not empty, behind empty ones.
use Rattle.std.proofs.Common.{◌≡◌, ℕ, ◌+◌, ◌≤◌, ◌<◌, Bool, true, false, not, List, [], ◌∷◌, ◌++◌, length, refl, sym, ap, ◌∙◌, arith, append_assoc, append-nil, if◌then◌else◌, suc, zero}
use Rattle.std.specs.Prelude.{◌==◌}
use lib.Dec.{eqb-suc-zero}
use Rattle.httparse.specs.Grammar.{LineEnd, crlf, lf, print_end, print_blank}
use Rattle.ojp_http.specs.declared.count.Begun.TheVariants.{Nothing, Return, Other}
use Rattle.ojp_http.specs.declared.count.Begun.{Begun}
use Rattle.ojp_http.specs.declared.count.LineCount.{LineCount}
use Rattle.ojp_http.specs.LineCounts.{no_lines, count_step, count_from, begun_step, end_by, count_end}
use Rattle.ojp_http.specs.Heads.{is_empty_line}
use Rattle.ojp_http.specs.Bodies.{has_no_feed}
use Rattle.ojp_http.proofs.CountFacts.{begun_of, begun_of-push, count_from-append}
use Rattle.std.proofs.lemmas.Bool.{and_parts, not-true}

-- the carriage return of a line end, which stands in the line
abbrev pub return_of : LineEnd → List ℕ
return_of crlf = 13 ∷ []
return_of lf = []

pub print_end-is : (e : LineEnd) → print_end e ≡ return_of e ++ 10 ∷ []
print_end-is crlf = refl
print_end-is lf = refl

-- the bytes of some lines
abbrev pub print_lines : List (List ℕ) → List ℕ
print_lines [] = []
print_lines (line ∷ lines) = (line ++ 10 ∷ []) ++ print_lines lines

-- each is a line that is not empty
abbrev pub AreLines : List (List ℕ) → Type 0
AreLines [] = Unit {0}
AreLines (line ∷ lines) = ((has_no_feed line ≡ true) × (is_empty_line line ≡ false)) × AreLines lines

-- a text of lines, behind empty ones and before one
pub record Heading (least : ℕ) (text : List ℕ) : Type 0 where
  pub blanks : List LineEnd
  pub lines : List (List ℕ)
  pub last : LineEnd
  pub is : text ≡ (print_blank blanks ++ print_lines lines) ++ print_end last
  pub filled : AreLines lines
  pub enough : least ≤ length lines

-- a line that is not empty is neither nothing nor a carriage return
begun_filled : (line : List ℕ) → is_empty_line line ≡ false → begun_of line ≡ Other
begun_filled [] h = absurd (cc)
begun_filled (b ∷ []) h = ap (λ (t : Bool). if t then Return else Other) h
begun_filled (b ∷ c ∷ rest) h = refl

one : (e : LineEnd) → count_from no_lines (print_end e) ≡ no_lines
one crlf = refl
one lf = refl

-- the count after the bytes of a line that has begun
begun_count : (line begun : List ℕ) (n : ℕ) (e : Bool) → has_no_feed line ≡ true
    → count_from (record { begun = begun_of begun; counted = n; has_empty = e }) line ≡ record { begun = begun_of (begun ++ line); counted = n; has_empty = e }
begun_count [] begun n e h = ap (λ (l : List ℕ). record { begun = begun_of l; counted = n; has_empty = e }) (sym (append-nil begun))
begun_count (b ∷ line) begun n e h =
    let two = and_parts (not (b == 10)) (has_no_feed line) h in
    let start : LineCount = record { begun = begun_of begun; counted = n; has_empty = e } in
    let plain : LineCount = record { begun = begun_step (begun_of begun) b; counted = n; has_empty = e } in
    let stepped : count_step start b ≡ plain = ap (λ (t : Bool). if t then count_end start else plain) (not-true (b == 10) two.0) in
    let more : plain ≡ record { begun = begun_of (begun ++ b ∷ []); counted = n; has_empty = e } =
    ap (λ (v : Begun). record { begun = v; counted = n; has_empty = e }) (begun_of-push begun b) in
    ap (λ (s : LineCount). count_from s line) (stepped ∙ more)
    ∙ begun_count line (begun ++ b ∷ []) n e two.1
    ∙ ap (λ (l : List ℕ). record { begun = begun_of l; counted = n; has_empty = e }) (append_assoc begun (b ∷ []) line)

-- a line that is not empty is counted
line_counts : (line : List ℕ) (n : ℕ) (e : Bool) → has_no_feed line ≡ true → is_empty_line line ≡ false
    → count_from (record { begun = Nothing; counted = n; has_empty = e }) (line ++ 10 ∷ []) ≡ record { begun = Nothing; counted = n + 1; has_empty = e }
line_counts line n e h filled =
    count_from-append (record { begun = Nothing; counted = n; has_empty = e }) line (10 ∷ [])
    ∙ ap (λ (s : LineCount). count_end s) (begun_count line [] n e h)
    ∙ ap (λ (v : Begun). end_by v n e) (begun_filled line filled)

-- so many lines more
lines_count : (lines : List (List ℕ)) (n : ℕ) (e : Bool) → AreLines lines
    → count_from (record { begun = Nothing; counted = n; has_empty = e }) (print_lines lines) ≡ record { begun = Nothing; counted = n + length lines; has_empty = e }
lines_count [] n e h = ap (λ (k : ℕ). record { begun = Nothing; counted = k; has_empty = e }) (omega arith)
lines_count (line ∷ lines) n e h =
    count_from-append (record { begun = Nothing; counted = n; has_empty = e }) (line ++ 10 ∷ []) (print_lines lines)
    ∙ ap (λ (s : LineCount). count_from s (print_lines lines)) (line_counts line n e h.0.0 h.0.1)
    ∙ lines_count lines (n + 1) e h.1
    ∙ ap (λ (k : ℕ). record { begun = Nothing; counted = k; has_empty = e }) (omega arith)

-- empty lines at the front are not counted
blank_count : (blanks : List LineEnd) → count_from no_lines (print_blank blanks) ≡ no_lines
blank_count [] = refl
blank_count (e ∷ blanks) =
    count_from-append no_lines (print_end e) (print_blank blanks) ∙ ap (λ (s : LineCount). count_from s (print_blank blanks)) (one e) ∙ blank_count blanks

-- the count before the last line of a heading
pub body_count : (blanks : List LineEnd) (lines : List (List ℕ)) → AreLines lines
    → count_from no_lines (print_blank blanks ++ print_lines lines) ≡ record { begun = Nothing; counted = length lines; has_empty = false }
body_count blanks lines h =
    count_from-append no_lines (print_blank blanks) (print_lines lines)
    ∙ ap (λ (s : LineCount). count_from s (print_lines lines)) (blank_count blanks)
    ∙ lines_count lines 0 false h
    ∙ ap (λ (k : ℕ). record { begun = Nothing; counted = k; has_empty = false }) (omega arith)

abbrev has_empty_of : LineCount → Bool
has_empty_of s = s.has_empty

-- an empty line is counted behind others
pub heading_ends : (n : ℕ) (e : LineEnd) → 0 < n → (count_from (record { begun = Nothing; counted = n; has_empty = false }) (print_end e)).has_empty ≡ true
heading_ends zero e h = absurd (omega arith)
heading_ends (suc n) crlf h = ap (λ (t : Bool). has_empty_of (if t then (record { begun = Nothing; counted = 0; has_empty = false }) else (record { begun = Nothing; counted = suc n + 1; has_empty = true }))) (eqb-suc-zero n)
heading_ends (suc n) lf h = ap (λ (t : Bool). has_empty_of (if t then (record { begun = Nothing; counted = 0; has_empty = false }) else (record { begun = Nothing; counted = suc n + 1; has_empty = true }))) (eqb-suc-zero n)

-- a heading with a line ends in an empty one
pub heading_has_empty : (least : ℕ) (text : List ℕ) → 0 < least → Heading least text → (count_from no_lines text).has_empty ≡ true
heading_has_empty least text pos h =
    ap (λ (l : List ℕ). (count_from no_lines l).has_empty) h.is
    ∙ ap (λ (s : LineCount). s.has_empty) (count_from-append no_lines (print_blank h.blanks ++ print_lines h.lines) (print_end h.last) ∙ ap (λ (s : LineCount). count_from s (print_end h.last)) (body_count h.blanks h.lines h.filled))
    ∙ heading_ends (length h.lines) h.last (let e = h.enough in omega arith)

-- a heading ends in a line feed
pub heading_ends_in : (least : ℕ) (text : List ℕ) → Heading least text → (front : List ℕ) × (text ≡ front ++ 10 ∷ [])
heading_ends_in least text h =
    let all = print_blank h.blanks ++ print_lines h.lines in
    (all ++ return_of h.last, h.is ∙ ap (λ (l : List ℕ). all ++ l) (print_end-is h.last) ∙ sym (append_assoc all (return_of h.last) (10 ∷ [])))
