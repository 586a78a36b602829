use Rattle.std.proofs.Common.{◌≡◌, ℕ, Bool, List, Option, Result, Ok, Some, None, Err, length, refl, sym, ◌∙◌, arith}
use Rattle.httparse.specs.Grammar.{HasNoSection, NeverHasSection, lf}
use Rattle.httparse.specs.Outcome.{OnPartial, OnInvalid, OnTooManyHeaders}
use Rattle.httparse.specs.Spans.{SectionExceeds, SectionOverflows}
use Rattle.httparse.specs.declared.Error.{Error}
use Rattle.httparse.specs.declared.Status.{Status}
use Rattle.ojp_http.specs.declared.refusal.Refusal.{Refusal}
use Rattle.ojp_http.specs.declared.refusal.Refusal.TheVariants.{Chunk}
use Rattle.ojp_http.specs.declared.count.LineCount.{LineCount}
use Rattle.ojp_http.specs.Bodies.{ReadsTrailer}
use Rattle.ojp_http.specs.Outcomes.{HasGrown, decided_by}
use Rattle.ojp_http.specs.LineCounts.{no_lines, count_from, is_full_by}
use Rattle.ojp_http.proofs.Headed.{unended, decides_found, decides_none, found_by, on_partial, on_invalid, DecidesRest}
use Rattle.ojp_http.proofs.Grammars.{trailers, few_fields}
use Rattle.ojp_http.proofs.head.trailer_end.Goals as goal

pub returns-then-newest-ne10 : goal.returns-then-newest-ne10
returns-then-newest-ne10 c =
    unended ReadsTrailer (λ t. t.0) 65 Chunk Chunk (λ t. tt {0}) 0 trailers c.args.bytes.now c.requires.newest.0 c.args.newest c.args.count c.requires.grown c.requires.counted c.requires.newest.1 c.if-newest-ne10.true
    (sym c.is_full-is_full.ensures ∙ c.if-not-is_full.true)

pub returns-in-Ok-Some : goal.returns-in-Ok-Some
returns-in-Ok-Some c =
    let is : decided_by c.parse_headers-parsed.result c.is_full-is_full.result Chunk Chunk ≡ Ok (Some c.in-Ok-Some.field-0-0) = cc in
    let parsed = found_by c.parse_headers-parsed.result c.is_full-is_full.result Chunk Chunk c.in-Ok-Some.field-0-0 is in
    let found = rw parsed at c.parse_headers-parsed.ensures.complete in
    let within = rw parsed at c.parse_headers-parsed.ensures.within in
    let at = found.2 in
    decides_found ReadsTrailer (λ t. t.0) 65 Chunk Chunk (λ t. tt {0}) 0 trailers c.args.bytes.now c.requires.grown
    (found.0, found.1) _ (tt {0}) at.reads
    (few_fields c.args.bytes.now c.parse_headers-parsed.new.headers c.in-Ok-Some.field-0-0.1 found.0 at.fields_are (omega (arith, within.count_fits, c.parse_headers-parsed.auto.headers))) refl

-- what the parser's clauses decide of a trailer
trailer_none : (bytes : List ℕ) (s : LineCount) → HasGrown ReadsTrailer (λ t. t.0) 65 bytes → s ≡ count_from no_lines bytes → (is_full : Bool) → is_full ≡ is_full_by 65 (length bytes) s
    → (parsed : Result (Status (ℕ × ℕ)) Error) → OnPartial parsed (HasNoSection bytes) → OnInvalid parsed (NeverHasSection bytes)
    → OnTooManyHeaders parsed (SectionExceeds 64 bytes) → OnTooManyHeaders parsed (SectionOverflows 64 bytes)
    → (r : Result (Option (ℕ × ℕ)) Refusal) → decided_by parsed is_full Chunk Chunk ≡ r → DecidesRest ReadsTrailer (λ t. t.0) 65 Chunk Chunk (λ t. tt {0}) bytes r
trailer_none bytes s g is is_full full parsed partial invalid exceeds overflows r decided =
    decides_none ReadsTrailer (λ t. t.0) 65 Chunk Chunk (λ t. tt {0}) 0 trailers (omega arith) bytes s g is is_full full parsed
    (on_partial parsed (λ none t rest reads. none t.0 t.1 rest reads) partial)
    (on_invalid parsed (λ none more t rest reads. none more t.0 t.1 rest reads) invalid)
    (λ e. let x = exceeds e in (x.0, x.1, x.2, (x.3, lf), x.4, x.5))
    (λ e more t rest reads. overflows e more t.0 t.1 rest reads) r decided

pub returns-in-Ok-None : goal.returns-in-Ok-None
returns-in-Ok-None c =
    trailer_none c.args.bytes.now c.args.count c.requires.grown c.requires.counted c.is_full-is_full.result c.is_full-is_full.ensures
    c.parse_headers-parsed.result c.parse_headers-parsed.ensures.partial c.parse_headers-parsed.ensures.invalid c.parse_headers-parsed.ensures.too_many (λ e. rw e at c.parse_headers-parsed.ensures.no_room) (Ok None) (cc)

pub returns-in-Err : goal.returns-in-Err
returns-in-Err c =
    trailer_none c.args.bytes.now c.args.count c.requires.grown c.requires.counted c.is_full-is_full.result c.is_full-is_full.ensures
    c.parse_headers-parsed.result c.parse_headers-parsed.ensures.partial c.parse_headers-parsed.ensures.invalid c.parse_headers-parsed.ensures.too_many (λ e. rw e at c.parse_headers-parsed.ensures.no_room) (Err c.in-Err.refusal) (cc)
