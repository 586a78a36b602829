-- A chunk line ends at its first line feed.
use Rattle.std.proofs.Common.{◌≡◌, ℕ, true, false, not, ◌&&◌, List, [], ◌∷◌, ◌++◌, refl, sym, ap, ◌∙◌, inl, inr}
use Rattle.std.specs.Prelude.{◌==◌}
use Rattle.std.proofs.lemmas.List.Folds.{list_all-append}
use Rattle.httparse.specs.Grammar.{ChunkLine, ReadsChunkLine, print_chunk_line, print_extension}
use Rattle.ojp_http.specs.ChunkLines.{EndsLine}
use Rattle.ojp_http.specs.Bodies.{has_no_feed}
use Rattle.ojp_http.proofs.Headed.{front_cases}
use Rattle.std.proofs.lemmas.Bool.{and_right}

-- a chunk line has a line feed
pub line_feeds : (l : ChunkLine) → has_no_feed (print_chunk_line l) ≡ false
unfolding print_chunk_line
line_feeds l =
    list_all-append (λ n. not (n == 10)) (l.digits ++ l.pad ++ print_extension l.extension) (13 ∷ 10 ∷ [])
    ∙ and_right (has_no_feed (l.digits ++ l.pad ++ print_extension l.extension)) false refl

-- nothing follows it
pub line_whole : (bytes : List ℕ) (l : ChunkLine) (rest : List ℕ) → EndsLine bytes → ReadsChunkLine bytes l rest → rest ≡ []
line_whole bytes l rest e x =
    elim (front_cases (print_chunk_line l) rest e.kept 10 (sym x.1 ∙ e.is)) [
      | inl n ↦ n
      | inr m ↦
          let plain : has_no_feed (print_chunk_line l ++ m.0) ≡ true = ap has_no_feed (sym m.1) ∙ e.plain in
          let fed : has_no_feed (print_chunk_line l ++ m.0) ≡ false =
          list_all-append (λ n. not (n == 10)) (print_chunk_line l) m.0 ∙ (λ i. line_feeds l i && has_no_feed m.0) in
          absurd (cc)
    ]
