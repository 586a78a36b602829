-- Lines of standard error, part by part and one after another.
use Rattle.std.proofs.Common.{◌≡◌, ◌≤◌, ℕ, [], ◌∷◌, ◌++◌, ◌∙◌, append_assoc, arith, sym}
use Rattle.std.specs.Fmt.{decimal}
use Rattle.std.specs.Prelude.{codes}
use Rattle.std.proofs.KnownBytes.{Appends-nil, Appends-trans}
use Rattle.ojp_values.specs.Texts.{Text}
use Rattle.ojp_outside.specs.Causes.{Rests}
use Rattle.ojp_outside.specs.Seen.{SinkView}
use Rattle.ojp_steps.specs.Failures.{line_of}
use Rattle.ojp_steps.specs.Lent.{lent, Tells}
use Rattle.ojp_gtfs_cli.specs.Lines.{doubled_line, place_text, refused_line}

-- nothing was told
pub told_nothing : {E : Type 0} (seen : E → SinkView) (old : E) → Tells (lent seen old old) []
told_nothing seen old rests = Appends-nil (seen old).written

-- two texts were told, one after the other
pub told_both : {E : Type 0} (seen : E → SinkView) (old mid new : E) (first second : Text) → (seen old).faults ≤ (seen mid).faults → (seen mid).faults ≤ (seen new).faults
    → Tells (lent seen old mid) first → Tells (lent seen mid new) second → Tells (lent seen old new) (first ++ second)
told_both seen old mid new first second later on tells then rests =
    let before : Rests (seen old).faults (seen mid).faults = record { same = omega (arith, rests.same, later, on); below_end = omega (arith, rests.same, rests.below_end, later, on) } in
    let behind : Rests (seen mid).faults (seen new).faults = record { same = omega (arith, rests.same, later, on); below_end = rests.below_end } in
    Appends-trans (seen old).written (seen mid).written (seen new).written first second (tells before) (then behind)

-- ---- parts that were joined from the left

four_parts : (a b c d : Text) → ((a ++ b) ++ c) ++ d ≡ a ++ (b ++ (c ++ d))
four_parts a b c d = append_assoc (a ++ b) c d ∙ append_assoc a b (c ++ d)

six_parts : (a b c d e f : Text) → ((((a ++ b) ++ c) ++ d) ++ e) ++ f ≡ a ++ (b ++ (c ++ (d ++ (e ++ f))))
six_parts a b c d e f = append_assoc (((a ++ b) ++ c) ++ d) e f ∙ (append_assoc ((a ++ b) ++ c) d (e ++ f) ∙ four_parts a b c (d ++ (e ++ f)))

-- `FILE: line N: `
pub is_place : (file number : Text) (line : ℕ) (f : Text) → f ≡ file → number ≡ decimal line → f ++ (codes ": line " ++ (number ++ codes ": ")) ≡ place_text file line
is_place file number line f is is_number =
    (λ i. is i ++ (codes ": line " ++ (is_number i ++ codes ": "))) ∙ sym (four_parts file (codes ": line ") (decimal line) (codes ": "))

-- a place, and behind it words and a column
pub is_refused : (file words column : Text) (line : ℕ) (w c : Text) → w ≡ words → c ≡ column → place_text file line ++ (w ++ (c ++ 10 ∷ [])) ≡ refused_line file line (words ++ column)
is_refused file words column line w c is_words is_column =
    (λ i. place_text file line ++ (is_words i ++ (is_column i ++ 10 ∷ [])))
    ∙ sym (append_assoc (place_text file line) (words ++ column) (10 ∷ []) ∙ (λ i. place_text file line ++ append_assoc words column (10 ∷ []) i))

-- two of one label
pub is_doubled : (file one other f o p : Text) → f ≡ file → o ≡ one → p ≡ other
    → f ++ (codes ": one label for " ++ (o ++ (codes " and " ++ (p ++ 10 ∷ [])))) ≡ doubled_line file one other
is_doubled file one other f o p is_file is_one is_other =
    (λ i. is_file i ++ (codes ": one label for " ++ (is_one i ++ (codes " and " ++ (is_other i ++ 10 ∷ [])))))
    ∙ sym (six_parts file (codes ": one label for ") one (codes " and ") other (10 ∷ []))

-- no rule for a zone, from a day to a day
pub is_no_rule : (zone first last z f l : Text) → z ≡ zone → f ≡ first → l ≡ last
    → codes "agency.txt: no rule for " ++ (z ++ (codes " from " ++ (f ++ (codes " to " ++ (l ++ codes ": shorten the window or give --zone\n")))))
    ≡ line_of (codes "agency.txt: no rule for " ++ zone ++ codes " from " ++ first ++ codes " to " ++ last ++ codes ": shorten the window or give --zone")
is_no_rule zone first last z f l is_zone is_first is_last =
    let head = codes "agency.txt: no rule for " in
    let tail = codes ": shorten the window or give --zone" in
    (λ i. head ++ (is_zone i ++ (codes " from " ++ (is_first i ++ (codes " to " ++ (is_last i ++ codes ": shorten the window or give --zone\n"))))))
    ∙ sym (append_assoc (((((head ++ zone) ++ codes " from ") ++ first) ++ codes " to ") ++ last) tail (10 ∷ [])
    ∙ (append_assoc ((((head ++ zone) ++ codes " from ") ++ first) ++ codes " to ") last (tail ++ 10 ∷ [])
    ∙ six_parts head zone (codes " from ") first (codes " to ") (last ++ (tail ++ 10 ∷ []))))
