-- The timetables of a network, by the numbers of their regions.
use Rattle.std.proofs.Common.{◌≡◌, inl, inr, ℕ, zero, suc, ◌+◌, ◌*◌, ◌<◌, ◌≤◌, List, [], ◌∷◌, length, map, refl, sym, ◌∙◌, ap, subst, arith}
use Rattle.std.proofs.Math.Nat.{eq-or-lt_of_le}
use Rattle.std.specs.List.{range_with_len}
use Rattle.ojp_values.specs.Lists.{Among, IsRising, Pairwise}
use Rattle.ojp_values.specs.Texts.{Text, text_lt}
use Rattle.ojp_links.specs.Seen.{region_of_table}
use Rattle.ojp_timetable.specs.Tables.{Timetable}
use Rattle.ojp_timetable.specs.TableText.{IsTextRefused, IsText}
use Rattle.ojp_timetable.specs.declared.file.lines.TableReason.{TableReason}
use Rattle.ojp_network.specs.Draws.{below, state_after}
use Rattle.ojp_network.specs.Networks.{file_of}
use Rattle.ojp_network.specs.Regions.{region_code}
use Rattle.ojp_network_laws.specs.Laws.{AreTables, CodesRise, FilesAreAccepted, drawn_table}
use Rattle.ojp_network_laws.proofs.Files.{files_are_texts}
use Rattle.ojp_network_laws.proofs.Own.{each_below}

-- the timetables have these numbers, one after another
abbrev pub AreNumbered : (ℕ → Timetable → Type 0) → ℕ → List Timetable → Type 0
AreNumbered P a [] = Unit {0}
AreNumbered P a (table ∷ tables) = P a table × AreNumbered P (a + 1) tables

-- the timetable is that of the region of the number, counted from 0
abbrev pub IsDrawn : ℕ → ℕ → Timetable → Type 0
IsDrawn number k table = table ≡ drawn_table (state_after number (1954 * k)) (k + 1) table.noons

numbered_from : (number a n : ℕ) (tables : List Timetable) → a + n ≤ 12 → Pairwise IsText (map (file_of number) (range_with_len a n)) tables
    → AreNumbered (IsDrawn number) a tables × (length tables ≡ n)
numbered_from number a zero [] few h = (tt, refl)
numbered_from number a zero (table ∷ tables) few h = absurd h
numbered_from number a (suc n) [] few h = absurd h
numbered_from number a (suc n) (table ∷ tables) few h =
    let later = numbered_from number (a + 1) n tables (omega (arith, few)) h.1 in
    ((((files_are_texts (state_after number (1954 * a)) (a + 1) (omega arith) (omega (arith, few))).table table h.0), later.0), omega (arith, later.1))

pub numbered : (number : ℕ) (tables : List Timetable) → AreTables number tables → AreNumbered (IsDrawn number) 0 tables × (length tables ≡ 12)
unfolding below
numbered number tables h = numbered_from number 0 12 tables (omega arith) h

-- one of the timetables has its number
pub has_number : (P : ℕ → Timetable → Type 0) (a : ℕ) (tables : List Timetable) → AreNumbered P a tables → (table : Timetable) → Among table tables
    → (k : ℕ) × (a ≤ k) × (k < a + length tables) × P k table
has_number P a [] h table among = absurd among
has_number P a (t ∷ tables) h table (inl e) = (a, omega arith, omega arith, subst (P a) (sym e) h.0)
has_number P a (t ∷ tables) h table (inr later) =
    let found = has_number P (a + 1) tables h.1 table later in
    (found.0, omega (arith, found.1), omega (arith, found.2), found.3)

-- a number is that of one of the timetables
pub at_number : (P : ℕ → Timetable → Type 0) (a : ℕ) (tables : List Timetable) → AreNumbered P a tables → (k : ℕ) → a ≤ k → k < a + length tables
    → (table : Timetable) × Among table tables × P k table
at_number P a [] h k low high = absurd (omega (arith, low, high))
at_number P a (t ∷ tables) h k low high = elim (eq-or-lt_of_le low) [
  | inl e ↦ (t, inl refl, subst (λ (n : ℕ). P n t) e h.0)
  | inr l ↦ let found = at_number P (a + 1) tables h.1 k (omega (arith, l)) (omega (arith, high)) in (found.0, inr found.1, found.2)
]

-- ---- the codes

codes_are : (number a n : ℕ) (tables : List Timetable) → AreNumbered (IsDrawn number) a tables → length tables ≡ n → map region_of_table tables ≡ map (λ (k : ℕ). region_code (k + 1)) (range_with_len a n)
codes_are number a zero [] h e = refl
codes_are number a (suc n) [] h e = absurd (omega (arith, e))
codes_are number a zero (t ∷ tables) h e = absurd (omega (arith, e))
codes_are number a (suc n) (t ∷ tables) h e =
    let first : t.region ≡ region_code (a + 1) = ap (λ (table : Timetable). table.region) h.0 in
    let rest = codes_are number (a + 1) n tables h.1 (omega (arith, e)) in
    ap (λ (code : Text). code ∷ map region_of_table tables) first ∙ ap (λ (codes : List Text). region_code (a + 1) ∷ codes) rest

twelve_rise : IsRising text_lt (map (λ (k : ℕ). region_code (k + 1)) (range_with_len 0 12))
unfolding text_lt
twelve_rise = ((refl, (refl, (refl, (refl, (refl, (refl, (refl, (refl, (refl, (refl, (refl, tt))))))))))), ((refl, (refl, (refl, (refl, (refl, (refl, (refl, (refl, (refl, (refl, tt)))))))))), ((refl, (refl, (refl, (refl, (refl, (refl, (refl, (refl, (refl, tt))))))))), ((refl, (refl, (refl, (refl, (refl, (refl, (refl, (refl, tt)))))))), ((refl, (refl, (refl, (refl, (refl, (refl, (refl, tt))))))), ((refl, (refl, (refl, (refl, (refl, (refl, tt)))))), ((refl, (refl, (refl, (refl, (refl, tt))))), ((refl, (refl, (refl, (refl, tt)))), ((refl, (refl, (refl, tt))), ((refl, (refl, tt)), ((refl, tt), (tt, tt))))))))))))

pub codes_rise : CodesRise
codes_rise number tables h =
    let n = numbered number tables h in
    subst (IsRising text_lt) (sym (codes_are number 0 12 tables n.0 n.1)) twelve_rise

pub files_are_accepted : FilesAreAccepted
files_are_accepted number =
    each_below (λ (bytes : Text). (line : ℕ) (reason : TableReason) → IsTextRefused bytes line reason → ⊥) (file_of number) 12
    (λ k small. (files_are_texts (state_after number (1954 * k)) (k + 1) (omega arith) (omega (arith, small))).accepted)
