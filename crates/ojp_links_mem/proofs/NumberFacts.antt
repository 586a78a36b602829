-- The number of a timetable by its code.
use Rattle.std.proofs.Common.{◌≡◌, ◌≢◌, ℕ, zero, suc, ◌+◌, ◌<◌, ◌≤◌, false, List, [], ◌∷◌, length, Some, slice_get, sym, ◌∙◌, ap, subst, inl, inr, arith, true≢false}
use Rattle.std.proofs.lemmas.Bool.{cases_eq}
use Rattle.std.proofs.lemmas.Option.{same_Some, slice_get_within}
use Rattle.ojp_values.specs.Lists.{Among}
use Rattle.ojp_values.specs.Texts.{Text, same}
use Rattle.ojp_timetable.specs.Tables.{Timetable}
use Rattle.ojp_timetable.proofs.TextFacts.{is_same}

-- none below the number has the code
abbrev pub NoneBelow : List Timetable → Text → ℕ → Type 0
NoneBelow tables code number = (k : ℕ) (table : Timetable) → k < number → slice_get tables k ≡ Some table → same table.region code ≡ false

pub none_more : (tables : List Timetable) (code : Text) (number : ℕ) (table : Timetable) → NoneBelow tables code number → slice_get tables number ≡ Some table → same table.region code ≡ false → NoneBelow tables code (number + 1)
none_more tables code number table none at differs k other below e = elim (cases_eq k number) [
  | inl is ↦
      let here : slice_get tables number ≡ Some other = subst (λ (n : ℕ). slice_get tables n ≡ Some other) is e in
      subst (λ (t : Timetable). same t.region code ≡ false) (same_Some table other (sym at ∙ here)) differs
  | inr ne ↦ none k other (omega (arith, below, ne)) e
]

place_of : (tables : List Timetable) (table : Timetable) → Among table tables → (k : ℕ) × (slice_get tables k ≡ Some table)
place_of [] table a = absurd a
place_of (t ∷ tables) table a = elim a [ inl e ↦ (zero, ap Some (sym e)) | inr b ↦ let it = place_of tables table b in (suc it.0, it.1) ]

pub none_among : (tables : List Timetable) (code : Text) (number : ℕ) → length tables ≤ number → NoneBelow tables code number → (table : Timetable) → Among table tables → table.region ≢ code
none_among tables code number all none table among e =
    let it = place_of tables table among in
    let below : it.0 < number = omega (arith, slice_get_within tables it.0 table it.1, all) in
    absurd (true≢false (sym (is_same table.region code e) ∙ none it.0 table below it.1))
