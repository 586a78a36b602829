-- What a told file excludes.
use Rattle.std.proofs.Common.{◌≡◌, ℕ, ◌<◌, ◌≤◌, ◌-◌, ◌+◌, Option, Some, None, length, ap, subst, arith}
use Rattle.std.specs.Prelude.{IfSome, IsSomeAnd}
use Rattle.ojp_values.specs.Texts.{Text}
use Rattle.ojp_outside.specs.Files.{IsContents}
use Rattle.ojp_outside.specs.declared.store.TheConstants.{FILE_LIMIT}
use Rattle.ojp_outside.specs.Causes.{Rose, Rests}
use Rattle.ojp_timetable.specs.Tables.{Timetable}
use Rattle.ojp_timetable.specs.TableText.{IsText, IsTextRefused, lines_of}
use Rattle.ojp_timetable.specs.declared.file.lines.TableReason.{TableReason}
use Rattle.ojp_outside.specs.Seen.{StoreView}
use Rattle.ojp_steps.specs.Lent.{Lent, before, after}
use Rattle.ojp_steps.specs.Files.{IsFileOf, FailsToOpen, IsTooLong, IsRefusedFile, IsReadable}

-- a count that rests did not rise
pub rests_or_rose : (before now : ℕ) → Rests before now → Rose before now → ⊥
rests_or_rose before now rests rose = omega arith

-- what is told holds
pub told_is : {A : Type 0} (P : A → Type 0) (told : Option A) (value : A) → told ≡ Some value → IfSome told P → P value
told_is P None value e h = absurd (cc)
told_is P (Some x) value e h = let same : x ≡ value = cc in subst P same h

contents_are : (contents : Option (Text → Option Text)) (files : Text → Option Text) (file bytes held : Text)
    → contents ≡ Some files → files file ≡ Some bytes → IsContents contents file held → held ≡ bytes
contents_are None files file bytes held told is h = absurd (cc)
contents_are (Some x) files file bytes held told is h = cc

above_limit : (contents : Option (Text → Option Text)) (files : Text → Option Text) (file bytes : Text)
    → contents ≡ Some files → files file ≡ Some bytes → IfSome contents (λ files. IsSomeAnd (files file) (λ bytes. FILE_LIMIT < length bytes)) → FILE_LIMIT < length bytes
above_limit None files file bytes told is h = absurd (cc)
above_limit (Some x) files file bytes told is h =
    let same : x ≡ files = cc in
    let here : x file ≡ Some bytes = cc in
    by_held (x file) here h
  where
    by_held : (held : Option Text) → held ≡ Some bytes → IsSomeAnd held (λ bytes. FILE_LIMIT < length bytes) → FILE_LIMIT < length bytes
    by_held None e h = absurd h
    by_held (Some y) e h = let same : y ≡ bytes = cc in subst (λ (b : Text). FILE_LIMIT < length b) same h

-- a text of a timetable is not refused
text_or_refused : (bytes : Text) (table : Timetable) (line : ℕ) (reason : TableReason) → IsText bytes table → IsTextRefused bytes line reason → ⊥
text_or_refused bytes table line reason is refused =
    let within : line - 1 < length (lines_of bytes) + 1 = omega (arith, refused.counted, refused.within) in
    let none = is.passed.passed (line - 1) within in
    let some = refused.here in
    cc

module _ {F : Type 0} (file : Text) (store : Lent F StoreView) (bytes : Text) (r : IsReadable file store bytes) where
  pub opens : FailsToOpen file store → ⊥
  opens fails = rests_or_rose (before store).faults (after store).faults r.rests fails.rose

  pub long_or_short : IsTooLong file store → length bytes ≤ FILE_LIMIT → ⊥
  long_or_short long short =
      let above : FILE_LIMIT < length bytes = above_limit (before store).contents r.files file bytes r.told r.held long.above in
      omega (arith, above, short)

  pub within_limit : (table : Timetable) → IsFileOf file store table → FILE_LIMIT < length bytes → ⊥
  within_limit table is long =
      let same : is.bytes ≡ bytes = contents_are (before store).contents r.files file bytes is.bytes r.told r.held is.held in
      let short : length is.bytes ≤ FILE_LIMIT = is.within in
      omega (arith, ap length same, short, long)

  pub refused_within : (line : ℕ) (reason : TableReason) → IsRefusedFile file store line reason → FILE_LIMIT < length bytes → ⊥
  refused_within line reason is long =
      let same : is.bytes ≡ bytes = contents_are (before store).contents r.files file bytes is.bytes r.told r.held is.held in
      let short : length is.bytes ≤ FILE_LIMIT = is.within in
      omega (arith, ap length same, short, long)

  pub accepted_or_refused : (table : Timetable) (line : ℕ) (reason : TableReason) → IsFileOf file store table → IsTextRefused bytes line reason → ⊥
  accepted_or_refused table line reason is refused =
      let same : is.bytes ≡ bytes = contents_are (before store).contents r.files file bytes is.bytes r.told r.held is.held in
      text_or_refused bytes table line reason (subst (λ (b : Text). IsText b table) same is.is_text) refused

  pub refused_or_accepted : (table : Timetable) (line : ℕ) (reason : TableReason) → IsRefusedFile file store line reason → IsText bytes table → ⊥
  refused_or_accepted table line reason is text =
      let same : is.bytes ≡ bytes = contents_are (before store).contents r.files file bytes is.bytes r.told r.held is.held in
      text_or_refused bytes table line reason text (subst (λ (b : Text). IsTextRefused b line reason) same is.refused)
