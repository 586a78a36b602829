-- What refusals of rows and of files say.
use Rattle.std.proofs.Common.{◌≡◌, ◌≢◌, ◌<◌, ◌⊎◌, Bor, ℕ, zero, suc, Option, Some, None, Result, Ok, Err, List, ◌∷◌, length, true, arith, refl, subst, sym, ap, inl, inr}
use Rattle.std.specs.Prelude.{IfSome, IsSomeAnd, IsTrue, nat_lt, option_map}
use Rattle.std.specs.Result.{IfErr, IsErrAnd}
use Rattle.std.proofs.lemmas.Bool.{false≢true}
use Rattle.csv.specs.Reading.{strip_bom}
use Rattle.ojp_values.specs.Texts.{Text}
use Rattle.ojp_feed_lines.specs.Causes.{IsCause, IsFor, IsOfText, needs}
use Rattle.ojp_feed_lines.specs.Columns.{column_name}
use Rattle.ojp_feed_lines.specs.Folders.{Files, IsOpened, IsTooLong, Lacks}
use Rattle.ojp_feed_lines.specs.Refusals.{Explains, ExplainsAll, ExplainsAt, IsMissed, IsNeeded, IsRowRefusal, IsTableRefusal, is_of_row, is_unread}
use Rattle.ojp_feed_lines.specs.OperatorCauses.{IsOperatorRefusal}
use Rattle.ojp_feed_lines.specs.Places.{AreStopIdsOf, HoldsZone}
use Rattle.ojp_feed_lines.specs.Rows.{IsPlace, OfFile, Record}
use Rattle.ojp_feed_lines.specs.Tables.{HasEnded, HasTaken}
use Rattle.ojp_feed_lines.specs.declared.columns.Column.{Column}
use Rattle.ojp_feed_lines.specs.declared.columns.Column.TheVariants as columns
use Rattle.ojp_feed_lines.proofs.StandFacts.{of_file}
use Rattle.ojp_feed_lines.specs.declared.folder.TheConstants.{MOST_BYTES}
use Rattle.ojp_feed_lines.specs.declared.files.FeedFile.{FeedFile}
use Rattle.ojp_feed_lines.specs.declared.files.FeedFile.TheVariants as files
use Rattle.ojp_feed_lines.specs.declared.refusals.FeedRefused.{FeedRefused}
use Rattle.ojp_feed_lines.specs.declared.refusals.FeedRefused.TheVariants as refusals
use Rattle.ojp_feed_lines.specs.declared.refusals.RowReason.{RowReason}
use Rattle.ojp_feed_lines.specs.declared.refusals.RowReason.TheVariants as reasons

-- the refusal of a row is one of its table
pub row_is_table : (file : FeedFile) (e : FeedRefused) → IsRowRefusal file e → IsTableRefusal file e
row_is_table file (refusals.Unread other) h = absurd h
row_is_table file (refusals.At other line reason) h = h
row_is_table file refusals.NoMemory h = tt

-- and tells no read that failed
pub row_is_read : (file : FeedFile) (e : FeedRefused) → IsRowRefusal file e → IsTrue (is_unread e) → ⊥
row_is_read file (refusals.Unread other) h is = h
row_is_read file (refusals.At other line reason) h is = false≢true is
row_is_read file refusals.NoMemory h is = false≢true is

-- what holds of the bytes that an opened file has left holds of its told bytes
of_opened : (contents : Option Files) (file : FeedFile) (remaining : Option Text) (P : Text → Type 0)
    → IsOpened contents file remaining → IfSome remaining P → OfFile contents file P
of_opened None file remaining P opened h = tt
of_opened (Some told) file remaining P opened h = by (told file) opened
  where
    by : (named : Option Text) → IsSomeAnd named (λ bytes. remaining ≡ Some bytes) → IsSomeAnd named P
    by None o = o
    by (Some bytes) o = rw o at h

-- the text of the opened file is the cause
by_text : (contents : Option Files) (file : FeedFile) (remaining : Option Text) (reason : RowReason) → file ≢ files.Operator → IsTrue (is_of_row reason)
    → IsOpened contents file remaining → IfSome remaining (λ bytes. IsCause file reason (strip_bom bytes)) → ExplainsAt contents file reason
by_text contents file remaining reasons.MissingFile other is opened h = absurd (false≢true is)
by_text contents file remaining (reasons.MissingColumn column) other is opened h = (other, of_opened contents file remaining _ opened h)
by_text contents file remaining reasons.Width other is opened h = (other, of_opened contents file remaining _ opened h)
by_text contents file remaining reasons.NotText other is opened h = (other, of_opened contents file remaining _ opened h)
by_text contents file remaining (reasons.Value column) other is opened h = (other, of_opened contents file remaining _ opened h)
by_text contents file remaining reasons.TwoZones other is opened h = (other, of_opened contents file remaining _ opened h)
by_text contents file remaining (reasons.Doubled column) other is opened h = (other, of_opened contents file remaining _ opened h)
by_text contents file remaining (reasons.Unknown column) other is opened h = (other, of_opened contents file remaining _ opened h)
by_text contents file remaining reasons.LineForm other is opened h = (other, of_opened contents file remaining _ opened h)
by_text contents file remaining reasons.Limit other is opened h = (
  other,
  of_file contents file (λ bytes. IsCause file reasons.Limit (strip_bom bytes))
      (λ bytes. MOST_BYTES < length bytes ⊎ IsCause file reasons.Limit (strip_bom bytes)) (λ bytes many. inr many)
      (of_opened contents file remaining (λ bytes. IsCause file reasons.Limit (strip_bom bytes)) opened h),
)

-- what each text that may be told says
told_text : (remaining : Option Text) (P Q : Text → Type 0) → ((text : Text) → P text → Q text)
    → IfSome remaining (λ bytes. P (strip_bom bytes)) → IfSome remaining (λ bytes. Q (strip_bom bytes))
told_text None P Q f h = h
told_text (Some bytes) P Q f h = f (strip_bom bytes) h

-- a refusal of an opened file
pub opened_explained : (contents : Option Files) (file : FeedFile) (remaining : Option Text) (P : Text → Type 0) (e : FeedRefused)
    → file ≢ files.Operator → IsOpened contents file remaining → IfSome remaining (λ bytes. P (strip_bom bytes)) → ((text : Text) → P text → IsOfText file text e)
    → IsTableRefusal file e → Explains contents e
opened_explained contents file remaining P (refusals.Unread other) apart opened read why h = tt
opened_explained contents file remaining P (refusals.At other line reason) apart opened read why h =
    subst (λ (f : FeedFile). ExplainsAt contents f reason) (sym h.0)
    (by_text contents file remaining reason apart h.1 opened (told_text remaining P (IsCause file reason) why read))
opened_explained contents file remaining P refusals.NoMemory apart opened read why h = tt

-- a file that is too long
pub long_explained : (contents : Option Files) (file : FeedFile) (e : FeedRefused)
    → file ≢ files.Operator → IsTooLong contents file → IsTableRefusal file e → IsFor reasons.Limit e → Explains contents e
long_explained contents file (refusals.Unread other) apart long h is = tt
long_explained contents file (refusals.At other line reason) apart long h is =
    subst (λ (f : FeedFile). ExplainsAt contents f reason) (sym h.0)
    (subst (λ (r : RowReason). ExplainsAt contents file r) (sym is) (
      apart,
      of_file contents file (λ bytes. MOST_BYTES < length bytes) (λ bytes. MOST_BYTES < length bytes ⊎ IsCause file reasons.Limit (strip_bom bytes))
          (λ bytes more. inl more) long,
    ))
long_explained contents file refusals.NoMemory apart long h is = tt

-- a file whose head line must have a column is not the operator's
pub needs_apart : (file : FeedFile) (column : Column) → IsTrue (needs file column) → file ≢ files.Operator
needs_apart file column h is = false≢true (subst (λ (f : FeedFile). IsTrue (needs f column)) is h)

-- a refusal of the operator's file, with the ids of the told stops
pub operator_explained : (contents : Option Files) (code : Text) (operator : Option (Bor Text)) (ids : List Text) (e : FeedRefused)
    → OfFile contents files.Stops (λ stops. AreStopIdsOf stops ids) → IsSomeAnd operator (λ lines. IsOperatorRefusal code ids lines.now e)
    → ExplainsAll contents code (option_map (λ lines. lines.now) operator) e
operator_explained contents code None ids e of h = absurd h
operator_explained contents code (Some lines) ids (refusals.Unread file) of h = absurd h
operator_explained contents code (Some lines) ids (refusals.At file line reason) of h = inr (
  h.0,
  record {
    ids = ids;
    of_stops = of;
    cause = h.1;
  },
)
operator_explained contents code (Some lines) ids refusals.NoMemory of h = inl tt

-- and tells no read that failed
pub operator_is_read : (code : Text) (operator : Option (Bor Text)) (ids : List Text) (e : FeedRefused)
    → IsSomeAnd operator (λ lines. IsOperatorRefusal code ids lines.now e) → IsTrue (is_unread e) → ⊥
operator_is_read code None ids e h is = h
operator_is_read code (Some lines) ids (refusals.Unread file) h is = h
operator_is_read code (Some lines) ids (refusals.At file line reason) h is = false≢true is
operator_is_read code (Some lines) ids refusals.NoMemory h is = false≢true is

-- a file that must be there by itself is missed where it is not there
pub is_missed : (contents : Option Files) (file : FeedFile) → IsNeeded file → Lacks contents file → IsMissed contents file
is_missed contents files.Agency n h = h
is_missed contents files.Stops n h = h
is_missed contents files.Routes n h = h
is_missed contents files.Calendar n h = absurd n
is_missed contents files.CalendarDates n h = absurd n
is_missed contents files.Trips n h = h
is_missed contents files.Frequencies n h = absurd n
is_missed contents files.Transfers n h = absurd n
is_missed contents files.StopTimes n h = h
is_missed contents files.Operator n h = absurd n

-- a count that is told as some is some
pub some_fault : (count : ℕ) → nat_lt 0 count ≡ true → 0 < count
some_fault zero h = absurd (false≢true h)
some_fault (suc count) h = omega arith

-- an error that `?` passes on
pub passed_on : {T : Type 0} (result : Result T FeedRefused) (refused : FeedRefused) (P : FeedRefused → Type 0)
    → IsErrAnd result (λ passed. passed ≡ refused) → P refused → IfErr result P
passed_on (Ok value) refused P is h = tt
passed_on (Err passed) refused P is h = subst P (sym is) h

-- one that tells no read that failed
pub passed_read : {T : Type 0} (result : Result T FeedRefused) (refused : FeedRefused) (A : Type 0)
    → IsErrAnd result (λ passed. passed ≡ refused) → (IsTrue (is_unread refused) → ⊥) → IfErr result (λ passed. IsTrue (is_unread passed) → A)
passed_read (Ok value) refused A is h = tt
passed_read (Err passed) refused A is h = λ unread. absurd (h (subst (λ (e : FeedRefused). IsTrue (is_unread e)) is unread))

-- what it passes on is that error
pub passed_is : {T : Type 0} (result : Result T FeedRefused) (refused : FeedRefused) → IsErrAnd result (λ passed. passed ≡ refused) → result ≡ Err refused
passed_is (Ok value) refused is = absurd is
passed_is (Err passed) refused is = ap Err is

-- a file of agencies with no row
no_rows : (bytes : Text) → HasTaken (λ column head. IsPlace head (column_name columns.AgencyTimezone) (Some column)) (λ column rows. HoldsZone None column rows) bytes
    → IsCause files.Agency (reasons.Value columns.AgencyTimezone) (strip_bom bytes)
unfolding IsCause
no_rows bytes h = inr (refl, refl, (h.head, subst (λ (rows : List Record). HasEnded (strip_bom bytes) (h.head ∷ rows)) h.held h.all))

pub no_zone : (contents : Option Files) (e : FeedRefused) → e ≡ refusals.At files.Agency 2 (reasons.Value columns.AgencyTimezone)
    → OfFile contents files.Agency (HasTaken (λ column head. IsPlace head (column_name columns.AgencyTimezone) (Some column)) (λ column rows. HoldsZone None column rows))
    → Explains contents e
no_zone contents e is told =
    subst (λ (refused : FeedRefused). Explains contents refused) (sym is) (
      λ same. cc (same),
      of_file contents files.Agency
          (HasTaken (λ column head. IsPlace head (column_name columns.AgencyTimezone) (Some column)) (λ column rows. HoldsZone None column rows))
          (λ bytes. IsCause files.Agency (reasons.Value columns.AgencyTimezone) (strip_bom bytes)) no_rows told,
    )

-- what holds of a refusal where another fact does
pub on_err : {T : Type 0} (result : Result T FeedRefused) (P Q : FeedRefused → Type 0) → IfErr result P → ((e : FeedRefused) → P e → Q e) → IfErr result Q
on_err (Ok value) P Q h f = h
on_err (Err refused) P Q h f = f refused h
