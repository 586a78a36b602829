-- How a run ends, by its status.
use Rattle.std.proofs.Common.{◌≡◌, ℕ, Bool, List, Option, inl, inr, sym, subst, arith}
use Rattle.ojp_values.specs.Texts.{Text}
use Rattle.ojp_outside.specs.Seen.{SinkView, StoreView}
use Rattle.ojp_feed_lines.specs.Folders.{Files, FolderView}
use Rattle.ojp_steps.specs.Lent.{Lent, before}
use Rattle.ojp_gtfs_cli.specs.Causes.{FailsAs, IsUnread}
use Rattle.ojp_gtfs_cli.specs.Failures.{status_of}
use Rattle.ojp_gtfs_cli.specs.Feeds.{Stored}
use Rattle.ojp_gtfs_cli.specs.Refused.{IsRefusedFor}
use Rattle.ojp_gtfs_cli.specs.Runs.{IsConverted, IsDone, Puts, PutsAs, WritesAs}
use Rattle.ojp_gtfs_cli.specs.Words.{AskFor, Wanted}
use Rattle.ojp_gtfs_cli.specs.declared.failures.Failure.{Failure}
use Rattle.ojp_gtfs_cli.specs.declared.failures.Failure.TheVariants.{Words, Unread, Refused, Memory}

-- ---- once there is a timetable

-- the text was written, or a write failed
pub puts_as : {O : Type 0} (strict : Bool) (output : Lent O SinkView) (text : Text) (done status : ℕ) → IsDone strict done → Puts output text done status → PutsAs strict output text status
puts_as strict output text done status is (inl put) = inl (subst (IsDone strict) (sym put.0) is, put.1)
puts_as strict output text done status is (inr part) = inr (inl part)

-- what holds of the four statuses that come then holds of the status
by_put : {O : Type 0} (strict : Bool) (output : Lent O SinkView) (text : Text) (status : ℕ) (P : ℕ → Type 0) → P 0 → P 10 → P 4 → P 5
    → PutsAs strict output text status → P status
by_put strict output text status P none look part memory (inl (inl done, gained)) = subst P (sym done) none
by_put strict output text status P none look part memory (inl (inr done, gained)) = subst P (sym done.0) look
by_put strict output text status P none look part memory (inr (inl failed)) = subst P (sym failed.0) part
by_put strict output text status P none look part memory (inr (inr wanted)) = subst P (sym wanted.0) memory

pub not_by_words : {O : Type 0} (strict : Bool) (output : Lent O SinkView) (text : Text) (status : ℕ) → PutsAs strict output text status → status ≡ 2 → ⊥
not_by_words strict output text status put =
    by_put strict output text status (λ (n : ℕ). n ≡ 2 → ⊥) (λ is. omega (arith, is)) (λ is. omega (arith, is)) (λ is. omega (arith, is)) (λ is. omega (arith, is)) put

pub not_by_reading : {O : Type 0} (strict : Bool) (output : Lent O SinkView) (text : Text) (status : ℕ) → PutsAs strict output text status → status ≡ 3 → ⊥
not_by_reading strict output text status put =
    by_put strict output text status (λ (n : ℕ). n ≡ 3 → ⊥) (λ is. omega (arith, is)) (λ is. omega (arith, is)) (λ is. omega (arith, is)) (λ is. omega (arith, is)) put

pub not_by_refusal : {O : Type 0} (strict : Bool) (output : Lent O SinkView) (text : Text) (status : ℕ) → PutsAs strict output text status → status ≡ 6 → ⊥
not_by_refusal strict output text status put =
    by_put strict output text status (λ (n : ℕ). n ≡ 6 → ⊥) (λ is. omega (arith, is)) (λ is. omega (arith, is)) (λ is. omega (arith, is)) (λ is. omega (arith, is)) put

-- the timetable that the words ask for was written, as far as a text was
pub writes_as : {O : Type 0} (words : List Text) (zoneinfo : Text) (contents : Option Files) (stored : Stored) (wanted : Wanted) → AskFor words wanted
    → (text : Text) → IsConverted wanted zoneinfo contents stored text → (output : Lent O SinkView) (status : ℕ)
    → PutsAs wanted.chosen.strict output text status → WritesAs words zoneinfo contents stored output status
writes_as words zoneinfo contents stored wanted asked text is output status (inl put) =
    inl (record { wanted = wanted; asked = asked; text = text; converted = is; done = put.0; gained = put.1 })
writes_as words zoneinfo contents stored wanted asked text is output status (inr (inl part)) =
    inr (inl (part.0, record { wanted = wanted; asked = asked; text = text; converted = is; gained = part.1 }))
writes_as words zoneinfo contents stored wanted asked text is output status (inr (inr none)) = inr (inr (inr (inr (inl none.0)), none.1))

-- ---- before

module _ {D S E : Type 0} (wanted : Wanted) (zoneinfo : Text) (folder : Lent D FolderView) (store : Lent S StoreView) (report : Lent E SinkView) where
  pub by_words : (failure : Failure) → FailsAs wanted zoneinfo folder store report failure → status_of failure ≡ 2 → ⊥
  by_words Words fails is = absurd fails
  by_words Unread fails is = absurd (omega (arith, is))
  by_words Refused fails is = absurd (omega (arith, is))
  by_words Memory fails is = absurd (omega (arith, is))

  pub by_reading : (failure : Failure) → FailsAs wanted zoneinfo folder store report failure → status_of failure ≡ 3 → IsUnread zoneinfo folder store
  by_reading Words fails is = absurd fails
  by_reading Unread fails is = fails
  by_reading Refused fails is = absurd (omega (arith, is))
  by_reading Memory fails is = absurd (omega (arith, is))

  pub by_refusal : (failure : Failure) → FailsAs wanted zoneinfo folder store report failure → status_of failure ≡ 6
      → IsRefusedFor wanted zoneinfo (before folder).contents (before store).contents report
  by_refusal Words fails is = absurd fails
  by_refusal Unread fails is = absurd (omega (arith, is))
  by_refusal Refused fails is = fails
  by_refusal Memory fails is = absurd (omega (arith, is))
