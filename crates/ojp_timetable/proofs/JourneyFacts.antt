-- A line that begins with the word of a journey.
use Rattle.std.proofs.Common.{◌≡◌, ℕ, suc, ◌+◌, Bool, true, false, not, ◌||◌, cond, nat_lt, List, [], ◌∷◌, length, codes, refl, ap, ◌∙◌, arith}
use Rattle.std.specs.Prelude.{Result, Ok, Err, Some, None, IsErrAnd, is_some, position}
use Rattle.std.specs.List.{list_any, prefix_len}
use Rattle.std.proofs.lemmas.Bool.Decides.{nat_tests}
use Rattle.ojp_values.specs.Texts.{Text, same}
use Rattle.ojp_timetable.specs.Contents.{Contents, has_service, service_number}
use Rattle.ojp_timetable.specs.Said.{entry_fields, entry_said, formed, is_closed, journey_fields, numbered, word_of}
use Rattle.ojp_timetable.specs.Tables.{Service}
use Rattle.ojp_timetable.specs.declared.kept.FoundJourney.{FoundJourney}
use Rattle.ojp_timetable.specs.declared.file.lines.Open.{Open}
use Rattle.ojp_timetable.specs.declared.file.lines.TableReason.{TableReason}
use Rattle.ojp_timetable.specs.declared.file.lines.TableReason.TheVariants.{LineForm}

-- what such a line says is what its other fields say of a journey, where one may stand
journey_line_says : (region : Text) (left : Open) (fields : List Text) → entry_said region left (codes "journey" ∷ fields) ≡ formed (is_closed left) (journey_fields fields)
unfolding entry_fields word_of same
journey_line_says region left fields = refl

pub journey_closed : (region : Text) (left : Open) (fields : List Text) → is_closed left ≡ true → entry_said region left (codes "journey" ∷ fields) ≡ journey_fields fields
journey_closed region left fields e = journey_line_says region left fields ∙ ap (λ (b : Bool). formed b (journey_fields fields)) e

pub journey_open : (region : Text) (left : Open) (fields : List Text) → is_closed left ≡ false → entry_said region left (codes "journey" ∷ fields) ≡ Err LineForm
journey_open region left fields e = journey_line_says region left fields ∙ ap (λ (b : Bool). formed b (journey_fields fields)) e

-- a failed reading says its reason
pub failed_numbered : (read : Result FoundJourney TableReason) (reason : TableReason) → IsErrAnd read (λ e. e ≡ reason) → numbered read ≡ Err reason
failed_numbered (Err e) reason h = ap Err h
failed_numbered (Ok found) reason h = absurd h

-- ---- a service has a number just where it stands above

module _ {X : Type 0} (p : X → Bool) where
  less : (b : Bool) (m n : ℕ) (q : Bool) → nat_lt m n ≡ q → nat_lt (cond (not b) (1 + m) 0) (suc n) ≡ b || q
  less true m n q h = grind (arith, nat_tests)
  less false m n q h = grind (arith, nat_tests)

  any_before : (xs : List X) → nat_lt (prefix_len (λ (x : X). not (p x)) xs) (length xs) ≡ list_any p xs
  any_before [] = refl
  any_before (x ∷ xs) = less (p x) (prefix_len (λ (y : X). not (p y)) xs) (length xs) (list_any p xs) (any_before xs)

  some_where : (b : Bool) (n : ℕ) → is_some (cond b (Some n) None) ≡ b
  some_where true n = refl
  some_where false n = refl

  some_position : (xs : List X) → is_some (position p xs) ≡ list_any p xs
  some_position xs = some_where (nat_lt (prefix_len (λ (x : X). not (p x)) xs) (length xs)) (prefix_len (λ (x : X). not (p x)) xs) ∙ any_before xs

pub service_known : (contents : Contents) (id : Text) → is_some (service_number contents id) ≡ has_service contents id
unfolding has_service service_number
service_known contents id = some_position (λ (service : Service). same id service.id) contents.services
