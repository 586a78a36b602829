-- Durations and events of one text.
use Rattle.std.proofs.Common.{◌≡◌, refl, ℕ, ◌<◌, ◌^◌, [], ◌∷◌, ◌++◌, decimal, ap, arith, get_or}
use Rattle.std.proofs.lemmas.Fmt.{decimal_injective}
use Rattle.std.proofs.lemmas.List.{append_cancel_right}
use Rattle.ojp_values.specs.Numbers.{duration_text}
use Rattle.ojp_values.specs.declared.kinds.EventKind.{EventKind as Events}
use Rattle.ojp_values.specs.declared.kinds.EventKind.TheVariants.{Departure, Arrival}
use Rattle.ojp_grammar.specs.Fields.{event_text}

pub same_duration : (m n : ℕ) → m < 2 ^ 64 → n < 2 ^ 64 → duration_text m ≡ duration_text n → m ≡ n
same_duration m n h k e =
    let digits : decimal m ++ 83 ∷ [] ≡ decimal n ++ 83 ∷ [] = cc in
    decimal_injective m n h k (append_cancel_right (decimal m) (decimal n) (83 ∷ []) digits)

pub same_event : (a b : Events) → event_text a ≡ event_text b → a ≡ b
same_event Departure Departure e = refl
same_event Departure Arrival e = absurd (omega (arith, ap (λ l. get_or l 0 0) e))
same_event Arrival Departure e = absurd (omega (arith, ap (λ l. get_or l 0 0) e))
same_event Arrival Arrival e = refl
