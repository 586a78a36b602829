-- The four lines, part by part.
use Rattle.std.proofs.Common.{◌≡◌, ℕ, ◌-◌, [], ◌++◌, ◌∙◌, append_assoc, append-nil}
use Rattle.std.specs.Prelude.{codes}
use Rattle.std.specs.Fmt.{decimal}
use Rattle.ojp_values.specs.Texts.{Text}
use Rattle.ojp_load.specs.Loads.{summary_text}

-- parts in a row
in_a_row : (a b d e f g h : Text) → a ++ (b ++ (d ++ (e ++ (f ++ (g ++ (h ++ [])))))) ≡ a ++ b ++ d ++ e ++ f ++ g ++ h
in_a_row a b d e f g h = simp (append_assoc, append-nil)

pub text_is : (a b d : Text) (trips seconds : ℕ) → a ≡ decimal trips → b ≡ decimal (200 - trips) → d ≡ decimal seconds
    → codes "requests 200\ntrips " ++ (a ++ (codes "\nno trips " ++ (b ++ (codes "\nseconds " ++ (d ++ (codes "\n" ++ [])))))) ≡ summary_text trips seconds
text_is a b d trips seconds e f g =
    let same : codes "requests 200\ntrips " ++ a ++ codes "\nno trips " ++ b ++ codes "\nseconds " ++ d ++ codes "\n" ≡ summary_text trips seconds = ap3 e f g in
    in_a_row (codes "requests 200\ntrips ") a (codes "\nno trips ") b (codes "\nseconds ") d (codes "\n") ∙ same
  where
    ap3 : a ≡ decimal trips → b ≡ decimal (200 - trips) → d ≡ decimal seconds
        → codes "requests 200\ntrips " ++ a ++ codes "\nno trips " ++ b ++ codes "\nseconds " ++ d ++ codes "\n" ≡ summary_text trips seconds
    ap3 p q r = λ i. codes "requests 200\ntrips " ++ p i ++ codes "\nno trips " ++ q i ++ codes "\nseconds " ++ r i ++ codes "\n"
