-- Links with one region, and an ask that stays live over rests.
use Rattle.std.proofs.Common.{◌≡◌, ℕ, zero, suc, List, [], ◌∷◌, length, Option, Some, None, is_some, option_map, refl, sym, ◌∙◌, ap, arith}
use Rattle.std.proofs.lemmas.Option.{none-some}
use Rattle.ojp_values.specs.Texts.{Text}
use Rattle.ojp_links.specs.Seen.{AreDistinct, IsLive, Live, Station, View}
use Rattle.ojp_links.specs.Calls.{IsNewCode, SameButRests, without_rests}

pub one_distinct : (code : Text) → AreDistinct (code ∷ [])
one_distinct code zero zero x a b = refl
one_distinct code zero (suc j) x a b = absurd (none-some x b)
one_distinct code (suc i) j x a b = absurd (none-some x a)

is_some_map : (o : Option Live) → is_some (option_map without_rests o) ≡ is_some o
is_some_map None = refl
is_some_map (Some ask) = refl

pub still_live : (old new : View) (key : ℕ) → SameButRests old new → IsLive old key → IsLive new key
still_live old new key same live =
    sym (is_some_map (new.live key)) ∙ (ap (λ (o : Option Live). is_some o) (same key) ∙ (is_some_map (old.live key) ∙ live))

pub none_has : (v : View) (name : Text) → v.fixed.stations ≡ [] → IsNewCode v name
none_has v name none region below = absurd (omega (arith, below, ap (λ (s : List Station). length s) none))
