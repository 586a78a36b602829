-- Points are compared by stop and region at once.
use Rattle.std.proofs.Common.{◌≡◌, ◌||◌, ◌&&◌, Ordering, Bool, true, false, refl, sym, ◌∙◌, ap, true≢false}
use Rattle.std.specs.declared.cmp.Ordering.TheVariants.{Less, Equal, Greater}
use Rattle.std.specs.Ordering.{is_lt, is_eq, nat_cmp}
use Rattle.std.specs.Cmp.Lexicographic.{slice_cmp}
use Rattle.std.proofs.lemmas.Map.Text.{is_eq-slice_cmp}
use Rattle.ojp_values.specs.Texts.{same, text_lt}
use Rattle.ojp_values.specs.declared.trips.Point.{Point}
use Rattle.ojp_exchange.specs.Kept.{entry_lt}

by_second : (a b c : Bool) → a ≡ false → b ≡ true → c ≡ a || (b && c)
by_second true b c h k = absurd (true≢false h)
by_second false true c h k = refl
by_second false false c h k = absurd (true≢false (sym k))

by_first : (order : Ordering) (b c : Bool) → is_eq order ≡ b → (order ≡ Equal → ⊥) → is_lt order ≡ is_lt order || (b && c)
by_first Less b c h other = refl
by_first Equal b c h other = absurd (other refl)
by_first Greater b c h other = ap (λ (x : Bool). x && c) h

-- at one stop the regions decide
pub same_stop : (x y : Point) → slice_cmp nat_cmp x.stop y.stop ≡ Equal → is_lt (slice_cmp nat_cmp x.region y.region) ≡ entry_lt x y
unfolding text_lt same
same_stop x y e = by_second _ _ _ (ap is_lt e) (sym (is_eq-slice_cmp x.stop y.stop) ∙ ap is_eq e)

-- at two stops these do
pub other_stop : (x y : Point) → (slice_cmp nat_cmp x.stop y.stop ≡ Equal → ⊥) → is_lt (slice_cmp nat_cmp x.stop y.stop) ≡ entry_lt x y
unfolding text_lt same
other_stop x y other = by_first (slice_cmp nat_cmp x.stop y.stop) _ _ (is_eq-slice_cmp x.stop y.stop) other
