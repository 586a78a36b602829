-- Texts are compared by their bytes.
use Rattle.std.proofs.Common.{◌≡◌, ◌≢◌, true, false, refl, sym, ◌∙◌, inl, inr}
use Rattle.std.proofs.lemmas.Bool.{true≢false, cases_Bool}
use Rattle.std.proofs.lemmas.Slice.Eq.{bytes_eq-Decides}
use Rattle.ojp_values.specs.Texts.{Text, same}

pub same_is : (x y : Text) → same x y ≡ true → x ≡ y
unfolding same
same_is x y e = (bytes_eq-Decides x y).0 e

pub is_same : (x y : Text) → x ≡ y → same x y ≡ true
unfolding same
is_same x y e = (bytes_eq-Decides x y).1 e

pub same_itself : (x : Text) → same x x ≡ true
same_itself x = is_same x x refl

pub differ_is : (x y : Text) → same x y ≡ false → x ≢ y
differ_is x y e h = true≢false (sym (is_same x y h) ∙ e)

pub is_differ : (x y : Text) → x ≢ y → same x y ≡ false
is_differ x y h = elim (cases_Bool (same x y)) [ inl e ↦ absurd (h (same_is x y e)) | inr e ↦ e ]
