-- What a reference to a stop is made of.
use Rattle.std.specs.Prelude.{◌≡◌, ◌⊎◌, ◌↔◌, [], ◌∷◌, ◌++◌, IsTrue}
use Rattle.ojp_values.specs.Texts.{Text, is_code, is_label, is_stop_ref}

-- the text is a code or `x`, a colon and a local part
pub record HasParts (text : Text) : Type 0 where
  pub front : Text
  pub local : Text
  pub front_is : IsTrue (is_code front) ⊎ (front ≡ 120 ∷ [])
  pub local_is : IsTrue (is_label local)
  pub text_is : text ≡ front ++ 58 ∷ local

-- the references to stops are the texts with such parts
abbrev pub StopsHaveParts : Type 0
StopsHaveParts = (text : Text) → IsTrue (is_stop_ref text) ↔ HasParts text
