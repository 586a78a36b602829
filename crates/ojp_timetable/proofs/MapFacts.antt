-- Look-ups in a map, by the list of what it keeps.
use Rattle.std.proofs.Common.{◌≡◌, ℕ, ◌+◌, Bool, true, false, not, ◌||◌, cond, nat_lt, List, [], ◌∷◌, length, map, refl, ◌∙◌, ap, suc, true≢false}
use Rattle.std.specs.Prelude.{Option, Some, None, is_some, option_map, find, position}
use Rattle.std.specs.List.{list_any, prefix_len}
use Rattle.std.specs.Map.{lookup, keys_of}
use Rattle.std.specs.Prelude.{bytes_eq}
use Rattle.ojp_values.specs.Texts.{Text}
use Rattle.ojp_timetable.specs.Tables.{Place}
use Rattle.ojp_timetable.specs.Kept.{facts_of, place_kept}
use Rattle.ojp_timetable.specs.declared.kept.PlaceFacts.{PlaceFacts}

some_case : {X : Type 0} (b : Bool) (v : X) (r : Option X) (q : Bool) → is_some r ≡ q → is_some (cond b (Some v) r) ≡ b || q
some_case true v r q h = refl
some_case false v r q h = h

module _ {X Y : Type 0} (test : Text → Bool) (p : Y → Bool) (kept : Text × X → Y) (agree : (e : Text × X) → test e.0 ≡ p (kept e)) where
  -- a name is found where some entry has it
  pub any_kept : (es : List (Text × X)) → is_some (lookup test es) ≡ list_any p (map kept es)
  any_kept [] = refl
  any_kept (e ∷ es) = some_case (test e.0) e.1 (lookup test es) _ (any_kept es) ∙ ap (λ (b : Bool). b || list_any p (map kept es)) (agree e)

  length_kept : (es : List (Text × X)) → length (keys_of es) ≡ length (map kept es)
  length_kept [] = refl
  length_kept (e ∷ es) = ap (λ (n : ℕ). suc n) (length_kept es)

  prefix_kept : (es : List (Text × X)) → prefix_len (λ (t : Text). not (test t)) (keys_of es) ≡ prefix_len (λ (y : Y). not (p y)) (map kept es)
  prefix_kept [] = refl
  prefix_kept (e ∷ es) =
      ap (λ (n : ℕ). cond (not (test e.0)) (1 + n) 0) (prefix_kept es)
      ∙ ap (λ (b : Bool). cond (not b) (1 + prefix_len (λ (y : Y). not (p y)) (map kept es)) 0) (agree e)

  -- the place of the first entry that has the name
  pub position_kept : (es : List (Text × X)) → position test (keys_of es) ≡ position p (map kept es)
  position_kept es =
      ap (λ (n : ℕ). cond (nat_lt n (length (keys_of es))) (Some n) None) (prefix_kept es)
      ∙ ap (λ (m : ℕ). cond (nat_lt (prefix_len (λ (y : Y). not (p y)) (map kept es)) m) (Some (prefix_len (λ (y : Y). not (p y)) (map kept es))) None) (length_kept es)

  -- no entry has a name that is not found
  pub absent_kept : (es : List (Text × X)) → list_any p (map kept es) ≡ false → lookup test es ≡ None
  absent_kept es h = none_of (lookup test es) (any_kept es ∙ h)
    where
      none_of : (o : Option X) → is_some o ≡ false → o ≡ None
      none_of None h = refl
      none_of (Some x) h = absurd (true≢false h)

facts_case : (b : Bool) (stop : Text) (facts : PlaceFacts) (r : Option PlaceFacts) (q : Option Place) → r ≡ option_map facts_of q
    → cond b (Some facts) r ≡ option_map facts_of (cond b (Some (place_kept (stop, facts))) q)
facts_case true stop facts r q h = refl
facts_case false stop facts r q h = h

-- what is kept of a stop is that of the first place of the reference
pub find_place : (test : Text → Bool) (stop : Text) → ((t : Text) → test t ≡ bytes_eq stop t) → (es : List (Text × PlaceFacts))
    → lookup test es ≡ option_map facts_of (find (λ (place : Place). bytes_eq stop place.stop) (map place_kept es))
find_place test stop agree [] = refl
find_place test stop agree (e ∷ es) =
    facts_case (test e.0) e.0 e.1 (lookup test es) (find (λ (place : Place). bytes_eq stop place.stop) (map place_kept es)) (find_place test stop agree es)
    ∙ ap (λ (b : Bool). option_map facts_of (cond b (Some (place_kept e)) (find (λ (place : Place). bytes_eq stop place.stop) (map place_kept es)))) (agree e.0)
