-- Fields as the one text that they were.
use Rattle.std.proofs.Common.{◌≡◌, ◌≤◌, ◌-◌, ℕ, List, [], ◌∷◌, codes, length, length-drop, take, drop, get_or, sym, refl, ap, subst, ◌∙◌, arith, Bor}
use Rattle.std.specs.Prelude.{Option, Some, None, MatchOption, option_map}
use Rattle.std.proofs.lemmas.List.{take_all}
use Rattle.std.proofs.lemmas.List.Splits.{join_with_byte-slice_split}
use Rattle.ojp_values.specs.Texts.{Text}
use Rattle.ojp_zones.specs.Parts.{parts}
use Rattle.ojp_zones.proofs.PartsFacts.{parts-nonempty}
use Rattle.ojp_timetable.specs.Fields.{fields_left, fields_of, joined, IsSomeList}

joined_all : (text : Text) → joined (fields_of text) ≡ text
unfolding parts
joined_all text = join_with_byte-slice_split 32 text

some_list : (fields : List Text) → (fields ≡ [] → ⊥) → IsSomeList fields
some_list [] none = none refl
some_list (x ∷ xs) none = tt

-- what is left is the text that its fields are joined to
pub left_joined : (rest : Option (Bor (List ℕ))) (left : List Text) → fields_left (option_map (λ (t : Bor (List ℕ)). t.now) rest) ≡ left
    → MatchOption rest (left ≡ []) (λ (text : Bor (List ℕ)). (text.now ≡ joined left) × IsSomeList left)
left_joined None left h = sym h
left_joined (Some text) left h =
    (sym (joined_all text.now) ∙ ap joined h, subst IsSomeList h (some_list (fields_of text.now) (parts-nonempty 32 text.now)))

-- the fields of a line that begins with the word of a call and a space
call_behind : (rest : Text) → fields_of (99 ∷ 97 ∷ 108 ∷ 108 ∷ 32 ∷ rest) ≡ codes "call" ∷ fields_of rest
unfolding parts
call_behind rest = refl

five : (t : List ℕ) → 5 ≤ length t → t ≡ get_or t 0 0 ∷ get_or t 1 0 ∷ get_or t 2 0 ∷ get_or t 3 0 ∷ get_or t 4 0 ∷ drop 5 t
five [] h = absurd (omega (arith, h))
five (a ∷ []) h = absurd (omega (arith, h))
five (a ∷ b ∷ []) h = absurd (omega (arith, h))
five (a ∷ b ∷ c ∷ []) h = absurd (omega (arith, h))
five (a ∷ b ∷ c ∷ d ∷ []) h = absurd (omega (arith, h))
five (a ∷ b ∷ c ∷ d ∷ e ∷ more) h = refl

pub begins_call : (t : List ℕ) → 5 ≤ length t → get_or t 0 0 ≡ 99 → get_or t 1 0 ≡ 97 → get_or t 2 0 ≡ 108 → get_or t 3 0 ≡ 108 → get_or t 4 0 ≡ 32
    → fields_of t ≡ codes "call" ∷ fields_of (take (length t - 5) (drop 5 t))
begins_call t h e0 e1 e2 e3 e4 =
    ap fields_of (five t h)
    ∙ ((λ i. fields_of (e0 i ∷ e1 i ∷ e2 i ∷ e3 i ∷ e4 i ∷ drop 5 t))
    ∙ (call_behind (drop 5 t) ∙ ap (λ (rest : Text). codes "call" ∷ fields_of rest) (sym (take_all (length t - 5) (drop 5 t) (omega (arith, length-drop 5 t))))))

-- and of one that begins with the word of a journey and a space
journey_behind : (rest : Text) → fields_of (106 ∷ 111 ∷ 117 ∷ 114 ∷ 110 ∷ 101 ∷ 121 ∷ 32 ∷ rest) ≡ codes "journey" ∷ fields_of rest
unfolding parts
journey_behind rest = refl

eight : (t : List ℕ) → 8 ≤ length t
    → t ≡ get_or t 0 0 ∷ get_or t 1 0 ∷ get_or t 2 0 ∷ get_or t 3 0 ∷ get_or t 4 0 ∷ get_or t 5 0 ∷ get_or t 6 0 ∷ get_or t 7 0 ∷ drop 8 t
eight [] h = absurd (omega (arith, h))
eight (a ∷ []) h = absurd (omega (arith, h))
eight (a ∷ b ∷ []) h = absurd (omega (arith, h))
eight (a ∷ b ∷ c ∷ []) h = absurd (omega (arith, h))
eight (a ∷ b ∷ c ∷ d ∷ []) h = absurd (omega (arith, h))
eight (a ∷ b ∷ c ∷ d ∷ e ∷ []) h = absurd (omega (arith, h))
eight (a ∷ b ∷ c ∷ d ∷ e ∷ f ∷ []) h = absurd (omega (arith, h))
eight (a ∷ b ∷ c ∷ d ∷ e ∷ f ∷ g ∷ []) h = absurd (omega (arith, h))
eight (a ∷ b ∷ c ∷ d ∷ e ∷ f ∷ g ∷ x ∷ more) h = refl

pub begins_journey : (t : List ℕ) → 8 ≤ length t → get_or t 0 0 ≡ 106 → get_or t 1 0 ≡ 111 → get_or t 2 0 ≡ 117 → get_or t 3 0 ≡ 114 → get_or t 4 0 ≡ 110
    → get_or t 5 0 ≡ 101 → get_or t 6 0 ≡ 121 → get_or t 7 0 ≡ 32 → fields_of t ≡ codes "journey" ∷ fields_of (take (length t - 8) (drop 8 t))
begins_journey t h e0 e1 e2 e3 e4 e5 e6 e7 =
    ap fields_of (eight t h)
    ∙ ((λ i. fields_of (e0 i ∷ e1 i ∷ e2 i ∷ e3 i ∷ e4 i ∷ e5 i ∷ e6 i ∷ e7 i ∷ drop 8 t))
    ∙ (journey_behind (drop 8 t) ∙ ap (λ (rest : Text). codes "journey" ∷ fields_of rest) (sym (take_all (length t - 8) (drop 8 t) (omega (arith, length-drop 8 t))))))
