-- Labels byte by byte.
use Rattle.std.proofs.Common.{◌≡◌, ℕ, ◌-◌, ◌≤◌, ◌&&◌, not, min, Bool, false, cond, eqb, [], ◌∷◌, ◌++◌, length, map, take, Option, Some, None, IsSome, IfSome, IsTrue, ◌↔◌, inl, inr, refl, sym, ap, ◌∙◌, append_assoc, arith}
use Rattle.std.specs.List.{list_any}
use Rattle.std.proofs.lemmas.Bool.{cases_Bool, cond-false, cond-true, false≢true}
use Rattle.std.proofs.lemmas.List.{length-map, take_all, take_min}
use Rattle.std.proofs.lemmas.Option.{none-some, same_Some}
use Rattle.sha2.specs.Sha256.{sha256}
use Rattle.ojp_values.specs.Texts.{Text, is_label}
use Rattle.ojp_feed_labels.specs.Labels.{digits, dotted, first_bits, hashed, is_dotted, local_byte}

-- a byte more behind those that were added
pub pushed_more : (old before new : Text) (xs : Text) (byte value : ℕ) → before ≡ old ++ xs → new ≡ before ++ byte ∷ [] → byte ≡ value → new ≡ old ++ (xs ++ value ∷ [])
pushed_more old before new xs byte value was step is =
    step ∙ (ap (λ (text : Text). text ++ byte ∷ []) was ∙ (append_assoc old xs (byte ∷ []) ∙ ap (λ (b : ℕ). old ++ (xs ++ b ∷ [])) is))

-- what is given where the text is a label, and nothing else
pub label_or_none : (result : Option Text) (text : Text) → IsSome result ↔ IsTrue (is_label text) → IfSome result (λ label. label ≡ text) → result ≡ cond (is_label text) (Some text) None
label_or_none None text exact value =
    elim (cases_Bool (is_label text)) [
      | inl e ↦ absurd (false≢true (exact.1 e))
      | inr e ↦ sym (cond-false (is_label text) (Some text) None e)
    ]
label_or_none (Some label) text exact value = ap Some value ∙ sym (cond-true (is_label text) (Some text) None (exact.0 refl))

-- what is given where an id with no `.` becomes a label so, and nothing else
pub dotted_or_none : (result : Option Text) (id text : Text) (has : Bool) → text ≡ dotted id → has ≡ list_any (λ (b : ℕ). eqb b 46) id → has ≡ false → IsSome result ↔ IsTrue (is_label text) → IfSome result (λ label. label ≡ text)
    → result ≡ cond (is_dotted id) (Some (dotted id)) None
dotted_or_none result id text has is any none exact value =
    label_or_none result text exact value
    ∙ (ap (λ (t : Text). cond (is_label t) (Some t) None) is ∙ ap (λ (b : Bool). cond (not b && is_label (dotted id)) (Some (dotted id)) None) (sym none ∙ any))

-- the id with `.` for `:` is as long
pub dotted_long : (id : Text) → length (dotted id) ≡ length id
unfolding dotted
dotted_long id = length-map id (λ (b : ℕ). cond (eqb b 58) 46 b)

pub dotted_short : (most : ℕ) (id label : Text) → Some label ≡ cond (is_dotted id) (Some (dotted id)) None → length id ≤ most → length label ≤ most
dotted_short most id label is h =
    elim (cases_Bool (is_dotted id)) [
      | inl e ↦ let same = same_Some label (dotted id) (is ∙ cond-true (is_dotted id) (Some (dotted id)) None e) in omega (arith, h, ap length same, dotted_long id)
      | inr e ↦ absurd (none-some label (sym (is ∙ cond-false (is_dotted id) (Some (dotted id)) None e)))
    ]

-- the bytes of the front, `-` and the digits
pub hashed_is : (most front index number : ℕ) (id part text dashed all label : Text) → front ≡ min (length id) (most - 9) → part ≡ take front id → length part ≤ index → text ≡ map local_byte (take index part)
    → dashed ≡ text ++ 45 ∷ [] → all ≡ dashed ++ digits number → number ≡ first_bits (sha256 id) → label ≡ all → label ≡ hashed most id
unfolding hashed
hashed_is most front index number id part text dashed all label front_is part_is behind made dash digital number_is is =
    let front_bytes = take (most - 9) id in
    let short : front ≡ min (most - 9) (length id) = omega (arith, front_is) in
    let whole : take index part ≡ front_bytes = take_all index part behind ∙ (part_is ∙ (ap (λ (n : ℕ). take n id) short ∙ take_min (most - 9) id)) in
    let text_is : text ≡ map local_byte front_bytes = made ∙ ap (map local_byte) whole in
    is ∙ (digital ∙ (ap (λ (t : Text). t ++ digits number) (dash ∙ ap (λ (t : Text). t ++ 45 ∷ []) text_is)
    ∙ (append_assoc (map local_byte front_bytes) (45 ∷ []) (digits number) ∙ ap (λ (n : ℕ). map local_byte front_bytes ++ 45 ∷ digits n) number_is)))
