-- The pair of an own stop stands before those of all exchange points.
use Rattle.std.proofs.Common.{◌≡◌, ℕ, suc, ◌+◌, ◌<◌, Bool, true, false, not, cond, ◌&&◌, ◌||◌, ◌⊎◌, List, [], ◌∷◌, map, Option, Some, None, length, take, drop, refl, sym, ◌∙◌, ap, subst, inl, inr, arith, IsTrue, eqb, nat_lt}
use Rattle.std.specs.List.{list_all, position_or_len}
use Rattle.std.specs.Ordering.{is_lt, ordering_then, nat_cmp}
use Rattle.std.specs.declared.cmp.Ordering.TheVariants.{Less, Equal, Greater}
use Rattle.std.specs.Cmp.Lexicographic.{slice_cmp}
use Rattle.std.proofs.lemmas.Bool.{and_parts, lt-ltb}
use Rattle.std.proofs.lemmas.Slice.Eq.{bytes_eq-Decides}
use Rattle.ojp_values.specs.Lists.{Among}
use Rattle.ojp_values.specs.Texts.{Text, same, text_lt, home, is_exchange, is_stop_ref, code_part, is_x, is_code, is_code_byte, is_between, is_colon, is_tail}
use Rattle.ojp_exchange.specs.Book.{Book, Spot, has_region}
use Rattle.ojp_exchange.specs.Kept.{IsWellBook}
use Rattle.ojp_records.specs.Pairs.{Pair, pair_lt, placed, with_own, pair_of, pairs_from}

take_one_more : (n b : ℕ) (bs : Text) → take (1 + n) (b ∷ bs) ≡ b ∷ take n bs
take_one_more n b bs = let e : 1 + n ≡ suc n = omega arith in ap (λ (m : ℕ). take m (b ∷ bs)) e

-- what stands before the colon begins with the first byte, if that is no colon
code_part_is : (b : ℕ) (bs : Text) → (b ≡ 58) ⊎ ((rest : Text) × (code_part (b ∷ bs) ≡ b ∷ rest))
code_part_is b bs = go (is_colon b) refl
  where
    go : (c : Bool) → is_colon b ≡ c → (b ≡ 58) ⊎ ((rest : Text) × (code_part (b ∷ bs) ≡ b ∷ rest))
    go true e = inl (grind arith)
    go false e = inr (take (position_or_len is_colon bs) bs, ap (λ (c : Bool). take (cond (not c) (1 + position_or_len is_colon bs) 0) (b ∷ bs)) e ∙ take_one_more (position_or_len is_colon bs) b bs)

code_part_colon : (bs : Text) → code_part (58 ∷ bs) ≡ []
code_part_colon bs = refl

front_is : (text : Text) → IsTrue (is_stop_ref text) → is_exchange text ≡ false → (b : ℕ) × (bs : Text) × (text ≡ b ∷ bs) × (b < 120)
front_is [] well own = absurd (cc)
front_is (b ∷ bs) well own =
    let parts : ((is_x (code_part (b ∷ bs)) || is_code (code_part (b ∷ bs))) ≡ true) × (is_tail (drop (position_or_len is_colon (b ∷ bs)) (b ∷ bs)) ≡ true) = and_parts _ _ well in
    let code : is_code (code_part (b ∷ bs)) ≡ true = sym (ap (λ (c : Bool). c || is_code (code_part (b ∷ bs))) own) ∙ parts.0 in
    elim (code_part_is b bs) [
      | inl colon ↦ absurd (no_code (subst (λ (n : ℕ). is_code (code_part (n ∷ bs)) ≡ true) colon code))
      | inr it ↦ (b, bs, refl, code_front b it.0 (subst (λ (t : Text). is_code t ≡ true) it.1 code))
    ]
  where
    no_code : is_code [] ≡ true → ⊥
    no_code e = cc

    byte : (n : ℕ) → is_code_byte n ≡ true → n < 120
    byte n e = grind arith

    code_front : (n : ℕ) (rest : Text) → is_code (n ∷ rest) ≡ true → n < 120
    code_front n rest e =
        let both : (is_between 1 16 (length (n ∷ rest)) ≡ true) × (list_all is_code_byte (n ∷ rest) ≡ true) = and_parts _ _ e in
        let first : (is_code_byte n ≡ true) × (list_all is_code_byte rest ≡ true) = and_parts _ _ both.1 in
        byte n first.0

front_x : (text : Text) → is_exchange text ≡ true → (bs : Text) × (text ≡ 120 ∷ bs)
front_x [] e = absurd (cc)
front_x (b ∷ bs) e =
    let is : code_part (b ∷ bs) ≡ 120 ∷ [] = (bytes_eq-Decides (code_part (b ∷ bs)) (120 ∷ [])).0 e in
    elim (code_part_is b bs) [
      | inl colon ↦ let none : code_part (b ∷ bs) ≡ [] = ap (λ (n : ℕ). code_part (n ∷ bs)) colon in absurd (cc)
      | inr it ↦ let both : b ∷ it.0 ≡ 120 ∷ [] = sym it.1 ∙ is in let first : b ≡ 120 = cc in (bs, ap (λ (n : ℕ). n ∷ bs) first)
    ]

home_some : (stop code : Text) → home stop ≡ Some code → is_exchange stop ≡ false
unfolding home
home_some stop code e = go (is_exchange stop) e
  where
    go : (b : Bool) → cond b None (Some (code_part stop)) ≡ Some code → b ≡ false
    go true e = absurd (cc)
    go false e = refl

text_before : (b : ℕ) (bs cs : Text) → b < 120 → text_lt (b ∷ bs) (120 ∷ cs) ≡ true
unfolding text_lt
text_before b bs cs less =
    let lt : nat_lt b 120 ≡ true = lt-ltb b 120 less in
    ap (λ (c : Bool). is_lt (ordering_then (cond c Less (cond (eqb b 120) Equal Greater)) (slice_cmp nat_cmp bs cs))) lt

pair_before : (p q : Pair) → IsTrue (is_stop_ref p.stop) → is_exchange p.stop ≡ false → is_exchange q.stop ≡ true → pair_lt p q ≡ true
pair_before p q well own other =
    let front : (b : ℕ) × (bs : Text) × (p.stop ≡ b ∷ bs) × (b < 120) = front_is p.stop well own in
    let back : (bs : Text) × (q.stop ≡ 120 ∷ bs) = front_x q.stop other in
    let lt : text_lt p.stop q.stop ≡ true = subst (λ (t : Text). text_lt t q.stop ≡ true) (sym front.2) (subst (λ (t : Text). text_lt (front.0 ∷ front.1) t ≡ true) (sym back.1) (text_before front.0 front.1 back.0 front.3)) in
    ap (λ (b : Bool). b || (same p.stop q.stop && text_lt p.region q.region)) lt

placed_first : (p : Pair) (spots : List Spot) → IsTrue (is_stop_ref p.stop) → is_exchange p.stop ≡ false → ((spot : Spot) → Among spot spots → is_exchange spot.stop ≡ true) → placed p (map pair_of spots) ≡ p ∷ map pair_of spots
placed_first p [] well own exchange = refl
placed_first p (spot ∷ spots) well own exchange =
    ap (λ (b : Bool). cond b (p ∷ pair_of spot ∷ map pair_of spots) (pair_of spot ∷ placed p (map pair_of spots)))
    (pair_before p (pair_of spot) well own (exchange spot (inl refl)))

-- the pairs of a search from an own stop: the own one first
pub own_first : (book : Book) (begin code : Text) → IsWellBook book → IsTrue (is_stop_ref begin) → home begin ≡ Some code → has_region book code ≡ true → pairs_from book begin ≡ record { stop = begin; region = code } ∷ map pair_of book.spots
unfolding pairs_from
own_first book begin code well ref own known =
    ap (λ (o : Option Text). with_own book begin o (map pair_of book.spots)) own
    ∙ (ap (λ (b : Bool). cond b (placed (record { stop = begin; region = code }) (map pair_of book.spots)) (map pair_of book.spots)) known
    ∙ placed_first (record { stop = begin; region = code }) book.spots ref (home_some begin code own) well.exchange)

-- those from an exchange point
pub no_own : (book : Book) (begin : Text) → home begin ≡ None → pairs_from book begin ≡ map pair_of book.spots
unfolding pairs_from
no_own book begin none = ap (λ (o : Option Text). with_own book begin o (map pair_of book.spots)) none
