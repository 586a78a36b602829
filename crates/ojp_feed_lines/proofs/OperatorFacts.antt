-- Lines of the operator's file.
use Rattle.std.proofs.Common.{◌≡◌, ◌≢◌, ◌<◌, ◌+◌, ◌-◌, ◌||◌, ◌&&◌, ◌⊎◌, ℕ, zero, suc, Bool, true, false, List, [], ◌∷◌, ◌++◌, length, get_or, map, take, drop, Some, None, Result, Ok, Err, inl, inr, refl, sym, ap, ◌∙◌, subst, arith}
use Rattle.std.specs.Prelude.{Contains, IfErr, OnOk, String, codes, nat_eq, string_bytes}
use Rattle.std.specs.Str.{bytes_eq}
use Rattle.std.specs.List.{list_any, position}
use Rattle.std.specs.declared.alloc.Global.{Global}
use Rattle.std.proofs.lemmas.Bool.{false≢true}
use Rattle.std.proofs.lemmas.Bool.Decides.{nat_tests}
use Rattle.std.proofs.lemmas.List.{drop_more, length-map, take-append-drop, take_rest}
use Rattle.std.proofs.lemmas.List.Elements.{Contains-append_left, Contains-append_right, Contains-push, Contains-push_cases}
use Rattle.std.proofs.lemmas.List.Folds.{list_any_none}
use Rattle.std.proofs.lemmas.List.Quantifiers.{position-Some}
use Rattle.std.proofs.lemmas.Slice.Eq.{bytes_eq-Decides}
use Rattle.ojp_values.proofs.Positions.{none_passes}
use Rattle.ojp_values.specs.Texts.{Text, is_code, same}
use Rattle.ojp_feed_rows.specs.declared.operator.Exchange.{Exchange}
use Rattle.ojp_feed_rows.specs.declared.operator.NeighbourOf.{NeighbourOf}
use Rattle.ojp_feed_rows.specs.declared.operator.Operator.{Operator}
use Rattle.ojp_feed_rows.specs.declared.operator.StopChange.{StopChange}
use Rattle.ojp_feed_lines.specs.Lines.{Adds, IsBeside, IsClash, IsFor, IsIdOf, IsPairFault, IsSaid, IsStopChangeFault, Says, StandsFor}
use Rattle.ojp_feed_lines.specs.OperatorCauses.{ArePlain, AreTooFew, IsChange, IsExchange, IsLineCause, IsNeighbour, IsNoWord, IsPlain, IsSpelled, IsUnknown, is_change, is_point, is_space, spelled}
use Rattle.ojp_feed_lines.specs.declared.columns.Column.TheVariants as columns
use Rattle.ojp_feed_lines.specs.declared.operator.OperatorLine.{OperatorLine}
use Rattle.ojp_feed_lines.specs.declared.operator.OperatorLine.TheVariants as said
use Rattle.ojp_feed_lines.specs.declared.operator.Refused.{Refused}
use Rattle.ojp_feed_lines.specs.declared.operator.Refused.TheVariants.{For, NoMemory}
use Rattle.ojp_feed_lines.specs.declared.refusals.RowReason.{RowReason}
use Rattle.ojp_feed_lines.specs.declared.refusals.RowReason.TheVariants as reasons
use Rattle.ojp_feed_lines.proofs.IdFacts.{not_found}

-- ---- the fields of a line

or_both : (a b : Bool) → a ≡ false → b ≡ false → (a || b) ≡ false
or_both true b h k = h
or_both false b h k = k

pub or_left : (a b : Bool) → (a || b) ≡ false → a ≡ false
or_left true b h = h
or_left false b h = refl

pub or_right : (a b : Bool) → (a || b) ≡ false → b ≡ false
or_right true b h = absurd (false≢true (sym h))
or_right false b h = h

is_32 : (b : ℕ) → is_space b ≡ true → b ≡ 32
is_32 b h = grind (arith, nat_tests)

-- no space stands where none is found
pub no_space : (text : Text) → position is_space text ≡ None → IsPlain text
no_space text h = list_any_none is_space text (none_passes is_space text h)

plain_take : (text : Text) (i : ℕ) → ((k : ℕ) → k < i → is_space (get_or text k 0) ≡ false) → IsPlain (take i text)
plain_take [] zero f = refl
plain_take [] (suc i) f = refl
plain_take (b ∷ bs) zero f = refl
plain_take (b ∷ bs) (suc i) f = or_both (is_space b) (list_any is_space (take i bs)) (f 0 (omega arith)) (plain_take bs i (λ k below. f (suc k) (omega (arith, below))))

-- a text is cut at its first space
pub cut_at : (text : Text) (i : ℕ) → position is_space text ≡ Some i
    → IsSpelled text (take i text ∷ []) (take (length text - (i + 1)) (drop (i + 1) text))
cut_at text i h =
    let s = position-Some is_space text i 0 h in
    let rest : drop i text ≡ 32 ∷ take (length text - (i + 1)) (drop (i + 1) text) =
    drop_more text i 0 s.0 ∙ rw (is_32 (get_or text i 0) s.1, take_rest text (i + 1)) refl in
    (sym (take-append-drop i text) ∙ ap (λ (t : Text). take i text ++ t) rest, (plain_take text i s.2, tt))

-- a further field
pub more : (fields : List Text) (line rest field last : Text) → IsSpelled line fields rest → IsSpelled rest (field ∷ []) last
    → IsSpelled line (fields ++ field ∷ []) last
more fields line rest field last h k = (h.0 ∙ by fields, plain fields h.1)
  where
    by : (fs : List Text) → spelled fs rest ≡ spelled (fs ++ field ∷ []) last
    by [] = k.0
    by (f ∷ fs) = ap (λ (t : Text). f ++ 32 ∷ t) (by fs)

    plain : (fs : List Text) → ArePlain fs → ArePlain (fs ++ field ∷ [])
    plain [] p = k.1
    plain (f ∷ fs) p = (p.0, plain fs p.1)

head_is : (x y : ℕ) (xs ys : Text) → x ∷ xs ≡ y ∷ ys → x ≡ y
head_is x y xs ys e = ap (λ (l : Text). get_or l 0 0) e

tail_is : (x y : ℕ) (xs ys : Text) → x ∷ xs ≡ y ∷ ys → xs ≡ ys
tail_is x y xs ys e = ap (λ (l : Text). drop 1 l) e

-- a field without a space is one
pub unique_field : (f g r s : Text) → IsPlain f → IsPlain g → f ++ 32 ∷ r ≡ g ++ 32 ∷ s → (f ≡ g) × (r ≡ s)
unique_field [] [] r s p q e = (refl, tail_is 32 32 r s e)
unique_field [] (y ∷ g) r s p q e =
    absurd (false≢true (sym (or_left (is_space y) (list_any is_space g) q) ∙ ap is_space (sym (head_is 32 y r (g ++ 32 ∷ s) e))))
unique_field (x ∷ f) [] r s p q e =
    absurd (false≢true (sym (or_left (is_space x) (list_any is_space f) p) ∙ ap is_space (head_is x 32 (f ++ 32 ∷ r) s e)))
unique_field (x ∷ f) (y ∷ g) r s p q e =
    let rest = unique_field f g r s (or_right (is_space x) (list_any is_space f) p) (or_right (is_space y) (list_any is_space g) q)
    (tail_is x y (f ++ 32 ∷ r) (g ++ 32 ∷ s) e) in
    (rw (head_is x y (f ++ 32 ∷ r) (g ++ 32 ∷ s) e, rest.0) refl, rest.1)

same_point : (line p c i q d j : Text) → IsExchange line p c i → IsExchange line q d j → p ≡ q
same_point line p c i q d j h k =
    let words = unique_field (codes "exchange") (codes "exchange") (p ++ 32 ∷ (c ++ 32 ∷ i)) (q ++ 32 ∷ (d ++ 32 ∷ j)) refl refl (sym h.0 ∙ k.0) in
    (unique_field p q (c ++ 32 ∷ i) (d ++ 32 ∷ j) h.1.1.0 k.1.1.0 words.1).0

no_neighbour : (line p r c q d j : Text) → IsNeighbour line p r c → IsExchange line q d j → ⊥
no_neighbour line p r c q d j h k =
    let words = unique_field (codes "neighbour") (codes "exchange") (p ++ 32 ∷ (r ++ 32 ∷ c)) (q ++ 32 ∷ (d ++ 32 ∷ j)) refl refl (sym h.0 ∙ k.0) in
    omega (arith, ap length words.0)

no_change : (line c i q d j : Text) → IsChange line c i → IsExchange line q d j → ⊥
no_change line c i q d j h k =
    let words = unique_field (codes "change") (codes "exchange") (c ++ 32 ∷ i) (q ++ 32 ∷ (d ++ 32 ∷ j)) refl refl (sym h.0 ∙ k.0) in
    omega (arith, ap length words.0)

-- ---- ids by number

at_map : (ks : List (String Global)) (i : ℕ) (d : String Global) → i < length ks → get_or (map string_bytes ks) i [] ≡ string_bytes (get_or ks i d)
at_map [] i d below = absurd (omega (arith, below))
at_map (k ∷ ks) zero d below = refl
at_map (k ∷ ks) (suc i) d below = at_map ks i d (omega (arith, below))

-- the place of an id is its number
pub numbered : (ks : List (String Global)) (id : Text) (i : ℕ) → Some i ≡ position (λ x. bytes_eq id (string_bytes x)) ks → IsIdOf (map string_bytes ks) i id
numbered [] id i h = absurd (cc)
numbered (k ∷ ks) id i h =
    let s = position-Some (λ x. bytes_eq id (string_bytes x)) (k ∷ ks) i k (sym h) in (
      rw (length-map (k ∷ ks) string_bytes) s.0,
      at_map (k ∷ ks) i k s.0 ∙ sym ((bytes_eq-Decides id (string_bytes (get_or (k ∷ ks) i k))).0 s.1),
    )

pub not_numbered : (ks : List (String Global)) (id : Text) → None ≡ position (λ x. bytes_eq id (string_bytes x)) ks → IsUnknown (map string_bytes ks) id
not_numbered ks id h =
    let p = λ (x : String Global). bytes_eq id (string_bytes x) in
    inl (not_found ks id false (sym (list_any_none p ks (none_passes p ks (sym h)))) refl)

-- ---- why a line is refused by itself

pub too_few : (code : Text) (ids above : List Text) (line : Text) (fields : List Text) (last : Text)
    → IsSpelled line fields last → IsPlain last → AreTooFew fields → IsLineCause code ids above line reasons.LineForm
unfolding IsLineCause
too_few code ids above line fields last at plain few = inr (fields, last, at, plain, few)

pub no_word : (code : Text) (ids above : List Text) (line word rest : Text)
    → IsSpelled line (word ∷ []) rest → IsNoWord word → IsLineCause code ids above line reasons.LineForm
unfolding IsLineCause
no_word code ids above line word rest at none = inl (word, rest, at, none)

pub exchange_fault : (code : Text) (ids above : List Text) (line point rest : Text) (reason : RowReason)
    → IsSpelled line (codes "exchange" ∷ point ∷ []) rest → IsStopChangeFault ids rest reason → IsLineCause code ids above line reason
unfolding IsLineCause
exchange_fault code ids above line point rest reason at (inl h) =
    subst (λ (r : RowReason). IsLineCause code ids above line r) (sym h.0)
    (too_few code ids above line (codes "exchange" ∷ point ∷ []) rest at h.1 (inl (inl refl, omega arith)))
exchange_fault code ids above line point rest reason at (inr h) =
    let (change, id, cut, fault) = h in
    let whole : IsExchange line point change id = more (codes "exchange" ∷ point ∷ []) line rest change id at cut in
    by change id whole fault
  where
    by : (change id : Text) → IsExchange line point change id → IsPairFault ids change id reason → IsLineCause code ids above line reason
    by change id whole (inl f) = subst (λ (r : RowReason). IsLineCause code ids above line r) (sym f.0) (inl (change, inl (point, id, whole), f.1))
    by change id whole (inr (inl f)) = subst (λ (r : RowReason). IsLineCause code ids above line r) (sym f.0) (id, inl (point, change, whole), f.1)
    by change id whole (inr (inr f)) = subst (λ (r : RowReason). IsLineCause code ids above line r) (sym f.0) (id, inl (point, change, whole), f.1)

pub change_fault : (code : Text) (ids above : List Text) (line rest : Text) (reason : RowReason)
    → IsSpelled line (codes "change" ∷ []) rest → IsStopChangeFault ids rest reason → IsLineCause code ids above line reason
unfolding IsLineCause
change_fault code ids above line rest reason at (inl h) =
    subst (λ (r : RowReason). IsLineCause code ids above line r) (sym h.0)
    (too_few code ids above line (codes "change" ∷ []) rest at h.1 (inr (refl, omega arith)))
change_fault code ids above line rest reason at (inr h) =
    let (change, id, cut, fault) = h in
    let whole : IsChange line change id = more (codes "change" ∷ []) line rest change id at cut in
    by change id whole fault
  where
    by : (change id : Text) → IsChange line change id → IsPairFault ids change id reason → IsLineCause code ids above line reason
    by change id whole (inl f) = subst (λ (r : RowReason). IsLineCause code ids above line r) (sym f.0) (inl (change, inr (inr (id, whole)), f.1))
    by change id whole (inr (inl f)) = subst (λ (r : RowReason). IsLineCause code ids above line r) (sym f.0) (id, inr (change, whole), f.1)
    by change id whole (inr (inr f)) = subst (λ (r : RowReason). IsLineCause code ids above line r) (sym f.0) (id, inr (change, whole), f.1)

pub bad_exchange : (code : Text) (ids above : List Text) (line point rest : Text)
    → IsSpelled line (codes "exchange" ∷ point ∷ []) rest → is_point point ≡ false → IsLineCause code ids above line (reasons.Value columns.Exchange)
unfolding IsLineCause
bad_exchange code ids above line point rest at bad = (point, inl (rest, at), bad)

pub bad_neighbour : (code : Text) (ids above : List Text) (line point region rest : Text)
    → IsNeighbour line point region rest → is_point point ≡ false → IsLineCause code ids above line (reasons.Value columns.Exchange)
unfolding IsLineCause
bad_neighbour code ids above line point region rest at bad = (point, inr (region, rest, at), bad)

pub bad_code : (code : Text) (ids above : List Text) (line point region rest : Text)
    → IsNeighbour line point region rest → ((is_code region ≡ false) ⊎ (region ≡ code)) → IsLineCause code ids above line (reasons.Value columns.Code)
unfolding IsLineCause
bad_code code ids above line point region rest at bad = (point, region, (rest, at), bad)

pub bad_seconds : (code : Text) (ids above : List Text) (line point region change : Text)
    → IsNeighbour line point region change → is_change change ≡ false → IsLineCause code ids above line (reasons.Value columns.Change)
unfolding IsLineCause
bad_seconds code ids above line point region change at bad = inl (change, inr (inl (point, region, at)), bad)

-- ---- why it is refused below the lines above it

-- what the lines above say beside it
beside : (code : Text) (ids above : List Text) (line : Text) (e other : Exchange) (reason : RowReason)
    → Says ids line (said.Exchange e) → IsSaid ids above (said.Exchange other) → IsBeside other e reason → IsLineCause code ids above line reason
unfolding IsLineCause
beside code ids above line e other reason s t (inl h) =
    let (change, id, whole, seconds, of) = s in
    let (line1, there, t1) = t in
    let (change1, id1, whole1, seconds1, of1) = t1 in
    let same : id1 ≡ id = sym of1.1 ∙ ap (λ (n : ℕ). get_or ids n []) h.1 ∙ of.1 in
    subst (λ (r : RowReason). IsLineCause code ids above line r) (sym h.0)
    (line1, id, there, inl ((other.point, change1, subst (λ (i : Text). IsExchange line1 other.point change1 i) same whole1), (e.point, change, whole)))
beside code ids above line e other reason s t (inr h) =
    let (change, id, whole, seconds, of) = s in
    let (line1, there, t1) = t in
    let (change1, id1, whole1, seconds1, of1) = t1 in
    let (is, point, differ) = h in
    subst (λ (r : RowReason). IsLineCause code ids above line r) (sym is)
    (inr (line1, e.point, change1, id1, change, id, there, subst (λ (p : Text). IsExchange line1 p change1 id1) point whole1, whole, λ same. differ (sym seconds1 ∙ same ∙ seconds)))

pub clash_cause : (code : Text) (ids above : List Text) (line : Text) (operator : Operator) (what : OperatorLine) (reason : RowReason)
    → StandsFor ids above operator → Says ids line what → IsClash operator what reason → IsLineCause code ids above line reason
unfolding IsLineCause
clash_cause code ids above line operator (said.Exchange e) reason st s h =
    let (other, there, why) = h in
    beside code ids above line e other reason s (st.exchanges other there) why
clash_cause code ids above line operator (said.Neighbour n) reason st s (inl h) =
    subst (λ (r : RowReason). IsLineCause code ids above line r) (sym h.0) (
      n.point,
      n.region,
      s,
      λ other change id there is.
          let (e, has, same) = st.points other n.point change id there is in
          h.1 e has same,
    )
clash_cause code ids above line operator (said.Neighbour n) reason st s (inr h) =
    let (is, other, there, point, region) = h in
    let (line1, there1, t1) = st.neighbours other there in
    let (change1, whole1) = t1 in
    subst (λ (r : RowReason). IsLineCause code ids above line r) (sym is) (
      line1,
      n.point,
      n.region,
      there1,
      (change1, subst (λ (p : Text). IsNeighbour line1 p n.region change1) point (subst (λ (r : Text). IsNeighbour line1 other.point r change1) region whole1)),
      s,
    )
clash_cause code ids above line operator (said.Change c) reason st s h =
    let (is, other, there, stop) = h in
    let (change, id, whole, seconds, of) = s in
    let (line1, there1, t1) = st.changes other there in
    let (change1, id1, whole1, seconds1, of1) = t1 in
    let same : id1 ≡ id = sym of1.1 ∙ ap (λ (n : ℕ). get_or ids n []) stop ∙ of.1 in
    subst (λ (r : RowReason). IsLineCause code ids above line r) (sym is)
    (line1, id, there1, inr ((change1, subst (λ (i : Text). IsChange line1 change1 i) same whole1), (change, whole)))

-- ---- what was taken so far

pub stands_first : (ids : List Text) (operator : Operator) → operator.exchanges.items ≡ [] → operator.neighbours.items ≡ [] → operator.changes.items ≡ []
    → StandsFor ids [] operator
stands_first ids operator e n c = record {
  exchanges = λ x there. absurd (none e there);
  neighbours = λ x there. absurd (none n there);
  changes = λ x there. absurd (none c there);
  points = λ line point change id there is. absurd (none refl there);
}
  where
    none : {X : Type 0} {xs : List X} {x : X} → xs ≡ [] → Contains xs x → ⊥
    none is there = omega (arith, ap length is, there.1)

said_more : (ids above : List Text) (line : Text) (what : OperatorLine) → IsSaid ids above what → IsSaid ids (above ++ line ∷ []) what
said_more ids above line what h = (h.0, Contains-append_left above (line ∷ []) h.0 h.1, h.2)

kept : {X : Type 0} (P : X → Type 0) (xs ys : List X) → ys ≡ xs → ((x : X) → Contains xs x → P x) → (x : X) → Contains ys x → P x
kept {X} P xs ys is f x there = f x (subst (λ (l : List X). Contains l x) is there)

grown : {X : Type 0} (P : X → Type 0) (xs ys : List X) (y : X) → ys ≡ xs ++ y ∷ [] → ((x : X) → Contains xs x → P x) → P y → (x : X) → Contains ys x → P x
grown {X} P xs ys y is f last x there = by (Contains-push_cases xs y x (subst (λ (l : List X). Contains l x) is there))
  where
    by : Contains xs x ⊎ (y ≡ x) → P x
    by (inl old) = f x old
    by (inr same) = subst P same last

-- the exchange points of the lines above and of the line
points_more : (ids above : List Text) (line : Text) (old new : Operator) → StandsFor ids above old
    → ((e : Exchange) → Contains old.exchanges.items e → Contains new.exchanges.items e)
    → ((point change id : Text) → IsExchange line point change id → (e : Exchange) × Contains new.exchanges.items e × (e.point ≡ point))
    → (other point change id : Text) → Contains (above ++ line ∷ []) other → IsExchange other point change id
    → (e : Exchange) × Contains new.exchanges.items e × (e.point ≡ point)
points_more ids above line old new st keep own other point change id there is = by (Contains-push_cases above line other there)
  where
    by : Contains above other ⊎ (line ≡ other) → (e : Exchange) × Contains new.exchanges.items e × (e.point ≡ point)
    by (inl before) =
        let (e, has, same) = st.points other point change id before is in
        (e, keep e has, same)
    by (inr same) = own point change id (subst (λ (l : Text). IsExchange l point change id) (sym same) is)

pub stands_empty : (ids above : List Text) (line : Text) (operator : Operator) → line ≡ [] → StandsFor ids above operator → StandsFor ids (above ++ line ∷ []) operator
stands_empty ids above line operator empty st = record {
  exchanges = λ e there. said_more ids above line (said.Exchange e) (st.exchanges e there);
  neighbours = λ n there. said_more ids above line (said.Neighbour n) (st.neighbours n there);
  changes = λ c there. said_more ids above line (said.Change c) (st.changes c there);
  points = points_more ids above line operator operator st (λ e there. there) (λ point change id is. absurd (none point change id is));
}
  where
    none : (point change id : Text) → IsExchange line point change id → ⊥
    none point change id is = omega (arith, ap length (sym empty ∙ is.0))

pub stands_more : (ids above : List Text) (line : Text) (old new : Operator) (what : OperatorLine)
    → StandsFor ids above old → Says ids line what → Adds old what new → StandsFor ids (above ++ line ∷ []) new
stands_more ids above line old new (said.Exchange x) st s adds = record {
  exchanges = grown (λ e. IsSaid ids (above ++ line ∷ []) (said.Exchange e)) old.exchanges.items new.exchanges.items x adds.0
      (λ e there. said_more ids above line (said.Exchange e) (st.exchanges e there)) (line, Contains-push above line, s);
  neighbours = kept (λ n. IsSaid ids (above ++ line ∷ []) (said.Neighbour n)) old.neighbours.items new.neighbours.items adds.1
      (λ n there. said_more ids above line (said.Neighbour n) (st.neighbours n there));
  changes = kept (λ c. IsSaid ids (above ++ line ∷ []) (said.Change c)) old.changes.items new.changes.items adds.2
      (λ c there. said_more ids above line (said.Change c) (st.changes c there));
  points = points_more ids above line old new st
      (λ e there. subst (λ (l : List Exchange). Contains l e) (sym adds.0) (Contains-append_left old.exchanges.items (x ∷ []) e there))
      (λ point change id is.
      let (change1, id1, whole, seconds, of) = s in
      (x, subst (λ (l : List Exchange). Contains l x) (sym adds.0) (Contains-push old.exchanges.items x), same_point line x.point change1 id1 point change id whole is));
}
stands_more ids above line old new (said.Neighbour x) st s adds = record {
  exchanges = kept (λ e. IsSaid ids (above ++ line ∷ []) (said.Exchange e)) old.exchanges.items new.exchanges.items adds.0
      (λ e there. said_more ids above line (said.Exchange e) (st.exchanges e there));
  neighbours = grown (λ n. IsSaid ids (above ++ line ∷ []) (said.Neighbour n)) old.neighbours.items new.neighbours.items x adds.1
      (λ n there. said_more ids above line (said.Neighbour n) (st.neighbours n there)) (line, Contains-push above line, s);
  changes = kept (λ c. IsSaid ids (above ++ line ∷ []) (said.Change c)) old.changes.items new.changes.items adds.2
      (λ c there. said_more ids above line (said.Change c) (st.changes c there));
  points = points_more ids above line old new st
      (λ e there. subst (λ (l : List Exchange). Contains l e) (sym adds.0) there)
      (λ point change id is. absurd (no_neighbour line x.point x.region s.0 point change id s.1 is));
}
stands_more ids above line old new (said.Change x) st s adds = record {
  exchanges = kept (λ e. IsSaid ids (above ++ line ∷ []) (said.Exchange e)) old.exchanges.items new.exchanges.items adds.0
      (λ e there. said_more ids above line (said.Exchange e) (st.exchanges e there));
  neighbours = kept (λ n. IsSaid ids (above ++ line ∷ []) (said.Neighbour n)) old.neighbours.items new.neighbours.items adds.1
      (λ n there. said_more ids above line (said.Neighbour n) (st.neighbours n there));
  changes = grown (λ c. IsSaid ids (above ++ line ∷ []) (said.Change c)) old.changes.items new.changes.items x adds.2
      (λ c there. said_more ids above line (said.Change c) (st.changes c there)) (line, Contains-push above line, s);
  points = points_more ids above line old new st
      (λ e there. subst (λ (l : List Exchange). Contains l e) (sym adds.0) there)
      (λ point change id is.
      let (change1, id1, whole, seconds, of) = s in
      absurd (no_change line change1 id1 point change id whole is));
}

-- ---- what stands among the lists

any_there : {X : Type 0} (p : X → Bool) (xs : List X) → list_any p xs ≡ true → (x : X) × Contains xs x × (p x ≡ true)
any_there p [] h = absurd (false≢true h)
any_there {X} p (x ∷ xs) h = by (p x) refl h (any_there p xs)
  where
    by : (b : Bool) → p x ≡ b → (b || list_any p xs) ≡ true → (list_any p xs ≡ true → (y : X) × Contains xs y × (p y ≡ true))
        → (y : X) × Contains (x ∷ xs) y × (p y ≡ true)
    by true is e rest = (x, (0, omega arith, refl), is)
    by false is e rest =
        let (y, there, found) = rest e in
        (y, Contains-append_right (x ∷ []) xs y there, found)

any_none : {X : Type 0} (p : X → Bool) (xs : List X) (x : X) → list_any p xs ≡ false → Contains xs x → p x ≡ false
any_none p [] x h there = absurd (omega (arith, there.1))
any_none {X} p (y ∷ ys) x h there = by there.0 there.1 there.2 (any_none p ys x (or_right (p y) (list_any p ys) h))
  where
    by : (k : ℕ) → k < length (y ∷ ys) → get_or (y ∷ ys) k x ≡ x → (Contains ys x → p x ≡ false) → p x ≡ false
    by zero below at rest = ap p (sym at) ∙ or_left (p y) (list_any p ys) h
    by (suc k) below at rest = rest (k, omega (arith, below), at)

is_same : (a b : ℕ) → nat_eq a b ≡ true → a ≡ b
is_same a b h = grind (arith, nat_tests)

pub stop_there : (changes list : List StopChange) (stop : ℕ) → list ≡ changes → list_any (λ other. nat_eq other.stop stop) list ≡ true
    → (other : StopChange) × Contains changes other × (other.stop ≡ stop)
stop_there changes list stop is h =
    let (other, there, same) = any_there (λ (c : StopChange). nat_eq c.stop stop) list h in
    (other, subst (λ (l : List StopChange). Contains l other) is there, is_same other.stop stop same)

and_left : (a b : Bool) → (a && b) ≡ true → a ≡ true
and_left true b h = refl
and_left false b h = h

and_right : (a b : Bool) → (a && b) ≡ true → b ≡ true
and_right true b h = h
and_right false b h = absurd (false≢true h)

pub region_there : (neighbours list : List NeighbourOf) (point region : Text) → list ≡ neighbours
    → list_any (λ other. same other.point point && same other.region region) list ≡ true
    → (other : NeighbourOf) × Contains neighbours other × (other.point ≡ point) × (other.region ≡ region)
unfolding same
region_there neighbours list point region is h =
    let (other, there, equal) = any_there (λ (n : NeighbourOf). same n.point point && same n.region region) list h in (
      other,
      subst (λ (l : List NeighbourOf). Contains l other) is there,
      (bytes_eq-Decides other.point point).0 (and_left (same other.point point) (same other.region region) equal),
      (bytes_eq-Decides other.region region).0 (and_right (same other.point point) (same other.region region) equal),
    )

pub no_point : (exchanges : List Exchange) (point : Text) → list_any (λ other. same other.point point) exchanges ≡ false
    → (other : Exchange) → Contains exchanges other → other.point ≢ point
unfolding same
no_point exchanges point h other there is =
    false≢true (sym (any_none (λ (e : Exchange). same e.point point) exchanges other h there) ∙ (bytes_eq-Decides other.point point).1 is)

-- a line that was added
pub on_added : {T : Type 0} (result : Result T Refused) (ids : List Text) (line : Text) (old new : Operator) (what : OperatorLine)
    → Says ids line what → OnOk result (Adds old what new)
    → OnOk result ((above : List Text) → StandsFor ids above old → StandsFor ids (above ++ line ∷ []) new)
on_added (Ok value) ids line old new what s adds = λ above st. stands_more ids above line old new what st s adds
on_added (Err e) ids line old new what s adds = adds

-- a line that was not
pub on_clash : {T : Type 0} (result : Result T Refused) (code : Text) (ids : List Text) (line : Text) (old : Operator) (what : OperatorLine)
    → Says ids line what → IfErr result (IsFor (IsClash old what))
    → IfErr result (IsFor (λ reason. (above : List Text) → StandsFor ids above old → IsLineCause code ids above line reason))
on_clash (Ok value) code ids line old what s h = h
on_clash (Err (For reason)) code ids line old what s h = λ above st. clash_cause code ids above line old what reason st s h
on_clash (Err NoMemory) code ids line old what s h = tt

-- a word that is another
pub not_word : (word slice name : Text) (equal : Bool) → equal ≡ bytes_eq word slice → equal ≡ false → slice ≡ name → word ≢ name
not_word word slice name equal is none same word_is = false≢true (sym none ∙ is ∙ (bytes_eq-Decides word slice).1 (word_is ∙ sym same))
