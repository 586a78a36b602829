-- The regions of a network agree, so that they make a book.
use Rattle.std.proofs.Common.{◌≡◌, ◌⊎◌, inl, inr, ℕ, suc, ◌+◌, ◌-◌, ◌*◌, ◌≤◌, Bool, true, false, ◌&&◌, ◌||◌, cond, nat_eq, nat_le, List, [], ◌∷◌, length, length-append, map, refl, sym, ◌∙◌, ap, subst, arith}
use Rattle.std.specs.List.{flat_map, range_with_len}
use Rattle.std.proofs.lemmas.List.{length-map}
use Rattle.std.specs.List.Sorted.{IsPermutation}
use Rattle.std.proofs.lemmas.List.Sorted.{IsPermutation-refl}
use Rattle.std.proofs.lemmas.Bool.{cases_Bool, eqb-true, leb-true}
use Rattle.ojp_values.specs.Lists.{Among, Each, IsRising}
use Rattle.ojp_values.specs.Texts.{Text, same, text_lt}
use Rattle.ojp_values.specs.declared.trips.Neighbour.{Neighbour}
use Rattle.ojp_values.specs.declared.trips.Point.{Point}
use Rattle.ojp_values.proofs.ListFacts.{among_flat_map, among_map as map_listed}
use Rattle.ojp_values.proofs.Escapes.{and_true_left, and_true_right}
use Rattle.ojp_timetable.specs.Tables.{Timetable}
use Rattle.ojp_timetable.proofs.Orders.{IsOrder, text_order, then_order}
use Rattle.ojp_exchange.specs.Book.{Book, HasLink, HasReturn, HasSpot, IsBookOf, Link, Spot, points_of, spot_lt}
use Rattle.ojp_exchange.specs.Joins.{HaveOwnCodes}
use Rattle.ojp_exchange.specs.Kept.{stops_of}
use Rattle.ojp_exchange.specs.declared.region_points.RegionPoints.{RegionPoints}
use Rattle.ojp_exchange.specs.declared.refusals.BookRefused.TheVariants as refusals
use Rattle.ojp_exchange.proofs.MadeFacts.{among_map, code_list, map_among, own_codes}
use Rattle.ojp_links.specs.Seen.{region_of_table}
use Rattle.ojp_network.specs.Draws.{state_after}
use Rattle.ojp_network.specs.Regions.{higher_point, joined_region, lower_point, minutes, region_code, shared_neighbour, shared_point, shared_stop}
use Rattle.ojp_network_laws.specs.Laws.{AreTables, BooksJoin, all_points}
use Rattle.ojp_network_laws.proofs.Numbered.{AreNumbered, IsDrawn, at_number, codes_rise, has_number, numbered}
use Rattle.ojp_network_laws.proofs.Ring.{in_range}

-- ---- the ring is closed: what a region declares is declared by the other too

abbrev Returns : ℕ → ℕ → Bool
Returns region point =
    let other = joined_region region point in
    (nat_eq point (lower_point other) || nat_eq point (higher_point other)) && nat_eq (joined_region other point) region && nat_le 1 other && nat_le other 12

all_return : Each (λ (region : ℕ). (Returns region (lower_point region) ≡ true) × (Returns region (higher_point region) ≡ true)) (range_with_len 1 12)
all_return = ((refl, refl), ((refl, refl), ((refl, refl), ((refl, refl), ((refl, refl), ((refl, refl), ((refl, refl), ((refl, refl), ((refl, refl), ((refl, refl), ((refl, refl), ((refl, refl), tt))))))))))))

pub record IsReturned (region point : ℕ) : Type 0 where
  pub at : (point ≡ lower_point (joined_region region point)) ⊎ (point ≡ higher_point (joined_region region point))
  pub back : joined_region (joined_region region point) point ≡ region
  pub low : 1 ≤ joined_region region point
  pub high : joined_region region point ≤ 12

either : (n a b : ℕ) → (nat_eq n a || nat_eq n b) ≡ true → (n ≡ a) ⊎ (n ≡ b)
either n a b h = elim (cases_Bool (nat_eq n a)) [
  | inl e ↦ inl (eqb-true n a e)
  | inr e ↦ inr (eqb-true n b (ap (λ c. c || nat_eq n b) (sym e) ∙ h))
]

returned : (region point : ℕ) → Returns region point ≡ true → IsReturned region point
returned region point h =
    let other = joined_region region point in
    let a = and_true_left _ _ h in
    let b = and_true_left _ _ a in
    record {
      at = either point (lower_point other) (higher_point other) (and_true_left _ _ b);
      back = eqb-true _ _ (and_true_right _ _ b);
      low = leb-true _ _ (and_true_right _ _ a);
      high = leb-true _ _ (and_true_right _ _ h);
    }

both_returned : (region : ℕ) → 1 ≤ region → region ≤ 12 → IsReturned region (lower_point region) × IsReturned region (higher_point region)
both_returned region low high =
    let h = in_range (λ (r : ℕ). (Returns r (lower_point r) ≡ true) × (Returns r (higher_point r) ≡ true)) 1 12 all_return region low (omega (arith, high)) in
    (returned region (lower_point region) h.0, returned region (higher_point region) h.1)

-- ---- a rising list is no longer than a list that has all its elements

module _ {X : Type 0} (lt tie : X → X → Bool) (order : IsOrder lt tie) where
  -- a list without one of its elements
  record Without (x : X) (ys : List X) : Type 0 where
    rest : List X
    shorter : length ys ≡ suc (length rest)
    others : (z : X) → Among z ys → (z ≡ x → ⊥) → Among z rest

  without : (x : X) (ys : List X) → Among x ys → Without x ys
  without x [] h = absurd h
  without x (y ∷ ys) (inl e) = record {
    rest = ys;
    shorter = refl;
    others = λ z a differ. elim a [ inl f ↦ absurd (differ (f ∙ sym e)) | inr later ↦ later ];
  }
  without x (y ∷ ys) (inr later) =
      let w = without x ys later in
      record {
        rest = y ∷ w.rest;
        shorter = ap suc w.shorter;
        others = λ z a differ. elim a [ inl f ↦ inl f | inr k ↦ inr (w.others z k differ) ];
      }

  among_each : (P : X → Type 0) (z : X) (xs : List X) → Each P xs → Among z xs → P z
  among_each P z [] h a = absurd a
  among_each P z (x ∷ xs) h (inl e) = subst P (sym e) h.0
  among_each P z (x ∷ xs) h (inr later) = among_each P z xs h.1 later

  fits : (xs ys : List X) → IsRising lt xs → ((x : X) → Among x xs → Among x ys) → length xs ≤ length ys
  fits [] ys rise all = omega arith
  fits (x ∷ xs) ys rise all =
      let w = without x ys (all x (inl refl)) in
      let apart : (z : X) → Among z xs → z ≡ x → ⊥ =
      λ z a e. order.apart x x (subst (λ (y : X). lt x y ≡ true) e (among_each (λ (y : X). lt x y ≡ true) z xs rise.0 a)) (order.itself x) in
      let less = fits xs w.rest rise.1 (λ z a. w.others z (all z (inr a)) (apart z a)) in
      omega (arith, less, w.shorter)

stops_short : (spots : List Spot) → length (stops_of spots) ≤ length spots
stops_short [] = omega arith
stops_short (spot ∷ []) = omega arith
stops_short (spot ∷ next ∷ more) = by_test (same spot.stop next.stop) (stops_short (next ∷ more))
  where
    by_test : (b : Bool) → length (stops_of (next ∷ more)) ≤ length (next ∷ more) → length (cond b (stops_of (next ∷ more)) (spot.stop ∷ stops_of (next ∷ more))) ≤ length (spot ∷ next ∷ more)
    by_test true less = omega (arith, less)
    by_test false less = omega (arith, less)

-- ---- there are few exchange points

spot_order : IsOrder spot_lt (λ (x : Spot) (y : Spot). same x.stop y.stop && same x.region y.region)
spot_order =
    then_order (λ (x : Spot) (y : Spot). text_lt x.stop y.stop) (λ (x : Spot) (y : Spot). same x.stop y.stop) _ _ (text_order (λ (x : Spot). x.stop))
    (text_order (λ (x : Spot). x.region))

abbrev spot_at : Text → Point → Spot
spot_at code point = record { stop = point.stop; region = code; change = point.change }

abbrev spots_of : RegionPoints → List Spot
spots_of list = map (spot_at list.code) list.points

spot_listed : (lists : List RegionPoints) (spot : Spot) → HasSpot lists spot → Among spot (flat_map spots_of lists)
spot_listed lists spot h =
    let is : spot_at h.list.code h.point ≡ spot = λ i. record { stop = h.at i; region = h.code i; change = h.time i } in
    subst (λ (s : Spot). Among s (flat_map spots_of lists)) is
    (among_flat_map spots_of h.list (spot_at h.list.code h.point) lists h.of_lists (map_listed (spot_at h.list.code) h.point h.list.points h.listed))

few_spots : (lists : List RegionPoints) → Each (λ (list : RegionPoints). length list.points ≤ 2) lists → length (flat_map spots_of lists) ≤ 2 * length lists
few_spots [] h = omega arith
few_spots (list ∷ lists) h = omega (arith, length-append (spots_of list) (flat_map spots_of lists), length-map list.points (spot_at list.code), h.0, few_spots lists h.1)

two_points : (number a : ℕ) (tables : List Timetable) → AreNumbered (IsDrawn number) a tables → Each (λ (list : RegionPoints). length list.points ≤ 2) (map points_of tables)
two_points number a [] h = tt
two_points number a (table ∷ tables) h =
    let same : length table.points ≡ 2 = ap (λ (t : Timetable). length t.points) h.0 in
    (omega (arith, same), two_points number (a + 1) tables h.1)

-- ---- each declaration is returned

-- the book has a link of the region at the point
abbrev HasOne : Book → ℕ → ℕ → Type 0
HasOne book region point =
    (link : Link) × Among link book.links × (link.stop ≡ shared_stop point) × (link.region ≡ region_code region) × (link.other ≡ region_code (joined_region region point))

one_link : (number i : ℕ) (tables : List Timetable) (book : Book) → IsBookOf (map points_of tables) book → (table : Timetable) → Among table tables → IsDrawn number i table → (z point : ℕ)
    → Among (shared_point z (i + 1) point) (all_points (state_after number (1954 * i)) (i + 1)) → HasOne book (i + 1) point
one_link number i tables book of table among is z point listed =
    let link : Link = record { stop = shared_stop point; region = region_code (i + 1); other = region_code (joined_region (i + 1) point); change = minutes z 1 10 } in (
      link,
      (of.links link).1 (record {
        list = points_of table;
        of_lists = map_among points_of tables table among;
        code = ap (λ (t : Timetable). t.region) is;
        point = shared_point z (i + 1) point;
        listed = subst (λ (t : Timetable). Among (shared_point z (i + 1) point) t.points) (sym is) listed;
        at = refl;
        neighbour = shared_neighbour z (i + 1) point;
        declared = inl refl;
        other = refl;
        time = refl;
      }),
      refl,
      refl,
      refl,
    )

one_at : (number i : ℕ) (tables : List Timetable) (book : Book) → IsBookOf (map points_of tables) book → (table : Timetable) → Among table tables → IsDrawn number i table → (point : ℕ)
    → (point ≡ lower_point (i + 1)) ⊎ (point ≡ higher_point (i + 1)) → HasOne book (i + 1) point
one_at number i tables book of table among is point (inl e) =
    subst (HasOne book (i + 1)) (sym e) (one_link number i tables book of table among is (state_after (state_after number (1954 * i)) 30) (lower_point (i + 1)) (inl refl))
one_at number i tables book of table among is point (inr e) =
    subst (HasOne book (i + 1)) (sym e) (one_link number i tables book of table among is (state_after (state_after number (1954 * i)) 32) (higher_point (i + 1)) (inr (inl refl)))

module _ (number : ℕ) (tables : List Timetable) (is : AreTables number tables) (book : Book) (of : IsBookOf (map points_of tables) book) where
  one_of : (region point : ℕ) → 1 ≤ region → region ≤ 12 → (point ≡ lower_point region) ⊎ (point ≡ higher_point region) → HasOne book region point
  one_of region point low high at =
      let n = numbered number tables is in
      let i = region - 1 in
      let same : i + 1 ≡ region = omega (arith, low) in
      let found = at_number (IsDrawn number) 0 tables n.0 i (omega arith) (omega (arith, low, high, n.1)) in
      subst (λ (r : ℕ). HasOne book r point) same
      (one_at number i tables book of found.0 found.1 found.2 point (subst (λ (r : ℕ). (point ≡ lower_point r) ⊎ (point ≡ higher_point r)) (sym same) at))

  -- what a region declares at one of its points is declared back
  back_of : (link : Link) (region point : ℕ) → IsReturned region point → link.stop ≡ shared_stop point → link.region ≡ region_code region → link.other ≡ region_code (joined_region region point)
      → HasReturn book link
  back_of link region point r at here there =
      let one = one_of (joined_region region point) point r.low r.high r.at in
      (one.0, one.1, one.2 ∙ sym at, one.3 ∙ sym there, one.4 ∙ (ap (λ (n : ℕ). region_code n) r.back ∙ sym here))

  link_back : (link : Link) → HasLink (map points_of tables) link → HasReturn book link
  link_back link h =
      let n = numbered number tables is in
      let from = among_map points_of tables h.list h.of_lists in
      let at = has_number (IsDrawn number) 0 tables n.0 from.0 from.1 in
      let k = at.0 in
      let small : k + 1 ≤ 12 = omega (arith, at.2, n.1) in
      let both = both_returned (k + 1) (omega arith) small in
      let code : h.list.code ≡ region_code (k + 1) = ap (λ (l : RegionPoints). l.code) (sym from.2) ∙ ap (λ (t : Timetable). t.region) at.3 in
      let points : h.list.points ≡ all_points (state_after number (1954 * k)) (k + 1) = ap (λ (l : RegionPoints). l.points) (sym from.2) ∙ ap (λ (t : Timetable). t.points) at.3 in
      by_point k code both (subst (Among h.point) points h.listed)
    where
      at_point : (y region point : ℕ) → IsReturned region point → h.list.code ≡ region_code region → h.point ≡ shared_point y region point → HasReturn book link
      at_point y region point r code e =
          let declared : Among h.neighbour (shared_neighbour y region point ∷ []) = subst (λ (p : Point). Among h.neighbour p.neighbours) e h.declared in
          let other : h.neighbour.code ≡ region_code (joined_region region point) = elim declared [ inl f ↦ ap (λ (m : Neighbour). m.code) f | inr k ↦ absurd k ] in
          back_of link region point r (sym h.at ∙ ap (λ (p : Point). p.stop) e) (sym h.code ∙ code) (sym h.other ∙ other)

      by_point : (k : ℕ) → h.list.code ≡ region_code (k + 1) → IsReturned (k + 1) (lower_point (k + 1)) × IsReturned (k + 1) (higher_point (k + 1)) → Among h.point (all_points (state_after number (1954 * k)) (k + 1)) → HasReturn book link
      by_point k code both (inl e) = at_point (state_after (state_after number (1954 * k)) 30) (k + 1) (lower_point (k + 1)) both.0 code e
      by_point k code both (inr (inl e)) = at_point (state_after (state_after number (1954 * k)) 32) (k + 1) (higher_point (k + 1)) both.1 code e
      by_point k code both (inr (inr h)) = absurd h

-- ---- the book

codes_listed : (tables : List Timetable) → code_list (map points_of tables) ≡ map region_of_table tables
codes_listed [] = refl
codes_listed (table ∷ tables) = ap (λ (codes : List Text). table.region ∷ codes) (codes_listed tables)

own : (number : ℕ) (tables : List Timetable) → AreTables number tables → HaveOwnCodes (map points_of tables)
own number tables h =
    own_codes (map points_of tables) (map region_of_table tables) (subst (λ (codes : List Text). IsPermutation codes (map region_of_table tables)) (sym (codes_listed tables)) (IsPermutation-refl (map region_of_table tables)))
    (codes_rise number tables h)

few_stops : (number : ℕ) (tables : List Timetable) → AreTables number tables → (book : Book) → IsBookOf (map points_of tables) book → length (stops_of book.spots) ≤ 24
few_stops number tables h book of =
    let n = numbered number tables h in
    let lists = map points_of tables in
    let all = fits spot_lt _ spot_order book.spots (flat_map spots_of lists) of.spots_rise (λ spot a. spot_listed lists spot ((of.spots spot).0 a)) in
    let few = few_spots lists (two_points number 0 tables n.0) in
    omega (arith, all, few, stops_short book.spots, length-map tables points_of, n.1)

pub books_join : BooksJoin
books_join number tables h (refusals.TwiceRegion code) r other = omega (arith, own number tables h code, r.twice)
books_join number tables h refusals.TooMany (apart, inl more) other = omega (arith, more, length-map tables points_of, (numbered number tables h).1)
books_join number tables h refusals.TooMany (apart, inr (book, of, more)) other = omega (arith, more, few_stops number tables h book of)
books_join number tables h (refusals.Disagree point left right) r other =
    let one = r.first.one_sided in
    one.2 (link_back number tables h r.book r.book_of r.first.link ((r.book_of.links r.first.link).0 one.0))
books_join number tables h refusals.NoMemory r other = other refl
