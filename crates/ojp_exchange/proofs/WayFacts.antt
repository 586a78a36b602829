-- Which places of a region lead on.
use Rattle.std.proofs.Common.{◌≡◌, ℕ, zero, suc, ◌+◌, ◌<◌, ◌&&◌, Bool, true, false, cond, List, [], ◌∷◌, ◌++◌, Some, map, length, refl, sym, ◌∙◌, ap, subst, arith, slice_get, slice_index, nat_lt, inl, inr, true≢false}
use Rattle.std.specs.List.{filter, range_with_len}
use Rattle.std.specs.Option.{option_map_or}
use Rattle.std.proofs.lemmas.Bool.{and_parts, cases_Bool, cases_lt, lt-ltb, ltb-true}
use Rattle.std.proofs.lemmas.List.{append_assoc, length-map}
use Rattle.std.proofs.lemmas.List.Elements.{filter-append}
use Rattle.std.proofs.lemmas.Option.{same_Some, slice_get_within}
use Rattle.ojp_values.specs.Lists.{Among, Pairwise}
use Rattle.ojp_values.specs.Texts.{Text, same}
use Rattle.ojp_values.specs.declared.trips.Point.{Point}
use Rattle.ojp_timetable.proofs.AmongFacts.{any_true}
use Rattle.ojp_timetable.proofs.ReadFacts.{among_at, at_among}
use Rattle.ojp_timetable.proofs.TextFacts.{same_is}
use Rattle.ojp_exchange.specs.declared.spots.Edge.{Edge}
use Rattle.ojp_exchange.specs.Book.{Book, Link, Spot, has_region, leads_out}
use Rattle.ojp_exchange.specs.Kept.{AreKept, IsPointAt, IsWellBook, book_of, link_of, links_of, spot_of}
use Rattle.ojp_exchange.specs.Places.{AreEdges, AreWays, IsEdge, IsNoCode, IsSpotAt, leads_on}
use Rattle.ojp_exchange.specs.Tables.{AreChanges, IsChangeAt, IsEdgeTable, is_way, part, ways_in}
use Rattle.ojp_exchange.proofs.BookFacts.{leads_out_is, region_is}
use Rattle.ojp_exchange.proofs.JoinFacts.{link_says}
use Rattle.ojp_exchange.proofs.MadeFacts.{flat_among, map_among}
use Rattle.ojp_exchange.proofs.PlaceFacts.{only_point}
use Rattle.ojp_exchange.proofs.SpotFacts.{declaring_at, known_at, pair_at, pair_point, point_at}
use Rattle.ojp_exchange.proofs.TableFacts.{none_in, some_in}

-- ---- the changes from a point are the edges of its place

change_edge : (codes : List Text) (points : List Point) (from to change : ℕ) → IsChangeAt points from to change → IsEdge (book_of codes points) from to change
change_edge codes points from to change it = record {
  link = link_of it.there it.neighbour;
  listed = flat_among links_of points it.there (link_of it.there it.neighbour) (among_at points to it.there it.there_at) (map_among (link_of it.there) it.there.neighbours it.neighbour it.declared);
  time = it.time;
  arrives = pair_at codes points from it.there.stop it.neighbour.code (record { point = it.here; at = it.here_at; stop_is = sym it.one_stop; region_is = sym it.code });
  leaves = pair_at codes points to it.there.stop it.there.region (record { point = it.there; at = it.there_at; stop_is = refl; region_is = refl });
}

edge_change : (codes : List Text) (points : List Point) (from to change : ℕ) → AreKept codes points → IsEdge (book_of codes points) from to change → IsChangeAt points from to change
edge_change codes points from to change kept e =
    let says = link_says points e.link e.listed in
    let here : IsPointAt points e.link.stop e.link.other from = pair_point codes points from e.link.stop e.link.other e.arrives in
    let there : IsPointAt points e.link.stop e.link.region to = pair_point codes points to e.link.stop e.link.region e.leaves in
    let one : says.point ≡ there.point =
    only_point points says.point there.point kept.rise says.listed (among_at points to there.point there.at) (says.at ∙ sym there.stop_is) (says.of ∙ sym there.region_is) in
    record {
      here = here.point;
      here_at = here.at;
      there = there.point;
      there_at = there.at;
      one_stop = there.stop_is ∙ sym here.stop_is;
      neighbour = says.neighbour;
      declared = subst (λ (p : Point). Among says.neighbour p.neighbours) one says.declared;
      code = says.code ∙ sym here.region_is;
      time = says.time ∙ e.time;
    }

pub are_edges : (codes : List Text) (points : List Point) (place : ℕ) (edges : List Edge) → AreKept codes points → AreChanges points place edges → AreEdges (book_of codes points) place edges
are_edges codes points place edges kept are to change = (
  (λ a. change_edge codes points place to change ((are to change).0 a)),
  (λ e. (are to change).1 (edge_change codes points place to change kept e)),
)

-- ---- a place leads on where it has edges

edge_leads : (book : Book) (place to change : ℕ) (spot : Spot) → IsWellBook book → IsSpotAt book place spot → IsEdge book place to change → leads_out book spot.region spot.stop ≡ true
edge_leads book place to change spot well at edge =
    let here : edge.arrives.spot ≡ spot = same_Some edge.arrives.spot spot (sym edge.arrives.at ∙ at) in
    let stop_is : edge.link.stop ≡ spot.stop = sym edge.arrives.stop_is ∙ ap (λ (s : Spot). s.stop) here in
    let other_is : edge.link.other ≡ spot.region = sym edge.arrives.region_is ∙ ap (λ (s : Spot). s.region) here in
    let known : Among edge.link.other book.codes = subst (λ (t : Text). Among t book.codes) (sym other_is) (known_at book place spot well at) in
    let back = well.sound.agreed edge.link edge.listed known in
    let from : Among back.0.other book.codes = subst (λ (t : Text). Among t book.codes) (edge.leaves.region_is ∙ sym back.4) (known_at book to edge.leaves.spot well edge.leaves.at) in
    subst (λ (t : Text). leads_out book t spot.stop ≡ true) (back.3 ∙ other_is)
    (subst (λ (t : Text). leads_out book back.0.region t ≡ true) (back.2 ∙ stop_is) (leads_out_is book back.0 back.1 from))

leads_edge : (book : Book) (place : ℕ) (spot : Spot) → IsWellBook book → IsSpotAt book place spot → leads_out book spot.region spot.stop ≡ true → (to : ℕ) × (change : ℕ) × IsEdge book place to change
unfolding leads_out
leads_edge book place spot well at leads =
    let has = any_true (λ (link : Link). same spot.region link.region && (same spot.stop link.stop && has_region book link.other)) book.links leads in
    let parts : (same spot.region has.0.region ≡ true) × (same spot.stop has.0.stop && has_region book has.0.other ≡ true) = and_parts _ _ has.2 in
    let more : (same spot.stop has.0.stop ≡ true) × (has_region book has.0.other ≡ true) = and_parts _ _ parts.1 in
    let back = well.sound.agreed has.0 has.1 (region_is book has.0.other more.1) in
    let there = declaring_at book back.0 well back.1 in (
      there.0,
      back.0.change,
      (record {
        link = back.0;
        listed = back.1;
        time = refl;
        arrives = record {
          spot = spot;
          at = at;
          stop_is = same_is spot.stop has.0.stop more.0 ∙ sym back.2;
          region_is = same_is spot.region has.0.region parts.0 ∙ sym back.4;
        };
        leaves = there.1;
      }),
    )

-- whether a place leads on is read off the table of edges
leads_by : (codes : List Text) (points : List Point) (edges : List Edge) (firsts : List ℕ) (place : ℕ) (spot : Spot) → AreKept codes points → IsWellBook (book_of codes points) → IsEdgeTable points edges firsts
    → IsSpotAt (book_of codes points) place spot → nat_lt (slice_index firsts place) (slice_index firsts (place + 1)) ≡ leads_out (book_of codes points) spot.region spot.stop
leads_by codes points edges firsts place spot kept well table at =
    let book = book_of codes points in
    let within : place < length points = omega (arith, slice_get_within (map spot_of points) place spot at, length-map points spot_of) in
    let bounds = table.parts place within in
    let are = are_edges codes points place (part edges firsts place) kept (table.right place within) in
    let a = slice_index firsts place in
    let b = slice_index firsts (place + 1) in
    elim (cases_lt a b) [
      | inl l ↦
          let some = some_in edges a b l bounds.within in
          lt-ltb a b l ∙ sym (edge_leads book place some.0.to some.0.change spot well at ((are some.0.to some.0.change).0 some.1))
      | inr g ↦ elim (cases_Bool (leads_out book spot.region spot.stop)) [
        | inl t ↦
            let edge = leads_edge book place spot well at t in
            absurd (subst (λ (es : List Edge). Among (record { to = edge.0; change = edge.1 }) es) (none_in edges a b g) ((are edge.0 edge.1).1 edge.2))
        | inr t ↦ elim (cases_Bool (nat_lt a b)) [ inl less ↦ absurd (omega (arith, ltb-true a b less, g)) | inr other ↦ other ∙ sym t ]
      ]
    ]

-- ---- the places of a region that lead on

-- numbers that pass a test stand at the elements that pass one
filtered : {X : Type 0} (all rest : List X) (k : ℕ) (test : ℕ → Bool) (p : X → Bool) → ((i : ℕ) (x : X) → slice_get rest i ≡ Some x → (slice_get all (k + i) ≡ Some x) × (test (k + i) ≡ p x))
    → Pairwise (λ (place : ℕ) (x : X). slice_get all place ≡ Some x) (filter test (range_with_len k (length rest))) (filter p rest)
filtered all [] k test p h = tt
filtered {X = X} all (x ∷ xs) k test p h =
    let zero_is : k + 0 ≡ k = omega arith in
    let here = h zero x refl in
    pick (test k) (p x) (sym (ap test zero_is) ∙ here.1) (sym (ap (slice_get all) zero_is) ∙ here.0)
    (filtered all xs (k + 1) test p (λ i y at.
    let n : k + suc i ≡ k + 1 + i = omega arith in
    let there = h (suc i) y at in
    (sym (ap (slice_get all) n) ∙ there.0, sym (ap test n) ∙ there.1)))
  where
    pick : (b c : Bool) → b ≡ c → slice_get all k ≡ Some x → Pairwise (λ (place : ℕ) (y : X). slice_get all place ≡ Some y) (filter test (range_with_len (k + 1) (length xs))) (filter p xs)
        → Pairwise (λ (place : ℕ) (y : X). slice_get all place ≡ Some y) (cond b (k ∷ filter test (range_with_len (k + 1) (length xs))) (filter test (range_with_len (k + 1) (length xs)))) (cond c (x ∷ filter p xs) (filter p xs))
    pick true true e at more = (at, more)
    pick false false e at more = more
    pick true false e at more = absurd (true≢false e)
    pick false true e at more = absurd (true≢false (sym e))

way_leads : (codes : List Text) (points : List Point) (edges : List Edge) (firsts : List ℕ) (code : Text) (place : ℕ) (spot : Spot) → AreKept codes points → IsWellBook (book_of codes points) → IsEdgeTable points edges firsts
    → IsSpotAt (book_of codes points) place spot → is_way points firsts code place ≡ leads_on (book_of codes points) code spot
way_leads codes points edges firsts code place spot kept well table at =
    let book = book_of codes points in
    let found = point_at points place spot at in
    let leads = leads_by codes points edges firsts place spot kept well table at in
    ap (λ (o : _). option_map_or (λ (point : Point). same code point.region) o false && nat_lt (slice_index firsts place) (slice_index firsts (place + 1))) found.1
    ∙ (ap (λ (s : Spot). same code s.region && nat_lt (slice_index firsts place) (slice_index firsts (place + 1))) found.2
    ∙ (ap (λ (b : Bool). same code spot.region && b) leads ∙ here (same code spot.region) refl))
  where
    here : (b : Bool) → same code spot.region ≡ b → (b && leads_out (book_of codes points) spot.region spot.stop) ≡ (b && leads_out (book_of codes points) code spot.stop)
    here true e = ap (λ (t : Text). leads_out (book_of codes points) t spot.stop) (sym (same_is code spot.region e))
    here false e = refl

pub are_ways : (codes : List Text) (points : List Point) (edges : List Edge) (firsts : List ℕ) (code : Text) → AreKept codes points → IsWellBook (book_of codes points) → IsEdgeTable points edges firsts
    → AreWays (book_of codes points) code (ways_in points firsts code)
are_ways codes points edges firsts code kept well table =
    let spots = map spot_of points in
    subst (λ (n : ℕ). Pairwise (IsSpotAt (book_of codes points)) (filter (is_way points firsts code) (range_with_len 0 n)) (filter (leads_on (book_of codes points) code) spots)) (length-map points spot_of)
    (filtered spots spots 0 (is_way points firsts code) (leads_on (book_of codes points) code) (λ i spot at.
    let n : i ≡ 0 + i = omega arith in (
      subst (λ (k : ℕ). slice_get spots k ≡ Some spot) n at,
      ap (is_way points firsts code) (sym n) ∙ way_leads codes points edges firsts code i spot kept well table at,
    )))

-- ---- the ways that were found so far

range_more : (a n : ℕ) → range_with_len a (suc n) ≡ range_with_len a n ++ (a + n) ∷ []
range_more a zero = let n : a ≡ a + 0 = omega arith in ap (λ (k : ℕ). k ∷ []) n
range_more a (suc n) =
    let k : a + 1 + n ≡ a + suc n = omega arith in
    ap (λ (ks : List ℕ). a ∷ ks) (range_more (a + 1) n) ∙ ap (λ (m : ℕ). a ∷ range_with_len (a + 1) n ++ m ∷ []) k

filter_more : (test : ℕ → Bool) (place : ℕ) (b : Bool) → test place ≡ b → filter test (range_with_len 0 (place + 1)) ≡ filter test (range_with_len 0 place) ++ cond b (place ∷ []) []
filter_more test place b e =
    let n : place + 1 ≡ suc place = omega arith in
    let m : 0 + place ≡ place = omega arith in
    ap (λ (k : ℕ). filter test (range_with_len 0 k)) n
    ∙ (ap (filter test) (range_more 0 place ∙ ap (λ (k : ℕ). range_with_len 0 place ++ k ∷ []) m)
    ∙ (filter-append test (range_with_len 0 place) (place ∷ []) ∙ ap (λ (c : Bool). filter test (range_with_len 0 place) ++ cond c (place ∷ []) []) e))

append_none : {X : Type 0} (xs : List X) → xs ++ [] ≡ xs
append_none [] = refl
append_none (x ∷ xs) = ap (λ (ys : _). x ∷ ys) (append_none xs)

pub way_taken : (test : ℕ → Bool) (old ways ways' : List ℕ) (place : ℕ) → ways ≡ old ++ filter test (range_with_len 0 place) → test place ≡ true → ways' ≡ ways ++ place ∷ []
    → ways' ≡ old ++ filter test (range_with_len 0 (place + 1))
way_taken test old ways ways' place are e pushed =
    pushed ∙ (ap (λ (ws : List ℕ). ws ++ place ∷ []) are ∙ (append_assoc old (filter test (range_with_len 0 place)) (place ∷ []) ∙ ap (λ (ws : List ℕ). old ++ ws) (sym (filter_more test place true e))))

pub way_passed : (test : ℕ → Bool) (old ways ways' : List ℕ) (place : ℕ) → ways ≡ old ++ filter test (range_with_len 0 place) → test place ≡ false → ways' ≡ ways → ways' ≡ old ++ filter test (range_with_len 0 (place + 1))
way_passed test old ways ways' place are e stays =
    stays ∙ (are ∙ ap (λ (ws : List ℕ). old ++ ws) (sym (filter_more test place false e ∙ append_none (filter test (range_with_len 0 place)))))

-- a code that the book lacks has none
pub no_ways : (book : Book) (code : Text) → IsWellBook book → IsNoCode book.codes code → AreWays book code []
no_ways book code well none = subst (λ (spots : List Spot). Pairwise (IsSpotAt book) [] spots) (sym (filter_none (leads_on book code) book.spots other)) tt
  where
    filter_none : {X : Type 0} (p : X → Bool) (xs : List X) → ((x : X) → Among x xs → p x ≡ false) → filter p xs ≡ []
    filter_none p [] h = refl
    filter_none p (x ∷ xs) h = ap (λ (b : Bool). cond b (x ∷ filter p xs) (filter p xs)) (h x (inl refl)) ∙ filter_none p xs (λ y a. h y (inr a))

    other : (spot : Spot) → Among spot book.spots → leads_on book code spot ≡ false
    other spot a = elim (cases_Bool (same code spot.region)) [
      | inl t ↦
          let at = at_among book.codes spot.region (well.known spot a) in
          absurd (none at.0 (at.1 ∙ ap Some (sym (same_is code spot.region t))))
      | inr t ↦ ap (λ (b : Bool). b && leads_out book code spot.stop) t
    ]

-- ---- as they are read off the tables

pub edges_seen : (book seen : Book) (place : ℕ) (part edges : List Edge) → book ≡ seen → edges ≡ part → AreEdges book place part → AreEdges seen place edges
edges_seen book seen place part edges e f are = subst (λ (b : Book). AreEdges b place edges) e (subst (λ (es : List Edge). AreEdges book place es) (sym f) are)

pub ways_seen : (book seen : Book) (region : Text) (part ways : List ℕ) → book ≡ seen → ways ≡ part → AreWays book region part → AreWays seen region ways
ways_seen book seen region part ways e f are = subst (λ (b : Book). AreWays b region ways) e (subst (λ (ws : List ℕ). AreWays book region ws) (sym f) are)
