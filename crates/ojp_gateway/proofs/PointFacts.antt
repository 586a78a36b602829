-- The points of the book are those that the timetables declare, in their order.
use Rattle.std.proofs.Common.{◌≡◌, Bool, true, List, [], ◌∷◌, map, Option, Some, None, refl, sym, ◌∙◌, ap, subst, inl, inr}
use Rattle.std.specs.List.{flat_map}
use Rattle.ojp_values.specs.Lists.{Among, IsRising}
use Rattle.ojp_values.specs.Texts.{Text, same}
use Rattle.ojp_values.specs.declared.trips.Neighbour.{Neighbour}
use Rattle.ojp_values.specs.declared.trips.Point.{Point}
use Rattle.ojp_values.specs.declared.replies.Delivery.{Delivery}
use Rattle.ojp_values.proofs.ListFacts.{Member, among_map, among_map_back, among_flat_map, each_at}
use Rattle.ojp_timetable.specs.Tables.{Timetable}
use Rattle.ojp_timetable.specs.Journeys.{Declares}
use Rattle.ojp_timetable.specs.Points.{AreWellPoints, IsPointOf, neighbour_lt, point_lt}
use Rattle.ojp_timetable.specs.GatewayAnswers.{AreAllPoints, IsDeclaredBy, PointsByTables, entries_answer}
use Rattle.ojp_timetable.proofs.Orders.{IsOrder, text_order}
use Rattle.ojp_timetable.proofs.TextFacts.{is_same}
use Rattle.ojp_exchange.specs.declared.region_points.RegionPoints.{RegionPoints}
use Rattle.ojp_exchange.specs.Book.{Book, HasSpot, Spot, points_of}
use Rattle.ojp_exchange.specs.Kept.{ArePointsOf, Says, link_of, links_of, points_at, spot_of}
use Rattle.ojp_exchange.proofs.BookFacts.{LinkOf, SpotTable, link_declares, link_listed, one_table, spot_listed, spot_table}
use Rattle.ojp_exchange.proofs.JoinFacts.{link_says}
use Rattle.ojp_exchange.proofs.PlaceFacts.{only_point}
use Rattle.ojp_exchange.proofs.RisingFacts.{rising_once}
use Rattle.ojp_records.specs.Headline.{AreTablesOf}
use Rattle.ojp_gateway.specs.Answers.{PointsByBook, delivery_of_points}

-- ---- lists that rise and have the same elements are the same

module _ {X : Type 0} (lt tie : X → X → Bool) (order : IsOrder lt tie) where
  not_before : (x : X) → lt x x ≡ true → ⊥
  not_before x less = order.apart x x less (order.itself x)

  first_alike : (x y : X) (xs ys : List X) → IsRising lt (x ∷ xs) → IsRising lt (y ∷ ys) → Among x (y ∷ ys) → Among y (x ∷ xs) → x ≡ y
  first_alike x y xs ys a b (inl e) back = e
  first_alike x y xs ys a b (inr h) (inl e) = sym e
  first_alike x y xs ys a b (inr h) (inr k) =
      absurd (not_before x (order.carried x y x (each_at (λ (z : X). lt x z ≡ true) y xs a.0 k) (each_at (λ (z : X). lt y z ≡ true) x ys b.0 h)))

  later_alike : (x y z : X) (xs ys : List X) → x ≡ y → IsRising lt (x ∷ xs) → Among z xs → Among z (y ∷ ys) → Among z ys
  later_alike x y z xs ys first a h (inr k) = k
  later_alike x y z xs ys first a h (inl e) =
      absurd (not_before x (subst (λ (w : X). lt x w ≡ true) (e ∙ sym first) (each_at (λ (w : X). lt x w ≡ true) z xs a.0 h)))

  pub alike : (xs ys : List X) → IsRising lt xs → IsRising lt ys → ((x : X) → Among x xs → Among x ys) → ((x : X) → Among x ys → Among x xs) → xs ≡ ys
  alike [] [] a b f back = refl
  alike [] (y ∷ ys) a b f back = absurd (back y (inl refl))
  alike (x ∷ xs) [] a b f back = absurd (f x (inl refl))
  alike (x ∷ xs) (y ∷ ys) a b f back =
      let first : x ≡ y = first_alike x y xs ys a b (f x (inl refl)) (back y (inl refl)) in
      let rest : xs ≡ ys =
      alike xs ys a.1 b.1 (λ z h. later_alike x y z xs ys first a h (f z (inr h))) (λ z h. later_alike y x z ys xs (sym first) b h (back z (inr h))) in
      λ i. first i ∷ rest i

point_order : IsOrder point_lt (λ (x : Point) (y : Point). same x.stop y.stop)
point_order = text_order (λ (x : Point). x.stop)

neighbour_order : IsOrder neighbour_lt (λ (x : Neighbour) (y : Neighbour). same x.code y.code)
neighbour_order = text_order (λ (x : Neighbour). x.code)

-- a timetable declares one point at a stop
one_point : (table : Timetable) (x y : Point) → AreWellPoints table.region table.points → Among x table.points → Among y table.points → x.stop ≡ y.stop → x ≡ y
one_point table x y well a b e = rising_once point_lt (λ (v : Point) (w : Point). same v.stop w.stop) point_order table.points x y well.rising a b (is_same x.stop y.stop e)

-- ---- a point of the book is that of its region's timetable

module _ (tables : List Timetable) (book : Book) (points : List Point) (whole : AreTablesOf tables book) (are : ArePointsOf book points) where
  spots_are : map spot_of points ≡ book.spots
  spots_are = ap (λ (b : Book). b.spots) are.are

  links_are : flat_map links_of points ≡ book.links
  links_are = ap (λ (b : Book). b.links) are.are

  well_points : (table : Timetable) → Among table tables → AreWellPoints table.region table.points
  well_points table h = (whole.tables_well.well table h).points

  -- the spot's point, by the timetable of its region
  spot_of_table : (y : Point) → Among y points → HasSpot (map points_of tables) (spot_of y)
  spot_of_table y a = (whole.book_of.spots (spot_of y)).0 (subst (Among (spot_of y)) spots_are (among_map spot_of y points a))

  module _ (table : Timetable) (x y : Point) (h : Among table tables) (declared : Among x table.points) (listed : Among y points) (stop : y.stop ≡ x.stop) (region : y.region ≡ table.region) where
    same_change : y.change ≡ x.change
    same_change =
        let has : HasSpot (map points_of tables) (spot_of y) = spot_of_table y listed in
        let m : Member tables (λ (t : Timetable). has.list ≡ points_of t) = among_map_back points_of has.list tables has.of_lists in
        let is : m.item ≡ table = one_table tables m.item table whole.tables_well m.among h (sym (ap (λ (l : RegionPoints). l.code) m.holds) ∙ (has.code ∙ region)) in
        let among : Among has.point table.points =
        subst (λ (t : Timetable). Among has.point t.points) is (subst (λ (l : RegionPoints). Among has.point l.points) m.holds has.listed) in
        let one : has.point ≡ x = one_point table has.point x (well_points table h) among declared (has.at ∙ stop) in
        sym has.time ∙ ap (λ (p : Point). p.change) one

    neighbour_told : (n : Neighbour) → Among n y.neighbours → Among n x.neighbours
    neighbour_told n among =
        let of_book : Among (link_of y n) book.links =
        subst (Among (link_of y n)) links_are (among_flat_map links_of y (link_of y n) points listed (among_map (link_of y) n y.neighbours among)) in
        let declares : Declares table y.stop n.code n.change = link_declares tables book (link_of y n) table whole.tables_well whole.book_of of_book h (sym region) in
        let one : declares.point ≡ x = one_point table declares.point x (well_points table h) declares.of_table declared (declares.at ∙ stop) in
        let same_neighbour : declares.neighbour ≡ n = λ i. record { code = declares.code i; change = declares.time i } in
        subst (λ (z : Neighbour). Among z x.neighbours) same_neighbour (subst (λ (p : Point). Among declares.neighbour p.neighbours) one declares.listed)

    neighbour_listed : (n : Neighbour) → Among n x.neighbours → Among n y.neighbours
    neighbour_listed n among =
        let declares : Declares table y.stop n.code n.change = record { point = x; of_table = declared; at = sym stop; neighbour = n; listed = among; code = refl; time = refl } in
        let link : LinkOf book y.stop table.region n.code n.change = link_listed tables book table y.stop n.code n.change whole.book_of h declares in
        let says : Says points link.item.stop link.item.region link.item.other link.item.change = link_says points link.item (subst (Among link.item) (sym links_are) link.among) in
        let one : says.point ≡ y = only_point points says.point y are.kept.rise says.listed listed (says.at ∙ link.holds.0) (says.of ∙ (link.holds.1 ∙ sym region)) in
        let same_code : says.neighbour.code ≡ n.code = says.code ∙ link.holds.2 in
        let same_time : says.neighbour.change ≡ n.change = says.time ∙ link.holds.3 in
        let same_neighbour : says.neighbour ≡ n = λ i. record { code = same_code i; change = same_time i } in
        subst (λ (z : Neighbour). Among z y.neighbours) same_neighbour (subst (λ (p : Point). Among says.neighbour p.neighbours) one says.declared)

    same_point : y ≡ x
    same_point =
        let mine : IsPointOf table.region x = each_at (IsPointOf table.region) x table.points (well_points table h).each declared in
        let own : IsPointOf y.region y = each_at (λ (p : Point). IsPointOf p.region p) y points are.kept.own listed in
        let of : y.region ≡ x.region = region ∙ sym mine.of_region in
        let time : y.change ≡ x.change = same_change in
        let others : y.neighbours ≡ x.neighbours =
        alike neighbour_lt (λ (v : Neighbour) (w : Neighbour). same v.code w.code) neighbour_order y.neighbours x.neighbours own.rising mine.rising neighbour_told neighbour_listed in
        λ i. record { region = of i; stop = stop i; change = time i; neighbours = others i }

  point_declared : (y : Point) → Among y points → IsDeclaredBy tables y
  point_declared y a =
      let it : SpotTable tables (spot_of y) = spot_table tables (spot_of y) (spot_of_table y a) in
      let is : y ≡ it.point = same_point it.table it.point y it.of_tables it.listed a (sym it.at) (sym it.region) in
      (it.table, it.of_tables, subst (λ (p : Point). Among p it.table.points) (sym is) it.listed)

  point_listed : (x : Point) → IsDeclaredBy tables x → Among x points
  point_listed x (table, h, declared) =
      let spot : Member book.spots (λ (s : Spot). (s.region ≡ table.region) × (s.stop ≡ x.stop)) = spot_listed tables book table x whole.book_of h declared in
      let of : Member points (λ (p : Point). spot.item ≡ spot_of p) = among_map_back spot_of spot.item points (subst (Among spot.item) (sym spots_are) spot.among) in
      let stop : of.item.stop ≡ x.stop = sym (ap (λ (s : Spot). s.stop) of.holds) ∙ spot.holds.1 in
      let region : of.item.region ≡ table.region = sym (ap (λ (s : Spot). s.region) of.holds) ∙ spot.holds.0 in
      subst (λ (p : Point). Among p points) (same_point table x of.item h declared of.among stop region) of.among

  pub all_points : AreAllPoints tables points
  all_points = record { just_these = λ point. (point_declared point, point_listed point); rising = are.kept.rise }

-- ---- the answer

answer_is : (place : Option Text) (points : List Point) → delivery_of_points place (points_at place points) ≡ entries_answer place points
answer_is None points = refl
answer_is (Some stop) points = refl

pub points_by_tables : (tables : List Timetable) (book : Book) (place : Option Text) (delivery : Delivery) → AreTablesOf tables book → PointsByBook book place delivery → PointsByTables tables place delivery
points_by_tables tables book place delivery whole (found, (points, are, is), e) =
    (points, all_points tables book points whole are, e ∙ (ap (delivery_of_points place) is ∙ answer_is place points))
