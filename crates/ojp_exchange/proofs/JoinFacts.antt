-- When lists make a book, and which regions disagree.
use Rattle.std.proofs.Common.{◌≡◌, ℕ, ◌&&◌, Bool, true, false, List, Some, None, length, refl, sym, ◌∙◌, ap, subst, arith, inl, inr, true≢false}
use Rattle.std.specs.Prelude.{MatchOption, Option}
use Rattle.std.specs.List.{flat_map, list_any}
use Rattle.std.specs.List.Sorted.{IsPermutation, IsSortedBy}
use Rattle.std.proofs.lemmas.Bool.{cases_Bool, cases_lt}
use Rattle.std.proofs.lemmas.List.{length-map}
use Rattle.std.proofs.lemmas.List.Sorted.{length_permutation}
use Rattle.std.proofs.Math.Nat.{eq-or-lt_of_le}
use Rattle.ojp_values.proofs.ListFacts.{each_at}
use Rattle.ojp_values.specs.Lists.{Among, IsRising}
use Rattle.ojp_values.specs.Texts.{Text, same, text_lt}
use Rattle.ojp_values.specs.declared.trips.Neighbour.{Neighbour}
use Rattle.ojp_values.specs.declared.trips.Point.{Point}
use Rattle.ojp_timetable.specs.Points.{IsPointOf, neighbour_lt}
use Rattle.ojp_timetable.proofs.AmongFacts.{any_false, any_true}
use Rattle.ojp_timetable.proofs.Orders.{IsOrder, text_order, then_order}
use Rattle.ojp_timetable.proofs.ReadFacts.{among_at, at_among, read_once}
use Rattle.ojp_timetable.proofs.TextFacts.{same_is, same_itself}
use Rattle.ojp_exchange.specs.declared.region_points.RegionPoints.{RegionPoints}
use Rattle.ojp_exchange.specs.Book.{HasChange, HasReturn, IsAgreed, Link, link_lt}
use Rattle.ojp_exchange.specs.Disputes.{AllReturn, IsFirstLacking, IsFirstPoint, Returns}
use Rattle.ojp_exchange.specs.Joins.{AreWellLists, IsFirstDispute, IsLeastTwice, IsOneSided, first_twice}
use Rattle.ojp_exchange.specs.Kept.{AreKept, HasNoChange, Says, SaysNothing, book_of, entry_lt, entry_same, link_of, links_of}
use Rattle.ojp_exchange.proofs.MadeFacts.{among_flat, among_map, code_list, point_list, points_rise, flat_among, later_neighbour, later_point, map_among, own_codes, times_sorted}
use Rattle.ojp_exchange.proofs.CodeFacts.{rises, twice}
use Rattle.ojp_exchange.proofs.KeptFacts.{are_kept}
use Rattle.ojp_exchange.proofs.RisingFacts.{entry_order, rising_at}
use Rattle.ojp_exchange.proofs.SortFacts.{one_way, sorted_list}

-- ---- the codes

pub least_twice : (lists : List RegionPoints) (codes : List Text) (code : Text) → IsPermutation (code_list lists) codes → IsSortedBy text_lt codes → first_twice codes ≡ Some code → IsLeastTwice lists code
least_twice lists codes code p sorted e =
    let found = twice codes code (sorted_list text_lt same (text_order (λ (t : Text). t)) codes sorted) e in
    record {
      twice = omega (arith, found.0, times_sorted lists codes code p);
      least = λ other two. found.1 other (omega (arith, two, times_sorted lists codes other p));
    }

pub codes_rise : (codes : List Text) → IsSortedBy text_lt codes → first_twice codes ≡ None → IsRising text_lt codes
codes_rise codes sorted e = rises codes (sorted_list text_lt same (text_order (λ (t : Text). t)) codes sorted) e

pub as_many : (lists : List RegionPoints) (codes : List Text) → IsPermutation (code_list lists) codes → length codes ≡ length lists
as_many lists codes p = length_permutation (code_list lists) codes p ∙ length-map lists (λ (list : RegionPoints). list.code)

-- sorted codes of which none stands twice, and sorted points, are what a book keeps
pub ready : (lists : List RegionPoints) (codes : List Text) (points : List Point) → AreWellLists lists → IsPermutation (code_list lists) codes → IsSortedBy text_lt codes → first_twice codes ≡ None
    → IsPermutation (point_list lists) points → IsSortedBy entry_lt points → AreKept codes points
ready lists codes points well pc sorted none pp sorted_points =
    let rise = codes_rise codes sorted none in
    are_kept lists codes points well pc pp rise (points_rise lists points well (own_codes lists codes pc rise) pp (sorted_list entry_lt entry_same entry_order points sorted_points))

-- ---- what is said is a link

pub says_link : (points : List Point) (stop region other : Text) (change : ℕ) → Says points stop region other change
    → Among (record { stop = stop; region = region; other = other; change = change }) (flat_map links_of points)
says_link points stop region other change says =
    let link : Text → Text → Text → ℕ → Link = λ s r o c. record { stop = s; region = r; other = o; change = c } in
    let is : link_of says.point says.neighbour ≡ link stop region other change = λ i. record { stop = says.at i; region = says.of i; other = says.code i; change = says.time i } in
    subst (λ (l : Link). Among l (flat_map links_of points)) is
    (flat_among links_of points says.point (link_of says.point says.neighbour) says.listed (map_among (link_of says.point) says.point.neighbours says.neighbour says.declared))

pub link_says : (points : List Point) (link : Link) → Among link (flat_map links_of points) → Says points link.stop link.region link.other link.change
link_says points link a =
    let at = among_flat links_of points link a in
    let by = among_map (link_of at.0) at.0.neighbours link at.2 in
    record {
      point = at.0;
      listed = at.1;
      at = ap (λ (l : Link). l.stop) by.2;
      of = ap (λ (l : Link). l.region) by.2;
      neighbour = by.0;
      declared = by.1;
      code = ap (λ (l : Link). l.other) by.2;
      time = ap (λ (l : Link). l.change) by.2;
    }

move_says : (points : List Point) (a b c d e f : Text) (change : ℕ) → a ≡ d → b ≡ e → c ≡ f → Says points a b c change → Says points d e f change
move_says points a b c d e f change p q r says =
    record { point = says.point; listed = says.listed; at = says.at ∙ p; of = says.of ∙ q; neighbour = says.neighbour; declared = says.declared; code = says.code ∙ r; time = says.time }

-- ---- agreement

return_of : (codes : List Text) (points : List Point) (link : Link) (change : ℕ) → Says points link.stop link.other link.region change → HasReturn (book_of codes points) link
return_of codes points link change says =
    (record { stop = link.stop; region = link.other; other = link.region; change = change }, says_link points link.stop link.other link.region change says, refl, refl, refl)

pub agreed : (codes : List Text) (points : List Point) → ((point : Point) → Among point points → AllReturn codes points point) → IsAgreed (book_of codes points)
agreed codes points all link a known =
    let says = link_says points link a in
    let back = all says.point says.listed says.neighbour says.declared (subst (λ (t : Text). Among t codes) (sym says.code) known) in
    return_of codes points link back.0 (move_says points says.point.stop says.neighbour.code says.point.region link.stop link.other link.region back.0 says.at says.code says.of back.1)

abbrev link_tie : Link → Link → Bool
link_tie x y = same x.stop y.stop && (same x.region y.region && same x.other y.other)

link_order : IsOrder link_lt link_tie
link_order =
    then_order (λ (x : Link) (y : Link). text_lt x.stop y.stop) (λ (x : Link) (y : Link). same x.stop y.stop) _ _ (text_order (λ (x : Link). x.stop))
    (then_order (λ (x : Link) (y : Link). text_lt x.region y.region) (λ (x : Link) (y : Link). same x.region y.region) _ _ (text_order (λ (x : Link). x.region))
    (text_order (λ (x : Link). x.other)))

not_itself : (l : Link) → link_lt l l ≡ false
not_itself l = elim (cases_Bool (link_lt l l)) [ inl t ↦ absurd (link_order.apart l l t (link_order.itself l)) | inr t ↦ t ]

-- a link that is returned is not one-sided
settled : (codes : List Text) (points : List Point) (q : Point) (m : Neighbour) → Returns codes points q m → IsOneSided (book_of codes points) (link_of q m) → ⊥
settled codes points q m returns one =
    let back = returns one.1 in
    one.2 (return_of codes points (link_of q m) back.0 back.1)

least_here : (codes : List Text) (points : List Point) (point : Point) (code : Text) (first : IsFirstLacking codes points point code) → IsRising neighbour_lt point.neighbours → (m : Neighbour) → Among m point.neighbours
    → IsOneSided (book_of codes points) (link_of point m) → link_lt (link_of point m) (link_of point first.neighbour) ≡ false
least_here codes points point code first rise m a one =
    let at = at_among point.neighbours m a in
    elim (cases_lt at.0 first.number) [
      | inl l ↦ absurd (settled codes points point m (first.before at.0 m at.1 l) one)
      | inr g ↦ elim (eq-or-lt_of_le g) [
        | inl e ↦
            let one_neighbour = read_once point.neighbours first.number at.0 first.neighbour m e first.at at.1 in
            subst (λ (n : Neighbour). link_lt (link_of point n) (link_of point first.neighbour) ≡ false) one_neighbour (not_itself (link_of point first.neighbour))
        | inr l ↦
            one_way link_lt link_tie link_order (link_of point first.neighbour) (link_of point m)
            (later_neighbour point first.neighbour m (rising_at neighbour_lt point.neighbours first.number at.0 first.neighbour m rise first.at at.1 l))
      ]
    ]

pub is_dispute : (codes : List Text) (points : List Point) (stop left right : Text) → AreKept codes points → IsFirstPoint codes points stop left right → IsFirstDispute (book_of codes points) stop left right
is_dispute codes points stop left right kept found =
    let point = found.point in
    let first = found.first in
    let here = among_at points found.number point found.at in
    let listed = among_at point.neighbours first.number first.neighbour first.at in
    let link = link_of point first.neighbour in
    record {
      link = link;
      one_sided = (
        flat_among links_of points point link here (map_among (link_of point) point.neighbours first.neighbour listed),
        first.lacking.0,
        (λ has.
            first.lacking.1 has.0.change
            (move_says points has.0.stop has.0.region has.0.other point.stop first.neighbour.code point.region has.0.change has.2 has.3 has.4 (link_says points has.0 has.1))),
      );
      point_is = found.stop_is;
      left_is = found.region_is;
      right_is = first.code_is;
      least = λ other one.
          let from = among_flat links_of points other one.0 in
          let by = among_map (link_of from.0) from.0.neighbours other from.2 in
          let at = at_among points from.0 from.1 in
          let here_one : IsOneSided (book_of codes points) (link_of from.0 by.0) = subst (λ (l : Link). IsOneSided (book_of codes points) l) (sym by.2) one in
          subst (λ (l : Link). link_lt l link ≡ false) by.2
          (elim (cases_lt at.0 found.number) [
            | inl l ↦ absurd (settled codes points from.0 by.0 (found.before at.0 from.0 at.1 l by.0 by.1) here_one)
            | inr g ↦ elim (eq-or-lt_of_le g) [
              | inl e ↦
                  let one_point : from.0 ≡ point = read_once points at.0 found.number from.0 point (sym e) at.1 found.at in
                  let by_point = subst (λ (q : Point). Among by.0 q.neighbours) one_point by.1 in
                  let one_here = subst (λ (q : Point). IsOneSided (book_of codes points) (link_of q by.0)) one_point here_one in
                  subst (λ (q : Point). link_lt (link_of q by.0) link ≡ false) (sym one_point)
                  (least_here codes points point right first (each_at (λ (x : Point). IsPointOf x.region x) point points kept.own here).rising by.0 by_point one_here)
              | inr l ↦
                  one_way link_lt link_tie link_order link (link_of from.0 by.0)
                  (later_point point from.0 first.neighbour by.0 (rising_at entry_lt points found.number at.0 point from.0 kept.rise found.at at.1 l))
            ]
          ]);
    }

-- ---- changes

pub not_known : (codes : List Text) (points : List Point) (stop from to : Text) → list_any (same from) codes ≡ false → HasNoChange (book_of codes points) stop from to
not_known codes points stop from to none change has = true≢false (sym (same_itself from) ∙ any_false (same from) from codes none has.known)

pub change_is : (codes : List Text) (points : List Point) (stop from to : Text) (found : Option ℕ) → list_any (same from) codes ≡ true → MatchOption found (SaysNothing points stop to from) (Says points stop to from)
    → MatchOption found (HasNoChange (book_of codes points) stop from to) (λ (change : ℕ). HasChange (book_of codes points) stop from to change)
change_is codes points stop from to None known h = λ change has.
    h change (move_says points has.link.stop has.link.region has.link.other stop to from change has.at has.declaring has.other
    (subst (λ (n : ℕ). Says points has.link.stop has.link.region has.link.other n) has.time (link_says points has.link has.listed)))
change_is codes points stop from to (Some change) known h =
    let at = any_true (same from) codes known in
    record {
      known = subst (λ (t : Text). Among t codes) (sym (same_is from at.0 at.2)) at.1;
      link = record { stop = stop; region = to; other = from; change = change };
      listed = says_link points stop to from change h;
      at = refl;
      declaring = refl;
      other = refl;
      time = refl;
    }
