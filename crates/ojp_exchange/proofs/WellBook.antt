-- What is kept makes a book that is well.
use Rattle.std.proofs.Common.{◌≡◌, ◌≢◌, arith, true, List, sym, ◌∙◌, subst}
use Rattle.std.specs.List.{All}
use Rattle.std.proofs.lemmas.Option.{get_or_from_slice_get, slice_get_within}
use Rattle.ojp_values.proofs.ListFacts.{each_at}
use Rattle.ojp_values.specs.Limits.{IsChange, IsWellNeighbour, IsWellPoint}
use Rattle.ojp_values.specs.Lists.{Among}
use Rattle.ojp_values.specs.Texts.{Text, is_exchange, same}
use Rattle.ojp_values.specs.declared.trips.Neighbour.{Neighbour}
use Rattle.ojp_values.specs.declared.trips.Point.{Point}
use Rattle.ojp_timetable.specs.Points.{IsPointOf}
use Rattle.ojp_timetable.proofs.ReadFacts.{at_among}
use Rattle.ojp_exchange.specs.Book.{Spot}
use Rattle.ojp_exchange.specs.Kept.{AreKept, IsSound, IsWellBook, book_of, spot_of}
use Rattle.ojp_exchange.proofs.MadeFacts.{among_map, count_map, links_rise, map_among, spots_rise}
use Rattle.ojp_exchange.proofs.JoinFacts.{link_says}

all_among : (P : Neighbour → Type 0) (ns : List Neighbour) (n : Neighbour) → All P ns → Among n ns → P n
all_among P ns n h a =
    let at = at_among ns n a in
    subst P (get_or_from_slice_get ns at.0 n n at.1) (h at.0 n (slice_get_within ns at.0 n at.1))

pub well_book : (codes : List Text) (points : List Point) → AreKept codes points → IsSound (book_of codes points) → IsWellBook (book_of codes points)
well_book codes points kept sound = record {
  codes_rise = kept.codes_rise;
  spots_rise = spots_rise points kept.rise;
  links_rise = links_rise points kept.rise kept.own;
  sound = sound;
  few = λ region. omega (arith, kept.few region, count_map spot_of (λ (spot : Spot). same region spot.region) points);
  exchange = λ spot a.
      let at = among_map spot_of points spot a in
      subst (λ (s : Spot). is_exchange s.stop ≡ true) at.2 (each_at (λ (x : Point). IsPointOf x.region x) at.0 points kept.own at.1).exchange;
  known = λ spot a.
      let at = among_map spot_of points spot a in
      subst (λ (s : Spot). Among s.region codes) at.2 (each_at (λ (x : Point). Among x.region codes) at.0 points kept.known at.1);
  spot_times = λ spot a.
      let at = among_map spot_of points spot a in
      subst (λ (s : Spot). IsChange s.change) at.2 (each_at IsWellPoint at.0 points kept.bounded at.1).0;
  link_times = λ link a.
      let says = link_says points link a in
      let good = each_at IsWellPoint says.point points kept.bounded says.listed in
      subst IsChange says.time (all_among IsWellNeighbour says.point.neighbours says.neighbour good.2 says.declared);
  differ = λ link a e.
      let says = link_says points link a in
      let own = each_at (λ (x : Point). IsPointOf x.region x) says.point points kept.own says.listed in
      each_at (λ (n : Neighbour). n.code ≢ says.point.region) says.neighbour says.point.neighbours own.others says.declared (says.code ∙ (e ∙ sym says.of));
  declaring = λ link a.
      let says = link_says points link a in
      (spot_of says.point, map_among spot_of points says.point says.listed, says.at, says.of);
}
