-- The rows of places, neighbours and services of a timetable that can be spelled.
use Rattle.std.proofs.Common.{◌≡◌, ◌≢◌, ◌⊎◌, inl, inr, ℕ, ◌+◌, ◌≤◌, Bool, true, false, not, ◌&&◌, cond, nat_le, true≢false, List, [], ◌∷◌, ◌++◌, length, refl, sym, ◌∙◌, ap, subst, arith, map, append_assoc, append-nil, length-append, All}
use Rattle.std.specs.Prelude.{Option, Some, codes, find, insert, option_map, unwrap_or}
use Rattle.std.specs.List.{flat_map, list_any, position_or_len}
use Rattle.std.specs.Fmt.{decimal}
use Rattle.std.proofs.lemmas.Bool.{cases_Bool}
use Rattle.std.proofs.lemmas.List.Elements.{All-head, All-tail}
use Rattle.ojp_values.specs.Dates.{day_text}
use Rattle.ojp_values.specs.Limits.{IsChange, IsWellNeighbour, IsWellPoint}
use Rattle.ojp_values.specs.Lists.{Among, Each, IsRising}
use Rattle.ojp_values.specs.Texts.{Text, code_part, is_code, is_exchange, is_label, is_name, is_stop_ref, same, text_lt}
use Rattle.ojp_values.specs.declared.trips.Neighbour.{Neighbour}
use Rattle.ojp_values.specs.declared.trips.Point.{Point}
use Rattle.ojp_values.proofs.ListFacts.{each_at}
use Rattle.ojp_zones.specs.declared.zone.Zone.{Zone}
use Rattle.ojp_timetable.specs.Checks.{has_neighbour, is_doubled, is_falling, is_foreign, is_full, is_stop_elsewhere, lacks_service, lacks_stop}
use Rattle.ojp_timetable.specs.Contents.{Contents, has_place, has_service, neighbours_at, point_at, point_with, points_with, with_neighbour}
use Rattle.ojp_timetable.specs.Fields.{joined}
use Rattle.ojp_timetable.specs.Lines.{grown}
use Rattle.ojp_timetable.specs.Points.{IsPointOf, neighbour_lt, point_lt}
use Rattle.ojp_timetable.specs.Runs.{AreDays}
use Rattle.ojp_timetable.specs.Tables.{Journey, Place, Service}
use Rattle.ojp_timetable.specs.WellContents.{Passes}
use Rattle.ojp_timetable.specs.declared.file.lines.Line.{Line}
use Rattle.ojp_timetable.specs.declared.file.lines.Line.TheVariants as lines
use Rattle.ojp_timetable.specs.declared.file.lines.Open.{Open}
use Rattle.ojp_timetable.specs.declared.file.lines.Open.TheVariants.{Nothing}
use Rattle.ojp_timetable.proofs.ListFacts.{place_is}
use Rattle.ojp_timetable.proofs.Orders.{not_before_itself}
use Rattle.ojp_timetable.proofs.PointOrder.{lt_carried}
use Rattle.ojp_timetable.proofs.TextFacts.{is_differ, is_same}
use Rattle.ojp_lines.specs.Lines.{marks_text, place_word}
use Rattle.ojp_texts.specs.Spelled.{HaveOwn, IsNamed, neighbour_lines, place_line, service_line}
use Rattle.ojp_texts.proofs.PointsGrow.{bare, length-one_more, one_more, points_after, shared_in}
use Rattle.ojp_texts.proofs.Reading.{neighbour_reads, place_reads, service_reads}
use Rattle.ojp_texts.proofs.Spelling.{joined_line}
use Rattle.ojp_texts.proofs.Steps.{Takes, among_middle, among_of, neither, not_both, not_le, own_new, own_of, takes_line, takes_more, takes_none}
use Rattle.ojp_texts.proofs.Words.{IsLine, IsWord, code_word, day_word, decimal_word, label_word, marks_word, name_line, stop_word, word_line}

-- what is declared somewhere below the third line
abbrev pub declares : Text → Zone → List Place → List Point → List Service → List Journey → Contents
declares region is places points services journeys =
    record { region = region; zone = is; places = places; points = points; services = services; journeys = journeys }

all_at : {X : Type 0} (P : X → Type 0) (xs : List X) (x : X) → All P xs → Among x xs → P x
all_at P [] x h a = absurd a
all_at P (y ∷ ys) x h (inl e) = subst P (sym e) (All-head P y ys h)
all_at P (y ∷ ys) x h (inr later) = all_at P ys x (All-tail P y ys h) later

-- ---- a place

pub no_stranger : (region : Text) (place : Place) → (is_exchange place.stop ≡ true) ⊎ (code_part place.stop ≡ region) → is_stop_elsewhere region place.stop ≡ false
no_stranger region place (inl e) = ap (λ (b : Bool). not b && not (same (code_part place.stop) region)) e
no_stranger region place (inr e) = not_both (not (is_exchange place.stop)) _ (ap not (is_same (code_part place.stop) region e))

point_room : (b : Bool) (n more : ℕ) → n + (cond b 1 0 + more) ≤ 255 → (b && nat_le 255 n) ≡ false
point_room true n more h = not_le 255 n (omega (arith, h))
point_room false n more h = refl

place_passes : (region : Text) (is : Zone) (done rest : List Place) (points : List Point) (place : Place) → IsNamed region place → HaveOwn (λ (p : Place). p.stop) (done ++ place ∷ rest)
    → length (done ++ place ∷ rest) ≤ 5000 → length points + shared_in (place ∷ rest) ≤ 255 → Passes (declares region is done points [] []) Nothing (place_line place)
unfolding is_foreign is_doubled lacks_stop lacks_service is_falling is_full has_place
place_passes region is done rest points place named own few room = record {
  own = no_stranger region place named.2;
  new = own_new (λ (p : Place). p.stop) done place rest own;
  stop = refl;
  service = refl;
  times = refl;
  room = neither _ _ (not_le 5000 (length done) (omega (arith, few, length-append done (place ∷ rest)))) (point_room (is_exchange place.stop) (length points) (shared_in rest) room);
}

word_of_place : (b : Bool) → IsWord (cond b (codes "exchange") (codes "stop"))
word_of_place true = refl
word_of_place false = refl

place_one : (place : Place) → is_stop_ref place.stop ≡ true → place.change ≤ 7200 → is_name place.name ≡ true → IsLine (joined (place_word place.stop ∷ place.stop ∷ decimal place.change ∷ place.name ∷ []))
place_one place ref to named =
    joined_line (place_word place.stop) (place.stop ∷ decimal place.change ∷ place.name ∷ []) (word_line (place_word place.stop) (word_of_place (is_exchange place.stop)))
    (word_line place.stop (stop_word place.stop ref), (word_line (decimal place.change) (decimal_word place.change (omega (arith, to))), (name_line place.name named, tt)))

pub takes_places : (zone region : Text) (is : Zone) (all done rest : List Place) (points : List Point) → done ++ rest ≡ all → Each (IsNamed region) all → HaveOwn (λ (p : Place). p.stop) all
    → ((place : Place) → Among place all → (1 ≤ place.change) × (place.change ≤ 7200)) → length all ≤ 5000 → length points + shared_in rest ≤ 255
    → Takes zone (declares region is done points [] []) Nothing (map place_line rest) (declares region is all (points_after region points rest) [] []) Nothing
takes_places zone region is all done [] points e named own lasts few room =
    takes_none zone (declares region is done points [] []) (declares region is all points [] []) Nothing (ap (λ (ps : List Place). declares region is ps points [] []) (sym (append-nil done) ∙ e))
takes_places zone region is all done (place ∷ rest) points e named own lasts few room =
    let among = among_of all done place rest e in
    let its = each_at (IsNamed region) place all named among in
    let change = lasts place among in
    takes_line zone (declares region is done points [] []) Nothing (place_line place) (map place_line rest) (declares region is all (points_after region points (place ∷ rest)) [] []) Nothing
    (record {
      says = place_reads region Nothing place.stop place.change place.name refl its.0 change.0 change.1 its.1;
      passes = place_passes region is done rest points place its (own_of (λ (p : Place). p.stop) all (done ++ place ∷ rest) e own)
          (subst (λ (ps : List Place). length ps ≤ 5000) (sym e) few) room;
      one = place_one place its.0 change.1 its.1;
    })
    (takes_places zone region is all (done ++ place ∷ []) rest (one_more region points place) (append_assoc done (place ∷ []) rest ∙ e) named own lasts few
    (omega (arith, room, length-one_more region points place)))

-- ---- a neighbour

-- where one comes before another
comes_before : (front : List Neighbour) (neighbour : Neighbour) (more : List Neighbour) → IsRising neighbour_lt (front ++ neighbour ∷ more) → Each (λ (n : Neighbour). neighbour_lt n neighbour ≡ true) front
comes_before [] neighbour more h = tt
comes_before (n ∷ front) neighbour more h =
    (each_at (λ (m : Neighbour). neighbour_lt n m ≡ true) neighbour (front ++ neighbour ∷ more) h.0 (among_middle front neighbour more), comes_before front neighbour more h.1)

not_back : (x y : Text) → text_lt x y ≡ true → text_lt y x ≡ false
not_back x y h = elim (cases_Bool (text_lt y x)) [ inl e ↦ absurd (true≢false (sym (lt_carried x y x h e) ∙ not_before_itself x)) | inr e ↦ e ]

differs : (x y : Text) → text_lt x y ≡ true → same y x ≡ false
differs x y h = is_differ y x (λ e. true≢false (sym (subst (λ (t : Text). text_lt x t ≡ true) e h) ∙ not_before_itself x))

stops_at_end : (front : List Neighbour) (neighbour : Neighbour) → Each (λ (n : Neighbour). neighbour_lt n neighbour ≡ true) front
    → position_or_len (λ (other : Neighbour). text_lt neighbour.code other.code) front ≡ length front
stops_at_end [] neighbour h = refl
stops_at_end (n ∷ front) neighbour h =
    ap (λ (b : Bool). cond (not b) (1 + position_or_len (λ (other : Neighbour). text_lt neighbour.code other.code) front) 0) (not_back n.code neighbour.code h.0)
    ∙ omega (arith, stops_at_end front neighbour h.1)

insert_end : (front : List Neighbour) (neighbour : Neighbour) → insert front (length front) neighbour ≡ front ++ neighbour ∷ []
insert_end [] neighbour = refl
insert_end (n ∷ front) neighbour = ap (λ (ns : List Neighbour). n ∷ ns) (insert_end front neighbour)

-- a neighbour behind all others comes last
comes_last : (front : List Neighbour) (neighbour : Neighbour) → Each (λ (n : Neighbour). neighbour_lt n neighbour ≡ true) front → with_neighbour front neighbour ≡ front ++ neighbour ∷ []
comes_last front neighbour h =
    ap (λ (i : ℕ). insert front i neighbour) (place_is (λ (other : Neighbour). text_lt neighbour.code other.code) front ∙ stops_at_end front neighbour h)
    ∙ insert_end front neighbour

-- none of the points before it is at its stop
abbrev AreElsewhere : Text → List Point → Type 0
AreElsewhere stop done = Each (λ (p : Point). same stop p.stop ≡ false) done

at_point : (stop : Text) (neighbour : Neighbour) (done : List Point) (point : Point) (rest : List Point) → AreElsewhere stop done → stop ≡ point.stop
    → points_with (done ++ point ∷ rest) stop neighbour ≡ done ++ point_with point neighbour ∷ rest
at_point stop neighbour [] point rest h e = ap (λ (b : Bool). cond b (point_with point neighbour ∷ rest) (point ∷ points_with rest stop neighbour)) (is_same stop point.stop e)
at_point stop neighbour (d ∷ done) point rest h e =
    ap (λ (b : Bool). cond b (point_with d neighbour ∷ (done ++ point ∷ rest)) (d ∷ points_with (done ++ point ∷ rest) stop neighbour)) h.0
    ∙ ap (λ (ps : List Point). d ∷ ps) (at_point stop neighbour done point rest h.1 e)

finds_point : (stop : Text) (done : List Point) (point : Point) (rest : List Point) → AreElsewhere stop done → stop ≡ point.stop
    → find (λ (p : Point). same stop p.stop) (done ++ point ∷ rest) ≡ Some point
finds_point stop [] point rest h e = ap (λ (b : Bool). cond b (Some point) (find (λ (p : Point). same stop p.stop) rest)) (is_same stop point.stop e)
finds_point stop (d ∷ done) point rest h e =
    ap (λ (b : Bool). cond b (Some d) (find (λ (p : Point). same stop p.stop) (done ++ point ∷ rest))) h.0 ∙ finds_point stop done point rest h.1 e

abbrev with_front : Point → List Neighbour → Point
with_front point front = record point { neighbours = front }

front_found : (region : Text) (is : Zone) (places : List Place) (done : List Point) (point : Point) (front : List Neighbour) (rest : List Point) → AreElsewhere point.stop done
    → neighbours_at (declares region is places (done ++ with_front point front ∷ rest) [] []) point.stop ≡ front
unfolding neighbours_at point_at
front_found region is places done point front rest h =
    ap (λ (o : Option Point). unwrap_or (option_map (λ (p : Point). p.neighbours) o) []) (finds_point point.stop done (with_front point front) rest h refl)

none_same : (front : List Neighbour) (neighbour : Neighbour) → Each (λ (n : Neighbour). neighbour_lt n neighbour ≡ true) front → list_any (λ (n : Neighbour). same neighbour.code n.code) front ≡ false
none_same [] neighbour h = refl
none_same (n ∷ front) neighbour h = neither _ _ (differs n.code neighbour.code h.0) (none_same front neighbour h.1)

-- what is known of a point of the timetable
pub record IsSpelledPoint (region : Text) (places : List Place) (point : Point) : Type 0 where
  pub of : IsPointOf region point
  pub bounded : IsWellPoint point
  pub ref : is_stop_ref point.stop ≡ true
  pub stands : list_any (λ (place : Place). same point.stop place.stop) places ≡ true
  pub codes_are : Each (λ (neighbour : Neighbour). is_code neighbour.code ≡ true) point.neighbours

neighbour_passes : (region : Text) (is : Zone) (places : List Place) (done : List Point) (point : Point) (front more : List Neighbour) (neighbour : Neighbour) (rest : List Point)
    → IsSpelledPoint region places point → AreElsewhere point.stop done → front ++ neighbour ∷ more ≡ point.neighbours
    → Passes (declares region is places (done ++ with_front point front ∷ rest) [] []) Nothing (lines.Neighbour point.stop neighbour)
unfolding is_foreign is_doubled lacks_stop lacks_service is_falling is_full has_place has_neighbour
neighbour_passes region is places done point front more neighbour rest known before e =
    let found = front_found region is places done point front rest before in
    let earlier = comes_before front neighbour more (subst (IsRising neighbour_lt) (sym e) known.of.rising) in
    let size : length point.neighbours ≤ 31 = known.bounded.1 in
    record {
      own = ap (λ (b : Bool). not b && not (same (code_part point.stop) region)) known.of.exchange;
      new = ap (list_any (λ (n : Neighbour). same neighbour.code n.code)) found ∙ none_same front neighbour earlier;
      stop = ap (λ (b : Bool). not (b && list_any (λ (place : Place). same point.stop place.stop) places)) known.of.exchange ∙ ap not known.stands;
      service = refl;
      times = refl;
      room = ap (λ (ns : List Neighbour). nat_le 31 (length ns)) found
          ∙ not_le 31 (length front) (omega (arith, size, ap length e, length-append front (neighbour ∷ more)));
    }

neighbour_grows : (region : Text) (is : Zone) (places : List Place) (done : List Point) (point : Point) (front more : List Neighbour) (neighbour : Neighbour) (rest : List Point)
    → AreElsewhere point.stop done → IsRising neighbour_lt (front ++ neighbour ∷ more)
    → declares region is places (done ++ with_front point (front ++ neighbour ∷ []) ∷ rest) [] []
    ≡ grown (declares region is places (done ++ with_front point front ∷ rest) [] []) (lines.Neighbour point.stop neighbour)
neighbour_grows region is places done point front more neighbour rest before rises =
    ap (λ (ps : List Point). declares region is places ps [] [])
    (sym (at_point point.stop neighbour done (with_front point front) rest before refl
    ∙ ap (λ (ns : List Neighbour). done ++ with_front point ns ∷ rest) (comes_last front neighbour (comes_before front neighbour more rises))))

from_equal : (zone : Text) (from other to : Contents) (left behind : Open) (entries : List Line) → from ≡ other → Takes zone from left entries to behind → Takes zone other left entries to behind
from_equal zone from other to left behind entries e t = subst (λ (c : Contents). Takes zone c left entries to behind) e t

takes_at_point : (zone region : Text) (is : Zone) (places : List Place) (done : List Point) (point : Point) (front more : List Neighbour) (rest : List Point)
    → IsSpelledPoint region places point → AreElsewhere point.stop done → front ++ more ≡ point.neighbours
    → Takes zone (declares region is places (done ++ with_front point front ∷ rest) [] []) Nothing (map (λ (neighbour : Neighbour). lines.Neighbour point.stop neighbour) more)
    (declares region is places (done ++ point ∷ rest) [] []) Nothing
takes_at_point zone region is places done point front [] rest known before e =
    takes_none zone (declares region is places (done ++ with_front point front ∷ rest) [] []) (declares region is places (done ++ point ∷ rest) [] []) Nothing
    (ap (λ (ns : List Neighbour). declares region is places (done ++ with_front point ns ∷ rest) [] []) (sym (append-nil front) ∙ e))
takes_at_point zone region is places done point front (neighbour ∷ more) rest known before e =
    let rises = subst (IsRising neighbour_lt) (sym e) known.of.rising in
    let among = among_of point.neighbours front neighbour more e in
    let change : IsChange neighbour.change = all_at IsWellNeighbour point.neighbours neighbour known.bounded.2 among in
    let code = each_at (λ (n : Neighbour). is_code n.code ≡ true) neighbour point.neighbours known.codes_are among in
    let other = each_at (λ (n : Neighbour). n.code ≢ region) neighbour point.neighbours known.of.others among in
    takes_line zone (declares region is places (done ++ with_front point front ∷ rest) [] []) Nothing (lines.Neighbour point.stop neighbour)
    (map (λ (n : Neighbour). lines.Neighbour point.stop n) more) (declares region is places (done ++ point ∷ rest) [] []) Nothing
    (record {
      says = neighbour_reads region Nothing point.stop neighbour refl known.ref code (is_differ neighbour.code region other) change.0 change.1;
      passes = neighbour_passes region is places done point front more neighbour rest known before e;
      one = joined_line (codes "neighbour") (point.stop ∷ neighbour.code ∷ decimal neighbour.change ∷ []) refl (
        word_line point.stop (stop_word point.stop known.ref),
        (
          word_line neighbour.code (code_word neighbour.code code),
          (word_line (decimal neighbour.change) (decimal_word neighbour.change (omega (arith, change.1))), tt),
        ),
      );
    })
    (from_equal zone (declares region is places (done ++ with_front point (front ++ neighbour ∷ []) ∷ rest) [] [])
    (grown (declares region is places (done ++ with_front point front ∷ rest) [] []) (lines.Neighbour point.stop neighbour))
    (declares region is places (done ++ point ∷ rest) [] []) Nothing Nothing (map (λ (n : Neighbour). lines.Neighbour point.stop n) more)
    (neighbour_grows region is places done point front more neighbour rest before rises)
    (takes_at_point zone region is places done point (front ++ neighbour ∷ []) more rest known before (append_assoc front (neighbour ∷ []) more ∙ e)))

elsewhere_before : (done : List Point) (point : Point) (rest : List Point) → IsRising point_lt (done ++ point ∷ rest) → AreElsewhere point.stop done
elsewhere_before [] point rest h = tt
elsewhere_before (d ∷ done) point rest h =
    (differs d.stop point.stop (each_at (λ (p : Point). point_lt d p ≡ true) point (done ++ point ∷ rest) h.0 (among_middle done point rest)), elsewhere_before done point rest h.1)

pub takes_neighbours : (zone region : Text) (is : Zone) (places : List Place) (all done rest : List Point) → done ++ rest ≡ all → Each (IsSpelledPoint region places) all → IsRising point_lt all
    → Takes zone (declares region is places (done ++ map bare rest) [] []) Nothing (flat_map neighbour_lines rest) (declares region is places all [] []) Nothing
unfolding bare
takes_neighbours zone region is places all done [] e known rises =
    takes_none zone (declares region is places (done ++ []) [] []) (declares region is places all [] []) Nothing (ap (λ (ps : List Point). declares region is places ps [] []) e)
takes_neighbours zone region is places all done (point ∷ rest) e known rises =
    let its = each_at (IsSpelledPoint region places) point all known (among_of all done point rest e) in
    let before = elsewhere_before done point rest (subst (IsRising point_lt) (sym e) rises) in
    let next : done ++ point ∷ map bare rest ≡ (done ++ point ∷ []) ++ map bare rest = sym (append_assoc done (point ∷ []) (map bare rest)) in
    takes_more zone (declares region is places (done ++ with_front point [] ∷ map bare rest) [] []) (declares region is places (done ++ point ∷ map bare rest) [] [])
    (declares region is places all [] []) Nothing Nothing Nothing (neighbour_lines point) (flat_map neighbour_lines rest)
    (takes_at_point zone region is places done point [] point.neighbours (map bare rest) its before refl)
    (subst (λ (ps : List Point). Takes zone (declares region is places ps [] []) Nothing (flat_map neighbour_lines rest) (declares region is places all [] []) Nothing) (sym next)
    (takes_neighbours zone region is places all (done ++ point ∷ []) rest (append_assoc done (point ∷ []) rest ∙ e) known rises))

-- ---- a service

service_passes : (region : Text) (is : Zone) (places : List Place) (points : List Point) (done rest : List Service) (service : Service)
    → HaveOwn (λ (s : Service). s.id) (done ++ service ∷ rest) → length (done ++ service ∷ rest) ≤ 1000 → Passes (declares region is places points done []) Nothing (service_line service)
unfolding is_foreign is_doubled lacks_stop lacks_service is_falling is_full has_service
service_passes region is places points done rest service own few = record {
  own = refl;
  new = own_new (λ (s : Service). s.id) done service rest own;
  stop = refl;
  service = refl;
  times = refl;
  room = not_le 1000 (length done) (omega (arith, few, length-append done (service ∷ rest)));
}

pub takes_services : (zone region : Text) (is : Zone) (places : List Place) (points : List Point) (all done rest : List Service) → done ++ rest ≡ all
    → Each (λ (s : Service). is_label s.id ≡ true) all → HaveOwn (λ (s : Service). s.id) all → ((s : Service) → Among s all → AreDays s.first s.last s.marks) → length all ≤ 1000
    → Takes zone (declares region is places points done []) Nothing (map service_line rest) (declares region is places points all []) Nothing
takes_services zone region is places points all done [] e labels own days few =
    takes_none zone (declares region is places points done []) (declares region is places points all []) Nothing (ap (λ (ss : List Service). declares region is places points ss []) (sym (append-nil done) ∙ e))
takes_services zone region is places points all done (service ∷ rest) e labels own days few =
    let among = among_of all done service rest e in
    let label = each_at (λ (s : Service). is_label s.id ≡ true) service all labels among in
    takes_line zone (declares region is places points done []) Nothing (service_line service) (map service_line rest) (declares region is places points all []) Nothing
    (record {
      says = service_reads region Nothing service.id (record { first = service.first; last = service.last; marks = service.marks }) refl label (days service among);
      passes = service_passes region is places points done rest service (own_of (λ (s : Service). s.id) all (done ++ service ∷ rest) e own)
          (subst (λ (ss : List Service). length ss ≤ 1000) (sym e) few);
      one = joined_line (codes "service") (service.id ∷ day_text service.first ∷ day_text service.last ∷ marks_text service.marks ∷ []) refl (
        word_line service.id (label_word service.id label),
        (
          word_line (day_text service.first) (day_word service.first),
          (
            word_line (day_text service.last) (day_word service.last),
            (word_line (marks_text service.marks) (marks_word service.marks), tt),
          ),
        ),
      );
    })
    (takes_services zone region is places points all (done ++ service ∷ []) rest (append_assoc done (service ∷ []) rest ∙ e) labels own days few)
