-- The tests of a book, by what it lists and by what the timetables declare.
use Rattle.std.proofs.Common.{◌≡◌, ◌≢◌, ℕ, true, ◌&&◌, ◌⊎◌, List, map, Option, Some, None, refl, sym, ◌∙◌, ap, subst, inl, inr}
use Rattle.std.proofs.lemmas.Bool.{true≢false, and_parts, and_from, or_cases, or_left, or_right}
use Rattle.ojp_values.specs.Lists.{Among}
use Rattle.ojp_values.specs.Texts.{Text, same, home}
use Rattle.ojp_values.specs.declared.trips.Point.{Point}
use Rattle.ojp_timetable.specs.Tables.{Timetable}
use Rattle.ojp_timetable.specs.Runs.{IsOfRegion}
use Rattle.ojp_timetable.specs.Journeys.{Declares, IsCrossing}
use Rattle.ojp_timetable.specs.Journeys.{AreTables}
use Rattle.ojp_exchange.specs.declared.region_points.RegionPoints.{RegionPoints}
use Rattle.ojp_exchange.specs.Book.{Spot, Link, Book, HasSpot, HasLink, points_of, IsBookOfTables, HasReturn, IsAgreed, has_region, is_home, serves, is_declared, leads_out, HasChange}
use Rattle.ojp_values.proofs.ListFacts.{Member, among_map, among_map_back, among_list_any, among_list_any_back}
use Rattle.ojp_timetable.proofs.TextFacts.{same_is, is_same}

pub is_region : (book : Book) (code : Text) → Among code book.codes → has_region book code ≡ true
unfolding has_region
is_region book code h = among_list_any (same code) code book.codes h (is_same code code refl)

pub region_is : (book : Book) (code : Text) → has_region book code ≡ true → Among code book.codes
unfolding has_region
region_is book code e =
    let m : Member book.codes (λ x. same code x ≡ true) = among_list_any_back (same code) book.codes e in
    subst (λ (x : Text). Among x book.codes) (sym (same_is code m.item m.holds)) m.among

-- the spot that declares the stop for the region
abbrev pub SpotOf : Book → Text → Text → Type 0
SpotOf book region stop = Member book.spots (λ (spot : Spot). (spot.region ≡ region) × (spot.stop ≡ stop))

pub serves_home : (book : Book) (region stop : Text) → home stop ≡ Some region → serves book region stop ≡ true
unfolding serves
serves_home book region stop e =
    or_left (is_home region (home stop)) _ (ap (is_home region) e ∙ is_same region region refl)

pub serves_spot : (book : Book) (spot : Spot) → Among spot book.spots → serves book spot.region spot.stop ≡ true
unfolding serves
serves_spot book spot h =
    or_right (is_home spot.region (home spot.stop)) _ (among_list_any (λ (it : Spot). same spot.region it.region && same spot.stop it.stop) spot book.spots h
    (and_from _ _ (is_same spot.region spot.region refl) (is_same spot.stop spot.stop refl)))

home_is : (region : Text) (code : Option Text) → is_home region code ≡ true → code ≡ Some region
home_is region None e = absurd (true≢false (sym e))
home_is region (Some code) e = ap Some (sym (same_is region code e))

pub serves_cases : (book : Book) (region stop : Text) → serves book region stop ≡ true → (home stop ≡ Some region) ⊎ SpotOf book region stop
unfolding serves
serves_cases book region stop e =
    elim (or_cases (is_home region (home stop)) _ e) [
      | inl own ↦ inl (home_is region (home stop) own)
      | inr listed ↦
          let m : Member book.spots (λ (it : Spot). (same region it.region && same stop it.stop) ≡ true) =
          among_list_any_back (λ (it : Spot). same region it.region && same stop it.stop) book.spots listed in
          let parts : (same region m.item.region ≡ true) × (same stop m.item.stop ≡ true) = and_parts _ _ m.holds in
          inr (record { item = m.item; among = m.among; holds = (sym (same_is region m.item.region parts.0), sym (same_is stop m.item.stop parts.1)) })
    ]

pub is_declared_is : (book : Book) (spot : Spot) → Among spot book.spots → is_declared book spot.stop ≡ true
unfolding is_declared
is_declared_is book spot h = among_list_any (λ (it : Spot). same spot.stop it.stop) spot book.spots h (is_same spot.stop spot.stop refl)

pub declared_is : (book : Book) (stop : Text) → is_declared book stop ≡ true → Member book.spots (λ (spot : Spot). spot.stop ≡ stop)
unfolding is_declared
declared_is book stop e =
    let m : Member book.spots (λ (it : Spot). same stop it.stop ≡ true) = among_list_any_back (λ (it : Spot). same stop it.stop) book.spots e in
    record { item = m.item; among = m.among; holds = sym (same_is stop m.item.stop m.holds) }

pub leads_out_is : (book : Book) (link : Link) → Among link book.links → Among link.other book.codes → leads_out book link.region link.stop ≡ true
unfolding leads_out
leads_out_is book link h other =
    among_list_any (λ (it : Link). same link.region it.region && (same link.stop it.stop && has_region book it.other)) link book.links h
    (and_from _ _ (is_same link.region link.region refl) (and_from _ _ (is_same link.stop link.stop refl) (is_region book link.other other)))

-- the spot is declared by a timetable
pub record SpotTable (tables : List Timetable) (spot : Spot) : Type 0 where
  pub table : Timetable
  pub of_tables : Among table tables
  pub region : table.region ≡ spot.region
  pub point : Point
  pub listed : Among point table.points
  pub at : point.stop ≡ spot.stop

pub spot_table : (tables : List Timetable) (spot : Spot) → HasSpot (map points_of tables) spot → SpotTable tables spot
spot_table tables spot it =
    let m : Member tables (λ (table : Timetable). it.list ≡ points_of table) = among_map_back points_of it.list tables it.of_lists in
    record {
      table = m.item;
      of_tables = m.among;
      region = sym (ap (λ (list : RegionPoints). list.code) m.holds) ∙ it.code;
      point = it.point;
      listed = subst (λ (list : RegionPoints). Among it.point list.points) m.holds it.listed;
      at = it.at;
    }

-- the link is declared by a timetable
pub record LinkTable (tables : List Timetable) (link : Link) : Type 0 where
  pub table : Timetable
  pub of_tables : Among table tables
  pub region : table.region ≡ link.region
  pub declares : Declares table link.stop link.other link.change

pub link_table : (tables : List Timetable) (link : Link) → HasLink (map points_of tables) link → LinkTable tables link
link_table tables link it =
    let m : Member tables (λ (table : Timetable). it.list ≡ points_of table) = among_map_back points_of it.list tables it.of_lists in
    record {
      table = m.item;
      of_tables = m.among;
      region = sym (ap (λ (list : RegionPoints). list.code) m.holds) ∙ it.code;
      declares = record {
        point = it.point;
        of_table = subst (λ (list : RegionPoints). Among it.point list.points) m.holds it.listed;
        at = it.at;
        neighbour = it.neighbour;
        listed = it.declared;
        code = it.other;
        time = it.time;
      };
    }

-- what the timetables give the book

pub code_listed : (tables : List Timetable) (book : Book) (table : Timetable) → IsBookOfTables tables book → Among table tables → Among table.region book.codes
code_listed tables book table book_of h = (book_of.codes table.region).1 (points_of table, among_map points_of table tables h, refl)

spot_of : Text → Point → Spot
spot_of region point = record { stop = point.stop; region = region; change = point.change }

pub spot_listed : (tables : List Timetable) (book : Book) (table : Timetable) (point : Point) → IsBookOfTables tables book → Among table tables → Among point table.points → SpotOf book table.region point.stop
unfolding spot_of
spot_listed tables book table point book_of h listed =
    record {
      item = spot_of table.region point;
      among = (book_of.spots (spot_of table.region point)).1 (record {
        list = points_of table;
        of_lists = among_map points_of table tables h;
        code = refl;
        point = point;
        listed = listed;
        at = refl;
        time = refl;
      });
      holds = (refl, refl);
    }

pub region_served : (tables : List Timetable) (book : Book) (table : Timetable) (stop : Text) → IsBookOfTables tables book → Among table tables → IsOfRegion table stop → serves book table.region stop ≡ true
region_served tables book table stop book_of h (inl own) = serves_home book table.region stop own
region_served tables book table stop book_of h (inr (point, listed, at)) =
    let spot : SpotOf book table.region point.stop = spot_listed tables book table point book_of h listed in
    subst (λ (region : Text). serves book region stop ≡ true) spot.holds.0
    (subst (λ (place : Text). serves book spot.item.region place ≡ true) (spot.holds.1 ∙ at) (serves_spot book spot.item spot.among))

link_of : Text → Text → Text → ℕ → Link
link_of stop region other change = record { stop = stop; region = region; other = other; change = change }

-- the link that a declaration makes
abbrev pub LinkOf : Book → Text → Text → Text → ℕ → Type 0
LinkOf book stop region other change =
    Member book.links (λ (link : Link). (link.stop ≡ stop) × (link.region ≡ region) × (link.other ≡ other) × (link.change ≡ change))

pub link_listed : (tables : List Timetable) (book : Book) (table : Timetable) (stop other : Text) (change : ℕ) → IsBookOfTables tables book → Among table tables → Declares table stop other change → LinkOf book stop table.region other change
unfolding link_of
link_listed tables book table stop other change book_of h declares =
    record {
      item = link_of stop table.region other change;
      among = (book_of.links (link_of stop table.region other change)).1 (record {
        list = points_of table;
        of_lists = among_map points_of table tables h;
        code = refl;
        point = declares.point;
        listed = declares.of_table;
        at = declares.at;
        neighbour = declares.neighbour;
        declared = declares.listed;
        other = declares.code;
        time = declares.time;
      });
      holds = (refl, refl, refl, refl);
    }

pub change_listed : (tables : List Timetable) (book : Book) (left right : Timetable) (stop : Text) (change : ℕ) → IsBookOfTables tables book → Among left tables → Among right tables → Declares right stop left.region change → HasChange book stop left.region right.region change
change_listed tables book left right stop change book_of of_left of_right declares =
    let link : LinkOf book stop right.region left.region change = link_listed tables book right stop left.region change book_of of_right declares in
    record {
      known = code_listed tables book left book_of of_left;
      link = link.item;
      listed = link.among;
      at = link.holds.0;
      declaring = link.holds.1;
      other = link.holds.2;
      time = link.holds.3;
    }

pub leads_out_listed : (tables : List Timetable) (book : Book) (left right : Timetable) (stop : Text) (change : ℕ) → IsBookOfTables tables book → Among left tables → Among right tables → Declares left stop right.region change → leads_out book left.region stop ≡ true
leads_out_listed tables book left right stop change book_of of_left of_right declares =
    let link : LinkOf book stop left.region right.region change = link_listed tables book left stop right.region change book_of of_left declares in
    let known : Among link.item.other book.codes = subst (λ (code : Text). Among code book.codes) (sym link.holds.2) (code_listed tables book right book_of of_right) in
    subst (λ (region : Text). leads_out book region stop ≡ true) link.holds.1
    (subst (λ (place : Text). leads_out book link.item.region place ≡ true) link.holds.0 (leads_out_is book link.item link.among known))

pub one_table : (tables : List Timetable) (x y : Timetable) → AreTables tables → Among x tables → Among y tables → x.region ≡ y.region → x ≡ y
one_table tables x y well of_x of_y e = well.one_each x y of_x of_y e

-- what a link of the book declares, by the timetable of its region
pub link_declares : (tables : List Timetable) (book : Book) (link : Link) (table : Timetable) → AreTables tables → IsBookOfTables tables book → Among link book.links → Among table tables → table.region ≡ link.region → Declares table link.stop link.other link.change
link_declares tables book link table well book_of listed h region =
    let has : LinkTable tables link = link_table tables link ((book_of.links link).0 listed) in
    let same : has.table ≡ table = one_table tables has.table table well has.of_tables h (has.region ∙ sym region) in
    subst (λ (it : Timetable). Declares it link.stop link.other link.change) same has.declares

-- a change of the book is declared in both directions
pub change_declared :
    (tables : List Timetable) (book : Book) (left right : Timetable) (stop : Text) (change : ℕ)
    → AreTables tables → IsBookOfTables tables book → IsAgreed book → Among left tables → Among right tables
    → left.region ≢ right.region → HasChange book stop left.region right.region change → IsCrossing left stop right change
change_declared tables book left right stop change well book_of agreed of_left of_right other has =
    let known : Among has.link.other book.codes = subst (λ (code : Text). Among code book.codes) (sym has.other) has.known in
    let return : HasReturn book has.link = agreed has.link has.listed known in
    let at_right : Declares right has.link.stop has.link.other has.link.change =
    link_declares tables book has.link right well book_of has.listed of_right (sym has.declaring) in
    let at_left : Declares left return.0.stop return.0.other return.0.change =
    link_declares tables book return.0 left well book_of return.1 of_left (sym (return.3 ∙ has.other)) in
    let left_stop : Declares left stop return.0.other return.0.change =
    subst (λ (s : Text). Declares left s return.0.other return.0.change) (return.2 ∙ has.at) at_left in
    let right_stop : Declares right stop has.link.other has.link.change =
    subst (λ (s : Text). Declares right s has.link.other has.link.change) has.at at_right in
    let right_other : Declares right stop left.region has.link.change =
    subst (λ (code : Text). Declares right stop code has.link.change) has.other right_stop in
    record {
      other = other;
      back = return.0.change;
      left_declares = subst (λ (code : Text). Declares left stop code return.0.change) (return.4 ∙ has.declaring) left_stop;
      right_declares = subst (λ (n : ℕ). Declares right stop left.region n) has.time right_other;
    }
