-- The places of a book: what stands where, and which stops a region serves.
use Rattle.std.proofs.Common.{◌≡◌, ℕ, ◌&&◌, ◌||◌, Bool, true, false, List, Option, Some, None, map, refl, sym, ◌∙◌, ap, slice_get, is_some, option_map, inl, inr}
use Rattle.std.specs.Prelude.{MatchOption}
use Rattle.std.specs.List.{list_any}
use Rattle.std.proofs.lemmas.Bool.{and_from, and_parts, cases_Bool}
use Rattle.std.proofs.lemmas.Option.{none-some, same_Some, slice_get-map}
use Rattle.ojp_values.specs.Lists.{Among}
use Rattle.ojp_values.specs.Texts.{Text, home, same, text_lt}
use Rattle.ojp_values.specs.declared.trips.Point.{Point}
use Rattle.ojp_values.proofs.ListFacts.{among_list_any}
use Rattle.ojp_timetable.proofs.AmongFacts.{any_true}
use Rattle.ojp_timetable.proofs.Orders.{IsOrder, and_true, text_order, then_order}
use Rattle.ojp_timetable.proofs.ReadFacts.{among_at, at_among}
use Rattle.ojp_timetable.proofs.TextFacts.{is_same, same_is}
use Rattle.ojp_exchange.specs.Book.{Book, Link, Spot, is_home, serves, spot_lt}
use Rattle.ojp_exchange.specs.Kept.{HasNoPoint, IsPointAt, IsWellBook, book_of, spot_of}
use Rattle.ojp_exchange.specs.Places.{IsPairAt, IsSpotAt, NoPairAt}
use Rattle.ojp_exchange.proofs.RisingFacts.{rising_place}

-- ---- points and places

pub pair_at : (codes : List Text) (points : List Point) (place : ℕ) (stop region : Text) → IsPointAt points stop region place → IsPairAt (book_of codes points) place stop region
pair_at codes points place stop region it = record {
  spot = spot_of it.point;
  at = slice_get-map spot_of points place ∙ ap (option_map spot_of) it.at;
  stop_is = it.stop_is;
  region_is = it.region_is;
}

-- the point of a spot
pub point_at : (points : List Point) (place : ℕ) (spot : Spot) → slice_get (map spot_of points) place ≡ Some spot → (point : Point) × (slice_get points place ≡ Some point) × (spot_of point ≡ spot)
point_at points place spot e = go (slice_get points place) refl (sym (slice_get-map spot_of points place) ∙ e)
  where
    go : (o : Option Point) → slice_get points place ≡ o → option_map spot_of o ≡ Some spot → (point : Point) × (slice_get points place ≡ Some point) × (spot_of point ≡ spot)
    go None at f = absurd (none-some spot f)
    go (Some point) at f = (point, at, same_Some (spot_of point) spot f)

pub pair_point : (codes : List Text) (points : List Point) (place : ℕ) (stop region : Text) → IsPairAt (book_of codes points) place stop region → IsPointAt points stop region place
pair_point codes points place stop region it =
    let found = point_at points place it.spot it.at in
    record {
      point = found.0;
      at = found.1;
      stop_is = ap (λ (s : Spot). s.stop) found.2 ∙ it.stop_is;
      region_is = ap (λ (s : Spot). s.region) found.2 ∙ it.region_is;
    }

pub place_found : (codes : List Text) (points : List Point) (stop region : Text) (found : Option ℕ) → MatchOption found (HasNoPoint points stop region) (IsPointAt points stop region)
    → MatchOption found (NoPairAt (book_of codes points) stop region) (λ place. IsPairAt (book_of codes points) place stop region)
place_found codes points stop region None none = λ place it.
    let here = pair_point codes points place stop region it in
    none here.point (among_at points place here.point here.at) here.stop_is here.region_is
place_found codes points stop region (Some place) it = pair_at codes points place stop region it

-- ---- what a region serves

abbrev is_spot_of : Text → Text → Spot → Bool
is_spot_of region stop spot = same region spot.region && same stop spot.stop

declares_by : (book : Book) (region stop : Text) (found : Option ℕ) → MatchOption found (NoPairAt book stop region) (λ place. IsPairAt book place stop region)
    → is_some found ≡ list_any (is_spot_of region stop) book.spots
declares_by book region stop (Some place) it =
    sym (among_list_any (is_spot_of region stop) it.spot book.spots (among_at book.spots place it.spot it.at)
    (and_from _ _ (is_same region it.spot.region (sym it.region_is)) (is_same stop it.spot.stop (sym it.stop_is))))
declares_by book region stop None none = elim (cases_Bool (list_any (is_spot_of region stop) book.spots)) [
  | inl t ↦
      let has = any_true (is_spot_of region stop) book.spots t in
      let at = at_among book.spots has.0 has.1 in
      let parts : (same region has.0.region ≡ true) × (same stop has.0.stop ≡ true) = and_parts _ _ has.2 in
      absurd (none at.0 (record { spot = has.0; at = at.1; stop_is = sym (same_is stop has.0.stop parts.1); region_is = sym (same_is region has.0.region parts.0) }))
  | inr t ↦ sym t
]

pub serves_own : (book : Book) (region stop : Text) (own : Bool) → own ≡ is_home region (home stop) → own ≡ true → true ≡ serves book region stop
unfolding serves
serves_own book region stop own e held = sym (ap (λ (b : Bool). b || list_any (is_spot_of region stop) book.spots) (sym e ∙ held))

pub serves_away : (book : Book) (region stop : Text) (own : Bool) (place : Option ℕ) (found : Bool) → own ≡ is_home region (home stop) → own ≡ false → found ≡ is_some place
    → MatchOption place (NoPairAt book stop region) (λ place. IsPairAt book place stop region) → found ≡ serves book region stop
unfolding serves
serves_away book region stop own place found e other f it =
    f ∙ (declares_by book region stop place it ∙ sym (ap (λ (b : Bool). b || list_any (is_spot_of region stop) book.spots) (sym e ∙ other)))

-- ---- what holds of every book, by places

abbrev spot_tie : Spot → Spot → Bool
spot_tie x y = same x.stop y.stop && same x.region y.region

spot_order : IsOrder spot_lt spot_tie
spot_order =
    then_order (λ (x : Spot) (y : Spot). text_lt x.stop y.stop) (λ (x : Spot) (y : Spot). same x.stop y.stop) _ _ (text_order (λ (x : Spot). x.stop))
    (text_order (λ (x : Spot). x.region))

-- a region declares a stop once
pub one_place : (book : Book) (x y : ℕ) (stop region : Text) → IsWellBook book → IsPairAt book x stop region → IsPairAt book y stop region → x ≡ y
one_place book x y stop region well a b =
    let tie : spot_tie a.spot b.spot ≡ true = and_true _ _ (is_same a.spot.stop b.spot.stop (a.stop_is ∙ sym b.stop_is)) (is_same a.spot.region b.spot.region (a.region_is ∙ sym b.region_is)) in
    rising_place spot_lt spot_tie spot_order book.spots x y a.spot b.spot well.spots_rise a.at b.at tie

pub known_at : (book : Book) (place : ℕ) (spot : Spot) → IsWellBook book → IsSpotAt book place spot → Among spot.region book.codes
known_at book place spot well at = well.known spot (among_at book.spots place spot at)

-- the region of a link has its spot there
pub declaring_at : (book : Book) (link : Link) → IsWellBook book → Among link book.links → (place : ℕ) × IsPairAt book place link.stop link.region
declaring_at book link well listed =
    let has = well.declaring link listed in
    let at = at_among book.spots has.0 has.1 in
    (at.0, record { spot = has.0; at = at.1; stop_is = has.2; region_is = has.3 })

-- so has the other one, if it is a region of the book
pub returned_at : (book : Book) (link : Link) → IsWellBook book → Among link book.links → Among link.other book.codes → (place : ℕ) × IsPairAt book place link.stop link.other
returned_at book link well listed known =
    let back = well.sound.agreed link listed known in
    let it = declaring_at book back.0 well back.1 in
    (it.0, record { spot = it.1.spot; at = it.1.at; stop_is = it.1.stop_is ∙ back.2; region_is = it.1.region_is ∙ back.3 })
