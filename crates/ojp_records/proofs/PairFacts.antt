-- The pairs rise, and so do their wanted queries.
use Rattle.std.proofs.Common.{◌≡◌, ◌≢◌, ℕ, Bool, true, false, cond, ◌||◌, ◌⊎◌, List, [], ◌∷◌, map, Option, Some, None, refl, sym, ◌∙◌, ap, subst, inl, inr}
use Rattle.std.proofs.lemmas.Bool.{true≢false, and_parts, and_from, or_cases, or_left, or_right}
use Rattle.std.specs.List.{filter_map, cons_option}
use Rattle.ojp_values.proofs.EachFacts.{each_of}
use Rattle.ojp_values.specs.Lists.{Among, Each, IsRising}
use Rattle.ojp_values.specs.Texts.{Text, same, text_lt, is_exchange, code_part, home}
use Rattle.ojp_values.specs.declared.asks.TripAsk.{TripAsk}
use Rattle.ojp_values.proofs.ListFacts.{each_at}
use Rattle.ojp_timetable.specs.Points.{IsPointOf}
use Rattle.ojp_timetable.proofs.ListFacts.{each_map}
use Rattle.ojp_timetable.proofs.PointOrder.{lt_carried, lt_other}
use Rattle.ojp_timetable.proofs.TextFacts.{same_is, is_same, is_differ}
use Rattle.ojp_exchange.specs.Book.{Book, Spot, spot_lt, has_region}
use Rattle.ojp_exchange.proofs.BookFacts.{SpotTable, spot_table}
use Rattle.ojp_records.specs.declared.queries.Query.{Query}
use Rattle.ojp_records.specs.declared.queries.Entry.{Entry}
use Rattle.ojp_records.specs.Records.{is_told}
use Rattle.ojp_records.specs.Pairs.{Pair, pair_lt, placed, with_own, pair_of, pairs_from, AreInOrder}
use Rattle.ojp_records.specs.Wanted.{improving_start, reach_at, reach_lt, wanted_at, wanted_pairs}
use Rattle.ojp_records.specs.Laws.{PairsAreListed, BooksAreInOrder}
use Rattle.ojp_records.proofs.WantedFacts.{pair_wanted, is_pair_wanted, wanted_start}

-- ---- the order of pairs

lt_cases : (p q : Pair) → pair_lt p q ≡ true → (text_lt p.stop q.stop ≡ true) ⊎ ((p.stop ≡ q.stop) × (text_lt p.region q.region ≡ true))
lt_cases p q e =
    elim (or_cases (text_lt p.stop q.stop) _ e) [
      | inl less ↦ inl less
      | inr both ↦
          let parts : (same p.stop q.stop ≡ true) × (text_lt p.region q.region ≡ true) = and_parts _ _ both in
          inr (same_is p.stop q.stop parts.0, parts.1)
    ]

by_stop : (p q : Pair) → text_lt p.stop q.stop ≡ true → pair_lt p q ≡ true
by_stop p q e = or_left (text_lt p.stop q.stop) _ e

by_region : (p q : Pair) → p.stop ≡ q.stop → text_lt p.region q.region ≡ true → pair_lt p q ≡ true
by_region p q e less = or_right (text_lt p.stop q.stop) _ (and_from _ _ (is_same p.stop q.stop e) less)

carried : (p q r : Pair) → pair_lt p q ≡ true → pair_lt q r ≡ true → pair_lt p r ≡ true
carried p q r h k = go (lt_cases p q h) (lt_cases q r k)
  where
    go : (text_lt p.stop q.stop ≡ true) ⊎ ((p.stop ≡ q.stop) × (text_lt p.region q.region ≡ true)) → (text_lt q.stop r.stop ≡ true) ⊎ ((q.stop ≡ r.stop) × (text_lt q.region r.region ≡ true)) → pair_lt p r ≡ true
    go (inl a) (inl b) = by_stop p r (lt_carried p.stop q.stop r.stop a b)
    go (inl a) (inr b) = by_stop p r (subst (λ (s : Text). text_lt p.stop s ≡ true) b.0 a)
    go (inr a) (inl b) = by_stop p r (subst (λ (s : Text). text_lt s r.stop ≡ true) (sym a.0) b)
    go (inr a) (inr b) = by_region p r (a.0 ∙ b.0) (lt_carried p.region q.region r.region a.1 b.1)

not_stop : (a b : Bool) → (a || b) ≡ false → a ≡ false
not_stop true b e = absurd (true≢false e)
not_stop false b e = refl

other_way : (p q : Pair) → p.stop ≢ q.stop → pair_lt p q ≡ false → pair_lt q p ≡ true
other_way p q differ e = by_stop q p (lt_other p.stop q.stop (is_differ p.stop q.stop differ) (not_stop (text_lt p.stop q.stop) _ e))

-- ---- a pair in its place

each_if : (P : Pair → Type 0) (b : Bool) (xs ys : List Pair) → Each P xs → Each P ys → Each P (cond b xs ys)
each_if P true xs ys h k = h
each_if P false xs ys h k = k

placed_each : (P : Pair → Type 0) (p : Pair) (qs : List Pair) → P p → Each P qs → Each P (placed p qs)
placed_each P p [] h each = (h, tt)
placed_each P p (q ∷ qs) h each = each_if P (pair_lt p q) (p ∷ q ∷ qs) (q ∷ placed p qs) (h, (each.0, each.1)) (each.0, placed_each P p qs h each.1)

placed_step : (p q : Pair) (qs : List Pair) (b : Bool) → pair_lt p q ≡ b → p.stop ≢ q.stop → Each (λ (r : Pair). pair_lt q r ≡ true) qs → IsRising pair_lt qs → IsRising pair_lt (placed p qs) → IsRising pair_lt (cond b (p ∷ q ∷ qs) (q ∷ placed p qs))
placed_step p q qs true e differ each rises rest = ((e, each_map (λ (r : Pair). pair_lt q r ≡ true) (λ (r : Pair). pair_lt p r ≡ true) (λ r h. carried p q r e h) qs each), (each, rises))
placed_step p q qs false e differ each rises rest = (placed_each (λ (r : Pair). pair_lt q r ≡ true) p qs (other_way p q differ e) each, rest)

placed_rise : (p : Pair) (qs : List Pair) → Each (λ (q : Pair). p.stop ≢ q.stop) qs → IsRising pair_lt qs → IsRising pair_lt (placed p qs)
placed_rise p [] differ rises = (tt, tt)
placed_rise p (q ∷ qs) differ rises = placed_step p q qs (pair_lt p q) refl differ.0 rises.0 rises.1 (placed_rise p qs differ.1 rises.1)

-- ---- all pairs

spots_before : (spot : Spot) (spots : List Spot) → Each (λ (it : Spot). spot_lt spot it ≡ true) spots → Each (λ (q : Pair). pair_lt (pair_of spot) q ≡ true) (map pair_of spots)
spots_before spot [] each = tt
spots_before spot (next ∷ spots) each = (each.0, spots_before spot spots each.1)

spots_rise : (spots : List Spot) → IsRising spot_lt spots → IsRising pair_lt (map pair_of spots)
spots_rise [] rises = tt
spots_rise (spot ∷ spots) rises = (spots_before spot spots rises.0, spots_rise spots rises.1)

elsewhere : (begin code : Text) (spots : List Spot) → home begin ≡ Some code → Each (λ (spot : Spot). home spot.stop ≡ None) spots → Each (λ (q : Pair). begin ≢ q.stop) (map pair_of spots)
elsewhere begin code [] own each = tt
elsewhere begin code (spot ∷ spots) own each =
    (λ e. let none : None ≡ Some code = sym each.0 ∙ (ap home (sym e) ∙ own) in cc, elsewhere begin code spots own each.1)

rising_if : (b : Bool) (xs ys : List Pair) → IsRising pair_lt xs → IsRising pair_lt ys → IsRising pair_lt (cond b xs ys)
rising_if true xs ys h k = h
rising_if false xs ys h k = k

own_rise : (book : Book) (begin : Text) (code : Option Text) → AreInOrder book.spots → home begin ≡ code → IsRising pair_lt (with_own book begin code (map pair_of book.spots))
own_rise book begin None order own = spots_rise book.spots order.0
own_rise book begin (Some code) order own =
    let rises : IsRising pair_lt (map pair_of book.spots) = spots_rise book.spots order.0 in
    rising_if (has_region book code) (placed (record { stop = begin; region = code }) (map pair_of book.spots)) (map pair_of book.spots)
    (placed_rise (record { stop = begin; region = code }) (map pair_of book.spots) (elsewhere begin code book.spots own order.1) rises) rises

pub pairs_rise : (book : Book) (begin : Text) → AreInOrder book.spots → IsRising pair_lt (pairs_from book begin)
unfolding pairs_from
pairs_rise book begin order = own_rise book begin (home begin) order refl

-- ---- their wanted queries

-- what is made of a pair is a query of it
abbrev MakesReach : (Pair → Option Query) → Type 0
MakesReach make = (pair : Pair) (query : Query) → make pair ≡ Some query → (start : ℕ) × (query ≡ reach_at pair start)

before_step : (pair next : Pair) (start : ℕ) (o : Option Query) (rest : List Query) → pair_lt pair next ≡ true → ((query : Query) → o ≡ Some query → (later : ℕ) × (query ≡ reach_at next later)) → Each (λ (query : Query). reach_lt (reach_at pair start) query ≡ true) rest → Each (λ (query : Query). reach_lt (reach_at pair start) query ≡ true) (cons_option o rest)
before_step pair next start None rest less makes each = each
before_step pair next start (Some query) rest less makes each =
    let is : (later : ℕ) × (query ≡ reach_at next later) = makes query refl in
    (subst (λ (q : Query). reach_lt (reach_at pair start) q ≡ true) (sym is.1) less, each)

all_before : (make : Pair → Option Query) → MakesReach make → (pair : Pair) (start : ℕ) (ps : List Pair) → Each (λ (q : Pair). pair_lt pair q ≡ true) ps → Each (λ (query : Query). reach_lt (reach_at pair start) query ≡ true) (filter_map make ps)
all_before make makes pair start [] each = tt
all_before make makes pair start (next ∷ ps) each = before_step pair next start (make next) (filter_map make ps) each.0 (makes next) (all_before make makes pair start ps each.1)

rise_step : (make : Pair → Option Query) (pair : Pair) (o : Option Query) (rest : List Query) → ((query : Query) → o ≡ Some query → (start : ℕ) × (query ≡ reach_at pair start)) → ((start : ℕ) → Each (λ (query : Query). reach_lt (reach_at pair start) query ≡ true) rest) → IsRising reach_lt rest → IsRising reach_lt (cons_option o rest)
rise_step make pair None rest makes each rises = rises
rise_step make pair (Some query) rest makes each rises =
    let is : (start : ℕ) × (query ≡ reach_at pair start) = makes query refl in
    (subst (λ (q : Query). Each (λ (later : Query). reach_lt q later ≡ true) rest) (sym is.1) (each is.0), rises)

queries_rise : (make : Pair → Option Query) → MakesReach make → (ps : List Pair) → IsRising pair_lt ps → IsRising reach_lt (filter_map make ps)
queries_rise make makes [] rises = tt
queries_rise make makes (pair ∷ ps) rises =
    rise_step make pair (make pair) (filter_map make ps) (makes pair) (λ start. all_before make makes pair start ps rises.0) (queries_rise make makes ps rises.1)

wanted_rise : (book : Book) (ask : TripAsk) (told : List Entry) → AreInOrder book.spots → IsRising reach_lt (wanted_pairs book ask told)
unfolding wanted_pairs
wanted_rise book ask told order =
    queries_rise (λ (pair : Pair). wanted_at told pair (improving_start book ask told pair))
    (λ pair query e. let it = wanted_start told pair (improving_start book ask told pair) query e in (it.0, it.2))
    (pairs_from book ask.origin) (pairs_rise book ask.origin order)

pub pairs_are_listed : PairsAreListed
pairs_are_listed book ask told order = (
  λ query. (pair_wanted book ask told query, λ it. subst (λ (q : Query). Among q (wanted_pairs book ask told)) (sym it.is) (is_pair_wanted book ask told it.pair it.start it.listed it.improves (subst (λ (q : Query). is_told told q ≡ false) it.is it.untold))),
  wanted_rise book ask told order,
)

-- ---- the book of timetables

pub no_home : (stop : Text) → is_exchange stop ≡ true → home stop ≡ None
unfolding home
no_home stop e = ap (λ (b : Bool). cond b None (Some (code_part stop))) e

pub books_are_in_order : BooksAreInOrder
books_are_in_order tables book whole = (
  whole.book_of.spots_rise,
  each_of (λ (spot : Spot). home spot.stop ≡ None) book.spots (λ spot h.
      let it : SpotTable tables spot = spot_table tables spot ((whole.book_of.spots spot).0 h) in
      let point : IsPointOf it.table.region it.point = each_at (IsPointOf it.table.region) it.point it.table.points (whole.tables_well.well it.table it.of_tables).points.each it.listed in
      subst (λ (s : Text). home s ≡ None) it.at (no_home it.point.stop point.exchange)),
)
