-- A region of well timetables has at most 255 spots, and so a pair at most 256 ends.
use Rattle.std.proofs.Common.{◌≡◌, ◌≢◌, Ordering, ◌≤◌, Bool, true, false, cond, ◌⊎◌, List, [], ◌∷◌, map, length, refl, sym, ◌∙◌, subst, inl, inr, arith}
use Rattle.std.proofs.lemmas.Bool.{true≢false, and_parts, or_cases}
use Rattle.std.specs.List.{filter}
use Rattle.std.specs.declared.cmp.Ordering.TheVariants.{Less, Equal, Greater}
use Rattle.std.specs.Ordering.{is_lt, is_eq, nat_cmp}
use Rattle.std.specs.Cmp.Lexicographic.{slice_cmp}
use Rattle.std.proofs.lemmas.Map.Text.{is_eq-slice_cmp}
use Rattle.ojp_values.specs.Lists.{Among, Each, IsRising}
use Rattle.ojp_values.specs.Texts.{Text, same, text_lt}
use Rattle.ojp_values.specs.declared.trips.Point.{Point}
use Rattle.ojp_values.proofs.ListFacts.{each_at, among_map, among_filter_back}
use Rattle.ojp_timetable.specs.Tables.{Timetable}
use Rattle.ojp_timetable.specs.Points.{AreWellPoints, point_lt}
use Rattle.ojp_timetable.proofs.PointOrder.{lt_carried}
use Rattle.ojp_timetable.proofs.TextFacts.{same_is, is_same}
use Rattle.ojp_exchange.specs.Book.{Book, Spot, spot_lt}
use Rattle.ojp_exchange.proofs.BookFacts.{SpotTable, spot_table, one_table}
use Rattle.ojp_records.specs.Headline.{AreTablesOf}
use Rattle.ojp_records.specs.Laws.{TargetsAreFew}
use Rattle.ojp_records.proofs.BoardFacts.{ends_few, ends_some, length_map}

-- ---- a rising list of members of a rising list is not longer

less_or_equal : (o : Ordering) → is_lt o ≡ true → is_eq o ≡ true → ⊥
less_or_equal Less l e = true≢false (sym e)
less_or_equal Equal l e = true≢false (sym l)
less_or_equal Greater l e = true≢false (sym l)

not_before_itself : (x : Text) → text_lt x x ≡ true → ⊥
unfolding text_lt same
not_before_itself x h = less_or_equal (slice_cmp nat_cmp x x) h (is_eq-slice_cmp x x ∙ is_same x x refl)

-- each is before what it is before, and so is none of them
none_is : (y : Text) (zs : List Text) → Each (λ (z : Text). text_lt y z ≡ true) zs → Each (λ (z : Text). z ≢ y) zs
none_is y [] each = tt
none_is y (z ∷ zs) each = (λ e. not_before_itself y (subst (λ (x : Text). text_lt y x ≡ true) e each.0), none_is y zs each.1)

all_before : (y x : Text) (zs : List Text) → text_lt y x ≡ true → Each (λ (z : Text). text_lt x z ≡ true) zs → Each (λ (z : Text). text_lt y z ≡ true) zs
all_before y x [] less each = tt
all_before y x (z ∷ zs) less each = (lt_carried y x z less each.0, all_before y x zs less each.1)

-- members of a list that are not its first are members of the others
of_others : (y : Text) (ys zs : List Text) → Each (λ (z : Text). z ≢ y) zs → Each (λ (z : Text). Among z (y ∷ ys)) zs → Each (λ (z : Text). Among z ys) zs
of_others y ys [] other all = tt
of_others y ys (z ∷ zs) other all = (elim all.0 [ inl e ↦ absurd (other.0 e) | inr h ↦ h ], of_others y ys zs other.1 all.1)

not_longer : (ys xs : List Text) → IsRising text_lt xs → IsRising text_lt ys → Each (λ (x : Text). Among x ys) xs → length xs ≤ length ys
not_longer ys [] rises rise all = omega arith
not_longer [] (x ∷ xs) rises rise all = absurd all.0
not_longer (y ∷ ys) (x ∷ xs) rises rise all = go all.0 (λ each. not_longer ys xs rises.1 rise.1 each) (λ each. not_longer ys (x ∷ xs) rises rise.1 each)
  where
    go : (x ≡ y) ⊎ Among x ys → (Each (λ (z : Text). Among z ys) xs → length xs ≤ length ys) → (Each (λ (z : Text). Among z ys) (x ∷ xs) → length (x ∷ xs) ≤ length ys) → length (x ∷ xs) ≤ length (y ∷ ys)
    go (inl e) first later =
        let others : Each (λ (z : Text). z ≢ y) xs = subst (λ (w : Text). Each (λ (z : Text). z ≢ w) xs) e (none_is x xs rises.0) in
        let shorter : length xs ≤ length ys = first (of_others y ys xs others all.1) in
        omega (arith, shorter)
    go (inr h) first later =
        let less : text_lt y x ≡ true = each_at (λ (z : Text). text_lt y z ≡ true) x ys rise.0 h in
        let others : Each (λ (z : Text). z ≢ y) xs = none_is y xs (all_before y x xs less rises.0) in
        let shorter : length (x ∷ xs) ≤ length ys = later (h, of_others y ys xs others all.1) in
        omega (arith, shorter)

-- ---- the spots of a region

abbrev spots_of : Text → List Spot → List Spot
spots_of region spots = filter (λ (spot : Spot). same region spot.region) spots

kept_step : (P : Spot → Type 0) (region : Text) (spot : Spot) (kept : List Spot) (b : Bool) → same region spot.region ≡ b → P spot → Each (λ (it : Spot). P it × (it.region ≡ region)) kept → Each (λ (it : Spot). P it × (it.region ≡ region)) (cond b (spot ∷ kept) kept)
kept_step P region spot kept true e h rest = ((h, sym (same_is region spot.region e)), rest)
kept_step P region spot kept false e h rest = rest

each_kept : (P : Spot → Type 0) (region : Text) (spots : List Spot) → Each P spots → Each (λ (spot : Spot). P spot × (spot.region ≡ region)) (spots_of region spots)
each_kept P region [] each = tt
each_kept P region (spot ∷ spots) each = kept_step P region spot (spots_of region spots) (same region spot.region) refl each.0 (each_kept P region spots each.1)

-- of one region the stops rise
stop_before : (x y : Spot) (region : Text) → x.region ≡ region → spot_lt x y ≡ true → y.region ≡ region → text_lt x.stop y.stop ≡ true
stop_before x y region at less there =
    elim (or_cases (text_lt x.stop y.stop) _ less) [
      | inl before ↦ before
      | inr both ↦
          let regions : text_lt x.region y.region ≡ true = (and_parts _ _ both).1 in
          absurd (not_before_itself region (subst (λ (r : Text). text_lt region r ≡ true) there (subst (λ (r : Text). text_lt r y.region ≡ true) at regions)))
    ]

stops_before : (x : Spot) (region : Text) (spots : List Spot) → x.region ≡ region → Each (λ (it : Spot). (spot_lt x it ≡ true) × (it.region ≡ region)) spots → Each (λ (s : Text). text_lt x.stop s ≡ true) (map (λ (it : Spot). it.stop) spots)
stops_before x region [] at each = tt
stops_before x region (y ∷ spots) at each = (stop_before x y region at each.0.0 each.0.1, stops_before x region spots at each.1)

stops_step : (region : Text) (spot : Spot) (kept : List Spot) (b : Bool) → same region spot.region ≡ b → Each (λ (it : Spot). (spot_lt spot it ≡ true) × (it.region ≡ region)) kept → IsRising text_lt (map (λ (it : Spot). it.stop) kept) → IsRising text_lt (map (λ (it : Spot). it.stop) (cond b (spot ∷ kept) kept))
stops_step region spot kept true e each rest = (stops_before spot region kept (sym (same_is region spot.region e)) each, rest)
stops_step region spot kept false e each rest = rest

stops_rise : (region : Text) (spots : List Spot) → IsRising spot_lt spots → IsRising text_lt (map (λ (it : Spot). it.stop) (spots_of region spots))
stops_rise region [] rises = tt
stops_rise region (spot ∷ spots) rises =
    stops_step region spot (spots_of region spots) (same region spot.region) refl (each_kept (λ (it : Spot). spot_lt spot it ≡ true) region spots rises.0) (stops_rise region spots rises.1)

points_before : (x : Point) (points : List Point) → Each (λ (it : Point). point_lt x it ≡ true) points → Each (λ (s : Text). text_lt x.stop s ≡ true) (map (λ (it : Point). it.stop) points)
points_before x [] each = tt
points_before x (y ∷ points) each = (each.0, points_before x points each.1)

points_rise : (points : List Point) → IsRising point_lt points → IsRising text_lt (map (λ (it : Point). it.stop) points)
points_rise [] rises = tt
points_rise (x ∷ points) rises = (points_before x points rises.0, points_rise points rises.1)

-- each spot of the region is at a point of its timetable
module _ (tables : List Timetable) (book : Book) (table : Timetable) (whole : AreTablesOf tables book) (of_tables : Among table tables) where
  at_point : (spot : Spot) → Among spot book.spots → spot.region ≡ table.region → Among spot.stop (map (λ (it : Point). it.stop) table.points)
  at_point spot h region =
      let it : SpotTable tables spot = spot_table tables spot ((whole.book_of.spots spot).0 h) in
      let is : it.table ≡ table = one_table tables it.table table whole.tables_well it.of_tables of_tables (it.region ∙ region) in
      let listed : Among it.point table.points = subst (λ (t : Timetable). Among it.point t.points) is it.listed in
      subst (λ (s : Text). Among s (map (λ (x : Point). x.stop) table.points)) it.at (among_map (λ (x : Point). x.stop) it.point table.points listed)

  all_at : (spots : List Spot) → ((spot : Spot) → Among spot spots → Among spot book.spots × (spot.region ≡ table.region)) → Each (λ (s : Text). Among s (map (λ (it : Point). it.stop) table.points)) (map (λ (it : Spot). it.stop) spots)
  all_at [] each = tt
  all_at (spot ∷ spots) each =
      let here : Among spot book.spots × (spot.region ≡ table.region) = each spot (inl refl) in
      (at_point spot here.0 here.1, all_at spots (λ it h. each it (inr h)))

  region_few : length (spots_of table.region book.spots) ≤ 255
  region_few =
      let well : AreWellPoints table.region table.points = (whole.tables_well.well table of_tables).points in
      let each : (spot : Spot) → Among spot (spots_of table.region book.spots) → Among spot book.spots × (spot.region ≡ table.region) =
      (λ spot h. let both : Among spot book.spots × (same table.region spot.region ≡ true) = among_filter_back (λ (it : Spot). same table.region it.region) spot book.spots h in (both.0, sym (same_is table.region spot.region both.1))) in
      let shorter : length (map (λ (it : Spot). it.stop) (spots_of table.region book.spots)) ≤ length (map (λ (it : Point). it.stop) table.points) =
      not_longer (map (λ (it : Point). it.stop) table.points) (map (λ (it : Spot). it.stop) (spots_of table.region book.spots))
      (stops_rise table.region book.spots whole.book_of.spots_rise) (points_rise table.points well.rising) (all_at (spots_of table.region book.spots) each) in
      let spots : length (map (λ (it : Spot). it.stop) (spots_of table.region book.spots)) ≡ length (spots_of table.region book.spots) = length_map (λ (it : Spot). it.stop) (spots_of table.region book.spots) in
      let points : length (map (λ (it : Point). it.stop) table.points) ≡ length table.points = length_map (λ (it : Point). it.stop) table.points in
      let few : length table.points ≤ 255 = well.few in
      omega arith

-- a region of no timetable has no spot
spots_few : (tables : List Timetable) (book : Book) (region : Text) (spots : List Spot) → AreTablesOf tables book → spots_of region book.spots ≡ spots → length (spots_of region book.spots) ≤ 255
spots_few tables book region [] whole e = subst (λ (l : List Spot). length l ≤ 255) (sym e) (omega arith)
spots_few tables book region (spot ∷ spots) whole e =
    let both : Among spot book.spots × (same region spot.region ≡ true) = among_filter_back (λ (it : Spot). same region it.region) spot book.spots (subst (Among spot) (sym e) (inl refl)) in
    let it : SpotTable tables spot = spot_table tables spot ((whole.book_of.spots spot).0 both.0) in
    subst (λ (r : Text). length (spots_of r book.spots) ≤ 255) (it.region ∙ sym (same_is region spot.region both.1)) (region_few tables book it.table whole it.of_tables)

pub targets_are_few : TargetsAreFew
targets_are_few tables book ask told pair start whole improves =
    (ends_some book ask told pair start improves, ends_few book ask.target pair.stop pair.region 255 (spots_few tables book pair.region (spots_of pair.region book.spots) whole refl))
