use Rattle.std.proofs.Common.{◌≡◌, ◌≤◌, ◌<◌, List, None, length, map, arith, inl, inr, sym, ◌∙◌, ap, subst}
use Rattle.ojp_values.specs.Lists.{Among, IsRising}
use Rattle.ojp_values.specs.Texts.{Text}
use Rattle.ojp_values.specs.declared.trips.Point.{Point}
use Rattle.ojp_exchange.specs.Disputes.{AllReturn, IsFirstPoint}
use Rattle.ojp_exchange.specs.Joins.{IsJoined, first_twice}
use Rattle.ojp_exchange.specs.Kept.{book_of, entry_lt, spot_of, stops_of}
use Rattle.ojp_exchange.proofs.MadeFacts.{is_book, own_codes}
use Rattle.ojp_exchange.proofs.JoinFacts.{agreed, as_many, codes_rise, is_dispute, least_twice, ready}
use Rattle.ojp_exchange.proofs.book.Book.join.Goals as goal

pub returns-in-Some-clause-refused : goal.returns-in-Some-clause-refused
returns-in-Some-clause-refused c =
    let codes = c.in-Ok.codes.items in
    least_twice c.args.lists.now codes c.in-Some.code c.in-Ok.ensures.same c.in-Ok.ensures.sorted (ap first_twice (sym c.as_slice.ensures.value) ∙ (sym c.first_twice.ensures ∙ c.in-Some.is))

pub returns-then-as_slice-gt-REGIONS-clause-refused : goal.returns-then-as_slice-gt-REGIONS-clause-refused
returns-then-as_slice-gt-REGIONS-clause-refused c =
    let lists = c.args.lists.now in
    let codes = c.in-Ok.codes.items in
    let none : first_twice codes ≡ None = ap first_twice (sym c.as_slice.ensures.value) ∙ (sym c.first_twice.ensures ∙ c.in_default-first_twice.is) in
    let many : 32 < length codes = subst (λ (cs : List Text). 32 < length cs) c.as_slice-2.ensures.value (omega (arith, c.if-as_slice-gt-REGIONS.true)) in
    (own_codes lists codes c.in-Ok.ensures.same (codes_rise codes c.in-Ok.ensures.sorted none), inl (omega (arith, many, as_many lists codes c.in-Ok.ensures.same)))

pub returns-then-stops_in-gt-POINTS-clause-refused : goal.returns-then-stops_in-gt-POINTS-clause-refused
returns-then-stops_in-gt-POINTS-clause-refused c =
    let lists = c.args.lists.now in
    let codes = c.in-Ok.codes.items in
    let points = c.in-Ok-sorted_points.points.items in
    let none : first_twice codes ≡ None = ap first_twice (sym c.as_slice.ensures.value) ∙ (sym c.first_twice.ensures ∙ c.in_default-first_twice.is) in
    let kept = ready lists codes points c.requires c.in-Ok.ensures.same c.in-Ok.ensures.sorted none c.in-Ok-sorted_points.ensures.same c.in-Ok-sorted_points.ensures.sorted in
    let many : 2000 < length (stops_of (map spot_of points)) =
    subst (λ (ps : List Point). 2000 < length (stops_of (map spot_of ps))) c.as_slice-3.ensures.value (omega (arith, c.if-stops_in-gt-POINTS.true, c.stops_in.ensures)) in
    (own_codes lists codes c.in-Ok.ensures.same kept.codes_rise, inr (book_of codes points, is_book lists codes points c.requires c.in-Ok.ensures.same c.in-Ok-sorted_points.ensures.same kept, many))

pub first_dispute-requires : goal.first_dispute-requires
first_dispute-requires c =
    let lists = c.args.lists.now in
    let codes = c.in-Ok.codes.items in
    let points = c.in-Ok-sorted_points.points.items in
    let none : first_twice codes ≡ None = ap first_twice (sym c.as_slice.ensures.value) ∙ (sym c.first_twice.ensures ∙ c.in_default-first_twice.is) in
    let kept = ready lists codes points c.requires c.in-Ok.ensures.same c.in-Ok.ensures.sorted none c.in-Ok-sorted_points.ensures.same c.in-Ok-sorted_points.ensures.sorted in
    subst (λ (ps : List Point). IsRising entry_lt ps) (sym c.as_slice-5.ensures.value) kept.rise

pub returns-in-Some-first_dispute-clause-refused : goal.returns-in-Some-first_dispute-clause-refused
returns-in-Some-first_dispute-clause-refused c =
    let lists = c.args.lists.now in
    let codes = c.in-Ok.codes.items in
    let points = c.in-Ok-sorted_points.points.items in
    let none : first_twice codes ≡ None = ap first_twice (sym c.as_slice.ensures.value) ∙ (sym c.first_twice.ensures ∙ c.in_default-first_twice.is) in
    let kept = ready lists codes points c.requires c.in-Ok.ensures.same c.in-Ok.ensures.sorted none c.in-Ok-sorted_points.ensures.same c.in-Ok-sorted_points.ensures.sorted in
    let regions_few : length codes ≤ 32 = subst (λ (cs : List Text). length cs ≤ 32) c.as_slice-2.ensures.value (omega (arith, c.if-as_slice-gt-REGIONS.false)) in
    let stops_few : length (stops_of (map spot_of points)) ≤ 2000 =
    subst (λ (ps : List Point). length (stops_of (map spot_of ps)) ≤ 2000) c.as_slice-3.ensures.value (omega (arith, c.if-stops_in-gt-POINTS.false, c.stops_in.ensures)) in
    let found = c.in-Some-first_dispute.found in
    let first : IsFirstPoint codes points found.point found.left found.right =
    subst (λ (ps : List Point). IsFirstPoint codes ps found.point found.left found.right) c.as_slice-5.ensures.value
    (subst (λ (cs : List Text). IsFirstPoint cs c.as_slice-5.result.now found.point found.left found.right) c.as_slice-4.ensures.value c.in-Some-first_dispute.ensures) in
    record {
      own = own_codes lists codes c.in-Ok.ensures.same kept.codes_rise;
      book = book_of codes points;
      book_of = is_book lists codes points c.requires c.in-Ok.ensures.same c.in-Ok-sorted_points.ensures.same kept;
      regions_few = regions_few;
      stops_few = stops_few;
      first = is_dispute codes points found.point found.left found.right kept first;
    }

pub with_tables-requires-clause-kept : goal.with_tables-requires-clause-kept
with_tables-requires-clause-kept c =
    let lists = c.args.lists.now in
    let codes = c.in-Ok.codes.items in
    let points = c.in-Ok-sorted_points.points.items in
    let none : first_twice codes ≡ None = ap first_twice (sym c.as_slice.ensures.value) ∙ (sym c.first_twice.ensures ∙ c.in_default-first_twice.is) in
    ready lists codes points c.requires c.in-Ok.ensures.same c.in-Ok.ensures.sorted none c.in-Ok-sorted_points.ensures.same c.in-Ok-sorted_points.ensures.sorted

pub with_tables-requires-clause-sound : goal.with_tables-requires-clause-sound
with_tables-requires-clause-sound c =
    let codes = c.in-Ok.codes.items in
    let points = c.in-Ok-sorted_points.points.items in
    let regions_few : length codes ≤ 32 = subst (λ (cs : List Text). length cs ≤ 32) c.as_slice-2.ensures.value (omega (arith, c.if-as_slice-gt-REGIONS.false)) in
    let stops_few : length (stops_of (map spot_of points)) ≤ 2000 =
    subst (λ (ps : List Point). length (stops_of (map spot_of ps)) ≤ 2000) c.as_slice-3.ensures.value (omega (arith, c.if-stops_in-gt-POINTS.false, c.stops_in.ensures)) in
    let all : (point : Point) → Among point points → AllReturn codes points point =
    subst (λ (ps : List Point). (point : Point) → Among point ps → AllReturn codes ps point) c.as_slice-5.ensures.value
    (subst (λ (cs : List Text). (point : Point) → Among point c.as_slice-5.result.now → AllReturn cs c.as_slice-5.result.now point) c.as_slice-4.ensures.value c.in_default-first_dispute.ensures) in
    record { regions_few = regions_few; stops_few = stops_few; agreed = agreed codes points all }

pub returns-clause-joined : goal.returns-clause-joined
returns-clause-joined c =
    let lists = c.args.lists.now in
    let codes = c.in-Ok.codes.items in
    let points = c.in-Ok-sorted_points.points.items in
    let none : first_twice codes ≡ None = ap first_twice (sym c.as_slice.ensures.value) ∙ (sym c.first_twice.ensures ∙ c.in_default-first_twice.is) in
    let kept = ready lists codes points c.requires c.in-Ok.ensures.same c.in-Ok.ensures.sorted none c.in-Ok-sorted_points.ensures.same c.in-Ok-sorted_points.ensures.sorted in
    let regions_few : length codes ≤ 32 = subst (λ (cs : List Text). length cs ≤ 32) c.as_slice-2.ensures.value (omega (arith, c.if-as_slice-gt-REGIONS.false)) in
    let stops_few : length (stops_of (map spot_of points)) ≤ 2000 =
    subst (λ (ps : List Point). length (stops_of (map spot_of ps)) ≤ 2000) c.as_slice-3.ensures.value (omega (arith, c.if-stops_in-gt-POINTS.false, c.stops_in.ensures)) in
    let all : (point : Point) → Among point points → AllReturn codes points point =
    subst (λ (ps : List Point). (point : Point) → Among point ps → AllReturn codes ps point) c.as_slice-5.ensures.value
    (subst (λ (cs : List Text). (point : Point) → Among point c.as_slice-5.result.now → AllReturn cs c.as_slice-5.result.now point) c.as_slice-4.ensures.value c.in_default-first_dispute.ensures) in
    subst (IsJoined lists) (sym c.in-Ok-with_tables.ensures) (record {
      own = own_codes lists codes c.in-Ok.ensures.same kept.codes_rise;
      book_of = is_book lists codes points c.requires c.in-Ok.ensures.same c.in-Ok-sorted_points.ensures.same kept;
      sound = record { regions_few = regions_few; stops_few = stops_few; agreed = agreed codes points all };
    })
