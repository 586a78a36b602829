-- Exchange points that rise by reference: at most one is at a place.
use Rattle.std.proofs.Common.{◌≡◌, Bool, true, false, true≢false, List, [], ◌∷◌, Option, Some, None, find, cond, refl, sym, ap, ◌∙◌, subst}
use Rattle.std.specs.List.{filter}
use Rattle.ojp_values.specs.Lists.{Each, IsRising}
use Rattle.ojp_values.specs.Texts.{Text, same, text_lt}
use Rattle.ojp_values.specs.declared.trips.Point.{Point}
use Rattle.ojp_values.specs.declared.replies.Delivery.TheVariants as deliveries
use Rattle.ojp_timetable.specs.Tables.{Timetable, point_of}
use Rattle.ojp_timetable.specs.Points.{point_lt}
use Rattle.ojp_timetable.specs.Answers.{points_answer, points_reply as delivery_at}
use Rattle.ojp_timetable.proofs.TextFacts.{same_is, is_differ}
use Rattle.ojp_timetable.proofs.Orders.{not_before_itself}
use Rattle.ojp_exchange.specs.Kept.{points_at}
use Rattle.ojp_region.specs.Replies.{points_reply}

-- a point behind another is at another place
apart : (place : Text) (point other : Point) → same place point.stop ≡ true → point_lt point other ≡ true → same place other.stop ≡ false
apart place point other here before =
    is_differ place other.stop
    (λ at_other.
    let one : other.stop ≡ point.stop = sym at_other ∙ same_is place point.stop here in
    let itself : text_lt point.stop point.stop ≡ true = subst (λ (stop : Text). text_lt point.stop stop ≡ true) one before in
    true≢false (sym itself ∙ not_before_itself point.stop))

none_behind : (place : Text) (point : Point) (more : List Point) → same place point.stop ≡ true → Each (λ (other : Point). point_lt point other ≡ true) more
    → filter (λ (other : Point). same place other.stop) more ≡ []
none_behind place point [] here before = refl
none_behind place point (other ∷ more) here before =
    let rest = filter (λ (next : Point). same place next.stop) more in
    ap (λ (b : Bool). cond b (other ∷ rest) rest) (apart place point other here before.0) ∙ none_behind place point more here before.1

at_front : (place : Text) (point : Point) (more : List Point) (b : Bool) → same place point.stop ≡ b → Each (λ (other : Point). point_lt point other ≡ true) more
    → deliveries.Points (points_reply (Some place) (filter (λ (other : Point). same place other.stop) more)) ≡ delivery_at place (find (λ (other : Point). same place other.stop) more)
    → deliveries.Points (points_reply (Some place) (cond b (point ∷ filter (λ (other : Point). same place other.stop) more) (filter (λ (other : Point). same place other.stop) more)))
    ≡ delivery_at place (cond b (Some point) (find (λ (other : Point). same place other.stop) more))
at_front place point more true here before rest =
    ap (λ (list : List Point). deliveries.Points (points_reply (Some place) (point ∷ list))) (none_behind place point more here before)
at_front place point more false here before rest = rest

at_place : (place : Text) (points : List Point) → IsRising point_lt points
    → deliveries.Points (points_reply (Some place) (filter (λ (other : Point). same place other.stop) points)) ≡ delivery_at place (find (λ (other : Point). same place other.stop) points)
at_place place [] rising = refl
at_place place (point ∷ more) rising = at_front place point more (same place point.stop) refl rising.0 (at_place place more rising.1)

-- the points found at a place are those with which the region answers
pub points_answered : (table : Timetable) (place : Option Text) → IsRising point_lt table.points
    → deliveries.Points (points_reply place (points_at place table.points)) ≡ points_answer table place
unfolding point_of
points_answered table None rising = refl
points_answered table (Some place) rising = at_place place table.points rising
