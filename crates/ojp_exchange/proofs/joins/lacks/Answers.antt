use Rattle.std.proofs.Common.{◌≡◌, Bool, true, false, List, sym, ◌∙◌, subst, true≢false}
use Rattle.std.specs.Prelude.{MatchBool}
use Rattle.std.specs.List.{list_any}
use Rattle.ojp_values.specs.Lists.{Among}
use Rattle.ojp_values.specs.Texts.{Text, same}
use Rattle.ojp_values.specs.declared.trips.Neighbour.{Neighbour}
use Rattle.ojp_values.specs.declared.trips.Point.{Point}
use Rattle.ojp_timetable.proofs.AmongFacts.{any_false, any_true}
use Rattle.ojp_timetable.proofs.TextFacts.{same_is, same_itself}
use Rattle.ojp_exchange.specs.Disputes.{IsLacking, Returns}
use Rattle.ojp_exchange.specs.Kept.{SaysNothing}
use Rattle.ojp_exchange.proofs.joins.lacks.Goals as goal

-- a neighbour that does not declare the region lacks it, if it is one of the regions
lacks_known : (codes : List Text) (points : List Point) (point : Point) (neighbour : Neighbour) (known : Bool) → known ≡ list_any (same neighbour.code) codes → SaysNothing points point.stop neighbour.code point.region
    → MatchBool known (IsLacking codes points point neighbour) (Returns codes points point neighbour)
lacks_known codes points point neighbour true e nothing =
    let found = any_true (same neighbour.code) codes (sym e) in
    (subst (λ (t : Text). Among t codes) (sym (same_is neighbour.code found.0 found.2)) found.1, nothing)
lacks_known codes points point neighbour false e nothing = λ a. absurd (true≢false (sym (same_itself neighbour.code) ∙ any_false (same neighbour.code) neighbour.code codes (sym e) a))

pub returns-in-None : goal.returns-in-None
returns-in-None c = lacks_known c.args.codes.now c.args.points.now c.args.point.now c.args.neighbour.now c.has_code.result c.has_code.ensures (c.in-None.ensures c.args.point.now.stop c.requires.stretch)
