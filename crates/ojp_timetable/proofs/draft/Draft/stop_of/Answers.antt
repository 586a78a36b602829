use Rattle.std.proofs.Common.{◌≡◌, subst}
use Rattle.std.specs.Prelude.{IfSome, is_some, position, bytes_eq}
use Rattle.ojp_values.specs.Texts.{same}
use Rattle.ojp_timetable.specs.Contents.{Contents, has_place}
use Rattle.ojp_timetable.specs.Tables.{Place}
use Rattle.ojp_timetable.proofs.draft.Draft.stop_of.Goals as goal

pub returns-clause-first : goal.returns-clause-first
returns-clause-first c =
    subst (λ (contents : Contents). IfSome c.read.result (λ found. found ≡ position (λ (place : Place). bytes_eq c.args.text.now place.stop) contents.places)) c.self.view_is c.read.ensures.first

pub returns-clause-known : goal.returns-clause-known
unfolding has_place same
returns-clause-known c =
    subst (λ (contents : Contents). IfSome c.read.result (λ found. is_some found ≡ has_place contents c.args.text.now)) c.self.view_is c.read.ensures.known
