use Rattle.std.proofs.Common.{sym, subst}
use Rattle.ojp_decode.specs.Standing.{ReaderView, HasRead}
use Rattle.ojp_decode.proofs.Standings.{never_none, gives_cut, gives_document}
use Rattle.ojp_decode.proofs.reader.Reader.finish.Goals as goal

pub unreachable-requires : goal.unreachable-requires
unreachable-requires c =
    never_none c.self.inside.stage c.self.inside.machine c.self.inside.kept.items c.into_document-document.result c.in-Whole.is c.self.invariant c.in-None.is c.into_document-document.ensures

pub returns-in-Reading : goal.returns-in-Reading
returns-in-Reading c progress has =
    gives_cut c.self.inside.stage c.self.inside.machine c.self.inside.kept.items progress c.refused.result c.in-Reading.is
    (subst (λ (v : ReaderView). HasRead v progress) (sym c.self.view_is) has) c.refused.ensures

pub returns-in-Some : goal.returns-in-Some
returns-in-Some c progress has =
    gives_document c.self.inside.stage c.self.inside.machine c.self.inside.kept.items progress c.into_document-document.result c.in-Some.document c.in-Whole.is
    (subst (λ (v : ReaderView). HasRead v progress) (sym c.self.view_is) has) c.in-Some.is c.into_document-document.ensures
