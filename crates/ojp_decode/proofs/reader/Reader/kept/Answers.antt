use Rattle.std.proofs.Common.{sym, subst}
use Rattle.ojp_decode.specs.Standing.{ReaderView, HasRead}
use Rattle.ojp_decode.proofs.Standings.{keeps_cut}
use Rattle.ojp_decode.proofs.reader.Reader.kept.Goals as goal

pub returns-in-Reading : goal.returns-in-Reading
returns-in-Reading c progress has =
    keeps_cut c.self.inside.stage c.self.inside.machine c.self.inside.kept.items progress c.len.result
    c.in-Reading.is (subst (λ (v : ReaderView). HasRead v progress) (sym c.self.view_is) has) c.len.ensures.value
