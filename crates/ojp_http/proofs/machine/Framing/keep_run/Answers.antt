use Rattle.std.proofs.Common.{refl}
use Rattle.ojp_http.proofs.Runs.{run_kept}
use Rattle.ojp_http.proofs.machine.Framing.keep_run.Goals as goal

pub returns : goal.returns
returns c = λ body. run_kept c.args.self.now _ c.args.piece.now body c.args.count c.requires.ready c.requires.run c.requires.some refl refl c.in-Ok.ensures.items c.after_run-self.ensures
