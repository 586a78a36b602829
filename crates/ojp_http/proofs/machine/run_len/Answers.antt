use Rattle.std.proofs.Common.{refl, arith}
use Rattle.ojp_http.proofs.Runs.{run_found, run_none}
use Rattle.ojp_http.proofs.machine.run_len.Goals as goal

pub returns-in-Some : goal.returns-in-Some
returns-in-Some c = run_found c.args.most c.args.kept c.min.result _ c.args.piece.now (omega (arith, c.min.ensures)) (omega (arith, c.min.ensures)) c.in-Some.ensures

pub returns-in-None : goal.returns-in-None
returns-in-None c = run_none c.args.most c.args.kept c.min.result _ c.args.piece.now (omega (arith, c.min.ensures)) (omega (arith, c.min.ensures)) refl c.in-None.ensures
