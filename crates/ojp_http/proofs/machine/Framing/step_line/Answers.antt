use Rattle.std.proofs.Common.{◌≡◌, ◌+◌, refl, sym, subst, arith, take, length}
use Rattle.std.proofs.lemmas.List.{length-take-le}
use Rattle.ojp_http.specs.declared.machine.Phase.TheVariants.{Line}
use Rattle.ojp_http.specs.Machine.{Steps}
use Rattle.ojp_http.proofs.Stepping.{open_at, run_step}
use Rattle.ojp_http.proofs.Runs.{line_front, line_found}
use Rattle.ojp_http.proofs.machine.Framing.step_line.Goals as goal

pub end_line-requires-clause-ends : goal.end_line-requires-clause-ends
end_line-requires-clause-ends c =
    line_found c.args.self.now.kept.items c.args.piece.now c.min-most.result c.in-Some.end (open_at c.args.self.now Line c.requires.phase c.requires.ready).1
    (omega (arith, c.min-most.ensures)) c.in-Some.ensures

pub begin_line-requires-clause-plain : goal.begin_line-requires-clause-plain
begin_line-requires-clause-plain c =
    line_front c.args.self.now.kept.items c.args.piece.now c.min-most.result (open_at c.args.self.now Line c.requires.phase c.requires.ready).1 (omega (arith, c.min-most.ensures)) c.in-None.ensures

pub returns-in-Some : goal.returns-in-Some
returns-in-Some c =
    let size : length (take c.min-most.result c.args.piece.now) ≡ c.min-most.result = length-take-le c.min-most.result c.args.piece.now (omega (arith, c.min-most.ensures)) in
    λ body.
    subst (λ r. Steps c.args.self.now c.args.piece.now body r c.end_line.new.self body) (sym c.taking.ensures)
    (run_step c.args.self.now c.end_line.new.self c.args.piece.now body _ (c.in-Some.end + 1) refl (omega arith)
    (omega (arith, size, c.in-Some.ensures.0.high, c.min-most.ensures)) c.end_line.result c.end_line.ensures)

pub returns-in-None : goal.returns-in-None
returns-in-None c =
    let o = open_at c.args.self.now Line c.requires.phase c.requires.ready in
    λ body.
    subst (λ r. Steps c.args.self.now c.args.piece.now body r c.begin_line.new.self body) (sym c.taking-in-None.ensures)
    (run_step c.args.self.now c.begin_line.new.self c.args.piece.now body _ c.min-most.result refl
    (omega (arith, c.min-most.ensures, o.0, c.len.ensures, c.args.self.now.kept.ok.0, c.requires.some)) (omega (arith, c.min-most.ensures)) c.begin_line.result c.begin_line.ensures)
