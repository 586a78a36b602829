use Rattle.std.proofs.Common.{ℕ, List, Option, ◌++◌, subst, refl, arith, length-append}
use Rattle.ojp_http.specs.ChunkLines.{IsLineSize}
use Rattle.ojp_http.specs.Machine.{Enters}
use Rattle.ojp_http.proofs.Stepping.{line_sized, line_wrong}
use Rattle.ojp_http.proofs.machine.Framing.end_line.Goals as goal

pub returns-in-Some : goal.returns-in-Some
returns-in-Some c =
    let bytes : List ℕ = c.args.self.now.kept.items ++ c.args.run.now in
    let found = subst (λ (o : Option ℕ). IsLineSize bytes o) c.in-Some.is c.in-Ok.ensures.size in
    line_sized c.args.self.now c.enter.new.self c.args.run.now bytes found.0 c.in-Some.size c.requires.phase refl (omega (arith, c.requires.within, length-append c.args.self.now.kept.items c.args.run.now))
    found.1 found.2 c.enter.result (subst (λ (o : Option ℕ). Enters o c.in-Some.size c.enter.result c.enter.new.self) c.in-Ok.ensures.room c.enter.ensures)

pub returns-in-None : goal.returns-in-None
returns-in-None c =
    let bytes : List ℕ = c.args.self.now.kept.items ++ c.args.run.now in
    line_wrong c.args.self.now c.args.run.now bytes c.requires.phase refl c.requires.ends (omega (arith, c.requires.within, length-append c.args.self.now.kept.items c.args.run.now))
    (subst (λ (o : Option ℕ). IsLineSize bytes o) c.in-None.is c.in-Ok.ensures.size)
