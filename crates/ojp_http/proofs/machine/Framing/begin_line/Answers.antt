use Rattle.std.proofs.Common.{◌∙◌, ap, refl, arith, length, length-append}
use Rattle.ojp_http.specs.Bodies.{has_no_feed}
use Rattle.ojp_http.proofs.Stepping.{line_long, line_more}
use Rattle.ojp_http.proofs.machine.Framing.begin_line.Goals as goal

pub returns-then-len-eq-LINE_LIMIT : goal.returns-then-len-eq-LINE_LIMIT
returns-then-len-eq-LINE_LIMIT c =
    line_long c.args.self.now c.args.run.now _ c.requires.phase c.in-Ok.ensures.items (ap has_no_feed c.in-Ok.ensures.items ∙ c.requires.plain) (omega (arith, c.len.ensures, c.if-len-eq-LINE_LIMIT.true))

pub returns : goal.returns
returns c =
    line_more c.args.self.now _ c.args.run.now c.requires.phase c.requires.phase refl c.in-Ok.ensures.items
    (omega (arith, c.requires.within, c.len.ensures, c.if-len-eq-LINE_LIMIT.false, ap length c.in-Ok.ensures.items, length-append c.args.self.now.kept.items c.args.run.now), ap has_no_feed c.in-Ok.ensures.items ∙ c.requires.plain)
