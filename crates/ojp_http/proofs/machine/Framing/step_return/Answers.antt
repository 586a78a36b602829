use Rattle.std.proofs.Common.{refl, ap, ◌∙◌}
use Rattle.ojp_http.specs.declared.machine.Phase.TheVariants.{Return}
use Rattle.ojp_http.proofs.Stepping.{return_comes, feed_comes}
use Rattle.ojp_http.proofs.machine.Framing.step_return.Goals as goal

pub returns-then-byte-eq13 : goal.returns-then-byte-eq13
returns-then-byte-eq13 c = return_comes c.args.self.now _ c.args.byte (c.requires ∙ ap Return c.if-has_return.false) refl refl c.if-byte-eq13.true

pub returns-then-byte-eq10 : goal.returns-then-byte-eq10
returns-then-byte-eq10 c = feed_comes c.args.self.now _ c.args.byte (c.requires ∙ ap Return c.if-has_return.true) refl refl c.clear.ensures.items c.if-byte-eq10.true
