use Rattle.std.proofs.Common.{◌≡◌, ◌∷◌, ◌+◌, ◌-◌, drop, length, arith, length-drop}
use Rattle.ojp_grammar.specs.declared.machine.Passed.TheVariants as passes
use Rattle.ojp_grammar.specs.Steps.{syntax_of, stack_of}
use Rattle.ojp_grammar.specs.Machine.{Advances}
use Rattle.ojp_grammar.proofs.Runs.{reading_pop, reading_plain, reading_room, reading_step, reading_short, dropped_on, rest_of}
use Rattle.ojp_grammar.proofs.machine.Machine.run.Goals as goal

pub advance-requires-clause-plain : goal.advance-requires-clause-plain
advance-requires-clause-plain c =
    let l = c.loop-shape in
    let fed = c.requires.0 in
    reading_plain l.self.want l.self.at (syntax_of c.in-Some.shape) (stack_of c.pop.new.self.items) l.self.draft fed (drop l.took c.args.bytes.now)
    (reading_pop l.self.want l.self.at l.self.stack.items c.pop.new.self.items c.in-Some.shape l.self.draft fed (drop l.took c.args.bytes.now) c.in-Some.ensures.items (l.invariant.3 fed c.requires.1))

pub advance-requires-clause-room : goal.advance-requires-clause-room
advance-requires-clause-room c =
    let l = c.loop-shape in
    let fed = c.requires.0 in
    reading_room l.self.want l.self.at (syntax_of c.in-Some.shape) c.pop.new.self.items l.self.draft fed (drop l.took c.args.bytes.now)
    (reading_pop l.self.want l.self.at l.self.stack.items c.pop.new.self.items c.in-Some.shape l.self.draft fed (drop l.took c.args.bytes.now) c.in-Some.ensures.items (l.invariant.3 fed c.requires.1))

pub overflow_add-self : goal.overflow_add-self
overflow_add-self c =
    let l = c.loop-shape in
    let fed = c.requires.0 in
    let popped = reading_pop l.self.want l.self.at l.self.stack.items c.pop.new.self.items c.in-Some.shape l.self.draft fed (drop l.took c.args.bytes.now) c.in-Some.ensures.items (l.invariant.3 fed c.requires.1) in
    let moved : Advances (syntax_of c.in-Some.shape ∷ stack_of c.pop.new.self.items) l.self.draft (drop l.took c.args.bytes.now) (passes.Over c.in-Over.len) (stack_of c.advance.new.stack.items) c.advance.new.draft =
    rest_of c.args.bytes.now l.took (λ left. Advances (syntax_of c.in-Some.shape ∷ stack_of c.pop.new.self.items) l.self.draft left (passes.Over c.in-Over.len) (stack_of c.advance.new.stack.items) c.advance.new.draft) (rw c.in-Over.is at c.in_ok-len.ensures) in
    let next = reading_step l.self.want l.self.at c.in-Over.len (syntax_of c.in-Some.shape) (stack_of c.pop.new.self.items) (stack_of c.advance.new.stack.items) l.self.draft c.advance.new.draft fed (drop l.took c.args.bytes.now) popped moved in
    omega (arith, reading_short l.self.want (l.self.at + c.in-Over.len) (stack_of c.advance.new.stack.items) c.advance.new.draft fed (drop c.in-Over.len (drop l.took c.args.bytes.now)) next)

pub loop-shape-preserved : goal.loop-shape-preserved
loop-shape-preserved c =
    let l = c.loop-shape in
    let moved : Advances (syntax_of c.in-Some.shape ∷ stack_of c.pop.new.self.items) l.self.draft (drop l.took c.args.bytes.now) (passes.Over c.in-Over.len) (stack_of c.advance.new.stack.items) c.advance.new.draft =
    rest_of c.args.bytes.now l.took (λ left. Advances (syntax_of c.in-Some.shape ∷ stack_of c.pop.new.self.items) l.self.draft left (passes.Over c.in-Over.len) (stack_of c.advance.new.stack.items) c.advance.new.draft) (rw c.in-Over.is at c.in_ok-len.ensures) in
    let left : length (drop l.took c.args.bytes.now) ≡ length c.args.bytes.now - l.took = length-drop l.took c.args.bytes.now in (
      omega (arith, l.invariant.0, left, moved.1),
      omega (arith, l.invariant.1),
      l.invariant.2,
      λ fed stands.
          dropped_on l.self.want (l.self.at + c.in-Over.len) (stack_of c.advance.new.stack.items) c.advance.new.draft fed c.args.bytes.now l.took c.in-Over.len
          (reading_step l.self.want l.self.at c.in-Over.len (syntax_of c.in-Some.shape) (stack_of c.pop.new.self.items) (stack_of c.advance.new.stack.items) l.self.draft c.advance.new.draft fed (drop l.took c.args.bytes.now)
          (reading_pop l.self.want l.self.at l.self.stack.items c.pop.new.self.items c.in-Some.shape l.self.draft fed (drop l.took c.args.bytes.now) c.in-Some.ensures.items (l.invariant.3 fed stands)) moved),
    )
