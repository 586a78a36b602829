use Rattle.std.proofs.Common.{ap, drop, ◌∙◌}
use Rattle.std.proofs.lemmas.List.{take_rest}
use Rattle.ojp_outside.specs.Memory.{MemSourceView}
use Rattle.ojp_outside.proofs.Taking.{takes_front}
use Rattle.ojp_outside.proofs.mem_source.MemSourceSource.read.Goals as goal

pub returns-clause-bytes : goal.returns-clause-bytes
returns-clause-bytes c =
    takes_front _ c.self.inside.bytes.items _ c.copy_front-count.new.into c.self.inside.at c.copy_front-count.result c.self.inside.most
    (ap (λ (v : MemSourceView). v.left) c.self.view_is)
    (take_rest c.deref.result.now c.self.inside.at ∙ ap (drop c.self.inside.at) c.deref.ensures.value)
    c.self.invariant.1 c.copy_front-count.ensures.count c.copy_front-count.ensures.copied
