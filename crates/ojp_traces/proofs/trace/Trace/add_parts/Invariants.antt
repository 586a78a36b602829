use Rattle.std.proofs.Common.{◌≡◌, ◌++◌, length, take}
use Rattle.std.specs.List.{flat_map}
use Rattle.ojp_traces.proofs.trace.Trace.add_parts.Given as goal

abbrev pub invariant-parts : goal.invariant-parts
invariant-parts l = record {
  same : l.self-inside.is_on ≡ l.fn.self.on;
  before : l.before ≡ length l.fn.self.lines;
  added : l.self-inside.bytes.items ≡ l.fn.self.lines ++ flat_map (λ part. part.now) (take l.part-index l.parts);
}
