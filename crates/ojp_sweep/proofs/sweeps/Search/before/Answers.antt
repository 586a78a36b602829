use Rattle.std.proofs.Common.{◌≡◌, ◌≤◌, List, true, false, length, sym, subst, arith, rules}
use Rattle.std.proofs.Math.Dec.{ltb}
use Rattle.std.proofs.lemmas.List.{get_or_read}
use Rattle.std.proofs.lemmas.List.Sorted.{IsPartitionPoint-from_clause, IsPartitionedBy-ltb}
use Rattle.std.specs.List.Sorted.{IsPartitionPoint, IsNonDecreasingBy}
use Rattle.ojp_sweep.specs.declared.connections.Connection.{Connection}
use Rattle.ojp_sweep.proofs.BeginFacts.{count-before}
use Rattle.ojp_sweep.proofs.sweeps.Search.before.Goals as goal

pub returns : goal.returns
returns c =
    let net = c.args.self.now.net.now in
    let days = c.args.self.now.days.now in
    let same = c.as_slice-all.ensures.value in
    let xs = c.as_slice-all.result.now in
    let offset = c.saturating_sub-offset.result in
    let order = subst (λ ys. IsNonDecreasingBy (λ (k : Connection). k.departs) ys) (sym same) c.requires.search.well.in_order in
    let point = IsPartitionPoint-from_clause (λ (k : Connection). ltb k.departs offset) xs c.partition_point.result c.partition_point.ensures.partitioned
    (IsPartitionedBy-ltb (λ (k : Connection). k.departs) xs offset order) (λ a r f k. search rules) in
    let base = get_or_read days.bases.items c.args.day c.index.result.now (omega (arith, c.requires.day, c.requires.search.days_of.count)) c.index.ensures 0 in
    count-before net days c.args.day c.args.moment offset c.partition_point.result (omega arith)
    (subst (λ (ys : List Connection). c.partition_point.result ≤ length ys) same c.partition_point.ensures.bound)
    (subst (λ ys. IsPartitionPoint (λ (k : Connection). ltb k.departs offset ≡ true) (λ (k : Connection). ltb k.departs offset ≡ false) ys c.partition_point.result) same point)
