use Rattle.std.proofs.Common.{rules}
use Rattle.std.proofs.Math.Dec.{leb}
use Rattle.std.proofs.lemmas.List.Sorted.{IsPartitionPoint-from_clause, IsPartitionedBy-leb}
use Rattle.ojp_zones.specs.declared.year.Year.{Year}
use Rattle.ojp_zones.proofs.NoonFacts.{found, years_in_order}
use Rattle.ojp_zones.proofs.noons.year_with.Goals as goal

pub returns : goal.returns
returns c zone all =
    let xs = c.args.years.now in
    let day = c.args.day in
    let point = IsPartitionPoint-from_clause (λ (y : Year). leb y.next day) xs c.partition_point.result c.partition_point.ensures.partitioned
    (IsPartitionedBy-leb (λ (y : Year). y.next) xs day (years_in_order zone xs all.each_year)) (λ a r f k. search rules) in
    found zone xs day c.partition_point.result all c.requires c.partition_point.ensures.bound point
