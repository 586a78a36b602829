use Rattle.ojp_regions.proofs.HostFacts.{host_is_utf8}
use Rattle.ojp_regions.proofs.host.Host.new.Goals as goal

pub unreachable-requires : goal.unreachable-requires
unreachable-requires c = c.in_default.ensures.cases.0 (host_is_utf8 c.args.text.now c.requires)
