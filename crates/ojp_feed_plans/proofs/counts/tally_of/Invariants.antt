use Rattle.std.proofs.Common.{◌≡◌, take}
use Rattle.ojp_feed_plans.specs.Tallies.{tally_of}
use Rattle.ojp_feed_plans.proofs.counts.tally_of.Given as goal

abbrev pub invariant-loop-fate : goal.invariant-loop-fate
invariant-loop-fate l = l.tally ≡ tally_of (take l.fate-index l.fates)
