use Rattle.std.proofs.Common.{ap, ◌∙◌}
use Rattle.ojp_feed_plans.specs.Tallies.{total}
use Rattle.ojp_feed_plans.proofs.FateFacts.{total_of}
use Rattle.ojp_feed_plans.proofs.planning.joined.Goals as goal

pub returns : goal.returns
returns c =
    let weighed = c.requires.weighed in
    let counted = c.counts_of-counts.ensures in
    record {
      adds_up = record {
        each = weighed.each;
        written = weighed.written;
        counted = counted;
        all = ap total counted ∙ (total_of c.args.weighing.fates.items ∙ weighed.each);
      };
      sound = record { patterns = weighed.stem; journeys = c.requires.made };
      complete = c.requires.complete;
    }
