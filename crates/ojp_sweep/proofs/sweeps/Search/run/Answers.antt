use Rattle.ojp_sweep.proofs.NextFacts.{runs-on}
use Rattle.ojp_sweep.proofs.sweeps.Search.run.Goals as goal

pub looks-preserved : goal.looks-preserved
looks-preserved c =
    let s = c.args.self.now in
    runs-on c.args.progress.now c.looks.progress c.look.new.progress s.net.now s.days.now s.asked c.requires.search c.args.day c.args.limit c.requires.day c.looks.invariant c.look.ensures.swept c.look.ensures.cursors
    c.look.ensures.ends c.look.ensures.kept c.moment.result c.moment.ensures c.if-moment-limit.false c.requires.bound
