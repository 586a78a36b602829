use Rattle.ojp_load.proofs.TripFacts.{told_reply}
use Rattle.ojp_load.proofs.asking.told_by.Goals as goal

pub returns : goal.returns
returns c tables right known = c.seconds_of.ensures tables (told_reply tables c.args.ask.now c.args.delivery.now c.in-Trip.reply c.in-Trip.is right) known
