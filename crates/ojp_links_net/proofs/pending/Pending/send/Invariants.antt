use Rattle.std.proofs.Common.{◌≡◌, ◌-◌, length}
use Rattle.ojp_links_net.specs.Pending.{live_of}
use Rattle.ojp_links_net.specs.Progress.{KeepsMoment, progress_of}
use Rattle.ojp_links_net.proofs.pending.Pending.send.Given as goal

abbrev pub invariant-pieces : goal.invariant-pieces
invariant-pieces l = (live_of l.self ≡ live_of l.initial.self) × KeepsMoment (progress_of l.initial.self) (progress_of l.self) l.now

abbrev pub decreases-pieces : goal.decreases-pieces
decreases-pieces l = length l.self.request.items - l.self.sent
