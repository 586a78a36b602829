use Rattle.std.proofs.Common.{refl}
use Rattle.ojp_http.proofs.MachineFacts.{follows_counted_at, follows_chunked_at}
use Rattle.ojp_http.proofs.machine.Framing.follow.Goals as goal

pub returns-in-Counted : goal.returns-in-Counted
returns-in-Counted c = follows_counted_at _ _ _ _ c.in-Counted.is c.requires refl c.content_phase-self.ensures

pub returns-in-Chunked : goal.returns-in-Chunked
returns-in-Chunked c = follows_chunked_at _ _ _ c.in-Chunked.is c.requires refl refl c.clear.ensures.items
