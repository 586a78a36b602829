use Rattle.std.proofs.Common.{refl}
use Rattle.ojp_links_mem.proofs.server.asked.Goals as goal

pub returns-clause-made : goal.returns-clause-made
returns-clause-made c = λ table at. record {
  to_region = refl;
  of_request = c.in_ok-kept.ensures;
  none_taken = refl;
  not_ended = refl;
  needs = refl;
  fails_by = c.fails_later-fails.ensures;
  reply_by = c.in_ok-reply.ensures.reply table at;
}
