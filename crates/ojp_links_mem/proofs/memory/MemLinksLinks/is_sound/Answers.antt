use Rattle.std.proofs.Common.{subst}
use Rattle.ojp_links.specs.Seen.{IsSound}
use Rattle.ojp_links_mem.specs.Memory.{MemView, links_of}
use Rattle.ojp_links_mem.proofs.SoundFacts.{sound_of}
use Rattle.ojp_links_mem.proofs.memory.MemLinksLinks.is_sound.Goals as goal

pub returns : goal.returns
returns c = subst (λ (m : MemView). IsSound (links_of m)) c.self.view_is (sound_of c.self.inside c.self.invariant)
