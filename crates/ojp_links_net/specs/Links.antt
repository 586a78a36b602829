-- Links over sockets, as contracts see them: whatever the types of the net, the clock, and the streams and listeners of the net.
use Rattle.std.specs.Prelude.{ℕ, Option}
use Rattle.ojp_links.specs.Seen.{View}
use Rattle.ojp_links_net.specs.Progress.{Progress, progress_in}
use Rattle.ojp_links_net.specs.Table.{links_of}
use Rattle.ojp_links_net.specs.declared.links.NetLinks.{NetLinks}

-- what is seen of them as links
abbrev pub net_seen : {H C S L : Type 0} → NetLinks H C S L → View
net_seen l = links_of l.table

-- the progress of their live asks
abbrev pub net_progress : {H C S L : Type 0} → NetLinks H C S L → ℕ → Option Progress
net_progress l = progress_in l.table.asks

-- the moment that their clock last gave, by what is seen of a clock
abbrev pub net_moment : {H C S L : Type 0} → (C → ℕ) → NetLinks H C S L → ℕ
net_moment last l = last l.clock
