use Rattle.std.proofs.Common.{◌≡◌, ◌+◌, ◌<◌, arith, length, subst}
use Rattle.ojp_sweep.specs.declared.connections.Connection.{Connection}
use Rattle.ojp_sweep.specs.Rides.{moment}
use Rattle.ojp_sweep.specs.Labels.{FallAfter}
use Rattle.std.proofs.lemmas.Option.{slice_get_within}
use Rattle.std.proofs.Common.{slice_index, ◌≤◌, refl}
use Rattle.std.proofs.lemmas.List.{get_or_read}
use Rattle.ojp_sweep.proofs.RideFacts.{one-at, read-at}
use Rattle.ojp_sweep.proofs.LabelFacts.{alighted-right, alighted-kept, alighted-final, alighted-low}
use Rattle.ojp_sweep.proofs.sweeps.Search.alight.Goals as goal

last-in : (c : goal.After-lower) → c.args.index < length c.args.self.now.net.now.sorted.items
last-in c = slice_get_within c.args.self.now.net.now.sorted.items c.args.index c.requires.on_run.last c.requires.on_run.last_at

-- the moment at which it arrives
base-read : (c : goal.After-lower) → c.index.result.now + c.from.result ≡ moment c.args.self.now.days.now c.args.day c.index-last.result.now.arrives
base-read c =
    let in' : c.args.day < length c.args.self.now.days.now.bases.items = omega (arith, c.requires.on_run.day_in, c.requires.search.days_of.count) in
    omega (arith, get_or_read c.args.self.now.days.now.bases.items c.args.day c.index.result.now in' c.index.ensures 0)

pub returns-clause-labels : goal.returns-clause-labels
returns-clause-labels c =
    let s = c.args.self.now in
    let h = c.requires.on_run in
    let at = read-at s.net.now c.args.index c.index-last.result.now (slice_get_within s.net.now.sorted.items c.args.index h.last h.last_at) c.index-last.ensures in
    alighted-right s.net.now s.days.now s.asked c.requires.search c.args.labels.now c.lower.new.self c.requires.labels c.args.day c.args.board c.args.index h c.index-last.result.now at (c.index.result.now + c.from.result) (base-read c) c.lower.ensures

pub returns-clause-falls : goal.returns-clause-falls
returns-clause-falls c connection there =
    let s = c.args.self.now in
    let h = c.requires.on_run in
    let at = read-at s.net.now c.args.index c.index-last.result.now (slice_get_within s.net.now.sorted.items c.args.index h.last h.last_at) c.index-last.ensures in
    subst (λ (k : Connection). FallAfter (moment s.days.now c.args.day k.departs) c.args.labels.now c.lower.new.self) (one-at s.net.now c.args.index c.args.index c.index-last.result.now connection refl at there)
    (alighted-final s.net.now s.days.now s.asked c.requires.search c.args.labels.now c.lower.new.self c.requires.labels c.args.day c.args.board c.args.index h c.index-last.result.now at (c.index.result.now + c.from.result) (base-read c) c.lower.ensures)

pub returns-clause-low : goal.returns-clause-low
returns-clause-low c connection there =
    let s = c.args.self.now in
    let h = c.requires.on_run in
    let at = read-at s.net.now c.args.index c.index-last.result.now (slice_get_within s.net.now.sorted.items c.args.index h.last h.last_at) c.index-last.ensures in
    subst (λ (k : Connection). slice_index c.lower.new.self.arrives.items k.to ≤ moment s.days.now c.args.day k.arrives) (one-at s.net.now c.args.index c.args.index c.index-last.result.now connection refl at there)
    (alighted-low s.net.now s.days.now s.asked c.requires.search c.args.labels.now c.lower.new.self c.requires.labels c.args.day c.args.board c.args.index h c.index-last.result.now at (c.index.result.now + c.from.result) (base-read c) c.lower.ensures)

pub returns-clause-kept : goal.returns-clause-kept
returns-clause-kept c =
    let s = c.args.self.now in
    let h = c.requires.on_run in
    let at = read-at s.net.now c.args.index c.index-last.result.now (slice_get_within s.net.now.sorted.items c.args.index h.last h.last_at) c.index-last.ensures in
    alighted-kept s.net.now s.days.now s.asked c.requires.search c.args.labels.now c.lower.new.self c.requires.labels c.args.day c.args.board c.args.index h c.index-last.result.now at (c.index.result.now + c.from.result) (base-read c) c.lower.ensures
