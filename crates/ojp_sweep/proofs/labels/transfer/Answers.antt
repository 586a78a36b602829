use Rattle.std.proofs.Common.{◌≡◌, ◌+◌, ◌<◌, length, arith, refl, subst}
use Rattle.ojp_sweep.specs.Labels.{IsAtMost}
use Rattle.std.proofs.lemmas.List.{get_or_read}
use Rattle.std.proofs.lemmas.Option.{slice_get_read}
use Rattle.ojp_sweep.proofs.TransferFacts.{readies-more}
use Rattle.ojp_sweep.proofs.labels.transfer.Goals as goal

pub walks-preserved : goal.walks-preserved
walks-preserved c =
    let net = c.args.net.now in
    let well = c.requires.well in
    let low = get_or_read net.firsts.items c.args.place c.index-index.result.now (omega (arith, well.firsts_count, c.requires.place)) c.index-index.ensures 0 in
    let high = get_or_read net.firsts.items (c.args.place + 1) c.index-index-end.result.now (omega (arith, well.firsts_count, c.requires.place)) c.index-index-end.ensures 0 in
    let within : c.walks.index < length net.walks.items = omega (arith, high, c.walks-test.true, well.firsts (c.args.place + 1)) in
    let same : c.from-in-walks.result ≡ c.index-walk.result.now.seconds = omega arith in
    readies-more net well c.args.place c.args.arrives c.requires.place c.args.ready.now.items c.walks.ready.items c.make_ready-in-walks.new.ready.items c.walks.index c.index-walk.result.now c.walks.invariant
    (omega (arith, low, c.walks.auto.index)) (omega (arith, high, c.walks-test.true)) (slice_get_read net.walks.items (length net.walks.items) c.walks.index c.index-walk.result.now refl within c.index-walk.ensures)
    (subst (λ n. IsAtMost c.walks.ready.items c.make_ready-in-walks.new.ready.items c.index-walk.result.now.to (c.args.arrives + n)) same c.make_ready-in-walks.ensures)
