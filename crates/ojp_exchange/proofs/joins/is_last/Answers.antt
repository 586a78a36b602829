use Rattle.std.proofs.Common.{◌<◌, ◌+◌, length, arith, refl}
use Rattle.std.proofs.lemmas.Option.{slice_get_read}
use Rattle.ojp_timetable.proofs.ReadFacts.{read_at}
use Rattle.ojp_exchange.proofs.StopFacts.{last_apart, last_end}
use Rattle.ojp_exchange.proofs.joins.is_last.Goals as goal

pub returns-then-i-points : goal.returns-then-i-points
returns-then-i-points c =
    let point = read_at c.args.points.now c.args.i c.requires in
    last_end c.args.points.now c.args.i point.0 point.1 c.if-i-points.true

pub returns : goal.returns
returns c =
    let all = c.args.points.now in
    let i = c.args.i in
    let behind : i + 1 < length all = omega (arith, c.requires, c.if-i-points.false) in
    last_apart all i c.index-points-i.result c.index-points-i-2.result c.is_at_stop_of.result
    (slice_get_read all (length all) i c.index-points-i.result refl c.requires c.index-points-i.is)
    (slice_get_read all (length all) (i + 1) c.index-points-i-2.result refl behind c.index-points-i-2.is) c.is_at_stop_of.ensures
