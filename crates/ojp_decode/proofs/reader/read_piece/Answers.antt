use Rattle.std.proofs.Common.{◌≡◌, ℕ, List, ◌+◌, ◌-◌, length, drop, take, arith, length-drop, length-take-le, ap}
use Rattle.ojp_decode.proofs.Readings.{HasRun, ran_short, ran_refused_here, slice_stands, slice_run}
use Rattle.ojp_decode.proofs.reader.read_piece.Goals as goal

pub run-requires : goal.run-requires
run-requires c = (c.requires.stands.0, slice_stands c.args.machine.now c.requires.stands.0 c.args.piece.now c.args.passed c.requires.stands.1)

pub returns-then-not-is_truncated : goal.returns-then-not-is_truncated
returns-then-not-is_truncated c bytes stands =
    let run : HasRun c.args.machine.now.want c.run.new.self bytes (drop (c.args.passed + c.in-Ok.ran.took) c.args.piece.now) c.in-Ok.ran.stop =
    slice_run c.args.machine.now.want c.run.new.self bytes c.args.piece.now c.args.passed c.in-Ok.ran.took c.in-Ok.ran.stop c.in-Ok.ensures.want
    (c.in-Ok.ensures.stands bytes (slice_stands c.args.machine.now bytes c.args.piece.now c.args.passed stands)) c.in-Ok.ensures.stop c.in-Ok.ensures.cut in
    ran_refused_here c.args.machine.now.want c.run.new.self bytes (drop (c.args.passed + c.in-Ok.ran.took) c.args.piece.now) c.args.piece.now c.args.kept.now.items c.in-Ok.ran.stop c.in-Some.reason c.refused.result
    run c.in-Some.is c.if-not-is_truncated.ensures c.refused.ensures

pub unreachable-requires : goal.unreachable-requires
unreachable-requires c =
    let run : HasRun c.args.machine.now.want c.run.new.self c.requires.stands.0 (drop (c.args.passed + c.in-Ok.ran.took) c.args.piece.now) c.in-Ok.ran.stop =
    slice_run c.args.machine.now.want c.run.new.self c.requires.stands.0 c.args.piece.now c.args.passed c.in-Ok.ran.took c.in-Ok.ran.stop c.in-Ok.ensures.want
    (c.in-Ok.ensures.stands c.requires.stands.0 (slice_stands c.args.machine.now c.requires.stands.0 c.args.piece.now c.args.passed c.requires.stands.1)) c.in-Ok.ensures.stop c.in-Ok.ensures.cut in
    let used = c.args.passed + c.in-Ok.ran.took in
    let short = ran_short c.args.machine.now.want c.run.new.self c.requires.stands.0 (drop used c.args.piece.now) c.in-Ok.ran.stop c.in-Some.reason run c.in-Some.is c.if-not-is_truncated.ensures in
    let size : length (take (length c.args.piece.now - used) (drop used c.args.piece.now)) ≡ length c.args.piece.now - used =
    length-take-le (length c.args.piece.now - used) (drop used c.args.piece.now) (omega (arith, length-drop used c.args.piece.now)) in
    let none : length c.args.kept.now.items ≡ 0 = ap (λ (l : List ℕ). length l) c.requires.none in
    let fits = c.in_default-try_extend_from_slice.ensures.variant.1 (omega (arith, short, size, none, length-drop used c.args.piece.now)) in
    cc
