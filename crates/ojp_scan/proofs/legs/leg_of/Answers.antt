use Rattle.std.proofs.Common.{◌+◌, ap, ◌∙◌, is_some}
use Rattle.ojp_scan.proofs.TableFacts.{departs-offset, arrives-offset}
use Rattle.ojp_scan.proofs.PlaceFacts.{name-known}
use Rattle.ojp_scan.proofs.legs.leg_of.Goals as goal

pub unwrap-requires : goal.unwrap-requires
unwrap-requires c =
    let v = c.call_at-board.ensures in
    let known = name-known c.args.table.now c.requires.well c.args.first.now.journey c.args.first.now.position v.journey c.call_at-board.result v.at v.call_at in
    ap is_some (c.name.ensures ∙ known.1)

pub moment-requires : goal.moment-requires
moment-requires c =
    let x = c.requires.ends.board in
    departs-offset c.args.table.now c.requires.well c.args.first.now.journey c.args.first.now.position x.of x.board c.args.first.now.departs x.at x.board_at x.departs

pub unwrap-requires-2 : goal.unwrap-requires-2
unwrap-requires-2 c =
    let v = c.call_at-alight.ensures in
    let known = name-known c.args.table.now c.requires.well c.args.last.now.journey (c.args.last.now.position + 1) v.journey c.call_at-alight.result v.at v.call_at in
    ap is_some (c.name-2.ensures ∙ known.1)

pub moment-requires-2 : goal.moment-requires-2
moment-requires-2 c =
    let x = c.requires.ends.alight in
    arrives-offset c.args.table.now c.requires.well c.args.last.now.journey (c.args.last.now.position + 1) x.of x.alight c.args.last.now.arrives x.at x.alight_at x.arrives
