use Rattle.std.proofs.Common.{refl, sym, subst}
use Rattle.ojp_decode.specs.declared.fed.Stage.TheVariants.{Over}
use Rattle.ojp_decode.specs.Standing.{ReaderView, HasRead, HasReadAt}
use Rattle.ojp_decode.proofs.Standings.{reading_feeds, whole_feeds, over_sound, some_piece}
use Rattle.ojp_decode.proofs.reader.Reader.feed.Goals as goal

pub invariant_of-self : goal.invariant_of-self
invariant_of-self c = over_sound c.refused-refused.result c.self.inside.machine c.self.inside.kept.items

pub invariant_of-self-in-Reading : goal.invariant_of-self-in-Reading
invariant_of-self-in-Reading c =
    let went = reading_feeds c.self.inside.stage c.stage_after-self-inside.result c.self.inside.machine c.read_on-fed.new.machine c.self.inside.kept.items c.read_on-fed.new.kept.items c.args.piece.now c.read_on-fed.result c.self.invariant.0
    c.in-Reading.is c.self.invariant.1 c.stage_after-self-inside.ensures c.read_on-fed.ensures in
    (went.0, went.1)

pub returns-in-Whole-2 : goal.returns-in-Whole-2
returns-in-Whole-2 c before has =
    let h : HasReadAt c.self.inside.stage c.self.inside.machine c.self.inside.kept.items before = subst (λ (v : ReaderView). HasRead v before) (sym c.self.view_is) has in
    whole_feeds c.self.inside.stage (Over c.refused-refused.result) c.self.inside.machine c.self.inside.kept.items c.args.piece.now c.refused-refused.result before
    c.in-Whole-2.is h refl c.refused-refused.ensures (some_piece c.args.piece.now c.is_empty.result c.is_empty.ensures c.if-is_empty.false)

pub returns-in-Reading : goal.returns-in-Reading
returns-in-Reading c before has =
    let h : HasReadAt c.self.inside.stage c.self.inside.machine c.self.inside.kept.items before = subst (λ (v : ReaderView). HasRead v before) (sym c.self.view_is) has in
    reading_feeds c.self.inside.stage c.stage_after-self-inside.result c.self.inside.machine c.read_on-fed.new.machine c.self.inside.kept.items c.read_on-fed.new.kept.items c.args.piece.now c.read_on-fed.result before
    c.in-Reading.is h c.stage_after-self-inside.ensures c.read_on-fed.ensures
