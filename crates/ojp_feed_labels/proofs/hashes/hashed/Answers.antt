use Rattle.std.proofs.Common.{take, refl, ◌∙◌}
use Rattle.ojp_feed_labels.proofs.LabelFacts.{hashed_is}
use Rattle.ojp_feed_labels.proofs.hashes.hashed.Goals as goal

pub returns-clause-value : goal.returns-clause-value
returns-clause-value c =
    let id = c.args.id.now in
    let front = c.min-front.result in
    hashed_is c.args.most front c.loop-byte.byte-index c.number_of.result id (take front id) c.loop-byte.text.items c.push_local-2.new.text.items c.push_digits.new.text.items c.in-Some.label
    c.min-front.ensures refl c.loop-byte-test.false c.loop-byte.invariant.made c.push_local-2.ensures.pushed c.push_digits.ensures.pushed c.number_of.ensures.value (c.in-Some.ensures.value ∙ c.as_slice.ensures.value)
