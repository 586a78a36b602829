use Rattle.std.proofs.Common.{◌≡◌, ℕ, ◌/◌, ◌%◌, [], ◌∷◌, ◌++◌, ap, ◌∙◌, arith}
use Rattle.ojp_feed_labels.specs.Labels.{digit, digits}
use Rattle.ojp_feed_labels.proofs.LabelFacts.{pushed_more}
use Rattle.ojp_feed_labels.proofs.hashes.push_digits.Goals as goal

pub returns-clause-pushed : goal.returns-clause-pushed
unfolding digits
returns-clause-pushed c =
    let old = c.args.text.now.items in
    let number = c.args.number in
    let last : c.digit-8.result ≡ digit (number / 1 % 32) = c.digit-8.ensures.value ∙ ap (λ (n : ℕ). digit (n % 32)) (omega arith) in
    let one = c.push_local.ensures.pushed ∙ ap (λ (d : ℕ). old ++ d ∷ []) c.digit.ensures.value in
    let two = pushed_more old _ _ _ _ _ one c.push_local-2.ensures.pushed c.digit-2.ensures.value in
    let three = pushed_more old _ _ _ _ _ two c.push_local-3.ensures.pushed c.digit-3.ensures.value in
    let four = pushed_more old _ _ _ _ _ three c.push_local-4.ensures.pushed c.digit-4.ensures.value in
    let five = pushed_more old _ _ _ _ _ four c.push_local-5.ensures.pushed c.digit-5.ensures.value in
    let six = pushed_more old _ _ _ _ _ five c.push_local-6.ensures.pushed c.digit-6.ensures.value in
    let seven = pushed_more old _ _ _ _ _ six c.push_local-7.ensures.pushed c.digit-7.ensures.value in
    pushed_more old _ _ _ _ _ seven c.push_local-8.ensures.pushed last
