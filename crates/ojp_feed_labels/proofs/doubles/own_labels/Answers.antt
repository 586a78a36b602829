use Rattle.std.proofs.Common.{◌≡◌, ◌+◌, Bor, length, map, take, refl, sym, ap, ◌∙◌, arith}
use Rattle.std.proofs.lemmas.List.{length-map, length-take-le, take-map}
use Rattle.ojp_values.specs.Texts.{Text}
use Rattle.ojp_feed_labels.specs.Doubles.{own_label}
use Rattle.ojp_feed_labels.proofs.DoubleFacts.{apart_more, doubled_at, id_at, ids_more, labels_all, labels_more}
use Rattle.ojp_feed_labels.proofs.SeenFacts.{seen_more}
use Rattle.ojp_feed_labels.proofs.doubles.own_labels.Goals as goal

pub loop-second-preserved : goal.loop-second-preserved
loop-second-preserved c =
    let most = c.args.most in
    let given = c.args.ids.now in
    let now : Bor Text → Text = λ one. one.now in
    let ids = map now given in
    let second = c.loop-second.second in
    let id = c.as_bytes.result.now in
    let label = c.label_among-label.result in
    let before = c.loop-second.invariant in
    let old = c.loop-second.labels in
    let new = c.put.new.labels in
    let is = c.label_among-label.ensures ids c.in-Ok.ensures in
    let front : length (map now (take second given)) ≡ second = length-map (take second given) now ∙ length-take-le second given (omega (arith, c.loop-second-test.true)) in
    let long : second ≡ length old = sym (ap length before.each ∙ (length-map (map now (take second given)) (own_label most ids) ∙ front)) in
    record {
      each = labels_more most ids (map now (take second given)) (map now (take (second + 1) given)) id label old new (ids_more given second _ id c.loop-second-test.true c.as_bytes.ensures.value) before.each is c.in-Ok-put.ensures;
      apart = apart_more old new label before.apart (before.seen.absent label (sym c.in-Ok-None.ensures.old ∙ c.in-Ok-None.field-0-is)) c.in-Ok-put.ensures;
      seen = seen_more old new c.loop-second.seen c.insert.new.self second label before.seen long c.in-Ok-put.ensures c.in-Ok-None.ensures.updates;
    }

pub returns-in-Ok-Some-clause-refused : goal.returns-in-Ok-Some-clause-refused
returns-in-Ok-Some-clause-refused c =
    let most = c.args.most in
    let given = c.args.ids.now in
    let now : Bor Text → Text = λ one. one.now in
    let ids = map now given in
    let second = c.loop-second.second in
    let id = c.as_bytes.result.now in
    let label = c.label_among-label.result in
    let before = c.loop-second.invariant in
    let here = c.loop-second-test.true in
    doubled_at most c.in-Ok-Some.first second ids c.loop-second.labels id label (before.each ∙ ap (map (own_label most ids)) (sym (take-map now second given))) (omega (arith, here, length-map given now))
    (id_at given second _ id here c.as_bytes.ensures.value) (c.label_among-label.ensures ids c.in-Ok.ensures)
    (before.seen.there label c.in-Ok-Some.first (sym c.in-Ok-Some.ensures.old ∙ c.in-Ok-Some.field-0-is)) before.apart

pub returns-clause-each : goal.returns-clause-each
returns-clause-each c =
    let now : Bor Text → Text = λ one. one.now in
    labels_all c.args.most c.loop-second.second c.args.ids.now (map now c.args.ids.now) c.loop-second.labels refl c.loop-second-test.false c.loop-second.invariant.each
