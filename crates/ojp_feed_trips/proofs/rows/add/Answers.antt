use Rattle.std.proofs.Common.{◌≡◌, ◌+◌, [], ◌∷◌, ◌++◌, List, sym, subst, ap, ◌∙◌, arith}
use Rattle.std.proofs.lemmas.Result.{on_ok_weaker}
use Rattle.ojp_feed_trips.specs.Halts.{AreFirstHalts}
use Rattle.ojp_feed_trips.specs.declared.halts.Halt.{Halt}
use Rattle.ojp_feed_trips.proofs.HaltFacts.{grown_halt, push_halt}
use Rattle.ojp_feed_trips.proofs.rows.add.Goals as goal

pub returns-then-before-halt : goal.returns-then-before-halt
returns-then-before-halt c =
    let rows = c.args.rows.now in
    let places = c.args.places.now in
    let halt = c.args.halt in
    let kept = c.pop.new.self.items in
    let before = c.in-Some.before in
    let old : c.args.halts.now.items ≡ kept ++ before ∷ [] = c.in-Some.ensures.items in
    let were : AreFirstHalts rows places (kept ++ before ∷ []) halt.first = subst (λ (xs : List Halt). AreFirstHalts rows places xs halt.first) old c.requires.before in
    on_ok_weaker c.put-then-before-halt.result
    (λ e. subst (λ (xs : List Halt). AreFirstHalts rows places xs (halt.last + 1)) (sym (e ∙ ap (λ (h : Halt). kept ++ h ∷ []) c.both.ensures))
    (grown_halt rows places kept before halt halt.first (halt.last + 1) were c.requires.halt (omega arith) c.if-before-halt.true (omega arith)))
    c.put-then-before-halt.ensures

pub returns-in_ok-put-in-Some : goal.returns-in_ok-put-in-Some
returns-in_ok-put-in-Some c =
    let rows = c.args.rows.now in
    let places = c.args.places.now in
    let halt = c.args.halt in
    let again = c.put-else-before-halt.new.halts.items in
    let old : c.args.halts.now.items ≡ c.pop.new.self.items ++ c.in-Some.before ∷ [] = c.in-Some.ensures.items in
    let same : c.args.halts.now.items ≡ again = old ∙ sym c.in_ok-put-in-Some.ensures in
    let were : AreFirstHalts rows places again halt.first = subst (λ (xs : List Halt). AreFirstHalts rows places xs halt.first) same c.requires.before in
    on_ok_weaker c.put-else-before-halt-2.result
    (λ e. subst (λ (xs : List Halt). AreFirstHalts rows places xs (halt.last + 1)) (sym e)
    (push_halt rows places again halt halt.first (halt.last + 1) were c.requires.halt (omega arith) (omega arith)))
    c.put-else-before-halt-2.ensures
