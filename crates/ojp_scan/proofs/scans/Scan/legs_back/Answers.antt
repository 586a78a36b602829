use Rattle.std.proofs.Common.{◌≡◌, ◌<◌, ◌≤◌, List, [], ◌∷◌, ◌++◌, ◌∙◌, reverse, cond, sym, ap, subst}
use Rattle.std.proofs.lemmas.List.{reverse-append}
use Rattle.ojp_timetable.specs.Journeys.{Leads}
use Rattle.ojp_scan.specs.Walks.{IsWalking}
use Rattle.ojp_scan.proofs.ScanFacts.{leg-early, walk-begins, walk-on}
use Rattle.ojp_scan.proofs.scans.Scan.legs_back.Goals as goal

-- the legs so far, the other way round, with one more
reverse-push : {X : Type 0} (legs new : List X) (leg : X) → new ≡ legs ++ leg ∷ [] → reverse new ≡ leg ∷ reverse legs
reverse-push legs new leg e = ap reverse e ∙ reverse-append legs (leg ∷ [])

pub returns-then-is_start : goal.returns-then-is_start
returns-then-is_start c origin start found =
    let s = c.args.self.now in
    let table = c.args.table.now in
    let leg = c.last_leg-last.result.leg in
    let from = c.last_leg-last.result.from in
    let begins = c.if-is_start.ensures in
    let pushed : c.push.new.self.items ≡ c.back.legs.items ++ leg ∷ [] = c.push.ensures.items ∙ ap (λ b. cond b (c.back.legs.items ++ leg ∷ []) c.back.legs.items) c.if-is_err.ensures.negation in
    subst (λ ls. Leads table origin start ls c.args.stop c.args.end) (sym (reverse-push c.back.legs.items c.push.new.self.items leg pushed))
    (walk-begins s table origin start found c.back.at c.back.before (reverse c.back.legs.items) c.args.stop c.args.end c.back.invariant leg from c.last_leg-last.ensures
    (begins.0, subst (λ m. s.asked.start ≤ m) c.seconds-before.ensures.value begins.1))

pub back-smaller : goal.back-smaller
back-smaller c =
    let s = c.args.self.now in
    let st = c.requires.started in
    subst (λ m. m < c.back.before) (sym c.seconds-before.ensures.value)
    (leg-early s c.args.table.now st.origin st.start st.scan_of c.back.at c.back.before (reverse c.back.legs.items) c.args.stop c.args.end c.back.invariant c.last_leg-last.result.leg c.last_leg-last.result.from c.last_leg-last.ensures)

pub back-preserved : goal.back-preserved
back-preserved c =
    let s = c.args.self.now in
    let table = c.args.table.now in
    let st = c.requires.started in
    let leg = c.last_leg-last.result.leg in
    let from = c.last_leg-last.result.from in
    let other = c.if-is_start.ensures in
    let pushed : c.push.new.self.items ≡ c.back.legs.items ++ leg ∷ [] = c.push.ensures.items ∙ ap (λ b. cond b (c.back.legs.items ++ leg ∷ []) c.back.legs.items) c.if-is_err.ensures.negation in
    subst (λ ls. IsWalking s table from c.seconds-before.result ls c.args.stop c.args.end) (sym (reverse-push c.back.legs.items c.push.new.self.items leg pushed))
    (subst (λ m. IsWalking s table from m (leg ∷ reverse c.back.legs.items) c.args.stop c.args.end) (sym c.seconds-before.ensures.value)
    (walk-on s table st.origin st.start st.scan_of c.back.at c.back.before (reverse c.back.legs.items) c.args.stop c.args.end c.back.invariant leg from c.last_leg-last.ensures
    (λ h. other (h.0, subst (λ m. s.asked.start ≤ m) (sym c.seconds-before.ensures.value) h.1))))
