use Rattle.std.proofs.Common.{List, ◌≡◌, ◌<◌, ◌≤◌, ◌+◌, length, None, sym, ◌∙◌, subst, arith}
use Rattle.ojp_records.specs.declared.queries.Query.{Query}
use Rattle.ojp_records.specs.Wanted.{wanted, IsFirstNew}
use Rattle.ojp_records.proofs.NextFacts.{live_is, not_live_is}
use Rattle.ojp_labels.specs.Slots.{slots, somes}
use Rattle.ojp_labels.proofs.SlotFacts.{slots_wanted, slots_length, live_none, live_one, live_all, first_new, next_from}
use Rattle.ojp_labels.proofs.board.Board.next_wanted.Goals as goal
use Rattle.ojp_labels.proofs.board.Board.next_wanted.Goals.{in-Some+else-not-is_live, in_default}

pub slot-requires-clause-within : goal.slot-requires-clause-within
slot-requires-clause-within c = let count = c.slots-number-end.ensures.count c.args.book.now c.requires in omega arith

pub returns-then-not-is_live : goal.returns-then-not-is_live
returns-then-not-is_live c =
    let book = c.args.book.now in
    let ask = c.args.self.now.ask in
    let told = c.args.self.now.told.items in
    let count = c.slots-number-end.ensures.count book c.requires in
    let long = slots_length book ask told in
    let within : c.slots.number < length (slots book ask told) = omega arith in
    subst (λ (qs : List Query). IsFirstNew qs c.args.live.now c.in-Some.query) (slots_wanted book ask told c.requires.book_well c.requires.origin_well)
    (first_new (slots book ask told) c.slots.number c.args.live.now c.in-Some.query within (sym c.slot.ensures ∙ c.in-Some.is)
    (not_live_is c.args.live.now c.in-Some.query (sym c.is_live.ensures ∙ c.if-not-is_live.true)) c.slots.invariant)

pub slots-preserved : goal.slots-preserved
slots-preserved c =
    let book = c.args.book.now in
    let ask = c.args.self.now.ask in
    let told = c.args.self.now.told.items in
    let count = c.slots-number-end.ensures.count book c.requires in
    let long = slots_length book ask told in
    let within : c.slots.number < length (slots book ask told) = omega arith in
    elim c.match-slot.branch [
      | in-Some+else-not-is_live w ↦
          live_one (slots book ask told) c.slots.number c.args.live.now w.in-Some.query within (sym c.slot.ensures ∙ w.in-Some.is)
          (live_is c.args.live.now w.in-Some.query (sym w.is_live.ensures ∙ w.if-not-is_live.false)) c.slots.invariant
      | in_default w ↦ live_none (slots book ask told) c.slots.number c.args.live.now within (sym c.slot.ensures ∙ w.in_default.is) c.slots.invariant
    ]

pub returns : goal.returns
returns c =
    let book = c.args.book.now in
    let ask = c.args.self.now.ask in
    let told = c.args.self.now.told.items in
    let count = c.slots-number-end.ensures.count book c.requires in
    let long = slots_length book ask told in
    let past : length (slots book ask told) ≤ c.slots.number = omega arith in
    next_from (somes (slots book ask told)) (wanted book ask told) c.args.live.now None (slots_wanted book ask told c.requires.book_well c.requires.origin_well)
    (live_all (slots book ask told) c.slots.number c.args.live.now past c.slots.invariant)
