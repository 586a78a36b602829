use Rattle.std.proofs.Common.{◌≡◌, ◌+◌, None, get_or, sym, ap, ◌∙◌, arith}
use Rattle.std.proofs.lemmas.Option.{slice_get_within}
use Rattle.ojp_labels.specs.Slots.{slots}
use Rattle.ojp_labels.proofs.SlotFacts.{if_slot_wanted, same_place, pair_of_query}
use Rattle.ojp_labels.proofs.board.Board.slot_of.Goals as goal

pub slot-requires-clause-within : goal.slot-requires-clause-within
slot-requires-clause-within c = let within = slice_get_within c.args.book.now.spots c.in-Some.place c.in-Some.ensures.spot c.in-Some.ensures.at in omega arith

pub returns-in-Some-clause-some : goal.returns-in-Some-clause-some
returns-in-Some-clause-some c = if_slot_wanted c.args.book.now c.args.self.now.ask c.args.self.now.told.items (c.in-Some.place + 3) c.slot.result c.requires.book_well c.requires.origin_well c.slot.ensures

pub returns-in-Some-clause-all : goal.returns-in-Some-clause-all
returns-in-Some-clause-all c place start stop region e here =
    let same = same_place c.args.book.now c.in-Some.place place c.in-Reach.stop c.in-Reach.region c.in-Reach.start stop region start c.requires.book_well c.in-Some.ensures here (sym c.in-Reach.is ∙ e) in
    c.slot.ensures ∙ ap (λ n. get_or (slots c.args.book.now c.args.self.now.ask c.args.self.now.told.items) (n + 3) None) same

pub returns-in-None-clause-all : goal.returns-in-None-clause-all
returns-in-None-clause-all c place start stop region e here =
    absurd (c.in-None.ensures place (pair_of_query c.args.book.now place c.in-Reach.stop c.in-Reach.region c.in-Reach.start stop region start here (sym c.in-Reach.is ∙ e)))
