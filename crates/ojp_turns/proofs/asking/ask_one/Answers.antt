use Rattle.std.proofs.Common.{ℕ, List, ◌++◌, ◌∷◌, [], subst, sym, ap, ◌∙◌}
use Rattle.ojp_values.specs.Limits.{IsWellAsk}
use Rattle.ojp_values.specs.Lists.{Among}
use Rattle.ojp_links.specs.Seen.{codes_of}
use Rattle.ojp_labels.specs.Boards.{ask_of, told_of}
use Rattle.ojp_records.proofs.BoardFacts.{wanted_is_open}
use Rattle.ojp_turns.specs.declared.kept.Kept.{Kept}
use Rattle.ojp_turns.specs.Held.{StandsIn}
use Rattle.ojp_turns.proofs.AskFacts.{stands_begun, stay_begun, stands_refused}
use Rattle.ojp_turns.proofs.DocumentFacts.{document_well, wanted_region}
use Rattle.ojp_turns.proofs.asking.ask_one.Goals as goal

pub region_number-region-requires : goal.region_number-region-requires
region_number-region-requires g c =
    subst (λ (code : List ℕ). Among code (codes_of (g.L.Links.seen c.args.links.now).fixed)) (sym c.query_region.ensures)
    ((c.requires.regions _).0 (wanted_region c.args.book.now c.requires.of.book_well (ask_of c.args.board.now) (told_of c.args.board.now) c.args.query c.requires.wanted))

pub begin-requires-clause-well : goal.begin-requires-clause-well
begin-requires-clause-well g c =
    subst IsWellAsk (sym c.in-Ok.ensures) (document_well c.args.book.now (ask_of c.args.board.now) (told_of c.args.board.now) c.args.query c.requires.of.book_well c.requires.wanted)

pub fail-requires-clause-fresh : goal.fail-requires-clause-fresh
fail-requires-clause-fresh g c = wanted_is_open c.args.book.now (ask_of c.args.board.now) (told_of c.args.board.now) c.args.query c.requires.wanted

pub returns-in-Ok-begin-clause-stands : goal.returns-in-Ok-begin-clause-stands
returns-in-Ok-begin-clause-stands g c =
    let kept : Kept = record { query = c.args.query; number = c.args.number; sub = c.in-Ok-begin.sub } in
    subst (λ (xs : List Kept). StandsIn c.args.book.now (ask_of c.args.board.now) (told_of c.args.board.now) xs (g.L.Links.seen c.begin.new.links))
    (sym (c.push_back_reserved.ensures.items ∙ ap (λ (xs : List Kept). xs ++ kept ∷ []) c.in-Ok-reserve.ensures.items))
    (stands_begun c.args.book.now (ask_of c.args.board.now) (told_of c.args.board.now) (g.L.Links.seen c.args.links.now) (g.L.Links.seen c.begin.new.links) c.args.subs.now.items kept c.region_number-region.result c.in-Ok.asking
    c.requires.stands c.in-Ok-begin.ensures.made c.in-Ok.ensures (c.region_number-region.ensures.code ∙ c.query_region.ensures) c.requires.wanted c.requires.missing c.in-Ok-begin.ensures.keeps)

pub returns-in-Ok-begin-clause-same : goal.returns-in-Ok-begin-clause-same
returns-in-Ok-begin-clause-same g c =
    stay_begun c.args.book.now (ask_of c.args.board.now) (told_of c.args.board.now) (g.L.Links.seen c.args.links.now) (g.L.Links.seen c.begin.new.links) c.args.subs.now.items c.region_number-region.result c.in-Ok.asking
    (record { query = c.args.query; number = c.args.number; sub = c.in-Ok-begin.sub }) c.requires.stands c.in-Ok-begin.ensures.made

pub returns-in-Ok-fail-clause-stands : goal.returns-in-Ok-fail-clause-stands
returns-in-Ok-fail-clause-stands g c =
    subst (λ (xs : List Kept). StandsIn c.args.book.now (ask_of c.args.board.now) (told_of c.fail.new.self) xs (g.L.Links.seen c.begin.new.links)) (sym c.in-Ok-reserve.ensures.items)
    (stands_refused c.args.book.now (ask_of c.args.board.now) (told_of c.args.board.now) (told_of c.fail.new.self) (g.L.Links.seen c.args.links.now) (g.L.Links.seen c.begin.new.links)
    c.args.subs.now.items c.args.query c.requires.stands c.requires.missing c.in-Err-Failed.ensures.keeps c.in-Err-Failed.ensures.refused c.in-Ok-fail.ensures.told)
