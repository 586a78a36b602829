use Rattle.std.proofs.Common.{List, map}
use Rattle.std.specs.Prelude.{string_bytes}
use Rattle.ojp_values.specs.Texts.{Text}
use Rattle.ojp_links_mem.specs.Files.{files_seen, links_seen}
use Rattle.ojp_steps.specs.Lent.{lent}
use Rattle.ojp_plan.proofs.PlanFacts.{fails_for_input, is_plan, makes_book}
use Rattle.ojp_plan.proofs.planning.planned_text.Goals as goal

pub returns-in-Err-read_request : goal.returns-in-Err-read_request
returns-in-Err-read_request g c =
    let names : List Text = map (λ name. string_bytes name) c.args.names.now in
    let files = lent (files_seen g.F.Store.seen) c.args.files.now c.prepare.new.files in
    fails_for_input names files (lent g.I.Source.seen c.args.input.now c.read_request.new.input) c.in-Ok.ensures.given c.in-Err-read_request.refused c.failure_of.result
    (makes_book (g.F.Store.seen c.args.files.now.store) names c.args.order (links_seen c.prepare.new.files) c.in-Ok.book c.in-Ok.ensures) c.in-Err-read_request.ensures c.failure_of.ensures

pub returns-in-Ok-answer_text : goal.returns-in-Ok-answer_text
returns-in-Ok-answer_text g c =
    let names : List Text = map (λ name. string_bytes name) c.args.names.now in
    let files = lent (files_seen g.F.Store.seen) c.args.files.now c.answer_text.new.files in
    is_plan c.args.order c.args.trace.now.on c.answer_text.new.trace.lines names files (links_seen c.prepare.new.files) c.in-Ok.book c.in-Ok.ensures (lent g.I.Source.seen c.args.input.now c.read_request.new.input) c.in-Ok-read_request.ask
    c.in-Ok-read_request.ensures c.in-Ok-answer_text.text.written (c.in-Ok-answer_text.ensures.answers c.in-Ok.ensures.given c.args.order c.in-Ok.ensures.learned)
    (c.in-Ok-answer_text.ensures.traced c.in-Ok.ensures.given c.args.order c.in-Ok.ensures.learned c.in-Ok.ensures.none_made c.requires.empty)
