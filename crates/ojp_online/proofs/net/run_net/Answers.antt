use Rattle.std.proofs.Common.{◌≡◌, ◌∙◌, Some, ap, sym}
use Rattle.ojp_steps.specs.Lent.{lent}
use Rattle.ojp_steps.specs.Serving.{seen_as}
use Rattle.ojp_online.specs.Words.{Ask, Gateway, Region, named_by}
use Rattle.ojp_online.specs.Commands.{meaning, text_in, words_of}
use Rattle.ojp_online.specs.Runs.{outside}
use Rattle.ojp_online.specs.declared.words.Command.{Command}
use Rattle.ojp_online.proofs.NetFacts.{due_to_named}
use Rattle.ojp_online.proofs.net.run_net.Goals as goal

pub returns-in-Some-Region-clause-due : goal.returns-in-Some-Region-clause-due
returns-in-Some-Region-clause-due g c status due =
    let words = c.in-Some-Region.words in
    let named : named_by c.args.words.now ≡ Some (Region words.file.now words.port.now (text_in words.count)) =
    sym c.read_words.ensures ∙ ap meaning c.in-Some-Region.is ∙ ap (λ (x : Command). Some (words_of x)) c.in-Some-Region.field-0-is in
    c.run_region.ensures.due status (due_to_named (outside (lent g.I.Source.seen c.args.input.now c.args.input.now) (lent g.O.Sink.seen c.args.output.now c.run_region.new.output)
    (lent g.E.Sink.seen c.args.faults.now c.run_region.new.faults) (lent g.F.Store.seen c.args.store.now c.run_region.new.store) (lent (λ d. seen_as (g.D.Doors.seen d) (g.D.Doors.faults d)) c.args.doors.now c.run_region.new.doors)
    (lent g.L.Links.seen c.args.links.now c.args.links.now)) status (named_by c.args.words.now) (Region words.file.now words.port.now (text_in words.count)) named due)

pub returns-in-Some-Gateway-clause-due : goal.returns-in-Some-Gateway-clause-due
returns-in-Some-Gateway-clause-due g c status due =
    let words = c.in-Some-Gateway.words in
    let named : named_by c.args.words.now ≡ Some (Gateway words.file.now words.port.now (text_in words.count)) =
    sym c.read_words.ensures ∙ ap meaning c.in-Some-Gateway.is ∙ ap (λ (x : Command). Some (words_of x)) c.in-Some-Gateway.field-0-is in
    c.run_gateway.ensures.due status (due_to_named (outside (lent g.I.Source.seen c.args.input.now c.args.input.now) (lent g.O.Sink.seen c.args.output.now c.run_gateway.new.output)
    (lent g.E.Sink.seen c.args.faults.now c.run_gateway.new.faults) (lent g.F.Store.seen c.args.store.now c.run_gateway.new.store) (lent (λ d. seen_as (g.D.Doors.seen d) (g.D.Doors.faults d)) c.args.doors.now c.run_gateway.new.doors)
    (lent g.L.Links.seen c.args.links.now c.run_gateway.new.links)) status (named_by c.args.words.now) (Gateway words.file.now words.port.now (text_in words.count)) named due)

pub returns-in-Some-Ask-clause-due : goal.returns-in-Some-Ask-clause-due
returns-in-Some-Ask-clause-due g c status due =
    let words = c.in-Some-Ask.words in
    let named : named_by c.args.words.now ≡ Some (Ask words.host.now words.port.now) =
    sym c.read_words.ensures ∙ ap meaning c.in-Some-Ask.is ∙ ap (λ (x : Command). Some (words_of x)) c.in-Some-Ask.field-0-is in
    c.run_ask.ensures.due status (due_to_named (outside (lent g.I.Source.seen c.args.input.now c.run_ask.new.input) (lent g.O.Sink.seen c.args.output.now c.run_ask.new.output)
    (lent g.E.Sink.seen c.args.faults.now c.run_ask.new.faults) (lent g.F.Store.seen c.args.store.now c.args.store.now) (lent (λ d. seen_as (g.D.Doors.seen d) (g.D.Doors.faults d)) c.args.doors.now c.args.doors.now)
    (lent g.L.Links.seen c.args.links.now c.run_ask.new.links)) status (named_by c.args.words.now) (Ask words.host.now words.port.now) named due)
