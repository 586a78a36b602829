use Rattle.std.proofs.Common.{◌∙◌, subst, Option}
use Rattle.ojp_values.specs.declared.documents.Doc.{Doc}
use Rattle.ojp_grammar.specs.Running.{IsRead}
use Rattle.ojp_grammar.proofs.Ended.{HasRun, run_stopped, run_read}
use Rattle.ojp_grammar.proofs.whole.whole.Goals as goal

pub run-ran-requires : goal.run-ran-requires
run-ran-requires c = (c.args.bytes.now, c.new-machine.ensures.stands c.args.bytes.now)

pub unreachable-requires : goal.unreachable-requires
unreachable-requires c =
    let run : HasRun c.args.want c.run-ran.new.self c.args.bytes.now c.in-Ok.ran = record {
      want_is = c.in-Ok.ensures.want ∙ c.new-machine.ensures.want;
      stands = c.in-Ok.ensures.stands c.args.bytes.now (c.new-machine.ensures.stands c.args.bytes.now);
      stop = c.in-Ok.ensures.stop;
    } in
    let read = run_read c.args.want c.run-ran.new.self c.args.bytes.now c.in-Ok.ran c.into_document-document.result run c.in-None.ensures.0 c.in-None.ensures.1
    (c.into_document-document.ensures c.args.bytes.now) in
    let P : Option Doc → Type 0 = IsRead c.args.want c.args.bytes.now in
    subst P c.in-None-document.is read

pub returns-in-Some-clause-refused : goal.returns-in-Some-clause-refused
returns-in-Some-clause-refused c =
    let run : HasRun c.args.want c.run-ran.new.self c.args.bytes.now c.in-Ok.ran = record {
      want_is = c.in-Ok.ensures.want ∙ c.new-machine.ensures.want;
      stands = c.in-Ok.ensures.stands c.args.bytes.now (c.new-machine.ensures.stands c.args.bytes.now);
      stop = c.in-Ok.ensures.stop;
    } in
    run_stopped c.args.want c.run-ran.new.self c.args.bytes.now c.in-Ok.ran c.in-Some.reason c.refused.result run c.in-Some.ensures c.refused.ensures

pub returns-in-Some-document-clause-document : goal.returns-in-Some-document-clause-document
returns-in-Some-document-clause-document c =
    let run : HasRun c.args.want c.run-ran.new.self c.args.bytes.now c.in-Ok.ran = record {
      want_is = c.in-Ok.ensures.want ∙ c.new-machine.ensures.want;
      stands = c.in-Ok.ensures.stands c.args.bytes.now (c.new-machine.ensures.stands c.args.bytes.now);
      stop = c.in-Ok.ensures.stop;
    } in
    let read = run_read c.args.want c.run-ran.new.self c.args.bytes.now c.in-Ok.ran c.into_document-document.result run c.in-None.ensures.0 c.in-None.ensures.1
    (c.into_document-document.ensures c.args.bytes.now) in
    let P : Option Doc → Type 0 = IsRead c.args.want c.args.bytes.now in
    subst P c.in-Some-document.is read
