use Rattle.ojp_steps.specs.Lent.{lent}
use Rattle.ojp_gtfs_cli.specs.Meanings.{wanted_by}
use Rattle.ojp_gtfs_cli.specs.Words.{texts_of}
use Rattle.ojp_gtfs_cli.proofs.RunFacts.{not_by_reading, not_by_refusal, not_by_words, writes_as}
use Rattle.ojp_gtfs_cli.proofs.running.run.Goals as goal

pub returns-in-Ok-clause-written : goal.returns-in-Ok-clause-written
returns-in-Ok-clause-written g c =
    writes_as (texts_of c.args.words.now) c.args.zoneinfo.now (g.D.Folder.seen c.args.folder.now).contents (g.S.Store.seen c.args.store.now).contents (wanted_by c.in-Some.asked) c.in-Some.ensures
    c.in-Ok.done.converted.text.items c.in-Ok.ensures.converted (lent g.O.Sink.seen c.args.output.now c.finish.new.output) c.finish.result c.finish.ensures

pub returns-in-Ok-clause-words : goal.returns-in-Ok-clause-words
returns-in-Ok-clause-words g c is = absurd (not_by_words c.in-Some.asked.options.strict (lent g.O.Sink.seen c.args.output.now c.finish.new.output) c.in-Ok.done.converted.text.items c.finish.result c.finish.ensures is)

pub returns-in-Ok-clause-unread : goal.returns-in-Ok-clause-unread
returns-in-Ok-clause-unread g c is = absurd (not_by_reading c.in-Some.asked.options.strict (lent g.O.Sink.seen c.args.output.now c.finish.new.output) c.in-Ok.done.converted.text.items c.finish.result c.finish.ensures is)

pub returns-in-Ok-clause-refused : goal.returns-in-Ok-clause-refused
returns-in-Ok-clause-refused g c is = absurd (not_by_refusal c.in-Some.asked.options.strict (lent g.O.Sink.seen c.args.output.now c.finish.new.output) c.in-Ok.done.converted.text.items c.finish.result c.finish.ensures is)

pub returns-in-Ok-clause-alone : goal.returns-in-Ok-clause-alone
returns-in-Ok-clause-alone g c is = absurd (not_by_words c.in-Some.asked.options.strict (lent g.O.Sink.seen c.args.output.now c.finish.new.output) c.in-Ok.done.converted.text.items c.finish.result c.finish.ensures is)
