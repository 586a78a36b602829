use Rattle.std.proofs.Common.{◌+◌, [], ◌∷◌, ◌++◌, ap, sym, ◌∙◌, take}
use Rattle.std.specs.Prelude.{string_bytes}
use Rattle.std.proofs.lemmas.List.{take_more}
use Rattle.ojp_links_mem.specs.Files.{files_seen}
use Rattle.ojp_steps.specs.Lent.{lent}
use Rattle.ojp_plan.proofs.ReadFacts.{fails_at, one_more_text}
use Rattle.ojp_plan.proofs.reading.read_files.Goals as goal

pub returns-in-Err : goal.returns-in-Err
returns-in-Err g c =
    fails_at (λ name. string_bytes name) c.args.names.now (lent (files_seen g.F.Store.seen) c.args.files.now c.read.new.self) c.reading.name-index c.name-item.result
    (files_seen g.F.Store.seen c.reading.files).tables c.reading-test.true c.name-item.is c.reading.invariant.0
    (g.F.Store.seen c.reading.files.store) c.as_str.result.now c.as_str-in-Err.result.now c.in-Err.refused c.failure_of.result c.reading.invariant.2 c.as_str.ensures.value c.as_str-in-Err.ensures.value
    c.in-Err.ensures.ends.0 c.failure_of.ensures

pub reading-preserved : goal.reading-preserved
reading-preserved g c =
    let ends = c.in-Ok.ensures.ends in (
      one_more_text (λ name. string_bytes name) (g.F.Store.seen c.args.files.now.store) (g.F.Store.seen c.reading.files.store) (g.F.Store.seen c.read.new.self.store) (take (c.reading.name-index + 1) c.args.names.now)
          (take c.reading.name-index c.args.names.now) c.name-item.result c.as_str.result.now (files_seen g.F.Store.seen c.reading.files).tables (files_seen g.F.Store.seen c.read.new.self).tables ends.0
          (take_more c.args.names.now c.reading.name-index c.name-item.result c.reading-test.true ∙ ap (λ name. take c.reading.name-index c.args.names.now ++ name ∷ []) (sym c.name-item.is))
          c.as_str.ensures.value c.reading.invariant.2 ends.1 ends.2 c.reading.invariant.0,
      c.in-Ok.ensures.shut.is_open_same ∙ c.reading.invariant.1,
      ends.1.same ∙ c.reading.invariant.2,
    )
