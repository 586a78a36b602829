use Rattle.std.proofs.Common.{◌≡◌, false, map, take}
use Rattle.std.specs.Prelude.{string_bytes}
use Rattle.ojp_links_mem.specs.Files.{files_seen}
use Rattle.ojp_plan.specs.Files.{AreTextsOf}
use Rattle.ojp_plan.proofs.reading.read_files.Given as goal

abbrev pub invariant-reading : goal.invariant-reading
invariant-reading g l =
    AreTextsOf (g.F.Store.seen l.fn.files.store) (map (λ name. string_bytes name) (take l.name-index l.names)) (files_seen g.F.Store.seen l.files).tables
    × (l.files.is_open ≡ false) × (g.F.Store.seen l.files.store ≡ g.F.Store.seen l.fn.files.store)
