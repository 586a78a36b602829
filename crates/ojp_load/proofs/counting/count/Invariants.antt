use Rattle.std.proofs.Common.{◌*◌, ◌≤◌, List}
use Rattle.std.specs.Prelude.{take}
use Rattle.ojp_values.specs.Lists.{Each}
use Rattle.ojp_timetable.specs.Tables.{Timetable}
use Rattle.ojp_links_mem.specs.Memory.{links_of}
use Rattle.ojp_load.specs.Asking.{Counts}
use Rattle.ojp_load.specs.Ready.{IsGoodAsk, IsReady}
use Rattle.ojp_load.proofs.counting.count.Given as goal

abbrev pub invariant-loop-load : goal.invariant-loop-load
invariant-loop-load l =
    record {
      ready : (tables : List Timetable) → IsReady tables l.fn.book (links_of l.fn.links) → IsReady tables l.fn.book (links_of l.links);
      counts : (tables : List Timetable) → IsReady tables l.fn.book (links_of l.fn.links) → Each (IsGoodAsk tables) l.fn.asks
          → Counts tables (take l.load-index l.asks) l.summary.trips l.summary.seconds;
      few : l.summary.trips ≤ l.load-index;
      in_days : l.summary.seconds ≤ 86_400 * l.load-index;
    }
