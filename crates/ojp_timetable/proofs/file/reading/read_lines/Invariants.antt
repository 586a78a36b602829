use Rattle.std.proofs.Common.{◌≡◌, ◌≤◌, ◌+◌, length, take, drop}
use Rattle.ojp_timetable.specs.TableText.{ArePassed, above_of, lines_of}
use Rattle.ojp_timetable.proofs.file.reading.read_lines.Given as goal

abbrev pub invariant-loop-rest : goal.invariant-loop-rest
invariant-loop-rest l =
    record {
      left : drop l.above.lines (lines_of l.bytes) ≡ lines_of l.rest;
      made : l.above ≡ above_of (take l.above.lines (lines_of l.bytes));
      passed : ArePassed (lines_of l.bytes) l.above.lines;
      room : l.above.lines + length l.rest ≤ length l.bytes;
      within : l.above.lines ≤ length (lines_of l.bytes);
    }

abbrev pub decreases-loop-rest : goal.decreases-loop-rest
decreases-loop-rest l = length l.rest
