-- Small files of regions, and what the definitions say of them.
use Rattle.std.specs.Prelude.{[], ◌∷◌, codes}
use Rattle.ojp_timetable.specs.declared.file.lines.TableReason.TheVariants.{LineForm, Value, DoubledName}
use Rattle.ojp_regions.specs.RegionsText.{IsListRefused, IsText}
use Rattle.ojp_regions.specs.declared.line.RegionLine.{RegionLine}

abbrev pub in_aa : RegionLine
in_aa = record { code = codes "AA"; host = codes "127.0.0.1"; port = 9001 }

abbrev pub in_bb : RegionLine
in_bb = record { code = codes "BB"; host = codes "b.example-2.org"; port = 65535 }

-- one line with its line feed, and two of which the last lacks it
pub record RegionsAreSaid : Type 0 where
  pub one : IsText (codes "AA 127.0.0.1 9001\n") (in_aa ∷ [])
  pub two : IsText (codes "AA 127.0.0.1 9001\nBB b.example-2.org 65535") (in_aa ∷ in_bb ∷ [])

-- a file of no line, an empty line, two fields, four; an underscore in a host, a port past the last, a port with a leading zero; a
-- line that stands twice
pub record LinesAreExact : Type 0 where
  pub none : IsListRefused [] 1 LineForm
  pub empty : IsListRefused (codes "\n") 1 LineForm
  pub two_fields : IsListRefused (codes "AA 127.0.0.1 9001\nBB 9002\n") 2 LineForm
  pub four_fields : IsListRefused (codes "AA 127.0.0.1 9001 \n") 1 LineForm
  pub host : IsListRefused (codes "AA a_b 9001\n") 1 Value
  pub port : IsListRefused (codes "AA a 65536\n") 1 Value
  pub zeros : IsListRefused (codes "AA a 09001\n") 1 Value
  pub doubled : IsListRefused (codes "AA 127.0.0.1 9001\nAA 127.0.0.1 9001\n") 2 DoubledName
