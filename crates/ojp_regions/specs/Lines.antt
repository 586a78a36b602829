-- A line of a file of regions: what it says, and why it is refused below others.
use Rattle.std.specs.Prelude.{◌≡◌, ◌<◌, ◌≤◌, List, [], ◌∷◌, ◌++◌, length, map, IsTrue}
use Rattle.std.specs.Fmt.{decimal}
use Rattle.ojp_values.specs.Lists.{Among}
use Rattle.ojp_values.specs.Texts.{Text, is_code}
use Rattle.ojp_timetable.specs.Fields.{body, fields_of}
use Rattle.ojp_timetable.specs.declared.file.lines.TableReason.{TableReason}
use Rattle.ojp_timetable.specs.declared.file.lines.TableReason.TheVariants.{LineForm, Value, DoubledName, Limit}
use Rattle.ojp_regions.specs.declared.line.RegionLineRefused.{RegionLineRefused}
use Rattle.ojp_regions.specs.declared.line.RegionLineRefused.TheVariants.{Reason, NoMemory}
use Rattle.ojp_regions.specs.Hosts.{is_host, IsPort}
use Rattle.ojp_regions.specs.declared.line.RegionLine.{RegionLine}

-- the fields are the region's: its code, its host, and its port in decimal
pub record AreFields (code host port : Text) (region : RegionLine) : Type 0 where
  pub same_code : region.code ≡ code
  pub same_host : region.host ≡ host
  pub same_port : decimal region.port ≡ port
  pub well_code : IsTrue (is_code code)
  pub well_host : IsTrue (is_host host)
  pub well_port : IsPort region.port

-- the line has just these three fields
abbrev pub HasFields : Text → Text → Text → Text → Type 0
HasFields text code host port = fields_of (body text) ≡ code ∷ host ∷ port ∷ []

-- the line has three fields
abbrev pub HasThreeFields : Text → Type 0
HasThreeFields text = (code : Text) × (host : Text) × (port : Text) × HasFields text code host port

-- the line says the region: it has three fields, which are the region's
abbrev pub Says : Text → RegionLine → Type 0
Says text region = (code : Text) × (host : Text) × (port : Text) × HasFields text code host port × AreFields code host port region

-- the codes of the regions
abbrev pub codes_in : List RegionLine → List Text
codes_in regions = map (λ region. region.code) regions

-- why the line is refused below those of these regions, each reason where none before it holds
pub data IsFault (above : List RegionLine) (text : Text) : TableReason → Type 0 where
  -- it has not three fields
  form : (HasThreeFields text → ⊥) → IsFault above text LineForm
  -- its fields are no region's
  values : HasThreeFields text → ((region : RegionLine) → Says text region → ⊥) → IsFault above text Value
  -- its region has the code of one above
  doubled : (region : RegionLine) → Says text region → Among region.code (codes_in above) → IsFault above text DoubledName
  -- there are 32 above
  too_many : (region : RegionLine) → Says text region → (Among region.code (codes_in above) → ⊥) → 32 ≤ length above → IsFault above text Limit

-- the reason is that of the line; want of memory may come at any line
abbrev pub IsLineRefusal : List RegionLine → Text → RegionLineRefused → Type 0
IsLineRefusal above text (Reason reason) = IsFault above text reason
IsLineRefusal above text NoMemory = Unit {0}

-- the fields are no region's; want of memory may come at any
abbrev pub IsFieldsRefusal : Text → Text → Text → RegionLineRefused → Type 0
IsFieldsRefusal code host port (Reason reason) = (reason ≡ Value) × ((region : RegionLine) → AreFields code host port region → ⊥)
IsFieldsRefusal code host port NoMemory = Unit {0}

-- the region of the line stands behind those above: none of them has its code, and there are less than 32
pub record AddsLine (above : List RegionLine) (text : Text) (regions : List RegionLine) : Type 0 where
  pub region : RegionLine
  pub says : Says text region
  pub own : Among region.code (codes_in above) → ⊥
  pub room : length above < 32
  pub added : regions ≡ above ++ region ∷ []
