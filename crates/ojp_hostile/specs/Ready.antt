-- Gateways that are ready for a connection.
use Rattle.std.specs.Prelude.{◌≡◌, List, map}
use Rattle.ojp_values.specs.Texts.{Text}
use Rattle.ojp_timetable.specs.Tables.{Timetable}
use Rattle.ojp_exchange.specs.Book.{Book}
use Rattle.ojp_links.specs.Seen.{AreDistinct, NoneLive, View, codes_of, region_of_table}
use Rattle.ojp_turns.specs.Held.{HasRegions}

-- the book's regions are the links' codes, and no ask is live
pub record IsReady (book : Book) (v : View) : Type 0 where
  pub regions : HasRegions book v
  pub none_live : NoneLive v

-- the timetables are of the regions with these codes, which differ
pub record AreOfRegions (codes : List Text) (tables : List Timetable) : Type 0 where
  pub are : map region_of_table tables ≡ codes
  pub distinct : AreDistinct codes

-- the regions have these codes, and no ask is live
pub record HasCodes (codes : List Text) (v : View) : Type 0 where
  pub are : codes_of v.fixed ≡ codes
  pub idle : NoneLive v
