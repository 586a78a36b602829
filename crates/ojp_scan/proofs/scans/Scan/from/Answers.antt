use Rattle.std.proofs.Common.{◌∙◌, ap, subst, sym, arith}
use Rattle.std.specs.Prelude.{unwrap_or}
use Rattle.ojp_scan.specs.Days.{CoverWindow}
use Rattle.ojp_scan.specs.Networks.{place_number, IsNetworkFor}
use Rattle.ojp_scan.proofs.RideFacts.{are-days-of}
use Rattle.ojp_scan.proofs.scans.Scan.from.Goals as goal

pub from-requires-clause-days : goal.from-requires-clause-days
from-requires-clause-days c = are-days-of c.args.self.now.sweep.net c.args.table.now c.set_days.new.days c.first_day-self.result c.requires.made.well c.requires.made.network c.set_days.ensures

pub returns : goal.returns
returns c =
    let made = c.requires.made in
    let table = c.args.table.now in
    record {
      made = record {
        well = made.well;
        numbers = made.numbers;
        network = subst (λ net. IsNetworkFor net table) (sym c.from.ensures.net) made.network;
        sweep = c.from.ensures.made;
        days = record { bases = c.set_days.ensures.bases.length_is; running = c.set_days.ensures.running.length_is };
      };
      origin_is = c.unwrap_or.ensures ∙ (ap (λ o. unwrap_or o c.places.result) c.place_of.ensures ∙ ap (λ n. unwrap_or (place_number table c.args.origin) n) c.places.ensures);
      start_is = c.seconds-start.ensures.value;
      in_range = omega (arith, c.seconds-start.ensures.bound, c.seconds-start.ensures.value);
      window = subst (λ n. CoverWindow c.first_day-self.result n) c.seconds-start.ensures.value c.first_day-self.ensures.window;
      days = c.set_days.ensures;
      found = c.from.ensures.found;
    }
