use Rattle.std.proofs.Common.{subst}
use Rattle.ojp_zones.specs.Parts.{Text}
use Rattle.ojp_calendars.specs.Rules.{NoneFits}
use Rattle.ojp_calendars.proofs.zone_file.zone_of_file.Goals as goal

pub returns-in-Ok-Some-clause-zoned : goal.returns-in-Ok-Some-clause-zoned
returns-in-Ok-Some-clause-zoned c = record {
  table = c.in-Ok.table;
  read = c.in-Ok.ensures.value;
  fits = rw c.in-Ok-Some.field-0-is at c.in-Ok-Some.ensures.zoned;
}

pub returns-in-Ok-None-clause-cause : goal.returns-in-Ok-None-clause-cause
returns-in-Ok-None-clause-cause c = record {
  table = c.in-Ok.table;
  read = c.in-Ok.ensures.value;
  none = subst (λ (line : Text). NoneFits c.in-Ok.table line c.args.first c.args.last) c.last_line.ensures (rw c.in-Ok-None.field-0-is at c.in-Ok-None.ensures.none);
}
