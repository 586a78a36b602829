use Rattle.ojp_timetable.proofs.FieldFacts.{left_joined}
use Rattle.ojp_timetable.proofs.file.fields.Fields.rest.Goals as goal

pub returns : goal.returns
returns c = left_joined c.self.inside.rest c.args.self.now c.self.view_is
