use Rattle.ojp_timetable.proofs.FormFacts.{forms_agree}
use Rattle.ojp_timetable.proofs.laws.forms_agree.Goals as goal

pub returns : goal.returns
returns c = forms_agree
