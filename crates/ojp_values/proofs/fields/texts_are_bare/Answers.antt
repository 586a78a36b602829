use Rattle.ojp_values.proofs.FieldTexts.{code_is_text, stop_ref_is_text, label_is_text, name_is_text, moment_is_text, day_is_text, duration_is_text, decimal_is_text}
use Rattle.ojp_values.proofs.fields.texts_are_bare.Goals as goal

pub returns-clause-code : goal.returns-clause-code
returns-clause-code c = code_is_text

pub returns-clause-stop_ref : goal.returns-clause-stop_ref
returns-clause-stop_ref c = stop_ref_is_text

pub returns-clause-label : goal.returns-clause-label
returns-clause-label c = label_is_text

pub returns-clause-name : goal.returns-clause-name
returns-clause-name c = name_is_text

pub returns-clause-moment : goal.returns-clause-moment
returns-clause-moment c = moment_is_text

pub returns-clause-day : goal.returns-clause-day
returns-clause-day c = day_is_text

pub returns-clause-duration : goal.returns-clause-duration
returns-clause-duration c = duration_is_text

pub returns-clause-number : goal.returns-clause-number
returns-clause-number c = decimal_is_text
