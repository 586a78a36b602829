use Rattle.ojp_values.proofs.Escapes.{escaped_injective}
use Rattle.ojp_values.proofs.Calendar.{day_text_injective}
use Rattle.ojp_values.proofs.FieldTexts.{moment_text_injective, duration_text_injective, number_text_injective}
use Rattle.ojp_values.proofs.fields.texts_spell_one_value.Goals as goal

pub returns-clause-name : goal.returns-clause-name
returns-clause-name c = escaped_injective

pub returns-clause-moment : goal.returns-clause-moment
returns-clause-moment c = moment_text_injective

pub returns-clause-day : goal.returns-clause-day
returns-clause-day c = day_text_injective

pub returns-clause-duration : goal.returns-clause-duration
returns-clause-duration c = duration_text_injective

pub returns-clause-number : goal.returns-clause-number
returns-clause-number c = number_text_injective
