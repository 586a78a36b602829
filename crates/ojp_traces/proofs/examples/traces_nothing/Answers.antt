use Rattle.std.proofs.Common.{refl}
use Rattle.std.specs.Fmt.{digits}
use Rattle.ojp_values.specs.Texts.{same, text_lt, home}
use Rattle.ojp_values.specs.Dates.{date_of, date_in_year, year_place, month_place}
use Rattle.ojp_exchange.specs.Book.{has_region, serves, is_declared, leads_out}
use Rattle.ojp_records.specs.Records.{is_told, is_failed}
use Rattle.ojp_records.specs.Pairs.{ends_towards, pairs_from}
use Rattle.ojp_records.specs.Places.{place_state, checks_in}
use Rattle.ojp_records.specs.Starts.{arrivals, starts_after, asked_start, known_starts, best}
use Rattle.ojp_records.specs.Wanted.{improving_start, wanted_pairs, wanted}
use Rattle.ojp_traces.specs.Traces.{told_in, turned}
use Rattle.ojp_traces.specs.TraceExamples.{TracesNothing}
use Rattle.ojp_traces.proofs.examples.traces_nothing.Goals as goal

computed : TracesNothing
unfolding same text_lt home has_region serves is_declared leads_out is_told is_failed ends_towards pairs_from place_state checks_in arrivals starts_after asked_start known_starts best improving_start wanted_pairs wanted told_in turned digits date_of date_in_year year_place month_place
computed = refl

pub returns : goal.returns
returns c = computed
