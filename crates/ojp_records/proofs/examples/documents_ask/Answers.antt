use Rattle.std.proofs.Common.{refl}
use Rattle.ojp_values.specs.Texts.{same, text_lt, home}
use Rattle.ojp_exchange.specs.Book.{has_region, serves, is_declared, leads_out}
use Rattle.ojp_records.specs.Records.{is_told, is_failed}
use Rattle.ojp_records.specs.Places.{checks_in, place_state}
use Rattle.ojp_records.specs.Pairs.{pairs_from, ends_towards}
use Rattle.ojp_records.specs.Starts.{arrivals, starts_after, asked_start, known_starts, best}
use Rattle.ojp_records.specs.Wanted.{improving_start, wanted_pairs, wanted}
use Rattle.ojp_records.specs.Ends.{failed_checks, failed_pairs, fault}
use Rattle.ojp_records.specs.LimitExamples.{DocumentsAsk}
use Rattle.ojp_records.proofs.examples.documents_ask.Goals as goal

computed : DocumentsAsk
unfolding same text_lt home has_region serves is_declared leads_out is_told is_failed checks_in place_state pairs_from ends_towards arrivals starts_after asked_start known_starts best improving_start wanted_pairs wanted failed_checks failed_pairs fault
computed = record { check = refl; reach = refl; from_point = refl; stranger = refl }

pub returns : goal.returns
returns c = computed
