use Rattle.std.proofs.Common.{refl}
use Rattle.ojp_values.specs.Texts.{same, text_lt, home}
use Rattle.ojp_exchange.specs.Book.{has_region, serves, is_declared, leads_out}
use Rattle.ojp_records.specs.Records.{is_told, is_failed}
use Rattle.ojp_records.specs.Starts.{arrivals, starts_after, asked_start, known_starts, best}
use Rattle.ojp_records.specs.Wanted.{improving_start, wanted_pairs, wanted}
use Rattle.ojp_records.specs.Ends.{failed_checks, failed_pairs, fault}
use Rattle.ojp_records.specs.Examples.{FailureIsSuperseded}
use Rattle.ojp_records.specs.Pairs.{ends_towards, pairs_from}
use Rattle.ojp_records.specs.Places.{place_state, checks_in}
use Rattle.ojp_records.proofs.examples.failure_is_superseded.Goals as goal

computed : FailureIsSuperseded
unfolding same text_lt home has_region serves is_declared leads_out is_told is_failed ends_towards arrivals starts_after asked_start known_starts best improving_start pairs_from place_state checks_in wanted_pairs wanted failed_checks failed_pairs fault
computed = record { points = refl; failed = refl; stands_then = refl; again = refl; nothing_more = refl; best_arrival = refl; trip = refl; nothing_more_either = refl; no_arrival = refl; stands = refl }

pub returns : goal.returns
returns c = computed
