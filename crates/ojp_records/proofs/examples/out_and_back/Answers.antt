use Rattle.std.proofs.Common.{◌≡◌, ℕ, ◌+◌, ◌-◌, ◌≤◌, [], ◌∷◌, refl, inl, inr, lit≤, codes}
use Rattle.ojp_values.specs.Lists.{Each}
use Rattle.ojp_values.specs.Texts.{Text, same, text_lt, home}
use Rattle.ojp_timetable.specs.Runs.{day_long}
use Rattle.ojp_links.specs.Fits.{FitsResult}
use Rattle.ojp_exchange.specs.Book.{has_region, serves, is_declared, leads_out}
use Rattle.ojp_records.specs.Records.{is_told, is_failed}
use Rattle.ojp_records.specs.Starts.{arrivals, starts_after, asked_start, known_starts, best}
use Rattle.ojp_records.specs.Wanted.{improving_start, wanted_pairs, wanted}
use Rattle.ojp_records.specs.Ends.{failed_checks, failed_pairs, fault}
use Rattle.ojp_records.specs.Examples.{at, code_aa, code_bb, point_p, point_q, start_stop, by_ride, known, two_regions, to_aa, own_places, own_trip, out, back, OutAndBack}
use Rattle.ojp_records.specs.Pairs.{ends_towards, pairs_from}
use Rattle.ojp_records.specs.Places.{place_state, checks_in}
use Rattle.ojp_records.specs.Told.{ToldInTurn, EntryFits, IsRecord}
use Rattle.ojp_records.proofs.examples.out_and_back.Goals as goal

ride_fits : (region journey : Text) (o board : Text) (t departs : ℕ) (d : Text) (arrives : ℕ) → board ≡ o → t ≤ departs → departs ≤ arrives → departs + (arrives - departs) ≡ arrives → arrives ≤ t + day_long → FitsResult region o t d (by_ride region journey board departs d arrives)
ride_fits region journey o board t departs d arrives boards leaves rides total within =
    record {
      first = record { region = region; journey = journey; line = codes "L"; day = 19849; board = board; board_name = codes "a"; departs = departs; alight = d; alight_name = codes "b"; arrives = arrives };
      rest = [];
      totals = record { legs_are = refl; start = refl; duration = total; transfers = refl };
      of_region = refl;
      boards = boards;
      leaves = leaves;
      rides = rides;
      follow = tt;
      ends = (refl, refl);
      within = within;
    }

fits : Each (EntryFits two_regions to_aa) back
unfolding same text_lt home has_region serves is_declared leads_out ends_towards
fits = (
  (lit≤ tt, tt, tt),
  (
    (lit≤ tt, tt, tt),
    (
      (
        ride_fits code_aa (codes "J1") start_stop start_stop (at 8 55) (at 9 0) point_p (at 9 10) refl (lit≤ tt) (lit≤ tt) refl (lit≤ tt),
        (refl, (ride_fits code_aa (codes "J2") start_stop start_stop (at 8 55) (at 9 0) (codes "AA:z") (at 12 0) refl (lit≤ tt) (lit≤ tt) refl (lit≤ tt), tt)),
      ),
      (
        (ride_fits code_bb (codes "K1") point_p point_p (at 9 15) (at 9 20) point_q (at 9 40) refl (lit≤ tt) (lit≤ tt) refl (lit≤ tt), tt),
        ((refl, (ride_fits code_aa (codes "J3") point_q point_q (at 9 45) (at 9 50) (codes "AA:z") (at 10 10) refl (lit≤ tt) (lit≤ tt) refl (lit≤ tt), tt)), tt),
      ),
    ),
  ),
)

in_turn : ToldInTurn two_regions to_aa [] back
unfolding same text_lt home has_region serves is_declared leads_out is_told is_failed ends_towards arrivals starts_after asked_start known_starts best improving_start pairs_from place_state checks_in wanted_pairs wanted
in_turn = (
  record { before = []; since = []; split = refl; was_wanted = inl refl; untold = refl },
  (
    record { before = []; since = known code_aa start_stop ∷ []; split = refl; was_wanted = inr (inl refl); untold = refl },
    (
      record { before = own_places; since = []; split = refl; was_wanted = inl refl; untold = refl },
      (
        record { before = own_trip; since = []; split = refl; was_wanted = inl refl; untold = refl },
        (record { before = out; since = []; split = refl; was_wanted = inl refl; untold = refl }, tt),
      ),
    ),
  ),
)

told_well : IsRecord two_regions to_aa back
told_well = record { in_turn = in_turn; fits = fits }

computed : OutAndBack
unfolding same text_lt home has_region serves is_declared leads_out is_told is_failed ends_towards arrivals starts_after asked_start known_starts best improving_start pairs_from place_state checks_in wanted_pairs wanted failed_checks failed_pairs fault
computed = record { told_well = told_well; checks = refl; origin = refl; best_by_itself = refl; point = refl; return = refl; nothing_more = refl; best_arrival = refl; trip = refl }

pub returns : goal.returns
returns c = computed
