-- As a record grows, starts and the best arrival only fall, and what is no longer wanted is never wanted again.
use Rattle.std.proofs.Common.{◌≡◌, ◌≢◌, ℕ, ◌+◌, ◌<◌, ◌≤◌, true, false, ◌&&◌, List, ◌++◌, Option, Some, None, nat_lt, nat_le, refl, sym, ◌∙◌, ap, subst, arith}
use Rattle.std.proofs.lemmas.Bool.{and_parts, and_from, ltb-true, lt-ltb}
use Rattle.ojp_values.specs.Lists.{Among, least}
use Rattle.ojp_values.specs.Texts.{Text}
use Rattle.ojp_values.specs.declared.asks.TripAsk.{TripAsk}
use Rattle.ojp_exchange.specs.Book.{Book}
use Rattle.ojp_timetable.specs.Runs.{day_long, last_moment}
use Rattle.ojp_records.specs.declared.queries.Query.{Query}
use Rattle.ojp_records.specs.declared.queries.Query.TheVariants.{Check, Reach}
use Rattle.ojp_records.specs.declared.queries.Entry.{Entry}
use Rattle.ojp_records.specs.Records.{is_told}
use Rattle.ojp_records.specs.Starts.{known_starts, best}
use Rattle.ojp_records.specs.Wanted.{is_before, can_improve, reach_at, wanted_pairs, wanted, Improves, PairWanted}
use Rattle.ojp_values.proofs.ListFacts.{LeastBelow, least_below, least_among}
use Rattle.ojp_records.proofs.StartFacts.{arrivals_more, known_starts_more, BestBelow, best_below, BestIs, best_is}
use Rattle.ojp_records.proofs.RecordFacts.{untold_before}
use Rattle.ojp_records.proofs.WantedFacts.{pair_wanted, is_pair_wanted, WantedBy, wanted_by, is_wanted_by, check_is}
use Rattle.ojp_records.specs.Places.{Known, Unknown, Unheard, place_state, checks_in, check}
use Rattle.ojp_records.specs.Laws.{StartsFall, BestFalls, NeverAgain}
use Rattle.ojp_records.proofs.PlaceFacts.{OriginCheck, TargetCheck, AtPair, state_more, state_before}

pub starts_fall : StartsFall
starts_fall book ask told more stop region start e =
    let listed : Among start (known_starts book ask told stop region) = least_among start _ e in
    let below : LeastBelow start (known_starts book ask (told ++ more) stop region) = least_below start _ (known_starts_more book ask told more stop region start listed) in
    (below.value, below.is, below.below)

pub best_falls : BestFalls
best_falls book ask told more value e =
    let it : BestIs book ask told value = best_is book ask told value e in
    let below : BestBelow book ask (told ++ more) it.arrival.moment = best_below book ask (told ++ more) it.arrival (arrivals_more book ask told more it.arrival it.heard) it.at in
    (below.value, below.is, subst (λ (n : ℕ). below.value ≤ n) (sym it.is) below.below)

before_later : (start : ℕ) (earlier later : Option ℕ) → ((value : ℕ) → earlier ≡ Some value → (now : ℕ) × (later ≡ Some now) × (now ≤ value)) → is_before start later ≡ true → is_before start earlier ≡ true
before_later start None later falls e = refl
before_later start (Some value) later falls e =
    let now : (n : ℕ) × (later ≡ Some n) × (n ≤ value) = falls value refl in
    let before : nat_lt start now.0 ≡ true = subst (λ (o : Option ℕ). is_before start o ≡ true) now.1 e in
    let less : start < now.0 = ltb-true start now.0 before in
    let below : now.0 ≤ value = now.2 in
    lt-ltb start value (omega arith)

-- a start that can improve later can improve now
pub can_before : (book : Book) (ask : TripAsk) (told more : List Entry) (start : ℕ) → can_improve ask (best book ask (told ++ more)) start ≡ true → can_improve ask (best book ask told) start ≡ true
can_before book ask told more start e =
    let parts : (is_before start (best book ask (told ++ more)) ≡ true) × ((nat_le start (ask.start + day_long) && nat_le start last_moment) ≡ true) = and_parts _ _ e in
    and_from _ _ (before_later start (best book ask told) (best book ask (told ++ more)) (best_falls book ask told more) parts.0) parts.1

-- least starts that only fall and are the same at both ends are the same between
least_between : (book : Book) (ask : TripAsk) (told more rest : List Entry) (stop region : Text) (start : ℕ) → least (known_starts book ask told stop region) ≡ Some start → least (known_starts book ask ((told ++ more) ++ rest) stop region) ≡ Some start → least (known_starts book ask (told ++ more) stop region) ≡ Some start
least_between book ask told more rest stop region start first last =
    let middle : (now : ℕ) × (least (known_starts book ask (told ++ more) stop region) ≡ Some now) × (now ≤ start) = starts_fall book ask told more stop region start first in
    let after : (now : ℕ) × (least (known_starts book ask ((told ++ more) ++ rest) stop region) ≡ Some now) × (now ≤ middle.0) = starts_fall book ask (told ++ more) rest stop region middle.0 middle.1 in
    let same_last : Some after.0 ≡ Some start = sym after.1 ∙ last in
    let end : after.0 ≡ start = cc in
    let low : middle.0 ≤ start = middle.2 in
    let high : after.0 ≤ middle.0 = after.2 in
    let same : middle.0 ≡ start = omega arith in
    middle.1 ∙ ap Some same

known_heard : Known ≢ Unheard
known_heard e = cc

pair_again :
    (book : Book) (ask : TripAsk) (told more rest : List Entry) (query : Query)
    → place_state book (checks_in told) ask.origin ≡ Known → place_state book (checks_in told) ask.target ≡ Known
    → PairWanted book ask told query → PairWanted book ask ((told ++ more) ++ rest) query → Among query (wanted book ask (told ++ more))
pair_again book ask told more rest query o t first last =
    let queries : Reach first.pair.region first.pair.stop first.start ≡ Reach last.pair.region last.pair.stop last.start = sym first.is ∙ last.is in
    let regions : first.pair.region ≡ last.pair.region = cc in
    let stops : first.pair.stop ≡ last.pair.stop = cc in
    let starts : first.start ≡ last.start = cc in
    let last_least : least (known_starts book ask ((told ++ more) ++ rest) first.pair.stop first.pair.region) ≡ Some first.start =
    subst (λ (r : Text). least (known_starts book ask ((told ++ more) ++ rest) first.pair.stop r) ≡ Some first.start) (sym regions)
    (subst (λ (s : Text). least (known_starts book ask ((told ++ more) ++ rest) s last.pair.region) ≡ Some first.start) (sym stops) (last.improves.is_least ∙ ap Some (sym starts))) in
    let may_last : can_improve ask (best book ask ((told ++ more) ++ rest)) first.start ≡ true =
    subst (λ (n : ℕ). can_improve ask (best book ask ((told ++ more) ++ rest)) n ≡ true) (sym starts) last.improves.can in
    let improves : Improves book ask (told ++ more) first.pair first.start =
    record {
      target = first.improves.target;
      has_target = first.improves.has_target;
      is_least = least_between book ask told more rest first.pair.stop first.pair.region first.start first.improves.is_least last_least;
      can = can_before book ask (told ++ more) rest first.start may_last;
    } in
    let untold : is_told (told ++ more) (reach_at first.pair first.start) ≡ false =
    subst (λ (q : Query). is_told (told ++ more) q ≡ false) first.is (untold_before (told ++ more) rest query last.untold) in
    let still : Among (reach_at first.pair first.start) (wanted_pairs book ask (told ++ more)) =
    is_pair_wanted book ask (told ++ more) first.pair first.start first.listed improves untold in
    is_wanted_by book ask (told ++ more) query
    (AtPair (state_more book told more ask.origin Known known_heard o) (state_more book told more ask.target Known known_heard t)
    (subst (λ (q : Query). Among q (wanted_pairs book ask (told ++ more))) (sym first.is) still))

no_check : (book : Book) (ask : TripAsk) (told : List Entry) (stop : Text) (query : Query) → Among query (check stop) → PairWanted book ask told query → ⊥
no_check book ask told stop query h it =
    let is : (region : Text) × (_ ≡ Some region) × (query ≡ Check region stop) = check_is stop query h in
    let both : Check is.0 stop ≡ Reach it.pair.region it.pair.stop it.start = sym is.2 ∙ it.is in
    cc

pub never_again : NeverAgain
never_again book ask told more rest query first last = go (wanted_by book ask told query first) (wanted_by book ask ((told ++ more) ++ rest) query last)
  where
    go : WantedBy book ask told query → WantedBy book ask ((told ++ more) ++ rest) query → Among query (wanted book ask (told ++ more))
    go before (OriginCheck o h) = is_wanted_by book ask (told ++ more) query (OriginCheck (state_before book (told ++ more) rest ask.origin o) h)
    go before (TargetCheck known t h) =
        is_wanted_by book ask (told ++ more) query
        (TargetCheck (λ e. known (state_more book (told ++ more) rest ask.origin Unknown (λ same. let no_state : Unknown ≡ Unheard = same in cc) e)) (state_before book (told ++ more) rest ask.target t) h)
    go (AtPair o t h) (AtPair o' t' h') =
        pair_again book ask told more rest query o t (pair_wanted book ask told query h) (pair_wanted book ask ((told ++ more) ++ rest) query h')
    go (OriginCheck o h) (AtPair o' t' h') = absurd (no_check book ask ((told ++ more) ++ rest) ask.origin query h (pair_wanted book ask ((told ++ more) ++ rest) query h'))
    go (TargetCheck known t h) (AtPair o' t' h') = absurd (no_check book ask ((told ++ more) ++ rest) ask.target query h (pair_wanted book ask ((told ++ more) ++ rest) query h'))
