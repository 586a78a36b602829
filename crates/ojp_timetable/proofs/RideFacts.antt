-- Rides go forward in time, end by the last moment, and call at stops of their region.
use Rattle.std.proofs.Common.{◌≡◌, ℕ, suc, zero, ◌<◌, ◌≤◌, List, [], ◌∷◌, Option, Some, None, sym, ◌∙◌, ap, subst, arith}
use Rattle.std.specs.List.{slice_get}
use Rattle.ojp_values.proofs.EachFacts.{among_at}
use Rattle.ojp_values.specs.Texts.{Text}
use Rattle.ojp_values.specs.declared.moments.TheConstants.{FIRST_DAY, LAST_DAY}
use Rattle.ojp_values.specs.declared.trips.Leg.{Leg}
use Rattle.ojp_timetable.specs.Tables.{Timetable, Call}
use Rattle.ojp_timetable.specs.Runs.{last_moment, moment, IsLeg, NotBefore, latest, NoneFalls, IsOffset, IsOfRegion, IsWellCall, IsWell}
use Rattle.ojp_timetable.specs.Journeys.{Standing, alighted, reached, AllFollow, HasTime, Follows, Leads}

-- where no time falls, the latest is not before
pub latest_rises : (t : ℕ) (o : Option ℕ) → NotBefore t o → t ≤ latest t o
latest_rises t None h = omega arith
latest_rises t (Some u) h = h

pub latest_at : (t u : ℕ) (o : Option ℕ) → o ≡ Some u → latest t o ≡ u
latest_at t u o e = ap (latest t) e

-- no arrival of the calls is before t
pub comes_later : (t : ℕ) (calls : List Call) (j : ℕ) (call : Call) (comes : ℕ) → NoneFalls t calls → slice_get calls j ≡ Some call → call.arrives ≡ Some comes → t ≤ comes
comes_later t [] j call comes falls at arrives = absurd (cc)
comes_later t (first ∷ calls) zero call comes falls at arrives =
    let same : first.arrives ≡ Some comes = cc in
    subst (NotBefore t) same falls.0
comes_later t (first ∷ calls) (suc j) call comes falls at arrives =
    let later : latest (latest t first.arrives) first.departs ≤ comes = comes_later _ calls j call comes falls.2 at arrives in
    let rises : t ≤ latest t first.arrives = latest_rises t first.arrives falls.0 in
    let again : latest t first.arrives ≤ latest (latest t first.arrives) first.departs = latest_rises (latest t first.arrives) first.departs falls.1 in
    omega arith

-- a later call's arrival is not before the departure
pub ride_forward :
    (t : ℕ) (calls : List Call) (i j : ℕ) (board alight : Call) (leaves comes : ℕ)
    → NoneFalls t calls → i < j → slice_get calls i ≡ Some board → slice_get calls j ≡ Some alight
    → board.departs ≡ Some leaves → alight.arrives ≡ Some comes → leaves ≤ comes
ride_forward t [] i j board alight leaves comes falls later at to departs arrives = absurd (cc)
ride_forward t (first ∷ calls) zero zero board alight leaves comes falls later at to departs arrives = absurd (omega arith)
ride_forward t (first ∷ calls) zero (suc j) board alight leaves comes falls later at to departs arrives =
    let same : first.departs ≡ Some leaves = cc in
    let seen : latest (latest t first.arrives) first.departs ≡ leaves = latest_at (latest t first.arrives) leaves first.departs same in
    let after : latest (latest t first.arrives) first.departs ≤ comes = comes_later _ calls j alight comes falls.2 to arrives in
    omega arith
ride_forward t (first ∷ calls) (suc i) zero board alight leaves comes falls later at to departs arrives = absurd (omega arith)
ride_forward t (first ∷ calls) (suc i) (suc j) board alight leaves comes falls later at to departs arrives =
    ride_forward _ calls i j board alight leaves comes falls.2 (omega arith) at to departs arrives

pub leg_region : (table : Timetable) (leg : Leg) → IsLeg table leg → leg.region ≡ table.region
leg_region table leg ride = ap (λ (it : Leg). it.region) ride.is

-- a moment grows with its offset
pub moment_forward : (table : Timetable) (day a b : ℕ) → a ≤ b → moment table day a ≤ moment table day b
unfolding moment
moment_forward table day a b h = omega arith

pub leg_forward : (table : Timetable) (leg : Leg) → IsWell table → IsLeg table leg → leg.departs ≤ leg.arrives
leg_forward table leg well ride =
    let offsets : ride.leaves ≤ ride.comes =
    ride_forward 0 ride.journey.calls ride.i ride.j ride.board ride.alight ride.leaves ride.comes (well.times ride.journey ride.of_table) ride.later ride.board_at ride.alight_at ride.leaves_at ride.comes_at in
    let moments : moment table ride.day ride.leaves ≤ moment table ride.day ride.comes = moment_forward table ride.day ride.leaves ride.comes offsets in
    let departs : leg.departs ≡ moment table ride.day ride.leaves = ap (λ (it : Leg). it.departs) ride.is in
    let arrives : leg.arrives ≡ moment table ride.day ride.comes = ap (λ (it : Leg). it.arrives) ride.is in
    omega arith

moment_bound : (table : Timetable) (day offset : ℕ) → IsWell table → FIRST_DAY ≤ day → day ≤ LAST_DAY → offset ≤ 129600 → moment table day offset ≤ last_moment
unfolding moment
moment_bound table day offset well low high h = omega (arith, well.noons_high day low high)

alight_call : (table : Timetable) (leg : Leg) → IsWell table → (ride : IsLeg table leg) → IsWellCall table ride.alight
alight_call table leg well ride =
    well.calls ride.journey ride.of_table ride.alight (among_at ride.journey.calls ride.j ride.alight ride.alight_at)

pub leg_bound : (table : Timetable) (leg : Leg) → IsWell table → IsLeg table leg → leg.arrives ≤ last_moment
leg_bound table leg well ride =
    let offset : ride.comes ≤ 129600 = subst IsOffset ride.comes_at (alight_call table leg well ride).arrives in
    let bound : moment table ride.day ride.comes ≤ last_moment = moment_bound table ride.day ride.comes well ride.runs.low ride.runs.high offset in
    let arrives : leg.arrives ≡ moment table ride.day ride.comes = ap (λ (it : Leg). it.arrives) ride.is in
    omega arith

pub leg_alights : (table : Timetable) (leg : Leg) → IsWell table → IsLeg table leg → IsOfRegion table leg.alight
leg_alights table leg well ride =
    let stop : leg.alight ≡ ride.alight.stop = ap (λ (it : Leg). it.alight) ride.is in
    subst (IsOfRegion table) (sym stop) (alight_call table leg well ride).of_region

pub leg_boards : (table : Timetable) (leg : Leg) → IsWell table → IsLeg table leg → IsOfRegion table leg.board
leg_boards table leg well ride =
    let call : IsWellCall table ride.board =
    well.calls ride.journey ride.of_table ride.board (among_at ride.journey.calls ride.i ride.board ride.board_at) in
    let stop : leg.board ≡ ride.board.stop = ap (λ (it : Leg). it.board) ride.is in
    subst (IsOfRegion table) (sym stop) call.of_region

pub follow_forward : (table : Timetable) (at : Standing) (legs : List Leg) → IsWell table → AllFollow (Follows table) at legs → at.moment ≤ (reached at legs).moment
follow_forward table at [] well follow = omega arith
follow_forward table at (leg ∷ legs) well follow =
    let later : leg.arrives ≤ (reached (alighted leg) legs).moment = follow_forward table (alighted leg) legs well follow.1 in
    let ride : leg.departs ≤ leg.arrives = leg_forward table leg well follow.0.0 in
    let time : HasTime table at leg = follow.0.2 in
    omega (arith, time.2)

pub leads_forward : (table : Timetable) (o : Text) (t : ℕ) (legs : List Leg) (d : Text) (a : ℕ) → IsWell table → Leads table o t legs d a → (t ≤ a) × (t ≤ last_moment)
leads_forward table o t [] d a well leads = absurd leads
leads_forward table o t (leg ∷ legs) d a well leads =
    let later : leg.arrives ≤ (reached (alighted leg) legs).moment = follow_forward table (alighted leg) legs well leads.3 in
    let ride : leg.departs ≤ leg.arrives = leg_forward table leg well leads.0 in
    let bound : leg.arrives ≤ last_moment = leg_bound table leg well leads.0 in
    let at : (reached (alighted leg) legs).moment ≡ a = leads.4.1 in
    let leaves : t ≤ leg.departs = leads.2 in
    (omega arith, omega arith)

-- where rides of the region lead is a stop of it
reached_stop : (table : Timetable) (leg : Leg) (legs : List Leg) → IsWell table → IsLeg table leg → AllFollow (Follows table) (alighted leg) legs → IsOfRegion table (reached (alighted leg) legs).stop
reached_stop table leg [] well ride follow = leg_alights table leg well ride
reached_stop table leg (next ∷ legs) well ride follow = reached_stop table next legs well follow.0.0 follow.1

pub leads_to_stop : (table : Timetable) (o : Text) (t : ℕ) (legs : List Leg) (d : Text) (a : ℕ) → IsWell table → Leads table o t legs d a → IsOfRegion table d
leads_to_stop table o t [] d a well leads = absurd leads
leads_to_stop table o t (leg ∷ legs) d a well leads = subst (IsOfRegion table) leads.4.0 (reached_stop table leg legs well leads.0 leads.3)

-- waiting is always allowed
pub leads_earlier : (table : Timetable) (o : Text) (s t : ℕ) (legs : List Leg) (d : Text) (a : ℕ) → s ≤ t → Leads table o t legs d a → Leads table o s legs d a
leads_earlier table o s t [] d a h leads = absurd leads
leads_earlier table o s t (leg ∷ legs) d a h leads = (leads.0, leads.1, omega (arith, leads.2), leads.3, leads.4)

reached_region : (table : Timetable) (leg : Leg) (legs : List Leg) → IsLeg table leg → AllFollow (Follows table) (alighted leg) legs → (reached (alighted leg) legs).region ≡ table.region
reached_region table leg [] ride follow = leg_region table leg ride
reached_region table leg (next ∷ legs) ride follow = reached_region table next legs follow.0.0 follow.1

-- where one stands, by its parts
pub stands : (at : Standing) (region stop : Text) (moment : ℕ) → at.region ≡ region → at.stop ≡ stop → at.moment ≡ moment → at ≡ record { region = region; stop = stop; moment = moment }
stands at region stop moment r s m =
    ap (λ (x : Text). record { region = x; stop = at.stop; moment = at.moment }) r
    ∙ (ap (λ (x : Text). record { region = region; stop = x; moment = at.moment }) s ∙ ap (λ (x : ℕ). record { region = region; stop = stop; moment = x }) m)

-- where the legs of a journey lead
pub leads_reach : (table : Timetable) (o : Text) (t : ℕ) (legs : List Leg) (d : Text) (a : ℕ) (from : Standing) → Leads table o t legs d a → reached from legs ≡ record { region = table.region; stop = d; moment = a }
leads_reach table o t [] d a from leads = absurd leads
leads_reach table o t (leg ∷ legs) d a from leads =
    stands (reached (alighted leg) legs) table.region d a (reached_region table leg legs leads.0 leads.3) leads.4.0 leads.4.1
