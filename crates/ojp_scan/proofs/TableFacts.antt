-- What a well timetable says of its calls: they go forward, within the days around.
use Rattle.std.proofs.Common.{◌≡◌, ℕ, suc, zero, ◌+◌, ◌<◌, ◌≤◌, List, [], ◌∷◌, Option, Some, None, length, sym, ap, subst, refl, arith, slice_get, ◌∙◌, true≢false}
use Rattle.std.specs.Prelude.{IsSome}
use Rattle.std.proofs.lemmas.Option.{none-some, same_Some}
use Rattle.ojp_timetable.specs.Tables.{Timetable, Journey}
use Rattle.ojp_timetable.specs.declared.calls.Call.{Call}
use Rattle.ojp_timetable.specs.Runs.{NotBefore, latest, NoneFalls, GoToEnd, AreWhole, IsOffset, IsWell, IsWellCall}
use Rattle.ojp_values.proofs.EachFacts.{among_at, read_once}
use Rattle.ojp_timetable.proofs.RideFacts.{latest_at, latest_rises}

NotBefore-at : (t u : ℕ) (o : Option ℕ) → o ≡ Some u → NotBefore t o → t ≤ u
NotBefore-at t u None e h = absurd (none-some u e)
NotBefore-at t u (Some v) e h = subst (λ w. t ≤ w) (same_Some v u e) h

-- no departure of the calls is before t
departs-late : (t : ℕ) (calls : List Call) (k : ℕ) (call : Call) (u : ℕ) → NoneFalls t calls → slice_get calls k ≡ Some call → call.departs ≡ Some u → t ≤ u
departs-late t [] k call u falls e h = absurd (none-some call e)
departs-late t (c ∷ cs) zero call u falls e h =
    let first = latest_rises t c.arrives falls.0 in
    let second = NotBefore-at (latest t c.arrives) u c.departs (ap (λ (d : Call). d.departs) (same_Some c call e) ∙ h) falls.1 in
    omega arith
departs-late t (c ∷ cs) (suc k) call u falls e h =
    let first = latest_rises t c.arrives falls.0 in
    let second = latest_rises (latest t c.arrives) c.departs falls.1 in
    let rest = departs-late (latest (latest t c.arrives) c.departs) cs k call u falls.2 e h in
    omega arith

IsOffset-at : (o : Option ℕ) (u : ℕ) → o ≡ Some u → IsOffset o → u ≤ 129600
IsOffset-at None u e h = absurd (none-some u e)
IsOffset-at (Some v) u e h = subst (λ w. w ≤ 129600) (same_Some v u e) h

-- the call of a well table is well
pub call-well : (table : Timetable) → IsWell table → (j p : ℕ) (journey : Journey) (call : Call) → slice_get table.journeys j ≡ Some journey → slice_get journey.calls p ≡ Some call → IsWellCall table call
call-well table well j p journey call a b =
    well.calls journey (among_at table.journeys j journey a) call (among_at journey.calls p call b)

pub departs-offset : (table : Timetable) → IsWell table → (j p : ℕ) (journey : Journey) (call : Call) (u : ℕ) → slice_get table.journeys j ≡ Some journey → slice_get journey.calls p ≡ Some call → call.departs ≡ Some u → u ≤ 129600
departs-offset table well j p journey call u a b e = IsOffset-at call.departs u e (call-well table well j p journey call a b).departs

pub arrives-offset : (table : Timetable) → IsWell table → (j p : ℕ) (journey : Journey) (call : Call) (u : ℕ) → slice_get table.journeys j ≡ Some journey → slice_get journey.calls p ≡ Some call → call.arrives ≡ Some u → u ≤ 129600
arrives-offset table well j p journey call u a b e = IsOffset-at call.arrives u e (call-well table well j p journey call a b).arrives

-- two reads of one call give one call
pub one-call : (table : Timetable) (j p : ℕ) (x y : Journey) (a b : Call) → slice_get table.journeys j ≡ Some x → slice_get table.journeys j ≡ Some y → slice_get x.calls p ≡ Some a → slice_get y.calls p ≡ Some b → a ≡ b
one-call table j p x y a b hx hy ha hb =
    let e = read_once table.journeys j j x y refl hx hy in
    read_once x.calls p p a b refl ha (ap (λ (z : Journey). slice_get z.calls p) e ∙ hb)

some-read : (o : Option ℕ) → IsSome o → (u : ℕ) × (o ≡ Some u)
some-read None h = absurd (true≢false (sym h))
some-read (Some u) h = (u, refl)

-- the hop from the call at the position to the next
pub record IsHopOf (calls : List Call) (p : ℕ) : Type 0 where
  pub board : Call
  pub alight : Call
  pub leaves : ℕ
  pub comes : ℕ
  pub board_at : slice_get calls p ≡ Some board
  pub alight_at : slice_get calls (p + 1) ≡ Some alight
  pub leaves_at : board.departs ≡ Some leaves
  pub comes_at : alight.arrives ≡ Some comes

goes-to-next : (call : Call) (calls : List Call) (p : ℕ) → IsSome call.departs → GoToEnd calls → p < length calls → IsHopOf (call ∷ calls) p
goes-to-next call [] p departs goes h = absurd goes
goes-to-next call (next ∷ []) zero departs goes h =
    let l = some-read call.departs departs in
    let c = some-read next.arrives goes.0 in
    record { board = call; alight = next; leaves = l.0; comes = c.0; board_at = refl; alight_at = refl; leaves_at = l.1; comes_at = c.1 }
goes-to-next call (next ∷ []) (suc p) departs goes h = absurd (omega arith)
goes-to-next call (next ∷ more ∷ calls) zero departs goes h =
    let l = some-read call.departs departs in
    let c = some-read next.arrives goes.0 in
    record { board = call; alight = next; leaves = l.0; comes = c.0; board_at = refl; alight_at = refl; leaves_at = l.1; comes_at = c.1 }
goes-to-next call (next ∷ more ∷ calls) (suc p) departs goes h =
    let r = goes-to-next next (more ∷ calls) p goes.1 goes.2 (omega arith) in
    record { board = r.board; alight = r.alight; leaves = r.leaves; comes = r.comes; board_at = r.board_at; alight_at = (let e : suc p + 1 ≡ suc (p + 1) = omega arith in ap (λ n. slice_get (call ∷ next ∷ more ∷ calls) n) e ∙ r.alight_at); leaves_at = r.leaves_at; comes_at = r.comes_at }

-- each call of a whole journey but the last departs, and the next arrives
pub hop-of-calls : (calls : List Call) (p : ℕ) → AreWhole calls → p + 1 < length calls → IsHopOf calls p
hop-of-calls [] p whole h = absurd whole
hop-of-calls (call ∷ calls) p whole h = goes-to-next call calls p whole.1 whole.2 (omega arith)

-- a whole journey has two calls at least
pub two-calls : (calls : List Call) → AreWhole calls → 2 ≤ length calls
two-calls [] whole = absurd whole
two-calls (call ∷ []) whole = absurd whole.2
two-calls (call ∷ next ∷ calls) whole = omega arith

-- the later of two calls departs no earlier
pub departs-forward : (t : ℕ) (calls : List Call) (i j : ℕ) (from to : Call) (u v : ℕ) → NoneFalls t calls → i ≤ j
    → slice_get calls i ≡ Some from → slice_get calls j ≡ Some to → from.departs ≡ Some u → to.departs ≡ Some v → u ≤ v
departs-forward t [] i j from to u v falls le a b d e = absurd (none-some from a)
departs-forward t (c ∷ cs) zero zero from to u v falls le a b d e =
    let same = same_Some u v (sym d ∙ (ap (λ (x : Call). x.departs) (same_Some from to (sym a ∙ b)) ∙ e)) in omega arith
departs-forward t (c ∷ cs) (suc i) zero from to u v falls le a b d e = absurd (omega arith)
departs-forward t (c ∷ cs) zero (suc j) from to u v falls le a b d e =
    let left = latest_at (latest t c.arrives) u c.departs (ap (λ (x : Call). x.departs) (same_Some c from a) ∙ d) in
    let rest = departs-late (latest (latest t c.arrives) c.departs) cs j to v falls.2 b e in
    omega arith
departs-forward t (c ∷ cs) (suc i) (suc j) from to u v falls le a b d e =
    departs-forward (latest (latest t c.arrives) c.departs) cs i j from to u v falls.2 (omega arith) a b d e
