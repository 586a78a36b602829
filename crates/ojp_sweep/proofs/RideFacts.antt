-- Rides and the connections that they are made of.
use Rattle.std.proofs.Common.{◌≡◌, ℕ, ◌<◌, ◌≤◌, List, Some, length, get_or, sym, ap, subst, refl, inl, inr, arith, slice_get, ◌∙◌}
use Rattle.std.proofs.lemmas.Option.{same_Some, slice_get_within, slice_get-get_or, get_or_from_slice_get}
use Rattle.ojp_sweep.specs.declared.connections.Connection.{Connection}
use Rattle.ojp_sweep.specs.declared.connections.Connections.{Connections}
use Rattle.ojp_sweep.specs.declared.connections.Days.{Days}
use Rattle.ojp_sweep.specs.Rides.{IsAt, IsWell, Ride, IsRide, Transfers, moment}
use Rattle.ojp_sweep.specs.Sweeps.{IsOnRun}

-- one number names one connection
pub one-at : (net : Connections) (n m : ℕ) (c d : Connection) → n ≡ m → IsAt net n c → IsAt net m d → c ≡ d
one-at net n m c d e a b = same_Some c d (sym a ∙ (ap (λ k. slice_get net.sorted.items k) e ∙ b))

-- a connection that was read is that of the number
pub read-at : (net : Connections) (n : ℕ) (c : Connection) → n < length net.sorted.items → c ≡ get_or net.sorted.items n c → IsAt net n c
read-at net n c h e = slice_get-get_or net.sorted.items n c h ∙ ap Some (sym e)

-- what stands before leaves no later
pub leaves-before : (net : Connections) → IsWell net → (n m : ℕ) (c d : Connection) → n ≤ m → IsAt net n c → IsAt net m d → c.departs ≤ d.departs
leaves-before net well n m c d le a b =
    let within = slice_get_within net.sorted.items m d b in
    let order = well.in_order n m c le within in
    let first = ap (λ (k : Connection). k.departs) (get_or_from_slice_get net.sorted.items n c c a) in
    let last = ap (λ (k : Connection). k.departs) (get_or_from_slice_get net.sorted.items m d c b) in
    omega arith

-- a ride goes forward
pub ride-forward : (net : Connections) (days : Days) → IsWell net → (ride : Ride) → IsRide net days ride → ride.departs ≤ ride.arrives
ride-forward net days well ride r =
    let order = leaves-before net well ride.board ride.alight r.first r.last (well.by_position ride.board ride.alight r.first r.last r.first_at r.last_at r.journey r.in_order) r.first_at r.last_at in
    let forward = (well.connections ride.alight r.last r.last_at).forward in
    let departs = r.departs in
    let arrives = r.arrives in
    omega arith

-- and is between places
pub from-within : (net : Connections) (days : Days) → IsWell net → (ride : Ride) → IsRide net days ride → ride.from < length net.changes.items
from-within net days well ride r = let w = (well.connections ride.board r.first r.first_at).from in let e = r.from in omega arith

pub to-within : (net : Connections) (days : Days) → IsWell net → (ride : Ride) → IsRide net days ride → ride.to < length net.changes.items
to-within net days well ride r = let w = (well.connections ride.alight r.last r.last_at).to in let e = r.to in omega arith

-- a transfer takes a second at least
pub transfer-low : (net : Connections) → IsWell net → (p q seconds : ℕ) → Transfers net p q seconds → 1 ≤ seconds
transfer-low net well p q seconds (inl h) = let low = well.changes p h.1 in omega (arith, h.2)
transfer-low net well p q seconds (inr h) = let low = (well.walks h.k h.walk h.at).seconds in let e = h.takes in omega arith

-- and begins at a place
pub transfer-from : (net : Connections) → IsWell net → (p q seconds : ℕ) → Transfers net p q seconds → p < length net.changes.items
transfer-from net well p q seconds (inl h) = h.1
transfer-from net well p q seconds (inr h) = let w = (well.walks h.k h.walk h.at).from in let e = h.from in omega arith

-- and ends at one
pub transfer-to : (net : Connections) → IsWell net → (p q seconds : ℕ) → Transfers net p q seconds → q < length net.changes.items
transfer-to net well p q seconds (inl h) = subst (λ k. k < length net.changes.items) h.0 h.1
transfer-to net well p q seconds (inr h) = let w = (well.walks h.k h.walk h.at).to in let e = h.to in omega arith

-- the ride on a run that was boarded
module _ (ready : List ℕ) (net : Connections) (days : Days) (well : IsWell net) (day board n : ℕ) (h : IsOnRun ready net days day board n) (last : Connection) (at : IsAt net n last) where
  abbrev pub ride-on : Ride
  ride-on =
      record {
        day = day;
        board = board;
        alight = n;
        from = h.boards.first.from;
        departs = moment days day h.boards.first.departs;
        to = last.to;
        arrives = moment days day last.arrives;
      }

  same-journey : h.boards.first.journey ≡ last.journey
  same-journey = h.journey ∙ ap (λ (k : Connection). k.journey) (one-at net n n h.last last refl h.last_at at)

  pub ride-on-is : IsRide net days ride-on
  ride-on-is =
      record {
        first = h.boards.first;
        last = last;
        day = h.day_in;
        first_at = h.boards.first_at;
        last_at = at;
        journey = same-journey;
        in_order = well.by_index board n h.boards.first last h.boards.first_at at same-journey h.in_order;
        runs = h.boards.runs;
        from = refl;
        departs = refl;
        to = refl;
        arrives = refl;
      }
