-- The rows of a table, as they are made and as a network takes them.
use Rattle.std.proofs.Common.{◌≡◌, ℕ, ◌+◌, ◌<◌, ◌≤◌, ◌⊎◌, List, [], ◌∷◌, ◌++◌, Some, length, map, sym, ap, subst, refl, inl, inr, arith, slice_get, ◌∙◌}
use Rattle.std.proofs.lemmas.Bool.{cases_lt}
use Rattle.std.specs.Prelude.{option_map}
use Rattle.std.proofs.lemmas.List.{length_push, length-map}
use Rattle.std.proofs.lemmas.Option.{none-some, same_Some, slice_get_within, slice_get-map}
use Rattle.ojp_timetable.specs.Tables.{Timetable, Journey}
use Rattle.ojp_timetable.specs.declared.calls.Call.{Call}
use Rattle.ojp_timetable.specs.declared.kept.KeptCall.{KeptCall}
use Rattle.ojp_timetable.specs.Kept.{AreAtPlaces, call_kept}
use Rattle.ojp_timetable.specs.Views.{calls_at}
use Rattle.ojp_timetable.specs.Runs.{IsWell}
use Rattle.ojp_sweep.specs.declared.connections.Connection.{Connection}
use Rattle.ojp_sweep.specs.Rides.{IsWellAt}
use Rattle.ojp_sweep.specs.Rows.{AreRows}
use Rattle.ojp_scan.specs.declared.hops.Hop.{Hop}
use Rattle.ojp_scan.specs.Hops.{IsHop, StandsBefore}
use Rattle.ojp_scan.specs.Networks.{IsConnection, IsKeptAt, AreRowsUpTo, AreRowsOf}
use Rattle.ojp_values.proofs.EachFacts.{among_at, read_at, read_once}
use Rattle.ojp_timetable.proofs.ReadFacts.{calls_among, calls_are}
use Rattle.ojp_timetable.proofs.RideFacts.{ride_forward}
use Rattle.ojp_timetable.proofs.StopFacts.{at-read}
use Rattle.ojp_scan.proofs.ListFacts.{slice_get-before, slice_get-next, slice_get-push-cases}
use Rattle.ojp_scan.proofs.TableFacts.{IsHopOf, hop-of-calls, two-calls, departs-forward, arrives-offset}
use Rattle.ojp_scan.proofs.PlaceFacts.{number-within}

pub rows-none : (table : Timetable) → AreRowsUpTo [] table 0 0
rows-none table =
    record {
      sound = λ row c at. absurd (none-some c at);
      complete = λ j p journey at h before. absurd (elim before [ inl lt ↦ omega arith | inr eq ↦ omega (arith, eq.1) ]);
      rising = λ i k c d lt a b. absurd (none-some c a);
      few = omega arith;
    }

-- one hop more
module _ (rows : List Connection) (table : Timetable) (j p : ℕ) (are : AreRowsUpTo rows table j p) where
  pub rows-push : (c : Connection) → IsConnection table c → c.journey ≡ j → c.position ≡ p → AreRowsUpTo (rows ++ c ∷ []) table j (p + 1)
  rows-push c is journey position =
      record {
        sound = λ row d at.
            elim (slice_get-push-cases rows c row d at) [
              | inl old ↦ let s = are.sound row d old in (s.0, further d.journey d.position s.1)
              | inr new ↦ (subst (IsConnection table) new.1 is, let ej = ap (λ (x : Connection). x.journey) new.1 in let ep = ap (λ (x : Connection). x.position) new.1 in inr (omega arith, omega arith))
            ];
        complete = λ k q of at h before.
            elim (cases-before k q before) [
              | inl old ↦
                  let r = are.complete k q of at h old in
                  record { row = r.row; connection = r.connection; at = slice_get-before rows (c ∷ []) r.row r.connection r.at; journey_is = r.journey_is; position_is = r.position_is }
              | inr new ↦
                  record { row = length rows; connection = c; at = slice_get-next rows c []; journey_is = journey ∙ sym new.0; position_is = position ∙ sym new.1 }
            ];
        rising = λ i k x y lt a b.
            elim (slice_get-push-cases rows c i x a) [
              | inl xa ↦
                  elim (slice_get-push-cases rows c k y b) [
                    | inl yb ↦ are.rising i k x y lt xa yb
                    | inr new ↦ let s = (are.sound i x xa).1 in to-last x y s (ap (λ (z : Connection). z.journey) (sym new.1) ∙ journey) (ap (λ (z : Connection). z.position) (sym new.1) ∙ position)
                  ]
              | inr new ↦ let w = slice_get_within (rows ++ c ∷ []) k y b in let n = length_push rows c in absurd (omega (arith, new.0))
            ];
        few = let n = length_push rows c in let f = are.few in omega arith;
      }
    where
      further : (k q : ℕ) → StandsBefore k q j p → StandsBefore k q j (p + 1)
      further k q (inl lt) = inl lt
      further k q (inr h) = inr (h.0, omega (arith, h.1))

      cases-before : (k q : ℕ) → StandsBefore k q j (p + 1) → StandsBefore k q j p ⊎ ((k ≡ j) × (q ≡ p))
      cases-before k q (inl lt) = inl (inl lt)
      cases-before k q (inr h) =
          elim (cases_lt q p) [ inl lt ↦ inl (inr (h.0, lt)) | inr ge ↦ inr (h.0, omega (arith, h.1)) ]

      to-last : (x y : Connection) → StandsBefore x.journey x.position j p → y.journey ≡ j → y.position ≡ p → StandsBefore x.journey x.position y.journey y.position
      to-last x y h ej ep = subst (λ n. StandsBefore x.journey x.position n y.position) (sym ej) (subst (λ n. StandsBefore x.journey x.position j n) (sym ep) h)

  -- the hops of the journey are all there
  pub rows-next : (of : Journey) → slice_get table.journeys j ≡ Some of → length of.calls ≤ p + 1 → p ≤ 100000 → AreRowsUpTo rows table (j + 1) 0
  rows-next of at all few =
      record {
        sound = λ row c c_at. let s = are.sound row c c_at in (s.0, earlier c.journey c.position s.1);
        complete = λ k q other other_at h before. are.complete k q other other_at h (here k q other other_at h before);
        rising = are.rising;
        few = let f = are.few in omega arith;
      }
    where
      earlier : (k q : ℕ) → StandsBefore k q j p → StandsBefore k q (j + 1) 0
      earlier k q (inl lt) = inl (omega arith)
      earlier k q (inr h) = inl (omega (arith, h.0))

      here : (k q : ℕ) (other : Journey) → slice_get table.journeys k ≡ Some other → q + 1 < length other.calls → StandsBefore k q (j + 1) 0 → StandsBefore k q j p
      here k q other other_at h (inr e) = absurd (omega (arith, e.1))
      here k q other other_at h (inl lt) =
          elim (cases_lt k j) [
            | inl before ↦ inl before
            | inr from ↦
                let e : k ≡ j = omega arith in
                let same_one = read_once table.journeys k j other of e other_at at in
                let n = ap (λ (x : Journey). length x.calls) same_one in
                inr (e, omega arith)
          ]

-- the calls of a hop
pub hop-calls : (table : Timetable) → IsWell table → (hop : Hop) (h : IsHop table hop) → IsHopOf h.of.calls hop.position
hop-calls table well hop h = hop-of-calls h.of.calls hop.position (well.shape h.of (among_at table.journeys hop.journey h.of h.at)) h.within

-- the calls of a hop among those of the journey that was read
pub hop-read : (table : Timetable) → IsWell table → (hop : Hop) → IsHop table hop → (journey : Journey) → slice_get table.journeys hop.journey ≡ Some journey → IsHopOf journey.calls hop.position
hop-read table well hop h journey at =
    let one = read_once table.journeys hop.journey hop.journey journey h.of refl at h.at in
    subst (λ (j : Journey). IsHopOf j.calls hop.position) (sym one) (hop-calls table well hop h)

-- a hop between the places of its calls is a connection
pub hop-made : (table : Timetable) (hop : Hop) (board alight : KeptCall) (departs arrives : ℕ) → IsKeptAt table hop.journey hop.position board → IsKeptAt table hop.journey (hop.position + 1) alight
    → board.departs ≡ Some departs → alight.arrives ≡ Some arrives
    → IsConnection table (record { departs = departs; arrives = arrives; from = board.place; to = alight.place; journey = hop.journey; position = hop.position })
hop-made table hop board alight departs arrives b a out in_at =
    let one = read_once table.journeys hop.journey hop.journey a.of b.of refl a.at b.at in
    record {
      of = b.of;
      board = b.call;
      alight = a.call;
      at = b.at;
      board_at = b.call_at;
      alight_at = subst (λ (j : Journey). slice_get j.calls (hop.position + 1) ≡ Some a.call) one a.call_at;
      departs = sym b.departs ∙ out;
      arrives = sym a.arrives ∙ in_at;
      from = b.number;
      to = a.number;
    }

-- the calls of a journey that are read as they are kept
module _ (table : Timetable) (j : ℕ) (within : j < length table.journeys) (kept : List KeptCall) (are : map (call_kept table.places) kept ≡ calls_at table.journeys j) (placed : AreAtPlaces table.places kept) where
  pub calls-kept : (journey : Journey) → slice_get table.journeys j ≡ Some journey → map (call_kept table.places) kept ≡ journey.calls
  calls-kept journey at = are ∙ calls_are table.journeys j journey at

  pub count-kept : (journey : Journey) → slice_get table.journeys j ≡ Some journey → length kept ≡ length journey.calls
  count-kept journey at = sym (length-map kept (call_kept table.places)) ∙ ap length (calls-kept journey at)

  -- they are two at least, and few
  pub kept-few : IsWell table → (2 ≤ length kept) × (length kept ≤ 100000)
  kept-few well =
      let r = read_at table.journeys j within in
      let count = count-kept r.0 r.1 in
      let few = calls_among table.journeys j r.0 r.1 in
      let two = two-calls r.0.calls (well.shape r.0 (among_at table.journeys j r.0 r.1)) in
      (omega (arith, count, two), omega (arith, count, few, well.few.calls_few))

  pub kept-at : (position : ℕ) (call : KeptCall) → slice_get kept position ≡ Some call → IsKeptAt table j position call
  kept-at position call read =
      let r = read_at table.journeys j within in
      record {
        of = r.0;
        call = call_kept table.places call;
        at = r.1;
        call_at = ap (λ (cs : List Call). slice_get cs position) (sym (calls-kept r.0 r.1)) ∙ (slice_get-map (call_kept table.places) kept position ∙ ap (option_map (call_kept table.places)) read);
        arrives = refl;
        departs = refl;
        number = at-read table.places kept position call placed read;
      }

  pub hop-kept : (position : ℕ) → position + 1 < length kept → IsHop table (record { journey = j; position = position })
  hop-kept position inside =
      let r = read_at table.journeys j within in
      record { of = r.0; at = r.1; within = omega (arith, inside, count-kept r.0 r.1) }

-- the hops of a table
module _ (table : Timetable) (well : IsWell table) where
  -- a hop is that of its journey and position
  pub one-hop : (c d : Connection) → IsConnection table c → IsConnection table d → c.journey ≡ d.journey → c.position ≡ d.position → c.departs ≡ d.departs
  one-hop c d x y ej ep =
      let of = read_once table.journeys c.journey d.journey x.of y.of ej x.at y.at in
      let there : slice_get x.of.calls d.position ≡ Some y.board = subst (λ (j : Journey). slice_get j.calls d.position ≡ Some y.board) (sym of) y.board_at in
      let board = read_once x.of.calls c.position d.position x.board y.board ep x.board_at there in
      same_Some c.departs d.departs (sym x.departs ∙ (ap (λ (k : Call). k.departs) board ∙ y.departs))

  -- it goes forward, and is in range
  pub hop-well : (c : Connection) → IsConnection table c → IsWellAt (length table.places) (length table.journeys) c
  hop-well c x =
      record {
        from = number-within table x.board.stop c.from x.from;
        to = number-within table x.alight.stop c.to x.to;
        journey = slice_get_within table.journeys c.journey x.of x.at;
        forward = ride_forward 0 x.of.calls c.position (c.position + 1) x.board x.alight c.departs c.arrives (well.times x.of (among_at table.journeys c.journey x.of x.at)) (omega arith) x.board_at x.alight_at x.departs x.arrives;
        offset = let o = arrives-offset table well c.journey (c.position + 1) x.of x.alight c.arrives x.at x.alight_at x.arrives in omega arith;
      }

  pub hop-later : (c d : Connection) → IsConnection table c → IsConnection table d → c.journey ≡ d.journey → c.position ≤ d.position → c.departs ≤ d.departs
  hop-later c d x y ej le =
      let of = read_once table.journeys c.journey d.journey x.of y.of ej x.at y.at in
      let there : slice_get x.of.calls d.position ≡ Some y.board = subst (λ (j : Journey). slice_get j.calls d.position ≡ Some y.board) (sym of) y.board_at in
      departs-forward 0 x.of.calls c.position d.position x.board y.board c.departs d.departs (well.times x.of (among_at table.journeys c.journey x.of x.at)) le x.board_at there x.departs y.departs

  -- the rows are those of a network
  pub rows-are : (rows : List Connection) → AreRowsOf rows table → AreRows rows (length table.places) (length table.journeys)
  rows-are rows are =
      record {
        hops = λ i c at. hop-well c (are.sound i c at).0;
        by_index = λ i j c d a b journey le.
            let x = (are.sound i c a).0 in
            let y = (are.sound j d b).0 in
            let position : c.position ≤ d.position =
            elim (cases_lt i j) as (λ _. c.position ≤ d.position) [
              | inl lt ↦ elim (are.rising i j c d lt a b) [ inl other ↦ absurd (omega arith) | inr h ↦ omega (arith, h.1) ]
              | inr ge ↦ let e : i ≡ j = omega arith in let same_one = ap (λ (k : Connection). k.position) (read_once rows i j c d e a b) in omega arith
            ] in
            (position, hop-later c d x y journey position);
        by_position = λ i j c d a b journey le.
            elim (cases_lt j i) as (λ _. i ≤ j) [
              | inl lt ↦ elim (are.rising j i d c lt b a) [ inl other ↦ absurd (omega arith) | inr h ↦ absurd (omega (arith, h.1)) ]
              | inr ge ↦ ge
            ];
        count = let f = are.few in let n = well.few.journeys_few in omega arith;
      }
