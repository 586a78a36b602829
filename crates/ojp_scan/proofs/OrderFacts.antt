-- The hops of a table in their order: those of the first calls are the first of all.
use Rattle.std.proofs.Common.{◌≡◌, ℕ, ◌+◌, List, [], ◌∷◌, ◌++◌, Some, length, sym, ap, subst, refl, inl, inr, arith, slice_get, ◌∙◌}
use Rattle.std.proofs.lemmas.Bool.{cases_lt}
use Rattle.std.proofs.lemmas.Option.{same_Some, slice_get_within}
use Rattle.ojp_timetable.specs.Tables.{Timetable, Journey}
use Rattle.ojp_timetable.specs.declared.calls.Call.{Call}
use Rattle.ojp_sweep.specs.declared.connections.Connection.{Connection}
use Rattle.ojp_scan.specs.Hops.{StandsBefore}
use Rattle.ojp_scan.specs.Networks.{IsConnection, HasRow, AreRowsUpTo, AreRowsOf, place_number}
use Rattle.ojp_values.proofs.EachFacts.{read_once}
use Rattle.ojp_scan.proofs.ListFacts.{slice_get-before, slice_get-of-first, slice_get-next, none-after}

never-before-itself : (j p : ℕ) → StandsBefore j p j p → ⊥
never-before-itself j p (inl lt) = omega (arith, lt)
never-before-itself j p (inr h) = omega (arith, h.1)

-- the hop of a journey and position is one connection
one-connection : (table : Timetable) (c d : Connection) → IsConnection table c → IsConnection table d → c.journey ≡ d.journey → c.position ≡ d.position → c ≡ d
one-connection table c d x y ej ep =
    let of = read_once table.journeys c.journey d.journey x.of y.of ej x.at y.at in
    let calls = ap (λ (j : Journey). j.calls) of in
    let board = read_once x.of.calls c.position d.position x.board y.board ep x.board_at (ap (λ (cs : List Call). slice_get cs d.position) calls ∙ y.board_at) in
    let next : c.position + 1 ≡ d.position + 1 = ap (λ n. n + 1) ep in
    let alight = read_once x.of.calls (c.position + 1) (d.position + 1) x.alight y.alight next x.alight_at (ap (λ (cs : List Call). slice_get cs (d.position + 1)) calls ∙ y.alight_at) in
    let departs = same_Some c.departs d.departs (sym x.departs ∙ (ap (λ (k : Call). k.departs) board ∙ y.departs)) in
    let arrives = same_Some c.arrives d.arrives (sym x.arrives ∙ (ap (λ (k : Call). k.arrives) alight ∙ y.arrives)) in
    let from = same_Some c.from d.from (sym x.from ∙ (ap (λ (k : Call). place_number table k.stop) board ∙ y.from)) in
    let to = same_Some c.to d.to (sym x.to ∙ (ap (λ (k : Call). place_number table k.stop) alight ∙ y.to)) in
    λ i. record { departs = departs i; arrives = arrives i; from = from i; to = to i; journey = ej i; position = ep i }

-- rows up to a hop are the first of all rows
module _ (table : Timetable) (rows : List Connection) (j p : ℕ) (are : AreRowsUpTo rows table j p) where
  -- a row after them does not stand before the hop
  none-left : (d : Connection) (rest : List Connection) → AreRowsOf (rows ++ d ∷ rest) table → StandsBefore d.journey d.position j p → ⊥
  none-left d rest all before =
      let at = slice_get-next rows d rest in
      let x = (all.sound (length rows) d at).0 in
      let r = are.complete d.journey d.position x.of x.at (slice_get_within x.of.calls (d.position + 1) x.alight x.alight_at) before in
      let first = slice_get-before rows (d ∷ rest) r.row r.connection r.at in
      let stands = all.rising r.row (length rows) r.connection d (slice_get_within rows r.row r.connection r.at) first at in
      never-before-itself d.journey d.position
      (subst (λ n. StandsBefore n d.position d.journey d.position) r.journey_is (subst (λ n. StandsBefore r.connection.journey n d.journey d.position) r.position_is stands))

  -- the hop is the next row
  pub next-row : (more : List Connection) → AreRowsOf (rows ++ more) table → (c : Connection) → IsConnection table c → c.journey ≡ j → c.position ≡ p → (rest : List Connection) × (more ≡ c ∷ rest)
  next-row more all c is ej ep =
      let inside = slice_get_within is.of.calls (c.position + 1) is.alight is.alight_at in
      let r = all.complete c.journey c.position is.of is.at inside (inl (slice_get_within table.journeys c.journey is.of is.at)) in
      go more all r
    where
      -- it is not among the rows before it
      later : (row : ℕ) (d : Connection) → d.journey ≡ c.journey → d.position ≡ c.position → slice_get rows row ≡ Some d → ⊥
      later row d dj dp at =
          let s = (are.sound row d at).1 in
          never-before-itself j p (subst (λ n. StandsBefore n p j p) (dj ∙ ej) (subst (λ n. StandsBefore d.journey n j p) (dp ∙ ep) s))

      go : (more : List Connection) → AreRowsOf (rows ++ more) table → HasRow (rows ++ more) c.journey c.position → (rest : List Connection) × (more ≡ c ∷ rest)
      go [] all r = absurd (later r.row r.connection r.journey_is r.position_is (slice_get-of-first rows [] r.row r.connection (none-after rows r.row r.connection r.at) r.at))
      go (d ∷ rest) all r =
          elim (cases_lt r.row (length rows)) [
            | inl first ↦ absurd (later r.row r.connection r.journey_is r.position_is (slice_get-of-first rows (d ∷ rest) r.row r.connection first r.at))
            | inr past ↦
                elim (cases_lt (length rows) r.row) [
                  | inl after ↦
                      let stands = all.rising (length rows) r.row d r.connection after (slice_get-next rows d rest) r.at in
                      absurd (none-left d rest all (subst (λ n. StandsBefore d.journey d.position n p) (r.journey_is ∙ ej) (subst (λ n. StandsBefore d.journey d.position r.connection.journey n) (r.position_is ∙ ep) stands)))
                  | inr not_after ↦
                      let here : length rows ≡ r.row = omega arith in
                      let same_one = read_once (rows ++ d ∷ rest) (length rows) r.row d r.connection here (slice_get-next rows d rest) r.at in
                      let x = (all.sound (length rows) d (slice_get-next rows d rest)).0 in
                      let dj = ap (λ (k : Connection). k.journey) same_one ∙ r.journey_is in
                      let dp = ap (λ (k : Connection). k.position) same_one ∙ r.position_is in
                      (rest, ap (λ k. k ∷ rest) (one-connection table d c x is dj dp))
                ]
          ]

-- the rows of all journeys are all rows
pub all-rows : (table : Timetable) (rows more : List Connection) → AreRowsOf rows table → AreRowsOf (rows ++ more) table → more ≡ []
all-rows table rows [] are all = refl
all-rows table rows (d ∷ rest) are all =
    absurd (none-left table rows (length table.journeys) 0 are d rest all (all.sound (length rows) d (slice_get-next rows d rest)).1)
