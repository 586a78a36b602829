-- One look keeps what holds on the way of a sweep.
use Rattle.std.proofs.Common.{◌≡◌, ◌≢◌, ℕ, ◌+◌, ◌<◌, ◌≤◌, List, ◌⊎◌, length, get_or, set, sym, ap, subst, refl, inl, inr, arith, slice_index, ◌∙◌, length-set, get_or-set_same, get_or-set_other}
use Rattle.std.proofs.lemmas.Bool.{cases_eq, cases_lt}
use Rattle.ojp_sweep.specs.declared.connections.Connection.{Connection}
use Rattle.ojp_sweep.specs.declared.connections.Connections.{Connections}
use Rattle.ojp_sweep.specs.declared.connections.Days.{Days}
use Rattle.ojp_sweep.specs.declared.connections.Asked.{Asked}
use Rattle.ojp_sweep.specs.declared.labels.Labels.{Labels}
use Rattle.ojp_sweep.specs.declared.progress.Progress.{Progress}
use Rattle.ojp_sweep.specs.Rides.{IsAt, moment, IsSearch}
use Rattle.ojp_sweep.specs.Labels.{AreLabels, FallAfter, IsClosed}
use Rattle.std.proofs.lemmas.List.{get_or_read}
use Rattle.std.specs.Vec.{with_item}
use Rattle.ojp_sweep.proofs.RideFacts.{one-at, to-within}
use Rattle.ojp_sweep.specs.Sweeps.{Boards, IsOnRun, FallsAt, IsLowAt, run_of, HasBoarded, IsBoarded, IsSwept, IsNext}

-- what can be boarded stays so where labels fall
pub boards-falls : (old new : List ℕ) (net : Connections) (days : Days) (day n : ℕ) → ((place : ℕ) → slice_index new place ≤ slice_index old place) → Boards old net days day n → Boards new net days day n
boards-falls old new net days day n falls b =
    record { first = b.first; first_at = b.first_at; runs = b.runs; in_time = let f = falls b.first.from in let t = b.in_time in omega arith }

-- a look at the day's next connection
module _ (net : Connections) (days : Days) (asked : Asked) (old new : Progress) (swept : IsSwept old net days asked) (x : ℕ) (day_in : x < 4) (next : IsNext old net days x) (board : ℕ)
    (boarded : HasBoarded old.boarded.items new.boarded.items old.labels.ready.items net days x (slice_index old.cursors.items x) board)
    (cursors : new.cursors.items ≡ set old.cursors.items x (slice_index old.cursors.items x + 1)) (ends : new.ends.items ≡ old.ends.items)
    (right : AreLabels new.labels net days asked) (falls : FallAfter (moment days x boarded.of.departs) old.labels new.labels)
    (low : board ≢ 0 → slice_index new.labels.arrives.items boarded.of.to ≤ moment days x boarded.of.arrives) where
  abbrev here : ℕ
  here = slice_index old.cursors.items x

  cursor-here : slice_index new.cursors.items x ≡ here + 1
  cursor-here =
      let inside : x < length old.cursors.items = omega (arith, swept.cursors_count) in
      ap (λ us. get_or us x 0) cursors ∙ get_or-set_same old.cursors.items x (here + 1) 0 inside

  cursor-other : (y : ℕ) → y ≢ x → slice_index new.cursors.items y ≡ slice_index old.cursors.items y
  cursor-other y ne = ap (λ us. get_or us y 0) cursors ∙ get_or-set_other old.cursors.items x y (here + 1) 0 ne

  end-same : (y : ℕ) → slice_index new.ends.items y ≡ slice_index old.ends.items y
  end-same y = ap (λ us. get_or us y 0) ends

  -- what was looked at now was looked at before, or is this one
  new-or-old : (y n : ℕ) → n < slice_index new.cursors.items y → (n < slice_index old.cursors.items y) ⊎ ((y ≡ x) × (n ≡ here))
  new-or-old y n h =
      elim (cases_eq y x) [
        | inl e ↦
            let h' : n < here + 1 = omega (arith, subst (λ k. n < slice_index new.cursors.items k) e h, cursor-here) in
            elim (cases_lt n here) [
              | inl before ↦ inl (subst (λ k. n < slice_index old.cursors.items k) (sym e) before)
              | inr from ↦ inr (e, omega arith)
            ]
        | inr ne ↦ inl (omega (arith, h, cursor-other y ne))
      ]

  cursor-rises : (y : ℕ) → slice_index old.cursors.items y ≤ slice_index new.cursors.items y
  cursor-rises y =
      elim (cases_eq y x) [
        | inl e ↦ subst (λ k. slice_index old.cursors.items k ≤ slice_index new.cursors.items k) (sym e) (omega (arith, cursor-here))
        | inr ne ↦ omega (arith, cursor-other y ne)
      ]

  -- all of it leaves no later than this one
  left-before : (y n : ℕ) (c : Connection) → y < 4 → n < slice_index new.cursors.items y → IsAt net n c → moment days y c.departs ≤ moment days x boarded.of.departs
  left-before y n c y_in h at =
      elim (new-or-old y n h) [
        | inl before ↦ swept.in_turn y n x here c boarded.of y_in day_in before (omega arith) next.within at boarded.at
        | inr this ↦
            let same = one-at net n here c boarded.of this.1 at boarded.at in
            subst (λ k. moment days k c.departs ≤ moment days x boarded.of.departs) (sym this.0) (subst (λ (k : Connection). moment days x k.departs ≤ moment days x boarded.of.departs) (sym same) (omega arith))
      ]

  boards-before : (y n : ℕ) → y < 4 → n < slice_index new.cursors.items y → Boards new.labels.ready.items net days y n → Boards old.labels.ready.items net days y n
  boards-before y n y_in h b =
      record {
        first = b.first;
        first_at = b.first_at;
        runs = b.runs;
        in_time = falls.final b.first.from (moment days y b.first.departs) (left-before y n b.first y_in h b.first_at) b.in_time;
      }

  -- where the run was not boarded, none of its connections so far could be
  not-boarded : board ≡ 0 → (n : ℕ) (c : Connection) → n ≤ here → IsAt net n c → c.journey ≡ boarded.of.journey → Boards old.labels.ready.items net days x n → ⊥
  not-boarded zero n c le at journey b =
      let none = boarded.none zero in
      elim (cases_lt n here) [
        | inl before ↦ swept.none x n c day_in before at (subst (λ j. slice_index old.boarded.items (run_of j x) ≡ 0) (sym journey) none.0) b
        | inr from ↦ let e : n ≡ here = omega arith in none.1 (subst (λ k. Boards old.labels.ready.items net days x k) e b)
      ]

  new-closed : (y b n : ℕ) (first last : Connection) → y < 4 → b ≤ n → n < slice_index new.cursors.items y → IsAt net b first → IsAt net n last → first.journey ≡ last.journey
      → Boards new.labels.ready.items net days y b → slice_index new.labels.arrives.items last.to ≤ moment days y last.arrives
  new-closed y b n first last y_in le h first_at last_at journey boards =
      let was = boards-before y b y_in (omega arith) boards in
      let f = falls.arrives last.to in
      elim (new-or-old y n h) [
        | inl before ↦ let c = swept.closed y b n first last y_in le before first_at last_at journey was in omega arith
        | inr this ↦
            let same = one-at net n here last boarded.of this.1 last_at boarded.at in
            let was_here = subst (λ k. Boards old.labels.ready.items net days k b) this.0 was in
            let rode : board ≢ 0 = λ zero. not-boarded zero b first (omega (arith, this.1)) first_at (journey ∙ ap (λ (k : Connection). k.journey) same) was_here in
            subst (λ k. slice_index new.labels.arrives.items last.to ≤ moment days k last.arrives) (sym this.0)
            (subst (λ (k : Connection). slice_index new.labels.arrives.items k.to ≤ moment days x k.arrives) (sym same) (low rode))
      ]

  -- a run is that of the connection, or its number is as it was
  same-run : (y journey : ℕ) → y < 4 → ((y ≡ x) × (journey ≡ boarded.of.journey)) ⊎ (run_of journey y ≢ run_of boarded.of.journey x)
  same-run y journey y_in =
      elim (cases_eq (run_of journey y) (run_of boarded.of.journey x)) [
        | inl e ↦ let d : y ≡ x = omega arith in inl (d, omega arith)
        | inr ne ↦ inr ne
      ]

  new-none : (y n : ℕ) (of : Connection) → y < 4 → n < slice_index new.cursors.items y → IsAt net n of → slice_index new.boarded.items (run_of of.journey y) ≡ 0
      → Boards new.labels.ready.items net days y n → ⊥
  new-none y n of y_in h at flag boards =
      let was = boards-before y n y_in h boards in
      elim (same-run y of.journey y_in) [
        | inl same ↦
            let flag' : slice_index new.boarded.items (run_of boarded.of.journey x) ≡ 0 =
            subst (λ k. slice_index new.boarded.items (run_of boarded.of.journey k) ≡ 0) same.0 (subst (λ j. slice_index new.boarded.items (run_of j y) ≡ 0) same.1 flag) in
            let le : n ≤ here =
            elim (new-or-old y n h) as (λ _. n ≤ here) [
              | inl before ↦ let b : n < here = subst (λ k. n < slice_index old.cursors.items k) same.0 before in omega arith
              | inr this ↦ omega (arith, this.1)
            ] in
            not-boarded (sym boarded.here ∙ flag') n of le at same.1 (subst (λ k. Boards old.labels.ready.items net days k n) same.0 was)
        | inr other ↦
            elim (new-or-old y n h) [
              | inl before ↦ swept.none y n of y_in before at (sym (boarded.others (run_of of.journey y) other) ∙ flag) was
              | inr this ↦
                  let same = one-at net n here of boarded.of this.1 at boarded.at in
                  absurd (other (ap (λ k. run_of of.journey k) this.0 ∙ ap (λ (k : Connection). run_of k.journey x) same))
            ]
      ]

  -- a run that was boarded before still is
  still-boarded : (y journey n : ℕ) → IsBoarded old.labels.ready.items net days (slice_index old.cursors.items y) y journey n → IsBoarded new.labels.ready.items net days (slice_index new.cursors.items y) y journey n
  unfolding boards-falls
  still-boarded y journey n b =
      record {
        within = let r = cursor-rises y in let w = b.within in omega arith;
        boards = boards-falls old.labels.ready.items new.labels.ready.items net days y n falls.ready b.boards;
        of = b.of;
      }

  boarded-here : Boards old.labels.ready.items net days x here → IsBoarded new.labels.ready.items net days (slice_index new.cursors.items x) x boarded.of.journey here
  unfolding boards-falls
  boarded-here b =
      record {
        within = omega (arith, cursor-here);
        boards = boards-falls old.labels.ready.items new.labels.ready.items net days x here falls.ready b;
        of = ap (λ (k : Connection). k.journey) (one-at net here here b.first boarded.of refl b.first_at boarded.at);
      }

  new-some : (y journey n : ℕ) → y < 4 → journey < length net.services.items → slice_index new.boarded.items (run_of journey y) ≡ n + 1
      → IsBoarded new.labels.ready.items net days (slice_index new.cursors.items y) y journey n
  new-some y journey n y_in journey_in flag =
      elim (same-run y journey y_in) [
        | inl same ↦
            let flag' : slice_index new.boarded.items (run_of boarded.of.journey x) ≡ n + 1 =
            subst (λ k. slice_index new.boarded.items (run_of boarded.of.journey k) ≡ n + 1) same.0 (subst (λ j. slice_index new.boarded.items (run_of j y) ≡ n + 1) same.1 flag) in
            let there : IsBoarded new.labels.ready.items net days (slice_index new.cursors.items x) x boarded.of.journey n =
            elim (boarded.some n (sym boarded.here ∙ flag')) as (λ _. IsBoarded new.labels.ready.items net days (slice_index new.cursors.items x) x boarded.of.journey n) [
              | inl was ↦
                  still-boarded x boarded.of.journey n
                  (swept.some x boarded.of.journey n day_in (subst (λ j. j < length net.services.items) same.1 journey_in) was)
              | inr this ↦
                  subst (λ k. IsBoarded new.labels.ready.items net days (slice_index new.cursors.items x) x boarded.of.journey k) (sym this.0)
                  (boarded-here (subst (λ k. Boards old.labels.ready.items net days x here) this.0 this.1))
            ] in
            subst (λ k. IsBoarded new.labels.ready.items net days (slice_index new.cursors.items k) k journey n) (sym same.0)
            (subst (λ j. IsBoarded new.labels.ready.items net days (slice_index new.cursors.items x) x j n) (sym same.1) there)
        | inr other ↦
            still-boarded y journey n (swept.some y journey n y_in journey_in (sym (boarded.others (run_of journey y) other) ∙ flag))
      ]

  new-in-turn : (y n z m : ℕ) (c d : Connection) → y < 4 → z < 4 → n < slice_index new.cursors.items y → slice_index new.cursors.items z ≤ m → m < slice_index new.ends.items z
      → IsAt net n c → IsAt net m d → moment days y c.departs ≤ moment days z d.departs
  new-in-turn y n z m c d y_in z_in h ahead end c_at d_at =
      let r = cursor-rises z in
      let e = end-same z in
      elim (new-or-old y n h) [
        | inl before ↦ swept.in_turn y n z m c d y_in z_in before (omega arith) (omega arith) c_at d_at
        | inr this ↦
            let c_here : IsAt net here c = subst (λ k. IsAt net k c) this.1 c_at in
            subst (λ k. moment days k c.departs ≤ moment days z d.departs) (sym this.0) (next.least z m c d z_in (omega arith) (omega arith) c_here d_at)
      ]

  new-within : (y : ℕ) → y < 4 → slice_index new.cursors.items y ≤ slice_index new.ends.items y
  new-within y y_in =
      let e = end-same y in
      elim (cases_eq y x) [
        | inl same ↦
            let e' = end-same x in
            let w = next.within in
            subst (λ k. slice_index new.cursors.items k ≤ slice_index new.ends.items k) (sym same) (omega (arith, cursor-here))
        | inr ne ↦ let w = swept.within y y_in in omega (arith, cursor-other y ne)
      ]

  pub looked : IsSwept new net days asked
  looked =
      record {
        labels = right;
        runs = boarded.count ∙ swept.runs;
        cursors_count = ap length cursors ∙ (length-set old.cursors.items x (here + 1) ∙ swept.cursors_count);
        ends_count = ap length ends ∙ swept.ends_count;
        within = new-within;
        ends_in = λ y y_in. let e = end-same y in let w = swept.ends_in y y_in in omega arith;
        closed = new-closed;
        none = new-none;
        some = new-some;
        in_turn = new-in-turn;
        late = λ y n of y_in end at. let e = end-same y in swept.late y n of y_in (omega arith) at;
      }

-- where all was looked at, no ride betters a label
pub swept-closed : (net : Connections) (days : Days) (asked : Asked) (progress : Progress) → IsSearch net days asked → IsSwept progress net days asked
    → ((day : ℕ) → day < 4 → slice_index progress.ends.items day ≤ slice_index progress.cursors.items day) → IsClosed progress.labels.arrives.items progress.labels.ready.items net days
swept-closed net days asked progress search swept done ride r in_time =
    let all = done ride.day r.day in
    let departs = r.departs in
    let arrives = r.arrives in
    elim (cases_lt ride.alight (slice_index progress.cursors.items ride.day)) [
      | inl looked ↦
          let boards : Boards progress.labels.ready.items net days ride.day ride.board =
          record { first = r.first; first_at = r.first_at; runs = r.runs; in_time = subst (λ k. slice_index progress.labels.ready.items k ≤ moment days ride.day r.first.departs) r.from (omega arith) } in
          let c = swept.closed ride.day ride.board ride.alight r.first r.last r.day (search.well.by_position ride.board ride.alight r.first r.last r.first_at r.last_at r.journey r.in_order) looked r.first_at r.last_at r.journey boards in
          subst (λ k. slice_index progress.labels.arrives.items k ≤ ride.arrives) (sym r.to) (omega arith)
      | inr past ↦
          let late = swept.late ride.day ride.alight r.last r.day (omega arith) r.last_at in
          let forward = (search.well.connections ride.alight r.last r.last_at).forward in
          let high = swept.labels.high ride.to (to-within net days search.well ride r) in
          omega arith
    ]

-- a run that was boarded goes on to the day's next connection
pub on-run : (net : Connections) (days : Days) (asked : Asked) → IsSearch net days asked → (old : Progress) → IsSwept old net days asked → (x : ℕ) → x < 4 → IsNext old net days x
    → (b : ℕ) (flags : List ℕ) (board : ℕ) → board ≡ b + 1 → HasBoarded old.boarded.items flags old.labels.ready.items net days x (slice_index old.cursors.items x) board
    → IsOnRun old.labels.ready.items net days x b (slice_index old.cursors.items x)
on-run net days asked search old swept x day_in next b flags board e boarded =
    elim (boarded.some b e) [
      | inl was ↦
          let before = swept.some x boarded.of.journey b day_in (search.well.connections (slice_index old.cursors.items x) boarded.of boarded.at).journey was in
          record {
            day_in = day_in;
            boards = before.boards;
            last = boarded.of;
            last_at = boarded.at;
            in_order = let w = before.within in omega arith;
            journey = before.of;
          }
      | inr this ↦
          let boards = subst (λ k. Boards old.labels.ready.items net days x k) (sym this.0) this.1 in
          record {
            day_in = day_in;
            boards = boards;
            last = boarded.of;
            last_at = boarded.at;
            in_order = omega (arith, this.0);
            journey = ap (λ (k : Connection). k.journey) (one-at net b (slice_index old.cursors.items x) boards.first boarded.of this.0 boards.first_at boarded.at);
          }
    ]

-- a look at the day's next connection, with its number as it was read
pub looked-at : (net : Connections) (days : Days) (asked : Asked) (old : Progress) → IsSwept old net days asked → (x : ℕ) → x < 4 → IsNext old net days x
    → (index : ℕ) → index ≡ slice_index old.cursors.items x → (mid : Progress) (board : ℕ)
    → HasBoarded old.boarded.items mid.boarded.items old.labels.ready.items net days x index board → mid.cursors.items ≡ old.cursors.items → mid.ends.items ≡ old.ends.items
    → AreLabels mid.labels net days asked → FallsAt old.labels mid.labels net days x index → (board ≢ 0 → IsLowAt mid.labels.arrives.items net days x index)
    → IsSwept (record { labels = mid.labels; boarded = mid.boarded; cursors = with_item mid.cursors x (index + 1); ends = mid.ends }) net days asked
looked-at net days asked old swept x day_in next index e mid board boarded cursors ends right falls low =
    let new : Progress = record { labels = mid.labels; boarded = mid.boarded; cursors = with_item mid.cursors x (index + 1); ends = mid.ends } in
    let here = subst (λ k. HasBoarded old.boarded.items mid.boarded.items old.labels.ready.items net days x k board) e boarded in
    let at : IsAt net index here.of = subst (λ k. IsAt net k here.of) (sym e) here.at in
    looked net days asked old new swept x day_in next board here (ap (λ us. set us x (index + 1)) cursors ∙ ap (λ k. set old.cursors.items x (k + 1)) e) ends right (falls here.of at) (λ rode. low rode here.of at)

-- nothing falls where nothing was lowered
pub none-falls : (at : ℕ) (labels : Labels) → FallAfter at labels labels
none-falls at labels = record { arrives = λ k. omega arith; ready = λ k. omega arith; final = λ k t before now. now }

-- what was read of the four days
pub four-read : (xs : List ℕ) (day x : ℕ) → day < 4 → length xs ≡ 4 → x ≡ get_or xs day x → x ≡ slice_index xs day
four-read xs day x h four read = get_or_read xs day x (omega arith) read 0
