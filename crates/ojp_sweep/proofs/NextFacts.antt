-- Which connection is the next.
use Rattle.std.proofs.Common.{◌≡◌, ◌≢◌, ℕ, ◌+◌, ◌-◌, ◌^◌, ◌<◌, ◌≤◌, min, get_or, set, sym, ap, subst, refl, inl, inr, arith, slice_index, ◌∙◌, get_or-set_same, get_or-set_other}
use Rattle.std.proofs.lemmas.Bool.{cases_eq, cases_lt}
use Rattle.std.proofs.lemmas.Option.{slice_get-get_or}
use Rattle.ojp_sweep.specs.declared.connections.Connection.{Connection}
use Rattle.ojp_sweep.specs.declared.connections.Connections.{Connections}
use Rattle.ojp_sweep.specs.declared.connections.Days.{Days}
use Rattle.ojp_sweep.specs.declared.connections.Asked.{Asked}
use Rattle.ojp_sweep.specs.declared.progress.Progress.{Progress}
use Rattle.ojp_sweep.specs.declared.progress.Next.{Next}
use Rattle.ojp_sweep.specs.Rides.{IsAt, IsSearch, moment}
use Rattle.ojp_sweep.specs.Labels.{KeepsReady}
use Rattle.ojp_sweep.specs.Sweeps.{IsSwept, IsNext, IsMoment, IsFirst, IsLimit, GoesFurther, IsRunning, all_left, left}
use Rattle.ojp_sweep.proofs.RideFacts.{one-at, leaves-before}

-- a moment is below that past all
pub moment-low : (net : Connections) (days : Days) (asked : Asked) → IsSearch net days asked → (day n : ℕ) (c : Connection) → IsAt net n c → moment days day c.departs < 2 ^ 50
moment-low net days asked search day n c at =
    let w = search.well.connections n c at in
    let f = w.forward in
    let o = w.offset in
    let b = search.days_of.bases day in
    omega arith

-- there is one moment
pub same-moment : (progress : Progress) (net : Connections) (days : Days) (day a b : ℕ) → IsMoment progress net days day a → IsMoment progress net days day b → a ≡ b
same-moment progress net days day a b (inl x) (inl y) = omega arith
same-moment progress net days day a b (inl x) (inr y) = absurd (omega arith)
same-moment progress net days day a b (inr x) (inl y) = absurd (omega arith)
same-moment progress net days day a b (inr x) (inr y) =
    let here = slice_index progress.cursors.items day in
    let e = ap (λ (k : Connection). moment days day k.departs) (one-at net here here x.2.0 y.2.0 refl x.2.1 y.2.1) in
    x.2.2 ∙ (e ∙ sym y.2.2)

module _ (progress : Progress) (net : Connections) (days : Days) (asked : Asked) (search : IsSearch net days asked) (swept : IsSwept progress net days asked) where
  -- where the day has a next connection, it leaves before its others
  pub moment-before : (day at m : ℕ) (d : Connection) → day < 4 → IsMoment progress net days day at → slice_index progress.cursors.items day ≤ m → m < slice_index progress.ends.items day
      → IsAt net m d → at ≤ moment days day d.departs
  moment-before day at m d day_in (inl x) from to d_at = absurd (omega arith)
  moment-before day at m d day_in (inr x) from to d_at =
      let order = leaves-before net search.well (slice_index progress.cursors.items day) m x.2.0 d from x.2.1 d_at in
      let e = x.2.2 in
      omega arith

  -- each day has its moment
  pub moment-of : (day : ℕ) → day < 4 → (at : ℕ) × IsMoment progress net days day at
  moment-of day day_in =
      elim (cases_lt (slice_index progress.cursors.items day) (slice_index progress.ends.items day)) [
        | inl h ↦
            let in' = swept.ends_in day day_in in
            let here = slice_index progress.cursors.items day in
            let d : Connection = record { departs = 0; arrives = 0; from = 0; to = 0; journey = 0; position = 0 } in
            let of = get_or net.sorted.items here d in
            let at = slice_get-get_or net.sorted.items here d (omega arith) in
            let low = moment-low net days asked search day here of at in
            (moment days day of.departs, inr (h, omega arith, (of, at, refl)))
        | inr h ↦ (2 ^ 64 - 1, inl (h, refl))
      ]

  module _ (next : Next) (first : IsFirst progress net days 4 next) where
    -- the first of the days has the next connection
    pub first-next : next.at < 2 ^ 64 - 1 → IsNext progress net days next.day
    first-next h =
        elim first.at [
          | inl x ↦ absurd (omega (arith, x.1))
          | inr x ↦
              record {
                within = x.0;
                least = λ y m c d y_in from to c_at d_at.
                    let here = slice_index progress.cursors.items next.day in
                    let e = ap (λ (k : Connection). moment days next.day k.departs) (one-at net here here x.2.0 c refl x.2.1 c_at) in
                    let same = x.2.2 in
                    elim (cases_eq y next.day) as (λ _. moment days next.day c.departs ≤ moment days y d.departs) [
                      | inl k ↦
                          let b = moment-before y next.at m d y_in (subst (λ z. IsMoment progress net days z next.at) (sym k) first.at) from to d_at in omega arith
                      | inr ne ↦
                          let other = moment-of y y_in in
                          let o = first.others y other.0 y_in ne other.1 in
                          let b = moment-before y other.0 m d y_in other.1 from to d_at in
                          omega (arith, o.0)
                    ];
              }
        ]

    pub first-limit : IsLimit progress net days next.day next.limit
    first-limit y m d y_in ne from to d_at =
        let other = moment-of y y_in in
        let o = first.others y other.0 y_in ne other.1 in
        let b = moment-before y other.0 m d y_in other.1 from to d_at in
        omega (arith, o.1)

    -- where none is left of the first, none is left
    pub all-done : 2 ^ 64 - 1 ≤ next.at → (day : ℕ) → day < 4 → slice_index progress.ends.items day ≤ slice_index progress.cursors.items day
    all-done h day day_in =
        let other = moment-of day day_in in
        elim (cases_eq day next.day) [
          | inl e ↦
              elim (subst (λ z. IsMoment progress net days z next.at) (sym e) first.at) [
                | inl x ↦ x.0
                | inr x ↦ absurd (omega (arith, x.1))
              ]
          | inr ne ↦
              let o = first.others day other.0 day_in ne other.1 in
              elim other.1 [
                | inl x ↦ x.0
                | inr x ↦ absurd (omega (arith, x.1, o.0))
              ]
        ]

-- one day more was asked
pub first-more : (progress : Progress) (net : Connections) (days : Days) (count at : ℕ) (next : Next) → IsFirst progress net days count next → IsMoment progress net days count at → next.at ≤ at
    → IsFirst progress net days (count + 1) (record { day = next.day; at = next.at; limit = min next.limit at })
first-more progress net days count at next first here le =
    record {
      day_in = let d = first.day_in in omega arith;
      at = first.at;
      limit = let l = first.limit in omega arith;
      others = λ day other h ne is.
          elim (cases_eq day count) as (λ _. (next.at ≤ other) × (min next.limit at ≤ other)) [
            | inl e ↦ let same = same-moment progress net days count at other here (subst (λ k. IsMoment progress net days k other) e is) in (omega arith, omega arith)
            | inr n ↦ let o = first.others day other (omega arith) ne is in (omega (arith, o.0), omega (arith, o.1))
          ];
    }

pub first-now : (progress : Progress) (net : Connections) (days : Days) (count at last : ℕ) (next : Next) → IsFirst progress net days count next → IsMoment progress net days count at → at < next.at → last < 2 ^ 64 - 1
    → IsFirst progress net days (count + 1) (record { day = count; at = at; limit = min next.at last })
first-now progress net days count at last next first here lt bound =
    record {
      day_in = omega arith;
      at = here;
      limit = omega arith;
      others = λ day other h ne is.
          elim (cases_eq day next.day) as (λ _. (at ≤ other) × (min next.at last ≤ other)) [
            | inl e ↦ let same = same-moment progress net days next.day next.at other first.at (subst (λ k. IsMoment progress net days k other) e is) in (omega arith, omega arith)
            | inr n ↦ let o = first.others day other (omega arith) n is in (omega (arith, o.0), omega (arith, o.0))
          ];
    }

-- after a look the day goes on
module _ (begun old new : Progress) (net : Connections) (days : Days) (asked : Asked) (search : IsSearch net days asked) (day limit : ℕ) (day_in : day < 4) (running : IsRunning begun old net days asked day limit)
    (swept : IsSwept new net days asked) (cursors : new.cursors.items ≡ set old.cursors.items day (slice_index old.cursors.items day + 1)) (ends : new.ends.items ≡ old.ends.items) (kept : KeepsReady asked old.labels new.labels) where
  run-here : slice_index new.cursors.items day ≡ slice_index old.cursors.items day + 1
  run-here =
      ap (λ us. get_or us day 0) cursors ∙ get_or-set_same old.cursors.items day (slice_index old.cursors.items day + 1) 0 (let n = running.swept.cursors_count in omega arith)

  run-other : (y : ℕ) → y ≢ day → slice_index new.cursors.items y ≡ slice_index old.cursors.items y
  run-other y ne = ap (λ us. get_or us y 0) cursors ∙ get_or-set_other old.cursors.items day y (slice_index old.cursors.items day + 1) 0 ne

  run-end : (y : ℕ) → slice_index new.ends.items y ≡ slice_index old.ends.items y
  run-end y = ap (λ us. get_or us y 0) ends

  run-limited : IsLimit new net days day limit
  run-limited y m d y_in ne from to d_at = running.limited y m d y_in ne (omega (arith, run-other y ne)) (omega (arith, run-end y)) d_at

  run-next : (at : ℕ) → IsMoment new net days day at → at ≤ limit → limit < 2 ^ 64 - 1 → IsNext new net days day
  run-next at (inl x) le bound = absurd (omega (arith, x.1))
  run-next at (inr x) le bound =
      record {
        within = x.0;
        least = λ y m c d y_in from to c_at d_at.
            let here = slice_index new.cursors.items day in
            let e = ap (λ (k : Connection). moment days day k.departs) (one-at net here here x.2.0 c refl x.2.1 c_at) in
            let same = x.2.2 in
            elim (cases_eq y day) as (λ _. moment days day c.departs ≤ moment days y d.departs) [
              | inl k ↦
                  let order = leaves-before net search.well here m c d (subst (λ z. slice_index new.cursors.items z ≤ m) k from) c_at d_at in
                  subst (λ z. moment days day c.departs ≤ moment days z d.departs) (sym k) (omega arith)
              | inr ne ↦ let l = run-limited y m d y_in ne from to d_at in omega arith
            ];
      }

  pub runs-on : (at : ℕ) → IsMoment new net days day at → at ≤ limit → limit < 2 ^ 64 - 1 → IsRunning begun new net days asked day limit
  runs-on at is le bound =
      record {
        swept = swept;
        next = run-next at is le bound;
        limited = run-limited;
        kept = λ round. kept round ∙ running.kept round;
        ends = ends ∙ running.ends;
        further = let f = running.further in omega (arith, run-here);
        others = λ y ne. run-other y ne ∙ running.others y ne;
      }

  pub run-further : GoesFurther begun new day
  run-further =
      record {
        ends = ends ∙ running.ends;
        further = let f = running.further in omega (arith, run-here);
        others = λ y ne. run-other y ne ∙ running.others y ne;
      }

  pub run-smaller : slice_index new.ends.items day - slice_index new.cursors.items day < slice_index old.ends.items day - slice_index old.cursors.items day
  run-smaller = let w = running.next.within in omega (arith, run-here, run-end day)

-- where a day went on, fewer connections are left
pub fewer-left : (old new : Progress) (net : Connections) (days : Days) (asked : Asked) → IsSwept old net days asked → IsSwept new net days asked → (x : ℕ) → x < 4 → GoesFurther old new x → all_left new < all_left old
fewer-left old new net days asked before after x x_in g =
    let r : (y : ℕ) → y < 4 → left new y ≤ left old y =
    λ y y_in.
    elim (cases_eq y x) as (λ _. left new y ≤ left old y) [
      | inl e ↦ subst (λ k. left new k ≤ left old k) (sym e) (let f = g.further in omega (arith, ap (λ es. get_or es x 0) g.ends))
      | inr ne ↦ omega (arith, g.others y ne, ap (λ es. get_or es y 0) g.ends)
    ] in
    let here : left new x < left old x = let f = g.further in let w = after.within x x_in in omega (arith, ap (λ es. get_or es x 0) g.ends) in
    let r0 = r 0 (omega arith) in
    let r1 = r 1 (omega arith) in
    let r2 = r 2 (omega arith) in
    let r3 = r 3 (omega arith) in
    elim (cases_lt x 1) [
      | inl a ↦ let e : x ≡ 0 = omega arith in let h = subst (λ k. left new k < left old k) e here in omega arith
      | inr a ↦
          elim (cases_lt x 2) [
            | inl b ↦ let e : x ≡ 1 = omega arith in let h = subst (λ k. left new k < left old k) e here in omega arith
            | inr b ↦
                elim (cases_lt x 3) [
                  | inl c ↦ let e : x ≡ 2 = omega arith in let h = subst (λ k. left new k < left old k) e here in omega arith
                  | inr c ↦ let e : x ≡ 3 = omega arith in let h = subst (λ k. left new k < left old k) e here in omega arith
                ]
          ]
    ]
