-- Both forms of a united journey say the same.
use Rattle.std.proofs.Common.{◌≡◌, ◌≢◌, ℕ, Bool, cond, List, [], ◌∷◌, sym, ◌∙◌, subst, inl, inr}
use Rattle.ojp_values.specs.Lists.{Among, Each}
use Rattle.ojp_values.specs.Texts.{Text}
use Rattle.ojp_values.specs.declared.trips.Leg.{Leg}
use Rattle.ojp_timetable.specs.Tables.{Timetable}
use Rattle.ojp_timetable.specs.Journeys.{Standing, IsAt, alighted, after, reached, AllFollow, Follows, IsCrossing, Crosses, MayFollow, Row, rows_from, LeadsElsewhere, United, AreTables}
use Rattle.ojp_timetable.specs.Stepwise.{LeadsOn, Stepwise, FormsAgree}
use Rattle.ojp_timetable.proofs.RideFacts.{leg_region}
use Rattle.ojp_timetable.proofs.TextFacts.{is_same, is_differ}

-- the flat words on what follows where one stands, in a row that began at the stop `from`
record IsFlat (tables : List Timetable) (from : Text) (at : Standing) (legs : List Leg) (d : Text) (a : ℕ) : Type 0 where
  follow : AllFollow (MayFollow tables) at legs
  ends : IsAt (reached at legs) d a
  rows : Each LeadsElsewhere (rows_from from at legs)

-- the rows after a leg, by whether it is of the same region
abbrev rows_by : Bool → Text → Standing → Leg → List Leg → List Row
rows_by b from at leg legs = cond b (rows_from from (after at leg) legs) (record { from = from; to = at } ∷ rows_from leg.board (after at leg) legs)

-- the rows after a leg of the same region
same_row : (from : Text) (at : Standing) (leg : Leg) (legs : List Leg) → at.region ≡ leg.region → Each LeadsElsewhere (rows_from from (after at leg) legs) → Each LeadsElsewhere (rows_from from at (leg ∷ legs))
same_row from at leg legs e rows = subst (λ (b : Bool). Each LeadsElsewhere (rows_by b from at leg legs)) (sym (is_same at.region leg.region e)) rows

row_same : (from : Text) (at : Standing) (leg : Leg) (legs : List Leg) → at.region ≡ leg.region → Each LeadsElsewhere (rows_from from at (leg ∷ legs)) → Each LeadsElsewhere (rows_from from (after at leg) legs)
row_same from at leg legs e rows = subst (λ (b : Bool). Each LeadsElsewhere (rows_by b from at leg legs)) (is_same at.region leg.region e) rows

-- the rows after a leg of another region
next_row : (from : Text) (at : Standing) (leg : Leg) (legs : List Leg) → at.region ≢ leg.region → from ≢ at.stop → Each LeadsElsewhere (rows_from leg.board (after at leg) legs) → Each LeadsElsewhere (rows_from from at (leg ∷ legs))
next_row from at leg legs e elsewhere rows = subst (λ (b : Bool). Each LeadsElsewhere (rows_by b from at leg legs)) (sym (is_differ at.region leg.region e)) (elsewhere, rows)

row_next : (from : Text) (at : Standing) (leg : Leg) (legs : List Leg) → at.region ≢ leg.region → Each LeadsElsewhere (rows_from from at (leg ∷ legs)) → (from ≢ at.stop) × Each LeadsElsewhere (rows_from leg.board (after at leg) legs)
row_next from at leg legs e rows = subst (λ (b : Bool). Each LeadsElsewhere (rows_by b from at leg legs)) (is_differ at.region leg.region e) rows

flat :
    (tables : List Timetable) (table : Timetable) (from : Text) (at : Standing) (legs : List Leg) (d : Text) (a : ℕ)
    → Among table tables → at.region ≡ table.region → LeadsOn tables from table at legs d a → IsFlat tables from at legs d a
flat tables table from at [] d a of_tables here on =
    record { follow = tt; ends = on.1; rows = (λ e. on.0 (e ∙ on.1.0), tt) }
flat tables table from at (leg ∷ legs) d a of_tables here (inl on) =
    let region : leg.region ≡ table.region = leg_region table leg on.0.0 in
    let rest : IsFlat tables from (after at leg) legs d a = flat tables table from (after at leg) legs d a of_tables region on.1 in
    record {
      follow = (inl (table, of_tables, here, on.0), rest.follow);
      ends = rest.ends;
      rows = same_row from at leg legs (here ∙ sym region) rest.rows;
    }
flat tables table from at (leg ∷ legs) d a of_tables here (inr (right, of_right, elsewhere, crosses, on)) =
    let region : leg.region ≡ right.region = leg_region right leg crosses.0 in
    let rest : IsFlat tables leg.board (after at leg) legs d a = flat tables right leg.board (after at leg) legs d a of_right region on in
    let crossing : IsCrossing table at.stop right crosses.2 = crosses.3 in
    record {
      follow = (inr (table, right, of_tables, of_right, here, crosses), rest.follow);
      ends = rest.ends;
      rows = next_row from at leg legs (λ e. crossing.other (sym here ∙ (e ∙ region))) elsewhere rest.rows;
    }

unflat :
    (tables : List Timetable) (table : Timetable) (from : Text) (at : Standing) (legs : List Leg) (d : Text) (a : ℕ)
    → AreTables tables → Among table tables → at.region ≡ table.region → AllFollow (MayFollow tables) at legs → IsAt (reached at legs) d a → Each LeadsElsewhere (rows_from from at legs)
    → LeadsOn tables from table at legs d a
unflat tables table from at [] d a well of_tables here follow ends rows = (λ e. rows.0 (e ∙ sym ends.0), ends)
unflat tables table from at (leg ∷ legs) d a well of_tables here (inl (own, of_own, region, follows), more) ends rows =
    let is : own ≡ table = well.one_each own table of_own of_tables (sym region ∙ here) in
    let next : Follows table at leg = subst (λ (it : Timetable). Follows it at leg) is follows in
    let there : leg.region ≡ table.region = leg_region table leg next.0 in
    inl (next, unflat tables table from (after at leg) legs d a well of_tables there more ends (row_same from at leg legs (here ∙ sym there) rows))
unflat tables table from at (leg ∷ legs) d a well of_tables here (inr (left, right, of_left, of_right, region, crosses), more) ends rows =
    let is : left ≡ table = well.one_each left table of_left of_tables (sym region ∙ here) in
    let over : Crosses table at right leg = subst (λ (it : Timetable). Crosses it at right leg) is crosses in
    let crossing : IsCrossing table at.stop right over.2 = over.3 in
    let there : leg.region ≡ right.region = leg_region right leg over.0 in
    let apart : (from ≢ at.stop) × Each LeadsElsewhere (rows_from leg.board (after at leg) legs) = row_next from at leg legs (λ e. crossing.other (sym here ∙ (e ∙ there))) rows in
    inr (right, of_right, apart.0, over, unflat tables right leg.board (after at leg) legs d a well of_right there more ends apart.1)

pub to_united : (tables : List Timetable) (o : Text) (t : ℕ) (d : Text) (a : ℕ) (legs : List Leg) → Stepwise tables o t d a legs → United tables o t d a legs
to_united tables o t d a [] steps = absurd steps
to_united tables o t d a (leg ∷ legs) (table, of_tables, differ, within, ride, boards, leaves, on) =
    let it : IsFlat tables leg.board (alighted leg) legs d a =
    flat tables table leg.board (alighted leg) legs d a of_tables (leg_region table leg ride) (subst (λ (from : Text). LeadsOn tables from table (alighted leg) legs d a) (sym boards) on) in
    (differ, within, (table, of_tables, ride), boards, leaves, it.follow, it.ends, it.rows)

pub to_stepwise : (tables : List Timetable) (o : Text) (t : ℕ) (d : Text) (a : ℕ) (legs : List Leg) → AreTables tables → United tables o t d a legs → Stepwise tables o t d a legs
to_stepwise tables o t d a [] well united = absurd united
to_stepwise tables o t d a (leg ∷ legs) well (differ, within, (table, of_tables, ride), boards, leaves, follow, ends, rows) = (
  table,
  of_tables,
  differ,
  within,
  ride,
  boards,
  leaves,
  subst (λ (from : Text). LeadsOn tables from table (alighted leg) legs d a) boards (unflat tables table leg.board (alighted leg) legs d a well of_tables (leg_region table leg ride) follow ends rows),
)

pub forms_agree : FormsAgree
forms_agree tables well o t d a legs = (to_united tables o t d a legs, to_stepwise tables o t d a legs well)
