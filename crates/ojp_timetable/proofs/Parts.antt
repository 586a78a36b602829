-- A united journey is a row of regional journeys, each of another region than its neighbours.
use Rattle.std.proofs.Common.{◌≡◌, ◌≢◌, ℕ, suc, ◌+◌, ◌≤◌, List, [], ◌∷◌, ◌++◌, length, refl, sym, ◌∙◌, ap, subst, inl, inr}
use Rattle.ojp_values.specs.Lists.{Among}
use Rattle.ojp_values.specs.Texts.{Text}
use Rattle.ojp_values.specs.declared.trips.Leg.{Leg}
use Rattle.ojp_timetable.specs.Tables.{Timetable}
use Rattle.ojp_timetable.specs.Runs.{IsLeg}
use Rattle.ojp_timetable.specs.Journeys.{Standing, IsAt, alighted, after, reached, AllFollow, Follows, Leads, IsCrossing}
use Rattle.ojp_timetable.specs.Stepwise.{LeadsOn}

-- so many rides of one table, the first of which leaves o at m, lead to d at a
pub record IsPart (tables : List Timetable) (table : Timetable) (o : Text) (m : ℕ) (d : Text) (a n : ℕ) : Type 0 where
  pub of_tables : Among table tables
  pub elsewhere : o ≢ d
  pub first : Leg
  pub rest : List Leg
  pub is_leg : IsLeg table first
  pub boards : first.board ≡ o
  pub departs : first.departs ≡ m
  pub follow : AllFollow (Follows table) (alighted first) rest
  pub ends : IsAt (reached (alighted first) rest) d a
  pub rides : suc (length rest) ≡ n

-- parts in a row, each of another region than the one before, to the stop d at a; the first is of the table and
-- leaves o at m, and so many rides are in them
pub data Parts (tables : List Timetable) (d : Text) (a : ℕ) : Timetable → Text → ℕ → ℕ → Type 0 where
  LastPart : {table : Timetable} {o : Text} {m n : ℕ} → IsPart tables table o m d a n → Parts tables d a table o m n
  NextPart : {table : Timetable} {o : Text} {m n : ℕ} {right : Timetable} {departs k : ℕ} (stop : Text) (arrived change : ℕ)
      → IsPart tables table o m stop arrived n → IsCrossing table stop right change → arrived + change ≤ departs
      → Parts tables d a right stop departs k → Parts tables d a table o m (n + k)

-- the first part is of a table of the list
pub parts_table : (tables : List Timetable) (d : Text) (a : ℕ) (table : Timetable) (o : Text) (m n : ℕ) → Parts tables d a table o m n → Among table tables
parts_table tables d a table o m n (LastPart part) = part.of_tables
parts_table tables d a table o m n (NextPart stop arrived change part crossing passed more) = part.of_tables

-- a part is a journey from each moment that is not after its departure
pub part_leads : (tables : List Timetable) (table : Timetable) (o : Text) (t m : ℕ) (d : Text) (a n : ℕ) → t ≤ m → (part : IsPart tables table o m d a n) → Leads table o t (part.first ∷ part.rest) d a
part_leads tables table o t m d a n early part =
    (part.is_leg, part.boards, subst (λ (x : ℕ). t ≤ x) (sym part.departs) early, part.follow, part.ends)

follow_more : (May : Standing → Leg → Type 0) (at : Standing) (legs : List Leg) (leg : Leg) → AllFollow May at legs → May (reached at legs) leg → AllFollow May at (legs ++ leg ∷ [])
follow_more May at [] leg follow next = (next, tt)
follow_more May at (first ∷ legs) leg follow next = (follow.0, follow_more May (after at first) legs leg follow.1 next)

reached_more : (at : Standing) (legs : List Leg) (leg : Leg) → reached at (legs ++ leg ∷ []) ≡ after (reached at legs) leg
reached_more at [] leg = refl
reached_more at (first ∷ legs) leg = reached_more (after at first) legs leg

-- the rides of the table so far, the first of which leaves the stop `from` at m, lead here
record SoFar (table : Timetable) (from : Text) (m : ℕ) (at : Standing) : Type 0 where
  first : Leg
  rest : List Leg
  is_leg : IsLeg table first
  boards : first.board ≡ from
  departs : first.departs ≡ m
  follow : AllFollow (Follows table) (alighted first) rest
  here : reached (alighted first) rest ≡ at

begun : (table : Timetable) (leg : Leg) → IsLeg table leg → SoFar table leg.board leg.departs (alighted leg)
begun table leg ride = record { first = leg; rest = []; is_leg = ride; boards = refl; departs = refl; follow = tt; here = refl }

one_more : (table : Timetable) (from : Text) (m : ℕ) (at : Standing) (leg : Leg) → SoFar table from m at → Follows table at leg → SoFar table from m (after at leg)
one_more table from m at leg row next =
    record {
      first = row.first;
      rest = row.rest ++ leg ∷ [];
      is_leg = row.is_leg;
      boards = row.boards;
      departs = row.departs;
      follow = follow_more (Follows table) (alighted row.first) row.rest leg row.follow (subst (λ (s : Standing). Follows table s leg) (sym row.here) next);
      here = reached_more (alighted row.first) row.rest leg ∙ ap (λ (s : Standing). after s leg) row.here;
    }

as_part : (tables : List Timetable) (table : Timetable) (from : Text) (m : ℕ) (at : Standing) (d : Text) (a : ℕ) → Among table tables → from ≢ d → IsAt at d a → (row : SoFar table from m at) → IsPart tables table from m d a (suc (length row.rest))
as_part tables table from m at d a of_tables elsewhere ends row =
    record {
      of_tables = of_tables;
      elsewhere = elsewhere;
      first = row.first;
      rest = row.rest;
      is_leg = row.is_leg;
      boards = row.boards;
      departs = row.departs;
      follow = row.follow;
      ends = subst (λ (s : Standing). IsAt s d a) (sym row.here) ends;
      rides = refl;
    }

-- parts with some number of rides
pub record HasParts (tables : List Timetable) (d : Text) (a : ℕ) (table : Timetable) (o : Text) (m : ℕ) : Type 0 where
  pub rides : ℕ
  pub parts : Parts tables d a table o m rides

split :
    (tables : List Timetable) (from : Text) (m : ℕ) (table : Timetable) (at : Standing) (legs : List Leg) (d : Text) (a : ℕ)
    → Among table tables → SoFar table from m at → LeadsOn tables from table at legs d a → HasParts tables d a table from m
split tables from m table at [] d a of_tables row on =
    record { rides = suc (length row.rest); parts = LastPart (as_part tables table from m at d a of_tables on.0 on.1 row) }
split tables from m table at (leg ∷ legs) d a of_tables row (inl on) =
    split tables from m table (after at leg) legs d a of_tables (one_more table from m at leg row on.0) on.1
split tables from m table at (leg ∷ legs) d a of_tables row (inr (right, of_right, elsewhere, (ride, boards, change, crossing, passed), on)) =
    let rest : HasParts tables d a right leg.board leg.departs = split tables leg.board leg.departs right (alighted leg) legs d a of_right (begun right leg ride) on in
    record {
      rides = suc (length row.rest) + rest.rides;
      parts = NextPart at.stop at.moment change (as_part tables table from m at at.stop at.moment of_tables elsewhere (refl, refl) row) crossing passed
          (subst (λ (s : Text). Parts tables d a right s leg.departs rest.rides) boards rest.parts);
    }

-- a journey that begins with the leg is parts in a row
pub split_at : (tables : List Timetable) (table : Timetable) (leg : Leg) (legs : List Leg) (d : Text) (a : ℕ) → Among table tables → IsLeg table leg → LeadsOn tables leg.board table (alighted leg) legs d a → HasParts tables d a table leg.board leg.departs
split_at tables table leg legs d a of_tables ride on = split tables leg.board leg.departs table (alighted leg) legs d a of_tables (begun table leg ride) on
