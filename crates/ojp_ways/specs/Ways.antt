-- Ways through many regions, and what a search hears of them.
use Rattle.std.specs.Prelude.{List, [], ◌∷◌, ◌++◌}

-- one goes on by rides of one region, from a place with a label to an end with a label; and by a change of region,
-- from an end with a label to a place with a label. Some places with a label are where one starts
pub record Ways : Type 1 where
  pub Place : Type 0
  pub Label : Type 0
  pub Starts : Place → Label → Type 0
  pub Rides : Place → Label → Place → Label → Type 0
  pub Change : Place → Label → Place → Label → Type 0

-- rides and changes in a row, from a start
pub data Reached (ways : Ways) : ways.Place → ways.Label → Type 0 where
  FirstRides : {p : ways.Place} {l : ways.Label} {q : ways.Place} {m : ways.Label} → ways.Starts p l → ways.Rides p l q m → Reached ways q m
  NextRides : {q : ways.Place} {m : ways.Label} {p : ways.Place} {l : ways.Label} {r : ways.Place} {n : ways.Label}
      → Reached ways q m → ways.Change q m p l → ways.Rides p l r n → Reached ways r n

-- rides and changes in a row, on to an end
pub data LeadsTo (ways : Ways) (q : ways.Place) (m : ways.Label) : ways.Place → ways.Label → Type 0 where
  LastRides : {p : ways.Place} {l : ways.Label} → ways.Rides p l q m → LeadsTo ways q m p l
  RidesThen : {p : ways.Place} {l : ways.Label} {r : ways.Place} {n : ways.Label} {s : ways.Place} {k : ways.Label}
      → ways.Rides p l r n → ways.Change r n s k → LeadsTo ways q m s k → LeadsTo ways q m p l

-- each of the later entries stands in the relation to what was told before it
abbrev pub InTurn : {Entry : Type 0} → (List Entry → Entry → Type 0) → List Entry → List Entry → Type 0
InTurn Tells told [] = Unit {0}
InTurn Tells told (entry ∷ later) = Tells told entry × InTurn Tells (told ++ entry ∷ []) later

-- rides from a known label end here
pub record HasKnown (ways : Ways) (Known : ways.Place → ways.Label → Type 0) (q : ways.Place) (m : ways.Label) : Type 0 where
  pub place : ways.Place
  pub label : ways.Label
  pub known : Known place label
  pub rides : ways.Rides place label q m

-- a heard end leads here by a change
pub record HasHeard (ways : Ways) (Heard : ways.Place → ways.Label → Type 0) (p : ways.Place) (l : ways.Label) : Type 0 where
  pub place : ways.Place
  pub label : ways.Label
  pub heard : Heard place label
  pub change : ways.Change place label p l

-- the rides go as well from a label that is as good
pub record RidesAsWell (ways : Ways) (Good : ways.Label → ways.Label → Type 0) (p : ways.Place) (l : ways.Label) (q : ways.Place) (m : ways.Label) : Type 0 where
  pub label : ways.Label
  pub rides : ways.Rides p l q label
  pub as_good : Good label m

-- the change goes as well from a label that is as good
pub record ChangesAsWell (ways : Ways) (Good : ways.Label → ways.Label → Type 0) (q : ways.Place) (m : ways.Label) (p : ways.Place) (l : ways.Label) : Type 0 where
  pub label : ways.Label
  pub change : ways.Change q m p label
  pub as_good : Good label l

-- some change leads out of the end
pub record LeadsOut (ways : Ways) (q : ways.Place) (m : ways.Label) : Type 0 where
  pub place : ways.Place
  pub label : ways.Label
  pub change : ways.Change q m place label

-- what is as good is an order, in which no way betters a label, and from a better label one goes as well
pub record IsOrder (ways : Ways) (Good : ways.Label → ways.Label → Type 0) : Type 0 where
  pub itself : (l : ways.Label) → Good l l
  pub trans : (l m n : ways.Label) → Good l m → Good m n → Good l n
  pub rides_worsen : (p : ways.Place) (l : ways.Label) (q : ways.Place) (m : ways.Label) → ways.Rides p l q m → Good l m
  pub change_worsens : (q : ways.Place) (m : ways.Label) (p : ways.Place) (l : ways.Label) → ways.Change q m p l → Good m l
  pub rides_as_well : (k l : ways.Label) (p q : ways.Place) (m : ways.Label) → Good k l → ways.Rides p l q m → RidesAsWell ways Good p k q m
  pub change_as_well : (k m : ways.Label) (q p : ways.Place) (l : ways.Label) → Good k m → ways.Change q m p l → ChangesAsWell ways Good q k p l

-- a label as good is known
pub record KnownAsGood (ways : Ways) (Good : ways.Label → ways.Label → Type 0) (Known : ways.Place → ways.Label → Type 0) (p : ways.Place) (l : ways.Label) : Type 0 where
  pub label : ways.Label
  pub known : Known p label
  pub as_good : Good label l

-- an end as good was heard there
pub record HeardAsGood (ways : Ways) (Good : ways.Label → ways.Label → Type 0) (Heard : ways.Place → ways.Label → Type 0) (q : ways.Place) (m : ways.Label) : Type 0 where
  pub label : ways.Label
  pub heard : Heard q label
  pub as_good : Good label m

-- an end as good was heard where the search leads to
pub record Beaten (ways : Ways) (Good : ways.Label → ways.Label → Type 0) (AtEnd : ways.Place → Type 0) (Heard : ways.Place → ways.Label → Type 0) (m : ways.Label) : Type 0 where
  pub place : ways.Place
  pub label : ways.Label
  pub at_end : AtEnd place
  pub heard : Heard place label
  pub as_good : Good label m
