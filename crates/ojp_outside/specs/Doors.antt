-- Doors: what was asked of them, and which connections were given and came back.
use Rattle.std.specs.Prelude.{◌≡◌, ℕ, ◌+◌, ◌≤◌, Bool, true, false, nat_le, List, [], ◌∷◌, ◌++◌, IfSome, Option, Some, None, Result, Ok, Err}
use Rattle.ojp_outside.specs.Causes.{next_count}
use Rattle.ojp_outside.specs.Seen.{SourceView, SinkView}
use Rattle.ojp_outside.specs.declared.doors.DoorRefused.{DoorRefused}
use Rattle.ojp_outside.specs.declared.doors.DoorRefused.TheVariants.{Failed, Closed}

-- what a connection has: the bytes that its input has left, where they are told, and the faults of input and output
pub record Had : Type 0 where
  pub left : Option (List ℕ)
  pub input_faults : ℕ
  pub output_faults : ℕ

-- what a connection has by what is seen of its input and of its output
abbrev pub had_by : SourceView → SinkView → Had
had_by input output = record { left = input.left; input_faults = input.faults; output_faults = output.faults }

-- a connection that came back: what it had when it was given and when it came back, and what was written to it, where that is told
pub record Entry : Type 0 where
  pub given : Had
  pub back : Had
  pub written : Option (List ℕ)

-- the port that was last asked for, and how many connections
pub record Asked : Type 0 where
  pub port : ℕ
  pub count : Option ℕ

pub record DoorsView : Type 0 where
  pub asked : Option Asked
  -- the connections given since
  pub given : ℕ
  pub is_out : Bool
  -- where it is told, what the connection that is out had when it was given
  pub out : Option Had
  -- where they are told, the connections that came back
  pub returned : Option (List Entry)

-- the count of faults after a call: it rises where the call failed, and nowhere else
abbrev pub faults_after_call : {T : Type 0} → Result T DoorRefused → ℕ → ℕ
faults_after_call (Ok value) faults = faults
faults_after_call (Err Failed) faults = next_count faults
faults_after_call (Err Closed) faults = faults

-- nothing was asked yet
abbrev pub no_doors : DoorsView
no_doors = record { asked = None; given = 0; is_out = false; out = None; returned = None }

-- so many connections were asked for, and as many were given
abbrev pub has_all : Option Asked → ℕ → Bool
has_all None given = false
has_all (Some asked) given = is_count asked.count
  where
    is_count : Option ℕ → Bool
    is_count None = false
    is_count (Some count) = nat_le count given

-- the doors once they listen
abbrev pub listening : DoorsView → ℕ → Option ℕ → DoorsView
listening old port count = record old { asked = Some (record { port = port; count = count }); given = 0 }

-- a connection was given that has this; it is told where the connections that came back are
pub record Gives (old new : DoorsView) (had : Had) : Type 0 where
  pub asked : new.asked ≡ old.asked
  pub given : new.given ≡ next_count old.given
  pub is_out : new.is_out ≡ true
  pub returned : new.returned ≡ old.returned
  pub out : IfSome old.returned (λ entries. new.out ≡ Some had)

-- the connection that is out came back, with this in it
pub record Returns (old new : DoorsView) (back : Had) (written : Option (List ℕ)) : Type 0 where
  pub asked : new.asked ≡ old.asked
  pub given : new.given ≡ old.given
  pub is_out : new.is_out ≡ false
  pub returned : IfSome old.returned (λ entries. IfSome old.out (λ had. new.returned ≡ Some (entries ++ (record { given = had; back = back; written = written }) ∷ [])))
