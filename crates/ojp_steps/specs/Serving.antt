-- A server: doors that listen, and connections that are served one after another.
use Rattle.std.specs.Prelude.{◌≡◌, ◌⊎◌, ℕ, ◌-◌, ◌^◌, min, List, [], ◌∷◌, ◌++◌, All, length, false, IsTrue, Option, Some, IfSome, Result, Ok, Err, codes}
use Rattle.ojp_values.specs.Texts.{Text}
use Rattle.ojp_outside.specs.Causes.{Rose, Rests, next_count}
use Rattle.ojp_outside.specs.Doors.{DoorsView, Entry, Had, listening, has_all}
use Rattle.ojp_outside.specs.declared.doors.DoorRefused.{DoorRefused}
use Rattle.ojp_outside.specs.declared.doors.DoorRefused.TheVariants.{Failed, Closed}
use Rattle.ojp_http.specs.Connections.{Wire, Serves}
use Rattle.ojp_http.specs.Asking.{ReadsNoFurther}
use Rattle.ojp_http.specs.declared.served.Served.{Served}
use Rattle.ojp_outside.specs.Seen.{SinkView}
use Rattle.ojp_steps.specs.Lent.{Lent, before, after, IsUnused, Gains, GainsInPart}
use Rattle.ojp_steps.specs.declared.serving.NotServed.{NotServed}
use Rattle.ojp_steps.specs.declared.serving.NotServed.TheVariants.{Memory, Output, Doors}

-- what is seen of doors: what was asked of them with the connections, and how often a call failed
pub record DoorsSeen : Type 0 where
  pub view : DoorsView
  pub faults : ℕ

abbrev pub seen_as : DoorsView → ℕ → DoorsSeen
seen_as view faults = record { view = view; faults = faults }

-- what a server writes once it listens
abbrev pub ready : Text
ready = codes "ready\n"

-- a connection had this, with these bytes written, where that is told
pub record IsWire (wire : Wire) (had : Had) (told : Option Text) : Type 0 where
  pub left : wire.input.left ≡ had.left
  pub reads : wire.input.faults ≡ had.input_faults
  pub writes : wire.output.faults ≡ had.output_faults
  pub written : wire.output.written ≡ told

-- the connection was served, where Answers relates bodies to statuses and texts: nothing was written to it when it was given, what
-- stands there serves what it had left, or a front of that does where a read or a write failed, and no more was read than decides it
pub record IsServed (Answers : Text → ℕ → Text → Type 0) (entry : Entry) : Type 0 where
  pub old : Wire
  pub new : Wire
  pub given : IsWire old entry.given (Some [])
  pub back : IsWire new entry.back entry.written
  pub ended : Served
  pub serves : Serves Answers old new ended
  pub taken : ReadsNoFurther old.input.left new.input.left

-- behind these entries stand those of the connections that came back since the doors listen, each served, and as many as were given
pub record AreServed (Answers : Text → ℕ → Text → Type 0) (new : DoorsView) (entries : List Entry) : Type 0 where
  pub more : List Entry
  pub returned : new.returned ≡ Some (entries ++ more)
  pub given : new.given ≡ min (length more) (2 ^ 64 - 1)
  pub served : All (IsServed Answers) more

-- one connection was given, served and came back
pub record ServedOne (Answers : Text → ℕ → Text → Type 0) (old new : DoorsView) : Type 0 where
  pub asked : new.asked ≡ old.asked
  pub given : new.given ≡ next_count old.given
  pub none_out : new.is_out ≡ false
  pub entry : IfSome old.returned (λ entries. (entry : Entry) × (new.returned ≡ Some (entries ++ entry ∷ [])) × IsServed Answers entry)

-- since the doors listen, connections were served one after another, and each came back
pub record HasServed (Answers : Text → ℕ → Text → Type 0) (old new : DoorsView) : Type 0 where
  pub asked : new.asked ≡ old.asked
  pub none_out : new.is_out ≡ false
  pub entries : IfSome old.returned (AreServed Answers new)

-- the doors listen at the port for so many connections, or without end; no connection was given
pub record Listens {D : Type 0} (port : ℕ) (count : Option ℕ) (doors : Lent D DoorsSeen) : Type 0 where
  pub view : (after doors).view ≡ listening (before doors).view port count
  pub calm : (after doors).faults ≡ (before doors).faults

-- the doors could not listen at the port
pub record FailsToListen {D : Type 0} (port : ℕ) (count : Option ℕ) (doors : Lent D DoorsSeen) : Type 0 where
  pub view : (after doors).view ≡ listening (before doors).view port count
  pub rose : Rose (before doors).faults (after doors).faults

-- the doors listened at the port, and so many connections as were asked for were served
pub record ServesAll {D : Type 0} (Answers : Text → ℕ → Text → Type 0) (port : ℕ) (count : Option ℕ) (doors : Lent D DoorsSeen) : Type 0 where
  pub served : HasServed Answers (listening (before doors).view port count) (after doors).view
  pub closed : IsTrue (has_all (after doors).view.asked (after doors).view.given)
  pub calm : (after doors).faults ≡ (before doors).faults

-- the doors listened at the port, connections were served, and the next could not be given
pub record ServesInPart {D : Type 0} (Answers : Text → ℕ → Text → Type 0) (port : ℕ) (count : Option ℕ) (doors : Lent D DoorsSeen) : Type 0 where
  pub served : HasServed Answers (listening (before doors).view port count) (after doors).view
  pub rose : Rose (before doors).faults (after doors).faults

-- one connection was given, served and came back; or none was given, as all were, or since the call failed
abbrev pub ServesNext : (Text → ℕ → Text → Type 0) → DoorsSeen → DoorsSeen → Result (Unit {0}) DoorRefused → Type 0
ServesNext Answers old new (Ok nothing) = ServedOne Answers old.view new.view × (new.faults ≡ old.faults)
ServesNext Answers old new (Err Closed) = IsTrue (has_all old.view.asked old.view.given) × (new ≡ old)
ServesNext Answers old new (Err Failed) = (new.view ≡ old.view) × Rose old.faults new.faults

-- connections were served until none was given
abbrev pub ServesUntil : (Text → ℕ → Text → Type 0) → DoorsSeen → DoorsSeen → DoorRefused → Type 0
ServesUntil Answers old new Closed = HasServed Answers old.view new.view × IsTrue (has_all new.view.asked new.view.given) × (new.faults ≡ old.faults)
ServesUntil Answers old new Failed = HasServed Answers old.view new.view × Rose old.faults new.faults

-- the doors listen, and it was said so; or why not, and what was left alone
abbrev pub Starts : {O D : Type 0} → ℕ → Option ℕ → Lent O SinkView → Lent D DoorsSeen → Result (Unit {0}) NotServed → Type 0
Starts port count output doors (Ok nothing) = Gains output ready × Listens port count doors
Starts port count output doors (Err Memory) = ⊥
Starts port count output doors (Err Output) = GainsInPart output ready × Listens port count doors
Starts port count output doors (Err Doors) = IsUnused output × FailsToListen port count doors

-- a server said that it listens and served all that it was asked for; or why it did not, and what it left alone
abbrev pub ServesAt : {O D : Type 0} → (Text → ℕ → Text → Type 0) → ℕ → Option ℕ → Lent O SinkView → Lent D DoorsSeen → Result (Unit {0}) NotServed → Type 0
ServesAt Answers port count output doors (Ok nothing) = Gains output ready × ServesAll Answers port count doors
ServesAt Answers port count output doors (Err Memory) = IsUnused output × IsUnused doors
ServesAt Answers port count output doors (Err Output) = GainsInPart output ready × Listens port count doors
ServesAt Answers port count output doors (Err Doors) =
    (IsUnused output × FailsToListen port count doors) ⊎ (Gains output ready × ServesInPart Answers port count doors)

-- no call of the doors failed
abbrev pub DoorsRest : {D : Type 0} → Lent D DoorsSeen → Type 0
DoorsRest doors = Rests (before doors).faults (after doors).faults
