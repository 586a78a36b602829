-- What a call was lent: an object before the call and after it, with what is seen of it.
use Rattle.std.specs.Prelude.{◌≡◌, [], ◌∷◌}
use Rattle.std.specs.Io.KnownBytes.{Appends}
use Rattle.ojp_values.specs.Texts.{Text}
use Rattle.ojp_outside.specs.Causes.{Rests, Rose}
use Rattle.ojp_outside.specs.Known.{AppendsPrefix}
use Rattle.ojp_outside.specs.Seen.{SinkView}

pub record Lent (A S : Type 0) : Type 0 where
  pub seen : A → S
  pub old : A
  pub new : A

-- an object that was this before the call and is that after it, by what is seen of it
abbrev pub lent : {A S : Type 0} → (A → S) → A → A → Lent A S
lent seen old new = record { seen = seen; old = old; new = new }

-- what was seen of it before the call
abbrev pub before : {A S : Type 0} → Lent A S → S
before lent = lent.seen lent.old

-- what is seen of it after the call
abbrev pub after : {A S : Type 0} → Lent A S → S
after lent = lent.seen lent.new

-- the call left it alone
abbrev pub IsUnused : {A S : Type 0} → Lent A S → Type 0
IsUnused lent = lent.new ≡ lent.old

-- ---- sinks

-- the output gained just these bytes, and no write failed
pub record Gains {A : Type 0} (output : Lent A SinkView) (bytes : Text) : Type 0 where
  pub gained : Appends (before output).written (after output).written bytes
  pub calm : (after output).faults ≡ (before output).faults

-- a write failed, and the output gained a front of these bytes
pub record GainsInPart {A : Type 0} (output : Lent A SinkView) (bytes : Text) : Type 0 where
  pub gained : AppendsPrefix (before output).written (after output).written bytes
  pub rose : Rose (before output).faults (after output).faults

-- standard error gained just these bytes, unless a write to it failed
abbrev pub Tells : {A : Type 0} → Lent A SinkView → Text → Type 0
Tells faults bytes = Rests (before faults).faults (after faults).faults → Appends (before faults).written (after faults).written bytes

-- standard error gained just the trace, unless a write to it failed; it was left alone where there is none to tell
abbrev pub TellsTrace : {A : Type 0} → Lent A SinkView → Text → Type 0
TellsTrace faults [] = IsUnused faults
TellsTrace faults (b ∷ trace) = Tells faults (b ∷ trace)
