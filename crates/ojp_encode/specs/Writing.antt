-- What a call wrote, and the bytes that say something of a shape.
use Rattle.std.specs.Prelude.{ℕ, List, [], Option, Result, OnOk, OnErr}
use Rattle.std.specs.Io.KnownBytes.{Appends}
use Rattle.ojp_outside.specs.declared.sink.WriteFault.{WriteFault}
use Rattle.ojp_outside.specs.Causes.{HasCause}
use Rattle.ojp_outside.specs.Known.{AppendsPrefix}
use Rattle.ojp_grammar.specs.Items.{spell}
use Rattle.ojp_grammar.specs.Syntax.{Syntax, Says, put}

-- the bytes that say it
unfoldable pub spelling : (s : Syntax) → Says s → List ℕ
spelling s v = spell (put s v [])

-- told bytes grew by these, or by a prefix of them where a write failed; the count of faults rose there, and never fell
pub record Writes (old new : Option (List ℕ)) (before now : ℕ) (bytes : List ℕ) (result : Result (Unit {0}) WriteFault) : Type 0 where
  pub ok : OnOk result (Appends old new bytes)
  pub err : OnErr result (AppendsPrefix old new bytes)
  pub cause : HasCause before now result
