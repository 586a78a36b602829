-- What the body of a request is read as, and what is read of a connection.
use Rattle.std.specs.Prelude.{◌≡◌, ◌≢◌, Option, Some, Result, Ok, Err}
use Rattle.ojp_outside.specs.Causes.{Rose}
use Rattle.ojp_outside.specs.Seen.{SourceView}
use Rattle.ojp_values.specs.Limits.{IsWellAsk}
use Rattle.ojp_values.specs.Texts.{Text}
use Rattle.ojp_values.specs.declared.asks.Ask.{Ask}
use Rattle.ojp_grammar.specs.declared.refusals.Want.TheVariants.{Request}
use Rattle.ojp_grammar.specs.declared.refusals.WholeRefused.{WholeRefused}
use Rattle.ojp_grammar.specs.Answering.{SpellsAsk}
use Rattle.ojp_grammar.specs.Places.{IsDocumentRefused}
use Rattle.ojp_grammar.specs.Whole.{IsWholeRefused}
use Rattle.ojp_http.specs.declared.refusal.HttpRefusal.TheVariants as refusals
use Rattle.ojp_http.specs.Asking.{Allows, HttpAsk, ReadsNoFurther}
use Rattle.ojp_bodies.specs.declared.requests.Declined.{Declined}
use Rattle.ojp_bodies.specs.declared.requests.Declined.TheVariants as declined

-- the body is the document of the ask, or it is refused as no document of one
abbrev pub Reads : Text → Result Ask WholeRefused → Type 0
Reads body (Ok ask) = SpellsAsk ask body × IsWellAsk ask
Reads body (Err refused) = IsWholeRefused Request body refused

-- the bytes are told, and are a request whose body is the document of an ask
pub record IsAsked (left : Option Text) : Type 0 where
  pub bytes : Text
  pub told : left ≡ Some bytes
  pub body : Text
  pub framed : HttpAsk bytes (Ok body)
  pub ask : Ask
  pub spells : SpellsAsk ask body

-- what a request gives of the bytes that were left: the ask that its body spells, or why it asks nothing
abbrev pub Gives : Option Text → Result Ask Declined → Type 0
Gives left (Ok ask) = (body : Text) × Allows left (Ok body) × SpellsAsk ask body × IsWellAsk ask
Gives left (Err (declined.Http refusal)) = Allows left (Err refusal)
Gives left (Err (declined.Body refused)) = (body : Text) × Allows left (Ok body) × IsDocumentRefused Request body refused.at refused.reason

-- a request was read from the source: a fault has its cause, and nothing behind the piece that decides was read
pub record TakesAsk (old new : SourceView) (result : Result Ask Declined) : Type 0 where
  pub gives : Gives old.left result
  pub taken : ReadsNoFurther old.left new.left
  pub calm : result ≢ Err (declined.Http refusals.ReadFault) → new.faults ≡ old.faults
  pub fault : result ≡ Err (declined.Http refusals.ReadFault) → Rose old.faults new.faults
