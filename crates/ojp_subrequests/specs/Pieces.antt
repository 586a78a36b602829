-- A reply piece by piece: its framing, and the document in its body.
use Rattle.std.specs.Prelude.{◌≡◌, ℕ, ◌⊎◌, List, ◌++◌}
use Rattle.ojp_values.specs.declared.replies.Delivery.{Delivery}
use Rattle.ojp_grammar.specs.declared.refusals.Reason.{Reason}
use Rattle.ojp_grammar.specs.declared.refusals.Reason.TheVariants.{Truncated}
use Rattle.ojp_grammar.specs.declared.refusals.Want.TheVariants as wants
use Rattle.ojp_grammar.specs.Answering.{SpellsDelivery}
use Rattle.ojp_grammar.specs.Places.{IsDocumentRefused}
use Rattle.ojp_grammar.specs.Whole.{IsWhole}
use Rattle.ojp_http.specs.declared.fed.Stage.TheVariants.{Reading}
use Rattle.ojp_http.specs.Asking.{HttpReply}
use Rattle.ojp_http.specs.Replying.{BeginsNoReply, HasFed, ReplyView, StaysOpen}
use Rattle.ojp_decode.specs.Progress.{reading, whole}
use Rattle.ojp_decode.specs.Standing.{HasRead, ReaderView}
use Rattle.ojp_subrequests.specs.declared.pieces.Framed.{Framed}
use Rattle.ojp_subrequests.specs.declared.pieces.Framed.TheVariants as framed
use Rattle.ojp_subrequests.specs.declared.pieces.Read.{Read}
use Rattle.ojp_subrequests.specs.declared.pieces.Read.TheVariants as reads
use Rattle.ojp_subrequests.specs.declared.pieces.Finished.{Finished}
use Rattle.ojp_subrequests.specs.declared.pieces.Finished.TheVariants as ends

-- the framing goes on behind the bytes
pub record FramesOn (reply : ReplyView) (bytes got : List ℕ) : Type 0 where
  pub stage : reply.stage ≡ Reading
  pub fed : HasFed reply bytes got
  pub stays_open : StaysOpen bytes got

-- what the framing of the bytes is, where this came of the body
abbrev pub IsFramed : ReplyView → List ℕ → List ℕ → Framed → Type 0
IsFramed reply bytes got framed.Open = FramesOn reply bytes got
IsFramed reply bytes got framed.Whole = HttpReply bytes got
IsFramed reply bytes got framed.Refused = BeginsNoReply bytes
IsFramed reply bytes got framed.NoMemory = Unit {0}

-- the reader has read these bytes: they go on, or are a whole delivery
abbrev pub IsReadTo : ReaderView → List ℕ → Type 0
IsReadTo reader got = HasRead reader (reading wants.Delivery got) ⊎ (HasRead reader (whole wants.Delivery got) × IsWhole wants.Delivery got)

-- the body may go on, or is whole: it is refused for no other reason than that it is cut
abbrev pub MayGoOn : List ℕ → Type 0
MayGoOn got = (at : ℕ) (reason : Reason) → IsDocumentRefused wants.Delivery got at reason → reason ≡ Truncated

-- no delivery begins with the bytes
abbrev pub BeginsNoDelivery : List ℕ → Type 0
BeginsNoDelivery got = (more : List ℕ) (delivery : Delivery) → SpellsDelivery delivery (got ++ more) → ⊥

-- what the bytes of a body are
abbrev pub IsReadOn : ReaderView → List ℕ → Read → Type 0
IsReadOn reader got reads.Open = IsReadTo reader got × MayGoOn got
IsReadOn reader got reads.Refused = BeginsNoDelivery got
IsReadOn reader got reads.NoMemory = Unit {0}

-- what the bytes are that end a body
abbrev pub FinishesAs : List ℕ → Finished → Type 0
FinishesAs got (ends.Whole delivery) = SpellsDelivery delivery got
FinishesAs got ends.Refused = (delivery : Delivery) → SpellsDelivery delivery got → ⊥
FinishesAs got ends.NoMemory = Unit {0}
