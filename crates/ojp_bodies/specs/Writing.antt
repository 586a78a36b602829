-- What is written to a connection.
use Rattle.std.specs.Prelude.{◌≡◌, ◌≢◌, ◌⊎◌}
use Rattle.ojp_outside.specs.Seen.{SinkView}
use Rattle.ojp_values.specs.Texts.{Text}
use Rattle.ojp_values.specs.declared.replies.Delivery.{Delivery}
use Rattle.ojp_grammar.specs.declared.refusals.Refused.{Refused}
use Rattle.ojp_grammar.specs.Answering.{SpellsDelivery}
use Rattle.ojp_grammar.specs.Reasons.{refusal_line}
use Rattle.ojp_http.specs.declared.refusal.HttpRefusal.{HttpRefusal}
use Rattle.ojp_http.specs.declared.refusal.HttpRefusal.TheVariants as refusals
use Rattle.ojp_http.specs.declared.served.Served.{Served}
use Rattle.ojp_http.specs.declared.served.Served.TheVariants as served
use Rattle.ojp_http.specs.Connections.{WritesAs, WritesNoMemory}
use Rattle.ojp_http.specs.Serving.{refusal_response, refusal_status, response}
use Rattle.ojp_bodies.specs.declared.requests.Declined.{Declined}
use Rattle.ojp_bodies.specs.declared.requests.Declined.TheVariants as declined

-- memory ran out, and the response for it was written
abbrev pub GivesUp : SinkView → SinkView → Served → Type 0
GivesUp old new how = (how ≡ served.NoMemory) × WritesNoMemory old new

-- the response of status 200 with the document of the delivery was written
abbrev pub WritesDelivery : Delivery → SinkView → SinkView → Served → Type 0
WritesDelivery delivery old new how = (text : Text) × SpellsDelivery delivery text × WritesAs 200 (response 200 text) old new how

-- the response to a delivery was written, or memory ran out
abbrev pub Delivers : Delivery → SinkView → SinkView → Served → Type 0
Delivers delivery old new how = WritesDelivery delivery old new how ⊎ GivesUp old new how

-- the refusal is one that the bytes give: no read failed, and there was memory
abbrev pub IsOfBytes : HttpRefusal → Type 0
IsOfBytes refusal = (refusal ≢ refusals.ReadFault) × (refusal ≢ refusals.NoMemory)

-- the response to a refusal was written; nothing, where a read failed
abbrev pub Refuses : HttpRefusal → SinkView → SinkView → Served → Type 0
Refuses refusal old new how =
    ((refusal ≡ refusals.ReadFault) × (how ≡ served.ReadFault) × (new ≡ old))
    ⊎ (((refusal ≡ refusals.NoMemory) × GivesUp old new how)
    ⊎ (IsOfBytes refusal × WritesAs (refusal_status refusal) (refusal_response refusal) old new how))

-- the line that tells the place and the reason was written
abbrev pub TellsPlace : Refused → SinkView → SinkView → Served → Type 0
TellsPlace refused old new how = WritesAs 400 (response 400 (refusal_line refused.at refused.reason)) old new how ⊎ GivesUp old new how

-- the response to a request that asks nothing was written
abbrev pub Declines : Declined → SinkView → SinkView → Served → Type 0
Declines (declined.Http refusal) old new how = Refuses refusal old new how
Declines (declined.Body refused) old new how = TellsPlace refused old new how
