-- One connection of a gateway's server.
use Rattle.std.specs.Prelude.{◌≡◌, ◌≢◌, ◌⊎◌, ◌<◌, ℕ, List, [], Option, Some, Result, Ok, Err, length}
use Rattle.ojp_outside.specs.Causes.{Rests}
use Rattle.ojp_outside.specs.Seen.{SinkView}
use Rattle.ojp_values.specs.Lists.{Each}
use Rattle.ojp_values.specs.Texts.{Text}
use Rattle.ojp_values.specs.declared.memory.NoMemory.{NoMemory}
use Rattle.ojp_values.specs.declared.asks.Ask.{Ask}
use Rattle.ojp_values.specs.declared.replies.Delivery.{Delivery}
use Rattle.ojp_timetable.specs.Tables.{Timetable}
use Rattle.ojp_timetable.specs.GatewayAnswers.{GatewayAnswers}
use Rattle.ojp_exchange.specs.Book.{Book}
use Rattle.ojp_grammar.specs.Answering.{AnswersBody}
use Rattle.ojp_http.specs.declared.served.Served.{Served}
use Rattle.ojp_http.specs.declared.served.Served.TheVariants as served
use Rattle.ojp_http.specs.Asking.{ReadsNoFurther}
use Rattle.ojp_http.specs.Connections.{Serves, Wire}
use Rattle.ojp_bodies.specs.Reading.{IsAsked}
use Rattle.ojp_bodies.specs.Writing.{GivesUp, WritesDelivery}
use Rattle.ojp_links.specs.Seen.{View, NoneLive}
use Rattle.ojp_links.specs.Calls.{Keeps}
use Rattle.ojp_records.specs.declared.queries.Entry.{Entry}
use Rattle.ojp_turns.specs.Faults.{HasCause}
use Rattle.ojp_gateway.specs.declared.answering.Answer.{Answer}
use Rattle.ojp_gateway.specs.Answers.{Answers, NoneRejected, TellsBook}

-- no region's count of faults rose
abbrev pub NoFaultRose : View → View → Type 0
NoFaultRose old new = (region : ℕ) → region < length old.fixed.stations → Rests (old.faults region) (new.faults region)

-- where timetables are told, the book is theirs, and no region's count rose, what was written answers by the timetables
abbrev pub ServesExactly : Book → View → View → Wire → Wire → Served → Type 0
ServesExactly book old new before after how =
    (tables : List Timetable) → TellsBook old book tables → NoFaultRose old new → Serves (AnswersBody (GatewayAnswers tables)) before after how

-- the record is that of an answer to some ask
abbrev pub IsOfAnswer : Book → View → View → List Entry → Type 0
IsOfAnswer book old new told = (ask : Ask) × (delivery : Delivery) × Answers book old new told ask delivery

-- the record that is handed back: that of the answer where one was written; where a write failed, that of the answer that was
-- to be written, if there was one; else none
abbrev pub HandsBack : Book → View → View → Served → List Entry → Type 0
HandsBack book old new (served.Answered status) told = (status ≡ 200 → IsOfAnswer book old new told) × (status ≢ 200 → told ≡ [])
HandsBack book old new served.ReadFault told = told ≡ []
HandsBack book old new served.WriteFault told = IsOfAnswer book old new told ⊎ (told ≡ [])
HandsBack book old new served.NoMemory told = told ≡ []

-- where the bytes are told and ask nothing, there is no record
abbrev pub NoneUnasked : Option Text → List Entry → Type 0
NoneUnasked left told = (bytes : Text) → left ≡ Some bytes → (IsAsked (Some bytes) → ⊥) → told ≡ []

-- a request that asks something is answered with 200 where no count of the connection rose, or memory ran out
abbrev pub ServesAsked : Wire → Wire → Served → Type 0
ServesAsked before after how =
    IsAsked before.input.left → Rests before.input.faults after.input.faults → Rests before.output.faults after.output.faults
    → (how ≡ served.Answered 200) ⊎ (how ≡ served.NoMemory)

-- an answer was written with its record, or memory ran out
abbrev pub Concludes : Result Answer NoMemory → SinkView → SinkView → Served → List Entry → Type 0
Concludes (Ok answer) old new how told = (WritesDelivery answer.delivery old new how × (told ≡ answer.told)) ⊎ (GivesUp old new how × (told ≡ []))
Concludes (Err no_memory) old new how told = GivesUp old new how × (told ≡ [])

-- one connection was served over links, and the record of the search for it was handed back
pub record ServesOne (book : Book) (old new : View) (before after : Wire) (how : Served) (entries : List Entry) : Type 0 where
  pub keeps : Keeps old new
  pub none_live : NoneLive new
  pub none_rejected : NoneRejected book old new
  -- the response is that of the framing to the answer, or what remains of it where a read, a write or memory failed
  pub serves : Serves (AnswersBody (Answers book old new entries)) before after how
  pub exact : ServesExactly book old new before after how
  pub complete : ServesAsked before after how
  pub told : HandsBack book old new how entries
  pub unasked : NoneUnasked before.input.left entries
  pub causes : Each (HasCause old new) entries
  -- nothing behind the piece that decides the request was read
  pub taken : ReadsNoFurther before.input.left after.input.left
