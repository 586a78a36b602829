-- Served requests: the response to a body, for any relation between bodies and answers, or to a refusal.
use Rattle.std.specs.Prelude.{◌≡◌, ℕ, List, [], ◌∷◌, ◌++◌, length, codes, Result, Ok, Err}
use Rattle.ojp_http.specs.declared.refusal.HttpRefusal.{HttpRefusal}
use Rattle.ojp_http.specs.declared.refusal.HttpRefusal.TheVariants.{Head, TooLargeHead, Method, Target, Host, Length, Conflict, Coding, TooLong, Chunk, Cut, ReadFault, NoMemory}
use Rattle.ojp_http.specs.Asking.{HttpAsk}
use Rattle.ojp_http.specs.Responses.{response_head}

-- the status that answers a refusal; a failed read is not answered
abbrev pub refusal_status : HttpRefusal → ℕ
refusal_status Head = 400
refusal_status TooLargeHead = 431
refusal_status Method = 405
refusal_status Target = 404
refusal_status Host = 400
refusal_status Length = 411
refusal_status Conflict = 400
refusal_status Coding = 501
refusal_status TooLong = 413
refusal_status Chunk = 400
refusal_status Cut = 400
refusal_status ReadFault = 0
refusal_status NoMemory = 503

-- the name of a refusal
abbrev pub refusal_name : HttpRefusal → List ℕ
refusal_name Head = codes "Head"
refusal_name TooLargeHead = codes "TooLargeHead"
refusal_name Method = codes "Method"
refusal_name Target = codes "Target"
refusal_name Host = codes "Host"
refusal_name Length = codes "Length"
refusal_name Conflict = codes "Conflict"
refusal_name Coding = codes "Coding"
refusal_name TooLong = codes "TooLong"
refusal_name Chunk = codes "Chunk"
refusal_name Cut = codes "Cut"
refusal_name ReadFault = codes "ReadFault"
refusal_name NoMemory = codes "NoMemory"

-- a whole response with this text as its body
abbrev pub response : ℕ → List ℕ → List ℕ
response status text = response_head status (length text) ++ text

-- the response to a refusal: its name and a line feed
abbrev pub refusal_response : HttpRefusal → List ℕ
refusal_response e = response (refusal_status e) (refusal_name e ++ 10 ∷ [])

-- the response to an outcome with its status, where Answers relates bodies to statuses and texts
abbrev pub RespondsWith : (List ℕ → ℕ → List ℕ → Type 0) → Result (List ℕ) HttpRefusal → ℕ → List ℕ → Type 0
RespondsWith Answers (Ok body) status out = (text : List ℕ) × Answers body status text × (out ≡ response status text)
RespondsWith Answers (Err e) status out = (status ≡ refusal_status e) × (out ≡ refusal_response e)

-- the response of this status that serves these bytes
pub record ServedAs (Answers : List ℕ → ℕ → List ℕ → Type 0) (bytes : List ℕ) (status : ℕ) (out : List ℕ) : Type 0 where
  pub outcome : Result (List ℕ) HttpRefusal
  pub allowed : HttpAsk bytes outcome
  pub responds : RespondsWith Answers outcome status out

-- the response that serves these bytes
abbrev pub ServedBy : (List ℕ → ℕ → List ℕ → Type 0) → List ℕ → List ℕ → Type 0
ServedBy Answers bytes out = (status : ℕ) × ServedAs Answers bytes status out
