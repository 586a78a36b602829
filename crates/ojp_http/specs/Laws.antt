-- Laws of whole messages: where two outcomes are allowed, and that no reply begins another.
use Rattle.std.specs.Prelude.{◌≡◌, ◌≢◌, ◌≤◌, ◌<◌, ◌^◌, ◌⊎◌, IsTrue, ℕ, List, [], ◌∷◌, ◌++◌, length, Result, Ok, Err}
use Rattle.httparse.specs.Grammar.{RequestHead, ReadsRequest, AllPass, is_value_byte}
use Rattle.ojp_http.specs.declared.refusal.HttpRefusal.{HttpRefusal}
use Rattle.ojp_http.specs.declared.refusal.HttpRefusal.TheVariants as refusals
use Rattle.ojp_http.specs.Verdicts.{Verdict, whole}
use Rattle.ojp_http.specs.Heads.{HasNoHead, IsMalformed, IsFull}
use Rattle.ojp_http.specs.Bodies.{Asks, ReadsTrailer}
use Rattle.ojp_http.specs.Asking.{HttpAsk, HttpReply}
use Rattle.ojp_http.specs.Replying.{BeginsNoReply}
use Rattle.ojp_http.specs.Responses.{is_answer_status, request_bytes}
use Rattle.ojp_http.specs.Serving.{response}

-- of two values the one is a and the other b
abbrev pub AreTwo : {A : Type 0} → A → A → A → A → Type 0
AreTwo a b x y = ((x ≡ a) × (y ≡ b)) ⊎ ((x ≡ b) × (y ≡ a))

-- the bytes hold no head of a request, and are malformed
abbrev pub HasBadHead : List ℕ → Type 0
HasBadHead bytes =
    HasNoHead ReadsRequest (λ (h : RequestHead). h.fields) 66 bytes × IsMalformed ReadsRequest (λ (h : RequestHead). h.fields) 66 bytes

-- with an empty trailer behind the front the message would be whole; what stands there is malformed, and ends before it is full
pub record HasBadTrailer (Message : List ℕ → Verdict → Type 0) (bytes body : List ℕ) : Type 0 where
  pub front : List ℕ
  pub trailer : List ℕ
  pub is : bytes ≡ front ++ trailer
  pub ends : Message (front ++ 13 ∷ 10 ∷ []) (whole body [])
  pub none : HasNoHead ReadsTrailer (λ t. t.0) 65 trailer
  pub malformed : IsMalformed ReadsTrailer (λ t. t.0) 65 trailer
  pub unfull : ¬ (IsFull 65 trailer)

-- the outcomes are one, or a pair that these bytes allow
pub data AreAllowed (bytes : List ℕ) (x y : Result (List ℕ) HttpRefusal) : Type 0 where
  one : x ≡ y → AreAllowed bytes x y
  head_or_large : HasBadHead bytes → IsFull 66 bytes → AreTwo (Err refusals.Head) (Err refusals.TooLargeHead) x y → AreAllowed bytes x y
  head_or_cut : HasBadHead bytes → ¬ (IsFull 66 bytes) → AreTwo (Err refusals.Head) (Err refusals.Cut) x y → AreAllowed bytes x y
  chunk_or_cut : (body : List ℕ) → HasBadTrailer Asks bytes body → AreTwo (Err refusals.Chunk) (Err refusals.Cut) x y → AreAllowed bytes x y

-- a request has one outcome, but for the pairs that are allowed
abbrev pub OneOutcome : Type 0
OneOutcome = (bytes : List ℕ) (x y : Result (List ℕ) HttpRefusal) → HttpAsk bytes x → HttpAsk bytes y → AreAllowed bytes x y

-- a reply has one body
abbrev pub OneBody : Type 0
OneBody = (bytes x y : List ℕ) → HttpReply bytes x → HttpReply bytes y → x ≡ y

-- no whole reply begins a longer one
abbrev pub NoReplyBeginsAnother : Type 0
NoReplyBeginsAnother = (bytes more x y : List ℕ) → HttpReply bytes x → HttpReply (bytes ++ more) y → more ≡ []

-- where the bytes give a body, nothing else is allowed
abbrev pub BodyIsOnly : Type 0
BodyIsOnly = (bytes body : List ℕ) (outcome : Result (List ℕ) HttpRefusal) → HttpAsk bytes (Ok body) → HttpAsk bytes outcome → outcome ≡ Ok body

-- a response of status 200 is a whole reply, and its text the body
abbrev pub AnswerIsReply : Type 0
AnswerIsReply = (text : List ℕ) → length text < 2 ^ 64 → HttpReply (response 200 text) text

-- no reply begins with a response of another status
abbrev pub OthersAreRefused : Type 0
OthersAreRefused = (status : ℕ) (text : List ℕ) → IsTrue (is_answer_status status) → status ≢ 200 → length text < 2 ^ 64 → BeginsNoReply (response status text)

-- a text that may stand in the field Host: at most 8,192 bytes, none of them a control byte
pub record IsHostText (host : List ℕ) : Type 0 where
  pub plain : AllPass is_value_byte host
  pub within : length host ≤ 8192

-- the bytes of a request give its body, and nothing else
pub record GivesOnly (bytes body : List ℕ) : Type 0 where
  pub gives : HttpAsk bytes (Ok body)
  pub only : (outcome : Result (List ℕ) HttpRefusal) → HttpAsk bytes outcome → outcome ≡ Ok body

abbrev pub RequestIsAsk : Type 0
RequestIsAsk = (host body : List ℕ) → IsHostText host → length body ≤ 1048576 → GivesOnly (request_bytes host body) body
