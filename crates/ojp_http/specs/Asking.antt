-- The outcome of a request over all its bytes, and whole replies.
use Rattle.std.specs.Prelude.{◌≡◌, ◌≢◌, ℕ, ◌≤◌, List, [], ◌++◌, length, Result, Ok, Err, Option, None, Some}
use Rattle.std.specs.Io.KnownBytes.{Consumes}
use Rattle.ojp_http.specs.declared.refusal.Refusal.{Refusal}
use Rattle.ojp_http.specs.declared.refusal.Refusal.TheVariants as decided
use Rattle.ojp_http.specs.declared.refusal.HttpRefusal.{HttpRefusal}
use Rattle.ojp_http.specs.declared.refusal.HttpRefusal.TheVariants as refusals
use Rattle.ojp_http.specs.Verdicts.{Verdict, whole, refused, cut}
use Rattle.ojp_http.specs.Bodies.{Asks, Replies}

-- a refusal that the bytes decide, as it is answered
abbrev pub http_refusal : Refusal → HttpRefusal
http_refusal decided.Head = refusals.Head
http_refusal decided.TooLargeHead = refusals.TooLargeHead
http_refusal decided.Method = refusals.Method
http_refusal decided.Target = refusals.Target
http_refusal decided.Host = refusals.Host
http_refusal decided.Length = refusals.Length
http_refusal decided.Conflict = refusals.Conflict
http_refusal decided.Coding = refusals.Coding
http_refusal decided.TooLong = refusals.TooLong
http_refusal decided.Chunk = refusals.Chunk

-- the verdict that an outcome tells: the input ends where the verdict is cut
abbrev pub Tells : Result (List ℕ) HttpRefusal → Verdict → Type 0
Tells r (whole body rest) = r ≡ Ok body
Tells r (refused e) = r ≡ Err (http_refusal e)
Tells r (cut got) = r ≡ Err refusals.Cut

-- an outcome that these bytes allow
pub record HttpAsk (bytes : List ℕ) (outcome : Result (List ℕ) HttpRefusal) : Type 0 where
  pub verdict : Verdict
  pub asks : Asks bytes verdict
  pub tells : Tells outcome verdict

-- one whole reply of status 200, with its body
abbrev pub HttpReply : List ℕ → List ℕ → Type 0
HttpReply bytes body = Replies bytes (whole body [])

-- what may be answered where these bytes were left; a fault has a cause of its own, and want of memory is free
abbrev pub Allows : Option (List ℕ) → Result (List ℕ) HttpRefusal → Type 0
Allows None r = Unit {0}
Allows (Some bytes) r = r ≢ Err refusals.ReadFault → r ≢ Err refusals.NoMemory → HttpAsk bytes r

-- no bytes were read behind the piece that decides: those before it, if the input ended there, would be cut
pub record ReadsNoFurther (old new : Option (List ℕ)) : Type 0 where
  pub front : List ℕ
  pub last : List ℕ
  pub taken : Consumes old new (front ++ last)
  pub undecided : HttpAsk front (Err refusals.Cut)
  pub within : length last ≤ 8192
