-- What a subrequest hears of its reply.
use Rattle.std.specs.Prelude.{◌≡◌, ℕ, List, [], ◌++◌, length}
use Rattle.ojp_values.specs.declared.replies.Delivery.{Delivery}
use Rattle.ojp_http.specs.declared.fed.Stage.TheVariants.{Reading}
use Rattle.ojp_http.specs.Asking.{HttpReply}
use Rattle.ojp_http.specs.Bodies.{Replies}
use Rattle.ojp_http.specs.Replying.{HasFed, ReplyView}
use Rattle.ojp_http.specs.Verdicts.{cut}
use Rattle.ojp_decode.specs.Standing.{ReaderView}
use Rattle.ojp_links.specs.Replies.{IsReplyOf}
use Rattle.ojp_subrequests.specs.Pieces.{FramesOn, IsReadTo, MayGoOn}
use Rattle.ojp_subrequests.specs.declared.hearing.Heard.{Heard}
use Rattle.ojp_subrequests.specs.declared.hearing.Heard.TheVariants as heards

-- how many bytes were heard, where their framing stands, and where the document in their body
pub record HearingView : Type 0 where
  pub taken : ℕ
  pub reply : ReplyView
  pub reader : ReaderView

-- just these bytes were heard, and the reply goes on
pub record HasHeard (h : HearingView) (bytes : List ℕ) : Type 0 where
  pub count : h.taken ≡ length bytes
  pub stage : h.reply.stage ≡ Reading
  pub got : List ℕ
  pub fed : HasFed h.reply bytes got
  pub read : IsReadTo h.reader got

-- the bytes may become a reply: no front of them is one, their framing is not refused, and their body so far is refused for
-- no other reason than that it is cut
pub record IsOpenReply (bytes : List ℕ) : Type 0 where
  pub got : List ℕ
  pub is_cut : Replies bytes (cut got)
  pub none : (front rest body : List ℕ) → bytes ≡ front ++ rest → HttpReply front body → ⊥
  pub may_go_on : MayGoOn got

-- no reply with a delivery begins with the bytes
abbrev pub CarriesNone : List ℕ → Type 0
CarriesNone bytes = (more : List ℕ) (delivery : Delivery) → IsReplyOf (bytes ++ more) delivery → ⊥

-- what the bytes are, by their framing and what came of the body
abbrev pub HearsBy : ReplyView → ReaderView → List ℕ → List ℕ → Heard → Type 0
HearsBy reply reader bytes got heards.Open = FramesOn reply bytes got × IsReadTo reader got × MayGoOn got
HearsBy reply reader bytes got (heards.Whole delivery) = IsReplyOf bytes delivery
HearsBy reply reader bytes got heards.Refused = CarriesNone bytes
HearsBy reply reader bytes got heards.NoMemory = Unit {0}

-- what all the bytes are, and where the hearing stands while they go on
abbrev pub Hears : List ℕ → HearingView → Heard → Type 0
Hears bytes h heards.Open = HasHeard h bytes × IsOpenReply bytes
Hears bytes h (heards.Whole delivery) = IsReplyOf bytes delivery
Hears bytes h heards.Refused = CarriesNone bytes
Hears bytes h heards.NoMemory = Unit {0}
