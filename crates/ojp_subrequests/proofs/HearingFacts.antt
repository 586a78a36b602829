-- All the bytes of a reply, by their framing and their body.
use Rattle.std.proofs.Common.{◌≡◌, ℕ, ◌+◌, ◌-◌, ◌≤◌, List, [], ◌∷◌, ◌++◌, length, take, drop, refl, sym, ◌∙◌, ap, subst, arith, append-nil, length-append, length-drop}
use Rattle.std.proofs.Math.Seq.{take-length}
use Rattle.ojp_values.specs.declared.replies.Delivery.{Delivery}
use Rattle.ojp_grammar.specs.Answering.{SpellsDelivery}
use Rattle.ojp_http.specs.Asking.{HttpReply}
use Rattle.ojp_http.specs.Continued.{OpenHoldsNone}
use Rattle.ojp_http.specs.Laws.{NoReplyBeginsAnother, OneBody}
use Rattle.ojp_http.specs.Replying.{BeginsNoReply, ReplyView}
use Rattle.ojp_links.specs.Replies.{IsFront, IsReplyOf}
use Rattle.ojp_subrequests.specs.Hearing.{CarriesNone, HearingView, Hears, HearsBy}
use Rattle.ojp_subrequests.specs.Pieces.{BeginsNoDelivery, FramesOn}
use Rattle.ojp_subrequests.specs.declared.hearing.Heard.{Heard}
use Rattle.ojp_subrequests.specs.declared.hearing.Heard.TheVariants as heards

pub no_reply : (bytes : List ℕ) → BeginsNoReply bytes → CarriesNone bytes
no_reply bytes none more delivery reply = none more reply.0 reply.1

pub no_open_body : (reply : ReplyView) (bytes got : List ℕ) → FramesOn reply bytes got → BeginsNoDelivery got → CarriesNone bytes
no_open_body reply bytes got frames none more delivery r =
    let b = frames.stays_open.begins more r.0 r.1 in none b.0 delivery (subst (SpellsDelivery delivery) b.1 r.2)

pub no_whole_body : OneBody → NoReplyBeginsAnother → (bytes got : List ℕ) → HttpReply bytes got → ((delivery : Delivery) → SpellsDelivery delivery got → ⊥) → CarriesNone bytes
no_whole_body body begins bytes got reply none more delivery r =
    let nothing = begins bytes more got r.0 reply r.1 in
    let whole : bytes ++ more ≡ bytes = ap (λ (m : List ℕ). bytes ++ m) nothing ∙ append-nil bytes in
    let same : r.0 ≡ got = body bytes r.0 got (subst (λ (xs : List ℕ). HttpReply xs r.0) whole r.1) reply in
    none delivery (subst (SpellsDelivery delivery) same r.2)

pub none_spelled : (got : List ℕ) → BeginsNoDelivery got → (delivery : Delivery) → SpellsDelivery delivery got → ⊥
none_spelled got none delivery s = none [] delivery (subst (SpellsDelivery delivery) (sym (append-nil got)) s)

pub hears : OpenHoldsNone → (h : HearingView) (bytes got : List ℕ) (heard : Heard) → h.taken ≡ length bytes → HearsBy h.reply h.reader bytes got heard → Hears bytes h heard
hears none h bytes got heards.Open count by = (
  record { count = count; stage = by.0.stage; got = got; fed = by.0.fed; read = by.1 },
  record {
    got = got;
    is_cut = by.0.stays_open.is_cut;
    none = λ front rest body e reply. none h.reply bytes got front rest body by.0.stage by.0.fed e reply;
    may_go_on = by.2;
  },
)
hears none h bytes got (heards.Whole delivery) count by = by
hears none h bytes got heards.Refused count by = by
hears none h bytes got heards.NoMemory count by = tt

-- the piece behind what was heard
drop_front : (before more : List ℕ) → drop (length before) (before ++ more) ≡ more
drop_front [] more = refl
drop_front (x ∷ before) more = drop_front before more

pub piece_is : (before bytes : List ℕ) (taken : ℕ) → IsFront before bytes → taken ≡ length before → before ++ drop taken bytes ≡ bytes
piece_is before bytes taken front e =
    ap (λ (n : ℕ). before ++ drop n bytes) e
    ∙ (ap (λ (xs : List ℕ). before ++ drop (length before) xs) front.1 ∙ (ap (λ (xs : List ℕ). before ++ xs) (drop_front before front.0) ∙ sym front.1))

-- what is left behind a place, all of it
pub all_behind : (n : ℕ) (xs : List ℕ) → take (length xs - n) (drop n xs) ≡ drop n xs
all_behind n xs = ap (λ (k : ℕ). take k (drop n xs)) (sym (length-drop n xs)) ∙ take-length (drop n xs)

pub within : (before bytes : List ℕ) (taken : ℕ) → IsFront before bytes → taken ≡ length before → taken ≤ length bytes
within before bytes taken front e = omega (arith, e, ap length front.1, length-append before front.0)
