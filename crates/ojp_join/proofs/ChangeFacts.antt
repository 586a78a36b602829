-- A change takes one time.
use Rattle.std.proofs.Common.{◌≡◌, ◌≢◌, ℕ, ◌+◌, Bool, true, false, ◌&&◌, ◌||◌, Some, sym, ◌∙◌, ap, subst, inl, inr, true≢false}
use Rattle.std.specs.Prelude.{MatchBool}
use Rattle.std.proofs.lemmas.Bool.{cases_lt}
use Rattle.std.proofs.Math.Nat.{eq-or-lt_of_le}
use Rattle.ojp_values.specs.Texts.{Text, same, text_lt}
use Rattle.ojp_timetable.proofs.Orders.{not_before_itself}
use Rattle.ojp_timetable.proofs.ReadFacts.{at_among, read_once}
use Rattle.ojp_exchange.specs.Book.{Book, HasChange, Link, link_lt}
use Rattle.ojp_exchange.specs.Kept.{IsWellBook}
use Rattle.ojp_exchange.proofs.RisingFacts.{rising_at}
use Rattle.ojp_join.specs.Rides.{IsInTime}

none_of : (a b c d e : Bool) → a ≡ false → b ≡ false → c ≡ false → a || (d && (b || (e && c))) ≡ true → ⊥
none_of true b c d e p q r h = true≢false p
none_of false true c d e p q r h = true≢false q
none_of false false true d e p q r h = true≢false r
none_of false false false true true p q r h = true≢false (sym h)
none_of false false false true false p q r h = true≢false (sym h)
none_of false false false false e p q r h = true≢false (sym h)

-- a link is not before one of the same declaration
link_apart : (x y : Link) → x.stop ≡ y.stop → x.region ≡ y.region → x.other ≡ y.other → link_lt x y ≡ true → ⊥
link_apart x y stop region other h =
    none_of (text_lt x.stop y.stop) (text_lt x.region y.region) (text_lt x.other y.other) (same x.stop y.stop) (same x.region y.region)
    (ap (λ (t : Text). text_lt t y.stop) stop ∙ not_before_itself y.stop) (ap (λ (t : Text). text_lt t y.region) region ∙ not_before_itself y.region)
    (ap (λ (t : Text). text_lt t y.other) other ∙ not_before_itself y.other) h

one_change : (book : Book) (stop left right : Text) (x y : ℕ) → IsWellBook book → HasChange book stop left right x → HasChange book stop left right y → x ≡ y
one_change book stop left right x y well a b =
    let i = at_among book.links a.link a.listed in
    let k = at_among book.links b.link b.listed in
    let at : a.link.stop ≡ b.link.stop = a.at ∙ sym b.at in
    let region : a.link.region ≡ b.link.region = a.declaring ∙ sym b.declaring in
    let other : a.link.other ≡ b.link.other = a.other ∙ sym b.other in
    let one : a.link ≡ b.link =
    elim (cases_lt i.0 k.0) [
      | inl l ↦ absurd (link_apart a.link b.link at region other (rising_at link_lt book.links i.0 k.0 a.link b.link well.links_rise i.1 k.1 l))
      | inr g ↦ elim (eq-or-lt_of_le g) [
        | inl e ↦ read_once book.links i.0 k.0 a.link b.link (sym e) i.1 k.1
        | inr m ↦ absurd (link_apart b.link a.link (sym at) (sym region) (sym other) (rising_at link_lt book.links k.0 i.0 b.link a.link well.links_rise k.1 i.1 m))
      ]
    ] in
    sym a.time ∙ (ap (λ (l : Link). l.change) one ∙ b.time)

-- one is in time where the declared change leads to the moment
pub changed_by : (book : Book) (stop region next : Text) (change end moment : ℕ) (after : Bool) → IsWellBook book → region ≢ next → HasChange book stop region next change
    → MatchBool after (moment ≡ end + change) (moment ≡ end + change → ⊥) → MatchBool after (IsInTime book (Some next) stop region end moment) (IsInTime book (Some next) stop region end moment → ⊥)
changed_by book stop region next change end moment true well apart has is = (apart, change, has, is)
changed_by book stop region next change end moment false well apart has other =
    λ t. other (t.3 ∙ ap (λ (n : ℕ). end + n) (one_change book stop region next t.1 change well t.2 has))
