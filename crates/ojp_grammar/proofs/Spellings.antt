-- One document for its items.
use Rattle.std.proofs.Common.{◌≡◌, refl, ℕ, true, List, [], ◌∷◌, None, inl, inr, sym, ◌∙◌, ap, subst, arith}
use Rattle.std.specs.Prelude.{◌&&◌, ◌==◌, not}
use Rattle.std.proofs.lemmas.Bool.{eq-eqb}
use Rattle.std.specs.List.{AllByRecursion}
use Rattle.ojp_values.specs.declared.kinds.Kind.{Kind}
use Rattle.ojp_values.specs.declared.kinds.Kind.TheVariants as kinds
use Rattle.ojp_values.specs.declared.documents.Doc.{Doc}
use Rattle.ojp_values.specs.declared.documents.Doc.TheVariants as docs
use Rattle.ojp_grammar.specs.Items.{Item, tag}
use Rattle.ojp_grammar.specs.Syntax.{Syntax, text, field, both, either, many, Says, put, put_each, Fits, FieldOf, value_of}
use Rattle.ojp_grammar.specs.Grammar.{REQUEST, DELIVERY, document}
use Rattle.ojp_grammar.specs.Documents.{request_said, delivery_said, items, IsWell}
use Rattle.ojp_grammar.specs.Steps.{begins, wants, IsPlain}
use Rattle.ojp_grammar.specs.Reached.{start_of}
use Rattle.ojp_grammar.specs.Laws.{OneSpelling}
use Rattle.ojp_grammar.specs.declared.refusals.Want.TheVariants.{Request, Delivery}
use Rattle.ojp_grammar.proofs.Words.{AreApart}
use Rattle.ojp_grammar.proofs.Tests.{or_left, or_right, and_both, not_zero, zero_is}
use Rattle.ojp_grammar.proofs.Unique.{one_front}
use Rattle.ojp_grammar.proofs.Wanted.{wanted_plain, start_means, ask_again, reply_again}

held_same : (kind : Kind) (x y : FieldOf kind) → value_of kind x ≡ value_of kind y → x ≡ y
held_same kinds.StopRef x y e = cc
held_same kinds.Code x y e = cc
held_same kinds.Label x y e = cc
held_same kinds.Name x y e = cc
held_same kinds.Moment x y e = cc
held_same kinds.Day x y e = cc
held_same kinds.Seconds x y e = cc
held_same kinds.Change x y e = cc
held_same kinds.Number x y e = cc
held_same kinds.Count x y e = cc
held_same kinds.EventKind x y e = cc

-- what is said, and what stands behind it, are the same where the items are
abbrev IsOne : Syntax → Type 0
IsOne s = (v w : Says s) (r q : List Item) → Fits s v → Fits s w → put s v r ≡ put s w q → (v ≡ w) × (r ≡ q)

-- what is said begins with a text that the shape may begin with
first_text : (s : Syntax) (v : Says s) (rest : List Item) → IsPlain s → wants s ≡ None → Fits s v → (n : ℕ) × (w : List Item) × (put s v rest ≡ tag n ∷ w) × (begins n s ≡ true)
first_text (text n) v rest p none f = (n, rest, refl, eq-eqb n n refl)
first_text (field kind c) v rest p none f = absurd cc
first_text (both a b) v rest p none f = first_text a v.0 (put b v.1 rest) p.0 none f.0
first_text (either a b) (inl v) rest p none f =
    let t = first_text a v rest p.0 p.2 f in (t.0, t.1, t.2, or_left (begins t.0 a) (begins t.0 b) t.3)
first_text (either a b) (inr v) rest p none f =
    let t = first_text b v rest p.1 p.3 f in (t.0, t.1, t.2, or_right (begins t.0 a) (begins t.0 b) t.3)
first_text (many low high a b) ([], v) rest p none f =
    let t = first_text b v rest p.1 p.3 f.3 in (
      t.0,
      t.1,
      t.2,
      or_left (low == 0 && begins t.0 b) (not (high == 0) && begins t.0 a)
          (and_both (low == 0) (begins t.0 b) (zero_is low (omega (arith, f.0))) t.3),
    )
first_text (many low high a b) (x ∷ xs, v) rest p none f =
    let t = first_text a x (put_each (put a) xs (put b v rest)) p.0 p.2 f.2.0 in (
      t.0,
      t.1,
      t.2,
      or_right (low == 0 && begins t.0 b) (not (high == 0) && begins t.0 a)
          (and_both (not (high == 0)) (begins t.0 a) (not_zero high (omega (arith, f.1))) t.3),
    )

-- no items say something of two shapes that are apart
apart_items : (a b : Syntax) → IsPlain a → IsPlain b → wants a ≡ None → wants b ≡ None → AreApart a b → (v : Says a) (w : Says b) (r q : List Item) → Fits a v → Fits b w → put a v r ≡ put b w q → ⊥
apart_items a b p q none_a none_b apart v w r t f g e =
    let x = first_text a v r p none_a f in
    let y = first_text b w t q none_b g in
    let both_first : tag x.0 ∷ x.1 ≡ tag y.0 ∷ y.1 = sym x.2 ∙ (e ∙ y.2) in
    let same : x.0 ≡ y.0 = cc in
    let P : ℕ → Type 0 = λ n. begins n a ≡ true in
    apart y.0 (subst P same x.3) y.3

one_text : (n : ℕ) → IsOne (text n)
one_text n v w r q f g e = (refl, cc)

one_field : (kind : Kind) (c : ℕ) → IsOne (field kind c)
one_field kind c v w r q f g e =
    let held : value_of kind v ≡ value_of kind w = cc in (held_same kind v w held, cc)

one_both : (a b : Syntax) → IsOne a → IsOne b → IsOne (both a b)
one_both a b one_a one_b v w r q f g e =
    let first = one_a v.0 w.0 (put b v.1 r) (put b w.1 q) f.0 g.0 e in
    let next = one_b v.1 w.1 r q f.1 g.1 first.1 in
    (ap (λ (x : Says a). (x, v.1)) first.0 ∙ ap (λ (y : Says b). (w.0, y)) next.0, next.1)

one_either : (a b : Syntax) → IsPlain (either a b) → IsOne a → IsOne b → IsOne (either a b)
one_either a b p one_a one_b (inl v) (inl w) r q f g e = let one = one_a v w r q f g e in (ap inl one.0, one.1)
one_either a b p one_a one_b (inr v) (inr w) r q f g e = let one = one_b v w r q f g e in (ap inr one.0, one.1)
one_either a b p one_a one_b (inl v) (inr w) r q f g e = absurd (apart_items a b p.0 p.1 p.2 p.3 p.4 v w r q f g e)
one_either a b p one_a one_b (inr v) (inl w) r q f g e = absurd (apart_items a b p.0 p.1 p.2 p.3 p.4 w v q r g f (sym e))

one_list : (low high : ℕ) (a b : Syntax) → IsPlain (many low high a b) → IsOne a → IsOne b → (vs ws : List (Says a)) (v w : Says b) (r q : List Item) → AllByRecursion (Fits a) vs → AllByRecursion (Fits a) ws → Fits b v → Fits b w → put_each (put a) vs (put b v r) ≡ put_each (put a) ws (put b w q) → (vs ≡ ws) × ((v ≡ w) × (r ≡ q))
one_list low high a b p one_a one_b [] [] v w r q fs gs f g e = (refl, one_b v w r q f g e)
one_list low high a b p one_a one_b [] (y ∷ ws) v w r q fs gs f g e =
    absurd (apart_items a b p.0 p.1 p.2 p.3 p.4 y v (put_each (put a) ws (put b w q)) r gs.0 f (sym e))
one_list low high a b p one_a one_b (x ∷ vs) [] v w r q fs gs f g e =
    absurd (apart_items a b p.0 p.1 p.2 p.3 p.4 x w (put_each (put a) vs (put b v r)) q fs.0 g e)
one_list low high a b p one_a one_b (x ∷ vs) (y ∷ ws) v w r q fs gs f g e =
    let first = one_a x y (put_each (put a) vs (put b v r)) (put_each (put a) ws (put b w q)) fs.0 gs.0 e in
    let rest = one_list low high a b p one_a one_b vs ws v w r q fs.1 gs.1 f g first.1 in
    (ap (λ z. z ∷ vs) first.0 ∙ ap (λ l. y ∷ l) rest.0, rest.1)

one_many : (low high : ℕ) (a b : Syntax) → IsPlain (many low high a b) → IsOne a → IsOne b → IsOne (many low high a b)
one_many low high a b p one_a one_b v w r q f g e =
    let one = one_list low high a b p one_a one_b v.0 w.0 v.1 w.1 r q f.2 g.2 f.3 g.3 e in
    (ap (λ (xs : List (Says a)). (xs, v.1)) one.0 ∙ ap (λ (y : Says b). (w.0, y)) one.1.0, one.1.1)

one_said : (s : Syntax) → IsPlain s → IsOne s
one_said (text n) p = one_text n
one_said (field kind c) p = one_field kind c
one_said (both a b) p = one_both a b (one_said a p.0) (one_said b p.1)
one_said (either a b) p = one_either a b p (one_said a p.0) (one_said b p.1)
one_said (many low high a b) p = one_many low high a b p (one_said a p.0) (one_said b p.1)

-- a document is known by its items
one_of_items : (doc other : Doc) → IsWell doc → IsWell other → items doc ≡ items other → doc ≡ other
unfolding items IsWell
one_of_items (docs.Ask a) (docs.Ask b) f g e =
    let said = (one_said (document REQUEST) (wanted_plain Request) (request_said a) (request_said b) [] [] f g e).0 in
    ap docs.Ask (ask_again a b (ap (λ v. v.1.0.1.0.1.0) said))
one_of_items (docs.Delivery a) (docs.Delivery b) f g e =
    let said = (one_said (document DELIVERY) (wanted_plain Delivery) (delivery_said a) (delivery_said b) [] [] f g e).0 in
    ap docs.Delivery (reply_again a b (ap (λ v. v.1.0.1.0.1.0) said))
one_of_items (docs.Ask a) (docs.Delivery b) f g e = absurd cc
one_of_items (docs.Delivery a) (docs.Ask b) f g e = absurd cc

pub one_document : OneSpelling
one_document want doc other x y wanted too e =
    let means = start_means want in
    let one = one_front (start_of want) (items doc) (items other) x y means.plain (means.accepts doc wanted) (means.accepts other too) e in
    (one_of_items doc other wanted.1 too.1 one.0, one.1)
