-- No wanted document is long.
use Rattle.std.proofs.Common.{◌≡◌, refl, ℕ, ◌+◌, ◌*◌, ◌^◌, ◌<◌, ◌≤◌, List, [], ◌∷◌, ◌++◌, length, get_or, inl, inr, ◌∙◌, ap, arith, length-append, lit<, lit≤}
use Rattle.std.specs.Prelude.{Bool, nat_le}
use Rattle.std.specs.List.{AllByRecursion}
use Rattle.std.proofs.lemmas.Bool.{leb-true}
use Rattle.std.proofs.lemmas.Nat.{mul-le}
use Rattle.std.proofs.Math.Nat.{suc-mul}
use Rattle.ojp_tables.specs.Markup.{MARKUP_TEXTS}
use Rattle.ojp_values.specs.declared.documents.Doc.{Doc}
use Rattle.ojp_values.specs.declared.documents.Doc.TheVariants as docs
use Rattle.ojp_grammar.specs.declared.refusals.Want.{Want}
use Rattle.ojp_grammar.specs.declared.refusals.Want.TheVariants.{Request, Delivery}
use Rattle.ojp_grammar.specs.Items.{Item, tag, value, item_text, spell}
use Rattle.ojp_grammar.specs.Items as items
use Rattle.ojp_grammar.specs.Syntax.{Syntax, text, field, both, either, many, Says, put, put_each, Fits, value_of}
use Rattle.ojp_grammar.specs.Grammar.{REQUEST, DELIVERY, document}
use Rattle.ojp_grammar.specs.Documents.{request_said, delivery_said, IsWanted, IsWell}
use Rattle.ojp_grammar.specs.Documents as documents
use Rattle.ojp_grammar.specs.Steps.{IsPlain}
use Rattle.ojp_grammar.specs.Reached.{At, start_of}
use Rattle.ojp_grammar.proofs.Behind.{spell-append}
use Rattle.ojp_grammar.proofs.Plain.{some_items}
use Rattle.ojp_grammar.proofs.Spelled.{passes_at}
use Rattle.ojp_grammar.proofs.FieldLaws.{bare}
use Rattle.ojp_grammar.proofs.Wanted.{wanted_plain, start_means}

abbrev is_short : List ℕ → Bool
is_short t = nat_le (length t) 256

-- each markup text is short
pub text_short : (n : ℕ) → n < 99 → length (items.text n) ≤ 256
unfolding items.text
text_short n h = leb-true (length (get_or MARKUP_TEXTS n [])) 256 (passes_at is_short MARKUP_TEXTS n [] refl h)

-- what a shape says has at most so many bytes
abbrev most : Syntax → ℕ
most (text n) = 256
most (field kind close) = 768
most (both a b) = most a + most b
most (either a b) = most a + most b
most (many low high a b) = high * most a + most b

item_length : (i : Item) (rest : List Item) → length (spell (i ∷ rest)) ≡ length (item_text i) + length (spell rest)
item_length i rest = length-append (item_text i) (spell rest)

-- the bytes of what is said, and of what stands behind
abbrev IsShort : Syntax → Type 0
IsShort s = (v : Says s) (rest : List Item) → Fits s v → length (spell (put s v rest)) ≤ most s + length (spell rest)

each_short : (a : Syntax) → IsShort a → (xs : List (Says a)) (rest : List Item) → AllByRecursion (Fits a) xs → length (spell (put_each (put a) xs rest)) ≤ length xs * most a + length (spell rest)
each_short a short [] rest each = omega arith
each_short a short (x ∷ xs) rest each =
    let first = short x (put_each (put a) xs rest) each.0 in
    let more = each_short a short xs rest each.1 in
    let one : length (x ∷ xs) * most a ≡ length xs * most a + most a = suc-mul (length xs) (most a) in
    omega (arith, first, more, one)

said_short : (s : Syntax) → IsPlain s → IsShort s
said_short (text n) p v rest f = omega (arith, text_short n p, item_length (tag n) rest)
said_short (field kind close) p v rest f =
    omega (arith, (bare (value_of kind v) f).short, text_short close p, item_length (value (value_of kind v)) (tag close ∷ rest), item_length (tag close) rest)
said_short (both a b) p v rest f =
    omega (arith, said_short a p.0 v.0 (put b v.1 rest) f.0, said_short b p.1 v.1 rest f.1)
said_short (either a b) p (inl v) rest f = omega (arith, said_short a p.0 v rest f)
said_short (either a b) p (inr v) rest f = omega (arith, said_short b p.1 v rest f)
said_short (many low high a b) p v rest f =
    let each = each_short a (said_short a p.0) v.0 (put b v.1 rest) f.2 in
    let behind = said_short b p.1 v.1 rest f.3 in
    let within : length v.0 * most a ≤ high * most a = mul-le (length v.0) (most a) high (most a) f.1 (omega arith) in
    omega (arith, each, behind, within)

request_most : most (document REQUEST) < 2 ^ 41
request_most = lit< tt

delivery_most : most (document DELIVERY) < 2 ^ 41
delivery_most = lit< tt

-- a wanted document has fewer than 2^41 bytes
pub document_short : (doc : Doc) → IsWell doc → length (spell (documents.items doc)) < 2 ^ 41
unfolding documents.items IsWell
document_short (docs.Ask a) f =
    let short = said_short (document REQUEST) (wanted_plain Request) (request_said a) [] f in omega (arith, short, request_most)
document_short (docs.Delivery r) f =
    let short = said_short (document DELIVERY) (wanted_plain Delivery) (delivery_said r) [] f in omega (arith, short, delivery_most)

request_within : most (document REQUEST) ≤ 1048576
request_within = lit≤ tt

-- a request has at most 1,048,576 bytes
pub request_short : (doc : Doc) → IsWanted Request doc → length (spell (documents.items doc)) ≤ 1048576
unfolding documents.items IsWell
request_short (docs.Ask a) w =
    let short = said_short (document REQUEST) (wanted_plain Request) (request_said a) [] w.1 in omega (arith, short, request_within)
request_short (docs.Delivery r) w = absurd w.0

front_length : (front rest : List Item) → length (spell front) ≤ length (spell (front ++ rest))
front_length front rest =
    let e : length (spell (front ++ rest)) ≡ length (spell front) + length (spell rest) =
    ap length (spell-append front rest) ∙ length-append (spell front) (spell rest) in
    omega (arith, e)

-- no front of a wanted document is longer
pub front_short : (want : Want) (bytes : List ℕ) (front : List Item) (k : List Syntax) (tail : List ℕ) → At (start_of want) bytes front k tail → length (spell front) < 2 ^ 41
front_short want bytes front k tail at =
    let w = some_items k at.plain in
    let d = (start_means want).accepted (front ++ w.0) (at.to w.0 w.1) in
    let all : length (spell (documents.items d.doc)) ≡ length (spell (front ++ w.0)) = ap (λ l. length (spell l)) d.parts in
    omega (arith, document_short d.doc d.wanted.1, front_length front w.0, all)
