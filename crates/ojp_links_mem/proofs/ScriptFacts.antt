-- What a script says, entry by entry.
use Rattle.std.proofs.Common.{◌≡◌, ◌≢◌, ℕ, ◌==◌, Bool, true, false, List, [], ◌∷◌, ◌++◌, Option, Some, None, is_some, if◌then◌else◌, refl, sym, ◌∙◌, ap, inl, inr, arith, true≢false}
use Rattle.std.proofs.lemmas.Bool.{cases_eq, cases_order, ne_eqb}
use Rattle.std.proofs.lemmas.Bool.Decides.{nat_tests}
use Rattle.std.specs.BTreeMap.{BTreeMap, IsEmpty, Updates, is_at}
use Rattle.std.specs.Cmp.{nat_cmp_is}
use Rattle.std.specs.Ordering.{is_eq, nat_cmp}
use Rattle.std.specs.declared.cmp.Ordering.TheVariants.{Less, Greater}
use Rattle.ojp_links_mem.specs.Scripts.{said_more, said_of}
use Rattle.ojp_links_mem.specs.Memory.{said_in}
use Rattle.ojp_links_mem.specs.declared.script.What.{What}
use Rattle.ojp_links_mem.specs.declared.script.Script.{Script}

behind_case : (b : Bool) (first : What) (rest : Option What) (all : Option What) (entry : Script) (number : ℕ) → all ≡ said_more rest entry number → (if b then Some first else all) ≡ said_more (if b then Some first else rest) entry number
behind_case true first rest all entry number e = refl
behind_case false first rest all entry number e = e

pub said_behind : (script : List Script) (entry : Script) (number : ℕ) → said_of (script ++ entry ∷ []) number ≡ said_more (said_of script number) entry number
said_behind [] entry number = refl
said_behind (first ∷ script) entry number = behind_case (first.ask == number) first.what (said_of script number) (said_of (script ++ entry ∷ []) number) entry number (said_behind script entry number)

-- an empty table says nothing
pub none_said : (script : BTreeMap ℕ What) → IsEmpty script → (number : ℕ) → said_in script.entries number ≡ None
none_said script e number = ap (λ (es : List (ℕ × What)). said_in es number) e

-- ---- one more entry

other_number : (a q : ℕ) → a ≢ q → is_at (nat_cmp a) q ≡ false
other_number a q ne = elim (cases_order a q) [
  | inl e ↦ absurd (ne e)
  | inr way ↦ elim way [
    | inl less ↦ sym (ap is_eq (nat_cmp_is a q Less less))
    | inr more ↦ sym (ap is_eq (nat_cmp_is a q Greater more))
  ]
]

is_none : (o : Option What) → is_some o ≡ false → o ≡ None
is_none None e = refl
is_none (Some w) e = absurd (true≢false e)

same_number : (q : ℕ) → (q == q) ≡ true
same_number q = grind (arith, nat_tests)

first_said : (entry : Script) (number : ℕ) (o : Option What) → o ≡ None → entry.ask ≡ number → said_more o entry number ≡ Some entry.what
first_said entry number o none e =
    ap (λ (p : Option What). said_more p entry number) none
    ∙ ap (λ (b : Bool). if b then Some entry.what else None) (ap (λ (n : ℕ). entry.ask == n) (sym e) ∙ same_number entry.ask)

not_said : (entry : Script) (number : ℕ) (o : Option What) → entry.ask ≢ number → said_more o entry number ≡ o
not_said entry number None ne = ap (λ (b : Bool). if b then Some entry.what else None) (ne_eqb entry.ask number ne)
not_said entry number (Some w) ne = refl

said_before : (entry : Script) (number : ℕ) (o : Option What) → is_some o ≡ true → said_more o entry number ≡ o
said_before entry number None e = absurd (true≢false (sym e))
said_before entry number (Some w) e = refl

-- an entry whose number was not there is what the table says of it
pub more_said : (old new : BTreeMap ℕ What) (entry : Script) → Updates nat_cmp old new entry.ask (Some entry.what) → is_some (said_in old.entries entry.ask) ≡ false → (number : ℕ) → said_in new.entries number ≡ said_more (said_in old.entries number) entry number
more_said old new entry updates none number = elim (cases_eq entry.ask number) [
  | inl e ↦
      let now : said_in new.entries number ≡ Some entry.what = sym (ap (said_in new.entries) e) ∙ updates.1 in
      let was : said_in old.entries number ≡ None = sym (ap (said_in old.entries) e) ∙ is_none (said_in old.entries entry.ask) none in
      now ∙ sym (first_said entry number (said_in old.entries number) was e)
  | inr ne ↦ updates.2 number (other_number entry.ask number ne) ∙ sym (not_said entry number (said_in old.entries number) ne)
]

-- one whose number was there says nothing
pub same_said : (old : BTreeMap ℕ What) (entry : Script) → is_some (said_in old.entries entry.ask) ≡ true → (number : ℕ) → said_in old.entries number ≡ said_more (said_in old.entries number) entry number
same_said old entry some number = elim (cases_eq entry.ask number) [
  | inl e ↦ sym (said_before entry number (said_in old.entries number) (sym (ap (λ (n : ℕ). is_some (said_in old.entries n)) e) ∙ some))
  | inr ne ↦ sym (not_said entry number (said_in old.entries number) ne)
]
