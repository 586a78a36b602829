-- Items that are cut short, and what they may still become.
use Rattle.std.proofs.Common.{◌≡◌, refl, ℕ, List, [], ◌∷◌, Option, Some, None, IfSome, inl, inr, sym, ◌∙◌, subst, arith}
use Rattle.ojp_tables.specs.declared.names.TheConstants.{HEAD}
use Rattle.ojp_values.specs.declared.kinds.Kind.{Kind}
use Rattle.ojp_grammar.specs.declared.machine.Cut.{Cut}
use Rattle.ojp_grammar.specs.declared.machine.Cut.TheVariants as cuts
use Rattle.ojp_grammar.specs.declared.refusals.Reason.TheVariants as reasons
use Rattle.ojp_grammar.specs.declared.refusals.Want.{Want}
use Rattle.ojp_grammar.specs.Items.{text}
use Rattle.ojp_grammar.specs.Syntax.{Syntax}
use Rattle.ojp_grammar.specs.Steps.{wants, Sticks}
use Rattle.ojp_grammar.specs.Reached.{start_of}
use Rattle.ojp_grammar.specs.Machine.{IsCutItem, IsCutAt, StopsFor}
use Rattle.ojp_grammar.proofs.Plain.{begins_no_field}
use Rattle.ojp_grammar.proofs.Spelled.{text_opens}

-- ---- what is cut stops the machine

pub cut_stops : (cut : Cut) (k : List Syntax) (bytes : List ℕ) → IsCutAt (Some cut) k bytes → StopsFor k bytes reasons.Truncated
cut_stops cut [] bytes h = h
cut_stops (cuts.Text n) (s ∷ k) bytes h = inl (n, h.0, h.1)
cut_stops cuts.Field (s ∷ k) bytes h = inr h

-- nothing at all may still become the head
pub start_cut : (want : Want) → IsCutAt (Some (cuts.Text HEAD)) (start_of want) []
start_cut want = let opens = text_opens HEAD (omega arith) in (refl, (text HEAD, refl, λ none. cc))

pub cut_field : (s : Syntax) (bytes : List ℕ) (kind : Kind) → wants s ≡ Some kind → Sticks s bytes reasons.Truncated → IsCutItem s bytes cuts.Field
cut_field s bytes kind e (inl here) = let none = begins_no_field s here.0 here.1 in absurd (let other : Some kind ≡ None = sym e ∙ none in cc)
cut_field s bytes kind e (inr run) = run

pub found_cut : (cut : Option Cut) (s : Syntax) (k more : List Syntax) (bytes : List ℕ) → k ≡ s ∷ more → IfSome cut (IsCutItem s bytes) → IsCutAt cut k bytes
found_cut None s k more bytes e h = tt
found_cut (Some cut) s k more bytes e h = let P : List Syntax → Type 0 = λ o. IsCutAt (Some cut) o bytes in subst P (sym e) h
