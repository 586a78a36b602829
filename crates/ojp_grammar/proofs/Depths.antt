-- How many shapes are open.
use Rattle.std.proofs.Common.{◌≡◌, ℕ, ◌-◌, ◌≤◌, List, ◌∷◌, length, inl, inr, ◌∙◌, arith, lit≤}
use Rattle.std.specs.Prelude.{reverse}
use Rattle.std.proofs.lemmas.List.{length-map, length-reverse}
use Rattle.ojp_grammar.specs.declared.refusals.Want.{Want}
use Rattle.ojp_grammar.specs.declared.refusals.Want.TheVariants as wants
use Rattle.ojp_grammar.specs.declared.shapes.Shape.{Shape}
use Rattle.ojp_grammar.specs.Items.{Item, tag, value}
use Rattle.ojp_grammar.specs.Syntax.{Syntax, text, field, both, either, many}
use Rattle.ojp_grammar.specs.Steps.{syntax_of, stack_of, begins, enter, leave, step, depth, AreShallow}
use Rattle.ojp_grammar.specs.Reached.{start_of}
use Rattle.ojp_grammar.proofs.Tests.{either_way}

pub depth_some : (s : Syntax) → 1 ≤ depth s
depth_some (text n) = lit≤ tt
depth_some (field kind close) = lit≤ tt
depth_some (both a b) = let h = depth_some b in omega arith
depth_some (either a b) = let h = depth_some a in omega arith
depth_some (many low high a b) = let h = depth_some b in omega arith

enter_shallow : (s : Syntax) (n : ℕ) (k : List Syntax) → AreShallow (s ∷ k) → AreShallow (enter n s k)
enter_shallow (text m) n k h = h.1
enter_shallow (field kind close) n k h = h.1
enter_shallow (both a b) n k h = enter_shallow a n (b ∷ k) (omega (arith, h.0), (omega (arith, h.0), h.1))
enter_shallow (either a b) n k h =
    elim (either_way (begins n a)) [
      | inl here ↦ rw here (enter_shallow a n k (omega (arith, h.0), h.1))
      | inr absent ↦ rw absent (enter_shallow b n k (omega (arith, h.0), h.1))
    ]
enter_shallow (many low high a b) n k h =
    elim (either_way (begins n b)) [
      | inl here ↦ rw here (enter_shallow b n k (omega (arith, h.0), h.1))
      | inr absent ↦ rw absent (enter_shallow a n (many (low - 1) (high - 1) a b ∷ k) (omega (arith, h.0), (omega (arith, h.0), h.1)))
    ]

leave_shallow : (s : Syntax) (k : List Syntax) → AreShallow (s ∷ k) → AreShallow (leave s k)
leave_shallow (text m) k h = h.1
leave_shallow (field kind close) k h = h
leave_shallow (both a b) k h = leave_shallow a (b ∷ k) (omega (arith, h.0), (omega (arith, h.0), h.1))
leave_shallow (either a b) k h = h.1
leave_shallow (many low high a b) k h = h.1

-- what is open behind an item is no deeper
pub step_shallow : (s : Syntax) (i : Item) (k : List Syntax) → AreShallow (s ∷ k) → AreShallow (step i s k)
step_shallow s (tag n) k h = enter_shallow s n k h
step_shallow s (value v) k h = leave_shallow s k h

pub start_shallow : (want : Want) → AreShallow (start_of want)
start_shallow wants.Request = (lit≤ tt, (lit≤ tt, (lit≤ tt, tt)))
start_shallow wants.Delivery = (lit≤ tt, (lit≤ tt, (lit≤ tt, tt)))
start_shallow wants.Either = (lit≤ tt, (lit≤ tt, (lit≤ tt, tt)))

pub open_length : (items : List Shape) → length (stack_of items) ≡ length items
open_length items = length-map (reverse items) syntax_of ∙ length-reverse items
