-- What calls wrote one after another.
use Rattle.std.proofs.Common.{◌≡◌, ℕ, suc, ◌<◌, ◌≤◌, List, [], ◌++◌, length, take, drop, get_or, take-append-drop, drop-cons, Option, Result, Ok, Err, IsErr, refl, sym, subst, ap, ◌∙◌, arith, append-nil, length-append}
use Rattle.std.proofs.lemmas.List.{take-append-le}
use Rattle.std.specs.List.{flat_map}
use Rattle.std.proofs.lemmas.Grind.{flat_map-append}
use Rattle.std.specs.Io.KnownBytes.{Appends}
use Rattle.std.proofs.KnownBytes.{Appends-nil, Appends-trans}
use Rattle.ojp_outside.specs.declared.sink.WriteFault.{WriteFault}
use Rattle.ojp_outside.specs.Causes.{Rose}
use Rattle.ojp_outside.specs.Known.{AppendsPrefix}
use Rattle.ojp_outside.proofs.Putting.{AppendsPrefix-behind}
use Rattle.ojp_encode.specs.Writing.{Writes}

-- a fault of the first call stops both
pub Writes-stopped : (old new : Option (List ℕ)) (before now : ℕ) (a b : List ℕ) (e : WriteFault) (r : Result (Unit {0}) WriteFault)
    → Writes old new before now a (Err e) → IsErr r → Writes old new before now (a ++ b) r
Writes-stopped old new before now a b e (Ok v) w h = absurd (cc)
Writes-stopped old new before now a b e (Err f) w h = record {
  ok = tt;
  err = (w.err.0, omega (arith, w.err.1, length-append a b), subst (Appends old new) (sym (take-append-le w.err.0 a b w.err.1)) w.err.2);
  cause = record { later = w.cause.later; at_rest = tt; failed = w.cause.failed };
}

rose : (before between now : ℕ) → before ≤ between → Rose between now → Rose before now
rose before between now le h = omega arith

-- both calls wrote
pub Writes-then : (old mid new : Option (List ℕ)) (before between now : ℕ) (a b : List ℕ) (v : Unit {0}) (r : Result (Unit {0}) WriteFault)
    → Writes old mid before between a (Ok v) → Writes mid new between now b r → Writes old new before now (a ++ b) r
Writes-then old mid new before between now a b v (Ok u) w x = record {
  ok = Appends-trans old mid new a b w.ok x.ok;
  err = tt;
  cause = record { later = let h = w.cause.later in let k = x.cause.later in omega arith; at_rest = x.cause.at_rest ∙ w.cause.at_rest; failed = tt };
}
Writes-then old mid new before between now a b v (Err e) w x = record {
  ok = tt;
  err = subst (AppendsPrefix old new) (ap (λ l. a ++ l) (append-nil b)) (AppendsPrefix-behind old mid new a b [] w.ok x.err);
  cause = record { later = let h = w.cause.later in let k = x.cause.later in omega arith; at_rest = tt; failed = rose before between now w.cause.later x.cause.failed };
}

-- nothing was written so far
pub Writes-none : (old : Option (List ℕ)) (now : ℕ) (v : Unit {0}) → Writes old old now now [] (Ok v)
Writes-none old now v = record {
  ok = Appends-nil old;
  err = tt;
  cause = record { later = omega arith; at_rest = refl; failed = tt };
}

-- the same bytes were written
pub Writes-same : (old new : Option (List ℕ)) (before now : ℕ) (a b : List ℕ) (r : Result (Unit {0}) WriteFault) → Writes old new before now a r → a ≡ b → Writes old new before now b r
Writes-same old new before now a b r w e = subst (λ (l : List ℕ). Writes old new before now l r) e w

-- the first of some parts, one part, and those behind it
split : {X : Type 0} (f : X → List ℕ) (xs : List X) (i : ℕ) (d : X) → i < length xs
    → flat_map f xs ≡ flat_map f (take i xs) ++ (f (get_or xs i d) ++ flat_map f (drop (suc i) xs))
split f xs i d h =
    ap (flat_map f) (sym (take-append-drop i xs)) ∙ flat_map-append f (take i xs) (drop i xs)
    ∙ ap (λ l. flat_map f (take i xs) ++ flat_map f l) (drop-cons xs i d h)

-- a part of several was not written whole
pub Writes-within : {X : Type 0} (f : X → List ℕ) (xs : List X) (i : ℕ) (x : X) (old mid new : Option (List ℕ)) (before between now : ℕ) (v : Unit {0}) (e : WriteFault) (r : Result (Unit {0}) WriteFault)
    → Writes old mid before between (flat_map f (take i xs)) (Ok v) → i < length xs → x ≡ get_or xs i x → Writes mid new between now (f x) (Err e) → IsErr r
    → Writes old new before now (flat_map f xs) r
Writes-within f xs i x old mid new before between now v e r w h is fails k =
    Writes-same old new before now (flat_map f (take i xs) ++ (f x ++ flat_map f (drop (suc i) xs))) (flat_map f xs) r
    (Writes-then old mid new before between now (flat_map f (take i xs)) (f x ++ flat_map f (drop (suc i) xs)) v r w
    (Writes-stopped mid new between now (f x) (flat_map f (drop (suc i) xs)) e r fails k))
    (sym (split f xs i x h ∙ ap (λ y. flat_map f (take i xs) ++ (f y ++ flat_map f (drop (suc i) xs))) (sym is)))
