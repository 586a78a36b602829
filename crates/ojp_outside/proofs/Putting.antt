-- How far a loop has come that writes some bytes, or parts of them.
use Rattle.std.proofs.Common.{◌≡◌, ℕ, ◌+◌, ◌≤◌, ◌<◌, List, [], ◌∷◌, ◌++◌, length, take, drop, Option, None, Some, refl, sym, ap, ◌∙◌, append_assoc, append-nil, take-append-drop, subst, arith, length-take-le, length-append, get_or, Bor, suc}
use Rattle.std.proofs.lemmas.List.{take-append-le}
use Rattle.std.proofs.lemmas.Grind.{flat_map-append}
use Rattle.std.proofs.Math.Seq.{drop-cons}
use Rattle.std.specs.Io.KnownBytes.{Appends, Keeps}
use Rattle.std.specs.List.{flat_map}
use Rattle.std.proofs.KnownBytes.{Appends-nil, Appends-trans, Appends-kept}
use Rattle.std.proofs.Math.Seq.{take-append_seam, take-append-add}
use Rattle.ojp_outside.specs.Known.{AppendsPrefix}

-- done was written of the bytes, rest is to come, and the count stands still
pub record Puts (old new : Option (List ℕ)) (bytes rest : List ℕ) (before now : ℕ) : Type 0 where
  pub done : List ℕ
  pub split : bytes ≡ done ++ rest
  pub written : Appends old new done
  pub at_rest : now ≡ before

pub Puts-start : (old : Option (List ℕ)) (bytes : List ℕ) (now : ℕ) → Puts old old bytes bytes now now
Puts-start old bytes now = record { done = []; split = refl; written = Appends-nil old; at_rest = refl }

pub Puts-more : (old mid new : Option (List ℕ)) (bytes rest : List ℕ) (n before now later : ℕ)
    → Puts old mid bytes rest before now → Appends mid new (take n rest) → later ≡ now → Puts old new bytes (drop n rest) before later
Puts-more old mid new bytes rest n before now later p a le = record {
  done = p.done ++ take n rest;
  split = p.split ∙ ap (λ l. p.done ++ l) (sym (take-append-drop n rest)) ∙ sym (append_assoc p.done (take n rest) (drop n rest));
  written = Appends-trans old mid new p.done (take n rest) p.written a;
  at_rest = le ∙ p.at_rest;
}

-- all was written
pub Puts-all : (old new : Option (List ℕ)) (bytes rest : List ℕ) (before now : ℕ) → Puts old new bytes rest before now → rest ≡ [] → Appends old new bytes
Puts-all old new bytes rest before now p e = subst (Appends old new) (sym (p.split ∙ ap (λ l. p.done ++ l) e ∙ append-nil p.done)) p.written

-- a prefix was written
pub Puts-prefix : (old mid new : Option (List ℕ)) (bytes rest : List ℕ) (before now : ℕ) → Puts old mid bytes rest before now → Keeps mid new → AppendsPrefix old new bytes
Puts-prefix old mid new bytes rest before now p k =
    let front : take (length p.done) bytes ≡ p.done = ap (take (length p.done)) p.split ∙ take-append_seam p.done rest in
    (length p.done, omega (arith, ap length p.split, length-append p.done rest), subst (Appends old new) (sym front) (Appends-kept old mid new p.done p.written k))

-- a prefix of what stands behind bytes that were written
pub AppendsPrefix-behind : (old mid new : Option (List ℕ)) (front part rest : List ℕ) → Appends old mid front → AppendsPrefix mid new part → AppendsPrefix old new (front ++ (part ++ rest))
AppendsPrefix-behind old mid new front part rest a p =
    let e : take (length front + p.0) (front ++ (part ++ rest)) ≡ front ++ take p.0 part =
    take-append-add front (part ++ rest) p.0 ∙ ap (λ l. front ++ l) (take-append-le p.0 part rest p.1) in
    (length front + p.0, omega (arith, p.1, length-append front (part ++ rest), length-append part rest), subst (Appends old new) (sym e) (Appends-trans old mid new front (take p.0 part) a p.2))

-- the bytes of some parts
abbrev pub bytes_of : List (Bor (List ℕ)) → List ℕ
bytes_of parts = flat_map (λ part. part.now) parts

-- the first parts were written, and the count stands still
pub record PutsParts (old new : Option (List ℕ)) (parts : List (Bor (List ℕ))) (n before now : ℕ) : Type 0 where
  pub written : Appends old new (bytes_of (take n parts))
  pub at_rest : now ≡ before

-- the bytes of the parts before the i-th, of the i-th, and of those behind it
pub bytes_of-split : (parts : List (Bor (List ℕ))) (i : ℕ) (d : Bor (List ℕ)) → i < length parts
    → bytes_of parts ≡ bytes_of (take i parts) ++ ((get_or parts i d).now ++ bytes_of (drop (suc i) parts))
bytes_of-split parts i d h =
    ap bytes_of (sym (take-append-drop i parts)) ∙ flat_map-append (λ (part : Bor (List ℕ)). part.now) (take i parts) (drop i parts)
    ∙ ap (λ (l : List (Bor (List ℕ))). bytes_of (take i parts) ++ bytes_of l) (drop-cons parts i d h)

-- a prefix was written where a part failed
pub PutsParts-prefix : (old mid new : Option (List ℕ)) (parts : List (Bor (List ℕ))) (i before now : ℕ) (d : Bor (List ℕ))
    → PutsParts old mid parts i before now → i < length parts → AppendsPrefix mid new (get_or parts i d).now → AppendsPrefix old new (bytes_of parts)
PutsParts-prefix old mid new parts i before now d p h a =
    subst (AppendsPrefix old new) (sym (bytes_of-split parts i d h)) (AppendsPrefix-behind old mid new (bytes_of (take i parts)) (get_or parts i d).now (bytes_of (drop (suc i) parts)) p.written a)
