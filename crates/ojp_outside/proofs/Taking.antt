-- How far a loop has come that reads a source.
use Rattle.std.proofs.Common.{◌≡◌, ℕ, ◌+◌, ◌≤◌, ◌<◌, List, [], ◌++◌, Option, refl, sym, ap, ◌∙◌, min, length, take, drop, take-append-drop, arith}
use Rattle.std.proofs.lemmas.List.{drop-drop, length-drop, nil_from_length}
use Rattle.std.specs.Io.KnownBytes.{Consumes, Keeps}
use Rattle.std.proofs.KnownBytes.{Consumes-nil, Consumes-trans, Consumes-kept}

-- these bytes were taken, and the count stands still
pub record Takes (old new : Option (List ℕ)) (taken : List ℕ) (before now : ℕ) : Type 0 where
  pub consumed : Consumes old new taken
  pub at_rest : now ≡ before

pub Takes-start : (old : Option (List ℕ)) (now : ℕ) → Takes old old [] now now
Takes-start old now = record { consumed = Consumes-nil old; at_rest = refl }

pub Takes-more : (old mid new : Option (List ℕ)) (taken more : List ℕ) (before now later : ℕ)
    → Takes old mid taken before now → Consumes mid new more → later ≡ now → Takes old new (taken ++ more) before later
Takes-more old mid new taken more before now later t c le = record {
  consumed = Consumes-trans old mid new taken more t.consumed c;
  at_rest = le ∙ t.at_rest;
}

-- a read gave the front of what was left, and nothing only where nothing was left
pub takes_front : (left bytes from into : List ℕ) (at n most : ℕ) → drop at bytes ≡ left → from ≡ drop at bytes → 0 < most
    → n ≡ min (min (length from) (length into)) most → take n into ≡ take n from
    → (left ≡ take n into ++ drop (at + n) bytes) × (n ≡ 0 → 0 < length into → drop (at + n) bytes ≡ [])
takes_front left bytes from into at n most l f m e c =
    let behind : drop (at + n) bytes ≡ drop n (drop at bytes) = sym (drop-drop n at bytes) in (
      sym l ∙ sym (take-append-drop n (drop at bytes)) ∙ ap (λ x. x ++ drop n (drop at bytes)) (ap (take n) (sym f) ∙ sym c) ∙ ap (λ x. take n into ++ x) (sym behind),
      λ z room. nil_from_length (drop (at + n) bytes)
          (omega (arith, e, z, m, room, ap length f, ap length behind, length-drop n (drop at bytes))),
    )
