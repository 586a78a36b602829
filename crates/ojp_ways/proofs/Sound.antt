-- Each arrival that a record tells is reached, whatever was told, where each entry tells what follows from a known label.
use Rattle.std.proofs.Common.{List, [], ◌∷◌, ◌++◌, ◌⊎◌, sym, subst, inl, inr, append_assoc, append-nil}
use Rattle.ojp_ways.specs.Ways.{Ways, Reached, FirstRides, NextRides, InTurn, HasKnown, HasHeard}

module _ (ways : Ways) (Entry : Type 0) (Tells : List Entry → Entry → Type 0)
    (Known : List Entry → ways.Place → ways.Label → Type 0)
    (Heard : List Entry → ways.Place → ways.Label → Type 0)
    (none : (q : ways.Place) (m : ways.Label) → Heard [] q m → ⊥)
    (last : (told : List Entry) (entry : Entry) (q : ways.Place) (m : ways.Label) → Tells told entry → Heard (told ++ entry ∷ []) q m → Heard told q m ⊎ HasKnown ways (Known told) q m)
    (back : (told : List Entry) (p : ways.Place) (l : ways.Label) → Known told p l → ways.Starts p l ⊎ HasHeard ways (Heard told) p l)
  where
    abbrev pub IsSound : List Entry → Type 0
    IsSound told = (q : ways.Place) (m : ways.Label) → Heard told q m → Reached ways q m

    from_known : (told : List Entry) (q : ways.Place) (m : ways.Label) → IsSound told → HasKnown ways (Known told) q m → Reached ways q m
    from_known told q m sound it = go (back told it.place it.label it.known)
      where
        go : ways.Starts it.place it.label ⊎ HasHeard ways (Heard told) it.place it.label → Reached ways q m
        go (inl starts) = FirstRides starts it.rides
        go (inr heard) = NextRides (sound heard.place heard.label heard.heard) heard.change it.rides

    sound_last : (told : List Entry) (entry : Entry) → IsSound told → Tells told entry → IsSound (told ++ entry ∷ [])
    sound_last told entry sound tells q m h = go (last told entry q m tells h)
      where
        go : Heard told q m ⊎ HasKnown ways (Known told) q m → Reached ways q m
        go (inl before) = sound q m before
        go (inr now) = from_known told q m sound now

    sound_on : (told later : List Entry) → IsSound told → InTurn Tells told later → IsSound (told ++ later)
    sound_on told [] sound turn = subst (λ (t : List Entry). IsSound t) (sym (append-nil told)) sound
    sound_on told (entry ∷ later) sound turn =
        subst (λ (t : List Entry). IsSound t) (append_assoc told (entry ∷ []) later) (sound_on (told ++ entry ∷ []) later (sound_last told entry sound turn.0) turn.1)

    pub each_is_reached : (told : List Entry) → InTurn Tells [] told → IsSound told
    each_is_reached told turn = sound_on [] told (λ q m h. absurd (none q m h)) turn
