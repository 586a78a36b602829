-- What is decided of a head with its newest byte, whatever follows.
use Rattle.std.specs.Prelude.{◌≡◌, ◌⊎◌, ℕ, Bool, List, [], ◌∷◌, ◌++◌, Option, Some, None, Result, Ok, Err, if◌then◌else◌}
use Rattle.httparse.specs.Grammar.{Field}
use Rattle.httparse.specs.declared.Error.{Error}
use Rattle.httparse.specs.declared.Error.TheVariants.{TooManyHeaders}
use Rattle.httparse.specs.declared.Status.{Status}
use Rattle.httparse.specs.declared.Status.TheVariants.{Complete, Partial}
use Rattle.ojp_http.specs.declared.refusal.Refusal.{Refusal}
use Rattle.ojp_http.specs.Heads.{IsFull, IsFullAt, HasHead, HasNoHead, IsMalformed}

module _ {H : Type 0} (Reads : List ℕ → H → List ℕ → Type 0) (fields : H → List Field) (most : ℕ) where
  -- before the last byte there was no head, and the bytes were not full
  pub record HasGrown (bytes : List ℕ) : Type 0 where
    pub kept : List ℕ
    pub newest : ℕ
    pub is : bytes ≡ kept ++ newest ∷ []
    pub none : HasNoHead Reads fields most kept
    pub open_ended : ¬ (IsFull most kept)

  -- whatever follows, the bytes hold no head: they are malformed, or they are full
  abbrev pub Refuses : Refusal → Refusal → List ℕ → Refusal → Type 0
  Refuses bad large bytes e =
      ((e ≡ bad) × ((more : List ℕ) → HasNoHead Reads fields most (bytes ++ more) × IsMalformed Reads fields most (bytes ++ more)))
      ⊎ ((e ≡ large) × ((more : List ℕ) → HasNoHead Reads fields most (bytes ++ more) × IsFull most (bytes ++ more)))

  -- the bytes are a head with this frame, or a refusal is decided, or nothing
  abbrev pub Decides : {F : Type 0} → Refusal → Refusal → (H → F) → List ℕ → Result (Option F) Refusal → Type 0
  Decides bad large frame bytes (Ok (Some f)) = (h : H) × HasHead Reads fields most bytes h [] × (f ≡ frame h)
  Decides bad large frame bytes (Ok None) = HasNoHead Reads fields most bytes × (¬ (IsFullAt most bytes))
  Decides bad large frame bytes (Err e) = Refuses bad large bytes e

-- what a parser's answer decides, where the bytes are full or not
abbrev pub decided_by : {H : Type 0} → Result (Status H) Error → Bool → Refusal → Refusal → Result (Option H) Refusal
decided_by (Ok (Complete h)) is_full bad large = Ok (Some h)
decided_by (Ok Partial) is_full bad large = if is_full then Err large else Ok None
decided_by (Err TooManyHeaders) is_full bad large = Err large
decided_by (Err other) is_full bad large = Err bad

-- the bytes end in this one
abbrev pub EndsIn : ℕ → List ℕ → Type 0
EndsIn newest bytes = (kept : List ℕ) × (bytes ≡ kept ++ newest ∷ [])
