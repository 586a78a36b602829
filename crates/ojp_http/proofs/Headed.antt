-- Heads at their newest byte, the same for requests, replies and trailers.
use Rattle.std.proofs.Common.{◌≡◌, ℕ, ◌+◌, ◌≤◌, ◌<◌, ◌⊎◌, Bool, true, false, List, [], ◌∷◌, ◌++◌, Option, Some, None, Result, Ok, Err, length, refl, sym, ap, ◌∙◌, arith, append_assoc, append-nil, subst, inl, inr, length-append, nat_le, ◌||◌, ◌&&◌}
use Rattle.httparse.specs.Grammar.{Field, print_blank, print_end, lf}
use Rattle.ojp_http.specs.declared.count.LineCount.{LineCount}
use Rattle.httparse.specs.declared.Error.{Error}
use Rattle.httparse.specs.declared.Error.TheVariants.{HeaderName, HeaderValue, NewLine, Status as StatusWrong, Token, TooManyHeaders, Version}
use Rattle.httparse.specs.declared.Status.{Status}
use Rattle.httparse.specs.declared.Status.TheVariants.{Complete, Partial}
use Rattle.httparse.specs.Outcome.{OnPartial, OnInvalid, OnTooManyHeaders}
use Rattle.ojp_http.specs.declared.refusal.Refusal.{Refusal}
use Rattle.ojp_http.specs.LineCounts.{no_lines, count_from, is_full_by}
use Rattle.ojp_http.specs.Heads.{IsFullAt, IsFull, IsWithin}
use Rattle.ojp_http.specs.Outcomes.{HasGrown, Decides, Refuses, decided_by}
use Rattle.std.proofs.lemmas.Bool.{le-leb, or_right}
use Rattle.std.proofs.lemmas.List.{append_cancel_right}
use Rattle.ojp_http.specs.declared.count.Begun.TheVariants.{Nothing}
use Rattle.ojp_http.proofs.Full.{full_by, not_full_by}
use Rattle.ojp_http.proofs.Lines.{Heading, heading_has_empty, heading_ends_in, print_lines, return_of, print_end-is, body_count}

-- two lists of which nothing is made are empty
pub both_empty : (a b : List ℕ) → a ++ b ≡ [] → (a ≡ []) × (b ≡ [])
both_empty [] b e = (refl, e)
both_empty (x ∷ a) b e = absurd (cc)

-- a front of some bytes and one more is all of them, or a front of those before the last
pub front_cases : (front rest kept : List ℕ) (b : ℕ) → front ++ rest ≡ kept ++ b ∷ []
    → (rest ≡ []) ⊎ ((more : List ℕ) × (kept ≡ front ++ more) × (rest ≡ more ++ b ∷ []))
front_cases [] rest kept b e = inr (kept, refl, e)
front_cases (x ∷ []) [] [] b e = inl refl
front_cases (x ∷ front) rest [] b e =
    let t : front ++ rest ≡ [] = cc in
    inl (both_empty front rest t).1
front_cases (x ∷ front) rest (y ∷ kept) b e =
    let t : front ++ rest ≡ kept ++ b ∷ [] = cc in
    let h : x ≡ y = cc in
    elim (front_cases front rest kept b t) [
      | inl n ↦ inl n
      | inr m ↦ inr (m.0, ap (λ (v : ℕ). v ∷ kept) (sym h) ∙ ap (λ (l : List ℕ). x ∷ l) m.1, m.2)
    ]

-- two fronts of the same bytes: one is the other and more
pub two_fronts : (a b c d : List ℕ) → a ++ b ≡ c ++ d
    → ((more : List ℕ) × (c ≡ a ++ more) × (b ≡ more ++ d)) ⊎ ((more : List ℕ) × (0 < length more) × (a ≡ c ++ more) × (d ≡ more ++ b))
two_fronts [] b c d e = inl (c, refl, e)
two_fronts (x ∷ a) b [] d e = inr (x ∷ a, omega arith, refl, sym e)
two_fronts (x ∷ a) b (y ∷ c) d e =
    let t : a ++ b ≡ c ++ d = cc in
    let h : x ≡ y = cc in
    elim (two_fronts a b c d t) [
      | inl m ↦ inl (m.0, ap (λ (v : ℕ). v ∷ c) (sym h) ∙ ap (λ (l : List ℕ). x ∷ l) m.1, m.2)
      | inr m ↦ inr (m.0, m.1, ap (λ (v : ℕ). v ∷ a) h ∙ ap (λ (l : List ℕ). y ∷ l) m.2, m.3)
    ]

-- what follows from a fact of a parser's answer is one too
pub on_partial : {P : Type 0} {A B : Type 0} (parsed : Result (Status P) Error) → (A → B) → OnPartial parsed A → OnPartial parsed B
on_partial (Ok (Complete p)) f a = tt
on_partial (Ok Partial) f a = f a
on_partial (Err e) f a = tt

pub on_invalid : {P : Type 0} {A B : Type 0} (parsed : Result (Status P) Error) → (A → B) → OnInvalid parsed A → OnInvalid parsed B
on_invalid (Ok status) f a = tt
on_invalid (Err e) f a = λ other. f (a other)

-- a parser that decides for a head found it
pub found_by : {P : Type 0} (parsed : Result (Status P) Error) (is_full : Bool) (bad large : Refusal) (p : P) → decided_by parsed is_full bad large ≡ Ok (Some p) → parsed ≡ Ok (Complete p)
found_by (Ok (Complete q)) is_full bad large p e = cc
found_by (Ok Partial) true bad large p e = absurd (cc)
found_by (Ok Partial) false bad large p e = absurd (cc)
found_by (Err TooManyHeaders) is_full bad large p e = absurd (cc)
found_by (Err HeaderName) is_full bad large p e = absurd (cc)
found_by (Err HeaderValue) is_full bad large p e = absurd (cc)
found_by (Err NewLine) is_full bad large p e = absurd (cc)
found_by (Err StatusWrong) is_full bad large p e = absurd (cc)
found_by (Err Token) is_full bad large p e = absurd (cc)
found_by (Err Version) is_full bad large p e = absurd (cc)

-- what a grammar of heads gives: the bytes of a head, those that follow it, and its lines
pub record Grammar {H : Type 0} (Reads : List ℕ → H → List ℕ → Type 0) (fields : H → List Field) (extra : ℕ) : Type 0 where
  pub more : (bytes : List ℕ) (h : H) (rest more : List ℕ) → Reads bytes h rest → Reads (bytes ++ more) h (rest ++ more)
  pub front : (bytes : List ℕ) (h : H) (rest : List ℕ) → Reads bytes h rest → (front : List ℕ) × (bytes ≡ front ++ rest) × Reads front h []
  pub heading : (text : List ℕ) (h : H) → Reads text h [] → Heading (length (fields h) + extra) text

pub no_end : (a : List ℕ) (x : ℕ) → [] ≡ a ++ x ∷ [] → ⊥
no_end [] x e = cc
no_end (y ∷ a) x e = cc

same_last : (a b : List ℕ) (x y : ℕ) → a ++ x ∷ [] ≡ b ++ y ∷ [] → x ≡ y
same_last [] [] x y e = cc
same_last [] (v ∷ b) x y e = let t : [] ≡ b ++ y ∷ [] = cc in absurd (no_end b y t)
same_last (u ∷ a) [] x y e = let t : a ++ x ∷ [] ≡ [] = cc in absurd (no_end a x (sym t))
same_last (u ∷ a) (v ∷ b) x y e = let t : a ++ x ∷ [] ≡ b ++ y ∷ [] = cc in same_last a b x y t

-- so many lines are full
full_lines : (most len n : ℕ) → most ≤ n → is_full_by most len (record { begun = Nothing; counted = n; has_empty = false }) ≡ true
full_lines most len n h = ap (λ v. nat_le 16384 len || (v && true)) (le-leb most n h) ∙ or_right (nat_le 16384 len) true refl

module _ {H : Type 0} (Reads : List ℕ → H → List ℕ → Type 0) (fields : H → List Field) (most : ℕ) where
  -- no proper front of the bytes is full
  grown_within : (kept bytes front rest : List ℕ) (b : ℕ) → ¬ (IsFull most kept) → bytes ≡ kept ++ b ∷ [] → bytes ≡ front ++ rest → IsWithin most front
  grown_within kept bytes front rest b none is from part more e some full =
      let whole : part ++ (more ++ rest) ≡ kept ++ b ∷ [] = sym (append_assoc part more rest) ∙ ap (λ (l : List ℕ). l ++ rest) (sym e) ∙ sym from ∙ is in
      elim (front_cases part (more ++ rest) kept b whole) [
        | inl n ↦ absurd (omega (arith, ap length n, length-append more rest, some))
        | inr m ↦ absurd (none (record { front = part; rest = m.0; is = m.1; full = full }))
      ]

  -- the bytes are full
  pub full_now : (bytes : List ℕ) → HasGrown Reads fields most bytes → IsFull most bytes → IsFullAt most bytes
  full_now bytes g full =
      elim (front_cases full.front full.rest g.kept g.newest (sym full.is ∙ g.is)) [
        | inl n ↦ subst (IsFullAt most) (sym (full.is ∙ ap (λ (l : List ℕ). full.front ++ l) n ∙ append-nil full.front)) full.full
        | inr m ↦ absurd (g.open_ended (record { front = full.front; rest = m.0; is = m.1; full = full.full }))
      ]

  -- too many lines are full
  pub full_from_heading : (bytes front rest : List ℕ) → bytes ≡ front ++ rest → Heading most (front ++ print_end lf) → IsFull most bytes
  full_from_heading bytes front rest is h =
      let text = print_blank h.blanks ++ print_lines h.lines in
      let same : front ++ 10 ∷ [] ≡ (text ++ return_of h.last) ++ 10 ∷ [] =
      h.is ∙ ap (λ (l : List ℕ). text ++ l) (print_end-is h.last) ∙ sym (append_assoc text (return_of h.last) (10 ∷ [])) in
      let short : front ≡ text ++ return_of h.last = append_cancel_right front (text ++ return_of h.last) (10 ∷ []) same in
      record {
        front = text;
        rest = return_of h.last ++ rest;
        is = is ∙ ap (λ (l : List ℕ). l ++ rest) short ∙ append_assoc text (return_of h.last) rest;
        full = full_by most text (record { begun = Nothing; counted = length h.lines; has_empty = false }) (sym (body_count h.blanks h.lines h.filled)) (full_lines most (length text) (length h.lines) h.enough);
      }

  module _ (bad large : Refusal) where
    -- nothing is decided
    pub decides_more : {F : Type 0} (frame : H → F) (bytes : List ℕ) → HasGrown Reads fields most bytes
        → ((h : H) → ¬ (Reads bytes h [])) → ¬ (IsFullAt most bytes) → Decides Reads fields most bad large frame bytes (Ok None)
    decides_more frame bytes g never unfull = (
      λ h rest x.
          elim (front_cases x.front rest g.kept g.newest (sym x.is ∙ g.is)) [
            | inl n ↦
                let same : bytes ≡ x.front = x.is ∙ ap (λ (l : List ℕ). x.front ++ l) n ∙ append-nil x.front in
                absurd (never h (subst (λ (l : List ℕ). Reads l h []) (sym same) x.reads))
            | inr m ↦ absurd (g.none h m.0 (record { front = x.front; is = m.1; reads = x.reads; few = x.few; within = x.within }))
          ],
      unfull,
    )

    -- the bytes are the head
    pub decides_found : {F : Type 0} (frame : H → F) (extra : ℕ) → Grammar Reads fields extra → (bytes : List ℕ) → HasGrown Reads fields most bytes
        → (h : H) (rest : List ℕ) (f : F) → Reads bytes h rest → length (fields h) ≤ 64 → f ≡ frame h → Decides Reads fields most bad large frame bytes (Ok (Some f))
    decides_found frame extra grammar bytes g h rest f reads few is =
        let x = grammar.front bytes h rest reads in
        let within = grown_within g.kept bytes x.0 rest g.newest g.open_ended g.is x.1 in
        elim (front_cases x.0 rest g.kept g.newest (sym x.1 ∙ g.is)) [
          | inl n ↦ (h, record { front = x.0; is = x.1 ∙ ap (λ (l : List ℕ). x.0 ++ l) n; reads = x.2; few = few; within = within }, is)
          | inr m ↦ absurd (g.none h m.0 (record { front = x.0; is = m.1; reads = x.2; few = few; within = within }))
        ]

    -- no head begins with the bytes
    pub decides_malformed : (extra : ℕ) → Grammar Reads fields extra → (bytes : List ℕ) → HasGrown Reads fields most bytes
        → ((more : List ℕ) (h : H) (rest : List ℕ) → ¬ (Reads (bytes ++ more) h rest)) → Refuses Reads fields most bad large bytes bad
    decides_malformed extra grammar bytes g never = inl (
      refl,
      λ more. (
        λ h rest x.
            let reads = grammar.more x.front h [] rest x.reads in
            absurd (never more h rest (subst (λ (l : List ℕ). Reads l h rest) (sym x.is) reads)),
        record {
          front = bytes;
          rest = more;
          is = refl;
          within = grown_within g.kept bytes bytes [] g.newest g.open_ended g.is (sym (append-nil bytes));
          never = λ after h x. never after h [] x;
        },
      ),
    )

    -- the bytes are full, and hold no head with few fields
    pub decides_large : (extra : ℕ) → Grammar Reads fields extra → (bytes : List ℕ) → HasGrown Reads fields most bytes
        → IsFull most bytes → ((h : H) (rest : List ℕ) → Reads bytes h rest → 64 < length (fields h)) → Refuses Reads fields most bad large bytes large
    decides_large extra grammar bytes g full over = inr (
      refl,
      λ more. (
        λ h rest x.
            elim (two_fronts x.front rest bytes more (sym x.is)) [
              | inl m ↦
                  let reads = grammar.more x.front h [] m.0 x.reads in
                  let few = x.few in
                  absurd (omega (arith, over h m.0 (subst (λ (l : List ℕ). Reads l h m.0) (sym m.1) reads), few))
              | inr m ↦ absurd (x.within bytes m.0 m.2 m.1 (full_now bytes g full))
            ],
        record { front = full.front; rest = full.rest ++ more; is = ap (λ (l : List ℕ). l ++ more) full.is ∙ append_assoc full.front full.rest more; full = full.full },
      ),
    )

    -- a head without an empty line is not all there
    pub unparsed : {F : Type 0} (frame : H → F) → Grammar Reads fields 1 → (bytes : List ℕ) (s : LineCount) → HasGrown Reads fields most bytes
        → s ≡ count_from no_lines bytes → s.has_empty ≡ false → is_full_by most (length bytes) s ≡ false → Decides Reads fields most bad large frame bytes (Ok None)
    unparsed frame grammar bytes s g is none shut =
        decides_more frame bytes g
        (λ h reads.
        let ended = heading_has_empty (length (fields h) + 1) bytes (omega arith) (grammar.heading bytes h reads) in
        let e : s.has_empty ≡ true = ap (λ (v : LineCount). v.has_empty) is ∙ ended in
        absurd (cc))
        (not_full_by most bytes s is shut)

    -- a head or a trailer that does not end in a line feed is not all there
    pub unended : {F : Type 0} (frame : H → F) (extra : ℕ) → Grammar Reads fields extra → (bytes kept : List ℕ) (newest : ℕ) (s : LineCount) → HasGrown Reads fields most bytes
        → s ≡ count_from no_lines bytes → bytes ≡ kept ++ newest ∷ [] → (newest ≡ 10 → ⊥) → is_full_by most (length bytes) s ≡ false → Decides Reads fields most bad large frame bytes (Ok None)
    unended frame extra grammar bytes kept newest s g is ends other shut =
        decides_more frame bytes g
        (λ h reads.
        let fed = heading_ends_in (length (fields h) + extra) bytes (grammar.heading bytes h reads) in
        absurd (other (same_last kept fed.0 newest 10 (sym ends ∙ fed.1))))
        (not_full_by most bytes s is shut)

    -- what was parsed is not all there
    pub partial_more : {F : Type 0} (frame : H → F) (bytes : List ℕ) (s : LineCount) → HasGrown Reads fields most bytes
        → s ≡ count_from no_lines bytes → is_full_by most (length bytes) s ≡ false → ((h : H) (rest : List ℕ) → ¬ (Reads bytes h rest)) → Decides Reads fields most bad large frame bytes (Ok None)
    partial_more frame bytes s g is shut never = decides_more frame bytes g (λ h reads. never h [] reads) (not_full_by most bytes s is shut)

    -- what was parsed is full
    pub partial_full : (extra : ℕ) → Grammar Reads fields extra → (bytes : List ℕ) (s : LineCount) → HasGrown Reads fields most bytes
        → s ≡ count_from no_lines bytes → is_full_by most (length bytes) s ≡ true → ((h : H) (rest : List ℕ) → ¬ (Reads bytes h rest)) → Refuses Reads fields most bad large bytes large
    partial_full extra grammar bytes s g is full never =
        decides_large extra grammar bytes g (record { front = bytes; rest = []; is = sym (append-nil bytes); full = full_by most bytes s is full }) (λ h rest reads. absurd (never h rest reads))

    -- too many fields are full
    pub too_many : (extra : ℕ) → Grammar Reads fields extra → most ≤ 65 + extra → (bytes : List ℕ) → HasGrown Reads fields most bytes
        → (front rest : List ℕ) → bytes ≡ front ++ rest → (h : H) → Reads (front ++ print_end lf) h [] → 64 < length (fields h)
        → ((more : List ℕ) (h : H) (rest : List ℕ) → Reads (bytes ++ more) h rest → 64 < length (fields h)) → Refuses Reads fields most bad large bytes large
    too_many extra grammar le bytes g front rest is h reads many over =
        let heading = grammar.heading (front ++ print_end lf) h reads in
        decides_large extra grammar bytes g
        (full_from_heading bytes front rest is (record {
          blanks = heading.blanks;
          lines = heading.lines;
          last = heading.last;
          is = heading.is;
          filled = heading.filled;
          enough = let e = heading.enough in omega arith;
        }))
        (λ k r x. over [] k r (subst (λ (l : List ℕ). Reads l k r) (sym (append-nil bytes)) x))

    -- where no head was found, what a parser's answer decides holds of the bytes
    abbrev pub DecidesRest : {P F : Type 0} → (H → F) → List ℕ → Result (Option P) Refusal → Type 0
    DecidesRest frame bytes (Ok (Some p)) = Unit {0}
    DecidesRest frame bytes (Ok None) = Decides Reads fields most bad large frame bytes (Ok None)
    DecidesRest frame bytes (Err e) = Refuses Reads fields most bad large bytes e

    -- what is known of the bytes where a parser found no head in them
    pub record Parsed {P : Type 0} (bytes : List ℕ) (parsed : Result (Status P) Error) : Type 0 where
      pub partial : OnPartial parsed ((h : H) (rest : List ℕ) → ¬ (Reads bytes h rest))
      pub invalid : OnInvalid parsed ((more : List ℕ) (h : H) (rest : List ℕ) → ¬ (Reads (bytes ++ more) h rest))
      pub crowded : OnTooManyHeaders parsed (Refuses Reads fields most bad large bytes large)

    pub decides_rest : {P F : Type 0} (frame : H → F) (extra : ℕ) → Grammar Reads fields extra → (bytes : List ℕ) (s : LineCount) → HasGrown Reads fields most bytes
        → s ≡ count_from no_lines bytes → (is_full : Bool) → is_full_by most (length bytes) s ≡ is_full → (parsed : Result (Status P) Error) → Parsed bytes parsed
        → DecidesRest frame bytes (decided_by parsed is_full bad large)
    decides_rest frame extra grammar bytes s g is is_full full (Ok (Complete p)) x = tt
    decides_rest frame extra grammar bytes s g is true full (Ok Partial) x = partial_full extra grammar bytes s g is full x.partial
    decides_rest frame extra grammar bytes s g is false full (Ok Partial) x = partial_more frame bytes s g is full x.partial
    decides_rest frame extra grammar bytes s g is is_full full (Err TooManyHeaders) x = x.crowded refl
    decides_rest frame extra grammar bytes s g is is_full full (Err HeaderName) x = decides_malformed extra grammar bytes g (x.invalid (λ e. cc))
    decides_rest frame extra grammar bytes s g is is_full full (Err HeaderValue) x = decides_malformed extra grammar bytes g (x.invalid (λ e. cc))
    decides_rest frame extra grammar bytes s g is is_full full (Err NewLine) x = decides_malformed extra grammar bytes g (x.invalid (λ e. cc))
    decides_rest frame extra grammar bytes s g is is_full full (Err StatusWrong) x = decides_malformed extra grammar bytes g (x.invalid (λ e. cc))
    decides_rest frame extra grammar bytes s g is is_full full (Err Token) x = decides_malformed extra grammar bytes g (x.invalid (λ e. cc))
    decides_rest frame extra grammar bytes s g is is_full full (Err Version) x = decides_malformed extra grammar bytes g (x.invalid (λ e. cc))

    -- what is decided where a parser found no head, from its clauses
    pub decides_none : {P F : Type 0} (frame : H → F) (extra : ℕ) → Grammar Reads fields extra → most ≤ 65 + extra → (bytes : List ℕ) (s : LineCount) → HasGrown Reads fields most bytes
        → s ≡ count_from no_lines bytes → (is_full : Bool) → is_full ≡ is_full_by most (length bytes) s → (parsed : Result (Status P) Error)
        → OnPartial parsed ((h : H) (rest : List ℕ) → ¬ (Reads bytes h rest))
        → OnInvalid parsed ((more : List ℕ) (h : H) (rest : List ℕ) → ¬ (Reads (bytes ++ more) h rest))
        → OnTooManyHeaders parsed ((front : List ℕ) × (rest : List ℕ) × (bytes ≡ front ++ rest) × (h : H) × Reads (front ++ print_end lf) h [] × (64 < length (fields h)))
        → OnTooManyHeaders parsed ((more : List ℕ) (h : H) (rest : List ℕ) → Reads (bytes ++ more) h rest → 64 < length (fields h))
        → (r : Result (Option P) Refusal) → decided_by parsed is_full bad large ≡ r → DecidesRest frame bytes r
    decides_none {P = P} frame extra grammar le bytes s g is is_full full parsed partial invalid exceeds overflows r decided =
        subst (DecidesRest {P = P} frame bytes) decided
        (decides_rest frame extra grammar bytes s g is is_full (sym full) parsed (record {
          partial = partial;
          invalid = invalid;
          crowded = λ e. let x = exceeds e in too_many extra grammar le bytes g x.0 x.1 x.2 x.3 x.4 x.5 (overflows e);
        }))
