-- A trace that grows by lines.
use Rattle.std.proofs.Common.{◌≡◌, ℕ, ◌+◌, Bool, true, false, List, [], ◌∷◌, ◌++◌, map, filter, take, cond, not, Result, Ok, Err, refl, sym, ◌∙◌, ap, subst, append-nil, append_assoc}
use Rattle.std.specs.Prelude.{OnOk, OnErr}
use Rattle.std.proofs.lemmas.Grind.{flat_map-append}
use Rattle.std.proofs.lemmas.List.{map-append}
use Rattle.std.proofs.lemmas.List.Elements.{filter-append}
use Rattle.ojp_values.specs.Texts.{Text}
use Rattle.ojp_values.specs.declared.asks.TripAsk.{TripAsk}
use Rattle.ojp_exchange.specs.Book.{Book}
use Rattle.ojp_records.specs.declared.queries.Entry.{Entry}
use Rattle.ojp_traces.specs.declared.events.Event.{Event}
use Rattle.ojp_traces.specs.declared.events.Event.TheVariants.{Dropped}
use Rattle.ojp_traces.specs.Lines.{TraceView, event_line, event_lines, shown, with_text}
use Rattle.ojp_traces.specs.TurnEvents.{LiveAsk, drop_event, is_wanted}
use Rattle.ojp_turns.specs.declared.kept.Kept.{Kept}
use Rattle.ojp_turns.specs.Asking.{is_still_wanted}
use Rattle.ojp_turns.specs.Tracing.{Adds, Grew, live_ask, live_asks, drops_of}

-- ---- lines

shown_none : (b : Bool) → shown b [] ≡ []
shown_none true = refl
shown_none false = refl

shown_append : (b : Bool) (x y : Text) → shown b (x ++ y) ≡ shown b x ++ shown b y
shown_append true x y = refl
shown_append false x y = refl

shown_off : (b : Bool) (x : Text) → b ≡ false → shown b x ≡ []
shown_off b x e = ap (λ (c : Bool). shown c x) e

-- no text
pub text_none : (t : TraceView) → t ≡ with_text t []
text_none t = ap (λ (l : Text). record { on = t.on; lines = l }) (sym (ap (λ (x : Text). t.lines ++ x) (shown_none t.on) ∙ append-nil t.lines))

-- one text behind another
pub text_on : (t : TraceView) (x y : Text) → with_text (with_text t x) y ≡ with_text t (x ++ y)
text_on t x y = ap (λ (l : Text). record { on = t.on; lines = l }) (append_assoc t.lines (shown t.on x) (shown t.on y) ∙ ap (λ (l : Text). t.lines ++ l) (sym (shown_append t.on x y)))

-- a trace that is off stays as it is
text_off : (t : TraceView) (x : Text) → t.on ≡ false → with_text t x ≡ t
text_off t x off = ap (λ (l : Text). record { on = t.on; lines = l }) (ap (λ (s : Text). t.lines ++ s) (shown_off t.on x off) ∙ append-nil t.lines)

pub adds_none : (turn : ℕ) (t : TraceView) → Adds turn t t []
adds_none turn t = text_none t

pub adds_on : (turn : ℕ) (a b c : TraceView) (xs ys : List Event) → Adds turn a b xs → Adds turn b c ys → Adds turn a c (xs ++ ys)
adds_on turn a b c xs ys x y =
    y ∙ (ap (λ (t : TraceView). with_text t (event_lines turn ys)) x ∙ (text_on a (event_lines turn xs) (event_lines turn ys) ∙ ap (with_text a) (sym (flat_map-append (event_line turn) xs ys))))

pub adds_one : (turn : ℕ) (old new : TraceView) (event : Event) → new ≡ with_text old (event_line turn event) → Adds turn old new (event ∷ [])
adds_one turn old new event e = e ∙ ap (with_text old) (sym (append-nil (event_line turn event)))

pub adds_off : (turn : ℕ) (t : TraceView) (xs : List Event) → false ≡ t.on → Adds turn t t xs
adds_off turn t xs off = sym (text_off t (event_lines turn xs) (sym off))

pub adds_as : (turn : ℕ) (old new : TraceView) (xs ys : List Event) → xs ≡ ys → Adds turn old new xs → Adds turn old new ys
adds_as turn old new xs ys e it = subst (Adds turn old new) e it

pub grew_none : (turn : ℕ) (t : TraceView) → Grew turn t t
grew_none turn t = ([], adds_none turn t)

pub grew_on : (turn : ℕ) (a b c : TraceView) → Grew turn a b → Grew turn b c → Grew turn a c
grew_on turn a b c x y = (x.0 ++ y.0, adds_on turn a b c x.0 y.0 x.1 y.1)

pub grew_same : (turn : ℕ) (a b c : TraceView) → Grew turn a b → c ≡ b → Grew turn a c
grew_same turn a b c x e = subst (Grew turn a) (sym e) x

-- with one more line, or none for want of memory
pub grew_more : {T E : Type 0} (r : Result T E) (turn : ℕ) (a b c : TraceView) (event : Event) → Grew turn a b → OnOk r (c ≡ with_text b (event_line turn event)) → OnErr r (c ≡ b) → Grew turn a c
grew_more (Ok done) turn a b c event x ok err = grew_on turn a b c x (event ∷ [], adds_one turn b c event ok)
grew_more (Err none) turn a b c event x ok err = grew_same turn a b c x err

pub stays_off : (turn : ℕ) (old new : TraceView) → Grew turn old new → old.on ≡ false → new ≡ old
stays_off turn old new x off = x.1 ∙ text_off old (event_lines turn x.0) off

-- ---- drops

module _ (book : Book) (ask : TripAsk) (told : List Entry) where
  drop_one : (kept : Kept) (b : Bool) → is_still_wanted book ask told kept ≡ b → drops_of book ask told (kept ∷ []) ≡ map drop_event (cond (not b) (live_ask kept ∷ []) [])
  drop_one kept b e = ap (λ (c : Bool). map drop_event (cond (not c) (live_ask kept ∷ []) [])) e

  pub drop_wanted : (turn : ℕ) (t : TraceView) (kept : Kept) → is_still_wanted book ask told kept ≡ true → Adds turn t t (drops_of book ask told (kept ∷ []))
  drop_wanted turn t kept e = adds_as turn t t [] (drops_of book ask told (kept ∷ [])) (sym (drop_one kept true e)) (adds_none turn t)

  pub drop_unwanted : {T E : Type 0} (r : Result T E) (turn : ℕ) (old new : TraceView) (kept : Kept) → is_still_wanted book ask told kept ≡ false → OnOk r (new ≡ with_text old (event_line turn (Dropped kept.number)))
      → OnOk r (Adds turn old new (drops_of book ask told (kept ∷ [])))
  drop_unwanted (Ok done) turn old new kept e it =
      adds_as turn old new (Dropped kept.number ∷ []) (drops_of book ask told (kept ∷ [])) (sym (drop_one kept false e)) (adds_one turn old new (Dropped kept.number) it)
  drop_unwanted (Err none) turn old new kept e it = it

  pub drops_append : (xs ys : List Kept) → drops_of book ask told (xs ++ ys) ≡ drops_of book ask told xs ++ drops_of book ask told ys
  drops_append xs ys =
      ap (λ (ls : List LiveAsk). map drop_event (filter (λ (live : LiveAsk). not (is_wanted book ask told live)) ls)) (map-append live_ask xs ys)
      ∙ (ap (map drop_event) (filter-append (λ (live : LiveAsk). not (is_wanted book ask told live)) (live_asks xs) (live_asks ys))
      ∙ map-append drop_event (filter (λ (live : LiveAsk). not (is_wanted book ask told live)) (live_asks xs)) (filter (λ (live : LiveAsk). not (is_wanted book ask told live)) (live_asks ys)))

  -- one more of them
  pub drops_more : (turn : ℕ) (a b c : TraceView) (subs : List Kept) (n : ℕ) (kept : Kept) → take (n + 1) subs ≡ take n subs ++ kept ∷ [] → Adds turn a b (drops_of book ask told (take n subs)) → Adds turn b c (drops_of book ask told (kept ∷ []))
      → Adds turn a c (drops_of book ask told (take (n + 1) subs))
  drops_more turn a b c subs n kept e x y =
      adds_as turn a c (drops_of book ask told (take n subs) ++ drops_of book ask told (kept ∷ [])) (drops_of book ask told (take (n + 1) subs))
      (sym (ap (drops_of book ask told) e ∙ drops_append (take n subs) (kept ∷ []))) (adds_on turn a b c (drops_of book ask told (take n subs)) (drops_of book ask told (kept ∷ [])) x y)
