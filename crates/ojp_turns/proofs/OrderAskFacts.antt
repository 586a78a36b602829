-- Asks over links that tell their order.
use Rattle.std.proofs.Common.{◌≡◌, ℕ, ◌+◌, Bool, true, false, List, [], ◌∷◌, ◌++◌, length, Option, None, refl, sym, ◌∙◌, ap, subst, inl, inr, append-nil, append_assoc, length-append, arith}
use Rattle.ojp_values.specs.Lists.{Among, Each}
use Rattle.ojp_values.specs.declared.asks.TripAsk.{TripAsk}
use Rattle.ojp_values.proofs.ListFacts.{among_append_right}
use Rattle.ojp_exchange.specs.Book.{Book}
use Rattle.ojp_links.specs.Seen.{View, Live, Fixed, live_or_none}
use Rattle.ojp_links.specs.Calls.{Keeps}
use Rattle.ojp_records.specs.declared.queries.Entry.{Entry}
use Rattle.ojp_traces.specs.Lines.{TraceView}
use Rattle.ojp_turns.specs.declared.kept.Kept.{Kept}
use Rattle.ojp_turns.specs.Held.{key_of}
use Rattle.ojp_turns.specs.Asking.{StayLive, AsksSome}
use Rattle.ojp_turns.specs.Tracing.{TracesThis}
use Rattle.ojp_turns.specs.Ordering.{IsBegunIn, BeginOrder, BeginsAll, AsksOrder}

pub begins_start : (v : View) (subs : List Kept) (asks : ℕ) (told : List Entry) → AsksOrder v v subs subs asks asks told told
begins_start v subs asks told order is counted same = record { counted = counted; begun = []; grows = sym (append-nil subs); each = tt }

-- what was begun before needs as many rests as it did
begun_on : (order : ℕ) (old new : View) (subs : List Kept) → ((kept : Kept) → Among kept subs → new.live (key_of kept) ≡ old.live (key_of kept)) → Each (IsBegunIn order old) subs → Each (IsBegunIn order new) subs
begun_on order old new [] same all = tt
begun_on order old new (k ∷ subs) same all =
    let e : new.live (key_of k) ≡ old.live (key_of k) = same k (inl refl) in (
      (ap (λ (o : Option Live). (live_or_none o).rests) e ∙ all.0.0, ap (λ (o : Option Live). (live_or_none o).taken) e ∙ all.0.1),
      begun_on order old new subs (λ x h. same x (inr h)) all.1,
    )

begun_joined : (order : ℕ) (v : View) (xs ys : List Kept) → Each (IsBegunIn order v) xs → Each (IsBegunIn order v) ys → Each (IsBegunIn order v) (xs ++ ys)
begun_joined order v [] ys all more = more
begun_joined order v (x ∷ xs) ys all more = (all.0, begun_joined order v xs ys all.1 more)

longer : (xs ys : List Entry) (e : Entry) → xs ≡ (xs ++ ys) ++ e ∷ [] → ⊥
longer xs ys e same =
    let long : length xs ≡ length ((xs ++ ys) ++ e ∷ []) = ap length same in
    let one : length ((xs ++ ys) ++ e ∷ []) ≡ length (xs ++ ys) + 1 = length-append (xs ++ ys) (e ∷ []) in
    let two : length (xs ++ ys) ≡ length xs + length ys = length-append xs ys in
    omega (arith, long, one, two)

-- whatever happened at a place
pub begins_step : (some : Bool) (turn n : ℕ) (book : Book) (ask : TripAsk) (old mid new : View) (start subs subs' : List Kept) (before told told' : List Entry) (made asks asks' : ℕ) (first t u : TraceView) → Keeps old mid → StayLive mid new subs
    → (refused : List Entry) → told ≡ before ++ refused → AsksSome some asks asks' mid new subs subs' told told' → TracesThis some turn book ask n subs subs' told told' asks asks' t u → BeginOrder mid new asks subs subs'
    → AsksOrder old mid start subs made asks before told → AsksOrder old new start subs' made asks' before told'
begins_step true turn n book ask old mid new start subs subs' before told told' made asks asks' first t u keeps stays refused tells some this begins so_far order is counted same = elim this.1.became [
  | inl begun ↦
      let before_is : told ≡ before = sym begun.4 ∙ same in
      let all : BeginsAll order mid start subs asks = so_far order is counted before_is in
      let one : (new.made ≡ asks + 1) × IsBegunIn order new begun.0 = begins order begun.0 (ap (λ (f : Fixed). f.order) keeps.fixed ∙ is) all.counted begun.3 in
      record {
        counted = one.0 ∙ sym this.1.counted;
        begun = all.begun ++ begun.0 ∷ [];
        grows = begun.3 ∙ (ap (λ (ks : List Kept). ks ++ begun.0 ∷ []) all.grows ∙ append_assoc start all.begun (begun.0 ∷ []));
        each = begun_joined order new all.begun (begun.0 ∷ []) (begun_on order mid new all.begun (λ k h. stays k (subst (Among k) (sym all.grows) (among_append_right k start all.begun h))) all.each) (one.1, tt);
      }
  | inr lost ↦ absurd (longer before refused (record { query = this.0; reply = None }) (sym same ∙ (lost.1 ∙ ap (λ (es : List Entry). es ++ record { query = this.0; reply = None } ∷ []) tells)))
]
begins_step false turn n book ask old mid new start subs subs' before told told' made asks asks' first t u keeps stays refused tells some this begins so_far order is counted same =
    let all : BeginsAll order mid start subs asks = so_far order is counted (sym some.1.same_told ∙ same) in
    subst (λ (v : View). BeginsAll order v start subs' asks') (sym some.1.same_links)
    (subst (λ (ks : List Kept). BeginsAll order mid start ks asks') (sym some.1.same_subs) (subst (λ (k : ℕ). BeginsAll order mid start subs k) (sym some.0) all))
