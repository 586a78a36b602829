-- What the first of the subrequests leaves.
use Rattle.std.proofs.Common.{◌≡◌, List, [], ◌∷◌, ◌++◌, true, false, None, Ok, Err, refl, sym, ◌∙◌, subst, inl, append-nil}
use Rattle.ojp_values.specs.declared.NoMemory.{NoMemory}
use Rattle.ojp_values.specs.declared.asks.TripAsk.{TripAsk}
use Rattle.ojp_exchange.specs.Book.{Book}
use Rattle.ojp_links.specs.Seen.{View, codes_of}
use Rattle.ojp_links.specs.Calls.{Keeps, NotRaised, OthersStay}
use Rattle.ojp_records.specs.declared.queries.Entry.{Entry}
use Rattle.ojp_turns.specs.declared.kept.Kept.{Kept}
use Rattle.ojp_turns.specs.declared.polling.Step.{Step}
use Rattle.ojp_turns.specs.declared.polling.Step.TheVariants as steps
use Rattle.ojp_turns.specs.Held.{key_of, IsForIn, StandsIn}
use Rattle.ojp_turns.specs.Faults.{RejectsNone}
use Rattle.ojp_turns.specs.Polling.{going, over, lost, Steps, FirstPolled}
use Rattle.ojp_turns.proofs.HeldFacts.{stands_told, stands_dropped, stands_on}

-- what a step says, by its kind
pub step_as : (book : Book) (ask : TripAsk) (old new : View) (was now : Kept) (told told' : List Entry) (s t : Step) → s ≡ t → Steps s book ask old new was now told told' → Steps t book ask old new was now told told'
step_as book ask old new was now told told' s t e it = subst (λ (x : Step). Steps x book ask old new was now told told') e it

module _ (book : Book) (ask : TripAsk) (told : List Entry) (old new : View) (items rest : List Kept) (was : Kept) (is_first : items ≡ was ∷ rest) (stands : StandsIn book ask told items old) where
  pub first_stands : StandsIn book ask told (was ∷ rest) old
  first_stands = subst (λ (xs : List Kept). StandsIn book ask told xs old) is_first stands

  pub first_for : IsForIn book ask (codes_of old.fixed) old.live was
  first_for = first_stands.are_live.each was (inl refl)

  -- what it waits for, or what came
  pub waits_stands : (now : Kept) (after : List Kept) (told' : List Entry) → after ≡ rest ++ now ∷ [] → Keeps old new → OthersStay old new (key_of was) → Steps steps.Waits book ask old new was now told told' → StandsIn book ask told' after new
  waits_stands now after told' are keeps others it =
      subst (λ (xs : List Kept). StandsIn book ask told' xs new) (sym are)
      (subst (λ (es : List Entry). StandsIn book ask es (rest ++ now ∷ []) new) (sym it.0)
      (stands_on book ask told old new was now rest keeps.fixed first_stands it.1.key it.1.query others it.2))

  pub moved_stands : (now : Kept) (after : List Kept) (told' : List Entry) → after ≡ rest ++ now ∷ [] → Keeps old new → OthersStay old new (key_of was) → Steps steps.Moved book ask old new was now told told' → StandsIn book ask told' after new
  moved_stands now after told' are keeps others it =
      subst (λ (xs : List Kept). StandsIn book ask told' xs new) (sym are)
      (subst (λ (es : List Entry). StandsIn book ask es (rest ++ now ∷ []) new) (sym it.0)
      (stands_on book ask told old new was now rest keeps.fixed first_stands it.1.key it.1.query others it.2))

  pub over_stands : (now : Kept) (told' : List Entry) → Keeps old new → OthersStay old new (key_of was) → Steps steps.Over book ask old new was now told told' → StandsIn book ask told' rest new
  over_stands now told' keeps others it =
      subst (λ (es : List Entry). StandsIn book ask es rest new) (sym it.1)
      (stands_told book ask told old new it.0 was rest keeps.fixed first_stands others it.2.gone it.2.query)

  pub lost_stands : (told' : List Entry) → told' ≡ told → Keeps old new → OthersStay old new (key_of was) → new.live (key_of was) ≡ None → StandsIn book ask told' rest new
  lost_stands told' same keeps others gone =
      subst (λ (es : List Entry). StandsIn book ask es rest new) (sym same) (stands_dropped book ask told old new was rest keeps.fixed first_stands others gone)

  pub waits_polled : (now : Kept) (after : List Kept) (told' : List Entry) → after ≡ rest ++ now ∷ [] → Keeps old new → OthersStay old new (key_of was) → NotRaised old.patience new.patience → RejectsNone book ask told old new
      → Steps steps.Waits book ask old new was now told told' → FirstPolled book ask old new items after told told' (Ok false)
  waits_polled now after told' are keeps others patience rejects it =
      record {
        kept = was;
        rest = rest;
        is_first = is_first;
        fate = going now;
        turned = are;
        tells = it.0 ∙ sym (append-nil told);
        has = it.1;
        others = others;
        keeps = keeps;
        patience = patience;
        rejects_none = rejects;
        news = it.3;
      }

  pub moved_polled : (now : Kept) (after : List Kept) (told' : List Entry) → after ≡ rest ++ now ∷ [] → Keeps old new → OthersStay old new (key_of was) → NotRaised old.patience new.patience → RejectsNone book ask told old new
      → Steps steps.Moved book ask old new was now told told' → FirstPolled book ask old new items after told told' (Ok true)
  moved_polled now after told' are keeps others patience rejects it =
      record {
        kept = was;
        rest = rest;
        is_first = is_first;
        fate = going now;
        turned = are;
        tells = it.0 ∙ sym (append-nil told);
        has = it.1;
        others = others;
        keeps = keeps;
        patience = patience;
        rejects_none = rejects;
        news = it.3;
      }

  pub over_polled : (now : Kept) (told' : List Entry) → Keeps old new → OthersStay old new (key_of was) → NotRaised old.patience new.patience → RejectsNone book ask told old new
      → Steps steps.Over book ask old new was now told told' → FirstPolled book ask old new items rest told told' (Ok true)
  over_polled now told' keeps others patience rejects it =
      record {
        kept = was;
        rest = rest;
        is_first = is_first;
        fate = over it.0;
        turned = sym (append-nil rest);
        tells = it.1;
        has = it.2;
        others = others;
        keeps = keeps;
        patience = patience;
        rejects_none = rejects;
        news = tt;
      }

  pub lost_polled : (told' : List Entry) (none : NoMemory) → told' ≡ told → Keeps old new → OthersStay old new (key_of was) → NotRaised old.patience new.patience → RejectsNone book ask told old new → new.live (key_of was) ≡ None
      → FirstPolled book ask old new items rest told told' (Err none)
  lost_polled told' none same keeps others patience rejects gone =
      record {
        kept = was;
        rest = rest;
        is_first = is_first;
        fate = lost;
        turned = sym (append-nil rest);
        tells = same ∙ sym (append-nil told);
        has = gone;
        others = others;
        keeps = keeps;
        patience = patience;
        rejects_none = rejects;
        news = tt;
      }
