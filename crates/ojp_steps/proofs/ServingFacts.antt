-- Connections that are served one after another.
use Rattle.std.proofs.Common.{◌≡◌, ℕ, List, [], ◌∷◌, ◌++◌, false, Option, None, Some, Err, inl, refl, sym, ap, ◌∙◌, subst, arith, append_assoc, append-nil, length-append}
use Rattle.std.specs.Prelude.{IfSome, IsTrue}
use Rattle.std.proofs.lemmas.List.Elements.{All-nil, All-push}
use Rattle.ojp_values.specs.Texts.{Text}
use Rattle.ojp_outside.specs.Doors.{DoorsView, Entry}
use Rattle.ojp_outside.specs.Doors.{Had, had_by, listening, has_all, Gives, Returns}
use Rattle.ojp_outside.specs.Seen.{SourceView, SinkView}
use Rattle.ojp_outside.specs.declared.doors.DoorRefused.{DoorRefused}
use Rattle.ojp_outside.specs.declared.doors.DoorRefused.TheVariants.{Failed, Closed}
use Rattle.ojp_http.specs.Asking.{ReadsNoFurther}
use Rattle.ojp_http.specs.Connections.{Serves, wire}
use Rattle.ojp_http.specs.declared.served.Served.{Served}
use Rattle.ojp_steps.specs.Lent.{Lent, before, after}
use Rattle.ojp_steps.specs.Serving.{DoorsSeen, IsServed, AreServed, ServedOne, HasServed, ServesAt, ServesNext, ServesUntil, ServesAll, ServesInPart, Starts}
use Rattle.ojp_steps.specs.declared.serving.NotServed.{NotServed}
use Rattle.ojp_steps.specs.declared.serving.NotServed.TheVariants as servings
use Rattle.ojp_steps.proofs.FileFacts.{told_is}

module _ (Answers : Text → ℕ → Text → Type 0) where
  -- a connection that was given, served and taken back is one more entry
  pub served_one : (old mid new : DoorsView) (input input_now : SourceView) (output output_now : SinkView) (ended : Served)
      → Gives old mid (had_by input output) → IfSome old.returned (λ entries. output.written ≡ Some [])
      → Serves Answers (wire input output) (wire input_now output_now) ended → ReadsNoFurther input.left input_now.left
      → Returns mid new (had_by input_now output_now) output_now.written → ServedOne Answers old new
  served_one old mid new input input_now output output_now ended gives empty serves taken returns = record {
    asked = returns.asked ∙ gives.asked;
    given = returns.given ∙ gives.given;
    none_out = returns.is_out;
    entry = go old.returned refl;
  }
    where
      go : (told : Option (List Entry)) → old.returned ≡ told → IfSome told (λ entries. (entry : Entry) × (new.returned ≡ Some (entries ++ entry ∷ [])) × IsServed Answers entry)
      go None e = tt
      go (Some entries) e =
          let start : output.written ≡ Some [] = told_is (λ (l : List Entry). output.written ≡ Some []) old.returned entries e empty in
          let out : mid.out ≡ Some (had_by input output) = told_is (λ (l : List Entry). mid.out ≡ Some (had_by input output)) old.returned entries e gives.out in
          let behind = told_is (λ (l : List Entry). IfSome mid.out (λ had. new.returned ≡ Some (l ++ (record { given = had; back = had_by input_now output_now; written = output_now.written }) ∷ []))) mid.returned entries (gives.returned ∙ e) returns.returned in
          let is = told_is (λ (had : Had). new.returned ≡ Some (entries ++ (record { given = had; back = had_by input_now output_now; written = output_now.written }) ∷ [])) mid.out (had_by input output) out behind in (
            record { given = had_by input output; back = had_by input_now output_now; written = output_now.written },
            is,
            record {
              old = wire input output;
              new = wire input_now output_now;
              given = record { left = refl; reads = refl; writes = refl; written = start };
              back = record { left = refl; reads = refl; writes = refl; written = refl };
              ended = ended;
              serves = serves;
              taken = taken;
            },
          )

  -- no connection was served yet
  pub served_none : (view : DoorsView) → view.is_out ≡ false → view.given ≡ 0 → HasServed Answers view view
  served_none view none fresh = record { asked = refl; none_out = none; entries = go view.returned refl }
    where
      go : (told : Option (List Entry)) → view.returned ≡ told → IfSome told (AreServed Answers view)
      go None e = tt
      go (Some entries) e = record { more = []; returned = e ∙ ap (λ (l : List Entry). Some l) (sym (append-nil entries)); given = fresh; served = All-nil (IsServed Answers) }

  -- one more was served
  pub served_more : (old mid new : DoorsView) → HasServed Answers old mid → ServedOne Answers mid new → HasServed Answers old new
  served_more old mid new h one = record { asked = one.asked ∙ h.asked; none_out = one.none_out; entries = go old.returned h.entries }
    where
      go : (told : Option (List Entry)) → IfSome told (AreServed Answers mid) → IfSome told (AreServed Answers new)
      go None s = tt
      go (Some entries) s =
          let last : (entry : Entry) × (new.returned ≡ Some ((entries ++ s.more) ++ entry ∷ [])) × IsServed Answers entry =
          subst (λ (told : Option (List Entry)). IfSome told (λ l. (entry : Entry) × (new.returned ≡ Some (l ++ entry ∷ [])) × IsServed Answers entry)) s.returned one.entry in
          record {
            more = s.more ++ last.0 ∷ [];
            returned = last.1 ∙ ap (λ (l : List Entry). Some l) (append_assoc entries s.more (last.0 ∷ []));
            given = omega (arith, one.given, s.given, length-append s.more (last.0 ∷ []));
            served = All-push (IsServed Answers) s.more last.0 s.served last.2;
          }

  module _ {D : Type 0} (port : ℕ) (count : Option ℕ) (doors : Lent D DoorsSeen) (mid : DoorsSeen) (listens : mid.view ≡ listening (before doors).view port count)
      (calm : mid.faults ≡ (before doors).faults) where
    -- doors that listened and then served until all were given
    pub all_served : ServesUntil Answers mid (after doors) Closed → ServesAll Answers port count doors
    all_served s = record {
      served = subst (λ (v : DoorsView). HasServed Answers v (after doors).view) listens s.0;
      closed = s.1;
      calm = s.2 ∙ calm;
    }

    -- doors that listened and then served until none could be given
    pub part_served : ServesUntil Answers mid (after doors) Failed → ServesInPart Answers port count doors
    part_served s = record {
      served = subst (λ (v : DoorsView). HasServed Answers v (after doors).view) listens s.0;
      rose = omega (arith, s.1, calm);
    }

  -- where the doors do not listen, or it could not be said, nothing is served
  pub not_started : {O D : Type 0} (port : ℕ) (count : Option ℕ) (output : Lent O SinkView) (doors : Lent D DoorsSeen) (refused : NotServed)
      → Starts port count output doors (Err refused) → ServesAt Answers port count output doors (Err refused)
  not_started port count output doors servings.Memory s = absurd s
  not_started port count output doors servings.Output s = s
  not_started port count output doors servings.Doors s = inl s

  -- connections were served, and the next was not given
  pub served_until : (old mid new : DoorsSeen) → HasServed Answers old.view mid.view → mid.faults ≡ old.faults
      → (refused : DoorRefused) → ServesNext Answers mid new (Err refused) → ServesUntil Answers old new refused
  served_until old mid new h calm Closed s = (
    subst (λ (x : DoorsSeen). HasServed Answers old.view x.view) (sym s.1) h,
    subst (λ (x : DoorsSeen). IsTrue (has_all x.view.asked x.view.given)) (sym s.1) s.0,
    ap (λ (x : DoorsSeen). x.faults) s.1 ∙ calm,
  )
  served_until old mid new h calm Failed s = (subst (λ (v : DoorsView). HasServed Answers old.view v) (sym s.0) h, omega (arith, s.1, calm))
