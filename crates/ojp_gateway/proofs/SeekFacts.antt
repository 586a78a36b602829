-- A search from turn to turn: what holds of it since its first one.
use Rattle.std.proofs.Common.{◌≡◌, ◌≢◌, ℕ, ◌+◌, ◌-◌, ◌^◌, ◌<◌, ◌≤◌, Bool, true, false, List, [], ◌∷◌, ◌++◌, map, Option, Some, None, IsSome, unwrap_or, option_map, refl, sym, ◌∙◌, ap, subst, inl, inr, arith, append-nil, append_assoc}
use Rattle.std.proofs.lemmas.Bool.{true≢false}
use Rattle.std.proofs.lemmas.Option.{same_Some}
use Rattle.ojp_values.specs.Lists.{Among, Each}
use Rattle.ojp_values.specs.Texts.{Text}
use Rattle.ojp_values.specs.declared.asks.TripAsk.{TripAsk}
use Rattle.ojp_exchange.specs.Book.{Book}
use Rattle.ojp_links.specs.Seen.{View, Live, Fixed, live_or_none, ask_at, codes_of}
use Rattle.ojp_links.specs.Calls.{Idles, RestsOnce, SameButRests, Spends, without_rests}
use Rattle.ojp_records.specs.declared.queries.Entry.{Entry}
use Rattle.ojp_records.specs.Records.{region_of}
use Rattle.ojp_subrequests.specs.Views.{SubView}
use Rattle.ojp_subrequests.specs.Subrequests.{IsHeldAs}
use Rattle.ojp_turns.specs.declared.kept.Kept.{Kept}
use Rattle.ojp_turns.specs.declared.search.Outcome.{Outcome}
use Rattle.ojp_turns.specs.declared.search.Search.{Search}
use Rattle.ojp_turns.specs.declared.search.Turn.TheVariants as turns
use Rattle.ojp_turns.specs.Faults.{HasCause}
use Rattle.ojp_turns.specs.Held.{key_of, IsFor}
use Rattle.ojp_turns.specs.Turning.{Passes, HasMoved, Tires, patience_of, total_left}
use Rattle.ojp_turns.specs.Slots.{most_asks}
use Rattle.ojp_turns.specs.Searches.{CanTurn, EndsAs, GoesOn, Turns, asked_for, asks_of, held_of, record_of}
use Rattle.ojp_turns.proofs.AskFacts.{regions_kept, each_turned}
use Rattle.ojp_turns.proofs.BoundFacts.{asks_few}
use Rattle.ojp_turns.proofs.PollFacts.{keeps_on, keeps_self}
use Rattle.ojp_turns.proofs.RoundFacts.{fault_on, fault_from, tells_on}
use Rattle.ojp_gateway.specs.Passing.{Grows, Sought, StepsOn, work_left}

-- ---- a rest

-- the ask is held as before, whatever rests it needs
pub held_plain : (s : SubView) (codes : List Text) (x y : Option Live) → option_map without_rests x ≡ option_map without_rests y → IsHeldAs s codes y → IsHeldAs s codes x
held_plain s codes None None e it = it
held_plain s codes None (Some b) e it = absurd (cc)
held_plain s codes (Some a) None e it = absurd (cc)
held_plain s codes (Some a) (Some b) e it =
    let same : without_rests a ≡ without_rests b = same_Some (without_rests a) (without_rests b) e in
    back a (subst (λ (l : Live). IsHeldAs s codes (Some l)) (sym same) (plain b it))
  where
    plain : (l : Live) → IsHeldAs s codes (Some l) → IsHeldAs s codes (Some (without_rests l))
    plain l h = record {
      own = record { not_over = h.own.not_over; live = refl; of_region = h.own.of_region; expected = h.own.expected; asked = h.own.asked };
      heard = h.heard;
      not_ended = h.not_ended;
    }

    back : (l : Live) → IsHeldAs s codes (Some (without_rests l)) → IsHeldAs s codes (Some l)
    back l h = record {
      own = record { not_over = h.own.not_over; live = refl; of_region = h.own.of_region; expected = h.own.expected; asked = h.own.asked };
      heard = h.heard;
      not_ended = h.not_ended;
    }

pub none_plain : (x y : Option Live) → option_map without_rests x ≡ option_map without_rests y → y ≡ None → x ≡ None
none_plain None y e n = refl
none_plain (Some a) None e n = absurd (cc)
none_plain (Some a) (Some b) e n = absurd (cc)

pub left_plain : (x y : Option Live) → option_map without_rests x ≡ option_map without_rests y → (live_or_none x).left ≡ (live_or_none y).left
left_plain None None e = refl
left_plain None (Some b) e = absurd (cc)
left_plain (Some a) None e = absurd (cc)
left_plain (Some a) (Some b) e = ap (λ (l : Live). l.left) (same_Some (without_rests a) (without_rests b) e)

-- a search may turn after a rest
pub rested : (book : Book) (s : Search) (old new : View) → CanTurn book s old → Idles old new → CanTurn book s new
rested book s old new can idles =
    record {
      not_done = can.not_done;
      is_search = can.is_search;
      regions = regions_kept book old new idles.keeps can.regions;
      live = record {
        each = λ kept h.
            let it : IsFor book (asked_for s) (codes_of old.fixed) (old.live (key_of kept)) kept = can.live.each kept h in
            subst (λ (f : Fixed). IsFor book (asked_for s) (codes_of f) (new.live (key_of kept)) kept) (sym idles.keeps.fixed)
            (record { of_region = it.of_region; asks = it.asks; held_as = held_plain kept.sub (codes_of old.fixed) (new.live (key_of kept)) (old.live (key_of kept)) (idles.live (key_of kept)) it.held_as });
        apart = can.live.apart;
        only = λ key none. none_plain (new.live key) (old.live key) (idles.live key) (can.live.only key none);
      };
    }

rested_total : (old new : View) (subs : List Kept) → SameButRests old new → total_left new subs ≡ total_left old subs
unfolding total_left
rested_total old new [] same = refl
rested_total old new (k ∷ subs) same =
    let here : (ask_at new (key_of k)).left ≡ (ask_at old (key_of k)).left = left_plain (new.live (key_of k)) (old.live (key_of k)) (same (key_of k)) in
    omega (arith, here, rested_total old new subs same)

pub spent : (a b : Option ℕ) → Spends a b → IsSome a → unwrap_or b 0 ≤ unwrap_or a 0 - 1
spent None b it told = absurd (true≢false (sym told))
spent (Some p) b it told = subst (λ (o : Option ℕ). unwrap_or o 0 ≤ p - 1) (sym it.1) it.2

-- ---- what holds since the first turn

pub each_joined : {X : Type 0} (P : X → Type 0) (xs ys : List X) → Each P xs → Each P ys → Each P (xs ++ ys)
each_joined P [] ys all more = more
each_joined P (x ∷ xs) ys all more = (all.0, each_joined P xs ys all.1 more)

pub grows_none : (book : Book) (ask : TripAsk) (v : View) (told : List Entry) → Grows book ask v v told told
grows_none book ask v told =
    record { keeps = keeps_self v; more = []; grows = sym (append-nil told); causes = tt; given = λ tables tells given. given; rejects_none = λ tables tells whole given region. refl }

pub grows_by : (book : Book) (ask : TripAsk) (old new : View) (subs : List Kept) (before after : List Entry) → Passes book ask old new subs before after → Grows book ask old new before after
grows_by book ask old new subs before after it =
    record {
      keeps = it.keeps;
      more = it.tells.heard ++ it.tells.refused;
      grows = it.tells.grows ∙ append_assoc before it.tells.heard it.tells.refused;
      causes = it.tells.causes;
      given = it.given;
      rejects_none = it.rejects_none;
    }

pub grows_rest : (book : Book) (ask : TripAsk) (old new : View) (told : List Entry) → Idles old new → Grows book ask old new told told
grows_rest book ask old new told it =
    record { keeps = it.keeps; more = []; grows = sym (append-nil told); causes = tt; given = λ tables tells given. given; rejects_none = λ tables tells whole given region. ap (λ (f : ℕ → ℕ). f region) it.rejections }

pub grows_on : (book : Book) (ask : TripAsk) (old mid new : View) (before told after : List Entry) → Grows book ask old mid before told → Grows book ask mid new told after → Grows book ask old new before after
grows_on book ask old mid new before told after x y =
    record {
      keeps = keeps_on old mid new x.keeps y.keeps;
      more = x.more ++ y.more;
      grows = y.grows ∙ (ap (λ (es : List Entry). es ++ y.more) x.grows ∙ append_assoc before x.more y.more);
      causes = each_joined (HasCause old new) x.more y.more
          (each_turned (HasCause old mid) (HasCause old new) x.more (λ entry cause none. fault_on old mid new (region_of entry.query) y.keeps (cause none)) x.causes)
          (each_turned (HasCause mid new) (HasCause old new) y.more (λ entry cause none. fault_from old mid new (region_of entry.query) x.keeps (cause none)) y.causes);
      given = λ tables tells given. y.given tables (tells_on old mid tables x.keeps tells) (x.given tables tells given);
      rejects_none = λ tables tells whole given region.
          y.rejects_none tables (tells_on old mid tables x.keeps tells) whole (x.given tables tells given) region ∙ x.rejects_none tables tells whole given region;
    }

-- ---- one turn and a rest

no_keys : (start : List Kept) (subs : List Kept) → map key_of subs ≡ map key_of start → subs ≢ [] → start ≢ []
no_keys start [] e some none = some refl
no_keys start (k ∷ subs) e some none = let empty : key_of k ∷ map key_of subs ≡ [] = e ∙ ap (map key_of) none in absurd (cc)

moved_some : (old new : View) (start subs : List Kept) (asks now : ℕ) → now ≡ asks → HasMoved old new start subs asks now → start ≢ []
moved_some old new start subs asks now same (inl more) none = omega (arith, more, same)
moved_some old new start subs asks now same (inr it) none = subst (Among it.0) none it.1

module _ (book : Book) (old mid new : View) (s now : Search) (rests : RestsOnce mid new) (patient : IsSome old.patience) where
  steps_by : (moved : Bool) → GoesOn moved book old mid s now → (asks_of now ≡ asks_of s → held_of s ≢ []) → asks_of now ≡ asks_of s → work_left new now < work_left old s
  steps_by moved goes some same = go moved (goes.settles.tires patient same (some same))
    where
      go : (b : Bool) → Tires b old mid (held_of s) (held_of now) → work_left new now < work_left old s
      go true it =
          let left : total_left new (held_of now) ≡ total_left mid (held_of now) = rested_total mid new (held_of now) rests.idles.live in
          let less : patience_of new ≤ patience_of mid - 1 = spent mid.patience new.patience rests.spends it.told in
          let fewer : total_left mid (held_of now) < total_left old (held_of s) = it.moves refl in
          omega (arith, left, less, fewer, it.patience)
      go false it =
          let left : total_left new (held_of now) ≡ total_left mid (held_of now) = rested_total mid new (held_of now) rests.idles.live in
          let less : patience_of new ≤ patience_of mid - 1 = spent mid.patience new.patience rests.spends it.told in
          let some : 0 < patience_of old = it.waits refl in
          omega (arith, left, less, some, it.patience, it.left)

  steps_on : (moved : Bool) → GoesOn moved book old mid s now → (asks_of now ≡ asks_of s → held_of s ≢ []) → Passes book (asked_for s) old mid (held_of s) (record_of s) (record_of now) → asked_for now ≡ asked_for s → asks_of s ≤ asks_of now
      → asks_of now ≤ most_asks book (asked_for s) → StepsOn book old new s now
  steps_on moved goes some passes same more bounded =
      record {
        can_turn = rested book now mid new goes.can_turn rests.idles;
        same_ask = same;
        grows = grows_on book (asked_for s) old mid new (record_of s) (record_of now) (record_of now) (grows_by book (asked_for s) old mid (held_of s) (record_of s) (record_of now) passes) (grows_rest book (asked_for s) mid new (record_of now) rests.idles);
        more_asks = more;
        bounded = bounded;
        falls = steps_by moved goes some;
      }

  pub moved_steps : Turns book old mid s now turns.Moved → StepsOn book old new s now
  moved_steps t = steps_on true t.means (λ same. moved_some old mid (held_of s) (held_of now) (asks_of s) (asks_of now) same t.means.settles.moves) t.passes t.same_ask t.more_asks t.bounded

  pub waits_steps : Turns book old mid s now turns.Waits → StepsOn book old new s now
  waits_steps t = steps_on false t.means (λ same. no_keys (held_of s) (held_of now) t.means.settles.moves.same_keys t.means.some_live) t.passes t.same_ask t.more_asks t.bounded

-- ---- the end

pub sought_by : (book : Book) (old new : View) (s now : Search) (outcome : Outcome) → Turns book old new s now (turns.Done outcome) → Sought book old new s now outcome
sought_by book old new s now outcome t =
    record {
      same_ask = t.same_ask;
      done = t.means.done;
      none_live = t.means.none_live;
      ends = subst (λ (a : TripAsk). EndsAs book a (record_of now) outcome) t.same_ask t.means.ends;
      grows = grows_by book (asked_for s) old new (held_of s) (record_of s) (record_of now) t.passes;
    }

-- so many steps since the first
pub record SeeksOn (book : Book) (old new : View) (s now : Search) : Type 0 where
  pub can_turn : CanTurn book now new
  pub same_ask : asked_for now ≡ asked_for s
  pub grows : Grows book (asked_for s) old new (record_of s) (record_of now)
  pub bounded : asks_of now ≤ most_asks book (asked_for s)

pub seeks_start : (book : Book) (v : View) (s : Search) → CanTurn book s v → SeeksOn book v v s s
seeks_start book v s can =
    record { can_turn = can; same_ask = refl; grows = grows_none book (asked_for s) v (record_of s); bounded = omega (arith, can.is_search.bounded) }

pub seeks_on : (book : Book) (old mid new : View) (s at now : Search) → SeeksOn book old mid s at → StepsOn book mid new at now → SeeksOn book old new s now
seeks_on book old mid new s at now x y =
    record {
      can_turn = y.can_turn;
      same_ask = y.same_ask ∙ x.same_ask;
      grows = grows_on book (asked_for s) old mid new (record_of s) (record_of at) (record_of now) x.grows (subst (λ (a : TripAsk). Grows book a mid new (record_of at) (record_of now)) x.same_ask y.grows);
      bounded = subst (λ (a : TripAsk). asks_of now ≤ most_asks book a) x.same_ask y.bounded;
    }

pub seeks_end : (book : Book) (old mid new : View) (s at now : Search) (outcome : Outcome) → SeeksOn book old mid s at → Sought book mid new at now outcome → Sought book old new s now outcome
seeks_end book old mid new s at now outcome x y =
    record {
      same_ask = y.same_ask ∙ x.same_ask;
      done = y.done;
      none_live = y.none_live;
      ends = subst (λ (a : TripAsk). EndsAs book a (record_of now) outcome) x.same_ask y.ends;
      grows = grows_on book (asked_for s) old mid new (record_of s) (record_of at) (record_of now) x.grows (subst (λ (a : TripAsk). Grows book a mid new (record_of at) (record_of now)) x.same_ask y.grows);
    }

-- the search can't have made so many asks
pub too_many : (book : Book) (old new : View) (s at : Search) (count : ℕ) → SeeksOn book old new s at → count ≤ asks_of at → count + 1 < 2 ^ 64
too_many book old new s at count x counted =
    let is : asked_for at ≡ asked_for s = x.same_ask in
    let bound : asks_of at ≤ most_asks book (asked_for at) = subst (λ (a : TripAsk). asks_of at ≤ most_asks book a) (sym is) x.bounded in
    omega (arith, counted, asks_few book (asked_for at) (asks_of at) x.can_turn.is_search.board_of.book_well x.can_turn.is_search.board_of.origin_well bound)

-- ---- over links that may wait

module _ (book : Book) (old mid new : View) (s at now : Search) (x : SeeksOn book old mid s at) where
  turned : (moved : Bool) → GoesOn moved book mid new at now → Passes book (asked_for at) mid new (held_of at) (record_of at) (record_of now) → asked_for now ≡ asked_for at → asks_of now ≤ most_asks book (asked_for at) → SeeksOn book old new s now
  turned moved goes passes same bounded =
      record {
        can_turn = goes.can_turn;
        same_ask = same ∙ x.same_ask;
        grows = grows_on book (asked_for s) old mid new (record_of s) (record_of at) (record_of now) x.grows
            (subst (λ (a : TripAsk). Grows book a mid new (record_of at) (record_of now)) x.same_ask (grows_by book (asked_for at) mid new (held_of at) (record_of at) (record_of now) passes));
        bounded = subst (λ (a : TripAsk). asks_of now ≤ most_asks book a) x.same_ask bounded;
      }

  pub turned_moved : Turns book mid new at now turns.Moved → SeeksOn book old new s now
  turned_moved t = turned true t.means t.passes t.same_ask t.bounded

  pub turned_waits : Turns book mid new at now turns.Waits → SeeksOn book old new s now
  turned_waits t = turned false t.means t.passes t.same_ask t.bounded

-- a search may go on after links were idle
pub idled : (book : Book) (old mid new : View) (s at : Search) → SeeksOn book old mid s at → Idles mid new → SeeksOn book old new s at
idled book old mid new s at x idles =
    record {
      can_turn = rested book at mid new x.can_turn idles;
      same_ask = x.same_ask;
      grows = grows_on book (asked_for s) old mid new (record_of s) (record_of at) (record_of at) x.grows (grows_rest book (asked_for s) mid new (record_of at) idles);
      bounded = x.bounded;
    }
