-- What a poll tells, over what the links tell.
use Rattle.std.proofs.Common.{◌≡◌, ℕ, zero, suc, ◌+◌, ◌-◌, ◌^◌, ◌≤◌, ◌⊎◌, inl, inr, Bool, true, false, List, [], ◌∷◌, ◌++◌, map, min, refl, sym, ◌∙◌, ap, subst, arith, slice_get}
use Rattle.std.specs.Prelude.{Option, Some, None, IfSome}
use Rattle.std.proofs.lemmas.Option.{none-some}
use Rattle.ojp_values.specs.Texts.{Text}
use Rattle.ojp_values.specs.Lists.{Among}
use Rattle.ojp_values.specs.declared.replies.Delivery.{Delivery}
use Rattle.ojp_outside.specs.Causes.{Rose}
use Rattle.ojp_timetable.specs.Tables.{Timetable}
use Rattle.ojp_timetable.specs.Runs.{IsWell}
use Rattle.ojp_timetable.specs.Answers.{RegionAnswers}
use Rattle.ojp_timetable.proofs.ReadFacts.{among_at}
use Rattle.ojp_links.specs.declared.expect.Expect.{Expect}
use Rattle.ojp_links.specs.declared.expect.Expect.TheVariants as expects
use Rattle.ojp_links.specs.declared.links.More.{More}
use Rattle.ojp_links.specs.declared.links.More.TheVariants as mores
use Rattle.ojp_links.specs.Laws.{HeardIsGiven, KindIsNeverHopeless, SureIsNeverHopeless}
use Rattle.ojp_links.specs.Replies.{Carries, FitsExpected, IsExpectedOf, IsHopeless, IsReplyOf, Requests, ServesByTable, ask_of}
use Rattle.ojp_links.specs.Seen.{AreServers, Fixed, IsDrawnFrom, IsServedByOne, IsSound, Live, TellsTables, View, ask_at, code_in, codes_of, region_of_table}
use Rattle.ojp_links.specs.Calls.{Looks}
use Rattle.ojp_subrequests.specs.Views.{SubView}
use Rattle.ojp_subrequests.specs.Subrequests.{AfterLook, HearsTold, IsHeldIn, IsOwn, IsSafe, OnFailed, OnHeard}
use Rattle.ojp_subrequests.specs.declared.subreply.SubPoll.{SubPoll}
use Rattle.ojp_subrequests.specs.declared.subreply.SubPoll.TheVariants as polls
use Rattle.ojp_subrequests.specs.declared.subreply.SubEnd.TheVariants as ends

module _ {X : Type 0} where
  if_some_map : (o : Option X) (P Q : X → Type 0) → ((x : X) → P x → Q x) → IfSome o P → IfSome o Q
  if_some_map None P Q f h = tt
  if_some_map (Some x) P Q f h = f x h

  at_some : (o : Option X) (x : X) (P : X → Type 0) → o ≡ Some x → IfSome o P → P x
  at_some o x P e h = subst (λ (it : Option X). IfSome it P) e h

  one_some : (x y : X) → Some x ≡ Some y → x ≡ y
  one_some x y e = cc

-- the code of the region with the number, where its timetable is told
code_of_table : (tables : List Timetable) (region : ℕ) (table : Timetable) → slice_get tables region ≡ Some table → code_in (map region_of_table tables) region ≡ table.region
code_of_table [] region table e = absurd (none-some table e)
code_of_table (x ∷ tables) zero table e = ap (λ (t : Timetable). t.region) (one_some x table e)
code_of_table (x ∷ tables) (suc region) table e = code_of_table tables region table e

-- one served ask, with the timetable of its region
pub record IsServedBy (ask : Live) (table : Timetable) : Type 0 where
  pub out : List ℕ
  pub serves : ServesByTable table ask.request out
  pub drawn : IsDrawnFrom ask out

served_by : (s : SubView) (fixed : Fixed) (ask : Live) (tables : List Timetable) (table : Timetable) → IfSome fixed.servers (IsServedByOne ask) → fixed.servers ≡ Some tables → ask.region ≡ s.region
    → slice_get tables s.region ≡ Some table → IsServedBy ask table
served_by s fixed ask tables table served e region at =
    let one : IsServedByOne ask tables = at_some fixed.servers tables (IsServedByOne ask) e served in
    let here : slice_get tables s.region ≡ Some one.0 = subst (λ (r : ℕ). slice_get tables r ≡ Some one.0) region one.1 in
    let same : one.0 ≡ table = one_some one.0 table (sym here ∙ at) in
    record { out = one.2.0; serves = subst (λ (t : Timetable). ServesByTable t ask.request one.2.0) same one.2.1; drawn = one.2.2 }

-- ---- heard

heard_told : (old seen : View) (s : SubView) (more : More) (delivery : Delivery) → HeardIsGiven → IsSound seen → IsHeldIn s old → Looks old seen s.key more → IsReplyOf (ask_at seen s.key).taken delivery → FitsExpected s.expect delivery
    → HearsTold old s delivery
heard_told old seen s more delivery given sound held looks reply fits =
    let honest = sound.honest s.key looks.live in
    record {
      fits = fits;
      carried = subst (λ (o : Option (List ℕ)). IfSome o (λ whole. Carries whole delivery)) looks.reply
          (if_some_map (ask_at seen s.key).reply (IsDrawnFrom (ask_at seen s.key)) (λ whole. Carries whole delivery) (λ whole drawn. ((ask_at seen s.key).taken, drawn.0, reply)) honest.reply);
      answers = λ tables e table at.
          let by = served_by s seen.fixed (ask_at seen s.key) tables table honest.served (ap (λ (f : Fixed). f.servers) looks.keeps.fixed ∙ e) (looks.region ∙ held.own.of_region) at in
          let asked = subst (λ (r : List ℕ). Requests r (ask_of s.expect)) (sym looks.request) held.own.asked in
          given table (ask_at seen s.key).request (ask_at seen s.key).taken by.out (ask_of s.expect) delivery asked by.serves by.drawn.0 reply;
    }

pub poll_told : (old seen new : View) (before now : SubView) (more : More) (answer : SubPoll) → HeardIsGiven → IsSound seen → IsHeldIn before old → Looks old seen before.key more → AfterLook answer more seen new before now
    → OnHeard answer (HearsTold old before)
poll_told old seen new before now more polls.Pending given sound held looks after = tt
poll_told old seen new before now more polls.Moved given sound held looks after = tt
poll_told old seen new before now more (polls.Over (ends.Heard delivery)) given sound held looks after = heard_told old seen before more delivery given sound held looks after.2.reply after.2.fits
poll_told old seen new before now more (polls.Over ends.Failed) given sound held looks after = tt
poll_told old seen new before now more (polls.Over ends.NoMemory) given sound held looks after = tt

-- ---- failed

rose_on : (a b c : ℕ) → Rose a b → b ≤ c → Rose a c
rose_on a b c h k = omega arith

rose_from : (a b c : ℕ) → a ≤ b → Rose b c → Rose a c
rose_from a b c h k = omega arith

pub poll_failed : (old seen new : View) (before now : SubView) (more : More) (answer : SubPoll) → IsHeldIn before old → Looks old seen before.key more → AfterLook answer more seen new before now
    → OnFailed answer (Rose (old.faults before.region) (new.faults before.region))
poll_failed old seen new before now more polls.Pending held looks after = tt
poll_failed old seen new before now more polls.Moved held looks after = tt
poll_failed old seen new before now more (polls.Over (ends.Heard delivery)) held looks after = tt
poll_failed old seen new before now more (polls.Over ends.Failed) held looks after = elim after.1 [
  | inl f ↦
      let rose = subst (λ (r : ℕ). Rose (old.faults r) (seen.faults r)) held.own.of_region (looks.failed f.0) in
      rose_on (old.faults before.region) (seen.faults before.region) (new.faults before.region) rose (f.1.drops.keeps.faults before.region)
  | inr f ↦
      let rose = subst (λ (r : ℕ). Rose (seen.faults r) (new.faults r)) (looks.region ∙ held.own.of_region) f.1.rejects.fault in
      rose_from (old.faults before.region) (seen.faults before.region) (new.faults before.region) (looks.keeps.faults before.region) rose
]
poll_failed old seen new before now more (polls.Over ends.NoMemory) held looks after = tt

-- ---- safe

never_condemned : (old seen : View) (s : SubView) (expect : Expect) → SureIsNeverHopeless → KindIsNeverHopeless → IsSound seen → seen.fixed ≡ old.fixed → IfSome seen.fixed.servers (IsServedByOne (ask_at seen s.key))
    → (ask_at seen s.key).region ≡ s.region → IsExpectedOf (code_in (codes_of old.fixed) s.region) expect → Requests (ask_at seen s.key).request (ask_of expect) → IsSafe old s expect
    → IsHopeless expect (ask_at seen s.key).taken (ask_at seen s.key).ended → ⊥
never_condemned old seen s (expects.Region code ask) sure kind sound fixed served region expected asked safe hopeless =
    let tables = safe.0 in
    let table = safe.2.0 in
    let told : seen.fixed.servers ≡ Some tables = ap (λ (f : Fixed). f.servers) fixed ∙ safe.1.servers in
    let by = served_by s seen.fixed (ask_at seen s.key) tables table served told region safe.2.1 in
    let servers : AreServers seen.fixed.stations tables = at_some seen.fixed.servers tables (AreServers seen.fixed.stations) told sound.servers_well in
    let well : IsWell table = servers.well table (among_at tables s.region table safe.2.1) in
    let code_is : code ≡ table.region = expected ∙ (ap (λ (codes : List Text). code_in codes s.region) (sym safe.1.own) ∙ code_of_table tables s.region table safe.2.1) in
    sure table (ask_at seen s.key).request (ask_at seen s.key).taken by.out ask (ask_at seen s.key).ended well safe.2.2 asked by.serves by.drawn.0 by.drawn.1
    (subst (λ (c : Text). IsHopeless (expects.Region c ask) (ask_at seen s.key).taken (ask_at seen s.key).ended) code_is hopeless)
never_condemned old seen s (expects.Kind ask) sure kind sound fixed served region expected asked safe hopeless =
    let tables = safe.0 in
    let told : seen.fixed.servers ≡ Some tables = ap (λ (f : Fixed). f.servers) fixed ∙ safe.1 in
    let one : IsServedByOne (ask_at seen s.key) tables = at_some seen.fixed.servers tables (IsServedByOne (ask_at seen s.key)) told served in
    kind one.0 (ask_at seen s.key).request (ask_at seen s.key).taken one.2.0 ask (ask_at seen s.key).ended asked one.2.1 one.2.2.0 one.2.2.1 hopeless

pub poll_safe : (old seen new : View) (before now : SubView) (more : More) (answer : SubPoll) → SureIsNeverHopeless → KindIsNeverHopeless → IsSound seen → IsHeldIn before old → Looks old seen before.key more → AfterLook answer more seen new before now
    → IsSafe old before before.expect → new.rejections ≡ old.rejections
poll_safe old seen new before now more polls.Pending sure kind sound held looks after safe = ap (λ (v : View). v.rejections) after.1.same ∙ looks.rejections
poll_safe old seen new before now more polls.Moved sure kind sound held looks after safe = ap (λ (v : View). v.rejections) after.1.same ∙ looks.rejections
poll_safe old seen new before now more (polls.Over (ends.Heard delivery)) sure kind sound held looks after safe = after.2.closes.rejections ∙ looks.rejections
poll_safe old seen new before now more (polls.Over ends.Failed) sure kind sound held looks after safe = elim after.1 [
  | inl f ↦ f.1.rejections ∙ looks.rejections
  | inr f ↦
      absurd (never_condemned old seen before before.expect sure kind sound looks.keeps.fixed (sound.honest before.key looks.live).served (looks.region ∙ held.own.of_region) held.own.expected
      (subst (λ (r : List ℕ). Requests r (ask_of before.expect)) (sym looks.request) held.own.asked)
      safe
      f.1.hopeless)
]
poll_safe old seen new before now more (polls.Over ends.NoMemory) sure kind sound held looks after safe = after.2.rejections ∙ looks.rejections
