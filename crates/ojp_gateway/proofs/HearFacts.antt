-- One subrequest that is alone, to its end.
use Rattle.std.proofs.Common.{◌≡◌, ◌≢◌, ℕ, ◌+◌, ◌<◌, ◌≤◌, Option, Some, None, IsSome, IfSome, unwrap_or, slice_get, refl, sym, ◌∙◌, ap, subst, inl, inr, arith}
use Rattle.std.proofs.lemmas.Bool.{true≢false, cases_lt}
use Rattle.std.proofs.Math.Nat.{eq-or-lt_of_le}
use Rattle.ojp_outside.specs.Causes.{Rose}
use Rattle.ojp_links.specs.declared.expect.Expect.{Expect}
use Rattle.ojp_links.specs.declared.expect.Expect.TheVariants as expects
use Rattle.ojp_links.specs.Replies.{FitsExpected, ask_of}
use Rattle.ojp_timetable.specs.Answers.{RegionAnswers}
use Rattle.ojp_links.specs.Seen.{View, Fixed, ask_at, codes_of}
use Rattle.ojp_links.specs.Calls.{Idles, Keeps, NotRaised, RestsOnce, Spends}
use Rattle.ojp_subrequests.specs.declared.subreply.SubPoll.TheVariants as polls
use Rattle.ojp_subrequests.specs.declared.subreply.SubEnd.{SubEnd}
use Rattle.ojp_subrequests.specs.declared.subreply.SubEnd.TheVariants as ends
use Rattle.ojp_subrequests.specs.Views.{SubView}
use Rattle.ojp_subrequests.specs.Subrequests.{GoesOn, HearsTold, IsHeldAs, IsSafe, OnFailed, OnHeard, Polls}
use Rattle.ojp_turns.specs.Polling.{GotBytes, GotNothing}
use Rattle.ojp_turns.proofs.PollFacts.{Gone, Looked, bytes_by, keeps_on, keeps_self, moved_keeps, nothing_by, over_gone, pending_keeps}
use Rattle.ojp_turns.proofs.RoundFacts.{rose_from, tells_on}
use Rattle.ojp_gateway.specs.Learning.{EndMeans, Hears, IsAlone}
use Rattle.ojp_gateway.proofs.SeekFacts.{held_plain, left_plain, none_plain, spent}

pub by_key : (P : ℕ → Type 0) (key other : ℕ) → (other ≡ key → P other) → (other ≢ key → P other) → P other
by_key P key other here there =
    elim (cases_lt other key) [
      | inl less ↦ there (λ e. absurd (omega (arith, less, e)))
      | inr more ↦ elim (eq-or-lt_of_le more) [
        | inl e ↦ here (sym e)
        | inr less ↦ there (λ e. absurd (omega (arith, less, e)))
      ]
    ]

-- ---- from one poll to the next

-- nothing happened
pub idles_self : (v : View) → Idles v v
idles_self v = record { keeps = keeps_self v; rejections = refl; made = refl; live = λ key. refl }

-- so far it goes on, alone
pub record HearsOn (old new : View) (s now : SubView) : Type 0 where
  pub keeps : Keeps old new
  pub alone : IsAlone now new
  pub region : now.region ≡ s.region
  pub expects : now.expect ≡ s.expect
  pub rejects_none : IsSafe old s s.expect → new.rejections ≡ old.rejections

pub hears_start : (v : View) (s : SubView) → IsAlone s v → HearsOn v v s s
hears_start v s alone = record { keeps = keeps_self v; alone = alone; region = refl; expects = refl; rejects_none = λ safe. refl }

safe_by : (old mid : View) (s at : SubView) (expect : Expect) → Keeps old mid → at.region ≡ s.region → IsSafe old s expect → IsSafe mid at expect
safe_by old mid s at (expects.Region code ask) keeps region (tables, tells, (table, is, sure)) =
    (tables, tells_on old mid tables keeps tells, (table, ap (slice_get tables) region ∙ is, sure))
safe_by old mid s at (expects.Kind ask) keeps region (tables, told) = (tables, ap (λ (f : Fixed). f.servers) keeps.fixed ∙ told)

-- what is safe stays safe
safe_on : (old mid : View) (s at : SubView) → HearsOn old mid s at → IsSafe old s s.expect → IsSafe mid at at.expect
safe_on old mid s at h safe = subst (IsSafe mid at) (sym h.expects) (safe_by old mid s at s.expect h.keeps h.region safe)

module _ (old mid after new : View) (s at now : SubView) (h : HearsOn old mid s at) (safe : IsSafe mid at at.expect → after.rejections ≡ mid.rejections) (idles : Idles after new) where
  goes_on : (seen : View) → Looked mid after at.key → GoesOn seen after at now → HearsOn old new s now
  goes_on seen looked on =
      let held : IsHeldAs now (codes_of after.fixed) (after.live now.key) = subst (λ (v : View). IsHeldAs now (codes_of v.fixed) (v.live now.key)) (sym on.same) on.held in
      let kept : Keeps old after = keeps_on old mid after h.keeps looked.keeps in
      record {
        keeps = keeps_on old after new kept idles.keeps;
        alone = record {
          held = subst (λ (f : Fixed). IsHeldAs now (codes_of f) (new.live now.key)) (sym idles.keeps.fixed)
              (held_plain now (codes_of after.fixed) (new.live now.key) (after.live now.key) (idles.live now.key) held);
          only = λ key apart.
              let other : key ≢ at.key = λ e. apart (e ∙ sym on.key) in
              none_plain (new.live key) (after.live key) (idles.live key) (looked.others key other ∙ h.alone.only key other);
        };
        region = on.region ∙ h.region;
        expects = on.expects ∙ h.expects;
        rejects_none = λ told. idles.rejections ∙ (safe (safe_on old mid s at h told) ∙ h.rejects_none told);
      }

  pub hears_waits : Polls mid after at now polls.Pending → HearsOn old new s now
  hears_waits p = goes_on p.seen (pending_keeps mid after at now p) p.after.1

  pub hears_moved : Polls mid after at now polls.Moved → HearsOn old new s now
  hears_moved p = goes_on p.seen (moved_keeps mid after at now p) p.after.1

-- ---- what falls

-- patience, and what is left of its reply
abbrev pub work_of : View → SubView → ℕ
work_of v s = unwrap_or v.patience 0 + (ask_at v s.key).left

waits_less : (a b c : Option ℕ) (before now : ℕ) → IsSome a → IfSome a (λ (p : ℕ). (0 < p) × (now ≤ before)) → NotRaised a b → Spends b c → unwrap_or c 0 + now < unwrap_or a 0 + before
waits_less None b c before now some it raised spends = absurd (true≢false (sym some))
waits_less (Some p) b c before now some it raised spends =
    let is : b ≡ Some raised.0 = raised.1 in
    let told : IsSome b = subst (λ (o : Option ℕ). IsSome o) (sym is) refl in
    let value : unwrap_or b 0 ≡ raised.0 = ap (λ (o : Option ℕ). unwrap_or o 0) is in
    omega (arith, spent b c spends told, value, raised.2, it.0, it.1)

moved_less : (a b c : Option ℕ) (before now : ℕ) → IsSome a → IfSome a (λ (p : ℕ). now < before) → NotRaised a b → Spends b c → unwrap_or c 0 + now < unwrap_or a 0 + before
moved_less None b c before now some it raised spends = absurd (true≢false (sym some))
moved_less (Some p) b c before now some it raised spends =
    let is : b ≡ Some raised.0 = raised.1 in
    let told : IsSome b = subst (λ (o : Option ℕ). IsSome o) (sym is) refl in
    let value : unwrap_or b 0 ≡ raised.0 = ap (λ (o : Option ℕ). unwrap_or o 0) is in
    omega (arith, spent b c spends told, value, raised.2, it)

module _ (mid after new : View) (at now : SubView) (patient : IsSome mid.patience) (rests : RestsOnce after new) where
  left_same : now.key ≡ at.key → (ask_at new now.key).left ≡ (ask_at after at.key).left
  left_same key = ap (λ (k : ℕ). (ask_at new k).left) key ∙ left_plain (new.live at.key) (after.live at.key) (rests.idles.live at.key)

  pub waits_fall : Polls mid after at now polls.Pending → work_of new now < work_of mid at
  waits_fall p =
      let nothing : GotNothing mid.patience (mid.live at.key) (after.live at.key) = nothing_by mid p.seen after at.key p.more p.after.0 p.looks p.after.1.same in
      let less = waits_less mid.patience after.patience new.patience (ask_at mid at.key).left (ask_at after at.key).left patient nothing.left (pending_keeps mid after at now p).patience rests.spends in
      omega (arith, less, left_same p.after.1.key)

  pub moved_fall : Polls mid after at now polls.Moved → work_of new now < work_of mid at
  moved_fall p =
      let bytes : GotBytes mid.patience (mid.live at.key) (after.live at.key) = bytes_by mid p.seen after at.key p.more p.after.0 p.looks p.after.1.same in
      let less = moved_less mid.patience after.patience new.patience (ask_at mid at.key).left (ask_at after at.key).left patient bytes.left (moved_keeps mid after at now p).patience rests.spends in
      omega (arith, less, left_same p.after.1.key)

-- ---- its end

means_by : (old mid new : View) (s at now : SubView) (end : SubEnd) → HearsOn old mid s at → Polls mid new at now (polls.Over end) → OnHeard (polls.Over end) (HearsTold mid at)
    → OnFailed (polls.Over end) (Rose (mid.faults at.region) (new.faults at.region)) → EndMeans old new s end
means_by old mid new s at now (ends.Heard delivery) h p told failed =
    record {
      bytes = (ask_at p.seen at.key).taken;
      reply = p.after.2.reply;
      fits = subst (λ (e : Expect). FitsExpected e delivery) h.expects told.fits;
      answers = λ tables tells table is.
          subst (λ (e : Expect). RegionAnswers table (ask_of e) delivery) h.expects
          (told.answers tables (ap (λ (f : Fixed). f.servers) h.keeps.fixed ∙ tells) table (ap (slice_get tables) h.region ∙ is));
    }
means_by old mid new s at now ends.Failed h p told failed =
    subst (λ (region : ℕ). Rose (old.faults region) (new.faults region)) h.region (rose_from (old.faults at.region) (mid.faults at.region) (new.faults at.region) (h.keeps.faults at.region) failed)
means_by old mid new s at now ends.NoMemory h p told failed = tt

pub hears_end : (old mid new : View) (s at now : SubView) (end : SubEnd) → HearsOn old mid s at → Polls mid new at now (polls.Over end) → OnHeard (polls.Over end) (HearsTold mid at)
    → OnFailed (polls.Over end) (Rose (mid.faults at.region) (new.faults at.region)) → (IsSafe mid at at.expect → new.rejections ≡ mid.rejections) → Hears old new s end
hears_end old mid new s at now end h p told failed safe =
    let gone : Gone mid new at.key = over_gone mid new at now end p in
    record {
      keeps = keeps_on old mid new h.keeps gone.keeps;
      none_live = λ key. by_key (λ (k : ℕ). new.live k ≡ None) at.key key (λ e. ap (λ (k : ℕ). new.live k) e ∙ gone.none) (λ apart. gone.others key apart ∙ h.alone.only key apart);
      rejects_none = λ sure. safe (safe_on old mid s at h sure) ∙ h.rejects_none sure;
      means = means_by old mid new s at now end h p told failed;
    }
