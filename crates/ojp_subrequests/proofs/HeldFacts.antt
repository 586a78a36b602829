-- A subrequest is held while it goes on, and over a rest.
use Rattle.std.proofs.Common.{◌≡◌, ℕ, true, List, Option, Some, None, option_map, sym, ◌∙◌, ap, subst, true≢false}
use Rattle.std.proofs.lemmas.Option.{none-some, same_Some}
use Rattle.ojp_values.specs.Texts.{Text}
use Rattle.ojp_links.specs.Replies.{Requests, ask_of}
use Rattle.ojp_links.specs.Seen.{Fixed, Live, View, codes_of}
use Rattle.ojp_links.specs.Calls.{Idles, without_rests}
use Rattle.ojp_subrequests.specs.Hearing.{HasHeard}
use Rattle.ojp_subrequests.specs.Views.{SubView}
use Rattle.ojp_subrequests.specs.Subrequests.{GoesOn, IsHeldAs, IsHeldIn, Polls}
use Rattle.ojp_subrequests.specs.declared.subreply.SubPoll.{SubPoll}
use Rattle.ojp_subrequests.specs.declared.subreply.SubPoll.TheVariants as polls

goes_on_held : (seen new : View) (before now : SubView) → GoesOn seen new before now → IsHeldIn now new
goes_on_held seen new before now g = subst (λ (v : View). IsHeldIn now v) (sym g.same) g.held

pub pending_held : (old new : View) (before now : SubView) (answer : SubPoll) → answer ≡ polls.Pending → Polls old new before now answer → IsHeldIn now new
pending_held old new before now answer e p = let q : Polls old new before now polls.Pending = subst (λ (a : SubPoll). Polls old new before now a) e p in goes_on_held q.seen new before now q.after.1

pub moved_held : (old new : View) (before now : SubView) (answer : SubPoll) → answer ≡ polls.Moved → Polls old new before now answer → IsHeldIn now new
moved_held old new before now answer e p = let q : Polls old new before now polls.Moved = subst (λ (a : SubPoll). Polls old new before now a) e p in goes_on_held q.seen new before now q.after.1

held_so : (s : SubView) (codes : List Text) (a b : Live) → without_rests b ≡ without_rests a → IsHeldAs s codes (Some a) → IsHeldAs s codes (Some b)
held_so s codes a b e h = record {
  own = record {
    not_over = h.own.not_over;
    live = h.own.live;
    of_region = ap (λ (l : Live). l.region) e ∙ h.own.of_region;
    expected = h.own.expected;
    asked = subst (λ (r : List ℕ). Requests r (ask_of s.expect)) (sym (ap (λ (l : Live). l.request) e)) h.own.asked;
  };
  heard = subst (HasHeard s.heard) (sym (ap (λ (l : Live). l.taken) e)) h.heard;
  not_ended = ap (λ (l : Live). l.ended) e ∙ h.not_ended;
}

held_over : (s : SubView) (codes : List Text) (old new : Option Live) → option_map without_rests new ≡ option_map without_rests old → IsHeldAs s codes old → IsHeldAs s codes new
held_over s codes None new e h = absurd (true≢false (sym h.own.live))
held_over s codes (Some a) None e h = absurd (none-some (without_rests a) e)
held_over s codes (Some a) (Some b) e h = held_so s codes a b (same_Some (without_rests b) (without_rests a) e) h

pub rest_held : (s : SubView) (old new : View) → Idles old new → IsHeldIn s old → IsHeldIn s new
rest_held s old new idles h =
    subst (λ (f : Fixed). IsHeldAs s (codes_of f) (new.live s.key)) (sym idles.keeps.fixed) (held_over s (codes_of old.fixed) (old.live s.key) (new.live s.key) (idles.live s.key) h)
