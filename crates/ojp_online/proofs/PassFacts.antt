-- Links that pass on from one connection to the next.
use Rattle.std.proofs.Common.{◌≡◌, refl, sym, ◌∙◌, ap, subst}
use Rattle.ojp_values.specs.Lists.{Among}
use Rattle.ojp_exchange.specs.Book.{Book}
use Rattle.ojp_links.specs.Seen.{View, NoneLive, codes_of}
use Rattle.ojp_links.specs.Calls.{Keeps}
use Rattle.ojp_turns.specs.Held.{HasRegions}
use Rattle.ojp_turns.proofs.PollFacts.{keeps_on, keeps_self}
use Rattle.ojp_turns.proofs.RoundFacts.{tells_on}
use Rattle.ojp_online.specs.Gateways.{PassesOn}

pub passes_self : (book : Book) (v : View) → NoneLive v → PassesOn book v v
passes_self book v none = record { keeps = keeps_self v; none_live = none; none_rejected = λ tables tells region. refl }

pub passes_more : (book : Book) (old mid new : View) → PassesOn book old mid → PassesOn book mid new → PassesOn book old new
passes_more book old mid new first second = record {
  keeps = keeps_on old mid new first.keeps second.keeps;
  none_live = second.none_live;
  none_rejected = λ tables tells region. second.none_rejected tables (tells_on old mid tables first.keeps tells.0, tells.1) region ∙ first.none_rejected tables tells region;
}

pub regions_on : (book : Book) (old new : View) → Keeps old new → HasRegions book old → HasRegions book new
regions_on book old new keeps has code =
    let e : codes_of new.fixed ≡ codes_of old.fixed = ap codes_of keeps.fixed in
    (λ among. subst (Among code) (sym e) ((has code).0 among), λ among. (has code).1 (subst (Among code) e among))
