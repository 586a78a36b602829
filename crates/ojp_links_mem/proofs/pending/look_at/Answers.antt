use Rattle.std.proofs.Common.{◌≡◌, Some, ap, subst, sym, ◌∙◌}
use Rattle.std.specs.Option.{option_copied_mut}
use Rattle.std.proofs.lemmas.Option.{same_Some}
use Rattle.slab.specs.Slab.{get}
use Rattle.slab.proofs.SlabLemmas.{Updates-with_value}
use Rattle.ojp_links_mem.specs.Pending.{LooksAt}
use Rattle.ojp_links_mem.specs.declared.pending.Pending.{Pending as Ask}
use Rattle.ojp_links_mem.proofs.pending.look_at.Goals as goal

pub returns : goal.returns
returns c =
    let here : get c.args.asks.now c.args.key ≡ Some c.in-Some.ask.now = sym c.get_mut.ensures.value ∙ ap option_copied_mut c.in-Some.is in
    let updates = Updates-with_value c.args.asks.now c.args.key c.look.new.self c.requires.live in
    record {
      looks_at = λ p at. (c.look.new.self, updates.changed, subst (λ (q : Ask). LooksAt c.args.most q c.look.new.self c.look.result) (same_Some c.in-Some.ask.now p (sym here ∙ at)) c.look.ensures);
      others_stay = updates.others;
    }
