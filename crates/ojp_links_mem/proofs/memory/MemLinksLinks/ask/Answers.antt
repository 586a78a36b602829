use Rattle.std.proofs.Common.{◌≡◌, ◌<◌, List, Err, None, Ok, Option, Some, ap, arith, length, refl, slice_get, subst, sym, ◌∙◌}
use Rattle.ojp_links.specs.Calls.{Asks}
use Rattle.ojp_links.specs.declared.links.AskRefused.TheVariants.{Failed}
use Rattle.ojp_links_mem.specs.Scripts.{answering}
use Rattle.ojp_links_mem.specs.Memory.{AsksBy, MemView, links_of, said_in, table_number}
use Rattle.ojp_links_mem.specs.Pending.{IsMade}
use Rattle.ojp_links_mem.specs.Kept.{view_of}
use Rattle.ojp_links_mem.specs.declared.regions.Region.{Region}
use Rattle.ojp_links_mem.specs.declared.script.What.{What}
use Rattle.ojp_links_mem.proofs.AskFacts.{answer_below, begins_at, failed_at, fresh_kept, makes_by, table_there, whole_asked, whole_failed}
use Rattle.ojp_links_mem.proofs.LookFacts.{region_there}
use Rattle.ojp_links_mem.proofs.SoundFacts.{region_below}
use Rattle.ojp_links_mem.proofs.memory.MemLinksLinks.ask.Goals as goal

pub answering-requires : goal.answering-requires
answering-requires c = subst (λ (rs : List Region). c.args.region < length rs) (sym c.deref.ensures.value) (region_below c.self.inside c.args.self.now c.args.region c.self.view_is c.requires)

pub asked-requires : goal.asked-requires
asked-requires c =
    let m = c.self.inside in
    let answers : answering (said_in m.script.entries c.saturating_add-made.result) (table_number (slice_get m.regions.items c.args.region)) ≡ Some c.in-Some.number =
    sym (ap (λ (rs : List Region). answering (said_in m.script.entries c.saturating_add-made.result) (table_number (slice_get rs c.args.region))) c.deref.ensures.value) ∙ sym c.in-Some.ensures in
    answer_below m c.args.region c.in-Some.number (said_in m.script.entries c.saturating_add-made.result) c.self.invariant (region_below m c.args.self.now c.args.region c.self.view_is c.requires) answers

pub returns : goal.returns
returns c =
    let m = c.self.inside in
    let n = record m { servers = c.asked.new.servers; asks = c.insert.new.self; made = c.saturating_add-made.result; patience = c.max-self-inside.result } in
    let said = said_in m.script.entries n.made in
    let below = region_below m c.args.self.now c.args.region c.self.view_is c.requires in
    let answers : answering said (table_number (slice_get m.regions.items c.args.region)) ≡ Some c.in-Some.number =
    sym (ap (λ (rs : List Region). answering said (table_number (slice_get rs c.args.region))) c.deref.ensures.value) ∙ sym c.in-Some.ensures in
    let it = table_there m.servers.items c.in-Some.number (answer_below m c.args.region c.in-Some.number said c.self.invariant below answers) in
    let made = subst (λ k. IsMade c.args.region c.args.request.now k said it.0 c.in-Ok.pending) c.rests_of-rests.ensures (subst (λ (o : Option What). IsMade c.args.region c.args.request.now c.rests_of-rests.result o it.0 c.in-Ok.pending) c.get-said.ensures.value (c.in-Ok.ensures.made it.0 it.1)) in
    record {
      asks = subst (λ (v : MemView). Asks (links_of v) (links_of (view_of n)) c.args.region c.args.request.now (Ok (record { key = c.in-Ok-insert.key }))) c.self.view_is
          (begins_at m n c.args.region c.in-Ok-insert.key c.args.request.now said it.0 c.in-Ok.pending (record { tables_same = c.asked.ensures.same; script_same = refl; order_same = refl; most_same = refl; servers_same = refl; tells_same = refl }) refl c.saturating_add-made.ensures c.in-Ok-insert.ensures.was_vacant c.in-Ok-insert.ensures.updates.changed c.in-Ok-insert.ensures.updates.others made);
      by = subst (λ (v : MemView). AsksBy v (view_of n) c.args.region c.args.request.now (Ok (record { key = c.in-Ok-insert.key }))) c.self.view_is
          (makes_by m n c.args.region c.in-Ok-insert.key c.args.request.now c.in-Some.number it.0 c.in-Ok.pending (record { tables_same = c.asked.ensures.same; script_same = refl; order_same = refl; most_same = refl; servers_same = refl; tells_same = refl }) refl c.saturating_add-made.ensures refl answers it.1 c.in-Ok-insert.ensures.updates.changed made);
    }

pub invariant_of-self : goal.invariant_of-self
invariant_of-self c =
    let m = c.self.inside in
    let n = record m { regions = c.count_fault.new.regions; made = c.saturating_add-made.result } in
    let said = said_in m.script.entries c.saturating_add-made.result in
    let below = region_below m c.args.self.now c.args.region c.self.view_is c.requires in
    let it = region_there m.regions.items c.args.region below in
    let none : answering said (table_number (slice_get m.regions.items c.args.region)) ≡ None =
    sym (ap (λ (rs : List Region). answering said (table_number (slice_get rs c.args.region))) c.deref.ensures.value) ∙ sym c.in_default.ensures in
    whole_failed m n c.args.region it.0 said c.self.invariant (record { tables_same = refl; script_same = refl; order_same = refl; most_same = refl; servers_same = refl; tells_same = refl }) below it.1 c.count_fault.ensures.changes c.count_fault.ensures.later
    (λ tells. c.self.invariant.unsaid tells c.saturating_add-made.result) none refl refl

pub returns-in_default-clause-asks : goal.returns-in_default-clause-asks
returns-in_default-clause-asks c =
    let m = c.self.inside in
    let n = record m { regions = c.count_fault.new.regions; made = c.saturating_add-made.result } in
    let it = region_there m.regions.items c.args.region (region_below m c.args.self.now c.args.region c.self.view_is c.requires) in
    subst (λ (v : MemView). Asks (links_of v) (links_of (view_of n)) c.args.region c.args.request.now (Err Failed)) c.self.view_is
    (failed_at m n c.args.region it.0 c.args.request.now (record { tables_same = refl; script_same = refl; order_same = refl; most_same = refl; servers_same = refl; tells_same = refl }) it.1 c.count_fault.ensures.changes c.count_fault.ensures.later refl)

pub invariant_of-self-2 : goal.invariant_of-self-2
invariant_of-self-2 c =
    let m = c.self.inside in
    let n = record m { servers = c.asked.new.servers; asks = c.insert.new.self; made = c.saturating_add-made.result; patience = c.max-self-inside.result } in
    let said = said_in m.script.entries c.saturating_add-made.result in
    let below = region_below m c.args.self.now c.args.region c.self.view_is c.requires in
    let answers : answering said (table_number (slice_get m.regions.items c.args.region)) ≡ Some c.in-Some.number =
    sym (ap (λ (rs : List Region). answering said (table_number (slice_get rs c.args.region))) c.deref.ensures.value) ∙ sym c.in-Some.ensures in
    let it = table_there m.servers.items c.in-Some.number (answer_below m c.args.region c.in-Some.number said c.self.invariant below answers) in
    let made = subst (λ (o : Option What). IsMade c.args.region c.args.request.now c.rests_of-rests.result o it.0 c.in-Ok.pending) c.get-said.ensures.value (c.in-Ok.ensures.made it.0 it.1) in
    let fits = fresh_kept m c.args.region c.in-Some.number c.max-self-inside.result c.args.request.now c.rests_of-rests.result said it.0 c.in-Ok.pending c.self.invariant below answers it.1 made
    (λ tells. c.self.invariant.unsaid tells c.saturating_add-made.result) (omega (arith, c.max-self-inside.ensures)) in
    whole_asked m n c.in-Ok-insert.key c.in-Ok.pending c.self.invariant (record { tables_same = c.asked.ensures.same; script_same = refl; order_same = refl; most_same = refl; servers_same = refl; tells_same = refl }) refl (omega (arith, c.max-self-inside.ensures)) c.in-Ok-insert.ensures.updates.changed c.in-Ok-insert.ensures.updates.others fits
