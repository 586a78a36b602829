use Rattle.std.proofs.Common.{List, Some, ap, refl, subst, sym}
use Rattle.ojp_values.specs.Texts.{Text}
use Rattle.ojp_timetable.specs.Tables.{Timetable}
use Rattle.ojp_links.specs.Calls.{Adds, IsNewCode}
use Rattle.ojp_links.specs.Seen.{Station}
use Rattle.ojp_links_mem.specs.Memory.{AddsBy, IsNumberOf, MemView, links_of}
use Rattle.ojp_links_mem.specs.Kept.{view_of}
use Rattle.ojp_links_mem.specs.declared.regions.Region.{Region}
use Rattle.ojp_links_mem.proofs.AddFacts.{IsAdded, adds_at, is_added, number_fits, whole_added, with_regions}
use Rattle.ojp_links_mem.proofs.memory.MemLinksWaitLinks.add.Goals as goal

pub returns : goal.returns
returns c =
    let m = c.self.inside in
    let region : Region = record { code = c.args.code; address = Some (record { host = c.in-Ok.host; port = c.args.port }); table = c.number_of-table.result; faults = 0; rejections = 0 } in
    let n = with_regions m c.push.new.self c.tells_with-self-inside.result in
    let number : IsNumberOf m.servers.items c.args.host.now c.number_of-table.result = subst (λ (ts : List Timetable). IsNumberOf ts c.args.host.now c.number_of-table.result) c.deref.ensures.value c.number_of-table.ensures in
    let added : IsAdded m n region =
    is_added m c.push.new.self c.tells_with-self-inside.result region c.in-Ok-push.ensures.items c.tells_with-self-inside.ensures
    (number_fits m.servers.items c.args.host.now c.number_of-table.result number) refl refl in
    let station : Text → Station = λ t. record { code = c.args.code; address = Some (record { host = t; port = c.args.port }) } in
    record {
      ok = subst (λ (v : MemView). Adds (links_of v) (links_of (view_of n)) c.args.code c.args.host.now c.args.port) c.self.view_is
          (adds_at m n region c.args.code c.args.host.now c.args.port added (ap station c.in-Ok.ensures.ok));
      err = tt;
      by = subst (λ (v : MemView). AddsBy v (view_of n) c.args.host.now) c.self.view_is
          (record { region = region; behind = added.behind; number_is = number; tells_no_order = refl; tells_yet = added.tells; rested_same = refl });
    }

pub invariant_of-self-2 : goal.invariant_of-self-2
invariant_of-self-2 c =
    let m = c.self.inside in
    let region : Region = record { code = c.args.code; address = Some (record { host = c.in-Ok.host; port = c.args.port }); table = c.number_of-table.result; faults = 0; rejections = 0 } in
    let n = with_regions m c.push.new.self c.tells_with-self-inside.result in
    let number : IsNumberOf m.servers.items c.args.host.now c.number_of-table.result = subst (λ (ts : List Timetable). IsNumberOf ts c.args.host.now c.number_of-table.result) c.deref.ensures.value c.number_of-table.ensures in
    let added : IsAdded m n region =
    is_added m c.push.new.self c.tells_with-self-inside.result region c.in-Ok-push.ensures.items c.tells_with-self-inside.ensures
    (number_fits m.servers.items c.args.host.now c.number_of-table.result number) refl refl in
    whole_added m n region c.self.invariant added (subst (λ (v : MemView). IsNewCode (links_of v) c.args.code) (sym c.self.view_is) c.requires)
