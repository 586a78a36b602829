use Rattle.std.proofs.Common.{List, Option, map, refl, subst, sym, ◌∙◌}
use Rattle.ojp_values.specs.Texts.{Text}
use Rattle.ojp_timetable.specs.Tables.{Timetable}
use Rattle.ojp_links.specs.Seen.{region_of_table}
use Rattle.ojp_links_mem.specs.Files.{IsLeastTwice, IsTwiceAnswer}
use Rattle.ojp_links_mem.proofs.FileFacts.{shut_tables}
use Rattle.ojp_links_mem.proofs.files.FileLinks.open.Goals as goal

pub returns-in_default : goal.returns-in_default
returns-in_default g c =
    let f = c.args.self.now in
    (shut_tables f.is_open c.new-none.result.items f.links c.requires ∙ c.new-none.ensures.items, refl, record { is_open_same = refl; links_same = refl })

pub returns-in-Some : goal.returns-in-Some
returns-in-Some g c =
    let f = c.args.self.now in
    let answer = subst (λ (o : Option Text). IsTwiceAnswer (map region_of_table c.deref.result.now) o) c.in-Some.is c.in-Ok.ensures in (
      subst (λ (ts : List Timetable). IsLeastTwice (map region_of_table ts) c.in-Some.code) (c.deref.ensures.value ∙ sym (shut_tables f.is_open f.tables.items f.links c.requires)) answer,
      refl,
    )
