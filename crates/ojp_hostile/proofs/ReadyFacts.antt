-- Gateways stay ready, and what makes them ready.
use Rattle.std.proofs.Common.{◌≡◌, ℕ, List, [], ◌∷◌, ◌++◌, map, Ok, Result, sym, ◌∙◌, ap, subst}
use Rattle.std.specs.Prelude.{◌↔◌}
use Rattle.std.proofs.lemmas.List.{map-append}
use Rattle.slab.specs.Slab.{Slab}
use Rattle.ojp_values.specs.Lists.{Among}
use Rattle.ojp_values.specs.Texts.{Text}
use Rattle.ojp_timetable.specs.Tables.{Timetable}
use Rattle.ojp_exchange.specs.Book.{Book}
use Rattle.ojp_links.specs.Seen.{Fixed, NoneLive, View, code_of_station, codes_of}
use Rattle.ojp_links.specs.Calls.{Adds, Keeps}
use Rattle.ojp_links.proofs.MoreFacts.{none_added}
use Rattle.ojp_links_mem.specs.Memory.{IsUnopenedOver, MemView, Renumbers, links_of}
use Rattle.ojp_links_mem.specs.Pending.{live_in}
use Rattle.ojp_links_mem.specs.Regions.{station_of}
use Rattle.ojp_links_mem.specs.declared.pending.Pending.{Pending}
use Rattle.ojp_links_mem.specs.declared.regions.Region.{Region}
use Rattle.ojp_turns.specs.Held.{HasRegions}
use Rattle.ojp_gateway.specs.declared.learning.LearnRefused.{LearnRefused}
use Rattle.ojp_gateway.specs.Learning.{IsLearned, Learns, LearnsAs}
use Rattle.ojp_hostile.specs.Ready.{HasCodes, IsReady}

same_regions : (book : Book) (old new : View) → new.fixed ≡ old.fixed → HasRegions book old → HasRegions book new
same_regions book old new e h = subst (λ (f : Fixed). (code : Text) → Among code book.codes ↔ Among code (codes_of f)) (sym e) h

pub still_ready : (book : Book) (old new : View) → Keeps old new → NoneLive new → HasRegions book old → IsReady book new
still_ready book old new keeps none regions = record { regions = same_regions book old new keeps.fixed regions; none_live = none }

pub learned_ready : (book : Book) (old new : View) (result : Result Book LearnRefused) → result ≡ Ok book → Learns old new result → IsReady book new
learned_ready book old new result is learns =
    let l : IsLearned old book = subst (λ (r : Result Book LearnRefused). LearnsAs old new r) is learns.learns in
    still_ready book old new learns.keeps learns.none_live l.regions

pub renumbered_ready : (book : Book) (old new : MemView) (to : ℕ) → Renumbers old new to → IsReady book (links_of old) → IsReady book (links_of new)
renumbered_ready book old new to by ready = record {
  regions = subst (λ (rs : List Region). (code : Text) → Among code book.codes ↔ Among code (map code_of_station (map station_of rs))) (sym by.regions_same) ready.regions;
  none_live = λ key. ap (λ (asks : Slab Pending). live_in asks key) by.asks_same ∙ ready.none_live key;
}

pub unopened_has : (given : List Timetable) (by : ℕ) (m : MemView) → IsUnopenedOver given by m → HasCodes [] (links_of m)
unopened_has given by m u = record { are = ap (map code_of_station) u.no_stations; idle = u.fresh.none_live }

pub one_more : (old new : View) (codes all : List Text) (code host : Text) (port : ℕ) → HasCodes codes old → Adds old new code host port → all ≡ codes ++ code ∷ [] → HasCodes all new
one_more old new codes all code host port has adds e = record {
  are = ap (map code_of_station) adds.stations ∙ (map-append code_of_station old.fixed.stations _ ∙ (ap (λ (cs : List Text). cs ++ code ∷ []) has.are ∙ sym e));
  idle = none_added old new adds.live has.idle;
}
