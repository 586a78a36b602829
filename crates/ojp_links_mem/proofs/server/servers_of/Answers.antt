use Rattle.std.proofs.Common.{List, [], ◌∷◌, ◌++◌, ap, subst, sym, ◌∙◌}
use Rattle.ojp_values.specs.Lists.{Each}
use Rattle.ojp_timetable.specs.Tables.{Timetable}
use Rattle.ojp_timetable.specs.Runs.{IsWell}
use Rattle.ojp_timetable.proofs.AmongFacts.{each_push}
use Rattle.ojp_exchange.proofs.TableFacts.{pushed_one}
use Rattle.ojp_links_mem.proofs.server.servers_of.Goals as goal

pub tables-preserved : goal.tables-preserved
tables-preserved c =
    let server = c.in_ok-server.server in
    let e = c.in_ok-server.ensures.table in
    let pushed = pushed_one c.tables.servers.items c.push.new.self.items server _ _ c.push.ensures.items c.is_err.ensures.negation c.if-is_err.false in (
      pushed ∙ (ap (λ (ts : List Timetable). ts ++ server ∷ []) c.tables.invariant.0 ∙ ap (λ (t : Timetable). c.tables.yielded ++ t ∷ []) e),
      subst (λ (ts : List Timetable). Each IsWell ts) (sym pushed) (each_push IsWell c.tables.servers.items server c.tables.invariant.1 (subst (λ (t : Timetable). IsWell t) (sym e) c.in_ok-server.ensures.well)),
    )
