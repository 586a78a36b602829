use Rattle.std.proofs.Common.{◌≡◌, ◌++◌, ◌∷◌, [], length, refl, sym, ◌∙◌, ap, arith}
use Rattle.std.proofs.lemmas.Option.{same_Some, slice_get_read}
use Rattle.ojp_values.specs.Texts.{Text}
use Rattle.ojp_exchange.specs.Tables.{AreWaysIn, ways_in}
use Rattle.ojp_exchange.proofs.TableFacts.{next_part, pushed_one}
use Rattle.ojp_exchange.proofs.tables.ways_of.Goals as goal

pub regions-preserved : goal.regions-preserved
regions-preserved c =
    let codes = c.args.codes.now in
    let points = c.args.points.now in
    let edge_firsts = c.args.edge_firsts.now in
    let old = c.regions.ways.items in
    let new = c.add_ways.new.ways.items in
    let number = c.regions.code-index in
    let here = slice_get_read codes (length codes) number c.code-item.result refl c.regions-test.true c.code-item.is in
    let count : c.len.result ≡ length new = omega (arith, c.len.ensures, c.add_ways.new.ways.ok.0) in
    let pushed = pushed_one c.regions.firsts.items c.push.new.self.items c.len.result _ _ c.push.ensures.items c.is_err.ensures.negation c.if-is_err.false in
    next_part (AreWaysIn codes points edge_firsts) old new (ways_in points edge_firsts c.code-item.result) c.regions.firsts.items c.push.new.self.items number c.regions.invariant
    (λ (code : Text) at. ap (ways_in points edge_firsts) (same_Some c.code-item.result code (sym here ∙ at))) c.in_ok-add_ways.ensures (pushed ∙ ap (λ n. c.regions.firsts.items ++ n ∷ []) count)
