use Rattle.std.proofs.Common.{◌≡◌, Some, arith, length, refl, slice_get, sym, ◌∙◌}
use Rattle.std.proofs.lemmas.Option.{slice_get_read}
use Rattle.ojp_timetable.proofs.TextFacts.{same_is}
use Rattle.ojp_links_mem.proofs.NumberFacts.{none_among, none_more}
use Rattle.ojp_links_mem.proofs.regions.number_of.Goals as goal

pub servers-preserved : goal.servers-preserved
servers-preserved c =
    let all = c.args.servers.now in
    let server = c.index-servers-number.result in
    let at : slice_get all c.servers.number ≡ Some server = slice_get_read all (length all) c.servers.number server refl c.servers-test.true c.index-servers-number.is in
    none_more all c.args.code.now c.servers.number server c.servers.invariant at (sym c.has_code.ensures ∙ c.if-has_code.false)

pub returns-then-has_code : goal.returns-then-has_code
returns-then-has_code c =
    let all = c.args.servers.now in
    let server = c.index-servers-number.result in
    (server, slice_get_read all (length all) c.servers.number server refl c.servers-test.true c.index-servers-number.is, same_is server.region c.args.code.now (sym c.has_code.ensures ∙ c.if-has_code.true))

pub returns : goal.returns
returns c = none_among c.args.servers.now c.args.code.now c.servers.number (omega (arith, c.servers-test.false)) c.servers.invariant
