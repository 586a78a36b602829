use Rattle.std.proofs.Common.{◌<◌, ◌≤◌, length, sym, subst, arith}
use Rattle.ojp_sweep.specs.Rows.{AreRows}
use Rattle.ojp_values.proofs.EachFacts.{among_at, read_at}
use Rattle.ojp_scan.proofs.RowFacts.{rows-are}
use Rattle.ojp_scan.proofs.RankFacts.{put-all}
use Rattle.ojp_scan.proofs.networks.network_of.Goals as goal

pub new-requires-clause-changes : goal.new-requires-clause-changes
new-requires-clause-changes c k h =
    let table = c.args.table.now in
    let changes = c.in_ok-changes.ensures in
    let within : k < length table.places = omega (arith, changes.length_is) in
    let place = read_at table.places k within in
    let low = (c.requires.changes place.0 (among_at table.places k place.0 place.1)).0 in
    subst (λ n. 1 ≤ n) (sym (changes.is k place.0 within place.1)) low

pub returns-in-Ok : goal.returns-in-Ok
returns-in-Ok c =
    let table = c.args.table.now in
    let put = c.in_ok-ranks.ensures in
    let services = c.in_ok-services.ensures in
    let changes = c.in_ok-changes.ensures in
    let rows =
    subst (λ n. AreRows put.rows n (length c.in_ok-services.services.items)) (sym changes.length_is)
    (subst (λ n. AreRows put.rows (length table.places) n) (sym services.length_is)
    (rows-are table c.requires put.rows put.rows_are)) in
    record {
      rows = put.rows;
      services = c.in_ok-services.services.items;
      changes = c.in_ok-changes.changes.items;
      rows_are = put.rows_are;
      services_are = services;
      changes_are = changes;
      is = c.in-Ok.ensures put.rows (put-all table c.in_ok-ranks.ranks put) rows;
    }
