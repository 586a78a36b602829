use Rattle.std.specs.Prelude.{codes}
use Rattle.ojp_http.proofs.Tallies.{tally_with, tally_few}
use Rattle.ojp_http.proofs.fields.fields_of.Goals as goal

pub loop-header-preserved : goal.loop-header-preserved
loop-header-preserved c =
    let bytes = c.args.bytes.now in
    let all = c.args.headers.now in
    let i = c.loop-header.header-index in
    let below = c.loop-header-test.true in
    let before = c.loop-header.fields in
    let now = c.with_field-fields.result in
    record {
      hosts = tally_with (codes "host") bytes all i _ before.hosts now.hosts below c.requires c.loop-header.invariant.hosts c.with_field-fields.ensures.hosts;
      lengths = tally_with (codes "content-length") bytes all i _ before.lengths now.lengths below c.requires c.loop-header.invariant.lengths c.with_field-fields.ensures.lengths;
      codings = tally_with (codes "transfer-encoding") bytes all i _ before.codings now.codings below c.requires c.loop-header.invariant.codings c.with_field-fields.ensures.codings;
      hosts_few = tally_few (codes "host") bytes _ before.hosts now.hosts i c.with_field-fields.ensures.hosts c.loop-header.invariant.hosts_few;
      lengths_few = tally_few (codes "content-length") bytes _ before.lengths now.lengths i c.with_field-fields.ensures.lengths c.loop-header.invariant.lengths_few;
      codings_few = tally_few (codes "transfer-encoding") bytes _ before.codings now.codings i c.with_field-fields.ensures.codings c.loop-header.invariant.codings_few;
    }
