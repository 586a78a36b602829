use Rattle.std.proofs.Common.{◌≤◌, take}
use Rattle.std.specs.Prelude.{codes}
use Rattle.ojp_http.specs.Tallies.{IsTally}
use Rattle.ojp_http.proofs.fields.fields_of.Given as goal

abbrev pub invariant-loop-header : goal.invariant-loop-header
invariant-loop-header l = record {
  hosts : IsTally (codes "host") l.bytes (take l.header-index l.headers) l.fields.hosts;
  lengths : IsTally (codes "content-length") l.bytes (take l.header-index l.headers) l.fields.lengths;
  codings : IsTally (codes "transfer-encoding") l.bytes (take l.header-index l.headers) l.fields.codings;
  hosts_few : l.fields.hosts.count ≤ l.header-index;
  lengths_few : l.fields.lengths.count ≤ l.header-index;
  codings_few : l.fields.codings.count ≤ l.header-index;
}
