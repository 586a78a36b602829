use Rattle.std.proofs.Common.{◌≡◌, ◌+◌, ◌∙◌, ap, arith}
use Rattle.std.proofs.lemmas.Option.{slice_get_within}
use Rattle.ojp_sweep.specs.declared.labels.Hop.{Hop as LastHop}
use Rattle.ojp_sweep.proofs.ChainFacts.{leads-within}
use Rattle.ojp_scan.proofs.ScanFacts.{day-in, read-ends, read-leg}
use Rattle.ojp_scan.proofs.scans.Scan.last_leg.Goals as goal

pub hop-hop-requires-clause-place : goal.hop-hop-requires-clause-place
hop-hop-requires-clause-place c =
    let s = c.args.self.now in
    let first = c.requires.arrived.1 in
    leads-within s.sweep.net s.days s.asked c.requires.started.scan_of.found.search.well first.0.1.0 c.args.place c.requires.arrived.0 first.0.1.1

pub connection-first-requires : goal.connection-first-requires
connection-first-requires c =
    let s = c.args.self.now in
    let last = c.hop-hop.ensures s.days s.asked c.requires.arrived.0 c.requires.started.scan_of.found c.requires.arrived.1.0 in
    let e = ap (λ (h : LastHop). h.board) last.hop_is in
    let within = slice_get_within s.sweep.net.sorted.items last.ride.board last.is_ride.first last.is_ride.first_at in
    omega arith

pub connection-last-requires : goal.connection-last-requires
connection-last-requires c =
    let s = c.args.self.now in
    let last = c.hop-hop.ensures s.days s.asked c.requires.arrived.0 c.requires.started.scan_of.found c.requires.arrived.1.0 in
    let e = ap (λ (h : LastHop). h.alight) last.hop_is in
    let within = slice_get_within s.sweep.net.sorted.items last.ride.alight last.is_ride.last last.is_ride.last_at in
    omega arith

pub day_of-day-requires-clause-low : goal.day_of-day-requires-clause-low
day_of-day-requires-clause-low c =
    let s = c.args.self.now in
    let st = c.requires.started in
    let last = c.hop-hop.ensures s.days s.asked c.requires.arrived.0 st.scan_of.found c.requires.arrived.1.0 in
    let total : s.first + c.from.result ≡ s.first + c.hop-hop.result.day = omega arith in
    (day-in s c.args.table.now st.origin st.start st.scan_of c.args.place c.hop-hop.result last (s.first + c.from.result) total).0

pub day_of-day-requires-clause-high : goal.day_of-day-requires-clause-high
day_of-day-requires-clause-high c =
    let s = c.args.self.now in
    let st = c.requires.started in
    let last = c.hop-hop.ensures s.days s.asked c.requires.arrived.0 st.scan_of.found c.requires.arrived.1.0 in
    let total : s.first + c.from.result ≡ s.first + c.hop-hop.result.day = omega arith in
    (day-in s c.args.table.now st.origin st.start st.scan_of c.args.place c.hop-hop.result last (s.first + c.from.result) total).1

pub leg_of-requires-clause-ends : goal.leg_of-requires-clause-ends
leg_of-requires-clause-ends c =
    let s = c.args.self.now in
    let st = c.requires.started in
    let last = c.hop-hop.ensures s.days s.asked c.requires.arrived.0 st.scan_of.found c.requires.arrived.1.0 in
    read-ends s c.args.table.now st.origin st.start st.scan_of c.args.place c.hop-hop.result last c.connection-first.result c.connection-last.result c.connection-first.ensures c.connection-last.ensures

pub returns : goal.returns
returns c =
    let s = c.args.self.now in
    let st = c.requires.started in
    let last = c.hop-hop.ensures s.days s.asked c.requires.arrived.0 st.scan_of.found c.requires.arrived.1.0 in
    let total : s.first + c.from.result ≡ s.first + c.hop-hop.result.day = omega arith in
    read-leg s c.args.table.now st.origin st.start st.scan_of c.args.place c.hop-hop.result last c.connection-first.result c.connection-last.result c.connection-first.ensures c.connection-last.ensures
    c.day_of-day.result (c.day_of-day.ensures ∙ total) c.leg_of.result c.leg_of.ensures
