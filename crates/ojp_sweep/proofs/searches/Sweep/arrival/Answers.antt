use Rattle.std.proofs.Common.{◌≡◌, ◌<◌, ◌≤◌, ◌∙◌, length, slice_index, sym, subst, arith, ap}
use Rattle.std.specs.Prelude.{MatchOption}
use Rattle.ojp_sweep.specs.declared.connections.Asked.{Asked}
use Rattle.ojp_sweep.specs.Rounds.{NeverArrivesBy, ArrivesFirstBy}
use Rattle.ojp_sweep.specs.Searches.{NeverArrives, ArrivesFirst}
use Rattle.ojp_sweep.proofs.ChainFacts.{leads-within}
use Rattle.ojp_sweep.proofs.SearchFacts.{never, first}
use Rattle.ojp_sweep.proofs.searches.Sweep.arrival.Goals as goal

pub returns-in_err-arrives-clause-whole : goal.returns-in_err-arrives-clause-whole
returns-in_err-arrives-clause-whole c days asked found =
    let s = c.args.self.now in
    let past = c.in_err-arrives.ensures.lookup.3 in
    let late : length s.net.changes.items ≤ c.args.place = omega (arith, past, found.room.arrives, ap length c.deref.ensures.value) in
    subst (λ r. MatchOption r (NeverArrives s.net days asked c.args.place) (λ a. ArrivesFirst s.net days asked c.args.place a)) (sym c.from_residual.ensures)
    (λ a h. let within = leads-within s.net days asked found.search.well h.1.0 c.args.place a h.1.1 in absurd (omega arith))

pub returns-in_err-arrives-clause-round : goal.returns-in_err-arrives-clause-round
returns-in_err-arrives-clause-round c days asked count found =
    let s = c.args.self.now in
    let past = c.in_err-arrives.ensures.lookup.3 in
    let late : length s.net.changes.items ≤ c.args.place = omega (arith, past, found.rounds.room.arrives, ap length c.deref.ensures.value) in
    subst (λ r. MatchOption r (NeverArrivesBy s.net days asked count c.args.place) (λ a. ArrivesFirstBy s.net days asked count c.args.place a)) (sym c.from_residual.ensures)
    (λ a by. let within = leads-within s.net days asked found.rounds.search.well by.rides c.args.place a by.leads in absurd (omega arith))

pub returns-then-saturating_sub-gt-DAY_LONG-clause-whole : goal.returns-then-saturating_sub-gt-DAY_LONG-clause-whole
returns-then-saturating_sub-gt-DAY_LONG-clause-whole c days asked found =
    let s = c.args.self.now in
    let read : c.in_ok-arrives.field-0.now ≡ slice_index s.progress.labels.arrives.items c.args.place = c.in_ok-arrives.ensures.lookup.3.1 0 ∙ ap (λ xs. slice_index xs c.args.place) c.deref.ensures.value in
    never s days asked found c.args.place (omega (arith, read, found.start))

pub returns-clause-whole : goal.returns-clause-whole
returns-clause-whole c days asked found =
    let s = c.args.self.now in
    let read : c.in_ok-arrives.field-0.now ≡ slice_index s.progress.labels.arrives.items c.args.place = c.in_ok-arrives.ensures.lookup.3.1 0 ∙ ap (λ xs. slice_index xs c.args.place) c.deref.ensures.value in
    let within : c.args.place < length s.net.changes.items = omega (arith, c.in_ok-arrives.ensures.lookup.3.0, found.room.arrives, ap length c.deref.ensures.value) in
    subst (λ a. ArrivesFirst s.net days asked c.args.place a) (sym read) (first s days asked found c.args.place within (omega (arith, read, found.start)))

pub returns-then-saturating_sub-gt-DAY_LONG-clause-round : goal.returns-then-saturating_sub-gt-DAY_LONG-clause-round
returns-then-saturating_sub-gt-DAY_LONG-clause-round c days asked count found a by =
    let s = c.args.self.now in
    let read : c.in_ok-arrives.field-0.now ≡ slice_index s.progress.labels.arrives.items c.args.place = c.in_ok-arrives.ensures.lookup.3.1 0 ∙ ap (λ xs. slice_index xs c.args.place) c.deref.ensures.value in
    let low = found.low c.args.place a by in
    let within = by.within in
    let start = ap (λ (x : Asked). x.start) found.asked_is in
    omega (arith, read)

pub returns-clause-round : goal.returns-clause-round
returns-clause-round c days asked count found =
    let s = c.args.self.now in
    let read : c.in_ok-arrives.field-0.now ≡ slice_index s.progress.labels.arrives.items c.args.place = c.in_ok-arrives.ensures.lookup.3.1 0 ∙ ap (λ xs. slice_index xs c.args.place) c.deref.ensures.value in
    let start = ap (λ (x : Asked). x.start) found.asked_is in
    let within : c.args.place < length s.net.changes.items = omega (arith, c.in_ok-arrives.ensures.lookup.3.0, found.rounds.room.arrives, ap length c.deref.ensures.value) in
    subst (λ a. ArrivesFirstBy s.net days asked count c.args.place a) (sym read) (found.arrives c.args.place within (omega (arith, read, start)), found.low c.args.place)
