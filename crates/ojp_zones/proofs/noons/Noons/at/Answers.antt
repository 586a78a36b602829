use Rattle.std.proofs.Common.{◌-◌, List, sym, subst, ap, ◌∙◌}
use Rattle.std.specs.Prelude.{None, slice_index, slice_index_or}
use Rattle.ojp_values.specs.declared.moments.TheConstants.{FIRST_DAY}
use Rattle.ojp_zones.specs.Noons.{AreAllYears}
use Rattle.ojp_zones.specs.declared.year.Year.{Year}
use Rattle.ojp_zones.proofs.NoonFacts.{noon_found}
use Rattle.ojp_zones.proofs.noons.Noons.at.Goals as goal

pub bounds-years-year_with : goal.bounds-years-year_with
bounds-years-year_with c =
    let all = subst (λ (ys : List Year). AreAllYears c.self.inside.zone ys) (sym c.as_slice-years.ensures.value) c.self.invariant in
    (c.year_with.ensures c.self.inside.zone all).inside

pub noon_in-requires-clause-year : goal.noon_in-requires-clause-year
noon_in-requires-clause-year c =
    let all = subst (λ (ys : List Year). AreAllYears c.self.inside.zone ys) (sym c.as_slice-years.ensures.value) c.self.invariant in
    (c.year_with.ensures c.self.inside.zone all).is _

pub returns : goal.returns
returns c =
    let zone = c.self.inside.zone in
    let all = subst (λ (ys : List Year). AreAllYears zone ys) (sym c.as_slice-years.ensures.value) c.self.invariant in
    let it = c.year_with.ensures zone all in
    let d : Year = record { number = 0; next = 0; season = None } in
    noon_found zone c.args.day c.noon_in.result (slice_index_or c.as_slice-years.result.now c.year_with.result d) c.self.invariant.zone_in_range c.requires.from c.requires.to (it.begun d) (it.unended d) c.noon_in.ensures
    ∙ ap (λ noons. slice_index noons (c.args.day - FIRST_DAY)) c.self.view_is
