use Rattle.std.proofs.Common.{◌≡◌, arith, ap, sym, subst, w16, of_z, to_z}
use Rattle.jiff_core.proofs.SignedLemmas.{back_small}
use Rattle.ojp_values.specs.Dates.{IsDate}
use Rattle.ojp_values.proofs.Calendar.{date_of_is, days_have_dates}
use Rattle.ojp_values.proofs.dates.date_of_day.Goals as goal

-- the year is kept as it was
year : (c : goal.After-unsigned_abs) → to_z w16 (of_z w16 c.from_days_since_min-date.result.year) ≡ c.from_days_since_min-date.result.year
year c =
    let same = date_of_is c.args.number c.requires c.from_days_since_min-date.result c.from_days_since_min-date.ensures in
    back_small w16 c.from_days_since_min-date.result.year
    (omega (arith, ap (λ date. date.year) same, (days_have_dates c.args.number c.requires).0.to))

pub returns-clause-value : goal.returns-clause-value
returns-clause-value c =
    rw (c.unsigned_abs.ensures.value, year c)
    (date_of_is c.args.number c.requires c.from_days_since_min-date.result c.from_days_since_min-date.ensures)

pub returns-clause-date : goal.returns-clause-date
returns-clause-date c =
    rw (c.unsigned_abs.ensures.value, year c)
    (subst IsDate (sym (date_of_is c.args.number c.requires c.from_days_since_min-date.result c.from_days_since_min-date.ensures))
    (days_have_dates c.args.number c.requires).0)
