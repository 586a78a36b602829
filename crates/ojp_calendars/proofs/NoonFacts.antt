-- Texts whose zones have the noons of a table.
use Rattle.std.proofs.Common.{◌≡◌, ℕ, ◌-◌, ◌≤◌, List, length, sym, ◌∙◌, subst, arith}
use Rattle.std.specs.Prelude.{Some, slice_index}
use Rattle.std.proofs.lemmas.Option.{same_Some}
use Rattle.jiff_tz.specs.declared.tzif.Tzif.{Tzif}
use Rattle.ojp_values.specs.Dates.{operating_days}
use Rattle.ojp_values.specs.declared.moments.TheConstants.{FIRST_DAY, LAST_DAY}
use Rattle.ojp_zones.specs.Noons.{AreNoons, IsNoon}
use Rattle.ojp_zones.specs.Parts.{Text}
use Rattle.ojp_zones.specs.Zones.{zone_of}
use Rattle.ojp_zones.specs.declared.zone.Zone.{Zone}
use Rattle.ojp_zones.proofs.NoonFacts.{one_noon}
use Rattle.ojp_calendars.specs.Noons.{Fits, HaveNoons, ShowsNoon}

module _ (table : Tzif) (first last : ℕ) (text : Text) (zone : Zone) (noons : List ℕ) (from : FIRST_DAY ≤ first) (to : last ≤ LAST_DAY) (named : zone_of text ≡ Some zone) (are : AreNoons zone noons) (all : length noons ≡ operating_days) where
  is_noon : (day : ℕ) → first ≤ day → day ≤ last → IsNoon zone day (slice_index noons (day - FIRST_DAY))
  is_noon day low high = are.noon day (omega (arith, from, low)) (omega (arith, to, high, all))

  pub fits_from : HaveNoons table first last noons → Fits table first last text
  fits_from have = record {
    zone = zone;
    named = named;
    noon = λ day moment low high is. subst (λ (m : ℕ). ShowsNoon table day m) (one_noon zone day _ moment (is_noon day low high) is) (have day low high);
  }

  pub noons_from : Fits table first last text → HaveNoons table first last noons
  noons_from fits = λ day low high.
      let same : zone ≡ fits.zone = same_Some _ _ (sym named ∙ fits.named) in
      fits.noon day (slice_index noons (day - FIRST_DAY)) low high (subst (λ (z : Zone). IsNoon z day (slice_index noons (day - FIRST_DAY))) same (is_noon day low high))
