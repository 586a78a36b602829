use Rattle.std.proofs.Common.{sym, ◌∙◌, true≢false}
use Rattle.std.proofs.lemmas.Option.{none-some}
use Rattle.ojp_calendars.proofs.NoonFacts.{fits_from, noons_from}
use Rattle.ojp_calendars.proofs.noons.fits.Goals as goal

pub returns-in-None : goal.returns-in-None
returns-in-None c = (λ e. absurd (true≢false (sym e)), λ fits. absurd (none-some fits.zone (c.in-None.ensures.value ∙ fits.named)))

pub returns-in_ok-noons-in-Some : goal.returns-in_ok-noons-in-Some
returns-in_ok-noons-in-Some c =
    let w = c.args.window.now in
    let named = sym c.in-Some.ensures.value in
    let are = c.in_ok-noons-in-Some.ensures.noons in
    let all = c.in_ok-noons-in-Some.ensures.days in (
      λ e. fits_from w.table.now w.first w.last c.args.text.now c.in-Some.zone c.in_ok-noons-in-Some.noons w.from w.to named are all (c.have_noons.ensures.0 e),
      λ fits. c.have_noons.ensures.1 (noons_from w.table.now w.first w.last c.args.text.now c.in-Some.zone c.in_ok-noons-in-Some.noons w.from w.to named are all fits),
    )
