-- A document of an ask is within the limits.
use Rattle.std.proofs.Common.{arith}
use Rattle.std.proofs.lemmas.List.{length-map}
use Rattle.ojp_values.specs.Limits.{IsWellAsk}
use Rattle.ojp_values.specs.declared.asks.Ask.{Ask}
use Rattle.ojp_values.specs.declared.asks.Ask.TheVariants as asks
use Rattle.ojp_values.specs.declared.documents.Doc.TheVariants as docs
use Rattle.ojp_grammar.specs.Documents.{IsWell, to_said}

pub well_ask : (ask : Ask) → IsWell (docs.Ask ask) → IsWellAsk ask
unfolding IsWell
well_ask (asks.Trip ask) fits = tt
well_ask (asks.Multi ask) fits =
    let low = fits.1.0.1.0.1.0.1.1.0 in
    let high = fits.1.0.1.0.1.0.1.1.1 in
    (omega (arith, low, length-map ask.targets to_said), omega (arith, high, length-map ask.targets to_said))
well_ask (asks.Events ask) fits = let number = fits.1.0.1.0.1.0.1.0.1.1.0.0.1 in (number.0, number.1)
well_ask (asks.Points ask) fits = tt
