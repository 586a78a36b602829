use Rattle.std.proofs.Common.{ap, subst, ◌∙◌}
use Rattle.std.specs.Fmt.{decimal}
use Rattle.std.specs.Io.KnownBytes.{Appends}
use Rattle.ojp_outside.specs.Known.{AppendsPrefix}
use Rattle.ojp_values.specs.Texts.{Text}
use Rattle.ojp_load.proofs.SummaryFacts.{text_is}
use Rattle.ojp_load.proofs.loading.load.Goals as goal

pub returns-in-Ok-put_parts : goal.returns-in-Ok-put_parts
returns-in-Ok-put_parts g c =
    let s = c.in-Ok.summary in
    let e = text_is c.as_bytes.result.now c.as_bytes-2.result.now c.as_bytes-3.result.now s.trips s.seconds (c.as_bytes.ensures.value ∙ c.format.ensures.text)
    (c.as_bytes-2.ensures.value ∙ (c.format-2.ensures.text ∙ ap decimal c.saturating_sub.ensures)) (c.as_bytes-3.ensures.value ∙ c.format-3.ensures.text) in
    record {
      trips = s.trips;
      seconds = s.seconds;
      summary = c.in-Ok.ensures;
      gained = record {
        gained = subst (λ (t : Text). Appends (g.O.Sink.seen c.args.output.now).written (g.O.Sink.seen c.put_parts.new.sink).written t) e c.in-Ok-put_parts.ensures.ok;
        calm = c.in-Ok-put_parts.ensures.cause.at_rest;
      };
    }

pub returns-in-Err-put_parts : goal.returns-in-Err-put_parts
returns-in-Err-put_parts g c =
    let s = c.in-Ok.summary in
    let e = text_is c.as_bytes.result.now c.as_bytes-2.result.now c.as_bytes-3.result.now s.trips s.seconds (c.as_bytes.ensures.value ∙ c.format.ensures.text)
    (c.as_bytes-2.ensures.value ∙ (c.format-2.ensures.text ∙ ap decimal c.saturating_sub.ensures)) (c.as_bytes-3.ensures.value ∙ c.format-3.ensures.text) in
    record {
      trips = s.trips;
      seconds = s.seconds;
      summary = c.in-Ok.ensures;
      gained = record {
        gained = subst (λ (t : Text). AppendsPrefix (g.O.Sink.seen c.args.output.now).written (g.O.Sink.seen c.put_parts.new.sink).written t) e c.in-Err-put_parts.ensures.err;
        rose = c.in-Err-put_parts.ensures.cause.failed;
      };
    }
