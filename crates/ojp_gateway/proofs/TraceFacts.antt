-- A trace from turn to turn.
use Rattle.std.proofs.Common.{◌≡◌, [], ◌++◌, refl, ◌∙◌, ap}
use Rattle.ojp_exchange.specs.Book.{Book}
use Rattle.ojp_traces.specs.Lines.{Gains, TraceView, event_lines, with_text}
use Rattle.ojp_turns.specs.declared.search.Search.{Search}
use Rattle.ojp_turns.specs.declared.search.Turn.{Turn}
use Rattle.ojp_turns.specs.Tracing.{Traces, turns_of}
use Rattle.ojp_turns.proofs.TraceFacts.{text_none, text_on}

pub gains_none : (t : TraceView) → Gains t t
gains_none t = record { text = []; is = text_none t; stays_off = λ off. refl }

pub gains_on : (a b c : TraceView) → Gains a b → Gains b c → Gains a c
gains_on a b c x y =
    record {
      text = x.text ++ y.text;
      is = y.is ∙ (ap (λ (t : TraceView). with_text t y.text) x.is ∙ text_on a x.text y.text);
      stays_off = λ off. (let same : b ≡ a = x.stays_off off in y.stays_off (ap (λ (t : TraceView). t.on) same ∙ off) ∙ same);
    }

pub turn_gains : (book : Book) (s now : Search) (old new : TraceView) (answer : Turn) → Traces book s now old new answer → Gains old new
turn_gains book s now old new answer it = record { text = event_lines (turns_of now) it.grew.0; is = it.grew.1; stays_off = it.stays_off }
