use Rattle.std.proofs.Common.{◌≡◌, ℕ, ◌++◌, OnOk, sym, ◌∙◌, ap, subst}
use Rattle.ojp_values.specs.Texts.{Text}
use Rattle.ojp_lines.specs.Lines.{call_text}
use Rattle.ojp_network.specs.Regions.{shared_stop}
use Rattle.ojp_network.proofs.StopFacts.{higher_at, lower_at, own_at}
use Rattle.ojp_network.proofs.journeys.put_call_at.Goals as goal

pub returns-then-stop-lt30 : goal.returns-then-stop-lt30
returns-then-stop-lt30 c =
    subst (λ (t : Text). OnOk c.put_call.result (c.put_call.new.out.items ≡ c.args.out.now.items ++ call_text t c.args.arrives c.args.departs))
    (c.own_stop.ensures ∙ sym (own_at c.args.region c.args.stop c.if-stop-lt30.true)) c.put_call.ensures

pub returns-then-stop-eq30 : goal.returns-then-stop-eq30
returns-then-stop-eq30 c =
    subst (λ (t : Text). OnOk c.put_call-then-stop-eq30.result (c.put_call-then-stop-eq30.new.out.items ≡ c.args.out.now.items ++ call_text t c.args.arrives c.args.departs))
    (c.shared_stop.ensures ∙ (ap (λ (p : ℕ). shared_stop p) c.lower_point.ensures ∙ sym (lower_at c.args.region c.args.stop c.if-stop-eq30.true))) c.put_call-then-stop-eq30.ensures

pub returns-else-stop-eq30 : goal.returns-else-stop-eq30
returns-else-stop-eq30 c =
    subst (λ (t : Text). OnOk c.put_call-else-stop-eq30.result (c.put_call-else-stop-eq30.new.out.items ≡ c.args.out.now.items ++ call_text t c.args.arrives c.args.departs))
    (c.shared_stop-else-stop-eq30.ensures
    ∙ (ap (λ (p : ℕ). shared_stop p) c.higher_point.ensures ∙ sym (higher_at c.args.region c.args.stop c.if-stop-lt30.false c.if-stop-eq30.false))) c.put_call-else-stop-eq30.ensures
