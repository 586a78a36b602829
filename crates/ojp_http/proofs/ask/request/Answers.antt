use Rattle.std.proofs.Common.{◌≡◌, ◌++◌, ℕ, List, ◌∙◌, subst, IfOk, append-nil}
use Rattle.std.specs.Prelude.{codes}
use Rattle.ojp_http.proofs.ask.request.Goals as goal

pub returns : goal.returns
returns c =
    let d = c.as_bytes.ensures.value ∙ c.format.ensures.text in
    subst (λ (l : List ℕ). IfOk c.joined.result (λ bytes. bytes ≡ l))
    (λ i. codes "POST /ojp HTTP/1.1\r\nHost: " ++ (c.args.host.now ++ (codes "\r\nContent-Type: application/xml\r\nContent-Length: "
    ++ (d i ++ (codes "\r\nConnection: close\r\n\r\n" ++ append-nil c.args.body.now i)))))
    c.joined.ensures
