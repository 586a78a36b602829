use Rattle.std.proofs.Common.{◌≡◌, List, ℕ, ◌++◌, ◌∷◌, ◌+◌, [], ◌∙◌, ap, subst, OnErr, OnOk, length, length-append, arith, refl}
use Rattle.std.specs.Io.KnownBytes.{Appends}
use Rattle.ojp_outside.specs.Known.{AppendsPrefix}
use Rattle.ojp_http.specs.Responses.{response_head}
use Rattle.ojp_http.specs.Serving.{refusal_response, refusal_status, refusal_name}
use Rattle.ojp_http.specs.declared.refusal.HttpRefusal.{HttpRefusal}
use Rattle.ojp_http.proofs.answer.write_refusal.Goals as goal

-- the head and the name as a line are the response
parts : (refusal : HttpRefusal) (head name : List ℕ) (status size : ℕ) → name ≡ refusal_name refusal → status ≡ refusal_status refusal → size ≡ length name + 1 → head ≡ response_head status size
    → head ++ (name ++ 10 ∷ []) ≡ refusal_response refusal
parts refusal head name status size n s z h =
    let whole : size ≡ length (refusal_name refusal ++ 10 ∷ []) = omega (arith, z, ap length n, length-append (refusal_name refusal) (10 ∷ [])) in
    (λ i. (h ∙ (λ j. response_head (s j) (whole j))) i ++ (n i ++ 10 ∷ []))

pub returns-clause-ok : goal.returns-clause-ok
returns-clause-ok g c =
    subst (λ (l : List ℕ). OnOk c.put_parts.result (Appends (g.S.Sink.seen c.args.sink.now).written (g.S.Sink.seen c.put_parts.new.sink).written l))
    (parts c.args.refusal _ _ c.status.result _ (c.as_bytes-name.ensures.value ∙ c.name.ensures) c.status.ensures refl (c.as_slice.ensures.value ∙ c.head_of-head.ensures))
    c.put_parts.ensures.ok

pub returns-clause-err : goal.returns-clause-err
returns-clause-err g c =
    subst (λ (l : List ℕ). OnErr c.put_parts.result (AppendsPrefix (g.S.Sink.seen c.args.sink.now).written (g.S.Sink.seen c.put_parts.new.sink).written l))
    (parts c.args.refusal _ _ c.status.result _ (c.as_bytes-name.ensures.value ∙ c.name.ensures) c.status.ensures refl (c.as_slice.ensures.value ∙ c.head_of-head.ensures))
    c.put_parts.ensures.err
