-- How a connection was served, by what was read and what was written.
use Rattle.std.proofs.Common.{◌≡◌, ◌≢◌, ℕ, List, Option, Some, None, IfSome, Ok, Err, refl, sym, subst, inl, inr}
use Rattle.ojp_http.specs.declared.refusal.HttpRefusal.{HttpRefusal}
use Rattle.ojp_http.specs.declared.refusal.HttpRefusal.TheVariants as refusals
use Rattle.ojp_http.specs.declared.served.Served.{Served}
use Rattle.ojp_http.specs.declared.served.Served.TheVariants.{Answered, ReadFault, WriteFault, NoMemory}
use Rattle.ojp_http.specs.Asking.{Allows}
use Rattle.ojp_http.specs.Serving.{ServedAs, response, refusal_response, refusal_status}
use Rattle.ojp_http.specs.Connections.{Wire, WritesFor, WritesPrefixFor, Serves, WritesAs, WritesNoMemory}

module _ (Answers : List ℕ → ℕ → List ℕ → Type 0) (old new : Wire) (calm : new.input.faults ≡ old.input.faults) where
  -- a response that serves whatever bytes are told was written, or a prefix of it
  by_response : (status : ℕ) (out : List ℕ) → ((bytes : List ℕ) → old.input.left ≡ Some bytes → ServedAs Answers bytes status out)
      → (served : Served) → WritesAs status out old.output new.output served → Serves Answers old new served
  by_response status out serves (Answered given) w =
      (told old.input.left refl, record { reads = calm; writes = w.2 })
    where
      told : (left : Option (List ℕ)) → old.input.left ≡ left → IfSome left (WritesFor Answers old new given)
      told None e = tt
      told (Some bytes) e = (out, subst (λ (s : ℕ). ServedAs Answers bytes s out) (sym w.0) (serves bytes e), w.1)
  by_response status out serves WriteFault w =
      (told old.input.left refl, record { reads = calm; writes = w.1 })
    where
      told : (left : Option (List ℕ)) → old.input.left ≡ left → IfSome left (WritesPrefixFor Answers old new)
      told None e = tt
      told (Some bytes) e = (status, out, serves bytes e, w.0)
  by_response status out serves ReadFault w = absurd w
  by_response status out serves NoMemory w = absurd w

  -- the request was refused
  pub serves_refusal : (refusal : HttpRefusal) → Allows old.input.left (Err refusal) → refusal ≢ refusals.ReadFault → refusal ≢ refusals.NoMemory
      → (served : Served) → WritesAs (refusal_status refusal) (refusal_response refusal) old.output new.output served → Serves Answers old new served
  serves_refusal refusal allowed read memory =
      by_response (refusal_status refusal) (refusal_response refusal)
      (λ bytes e. record {
        outcome = Err refusal;
        allowed = subst (λ (left : Option (List ℕ)). Allows left (Err refusal)) e allowed (λ q. read (cc)) (λ q. memory (cc));
        responds = (refl, refl);
      })

  -- the request has a body, which is answered
  pub serves_body : (body text : List ℕ) (status : ℕ) → Allows old.input.left (Ok body) → Answers body status text
      → (served : Served) → WritesAs status (response status text) old.output new.output served → Serves Answers old new served
  serves_body body text status allowed answers =
      by_response status (response status text)
      (λ bytes e. record {
        outcome = Ok body;
        allowed = subst (λ (left : Option (List ℕ)). Allows left (Ok body)) e allowed (λ q. cc) (λ q. cc);
        responds = (text, answers, refl);
      })

  -- there is no memory
  pub serves_none : WritesNoMemory old.output new.output → Serves Answers old new NoMemory
  serves_none (inl w) = inl (w.0, record { reads = calm; writes = w.1 })
  serves_none (inr w) = inr (w.0, record { reads = calm; writes = w.1 })
