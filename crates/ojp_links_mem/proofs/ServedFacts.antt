-- What a server wrote for the bytes of a request, to a sink that was empty, is a response to them.
use Rattle.std.proofs.Common.{◌≡◌, ℕ, List, [], Option, Some, None, IfSome, Result, Ok, Err, IfOk, sym, ◌∙◌, subst}
use Rattle.std.specs.Io.KnownBytes.{Appends}
use Rattle.ojp_grammar.specs.Answering.{AnswersBody}
use Rattle.ojp_http.specs.declared.served.Served.TheVariants.{Answered}
use Rattle.ojp_http.specs.Connections.{Serves, Wire, WritesFor}
use Rattle.ojp_http.specs.Serving.{ServedAs}
use Rattle.ojp_timetable.specs.Tables.{Timetable}
use Rattle.ojp_timetable.specs.Answers.{RegionAnswers}
use Rattle.std.proofs.lemmas.Option.{none-some, same_Some}
use Rattle.ojp_links.specs.Replies.{ServesByTable}
use Rattle.ojp_links_mem.specs.Scripts.{stated}
use Rattle.ojp_links_mem.specs.Pending.{IsReplyBy}
use Rattle.ojp_links_mem.specs.declared.script.What.{What}
use Rattle.ojp_links_mem.specs.declared.script.What.TheVariants.{FailAsk, FailMore, Reply}

pub served_reply : (table : Timetable) (old new : Wire) (status : ℕ) (request written : List ℕ) → old.input.left ≡ Some request → old.output.written ≡ Some [] → new.output.written ≡ Some written
    → Serves (AnswersBody (RegionAnswers table)) old new (Answered status) → ServesByTable table request written
served_reply table old new status request written left empty is h =
    let Answers : List ℕ → ℕ → List ℕ → Type 0 = AnswersBody (RegionAnswers table) in
    let writes : WritesFor Answers old new status request = subst (λ (o : Option (List ℕ)). IfSome o (WritesFor Answers old new status)) left h.0 in
    let begun : Appends (Some []) new.output.written writes.0 = subst (λ (o : Option (List ℕ)). Appends o new.output.written writes.0) empty writes.2 in
    let ended : written ≡ writes.0 = subst (λ (o : Option (List ℕ)). Appends (Some []) o writes.0) is begun in
    (status, subst (λ (out : List ℕ). ServedAs Answers request status out) (sym ended) writes.1)

-- what holds of a value holds of what follows from it
pub if_ok_map : {T E : Type 0} (r : Result T E) (P Q : T → Type 0) → ((x : T) → P x → Q x) → IfOk r P → IfOk r Q
if_ok_map (Ok x) P Q f h = f x h
if_ok_map (Err e) P Q f h = tt

-- ---- the whole reply of an ask

-- a reply that is stated
pub reply_stated : (said : Option What) (table : Timetable) (request bytes out : List ℕ) → stated said ≡ Some bytes → out ≡ bytes → IsReplyBy said table request out
reply_stated (Some (Reply b)) table request bytes out e f = f ∙ sym (same_Some b.items bytes e)
reply_stated (Some FailAsk) table request bytes out e f = absurd (none-some bytes e)
reply_stated (Some FailMore) table request bytes out e f = absurd (none-some bytes e)
reply_stated None table request bytes out e f = absurd (none-some bytes e)

-- and one that is not
pub reply_served : (said : Option What) (table : Timetable) (request out : List ℕ) → stated said ≡ None → ServesByTable table request out → IsReplyBy said table request out
reply_served (Some (Reply b)) table request out e h = absurd (none-some b.items (sym e))
reply_served (Some FailAsk) table request out e h = h
reply_served (Some FailMore) table request out e h = h
reply_served None table request out e h = h
