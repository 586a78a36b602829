use Rattle.std.proofs.Common.{◌≡◌, Ok, Some, None, Err, sym, ◌∙◌, arith}
use Rattle.httparse.specs.Grammar.{ReadsRequest, RequestHead}
use Rattle.ojp_http.specs.declared.refusal.Refusal.TheVariants.{Head, TooLargeHead}
use Rattle.ojp_http.specs.Fields.{ask_frame, ask_by}
use Rattle.ojp_http.specs.Outcomes.{decided_by}
use Rattle.std.proofs.lemmas.Bool.{not-true}
use Rattle.ojp_http.proofs.Headed.{unparsed, decides_found, decides_none, found_by}
use Rattle.ojp_http.proofs.Grammars.{requests, few_fields}
use Rattle.ojp_http.proofs.head.request_frame.Goals as goal

pub returns-then-not-count : goal.returns-then-not-count
returns-then-not-count c =
    unparsed ReadsRequest (λ (h : RequestHead). h.fields) 66 Head TooLargeHead ask_frame requests c.args.bytes.now c.args.count c.requires.grown c.requires.counted (not-true c.args.count.has_empty c.if-not-count.true)
    (sym c.is_full-is_full.ensures ∙ c.if-not-is_full.true)

pub returns-in-Ok-Some : goal.returns-in-Ok-Some
returns-in-Ok-Some c =
    let is : decided_by c.parse_request-parsed.result c.is_full-is_full.result Head TooLargeHead ≡ Ok (Some c.in-Ok-Some.head) = cc in
    let parsed = found_by c.parse_request-parsed.result c.is_full-is_full.result Head TooLargeHead c.in-Ok-Some.head is in
    let found = rw parsed at c.parse_request-parsed.ensures.complete in
    let within = rw parsed at c.parse_request-parsed.ensures.within in
    let at = found.1 in
    decides_found ReadsRequest (λ (h : RequestHead). h.fields) 66 Head TooLargeHead ask_frame 1 requests c.args.bytes.now c.requires.grown
    found.0 _ c.ask_frame.result at.reads
    (few_fields c.args.bytes.now c.parse_request-parsed.new.headers c.in-Ok-Some.head.headers found.0.fields at.fields (omega (arith, within.section.count_fits, c.parse_request-parsed.auto.headers)))
    (c.ask_frame.ensures ∙ (λ i. ask_by ((c.of.ensures ∙ at.method) i) ((c.of-in-Ok-Some.ensures ∙ at.path) i) (at.version i) (at.fields i)))

pub returns-in-Ok-None : goal.returns-in-Ok-None
returns-in-Ok-None c =
    decides_none ReadsRequest (λ (h : RequestHead). h.fields) 66 Head TooLargeHead ask_frame 1 requests (omega arith) c.args.bytes.now c.args.count c.requires.grown c.requires.counted c.is_full-is_full.result c.is_full-is_full.ensures
    c.parse_request-parsed.result c.parse_request-parsed.ensures.partial c.parse_request-parsed.ensures.invalid c.parse_request-parsed.ensures.too_many (λ e. rw e at c.parse_request-parsed.ensures.no_room)
    (Ok None) (cc)

pub returns-in-Err : goal.returns-in-Err
returns-in-Err c =
    decides_none ReadsRequest (λ (h : RequestHead). h.fields) 66 Head TooLargeHead ask_frame 1 requests (omega arith) c.args.bytes.now c.args.count c.requires.grown c.requires.counted c.is_full-is_full.result c.is_full-is_full.ensures
    c.parse_request-parsed.result c.parse_request-parsed.ensures.partial c.parse_request-parsed.ensures.invalid c.parse_request-parsed.ensures.too_many (λ e. rw e at c.parse_request-parsed.ensures.no_room)
    (Err c.in-Err.refusal) (cc)
