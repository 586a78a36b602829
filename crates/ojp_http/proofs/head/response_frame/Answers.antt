use Rattle.std.proofs.Common.{◌≡◌, Ok, Some, None, Err, sym, ◌∙◌, arith}
use Rattle.httparse.specs.Grammar.{ReadsResponse, ResponseHead}
use Rattle.ojp_http.specs.declared.refusal.Refusal.TheVariants.{Head, TooLargeHead}
use Rattle.ojp_http.specs.Fields.{reply_frame, reply_by}
use Rattle.ojp_http.specs.Outcomes.{decided_by}
use Rattle.std.proofs.lemmas.Bool.{not-true}
use Rattle.ojp_http.proofs.Headed.{unparsed, decides_found, decides_none, found_by}
use Rattle.ojp_http.proofs.Grammars.{responses, few_fields}
use Rattle.ojp_http.proofs.head.response_frame.Goals as goal

pub returns-then-not-count : goal.returns-then-not-count
returns-then-not-count c =
    unparsed ReadsResponse (λ (h : ResponseHead). h.fields) 66 Head TooLargeHead reply_frame responses c.args.bytes.now c.args.count c.requires.grown c.requires.counted (not-true c.args.count.has_empty c.if-not-count.true)
    (sym c.is_full-is_full.ensures ∙ c.if-not-is_full.true)

pub returns-in-Ok-Some : goal.returns-in-Ok-Some
returns-in-Ok-Some c =
    let is : decided_by c.parse_response-parsed.result c.is_full-is_full.result Head TooLargeHead ≡ Ok (Some c.in-Ok-Some.head) = cc in
    let parsed = found_by c.parse_response-parsed.result c.is_full-is_full.result Head TooLargeHead c.in-Ok-Some.head is in
    let found = rw parsed at c.parse_response-parsed.ensures.complete in
    let within = rw parsed at c.parse_response-parsed.ensures.within in
    let at = found.1 in
    decides_found ReadsResponse (λ (h : ResponseHead). h.fields) 66 Head TooLargeHead reply_frame 1 responses c.args.bytes.now c.requires.grown
    found.0 _ c.reply_frame.result at.reads
    (few_fields c.args.bytes.now c.parse_response-parsed.new.headers c.in-Ok-Some.head.headers found.0.fields at.fields (omega (arith, within.section.count_fits, c.parse_response-parsed.auto.headers)))
    (c.reply_frame.ensures ∙ (λ i. reply_by (at.code i) (at.version i) (at.fields i)))

pub returns-in-Ok-None : goal.returns-in-Ok-None
returns-in-Ok-None c =
    decides_none ReadsResponse (λ (h : ResponseHead). h.fields) 66 Head TooLargeHead reply_frame 1 responses (omega arith) c.args.bytes.now c.args.count c.requires.grown c.requires.counted c.is_full-is_full.result c.is_full-is_full.ensures
    c.parse_response-parsed.result c.parse_response-parsed.ensures.partial c.parse_response-parsed.ensures.invalid c.parse_response-parsed.ensures.too_many (λ e. rw e at c.parse_response-parsed.ensures.no_room)
    (Ok None) (cc)

pub returns-in-Err : goal.returns-in-Err
returns-in-Err c =
    decides_none ReadsResponse (λ (h : ResponseHead). h.fields) 66 Head TooLargeHead reply_frame 1 responses (omega arith) c.args.bytes.now c.args.count c.requires.grown c.requires.counted c.is_full-is_full.result c.is_full-is_full.ensures
    c.parse_response-parsed.result c.parse_response-parsed.ensures.partial c.parse_response-parsed.ensures.invalid c.parse_response-parsed.ensures.too_many (λ e. rw e at c.parse_response-parsed.ensures.no_room)
    (Err c.in-Err.refusal) (cc)
