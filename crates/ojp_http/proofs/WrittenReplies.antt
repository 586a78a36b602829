-- The responses that are written, read as replies.
use Rattle.std.proofs.Common.{◌≡◌, ◌≢◌, ℕ, ◌^◌, ◌<◌, ◌-◌, ◌||◌, Bool, true, false, not, List, [], ◌∷◌, ◌++◌, length, map, refl, sym, ap, ◌∙◌, arith, append_assoc, append-nil, subst, codes, decimal, ◌==◌, nat_le, All, None, if◌then◌else◌, unwrap_or}
use Rattle.std.specs.Str.Parse.{digits_value}
use Rattle.std.proofs.lemmas.List.Elements.{All-nil, All-cons}
use Rattle.std.proofs.lemmas.List.Sums.{AllPass-from_list_all}
use Rattle.httparse.specs.Grammar.{Field, IsField, crlf, is_token_byte, is_value_byte}
use Rattle.httparse.specs.Spans.{name_and_value}
use Rattle.httparse.proofs.OnLiterals.{httparse_on_literals}
use Rattle.http.specs.StatusCode.{code_digits, reason_phrase}
use Rattle.ojp_http.specs.declared.refusal.Refusal.TheVariants as refusals
use Rattle.ojp_http.specs.declared.refusal.Frame.{Frame}
use Rattle.ojp_http.specs.declared.refusal.Frame.TheVariants.{Counted, Refused}
use Rattle.ojp_http.specs.Verdicts.{whole, refused}
use Rattle.ojp_http.specs.Heads.{found}
use Rattle.ojp_http.specs.Bodies.{Replies, Frames, taken}
use Rattle.ojp_http.specs.Fields.{reply_frame, frame_by, frame_of, is_number}
use Rattle.ojp_http.specs.Replying.{BeginsNoReply}
use Rattle.ojp_http.specs.Responses.{head_text, allow_line, type_line, no_memory_response}
use Rattle.ojp_http.specs.Serving.{response}
use Rattle.ojp_http.specs.Laws.{AnswerIsReply, OthersAreRefused}
use Rattle.std.proofs.lemmas.Bool.{le-leb}
use Rattle.ojp_http.proofs.Statuses.{by_status}
use Rattle.ojp_http.proofs.ReplyFacts.{begins_none}
use Rattle.ojp_http.proofs.Written.{IsNumberText, number_text, IsPlain, head_of, written_head}

-- ---- the fields that a status gives

abbrev field : List ℕ → List ℕ → Field
field name value = record { name = name; raw = 32 ∷ value; end = crlf }

abbrev kind_fields : List ℕ → List Field
kind_fields kind = field (codes "Content-Type") kind ∷ []

xml_field : IsField (field (codes "Content-Type") (codes "application/xml"))
unfolding httparse_on_literals
xml_field = record {
  name = (omega arith, AllPass-from_list_all is_token_byte (codes "Content-Type") refl);
  raw = AllPass-from_list_all is_value_byte (codes " application/xml") refl;
}

text_field : IsField (field (codes "Content-Type") (codes "text/plain"))
unfolding httparse_on_literals
text_field = record {
  name = (omega arith, AllPass-from_list_all is_token_byte (codes "Content-Type") refl);
  raw = AllPass-from_list_all is_value_byte (codes " text/plain") refl;
}

allow_field : IsField (field (codes "Allow") (codes "POST"))
unfolding httparse_on_literals
allow_field = record {
  name = (omega arith, AllPass-from_list_all is_token_byte (codes "Allow") refl);
  raw = AllPass-from_list_all is_value_byte (codes " POST") refl;
}

-- the fields of a refusal, but for the one of a wrong method
abbrev plain_fields : List Field
plain_fields = kind_fields (codes "text/plain")

plain_are : All IsField plain_fields
plain_are = All-cons IsField (field (codes "Content-Type") (codes "text/plain")) [] text_field (All-nil IsField)

-- ---- the response of status 200

answer_is_plain : IsPlain (code_digits 200) (codes "OK") [] (codes "Content-Type: application/xml\r\n") (kind_fields (codes "application/xml"))
answer_is_plain = record {
  three = refl;
  digits_are = refl;
  reason_is = refl;
  fields_are = All-cons IsField (field (codes "Content-Type") (codes "application/xml")) [] xml_field (All-nil IsField);
  lines = refl;
  few = omega arith;
  short = omega arith;
  feeds = omega arith;
}

-- by one number, and no coding
counted : (n : ℕ) (text : List ℕ) → n < 2 ^ 64 → is_number text ≡ true → digits_value 10 text ≡ n → frame_by (2 ^ 64 - 1) 1 1 0 text [] ≡ Counted n
counted n text fits number value =
    let within : nat_le (digits_value 10 text) (2 ^ 64 - 1) ≡ true = le-leb (digits_value 10 text) (2 ^ 64 - 1) (omega (arith, value)) in
    ap (λ (b : Bool). if (not b || false) then Refused refusals.Conflict else (if nat_le (digits_value 10 text) (2 ^ 64 - 1) then Counted (digits_value 10 text) else Refused refusals.TooLong)) number
    ∙ ap (λ (b : Bool). if b then Counted (digits_value 10 text) else Refused refusals.TooLong) within
    ∙ ap Counted value

-- the frame of an answer's body
answer_frame : (n : ℕ) (size : List ℕ) → n < 2 ^ 64 → IsNumberText n size
    → reply_frame (head_of (code_digits 200) (codes "OK") (kind_fields (codes "application/xml")) size) ≡ Counted n
answer_frame n size fits x =
    ap (λ (l : List ℕ). frame_by (2 ^ 64 - 1) 1 1 0 l []) x.trimmed ∙ counted n size fits x.number x.value

pub answer_is_reply : AnswerIsReply
answer_is_reply text fits =
    let n = length text in
    let x = number_text n fits in
    found (head_of (code_digits 200) (codes "OK") (kind_fields (codes "application/xml")) (decimal n)) text
    (written_head (code_digits 200) (codes "OK") [] (codes "Content-Type: application/xml\r\n") (kind_fields (codes "application/xml")) n (decimal n) answer_is_plain x text)
    (subst (λ (f : Frame). Frames None f text (whole text [])) (sym (answer_frame n (decimal n) fits x))
    (taken text [] (whole [] []) (sym (append-nil text)) refl refl (ap (λ (l : List ℕ). whole l []) (sym (append-nil text)))))

-- ---- the other statuses

-- a head of another status is refused
head_is_refused : (digits reason allow kind : List ℕ) (front : List Field) → IsPlain digits reason allow kind front → (digits_value 10 digits == 200) ≡ false
    → (n : ℕ) (size : List ℕ) → IsNumberText n size → (text : List ℕ) → BeginsNoReply (head_text digits reason allow kind size ++ text)
head_is_refused digits reason allow kind front p other n size x text =
    let h = head_of digits reason front size in
    let frame : reply_frame h ≡ Refused refusals.Head =
    ap (λ (b : Bool). if b then frame_of (2 ^ 64 - 1) 1 (map name_and_value h.fields) else Refused refusals.Head) other in
    begins_none (head_text digits reason allow kind size ++ text) refusals.Head
    (λ rest. subst (λ (l : List ℕ). Replies l (refused refusals.Head)) (sym (append_assoc (head_text digits reason allow kind size) text rest))
    (found h (text ++ rest) (written_head digits reason allow kind front n size p x (text ++ rest))
    (subst (λ (f : Frame). Frames None f (text ++ rest) (refused refusals.Head)) (sym frame) refl)))

-- what is computed for the status of a refusal
abbrev IsPlainStatus : ℕ → List Field → Type 0
IsPlainStatus status front = IsPlain (code_digits status) (unwrap_or (reason_phrase status) []) (allow_line status) (type_line status) front

is_plain_400 : IsPlainStatus 400 plain_fields
is_plain_400 = record { three = refl; digits_are = refl; reason_is = refl; fields_are = plain_are; lines = refl; few = omega arith; short = omega arith; feeds = omega arith }

is_plain_404 : IsPlainStatus 404 plain_fields
is_plain_404 = record { three = refl; digits_are = refl; reason_is = refl; fields_are = plain_are; lines = refl; few = omega arith; short = omega arith; feeds = omega arith }

is_plain_405 : IsPlainStatus 405 (field (codes "Allow") (codes "POST") ∷ plain_fields)
is_plain_405 = record { three = refl; digits_are = refl; reason_is = refl; fields_are = All-cons IsField (field (codes "Allow") (codes "POST")) plain_fields allow_field plain_are; lines = refl; few = omega arith; short = omega arith; feeds = omega arith }

is_plain_411 : IsPlainStatus 411 plain_fields
is_plain_411 = record { three = refl; digits_are = refl; reason_is = refl; fields_are = plain_are; lines = refl; few = omega arith; short = omega arith; feeds = omega arith }

is_plain_413 : IsPlainStatus 413 plain_fields
is_plain_413 = record { three = refl; digits_are = refl; reason_is = refl; fields_are = plain_are; lines = refl; few = omega arith; short = omega arith; feeds = omega arith }

is_plain_431 : IsPlainStatus 431 plain_fields
is_plain_431 = record { three = refl; digits_are = refl; reason_is = refl; fields_are = plain_are; lines = refl; few = omega arith; short = omega arith; feeds = omega arith }

is_plain_501 : IsPlainStatus 501 plain_fields
is_plain_501 = record { three = refl; digits_are = refl; reason_is = refl; fields_are = plain_are; lines = refl; few = omega arith; short = omega arith; feeds = omega arith }

no_memory_is_plain : IsPlain (codes "503") (codes "Service Unavailable") [] [] []
no_memory_is_plain = record { three = refl; digits_are = refl; reason_is = refl; fields_are = All-nil IsField; lines = refl; few = omega arith; short = omega arith; feeds = omega arith }

nothing : IsNumberText 0 (codes "0")
unfolding httparse_on_literals
nothing = record {
  number = refl;
  value = refl;
  plain = AllPass-from_list_all is_value_byte (codes "0") refl;
  trimmed = refl;
  feeds = refl;
  short = omega arith;
}

pub others_are_refused : OthersAreRefused
others_are_refused status text answered other fits =
    let n = length text in
    let x = number_text n fits in
    by_status (λ (s : ℕ). s ≢ 200 → BeginsNoReply (response s text))
    (λ other. absurd (other refl))
    (λ _. head_is_refused _ _ _ _ _ is_plain_400 refl n (decimal n) x text)
    (λ _. head_is_refused _ _ _ _ _ is_plain_404 refl n (decimal n) x text)
    (λ _. head_is_refused _ _ _ _ _ is_plain_405 refl n (decimal n) x text)
    (λ _. head_is_refused _ _ _ _ _ is_plain_411 refl n (decimal n) x text)
    (λ _. head_is_refused _ _ _ _ _ is_plain_413 refl n (decimal n) x text)
    (λ _. head_is_refused _ _ _ _ _ is_plain_431 refl n (decimal n) x text)
    (λ _. head_is_refused _ _ _ _ _ is_plain_501 refl n (decimal n) x text)
    status answered other

pub no_memory_is_refused : BeginsNoReply no_memory_response
no_memory_is_refused =
    subst BeginsNoReply (append-nil no_memory_response) (head_is_refused (codes "503") (codes "Service Unavailable") [] [] [] no_memory_is_plain refl 0 (codes "0") nothing [])
