-- The requests that are written, read as requests.
use Rattle.std.proofs.Common.{◌≡◌, ℕ, ◌≤◌, ◌<◌, Bool, true, false, not, ◌||◌, IsTrue, List, [], ◌∷◌, ◌++◌, length, refl, sym, ap, ◌∙◌, arith, append_assoc, append-nil, subst, codes, decimal, nat_le, All, Some, Result, Ok, Err, if◌then◌else◌, length-append, inl, inr, IsAscii}
use Rattle.std.specs.Str.Parse.{digits_value}
use Rattle.std.proofs.lemmas.Str.{IsUtf8-from_ascii}
use Rattle.std.proofs.lemmas.Str.Ascii.{IsAscii-nil, IsAscii-cons}
use Rattle.std.proofs.lemmas.List.Elements.{All-nil, All-cons}
use Rattle.std.proofs.lemmas.List.Sums.{AllPass-from_list_all}
use Rattle.httparse.specs.Grammar.{Field, IsField, crlf, AllPass, is_token_byte, is_uri_byte, is_value_byte, RequestHead, ReadsRequest, print_request}
use Rattle.httparse.proofs.GrammarLemmas.{print_request-append, cons-append}
use Rattle.httparse.proofs.OnLiterals.{httparse_on_literals}
use Rattle.ojp_http.specs.declared.refusal.HttpRefusal.{HttpRefusal}
use Rattle.ojp_http.specs.declared.refusal.Refusal.TheVariants as decided
use Rattle.ojp_http.specs.declared.refusal.Frame.{Frame}
use Rattle.ojp_http.specs.declared.refusal.Frame.TheVariants.{Counted, Refused}
use Rattle.ojp_http.specs.Verdicts.{whole}
use Rattle.ojp_http.specs.Heads.{HasHead, found}
use Rattle.ojp_http.specs.Bodies.{Asks, Frames, taken}
use Rattle.ojp_http.specs.Fields.{ask_frame, frame_by, is_number}
use Rattle.ojp_http.specs.Few.{feeds_in}
use Rattle.ojp_http.specs.Asking.{HttpAsk}
use Rattle.ojp_http.specs.Responses.{request_bytes}
use Rattle.ojp_http.specs.Laws.{BodyIsOnly, RequestIsAsk, IsHostText, AreAllowed, AreTwo, one, head_or_large, head_or_cut, chunk_or_cut}
use Rattle.std.proofs.lemmas.Bool.{le-leb}
use Rattle.ojp_http.proofs.FewFacts.{feeds_in-append, few_are_within}
use Rattle.ojp_http.proofs.Grammars.{no_feed}
use Rattle.ojp_http.proofs.WholeMessages.{outcome_law}
use Rattle.ojp_http.proofs.Written.{IsNumberText, number_text, feeds_none, length_field, close_field}

-- ---- a body is the only outcome

not_two : (a b : HttpRefusal) (body : List ℕ) (x : Result (List ℕ) HttpRefusal) → AreTwo (Err a) (Err b) (Ok body) x → x ≡ Ok body
not_two a b body x (inl t) = let e = t.0 in absurd (cc)
not_two a b body x (inr t) = let e = t.0 in absurd (cc)

only_by : (bytes body : List ℕ) (x : Result (List ℕ) HttpRefusal) → AreAllowed bytes (Ok body) x → x ≡ Ok body
only_by bytes body x (one e) = sym e
only_by bytes body x (head_or_large bad full two) = not_two _ _ body x two
only_by bytes body x (head_or_cut bad full two) = not_two _ _ body x two
only_by bytes body x (chunk_or_cut b bad two) = not_two _ _ body x two

pub body_is_only : BodyIsOnly
body_is_only bytes body outcome x y = only_by bytes body outcome (outcome_law bytes (Ok body) outcome x y)

-- ---- the head of a request

abbrev field : List ℕ → List ℕ → Field
field name raw = record { name = name; raw = raw; end = crlf }

abbrev head_of : List ℕ → List ℕ → RequestHead
head_of host size = record {
  blank = [];
  method = codes "POST";
  target = codes "/ojp";
  minor = 1;
  line_end = crlf;
  fields = field (codes "Host") (32 ∷ host) ∷ field (codes "Content-Type") (codes " application/xml") ∷ field (codes "Content-Length") (32 ∷ size) ∷ field (codes "Connection") (codes " close") ∷ [];
  last = crlf;
}

-- the bytes of the head, before the host, between host and size, and behind the size
abbrev first_bytes : List ℕ
first_bytes = codes "POST /ojp HTTP/1.1\r\nHost: "

abbrev middle_bytes : List ℕ
middle_bytes = codes "\r\nContent-Type: application/xml\r\nContent-Length: "

abbrev last_bytes : List ℕ
last_bytes = codes "\r\nConnection: close\r\n\r\n"

abbrev head_bytes : List ℕ → List ℕ → List ℕ
head_bytes host size = first_bytes ++ (host ++ (middle_bytes ++ (size ++ last_bytes)))

target_is : AllPass is_uri_byte (codes "/ojp")
target_is = AllPass-from_list_all is_uri_byte (codes "/ojp") refl

target_ascii : IsAscii (codes "/ojp")
target_ascii =
    IsAscii-cons 47 (codes "ojp") (omega arith) (IsAscii-cons 111 (codes "jp") (omega arith) (IsAscii-cons 106 (codes "p") (omega arith) (IsAscii-cons 112 [] (omega arith) IsAscii-nil)))

method_is : AllPass is_token_byte (codes "POST")
unfolding httparse_on_literals
method_is = AllPass-from_list_all is_token_byte (codes "POST") refl

host_field : (host : List ℕ) → AllPass is_value_byte host → IsField (field (codes "Host") (32 ∷ host))
unfolding httparse_on_literals
host_field host plain = record {
  name = (omega arith, AllPass-from_list_all is_token_byte (codes "Host") refl);
  raw = All-cons (λ b. IsTrue (is_value_byte b)) 32 host refl plain;
}

xml_field : IsField (field (codes "Content-Type") (codes " application/xml"))
unfolding httparse_on_literals
xml_field = record {
  name = (omega arith, AllPass-from_list_all is_token_byte (codes "Content-Type") refl);
  raw = AllPass-from_list_all is_value_byte (codes " application/xml") refl;
}

fields_are : (host : List ℕ) (n : ℕ) (size : List ℕ) → AllPass is_value_byte host → IsNumberText n size → All IsField (head_of host size).fields
fields_are host n size plain x =
    let close = field (codes "Connection") (codes " close") in
    let size_field = field (codes "Content-Length") (32 ∷ size) in
    let kind = field (codes "Content-Type") (codes " application/xml") in
    All-cons IsField (field (codes "Host") (32 ∷ host)) (kind ∷ size_field ∷ close ∷ []) (host_field host plain)
    (All-cons IsField kind (size_field ∷ close ∷ []) xml_field
    (All-cons IsField size_field (close ∷ []) (length_field n size x) (All-cons IsField close [] close_field (All-nil IsField))))

head_prints : (host size : List ℕ) → head_bytes host size ≡ print_request (head_of host size) ++ []
head_prints host size = sym (
    print_request-append (head_of host size) []
    ∙ regroup (codes "POST /ojp HTTP/1.1\r\n") (codes "Host: ") host (13 ∷ 10 ∷ []) (codes "Content-Type: application/xml\r\n") (codes "Content-Length: ") size (codes "Connection: close\r\n")
    )
  where
    regroup : (p q h nl t c s x : List ℕ)
        → p ++ ((((q ++ (h ++ nl)) ++ (t ++ ((c ++ (s ++ nl)) ++ (x ++ [])))) ++ nl) ++ []) ≡ p ++ (q ++ (h ++ (nl ++ (t ++ (c ++ (s ++ (nl ++ (x ++ nl))))))))
    regroup p q h nl t c s x = simp (append_assoc, append-nil)

written_head : (host : List ℕ) (n : ℕ) (size : List ℕ) → IsHostText host → IsNumberText n size → (body : List ℕ)
    → HasHead ReadsRequest (λ (h : RequestHead). h.fields) 66 (head_bytes host size ++ body) (head_of host size) body
written_head host n size h x body =
    let behind = middle_bytes ++ (size ++ last_bytes) in
    let plain : feeds_in host ≡ 0 = feeds_none host (no_feed is_value_byte host refl h.plain) in
    let long : length (head_bytes host size) ≤ 16384 =
    omega (arith, length-append host behind, length-append size last_bytes, h.within, x.short) in
    let lines : feeds_in (head_bytes host size) < 66 =
    omega (arith, feeds_in-append host behind, feeds_in-append size last_bytes, plain, x.feeds) in
    record {
      front = head_bytes host size;
      is = refl;
      reads = (
        record {
          method = (omega arith, method_is);
          target = (omega arith, target_is);
          target_text = IsUtf8-from_ascii (codes "/ojp") target_ascii;
          minor = omega arith;
          fields = fields_are host n size h.plain x;
        },
        head_prints host size,
      );
      few = omega arith;
      within = few_are_within 66 (head_bytes host size) long lines;
    }

-- ---- its body

counted : (n : ℕ) (text : List ℕ) → n ≤ 1048576 → is_number text ≡ true → digits_value 10 text ≡ n → frame_by 1048576 1 1 0 text [] ≡ Counted n
counted n text fits number value =
    let within : nat_le (digits_value 10 text) 1048576 ≡ true = le-leb (digits_value 10 text) 1048576 (omega (arith, value, fits)) in
    ap (λ (b : Bool). if (not b || false) then Refused decided.Conflict else (if nat_le (digits_value 10 text) 1048576 then Counted (digits_value 10 text) else Refused decided.TooLong)) number
    ∙ ap (λ (b : Bool). if b then Counted (digits_value 10 text) else Refused decided.TooLong) within
    ∙ ap Counted value

frame_is : (host : List ℕ) (n : ℕ) (size : List ℕ) → n ≤ 1048576 → IsNumberText n size → ask_frame (head_of host size) ≡ Counted n
frame_is host n size fits x = ap (λ (l : List ℕ). frame_by 1048576 1 1 0 l []) x.trimmed ∙ counted n size fits x.number x.value

-- the head, and then the body
regroup_body : (host size body : List ℕ) → head_bytes host size ++ body ≡ first_bytes ++ (host ++ (middle_bytes ++ (size ++ (last_bytes ++ body))))
regroup_body host size body = simp (append_assoc, cons-append)

pub request_is_ask : RequestIsAsk
request_is_ask host body h fits =
    let n = length body in
    let x = number_text n (omega (arith, fits)) in
    let gives : HttpAsk (request_bytes host body) (Ok body) = record {
      verdict = whole body [];
      asks = subst (λ (l : List ℕ). Asks l (whole body [])) (regroup_body host (decimal n) body)
          (found (head_of host (decimal n)) body (written_head host n (decimal n) h x body)
          (subst (λ (f : Frame). Frames (Some 1048576) f body (whole body [])) (sym (frame_is host n (decimal n) fits x))
          (taken body [] (whole [] []) (sym (append-nil body)) refl refl (ap (λ (l : List ℕ). whole l []) (sym (append-nil body))))));
      tells = refl;
    } in
    record { gives = gives; only = λ outcome y. body_is_only (request_bytes host body) body outcome gives y }
