-- The heads of responses that are written, read as heads.
use Rattle.std.proofs.Common.{◌≡◌, ℕ, suc, ◌^◌, ◌≤◌, ◌<◌, Bool, true, false, not, IsTrue, List, [], ◌∷◌, ◌++◌, length, reverse, refl, sym, ap, ◌∙◌, arith, append_assoc, append-nil, length-append, Some, cond, ◌&&◌, if◌then◌else◌, codes, decimal, ◌==◌, All, flat_map}
use Rattle.std.specs.List.{list_all}
use Rattle.std.specs.Char.{is_ascii_digit, digit_value}
use Rattle.std.specs.Str.Parse.{digits_value, AllDigits}
use Rattle.std.proofs.lemmas.Bool.{and_from, lt-ltb}
use Rattle.std.proofs.lemmas.Bool.Decides.{nat_tests}
use Rattle.std.proofs.lemmas.Fmt.{decimal_is_IsNumeral, length-decimal-le}
use Rattle.std.proofs.lemmas.List.Elements.{All-nil, All-cons, All-head, All-tail, All-weaker}
use Rattle.std.proofs.lemmas.List.Sums.{AllPass-from_list_all}
use Rattle.std.proofs.lemmas.Grind.{flat_map-append}
use Rattle.httparse.specs.Grammar.{Field, IsField, print_field, crlf, AllPass, is_ows, is_token_byte, is_value_byte, skip_ows, trim_ows, ResponseHead, ReadsResponse, print_response}
use Rattle.httparse.proofs.GrammarLemmas.{print_response-append, cons-append}
use Rattle.httparse.proofs.TrimLemmas.{trim_ows_space, AllPass-reverse}
use Rattle.httparse.proofs.OnLiterals.{httparse_on_literals}
use Rattle.ojp_http.specs.Fields.{is_number}
use Rattle.ojp_http.specs.Few.{feeds_in}
use Rattle.ojp_http.specs.Responses.{head_text}
use Rattle.ojp_http.specs.Heads.{HasHead}
use Rattle.ojp_http.specs.Bodies.{has_no_feed}
use Rattle.ojp_http.proofs.FewFacts.{feeds_in-append, few_are_within}
use Rattle.ojp_http.proofs.Grammars.{no_feed}

-- ---- a number in a field

digit_is : (c : ℕ) → digit_value c < 10 → is_ascii_digit c ≡ true
digit_is c small = grind (arith, nat_tests)

digits_are : (text : List ℕ) → AllDigits 10 text → list_all is_ascii_digit text ≡ true
digits_are [] all = refl
digits_are (c ∷ cs) all = and_from _ _ (digit_is c all.0) (digits_are cs all.1)

visible_digit : (c : ℕ) → is_ascii_digit c ≡ true → (is_ows c ≡ false) × (is_value_byte c ≡ true)
visible_digit c digit = grind (arith, nat_tests)

stays : (text : List ℕ) → AllPass is_ascii_digit text → skip_ows text ≡ text
stays [] all = refl
stays (c ∷ cs) all = ap (λ (t : Bool). cond t (skip_ows cs) (c ∷ cs)) (visible_digit c (All-head (λ b. is_ascii_digit b ≡ true) c cs all)).0

-- bytes without a line feed have no line feeds
pub feeds_none : (text : List ℕ) → has_no_feed text ≡ true → feeds_in text ≡ 0
feeds_none [] plain = refl
feeds_none (b ∷ text) plain = by (b == 10) (λ t. feeds_none text t) plain
  where
    by : (q : Bool) → (has_no_feed text ≡ true → feeds_in text ≡ 0) → (not q && has_no_feed text) ≡ true → (if q then suc (feeds_in text) else feeds_in text) ≡ 0
    by true later e = absurd (cc)
    by false later e = later e

-- the text of a number, as it stands in a field
pub record IsNumberText (n : ℕ) (text : List ℕ) : Type 0 where
  pub number : is_number text ≡ true
  pub value : digits_value 10 text ≡ n
  pub plain : AllPass is_value_byte text
  pub trimmed : trim_ows (32 ∷ text) ≡ text
  pub feeds : feeds_in text ≡ 0
  pub short : length text ≤ 20

pub number_text : (n : ℕ) → n < 2 ^ 64 → IsNumberText n (decimal n)
number_text n fits =
    let numeral = decimal_is_IsNumeral n fits in
    let tests = digits_are (decimal n) numeral.0.1 in
    let all = AllPass-from_list_all is_ascii_digit (decimal n) tests in
    record {
      number = and_from _ _ (lt-ltb _ _ numeral.0.0) tests;
      value = numeral.1;
      plain = All-weaker (λ b. is_ascii_digit b ≡ true) (λ b. is_value_byte b ≡ true) (λ b digit. (visible_digit b digit).1) (decimal n) all;
      trimmed = trim_ows_space (decimal n) (stays (decimal n) all) (stays (reverse (decimal n)) (AllPass-reverse is_ascii_digit (decimal n) all));
      feeds = feeds_none (decimal n) (no_feed is_ascii_digit (decimal n) refl all);
      short = length-decimal-le 20 n (omega arith) (omega arith) fits;
    }

pub length_field : (n : ℕ) (size : List ℕ) → IsNumberText n size → IsField (record { name = codes "Content-Length"; raw = 32 ∷ size; end = crlf })
unfolding httparse_on_literals
length_field n size x = record {
  name = (omega arith, AllPass-from_list_all is_token_byte (codes "Content-Length") refl);
  raw = All-cons (λ b. IsTrue (is_value_byte b)) 32 size refl x.plain;
}

pub close_field : IsField (record { name = codes "Connection"; raw = codes " close"; end = crlf })
unfolding httparse_on_literals
close_field = record {
  name = (omega arith, AllPass-from_list_all is_token_byte (codes "Connection") refl);
  raw = AllPass-from_list_all is_value_byte (codes " close") refl;
}

-- ---- responses

-- the fields behind those that the status gives
abbrev pub last_fields : List ℕ → List Field
last_fields size =
    (record { name = codes "Content-Length"; raw = 32 ∷ size; end = crlf })
    ∷ (record { name = codes "Connection"; raw = codes " close"; end = crlf }) ∷ []

-- a head that is written
abbrev pub head_of : List ℕ → List ℕ → List Field → List ℕ → ResponseHead
head_of digits reason front size = record {
  blank = [];
  minor = 1;
  digits = digits;
  reason = Some reason;
  line_end = crlf;
  fields = front ++ last_fields size;
  last = crlf;
}

-- the bytes before the size, and those behind it
abbrev pub before_size : List ℕ → List ℕ → List ℕ → List ℕ → List ℕ
before_size digits reason allow kind =
    codes "HTTP/1.1 " ++ (digits ++ (codes " " ++ (reason ++ (codes "\r\n" ++ (allow ++ (kind ++ codes "Content-Length: "))))))

abbrev behind_size : List ℕ
behind_size = codes "\r\nConnection: close\r\n\r\n"

-- what is computed for a status
pub record IsPlain (digits reason allow kind : List ℕ) (front : List Field) : Type 0 where
  pub three : length digits ≡ 3
  pub digits_are : list_all is_ascii_digit digits ≡ true
  pub reason_is : list_all is_value_byte reason ≡ true
  pub fields_are : All IsField front
  pub lines : flat_map print_field front ≡ allow ++ kind
  pub few : length front ≤ 10
  pub short : length (before_size digits reason allow kind) ≤ 300
  pub feeds : feeds_in (before_size digits reason allow kind) ≤ 10

split_size : (digits reason allow kind size : List ℕ) → head_text digits reason allow kind size ≡ before_size digits reason allow kind ++ (size ++ behind_size)
split_size digits reason allow kind size = simp (append_assoc, cons-append)

regroup : (p sp d r nl a k c s x : List ℕ)
    → p ++ (sp ++ (d ++ ((sp ++ r) ++ (nl ++ ((((a ++ k) ++ ((c ++ (s ++ nl)) ++ (x ++ []))) ++ nl) ++ [])))))
    ≡ p ++ (sp ++ (d ++ (sp ++ (r ++ (nl ++ (a ++ (k ++ (c ++ (s ++ (nl ++ (x ++ nl)))))))))))
regroup p sp d r nl a k c s x = simp (append_assoc, append-nil)

head_prints : (digits reason allow kind size : List ℕ) (front : List Field) → flat_map print_field front ≡ allow ++ kind
    → head_text digits reason allow kind size ≡ print_response (head_of digits reason front size) ++ []
head_prints digits reason allow kind size front lines = sym (
    print_response-append (head_of digits reason front size) []
    ∙ ap (λ (l : List ℕ). codes "HTTP/1.1" ++ 32 ∷ (digits ++ (32 ∷ reason ++ (13 ∷ 10 ∷ (l ++ 13 ∷ 10 ∷ []) ++ []))))
    (flat_map-append print_field front (last_fields size) ∙ ap (λ (l : List ℕ). l ++ flat_map print_field (last_fields size)) lines)
    ∙ regroup (codes "HTTP/1.1") (32 ∷ []) digits reason (13 ∷ 10 ∷ []) allow kind (codes "Content-Length: ") size (codes "Connection: close\r\n")
    )

all_append : (xs ys : List Field) → All IsField xs → All IsField ys → All IsField (xs ++ ys)
all_append [] ys x y = y
all_append (f ∷ xs) ys x y = All-cons IsField f (xs ++ ys) (All-head IsField f xs x) (all_append xs ys (All-tail IsField f xs x) y)

last_are : (n : ℕ) (size : List ℕ) → IsNumberText n size → All IsField (last_fields size)
last_are n size x =
    let close : Field = record { name = codes "Connection"; raw = codes " close"; end = crlf } in
    All-cons IsField (record { name = codes "Content-Length"; raw = 32 ∷ size; end = crlf }) (close ∷ []) (length_field n size x) (All-cons IsField close [] close_field (All-nil IsField))

-- a head that is written is a head within its limits
pub written_head : (digits reason allow kind : List ℕ) (front : List Field) (n : ℕ) (size : List ℕ) → IsPlain digits reason allow kind front → IsNumberText n size → (text : List ℕ)
    → HasHead ReadsResponse (λ (h : ResponseHead). h.fields) 66 (head_text digits reason allow kind size ++ text) (head_of digits reason front size) text
written_head digits reason allow kind front n size p x text =
    let all = head_text digits reason allow kind size in
    let split = split_size digits reason allow kind size in
    let long : length all ≤ 16384 =
    omega (arith, ap length split, length-append (before_size digits reason allow kind) (size ++ behind_size), length-append size behind_size, p.short, x.short) in
    let lines : feeds_in all < 66 =
    omega (arith, ap feeds_in split, feeds_in-append (before_size digits reason allow kind) (size ++ behind_size), feeds_in-append size behind_size, p.feeds, x.feeds) in
    record {
      front = all;
      is = refl;
      reads = (
        record {
          minor = omega arith;
          digits = (p.three, AllPass-from_list_all is_ascii_digit digits p.digits_are);
          reason = AllPass-from_list_all is_value_byte reason p.reason_is;
          fields = all_append front (last_fields size) p.fields_are
              (last_are n size x);
        },
        head_prints digits reason allow kind size front p.lines,
      );
      few = omega (arith, length-append front (last_fields size), p.few);
      within = few_are_within 66 all long lines;
    }
