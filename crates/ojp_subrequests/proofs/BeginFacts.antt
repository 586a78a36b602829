-- The ask that a subrequest begins with.
use Rattle.std.proofs.Common.{◌≡◌, ℕ, ◌≤◌, ◌==◌, ◌&&◌, ◌||◌, inl, inr, not, Bool, true, false, List, [], length, refl, sym, ◌∙◌, ap, subst, arith, lit≤}
use Rattle.std.specs.Prelude.{IfOk, IsTrue, Ok, Err, Result, nat_le}
use Rattle.std.specs.List.{list_all}
use Rattle.std.proofs.lemmas.Bool.{leb-true, or_cases}
use Rattle.std.proofs.lemmas.Bool.Decides.{nat_tests}
use Rattle.std.proofs.lemmas.List.Elements.{All-weaker}
use Rattle.std.proofs.lemmas.List.Sums.{AllPass-from_list_all}
use Rattle.httparse.specs.Grammar.{is_value_byte}
use Rattle.ojp_values.specs.Texts.{Text, is_between, is_code, is_code_byte}
use Rattle.ojp_values.specs.declared.asks.Ask.{Ask}
use Rattle.ojp_values.specs.declared.documents.Doc.{Doc}
use Rattle.ojp_values.specs.declared.documents.Doc.TheVariants as docs
use Rattle.ojp_grammar.specs.Answering.{SpellsAsk}
use Rattle.ojp_grammar.specs.Short.{RequestsAreShort}
use Rattle.ojp_http.specs.Laws.{IsHostText, RequestIsAsk}
use Rattle.ojp_http.specs.Responses.{request_bytes}
use Rattle.ojp_timetable.proofs.Orders.{and_true, both}
use Rattle.ojp_links.specs.declared.expect.Expect.{Expect}
use Rattle.ojp_links.specs.Replies.{IsExpectedOf, Requests, ask_of}
use Rattle.ojp_links.specs.Seen.{Fixed, View, ask_at, code_at, code_in, codes_of}
use Rattle.ojp_links.specs.Calls.{Begins}
use Rattle.ojp_subrequests.specs.Hearing.{HasHeard, HearingView}
use Rattle.ojp_subrequests.specs.Subrequests.{IsRequestOf, IsSpelled, MakesAsk, expect_of}
use Rattle.ojp_subrequests.proofs.SubFacts.{sub_of}

-- ---- the code as the Host

or_right : (a b : Bool) → b ≡ true → a || b ≡ true
or_right true b h = refl
or_right false b h = h

low : (b : ℕ) → 48 ≤ b → nat_le 32 b ≡ true
low b h = grind (arith, nat_tests)

not_del : (b : ℕ) → b ≤ 90 → (b == 127) ≡ false
not_del b h = grind (arith, nat_tests)

value_byte : (b : ℕ) → 48 ≤ b → b ≤ 90 → is_value_byte b ≡ true
value_byte b l h = or_right (b == 9) (nat_le 32 b && not (b == 127)) (and_true (nat_le 32 b) (not (b == 127)) (low b l) (ap not (not_del b h)))

within : (m n b : ℕ) → 48 ≤ m → n ≤ 90 → is_between m n b ≡ true → (48 ≤ b) × (b ≤ 90)
within m n b l h t =
    let parts = both (nat_le m b) (nat_le b n) t in
    let from : m ≤ b = leb-true m b parts.0 in
    let to : b ≤ n = leb-true b n parts.1 in
    (omega arith, omega arith)

code_value : (b : ℕ) → is_code_byte b ≡ true → is_value_byte b ≡ true
code_value b h = elim (or_cases (is_between 65 90 b) (is_between 48 57 b) h) [
  | inl t ↦ let w = within 65 90 b (lit≤ tt) (lit≤ tt) t in value_byte b w.0 w.1
  | inr t ↦ let w = within 48 57 b (lit≤ tt) (lit≤ tt) t in value_byte b w.0 w.1
]

pub host_text : (code : Text) → IsTrue (is_code code) → IsHostText code
host_text code h =
    let parts = both (is_between 1 16 (length code)) (list_all is_code_byte code) h in
    let bounds = both (nat_le 1 (length code)) (nat_le (length code) 16) parts.0 in
    let short : length code ≤ 16 = leb-true (length code) 16 bounds.1 in
    record {
      plain = All-weaker (λ (b : ℕ). is_code_byte b ≡ true) (λ (b : ℕ). is_value_byte b ≡ true) code_value code (AllPass-from_list_all is_code_byte code parts.1);
      within = omega arith;
    }

-- ---- the ask that was made

pub request_is : {E : Type 0} (code : Text) (doc : Doc) (body host text : List ℕ) (r : Result (List ℕ) E) → host ≡ code → text ≡ body → IsTrue (is_code code) → IsSpelled doc body
    → IfOk r (λ bytes. bytes ≡ request_bytes host text) → IfOk r (IsRequestOf code doc)
request_is code doc body host text (Ok bytes) h t well spelled is = record {
  body = body;
  spelled = spelled;
  is = is ∙ (ap (λ (c : Text). request_bytes c text) h ∙ ap (λ (b : List ℕ). request_bytes code b) t);
  is_code = well;
}
request_is code doc body host text (Err e) h t well spelled is = tt

expected_of : (strict : Bool) (code : Text) (ask : Ask) → IsExpectedOf code (expect_of strict code ask)
expected_of true code ask = refl
expected_of false code ask = tt

asked_of : (strict : Bool) (code : Text) (ask : Ask) → ask_of (expect_of strict code ask) ≡ ask
asked_of true code ask = refl
asked_of false code ask = refl

pub makes_ask : RequestIsAsk → RequestsAreShort → (old new : View) (to key : ℕ) (asking written : Ask) (strict : Bool) (code bytes : List ℕ) (expect : Expect) (h : HearingView) → code ≡ code_at old to
    → IsRequestOf code (docs.Ask asking) bytes → docs.Ask asking ≡ docs.Ask written → new.fixed ≡ old.fixed → Begins old new to bytes key → expect ≡ expect_of strict code written → HasHeard h []
    → MakesAsk old new to asking strict (sub_of key to expect h false)
makes_ask gives short old new to key asking written strict code bytes expect h code_is request same fixed begins expects heard =
    let spells : SpellsAsk asking request.body = record { wanted = (tt, request.spelled.well); spells = request.spelled.spells } in
    let is_short : length request.body ≤ 1048576 =
    subst (λ (body : List ℕ). length body ≤ 1048576) (sym request.spelled.spells) (short (docs.Ask asking) (tt, request.spelled.well)) in
    let only = gives code request.body (host_text code request.is_code) is_short in
    let asked : Requests (ask_at new key).request asking =
    subst (λ (r : List ℕ). Requests r asking) (sym (begins.request ∙ request.is)) (request.body, only.gives, spells) in
    let own : written ≡ asking = cc in
    let expect_is : expect ≡ expect_of strict (code_at old to) asking =
    expects ∙ (ap (λ (a : Ask). expect_of strict code a) own ∙ ap (λ (c : Text). expect_of strict c asking) code_is) in
    let code_now : code_in (codes_of new.fixed) to ≡ code_at old to = ap (λ (f : Fixed). code_in (codes_of f) to) fixed in
    record {
      body = request.body;
      spells = spells;
      begins = subst (λ (r : List ℕ). Begins old new to r key) (request.is ∙ ap (λ (c : Text). request_bytes c request.body) code_is) begins;
      of_region = refl;
      expects = expect_is;
      held = record {
        own = record {
          not_over = refl;
          live = begins.live;
          of_region = begins.region;
          expected = subst (λ (e : Expect). IsExpectedOf (code_in (codes_of new.fixed) to) e) (sym expect_is)
              (subst (λ (c : Text). IsExpectedOf c (expect_of strict (code_at old to) asking)) (sym code_now) (expected_of strict (code_at old to) asking));
          asked = subst (λ (a : Ask). Requests (ask_at new key).request a) (sym (ap ask_of expect_is ∙ asked_of strict (code_at old to) asking)) asked;
        };
        heard = subst (HasHeard h) (sym begins.none_taken) heard;
        not_ended = begins.not_ended;
      };
    }
