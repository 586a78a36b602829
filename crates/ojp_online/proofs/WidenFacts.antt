-- What answers between two moments answers between an earlier and a later one; and what serves with one relation serves with a wider one.
use Rattle.std.proofs.Common.{◌≡◌, ℕ, ◌<◌, ◌≤◌, List, length, Option, Some, None, IfSome, sym, ◌∙◌, ap, subst, inl, inr, arith}
use Rattle.ojp_values.specs.Lists.{Each}
use Rattle.ojp_values.specs.Texts.{Text}
use Rattle.ojp_values.specs.declared.asks.Ask.{Ask}
use Rattle.ojp_values.specs.declared.asks.Ask.TheVariants as asks
use Rattle.ojp_values.specs.declared.replies.Delivery.{Delivery}
use Rattle.ojp_outside.specs.Doors.{DoorsView, Entry}
use Rattle.ojp_timetable.specs.Tables.{Timetable}
use Rattle.ojp_grammar.specs.Answering.{AnswersBody}
use Rattle.ojp_http.specs.Connections.{Serves, Wire}
use Rattle.ojp_http.specs.declared.served.Served.{Served}
use Rattle.ojp_bodies.proofs.ServedFacts.{serves_on}
use Rattle.ojp_exchange.specs.Book.{Book}
use Rattle.ojp_links.specs.Seen.{View, Fixed, TellsTables, code_in, codes_of}
use Rattle.ojp_links.specs.Calls.{Keeps}
use Rattle.ojp_records.specs.declared.queries.Entry.{Entry as Told}
use Rattle.ojp_records.specs.Records.{region_of}
use Rattle.ojp_turns.specs.Faults.{FaultRose, HasCause}
use Rattle.ojp_turns.proofs.AskFacts.{each_turned}
use Rattle.ojp_gateway.specs.Answers.{Answers, IsRight, TellsBook, ToldGiven}
use Rattle.ojp_steps.specs.Serving.{AreServed, HasServed, IsServed}
use Rattle.ojp_online.specs.Added.{as_added}
use Rattle.ojp_online.specs.Gateways.{GatewayGives}

-- ---- moments

-- from c to d is at least from a to b
record Widens (a b c d : View) : Type 0 where
  fixed : c.fixed ≡ a.fixed
  before : (region : ℕ) → c.faults region ≤ a.faults region
  after : (region : ℕ) → b.faults region ≤ d.faults region

module _ (a b c d : View) (w : Widens a b c d) where
  rose_wider : (code : Text) → FaultRose a b code → FaultRose c d code
  rose_wider code (region, below, is, rose) = (
    region,
    subst (λ (f : Fixed). region < length f.stations) (sym w.fixed) below,
    ap (λ (f : Fixed). code_in (codes_of f) region) w.fixed ∙ is,
    omega (arith, rose, w.before region, w.after region),
  )

  tables_narrower : (tables : List Timetable) → TellsTables c tables → TellsTables a tables
  tables_narrower tables tells = record { servers = ap (λ (f : Fixed). f.servers) (sym w.fixed) ∙ tells.servers; own = tells.own ∙ ap codes_of w.fixed }

  tells_narrower : (book : Book) (tables : List Timetable) → TellsBook c book tables → TellsBook a book tables
  tells_narrower book tables (tells, theirs) = (tables_narrower tables tells, theirs)

  right_wider : (tables : List Timetable) (ask : Ask) (delivery : Delivery) → IsRight a b tables ask delivery → IsRight c d tables ask delivery
  right_wider tables (asks.Trip ask) delivery (inl r) = inl r
  right_wider tables (asks.Trip ask) delivery (inr (inl (code, is, rose))) = inr (inl (code, is, rose_wider code rose))
  right_wider tables (asks.Trip ask) delivery (inr (inr (is, none, (code, home, rose)))) = inr (inr (is, none, (code, home, rose_wider code rose)))
  right_wider tables (asks.Multi ask) delivery r = r
  right_wider tables (asks.Events ask) delivery r = r
  right_wider tables (asks.Points ask) delivery r = r

  causes_wider : (told : List Told) → Each (HasCause a b) told → Each (HasCause c d) told
  causes_wider told causes = each_turned (HasCause a b) (HasCause c d) told (λ entry has failed. rose_wider (region_of entry.query) (has failed)) causes

  given_narrower : (book : Book) (ask : Ask) (told : List Told) → ToldGiven book a ask told → ToldGiven book c ask told
  given_narrower book (asks.Trip ask) told given = λ tables tells. given tables (tables_narrower tables tells)
  given_narrower book (asks.Multi ask) told given = given
  given_narrower book (asks.Events ask) told given = given
  given_narrower book (asks.Points ask) told given = given

  answers_wider : (book : Book) (told : List Told) (ask : Ask) (delivery : Delivery) → Answers book a b told ask delivery → Answers book c d told ask delivery
  answers_wider book told ask delivery answers = record {
    kind = answers.kind;
    right = λ tables tells. right_wider tables ask delivery (answers.right tables (tells_narrower book tables tells));
    names_failed = λ code is. rose_wider code (answers.names_failed code is);
    not_served = answers.not_served;
    by_book = answers.by_book;
    ends = answers.ends;
    causes = causes_wider told answers.causes;
    given = given_narrower book ask told answers.given;
  }

-- an answer of a later call is one since the regions were added
pub gives_of : (book : Book) (old new : View) (told : List Told) (ask : Ask) (delivery : Delivery) → Keeps old new → Answers book old new told ask delivery → GatewayGives book new ask delivery
gives_of book old new told ask delivery keeps answers = (told, answers_wider old new (as_added new) new w book told ask delivery answers)
  where
    w : Widens old new (as_added new) new
    w = record { fixed = keeps.fixed; before = λ region. omega arith; after = λ region. omega arith }

pub gives_on : (book : Book) (mid new : View) (ask : Ask) (delivery : Delivery) → Keeps mid new → GatewayGives book mid ask delivery → GatewayGives book new ask delivery
gives_on book mid new ask delivery keeps (told, answers) = (told, answers_wider (as_added mid) mid (as_added new) new w book told ask delivery answers)
  where
    w : Widens (as_added mid) mid (as_added new) new
    w = record { fixed = keeps.fixed; before = λ region. omega arith; after = keeps.faults }

-- ---- relations

module _ (R S : Ask → Delivery → Type 0) (wide : (ask : Ask) (delivery : Delivery) → R ask delivery → S ask delivery) where
  is_served_wider : (entry : Entry) → IsServed (AnswersBody R) entry → IsServed (AnswersBody S) entry
  is_served_wider entry s = record { old = s.old; new = s.new; given = s.given; back = s.back; ended = s.ended; serves = serves_on R S wide s.old s.new s.ended s.serves; taken = s.taken }

  are_served_wider : (new : DoorsView) (returned : Option (List Entry)) → IfSome returned (AreServed (AnswersBody R) new) → IfSome returned (AreServed (AnswersBody S) new)
  are_served_wider new None s = tt
  are_served_wider new (Some entries) s = record { more = s.more; returned = s.returned; given = s.given; served = λ k d below. is_served_wider _ (s.served k d below) }

  has_served_wider : (old new : DoorsView) → HasServed (AnswersBody R) old new → HasServed (AnswersBody S) old new
  has_served_wider old new s = record { asked = s.asked; none_out = s.none_out; entries = are_served_wider new old.returned s.entries }

-- ---- the gateway

pub gateway_serves : (book : Book) (old new : View) (told : List Told) (before after : Wire) (how : Served) → Keeps old new → Serves (AnswersBody (Answers book old new told)) before after how
    → Serves (AnswersBody (GatewayGives book new)) before after how
gateway_serves book old new told before after how keeps s =
    serves_on (Answers book old new told) (GatewayGives book new) (λ ask delivery. gives_of book old new told ask delivery keeps) before after how s

pub gateway_served : (book : Book) (mid new : View) (old_doors doors : DoorsView) → Keeps mid new → HasServed (AnswersBody (GatewayGives book mid)) old_doors doors → HasServed (AnswersBody (GatewayGives book new)) old_doors doors
gateway_served book mid new old_doors doors keeps s =
    has_served_wider (GatewayGives book mid) (GatewayGives book new) (λ ask delivery. gives_on book mid new ask delivery keeps) old_doors doors s
