-- What an ask does to what is seen of the links.
use Rattle.std.proofs.Common.{◌≡◌, ℕ, zero, suc, ◌<◌, ◌≤◌, true, false, Bool, List, [], ◌∷◌, ◌++◌, length, take, Option, Some, None, Result, Ok, Err, IfSome, is_some, option_map, slice_get, refl, sym, ◌∙◌, ap, subst, arith, true≢false}
use Rattle.std.proofs.lemmas.Option.{none-some}
use Rattle.slab.specs.Slab.{Slab, get}
use Rattle.ojp_outside.specs.Causes.{next_count}
use Rattle.ojp_values.proofs.EachFacts.{each_read}
use Rattle.ojp_values.specs.Lists.{Each}
use Rattle.ojp_http.specs.declared.refusal.HttpRefusal.{HttpRefusal}
use Rattle.ojp_http.specs.Serving.{RespondsWith, refusal_name, refusal_status, response}
use Rattle.ojp_grammar.specs.Answering.{AnswersBody}
use Rattle.ojp_timetable.specs.Tables.{Timetable}
use Rattle.ojp_timetable.specs.Answers.{RegionAnswers}
use Rattle.ojp_links.specs.declared.links.AskRefused.TheVariants as refused
use Rattle.ojp_links.specs.declared.links.More.{More}
use Rattle.ojp_links.specs.declared.links.More.TheVariants as mores
use Rattle.ojp_links.specs.Replies.{ServesByTable}
use Rattle.ojp_links.specs.Seen.{Live, View, ask_at, rests_needed}
use Rattle.ojp_links.specs.Calls.{Asks, Keeps}
use Rattle.ojp_links_mem.specs.Scripts.{answering, fails_later}
use Rattle.ojp_links_mem.specs.Regions.{ChangesAt, DoesNotFall, count_at, faulted, table_at, tables_of}
use Rattle.ojp_links_mem.specs.Memory.{AsksBy, SameTerms, links_of, said_in, table_number}
use Rattle.ojp_links_mem.specs.Pending.{AreKept, IsKept, IsMade, IsReplyBy, IsServed, live_in, live_of}
use Rattle.ojp_links_mem.specs.Kept.{IsNumbered, IsToldOf, IsWhole, view_of}
use Rattle.ojp_links_mem.specs.declared.pending.Pending.{Pending}
use Rattle.ojp_links_mem.specs.declared.regions.Region.{Region}
use Rattle.ojp_links_mem.specs.declared.script.What.{What}
use Rattle.ojp_links_mem.specs.declared.script.What.TheVariants.{FailAsk, FailMore, Reply}
use Rattle.ojp_links_mem.specs.declared.memory.MemLinks.TheInside.{Inside}
use Rattle.ojp_links_mem.proofs.EndFacts.{same_regions}
use Rattle.ojp_links_mem.proofs.FixedFacts.{same_fixed, whole_after}
use Rattle.ojp_links_mem.proofs.LookFacts.{Counted, OthersAre, counted_fault, counted_none, kept_with, region_there}
use Rattle.ojp_links_mem.proofs.RegionFacts.{table_told}
use Rattle.ojp_links_mem.proofs.SoundFacts.{if_tables, if_told, seen_at, told_by}

abbrev has_bytes : List ℕ → Bool
has_bytes [] = false
has_bytes (x ∷ xs) = true

some_bytes : (bytes : List ℕ) → has_bytes bytes ≡ true → 0 < length bytes
some_bytes [] h = absurd (true≢false (sym h))
some_bytes (x ∷ xs) h = omega arith

some_response : (status : ℕ) (text : List ℕ) → 0 < length (response status text)
some_response status text = some_bytes (response status text) refl

-- a response has bytes
responds_some : (Answers : List ℕ → ℕ → List ℕ → Type 0) (outcome : Result (List ℕ) HttpRefusal) (status : ℕ) (out : List ℕ) → RespondsWith Answers outcome status out → 0 < length out
responds_some Answers (Ok body) status out h = subst (λ (bytes : List ℕ). 0 < length bytes) (sym h.2) (some_response status h.0)
responds_some Answers (Err e) status out h = subst (λ (bytes : List ℕ). 0 < length bytes) (sym h.1) (some_response (refusal_status e) (refusal_name e ++ 10 ∷ []))

served_some : (table : Timetable) (request out : List ℕ) → ServesByTable table request out → 0 < length out
served_some table request out h = responds_some (AnswersBody (RegionAnswers table)) h.1.outcome h.0 out h.1.responds

-- what an ask leaves alone, whatever it counts
asks_keep : (m n : Inside) (at : ℕ) (answer : More) → SameTerms (view_of m) (view_of n) → Counted m n at answer → Keeps (links_of (view_of m)) (links_of (view_of n))
asks_keep m n at answer terms counted = record { fixed = same_fixed m n terms counted.same; faults = counted.later }

counted_as : (m n : Inside) → n.regions.items ≡ m.regions.items → Counted m n 0 mores.Got
counted_as m n e = counted_none m n 0 mores.Got (λ f. absurd (cc)) e

pub refused_at : (m n : Inside) (region : ℕ) (request : List ℕ) → SameTerms (view_of m) (view_of n) → n.regions.items ≡ m.regions.items → live_in n.asks ≡ live_in m.asks
    → Asks (links_of (view_of m)) (links_of (view_of n)) region request (Err refused.NoMemory)
refused_at m n region request terms regions live =
    let counted = counted_as m n regions in
    record { keeps = asks_keep m n 0 mores.Got terms counted; rejections = ap count_at counted.rejections_same; ends = live }

pub failed_at : (m n : Inside) (region : ℕ) (r : Region) (request : List ℕ) → SameTerms (view_of m) (view_of n) → slice_get m.regions.items region ≡ Some r → ChangesAt faulted m.regions.items n.regions.items region
    → IfSome (slice_get m.regions.items region) DoesNotFall → n.asks ≡ m.asks → Asks (links_of (view_of m)) (links_of (view_of n)) region request (Err refused.Failed)
failed_at m n region r request terms there h later asks =
    let counted = counted_fault m n region r mores.Failed there h later in
    record { keeps = asks_keep m n region mores.Failed terms counted; rejections = ap count_at counted.rejections_same; ends = (ap live_in asks, counted.rose refl) }

-- the new ask, as it is seen
record IsNewLive (to : ℕ) (bytes : List ℕ) (needed : ℕ) (ask : Live) : Type 0 where
  region_is : ask.region ≡ to
  request_is : ask.request ≡ bytes
  none_taken : ask.taken ≡ []
  not_ended : ask.ended ≡ false
  needs : ask.rests ≡ needed

none_of : (n : ℕ) (bytes : List ℕ) → n ≡ 0 → take n bytes ≡ []
none_of n bytes e = ap (λ (k : ℕ). take k bytes) e

is_new : (to : ℕ) (bytes : List ℕ) (needed : ℕ) (said : Option What) (table : Timetable) (p : Pending) → IsMade to bytes needed said table p → IsNewLive to bytes needed (live_of p)
is_new to bytes needed said table p made = record {
  region_is = made.to_region;
  request_is = made.of_request;
  none_taken = none_of p.taken p.reply.items made.none_taken;
  not_ended = made.not_ended;
  needs = made.needs;
}

pub begins_at : (m n : Inside) (region key : ℕ) (request : List ℕ) (said : Option What) (table : Timetable) (p : Pending) → SameTerms (view_of m) (view_of n) → n.regions.items ≡ m.regions.items → n.made ≡ next_count m.made
    → get m.asks key ≡ None → get n.asks key ≡ Some p → OthersAre m.asks n.asks key → IsMade region request (rests_needed m.order n.made) said table p
    → Asks (links_of (view_of m)) (links_of (view_of n)) region request (Ok (record { key = key }))
begins_at m n region key request said table p terms regions made vacant is others fresh =
    let new : View = links_of (view_of n) in
    let counted = counted_as m n regions in
    let l : IsNewLive region request (rests_needed m.order n.made) (ask_at new key) =
    subst (λ (a : Live). IsNewLive region request (rests_needed m.order n.made) a) (sym (seen_at n.asks key p is)) (is_new region request (rests_needed m.order n.made) said table p fresh) in
    record {
      keeps = asks_keep m n 0 mores.Got terms counted;
      rejections = ap count_at counted.rejections_same;
      ends = record {
        vacant = ap (option_map live_of) vacant;
        live = ap (λ (o : Option Pending). is_some (option_map live_of o)) is;
        others = λ other ne. ap (option_map live_of) (others other ne);
        region = l.region_is;
        request = l.request_is;
        none_taken = l.none_taken;
        not_ended = l.not_ended;
        counted = made;
        rests = if_told m.tells_order m.order (λ by. (ask_at new key).rests ≡ rests_needed by n.made) (λ _. l.needs);
      };
    }

-- ---- what answers

-- a timetable that answers is the region's
pub answering_some : (said : Option What) (table : Option ℕ) (number : ℕ) → answering said table ≡ Some number → table ≡ Some number
answering_some (Some FailAsk) table number e = absurd (none-some number e)
answering_some (Some FailMore) table number e = e
answering_some (Some (Reply bytes)) table number e = e
answering_some None table number e = e

number_below : (count : ℕ) (r : Region) (number : ℕ) → IsNumbered count r → r.table ≡ Some number → number < count
number_below count r number h e = subst (λ (o : Option ℕ). IfSome o (λ (k : ℕ). k < count)) e h

pub answer_below : (m : Inside) (region number : ℕ) (said : Option What) → IsWhole m → region < length m.regions.items → answering said (table_number (slice_get m.regions.items region)) ≡ Some number → number < length m.servers.items
answer_below m region number said whole below e =
    let it = region_there m.regions.items region below in
    let of_table : it.0.table ≡ Some number = sym (ap table_number it.1) ∙ answering_some said (table_number (slice_get m.regions.items region)) number e in
    number_below (length m.servers.items) it.0 number (each_read (IsNumbered (length m.servers.items)) m.regions.items region it.0 whole.numbered it.1) of_table

pub table_there : (tables : List Timetable) (number : ℕ) → number < length tables → (table : Timetable) × (slice_get tables number ≡ Some table)
table_there [] number below = absurd (omega (arith, below))
table_there (t ∷ tables) zero below = (t, refl)
table_there (t ∷ tables) (suc number) below = table_there tables number (omega (arith, below))

unsaid_reply : (said : Option What) (table : Timetable) (request out : List ℕ) → said ≡ None → IsReplyBy said table request out → ServesByTable table request out
unsaid_reply said table request out e h = subst (λ (s : Option What). IsReplyBy s table request out) e h

-- an ask that was just made is kept
fresh_served : (m : Inside) (region number : ℕ) (request : List ℕ) (needed : ℕ) (said : Option What) (table : Timetable) (p : Pending) → IsWhole m → region < length m.regions.items
    → answering said (table_number (slice_get m.regions.items region)) ≡ Some number → slice_get m.servers.items number ≡ Some table → IsMade region request needed said table p → said ≡ None → m.tells_servers ≡ true
    → IsServed p (tables_of m.servers.items m.regions.items)
fresh_served m region number request needed said table p whole below answers is made none tells =
    let it = region_there m.regions.items region below in
    let of_table : it.0.table ≡ Some number = sym (ap table_number it.1) ∙ answering_some said (table_number (slice_get m.regions.items region)) number answers in
    let there : slice_get (tables_of m.servers.items m.regions.items) region ≡ Some table =
    table_told m.servers.items m.regions.items region it.0 table whole.numbered (whole.told tells) it.1 (ap (table_at m.servers.items) of_table ∙ is) in
    let serves : ServesByTable table request p.reply.items = unsaid_reply said table request p.reply.items none made.reply_by in
    record {
      steady = made.fails_by ∙ ap fails_later none;
      some = served_some table request p.reply.items serves;
      serves = (
        table,
        subst (λ (r : ℕ). slice_get (tables_of m.servers.items m.regions.items) r ≡ Some table) (sym made.to_region) there,
        subst (λ (bytes : List ℕ). ServesByTable table bytes p.reply.items) (sym made.of_request) serves,
      );
    }

pub fresh_kept : (m : Inside) (region number now : ℕ) (request : List ℕ) (needed : ℕ) (said : Option What) (table : Timetable) (p : Pending) → IsWhole m → region < length m.regions.items
    → answering said (table_number (slice_get m.regions.items region)) ≡ Some number → slice_get m.servers.items number ≡ Some table → IsMade region request needed said table p → (m.tells_servers ≡ true → said ≡ None) → needed ≤ now
    → IsKept (length m.regions.items) (told_by m) m.most now p
fresh_kept m region number now request needed said table p whole below answers is made unsaid few = record {
  of_region = subst (λ (r : ℕ). r < length m.regions.items) (sym made.to_region) below;
  within = subst (λ (n : ℕ). n ≤ length p.reply.items) (sym made.none_taken) (omega arith);
  at_end = λ e. absurd (true≢false (sym e ∙ made.not_ended));
  at_once = λ _ h. absurd (omega (arith, h, made.none_taken));
  few = omega (arith, made.needs, few);
  served = if_tables m.tells_servers m.servers.items m.regions.items (IsServed p) (λ tells. fresh_served m region number request needed said table p whole below answers is made (unsaid tells) tells);
}

kept_higher : (regions : ℕ) (told : Option (List Timetable)) (most before now : ℕ) (asks : Slab Pending) → before ≤ now → AreKept regions told most before asks → AreKept regions told most now asks
kept_higher regions told most before now asks higher kept key q at =
    let k : IsKept regions told most before q = kept key q at in
    let few : q.rests ≤ before = k.few in
    record { of_region = k.of_region; within = k.within; at_end = k.at_end; at_once = k.at_once; few = omega (arith, few, higher); served = k.served }

pub whole_asked : (m n : Inside) (key : ℕ) (p : Pending) → IsWhole m → SameTerms (view_of m) (view_of n) → n.regions.items ≡ m.regions.items → m.patience ≤ n.patience → get n.asks key ≡ Some p → OthersAre m.asks n.asks key
    → IsKept (length m.regions.items) (told_by m) m.most n.patience p → IsWhole n
whole_asked m n key p whole terms regions higher is others fits =
    whole_after m n whole terms (same_regions m n regions) (λ tells. subst (λ (rs : List Region). Each IsToldOf rs) (sym regions) (whole.told tells))
    (kept_with (length m.regions.items) (told_by m) m.most n.patience m.asks n.asks key p (kept_higher (length m.regions.items) (told_by m) m.most m.patience n.patience m.asks higher whole.kept) is others fits)

pub whole_refused : (m n : Inside) → IsWhole m → SameTerms (view_of m) (view_of n) → n.regions.items ≡ m.regions.items → n.patience ≡ m.patience → ((key : ℕ) → get n.asks key ≡ get m.asks key) → IsWhole n
whole_refused m n whole terms regions patience asks =
    whole_after m n whole terms (same_regions m n regions) (λ tells. subst (λ (rs : List Region). Each IsToldOf rs) (sym regions) (whole.told tells))
    (subst (λ (k : ℕ). AreKept (length m.regions.items) (told_by m) m.most k n.asks) (sym patience) (λ key p at. whole.kept key p (sym (asks key) ∙ at)))

-- where timetables are told no ask fails
told_answers : (m : Inside) (region : ℕ) (said : Option What) → IsWhole m → region < length m.regions.items → said ≡ None → answering said (table_number (slice_get m.regions.items region)) ≡ None → m.tells_servers ≡ true → ⊥
told_answers m region said whole below unsaid none tells =
    let it = region_there m.regions.items region below in
    let told : IsToldOf it.0 = each_read IsToldOf m.regions.items region it.0 (whole.told tells) it.1 in
    let gone : it.0.table ≡ None = sym (ap table_number it.1) ∙ (sym (ap (λ (s : Option What). answering s (table_number (slice_get m.regions.items region))) unsaid) ∙ none) in
    absurd (true≢false (sym told.has_table ∙ ap (λ (o : Option ℕ). is_some o) gone))

pub whole_failed : (m n : Inside) (region : ℕ) (r : Region) (said : Option What) → IsWhole m → SameTerms (view_of m) (view_of n) → region < length m.regions.items → slice_get m.regions.items region ≡ Some r → ChangesAt faulted m.regions.items n.regions.items region
    → IfSome (slice_get m.regions.items region) DoesNotFall → (m.tells_servers ≡ true → said ≡ None) → answering said (table_number (slice_get m.regions.items region)) ≡ None → n.asks ≡ m.asks → n.patience ≡ m.patience → IsWhole n
whole_failed m n region r said whole terms below there h later unsaid none asks patience =
    let counted = counted_fault m n region r mores.Failed there h later in
    whole_after m n whole terms counted.same (λ tells. absurd (told_answers m region said whole below (unsaid tells) none tells))
    (subst (λ (k : ℕ). AreKept (length m.regions.items) (told_by m) m.most k n.asks) (sym patience) (subst (λ (s : Slab Pending). AreKept (length m.regions.items) (told_by m) m.most m.patience s) (sym asks) whole.kept))

-- ---- what an ask does here

pub makes_by : (m n : Inside) (region key : ℕ) (request : List ℕ) (number : ℕ) (table : Timetable) (p : Pending) → SameTerms (view_of m) (view_of n) → n.regions.items ≡ m.regions.items → n.made ≡ next_count m.made → n.rested ≡ m.rested
    → answering (said_in m.script.entries n.made) (table_number (slice_get m.regions.items region)) ≡ Some number → slice_get m.servers.items number ≡ Some table → get n.asks key ≡ Some p
    → IsMade region request (rests_needed m.order n.made) (said_in m.script.entries n.made) table p → AsksBy (view_of m) (view_of n) region request (Ok (record { key = key }))
makes_by m n region key request number table p terms regions made rest answers is at fresh = record {
  terms = terms;
  ends_by = record {
    counted = made;
    regions_same = regions;
    number = number;
    answers = subst (λ (k : ℕ). answering (said_in m.script.entries k) (table_number (slice_get m.regions.items region)) ≡ Some number) made answers;
    table = table;
    table_is = is;
    ask = p;
    ask_is = at;
    made = subst (λ (k : ℕ). IsMade region request (rests_needed m.order k) (said_in m.script.entries k) table p) made fresh;
  };
  rested_same = rest;
}

pub fails_by : (m n : Inside) (region : ℕ) (request : List ℕ) → SameTerms (view_of m) (view_of n) → n.made ≡ next_count m.made → n.rested ≡ m.rested → n.asks ≡ m.asks → ChangesAt faulted m.regions.items n.regions.items region
    → answering (said_in m.script.entries n.made) (table_number (slice_get m.regions.items region)) ≡ None → AsksBy (view_of m) (view_of n) region request (Err refused.Failed)
fails_by m n region request terms made rest asks rises none = record {
  terms = terms;
  ends_by = record {
    counted = made;
    asks_same = asks;
    none_answers = subst (λ (k : ℕ). answering (said_in m.script.entries k) (table_number (slice_get m.regions.items region)) ≡ None) made none;
    rises = rises;
  };
  rested_same = rest;
}

pub none_by : (m n : Inside) (region : ℕ) (request : List ℕ) → SameTerms (view_of m) (view_of n) → n.regions.items ≡ m.regions.items → n.made ≡ m.made → n.rested ≡ m.rested → AsksBy (view_of m) (view_of n) region request (Err refused.NoMemory)
none_by m n region request terms regions made rest = record { terms = terms; ends_by = record { made_same = made; regions_same = regions }; rested_same = rest }
