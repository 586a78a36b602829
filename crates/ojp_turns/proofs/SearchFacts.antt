-- A search before its first turn and after each.
use Rattle.std.proofs.Common.{◌≡◌, ◌≢◌, ◌==◌, ℕ, ◌+◌, ◌≤◌, ◌<◌, Bool, true, false, List, [], ◌∷◌, ◌++◌, map, length, Option, refl, sym, ◌∙◌, ap, subst, inl, arith}
use Rattle.std.proofs.lemmas.Bool.{true≢false, eq-eqb, eqb-true}
use Rattle.ojp_values.specs.Lists.{Among}
use Rattle.ojp_values.specs.declared.asks.TripAsk.{TripAsk}
use Rattle.ojp_exchange.specs.Book.{Book}
use Rattle.ojp_links.specs.Seen.{View, NoneLive, codes_of}
use Rattle.ojp_links.specs.Calls.{Keeps}
use Rattle.ojp_records.specs.declared.queries.Query.{Query}
use Rattle.ojp_records.specs.declared.queries.Entry.{Entry}
use Rattle.ojp_records.specs.Records.{region_of}
use Rattle.ojp_records.specs.Wanted.{wanted}
use Rattle.ojp_labels.specs.Boards.{IsBoardOf, ask_of, told_of}
use Rattle.ojp_turns.specs.declared.kept.Kept.{Kept}
use Rattle.ojp_turns.specs.declared.search.Outcome.{Outcome}
use Rattle.ojp_turns.specs.declared.search.Outcome.TheVariants as outcomes
use Rattle.ojp_turns.specs.declared.search.Search.{Search}
use Rattle.ojp_turns.specs.declared.search.Turn.{Turn}
use Rattle.ojp_turns.specs.declared.search.Turn.TheVariants as turns
use Rattle.ojp_turns.specs.Held.{key_of, query_of, AreLive, AreOpen, StandsIn}
use Rattle.ojp_turns.specs.Faults.{HasCause}
use Rattle.ojp_turns.specs.Slots.{AreAsked, IsNoneAsked, IsWithinBound, left_from, most_asks}
use Rattle.ojp_turns.specs.Turning.{Passes, Settles}
use Rattle.ojp_turns.specs.Searches.{IsNewFor, CanTurn, EndsAs, GoesOn, Means, Turns}
use Rattle.ojp_turns.proofs.AskFacts.{regions_kept, each_turned}
use Rattle.ojp_turns.proofs.BoundFacts.{none_bounded}
use Rattle.ojp_turns.proofs.PollFacts.{keeps_on}
use Rattle.ojp_turns.proofs.RoundFacts.{fault_on}

-- ---- a new search

none_open : (book : Book) (ask : TripAsk) (told : List Entry) (subs : List Kept) → subs ≡ [] → AreOpen book ask told subs
none_open book ask told subs e = subst (AreOpen book ask told) (sym e) (record { once = tt; each = λ kept h. absurd h })

pub new_search : (book : Book) (asking : TripAsk) (s : Search) (numbers : ℕ) → IsBoardOf s.board book → ask_of s.board ≡ asking → told_of s.board ≡ [] → asking.origin ≢ asking.target → s.subs.items ≡ []
    → numbers ≡ length book.spots + 3 → IsNoneAsked numbers s.asked → s.done ≡ false → IsNewFor book asking s
new_search book asking s numbers of same told differ subs count none not_done =
    record {
      is_search = record {
        board_of = of;
        differ = subst (λ (a : TripAsk). a.origin ≢ a.target) (sym same) differ;
        are_open = none_open book (ask_of s.board) (told_of s.board) s.subs.items subs;
        asked = record {
          count = none.count ∙ count;
          each_live = λ query h. absurd (subst (λ (ks : List Kept). Among query (map query_of ks)) subs h);
          or_unwanted = λ number query at. absurd (none.each number query at);
          stands = λ number query at. absurd (none.each number query at);
          was = λ number query at. absurd (none.each number query at);
        };
        bounded = subst (λ (n : ℕ). n + left_from book (ask_of s.board) 0 s.asked.last.items ≤ most_asks book (ask_of s.board)) (sym none.none)
            (let low : left_from book (ask_of s.board) 0 s.asked.last.items ≤ most_asks book (ask_of s.board) =
            none_bounded book (ask_of s.board) s.asked.last.items of.book_well of.origin_well (none.count ∙ count) none.each in omega (arith, low));
      };
      asks_this = same;
      nothing_told = told;
      none_asked = none.none;
      none_held = subs;
      not_done = not_done;
    }

-- ---- after a turn

bound_of : (book : Book) (ask : TripAsk) (last : List (Option Query)) (asks : ℕ) → IsWithinBound book ask last asks → asks ≤ most_asks book ask
bound_of book ask last asks bound = omega (arith, bound)

none_wanted : (subs : List Kept) (queries : List Query) → ((query : Query) → Among query queries → Among query (map query_of subs)) → subs ≡ [] → queries ≡ []
none_wanted subs [] all e = refl
none_wanted subs (q ∷ queries) all e = absurd (subst (λ (ks : List Kept). Among q (map query_of ks)) e (all q (inl refl)))

some_wanted : (subs : List Kept) (queries : List Query) → ((query : Query) → Among query (map query_of subs) → Among query queries) → subs ≢ [] → queries ≢ []
some_wanted [] queries all some e = absurd (some refl)
some_wanted (k ∷ subs) queries all some e = subst (Among k.query) e (all k.query (inl refl))

module _ (book : Book) (old new : View) (s now : Search) (can : CanTurn book s old)
    (of : IsBoardOf now.board book) (same : ask_of now.board ≡ ask_of s.board) (stands : StandsIn book (ask_of s.board) (told_of now.board) now.subs.items new)
    (bounded : IsWithinBound book (ask_of s.board) now.asked.last.items now.asked.count) (more : s.asked.count ≤ now.asked.count)
    (passes : Passes book (ask_of s.board) old new s.subs.items (told_of s.board) (told_of now.board)) where
  -- nothing is wanted where nothing is live
  pub settled : (moved : Bool) → Settles moved book (ask_of s.board) old new s.subs.items now.subs.items s.asked.count now.asked.count (told_of s.board) (told_of now.board) → now.subs.items ≡ [] → wanted book (ask_of s.board) (told_of now.board) ≡ []
  settled moved settles none = none_wanted now.subs.items (wanted book (ask_of s.board) (told_of now.board)) (λ query. (settles.just_wanted.just_these query).1) none

  can_turn : AreAsked book (ask_of s.board) (told_of now.board) now.subs.items now.asked.last.items → now.done ≡ s.done → CanTurn book now new
  can_turn asked done =
      record {
        not_done = done ∙ can.not_done;
        is_search = record {
          board_of = of;
          differ = subst (λ (a : TripAsk). a.origin ≢ a.target) (sym same) can.is_search.differ;
          are_open = subst (λ (a : TripAsk). AreOpen book a (told_of now.board) now.subs.items) (sym same) stands.are_open;
          asked = subst (λ (a : TripAsk). AreAsked book a (told_of now.board) now.subs.items now.asked.last.items) (sym same) asked;
          bounded = subst (λ (a : TripAsk). IsWithinBound book a now.asked.last.items now.asked.count) (sym same) bounded;
        };
        regions = regions_kept book old new passes.keeps can.regions;
        live = subst (λ (a : TripAsk). AreLive book a now.subs.items (codes_of new.fixed) new.live) (sym same) stands.are_live;
      }

  goes_on : (moved : Bool) → AreAsked book (ask_of s.board) (told_of now.board) now.subs.items now.asked.last.items
      → Settles moved book (ask_of s.board) old new s.subs.items now.subs.items s.asked.count now.asked.count (told_of s.board) (told_of now.board) → now.done ≡ s.done → now.subs.items ≢ [] → GoesOn moved book old new s now
  goes_on moved asked settles done some =
      record {
        can_turn = can_turn asked done;
        settles = settles;
        some_live = some;
        some_wanted = some_wanted now.subs.items (wanted book (ask_of s.board) (told_of now.board)) (λ query. (settles.just_wanted.just_these query).0) some;
      }

  turns_as : (answer : Turn) → Means answer book old new s now → Turns book old new s now answer
  turns_as answer means =
      record {
        same_ask = same;
        passes = passes;
        is_record = of.record_of;
        more_asks = more;
        bounded = bound_of book (ask_of s.board) now.asked.last.items now.asked.count bounded;
        means = means;
      }

  pub turn_moved : AreAsked book (ask_of s.board) (told_of now.board) now.subs.items now.asked.last.items
      → Settles true book (ask_of s.board) old new s.subs.items now.subs.items s.asked.count now.asked.count (told_of s.board) (told_of now.board) → now.done ≡ s.done → now.subs.items ≢ [] → Turns book old new s now turns.Moved
  turn_moved asked settles done some = turns_as turns.Moved (goes_on true asked settles done some)

  pub turn_waits : AreAsked book (ask_of s.board) (told_of now.board) now.subs.items now.asked.last.items
      → Settles false book (ask_of s.board) old new s.subs.items now.subs.items s.asked.count now.asked.count (told_of s.board) (told_of now.board) → now.done ≡ s.done → now.subs.items ≢ [] → Turns book old new s now turns.Waits
  turn_waits asked settles done some = turns_as turns.Waits (goes_on false asked settles done some)

  -- nothing is live any more
  pub turn_ends : (outcome : Outcome) → EndsAs book (ask_of now.board) (told_of now.board) outcome → now.done ≡ true → now.subs.items ≡ [] → Turns book old new s now (turns.Done outcome)
  turn_ends outcome ends done none =
      turns_as (turns.Done outcome)
      (record { done = done; none_live = λ key. stands.are_live.only key (λ h. subst (λ (ks : List Kept). Among key (map key_of ks)) none h); ends = ends })

-- a turn that had no memory: what was live was cancelled
pub passes_on : (book : Book) (ask : TripAsk) (old mid new : View) (subs : List Kept) (before after : List Entry) → Passes book ask old mid subs before after → Keeps mid new → new.rejections ≡ mid.rejections → Passes book ask old new subs before after
passes_on book ask old mid new subs before after it keeps calm =
    record {
      keeps = keeps_on old mid new it.keeps keeps;
      tells = record {
        heard = it.tells.heard;
        refused = it.tells.refused;
        grows = it.tells.grows;
        of_live = it.tells.of_live;
        failures = it.tells.failures;
        causes = each_turned (HasCause old mid) (HasCause old new) (it.tells.heard ++ it.tells.refused) (λ entry cause none. fault_on old mid new (region_of entry.query) keeps (cause none)) it.tells.causes;
      };
      given = it.given;
      rejects_none = λ tables tells whole given region. ap (λ (f : ℕ → ℕ). f region) calm ∙ it.rejects_none tables tells whole given region;
    }

pub turn_lost : (book : Book) (old mid new : View) (s now : Search) → IsBoardOf now.board book → ask_of now.board ≡ ask_of s.board
    → IsWithinBound book (ask_of s.board) now.asked.last.items now.asked.count → s.asked.count ≤ now.asked.count
    → Passes book (ask_of s.board) old mid s.subs.items (told_of s.board) (told_of now.board) → Keeps mid new → new.rejections ≡ mid.rejections → NoneLive new → now.done ≡ true → Turns book old new s now (turns.Done outcomes.NoMemory)
turn_lost book old mid new s now of same bounded more passes keeps calm none done =
    record {
      same_ask = same;
      passes = passes_on book (ask_of s.board) old mid new s.subs.items (told_of s.board) (told_of now.board) passes keeps calm;
      is_record = of.record_of;
      more_asks = more;
      bounded = bound_of book (ask_of s.board) now.asked.last.items now.asked.count bounded;
      means = record { done = done; none_live = none; ends = tt };
    }

-- whether something is live, by the length of what is kept
pub none_kept : (subs : List Kept) (n : ℕ) → n ≡ length subs → true ≡ (n == 0) → subs ≡ []
none_kept [] n long e = refl
none_kept (k ∷ subs) n long e = absurd (not_none n (omega (arith, long)) e)
  where
    not_none : (m : ℕ) → 0 < m → true ≡ (m == 0) → ⊥
    not_none m some f = let none : m ≡ 0 = eqb-true m 0 (sym f) in omega (arith, some, none)

pub some_kept : (subs : List Kept) (n : ℕ) → n ≡ length subs → false ≡ (n == 0) → subs ≢ []
some_kept subs n long e none =
    let zero_long : n ≡ 0 = long ∙ ap length none in
    true≢false (sym (eq-eqb n 0 zero_long) ∙ sym e)
