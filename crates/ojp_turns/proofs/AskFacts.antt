-- What one ask leaves, and the asks one after another.
use Rattle.std.proofs.Common.{◌≡◌, ◌≢◌, ℕ, zero, suc, ◌+◌, ◌^◌, ◌<◌, ◌≤◌, Bool, true, false, ◌||◌, List, [], ◌∷◌, ◌++◌, map, set, length, get_or, Option, Some, None, IsSome, IsTrue, refl, sym, ◌∙◌, ap, subst, inl, inr, arith, append-nil, append_assoc}
use Rattle.std.specs.Prelude.{MatchBool}
use Rattle.std.proofs.lemmas.Bool.{true≢false}
use Rattle.std.proofs.lemmas.Option.{same_Some}
use Rattle.std.proofs.lemmas.List.{map-append}
use Rattle.ojp_values.specs.Lists.{Among, Each}
use Rattle.ojp_values.specs.Texts.{Text, is_stop_ref}
use Rattle.ojp_values.specs.declared.asks.Ask.{Ask}
use Rattle.ojp_values.specs.declared.asks.TripAsk.{TripAsk}
use Rattle.ojp_values.proofs.ListFacts.{Member, among_append, among_append_left, among_append_right, among_map, among_map_back}
use Rattle.ojp_exchange.specs.Book.{Book}
use Rattle.ojp_exchange.specs.Kept.{IsWellBook}
use Rattle.ojp_links.specs.declared.expect.Expect.TheVariants as expects
use Rattle.ojp_links.specs.Seen.{View, Live, Fixed, code_in, code_at, codes_of}
use Rattle.ojp_links.specs.Calls.{Keeps}
use Rattle.ojp_records.specs.declared.queries.Query.{Query}
use Rattle.ojp_records.specs.declared.queries.Entry.{Entry}
use Rattle.ojp_records.specs.Records.{region_of}
use Rattle.ojp_records.specs.Told.{document, IsOpenQuery, IsRecord}
use Rattle.ojp_records.specs.Wanted.{wanted}
use Rattle.ojp_records.proofs.BoardFacts.{wanted_is_open}
use Rattle.ojp_labels.specs.Slots.{slots}
use Rattle.ojp_labels.proofs.SlotFacts.{slot_wanted, slots_length}
use Rattle.ojp_subrequests.specs.Subrequests.{MakesAsk}
use Rattle.ojp_turns.specs.declared.kept.Kept.{Kept}
use Rattle.ojp_turns.specs.Held.{key_of, query_of, NotAmong, IsForIn, AreOpen, HasRegions, StandsIn}
use Rattle.ojp_turns.specs.Faults.{HasCause}
use Rattle.ojp_turns.specs.Slots.{IsLastAt, AreAsked, IsWithinBound}
use Rattle.ojp_turns.specs.Asking.{StayLive, AllWanted, IsAsked, IsAsking, AsksMore, AsksSome}
use Rattle.ojp_turns.proofs.HeldFacts.{apart_map_snoc, live_begins, live_same, open_told, same_or_not}
use Rattle.ojp_turns.proofs.PollFacts.{keeps_on, keeps_self}
use Rattle.ojp_turns.proofs.RoundFacts.{fault_on, fault_from}
use Rattle.ojp_turns.proofs.NumberFacts.{SlotOf, slot_stands, wanted_slot, wanted_stands}
use Rattle.ojp_turns.proofs.AskedFacts.{told_unwanted, is_missing, asked_begun, asked_refused, fails_none_new, fails_all_wanted, begun_all_wanted}
use Rattle.ojp_turns.proofs.BoundFacts.{left_falls, bounded_more, asks_fit}

-- ---- regions

pub regions_kept : (book : Book) (old new : View) → Keeps old new → HasRegions book old → HasRegions book new
regions_kept book old new keeps it = subst (λ (f : Fixed). (code : Text) → (Among code book.codes → Among code (codes_of f)) × (Among code (codes_of f) → Among code book.codes)) (sym keeps.fixed) it

-- a code stands at a number
pub code_number : (codes : List Text) (code : Text) → Among code codes → (k : ℕ) × (k < length codes) × (code_in codes k ≡ code)
code_number [] code h = absurd h
code_number (c ∷ codes) code (inl e) = (zero, omega arith, sym e)
code_number (c ∷ codes) code (inr h) =
    let it : (k : ℕ) × (k < length codes) × (code_in codes k ≡ code) = code_number codes code h in
    (suc it.0, omega (arith, it.1), it.2)

-- ---- one ask

-- a key under which nothing is live is none of the subrequests'
vacant_key : (book : Book) (ask : TripAsk) (told : List Entry) (v : View) (subs : List Kept) (key : ℕ) → StandsIn book ask told subs v → v.live key ≡ None → NotAmong key (map key_of subs)
vacant_key book ask told v subs key it vacant among =
    let m : Member subs (λ h. key ≡ key_of h) = among_map_back key_of key subs among in
    let is_live : IsSome (v.live (key_of m.item)) = (it.are_live.each m.item m.among).held_as.own.live in
    let none : v.live (key_of m.item) ≡ None = ap v.live (sym m.holds) ∙ vacant in
    absurd (true≢false (sym (subst IsSome none is_live)))

-- one more is live, with a wanted query that was not live
pub stands_begun : (book : Book) (ask : TripAsk) (told : List Entry) (old new : View) (subs : List Kept) (h : Kept) (region : ℕ) (asking : Ask)
    → StandsIn book ask told subs old → MakesAsk old new region asking true h.sub → asking ≡ document book ask h.query → code_at old region ≡ region_of h.query
    → Among h.query (wanted book ask told) → NotAmong h.query (map query_of subs) → Keeps old new
    → StandsIn book ask told (subs ++ h ∷ []) new
stands_begun book ask told old new subs h region asking it makes is_document is_region is_wanted missing keeps =
    let is_for : IsForIn book ask (codes_of new.fixed) new.live h = record {
      of_region = ap (λ (f : Fixed). code_in (codes_of f) h.sub.region) keeps.fixed ∙ (ap (code_in (codes_of old.fixed)) makes.of_region ∙ is_region);
      asks = makes.expects ∙ (ap (λ (c : Text). expects.Region c asking) is_region ∙ ap (expects.Region (region_of h.query)) is_document);
      held_as = makes.held;
    } in
    record {
      are_live = live_begins book ask old new h subs keeps.fixed it.are_live (vacant_key book ask told old subs (key_of h) it makes.begins.vacant) makes.begins.others is_for;
      are_open = record {
        once = apart_map_snoc query_of h subs it.are_open.once missing;
        each = λ g among. elim (among_append g subs (h ∷ []) among) [
          | inl l ↦ it.are_open.each g l
          | inr r ↦ elim r [ inl e ↦ subst (IsOpenQuery book ask told) (sym (ap query_of e)) (wanted_is_open book ask told h.query is_wanted) | inr n ↦ absurd n ]
        ];
      };
    }

-- the asks that were live are as they were
pub stay_begun : (book : Book) (ask : TripAsk) (told : List Entry) (old new : View) (subs : List Kept) (region : ℕ) (asking : Ask) (h : Kept) → StandsIn book ask told subs old → MakesAsk old new region asking true h.sub → StayLive old new subs
stay_begun book ask told old new subs region asking h it makes g among =
    makes.begins.others (key_of g) (λ e. vacant_key book ask told old subs (key_of h) it makes.begins.vacant (subst (λ (k : ℕ). Among k (map key_of subs)) e (among_map key_of g subs among)))

-- a refused ask: the live asks are as they were, and its failure was told
pub stands_refused : (book : Book) (ask : TripAsk) (told after : List Entry) (old new : View) (subs : List Kept) (query : Query)
    → StandsIn book ask told subs old → NotAmong query (map query_of subs) → Keeps old new → new.live ≡ old.live → after ≡ told ++ record { query = query; reply = None } ∷ []
    → StandsIn book ask after subs new
stands_refused book ask told after old new subs query it missing keeps same tells =
    record {
      are_live = live_same book ask old new subs keeps.fixed same it.are_live;
      are_open = subst (λ (xs : List Entry). AreOpen book ask xs subs) (sym tells)
          (record {
            once = it.are_open.once;
            each = λ g among. open_told book ask told (record { query = query; reply = None }) g.query
                (λ e. missing (subst (λ (q : Query). Among q (map query_of subs)) e (among_map query_of g subs among)))
                (it.are_open.each g among);
          });
    }

-- nothing was told, and the live asks are as they were
pub stands_same : (book : Book) (ask : TripAsk) (told after : List Entry) (old new : View) (subs now : List Kept) → StandsIn book ask told subs old → Keeps old new → new.live ≡ old.live → after ≡ told → now ≡ subs
    → StandsIn book ask after now new
stands_same book ask told after old new subs now it keeps same tells are =
    subst (λ (ks : List Kept). StandsIn book ask after ks new) (sym are)
    (subst (λ (xs : List Entry). StandsIn book ask xs subs new) (sym tells)
    (record { are_live = live_same book ask old new subs keeps.fixed same it.are_live; are_open = it.are_open }))

pub stay_same : (old new : View) (subs : List Kept) → new.live ≡ old.live → StayLive old new subs
stay_same old new subs same g among = ap (λ (l : ℕ → Option Live). l (key_of g)) same

-- ---- asks one after another

pub asks_none : (book : Book) (ask : TripAsk) (v : View) (subs : List Kept) (told : List Entry) → AsksMore book ask v v subs subs told told
asks_none book ask v subs told =
    record {
      keeps = keeps_self v;
      rejections = refl;
      begun = [];
      grows = sym (append-nil subs);
      refused = [];
      tells = sym (append-nil told);
      failures = tt;
      causes = tt;
      same = λ g among. refl;
      none_new = λ query h. h;
    }

pub some_none : (asks : ℕ) (v : View) (subs : List Kept) (told : List Entry) → AsksSome false asks asks v v subs subs told told
some_none asks v subs told = (refl, record { same_links = refl; same_subs = refl; same_told = refl })

each_joined : {X : Type 0} (P : X → Type 0) (xs ys : List X) → Each P xs → Each P ys → Each P (xs ++ ys)
each_joined P [] ys all more = more
each_joined P (x ∷ xs) ys all more = (all.0, each_joined P xs ys all.1 more)

pub each_turned : {X : Type 0} (P Q : X → Type 0) (xs : List X) → ((x : X) → P x → Q x) → Each P xs → Each Q xs
each_turned P Q [] f all = tt
each_turned P Q (x ∷ xs) f all = (f x all.0, each_turned P Q xs f all.1)

pub asks_on : (book : Book) (ask : TripAsk) (old mid new : View) (start now last : List Kept) (before told after : List Entry) → AsksMore book ask old mid start now before told → AsksMore book ask mid new now last told after
    → AsksMore book ask old new start last before after
asks_on book ask old mid new start now last before told after x y =
    record {
      keeps = keeps_on old mid new x.keeps y.keeps;
      rejections = y.rejections ∙ x.rejections;
      begun = x.begun ++ y.begun;
      grows = y.grows ∙ (ap (λ (ks : List Kept). ks ++ y.begun) x.grows ∙ append_assoc start x.begun y.begun);
      refused = x.refused ++ y.refused;
      tells = y.tells ∙ (ap (λ (xs : List Entry). xs ++ y.refused) x.tells ∙ append_assoc before x.refused y.refused);
      failures = each_joined (λ (entry : Entry). entry.reply ≡ None) x.refused y.refused x.failures y.failures;
      causes = each_joined (HasCause old new) x.refused y.refused
          (each_turned (HasCause old mid) (HasCause old new) x.refused (λ entry cause none. fault_on old mid new (region_of entry.query) y.keeps (cause none)) x.causes)
          (each_turned (HasCause mid new) (HasCause old new) y.refused (λ entry cause none. fault_from old mid new (region_of entry.query) x.keeps (cause none)) y.causes);
      same = λ g among. y.same g (subst (Among g) (sym x.grows) (among_append_left g start x.begun among)) ∙ x.same g among;
      none_new = λ query h. x.none_new query (y.none_new query h);
    }

pub some_on : (one two : Bool) (a b c : ℕ) (old mid new : View) (start now last : List Kept) (before told after : List Entry) → AsksSome one a b old mid start now before told → AsksSome two b c mid new now last told after
    → AsksSome (one || two) a c old new start last before after
some_on true true a b c old mid new start now last before told after x y = omega (arith, x, y)
some_on true false a b c old mid new start now last before told after x y = omega (arith, x, y.0)
some_on false true a b c old mid new start now last before told after x y = omega (arith, x.0, y)
some_on false false a b c old mid new start now last before told after x y =
    (y.0 ∙ x.0, record { same_links = y.1.same_links ∙ x.1.same_links; same_subs = y.1.same_subs ∙ x.1.same_subs; same_told = y.1.same_told ∙ x.1.same_told })

-- what one ask did
pub asks_begun : (book : Book) (ask : TripAsk) (old new : View) (start now : List Kept) (before after : List Entry) (query : Query) → ask.origin ≢ ask.target → Among query (wanted book ask before)
    → Keeps old new → new.rejections ≡ old.rejections → StayLive old new start → ((q : Query) → after ≡ before ++ record { query = query; reply = None } ∷ [] → Among q (wanted book ask after) → Among q (wanted book ask before))
    → IsAsked old new start now before after query → AsksMore book ask old new start now before after
asks_begun book ask old new start now before after query differ is keeps calm stays fewer (inl (kept, same, are, told)) =
    record {
      keeps = keeps;
      rejections = calm;
      begun = kept ∷ [];
      grows = are;
      refused = [];
      tells = told ∙ sym (append-nil before);
      failures = tt;
      causes = tt;
      same = stays;
      none_new = λ q h. subst (λ (xs : List Entry). Among q (wanted book ask xs)) told h;
    }
asks_begun book ask old new start now before after query differ is keeps calm stays fewer (inr (are, told, rose)) =
    record {
      keeps = keeps;
      rejections = calm;
      begun = [];
      grows = are ∙ sym (append-nil start);
      refused = record { query = query; reply = None } ∷ [];
      tells = told;
      failures = (refl, tt);
      causes = (λ none. rose, tt);
      same = stays;
      none_new = λ q h. fewer q told h;
    }

-- where memory ran out
pub asks_lost : (book : Book) (ask : TripAsk) (old new : View) (start now : List Kept) (before after : List Entry) → Keeps old new → new.rejections ≡ old.rejections → StayLive old new start → now ≡ start → after ≡ before
    → AsksMore book ask old new start now before after
asks_lost book ask old new start now before after keeps calm stays are told =
    record {
      keeps = keeps;
      rejections = calm;
      begun = [];
      grows = are ∙ sym (append-nil start);
      refused = [];
      tells = told ∙ sym (append-nil before);
      failures = tt;
      causes = tt;
      same = stays;
      none_new = λ q h. subst (λ (xs : List Entry). Among q (wanted book ask xs)) told h;
    }

-- ---- what was asked up to a number is live

abbrev pub LiveTo : ℕ → Book → TripAsk → List Entry → List Kept → Type 0
LiveTo n book ask told subs = (number : ℕ) (query : Query) → number < n → get_or (slots book ask told) number None ≡ Some query → Among query (map query_of subs)

-- what stands at a number after asks stood there before
pub slot_before : (book : Book) (ask : TripAsk) (old new : View) (start now : List Kept) (before after : List Entry) (number : ℕ) (query : Query) → IsWellBook book → IsTrue (is_stop_ref ask.origin) → ask.origin ≢ ask.target
    → AsksMore book ask old new start now before after → get_or (slots book ask after) number None ≡ Some query → get_or (slots book ask before) number None ≡ Some query
slot_before book ask old new start now before after number query well ref differ more e =
    wanted_stands book ask before number query well ref differ (slot_stands book ask after number query e) (more.none_new query (slot_wanted book ask after number query well ref e))

pub live_to_more : (book : Book) (ask : TripAsk) (old new : View) (start now : List Kept) (before after : List Entry) (n : ℕ) → IsWellBook book → IsTrue (is_stop_ref ask.origin) → ask.origin ≢ ask.target
    → AsksMore book ask old new start now before after → LiveTo n book ask before start → ((query : Query) → get_or (slots book ask after) n None ≡ Some query → Among query (map query_of now)) → LiveTo (n + 1) book ask after now
live_to_more book ask old new start now before after n well ref differ more so_far here number query below e =
    elim (same_or_not number n) [
      | inl same ↦ here query (subst (λ (k : ℕ). get_or (slots book ask after) k None ≡ Some query) same e)
      | inr other ↦
          let less : number < n = omega (arith, below, other) in
          subst (Among query) (sym (ap (map query_of) more.grows ∙ map-append query_of start more.begun))
          (among_append_left query (map query_of start) (map query_of more.begun) (so_far number query less (slot_before book ask old new start now before after number query well ref differ more e)))
    ]

-- ---- what is asked at a number

module _ (book : Book) (ask : TripAsk) (told after : List Entry) (old new : View) (subs now : List Kept) (last : List (Option Query)) (asks number : ℕ) (query : Query)
    (well : IsWellBook book) (ref : IsTrue (is_stop_ref ask.origin)) (differ : ask.origin ≢ ask.target) (record_of : IsRecord book ask told)
    (it : IsAsking book ask told subs last asks old) (within : number < length book.spots + 3) (at : get_or (slots book ask told) number None ≡ Some query) where
  in_last : number < length last
  in_last = omega (arith, within, it.asked.count)

  pub slot_is_wanted : Among query (wanted book ask told)
  slot_is_wanted = slot_wanted book ask told number query well ref at

  -- what was asked last and is wanted is live
  pub last_live : (b : Bool) → b ≡ true → MatchBool b (IsLastAt last number query) (IsLastAt last number query → ⊥) → (q : Query) → get_or (slots book ask told) number None ≡ Some q → Among q (map query_of subs)
  last_live true e here q f =
      let same : query ≡ q = same_Some query q (sym at ∙ f) in
      subst (λ (x : Query). Among x (map query_of subs)) same (elim (it.asked.or_unwanted number query here) [ inl live ↦ live | inr none ↦ absurd (none slot_is_wanted) ])
  last_live false e here q f = absurd (true≢false (sym e))

  not_last : (b : Bool) → b ≡ false → MatchBool b (IsLastAt last number query) (IsLastAt last number query → ⊥) → IsLastAt last number query → ⊥
  not_last true e it = absurd (true≢false e)
  not_last false e it = it

  pub slot_missing : (b : Bool) → b ≡ false → MatchBool b (IsLastAt last number query) (IsLastAt last number query → ⊥) → NotAmong query (map query_of subs)
  slot_missing b e here = is_missing book ask told subs last number query well ref differ it.asked in_last at (not_last b e here)

  bounded_now : (b : Bool) → b ≡ false → MatchBool b (IsLastAt last number query) (IsLastAt last number query → ⊥) → IsWithinBound book ask (set last number (Some query)) (asks + 1)
  bounded_now b e here =
      bounded_more book ask last asks number query in_last
      (left_falls book ask told query well ref record_of slot_is_wanted number last in_last (slot_stands book ask told number query at)
      (λ other l. (it.asked.stands number other l, it.asked.was number other l)) (not_last b e here)) it.bounded

  pub count_fits : (b : Bool) → b ≡ false → MatchBool b (IsLastAt last number query) (IsLastAt last number query → ⊥) → asks + 1 < 2 ^ 64
  count_fits b e here =
      let bound : IsWithinBound book ask (set last number (Some query)) (asks + 1) = bounded_now b e here in
      asks_fit book ask (asks + 1) well ref (omega (arith, bound))

  fewer : (q : Query) → after ≡ told ++ record { query = query; reply = None } ∷ [] → Among q (wanted book ask after) → Among q (wanted book ask told)
  fewer q tells h = fails_none_new book ask told after query differ slot_is_wanted tells q h

  pub slot_more : Keeps old new → new.rejections ≡ old.rejections → StayLive old new subs → IsAsked old new subs now told after query → AsksMore book ask old new subs now told after
  slot_more keeps calm stays asked = asks_begun book ask old new subs now told after query differ slot_is_wanted keeps calm stays fewer asked

  pub slot_asking : (b : Bool) (last' : List (Option Query)) (asks' : ℕ) → b ≡ false → MatchBool b (IsLastAt last number query) (IsLastAt last number query → ⊥) → StandsIn book ask after now new → IsAsked old new subs now told after query
      → last' ≡ set last number (Some query) → asks' ≡ asks + 1 → IsAsking book ask after now last' asks' new
  slot_asking b last' asks' e here stands asked last_is asks_is =
      let missing : NotAmong query (map query_of subs) = slot_missing b e here in
      let bound : IsWithinBound book ask (set last number (Some query)) (asks + 1) = bounded_now b e here in
      subst (λ (l : List (Option Query)). IsAsking book ask after now l asks' new) (sym last_is)
      (subst (λ (n : ℕ). IsAsking book ask after now (set last number (Some query)) n new) (sym asks_is)
      (elim asked [
        | inl begun ↦
            record {
              stands = stands;
              asked = subst (λ (xs : List Entry). AreAsked book ask xs now (set last number (Some query))) (sym begun.3)
                  (asked_begun book ask told subs last number query well ref differ it.asked in_last at begun.0 now begun.1 begun.2 it.all_wanted missing slot_is_wanted);
              bounded = bound;
              all_wanted = subst (λ (xs : List Entry). AllWanted book ask xs now) (sym begun.3) (begun_all_wanted book ask told query subs now begun.0 begun.1 begun.2 slot_is_wanted it.all_wanted);
            }
        | inr refused ↦
            record {
              stands = stands;
              asked = subst (λ (ks : List Kept). AreAsked book ask after ks (set last number (Some query))) (sym refused.0)
                  (asked_refused book ask told subs last number query well ref differ it.asked in_last at after refused.1 it.all_wanted missing slot_is_wanted);
              bounded = bound;
              all_wanted = subst (λ (ks : List Kept). AllWanted book ask after ks) (sym refused.0) (fails_all_wanted book ask told after query subs differ slot_is_wanted refused.1 missing it.all_wanted);
            }
      ]))

  -- what stands at the number then is live
  pub slot_live : IsAsked old new subs now told after query → (q : Query) → get_or (slots book ask after) number None ≡ Some q → Among q (map query_of now)
  slot_live (inl (kept, same, are, tells)) q f =
      let same_one : query ≡ q = same_Some query q (sym at ∙ subst (λ (xs : List Entry). get_or (slots book ask xs) number None ≡ Some q) tells f) in
      subst (λ (x : Query). Among x (map query_of now)) (same ∙ same_one)
      (among_map query_of kept now (subst (Among kept) (sym are) (among_append_right kept subs (kept ∷ []) (inl refl))))
  slot_live (inr (are, tells, rose)) q f =
      let failure : Entry = record { query = query; reply = None } in
      let is : Among q (wanted book ask after) = slot_wanted book ask after number q well ref f in
      let before : get_or (slots book ask told) number None ≡ Some q = wanted_stands book ask told number q well ref differ (slot_stands book ask after number q f) (fewer q tells is) in
      let same_one : query ≡ q = same_Some query q (sym at ∙ before) in
      absurd (told_unwanted book ask after failure (subst (Among failure) (sym tells) (among_append_right failure told (failure ∷ []) (inl refl))) (subst (λ (x : Query). Among x (wanted book ask after)) (sym same_one) is))

-- where memory ran out
pub asking_lost : (book : Book) (ask : TripAsk) (told after : List Entry) (old new : View) (subs now : List Kept) (last : List (Option Query)) (asks : ℕ) → IsAsking book ask told subs last asks old → StandsIn book ask after now new → after ≡ told → now ≡ subs
    → IsAsking book ask after now last asks new
asking_lost book ask told after old new subs now last asks it stands tells are =
    record {
      stands = stands;
      asked = subst (λ (xs : List Entry). AreAsked book ask xs now last) (sym tells) (subst (λ (ks : List Kept). AreAsked book ask told ks last) (sym are) it.asked);
      bounded = it.bounded;
      all_wanted = subst (λ (xs : List Entry). AllWanted book ask xs now) (sym tells) (subst (λ (ks : List Kept). AllWanted book ask told ks) (sym are) it.all_wanted);
    }

-- each wanted query is live, where what stands at each number is
pub none_missing : (book : Book) (ask : TripAsk) (told : List Entry) (subs : List Kept) (n : ℕ) → IsWellBook book → IsTrue (is_stop_ref ask.origin) → length book.spots + 3 ≤ n → LiveTo n book ask told subs
    → (query : Query) → Among query (wanted book ask told) → Among query (map query_of subs)
none_missing book ask told subs n well ref whole live query h =
    let it : SlotOf (slots book ask told) query = wanted_slot book ask told query well ref h in
    live it.number query (omega (arith, it.within, slots_length book ask told, whole)) it.is
