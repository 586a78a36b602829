-- What becomes of the subrequests that are live, where one of them goes on, ends, is told or is begun.
use Rattle.std.proofs.Common.{◌≡◌, ◌≢◌, ℕ, Bool, true, false, ◌||◌, ◌⊎◌, List, [], ◌∷◌, ◌++◌, map, Option, None, refl, sym, ◌∙◌, ap, subst, inl, inr, eqb, append_assoc}
use Rattle.std.proofs.lemmas.Bool.{true≢false, eq-eqb, eqb-true}
use Rattle.std.proofs.lemmas.List.{map-append}
use Rattle.std.proofs.lemmas.List.Folds.{list_any-append}
use Rattle.ojp_values.specs.Lists.{Among}
use Rattle.ojp_values.specs.declared.asks.TripAsk.{TripAsk}
use Rattle.ojp_values.proofs.ListFacts.{among_append, among_append_left, among_append_right, among_map}
use Rattle.ojp_exchange.specs.Book.{Book}
use Rattle.ojp_links.specs.Seen.{View, Live, Fixed, codes_of}
use Rattle.ojp_links.specs.Calls.{OthersStay}
use Rattle.ojp_records.specs.declared.queries.Query.{Query}
use Rattle.ojp_records.specs.declared.queries.Entry.{Entry}
use Rattle.ojp_records.specs.Records.{same_query, is_told}
use Rattle.ojp_records.specs.Told.{IsOpenQuery}
use Rattle.ojp_records.proofs.RecordFacts.{same_query_is}
use Rattle.ojp_turns.specs.declared.kept.Kept.{Kept}
use Rattle.ojp_turns.specs.Held.{key_of, query_of, NotAmong, AreApart, IsFor, IsForIn, AreLive, AreOpen, StandsIn}

same_by : (a b : ℕ) (v : Bool) → eqb a b ≡ v → (a ≡ b) ⊎ (a ≢ b)
same_by a b true e = inl (eqb-true a b e)
same_by a b false e = inr (λ s. true≢false (sym (eq-eqb a b s) ∙ e))

-- two numbers are the same or not
pub same_or_not : (a b : ℕ) → (a ≡ b) ⊎ (a ≢ b)
same_or_not a b = same_by a b (eqb a b) refl

not_among_snoc : {X : Type 0} (x y : X) (ys : List X) → NotAmong y ys → y ≢ x → NotAmong y (ys ++ x ∷ [])
not_among_snoc x y ys none other h = elim (among_append y ys (x ∷ []) h) [ inl l ↦ none l | inr r ↦ elim r [ inl e ↦ other e | inr n ↦ absurd n ] ]

-- one more that stood nowhere, at the end
pub apart_snoc : {X : Type 0} (x : X) (ys : List X) → AreApart ys → NotAmong x ys → AreApart (ys ++ x ∷ [])
apart_snoc x [] apart none = ((λ h. h), tt)
apart_snoc x (y ∷ ys) apart none =
    (not_among_snoc x y ys apart.0 (λ e. none (inl (sym e))), apart_snoc x ys apart.1 (λ h. none (inr h)))

-- the same, through a map
pub apart_map_snoc : {X Y : Type 0} (f : X → Y) (x : X) (ys : List X) → AreApart (map f ys) → NotAmong (f x) (map f ys) → AreApart (map f (ys ++ x ∷ []))
apart_map_snoc f x ys apart none = subst AreApart (sym (map-append f ys (x ∷ []))) (apart_snoc (f x) (map f ys) apart none)

-- a key of the others is another one
pub other_key : (h g : Kept) (rest : List Kept) → NotAmong (key_of h) (map key_of rest) → Among g rest → key_of g ≢ key_of h
other_key h g rest none among e = none (subst (λ (k : ℕ). Among k (map key_of rest)) e (among_map key_of g rest among))

-- a subrequest whose ask is as it was is for the same
pub still_for : (book : Book) (ask : TripAsk) (old new : View) (g : Kept) → new.fixed ≡ old.fixed → new.live (key_of g) ≡ old.live (key_of g)
    → IsForIn book ask (codes_of old.fixed) old.live g → IsForIn book ask (codes_of new.fixed) new.live g
still_for book ask old new g fixed e it =
    subst (λ (f : Fixed). IsFor book ask (codes_of f) (new.live (key_of g)) g) (sym fixed) (subst (λ (l : Option Live). IsFor book ask (codes_of old.fixed) l g) (sym e) it)

abbrev AreLiveIn : Book → TripAsk → List Kept → View → Type 0
AreLiveIn book ask subs v = AreLive book ask subs (codes_of v.fixed) v.live

-- the first goes on, and stands behind the others
pub live_goes_on : (book : Book) (ask : TripAsk) (old new : View) (h h' : Kept) (rest : List Kept) → new.fixed ≡ old.fixed
    → AreLiveIn book ask (h ∷ rest) old → key_of h' ≡ key_of h → OthersStay old new (key_of h) → IsForIn book ask (codes_of new.fixed) new.live h'
    → AreLiveIn book ask (rest ++ h' ∷ []) new
live_goes_on book ask old new h h' rest fixed are same others it =
    record {
      each = λ g among. elim (among_append g rest (h' ∷ []) among) [
        | inl l ↦ still_for book ask old new g fixed (others (key_of g) (other_key h g rest are.apart.0 l)) (are.each g (inr l))
        | inr r ↦ elim r [ inl e ↦ subst (IsForIn book ask (codes_of new.fixed) new.live) (sym e) it | inr n ↦ absurd n ]
      ];
      apart = apart_map_snoc key_of h' rest are.apart.1 (subst (λ (k : ℕ). NotAmong k (map key_of rest)) (sym same) are.apart.0);
      only = λ key none.
          let elsewhere : NotAmong key (map key_of rest ++ key_of h' ∷ []) = subst (λ (ks : List ℕ). NotAmong key ks) (map-append key_of rest (h' ∷ [])) none in
          let other : key ≢ key_of h = λ e. elsewhere (among_append_right key (map key_of rest) (key_of h' ∷ []) (inl (e ∙ sym same))) in
          others key other ∙ are.only key (λ a. elim a [ inl e ↦ other e | inr l ↦ elsewhere (among_append_left key (map key_of rest) (key_of h' ∷ []) l) ]);
    }

-- the first is live no more
pub live_drops : (book : Book) (ask : TripAsk) (old new : View) (h : Kept) (rest : List Kept) → new.fixed ≡ old.fixed
    → AreLiveIn book ask (h ∷ rest) old → OthersStay old new (key_of h) → new.live (key_of h) ≡ None
    → AreLiveIn book ask rest new
live_drops book ask old new h rest fixed are others gone =
    record {
      each = λ g among. still_for book ask old new g fixed (others (key_of g) (other_key h g rest are.apart.0 among)) (are.each g (inr among));
      apart = are.apart.1;
      only = λ key none. elim (same_or_not key (key_of h)) [
        | inl e ↦ ap new.live e ∙ gone
        | inr other ↦ others key other ∙ are.only key (λ a. elim a [ inl e ↦ other e | inr l ↦ none l ])
      ];
    }

-- one more is live
pub live_begins : (book : Book) (ask : TripAsk) (old new : View) (h : Kept) (subs : List Kept) → new.fixed ≡ old.fixed
    → AreLiveIn book ask subs old → NotAmong (key_of h) (map key_of subs) → OthersStay old new (key_of h) → IsForIn book ask (codes_of new.fixed) new.live h
    → AreLiveIn book ask (subs ++ h ∷ []) new
live_begins book ask old new h subs fixed are vacant others it =
    record {
      each = λ g among. elim (among_append g subs (h ∷ []) among) [
        | inl l ↦ still_for book ask old new g fixed (others (key_of g) (other_key h g subs vacant l)) (are.each g l)
        | inr r ↦ elim r [ inl e ↦ subst (IsForIn book ask (codes_of new.fixed) new.live) (sym e) it | inr n ↦ absurd n ]
      ];
      apart = apart_map_snoc key_of h subs are.apart vacant;
      only = λ key none.
          let elsewhere : NotAmong key (map key_of subs ++ key_of h ∷ []) = subst (λ (ks : List ℕ). NotAmong key ks) (map-append key_of subs (h ∷ [])) none in
          let other : key ≢ key_of h = λ e. elsewhere (among_append_right key (map key_of subs) (key_of h ∷ []) (inl e)) in
          others key other ∙ are.only key (λ l. elsewhere (among_append_left key (map key_of subs) (key_of h ∷ []) l));
    }

-- the asks are as they were
pub live_same : (book : Book) (ask : TripAsk) (old new : View) (subs : List Kept) → new.fixed ≡ old.fixed → new.live ≡ old.live → AreLiveIn book ask subs old → AreLiveIn book ask subs new
live_same book ask old new subs fixed same are =
    subst (λ (f : Fixed). AreLive book ask subs (codes_of f) new.live) (sym fixed) (subst (λ (l : ℕ → Option Live). AreLive book ask subs (codes_of old.fixed) l) (sym same) are)

-- ---- open queries

false_by : (b : Bool) → (b ≡ true → ⊥) → b ≡ false
false_by true never = absurd (never refl)
false_by false never = refl

pub other_query : (p q : Query) → q ≢ p → same_query p q ≡ false
other_query p q other = false_by (same_query p q) (λ e. other (sym (same_query_is p q e)))

or_false : (a b : Bool) → a ≡ false → b ≡ false → (a || b) ≡ false
or_false true b e f = absurd (true≢false e)
or_false false b e f = f

-- a query that is open stays so where another is told
pub open_told : (book : Book) (ask : TripAsk) (told : List Entry) (entry : Entry) (query : Query) → query ≢ entry.query → IsOpenQuery book ask told query → IsOpenQuery book ask (told ++ entry ∷ []) query
unfolding is_told
open_told book ask told entry query other it =
    record {
      before = it.before;
      since = it.since ++ entry ∷ [];
      split = sym (append_assoc it.before it.since (entry ∷ [])) ∙ ap (λ (xs : List Entry). xs ++ entry ∷ []) it.split;
      was_wanted = it.was_wanted;
      untold = list_any-append (λ (e : Entry). same_query e.query query) told (entry ∷ [])
          ∙ or_false _ _ it.untold (or_false _ _ (other_query entry.query query other) refl);
    }

-- the others stay open where the first is told
pub opens_told : (book : Book) (ask : TripAsk) (told : List Entry) (entry : Entry) (h : Kept) (rest : List Kept) → entry.query ≡ h.query → AreOpen book ask told (h ∷ rest) → AreOpen book ask (told ++ entry ∷ []) rest
opens_told book ask told entry h rest same are =
    record {
      once = are.once.1;
      each = λ g among. open_told book ask told entry g.query
          (λ e. are.once.0 (subst (λ (q : Query). Among q (map query_of rest)) (e ∙ same) (among_map query_of g rest among)))
          (are.each g (inr among));
    }

-- the others are open without the first
pub opens_rest : (book : Book) (ask : TripAsk) (told : List Entry) (h : Kept) (rest : List Kept) → AreOpen book ask told (h ∷ rest) → AreOpen book ask told rest
opens_rest book ask told h rest are = record { once = are.once.1; each = λ g among. are.each g (inr among) }

-- the first goes on
pub opens_on : (book : Book) (ask : TripAsk) (told : List Entry) (h h' : Kept) (rest : List Kept) → h'.query ≡ h.query → AreOpen book ask told (h ∷ rest) → AreOpen book ask told (rest ++ h' ∷ [])
opens_on book ask told h h' rest query are =
    record {
      once = apart_map_snoc query_of h' rest are.once.1 (subst (λ (q : Query). NotAmong q (map query_of rest)) (sym query) are.once.0);
      each = λ g among. elim (among_append g rest (h' ∷ []) among) [
        | inl l ↦ are.each g (inr l)
        | inr r ↦ elim r [
          | inl e ↦ subst (IsOpenQuery book ask told) (sym (ap query_of e ∙ query)) (are.each h (inl refl))
          | inr n ↦ absurd n
        ]
      ];
    }

-- ---- both

pub stands_told : (book : Book) (ask : TripAsk) (told : List Entry) (old new : View) (entry : Entry) (h : Kept) (rest : List Kept) → new.fixed ≡ old.fixed
    → StandsIn book ask told (h ∷ rest) old → OthersStay old new (key_of h) → new.live (key_of h) ≡ None → entry.query ≡ h.query
    → StandsIn book ask (told ++ entry ∷ []) rest new
stands_told book ask told old new entry h rest fixed it others gone same =
    record { are_live = live_drops book ask old new h rest fixed it.are_live others gone; are_open = opens_told book ask told entry h rest same it.are_open }

pub stands_dropped : (book : Book) (ask : TripAsk) (told : List Entry) (old new : View) (h : Kept) (rest : List Kept) → new.fixed ≡ old.fixed
    → StandsIn book ask told (h ∷ rest) old → OthersStay old new (key_of h) → new.live (key_of h) ≡ None
    → StandsIn book ask told rest new
stands_dropped book ask told old new h rest fixed it others gone =
    record { are_live = live_drops book ask old new h rest fixed it.are_live others gone; are_open = opens_rest book ask told h rest it.are_open }

pub stands_on : (book : Book) (ask : TripAsk) (told : List Entry) (old new : View) (h h' : Kept) (rest : List Kept) → new.fixed ≡ old.fixed
    → StandsIn book ask told (h ∷ rest) old → key_of h' ≡ key_of h → h'.query ≡ h.query → OthersStay old new (key_of h) → IsForIn book ask (codes_of new.fixed) new.live h'
    → StandsIn book ask told (rest ++ h' ∷ []) new
stands_on book ask told old new h h' rest fixed it same query others is_for =
    record { are_live = live_goes_on book ask old new h h' rest fixed it.are_live same others is_for; are_open = opens_on book ask told h h' rest query it.are_open }
