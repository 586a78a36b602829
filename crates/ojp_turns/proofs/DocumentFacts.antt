-- The document of a wanted query is within its limits, and its region is one of the book.
use Rattle.std.proofs.Common.{◌≡◌, ℕ, ◌≤◌, Bool, true, false, cond, ◌⊎◌, List, [], ◌∷◌, map, Option, Some, None, length, refl, sym, subst, inl, inr, arith}
use Rattle.std.specs.List.{filter}
use Rattle.std.proofs.lemmas.List.Sums.{length-filter}
use Rattle.ojp_values.specs.Limits.{IsWellAsk}
use Rattle.ojp_values.specs.Lists.{Among}
use Rattle.ojp_values.specs.Texts.{Text, same, home}
use Rattle.ojp_values.specs.declared.asks.TripAsk.{TripAsk}
use Rattle.ojp_values.proofs.ListFacts.{Member, among_map_back}
use Rattle.ojp_exchange.specs.Book.{Book, Spot, has_region}
use Rattle.ojp_exchange.specs.Kept.{IsWellBook}
use Rattle.ojp_exchange.proofs.BookFacts.{region_is}
use Rattle.ojp_records.specs.declared.queries.Query.{Query}
use Rattle.ojp_records.specs.declared.queries.Query.TheVariants.{Check, Reach}
use Rattle.ojp_records.specs.declared.queries.Entry.{Entry}
use Rattle.ojp_records.specs.Records.{region_of}
use Rattle.ojp_records.specs.Pairs.{Pair, pair_lt, placed, with_own, pair_of, pairs_from}
use Rattle.ojp_records.specs.Places.{check}
use Rattle.ojp_records.specs.Told.{document}
use Rattle.ojp_records.specs.Wanted.{Improves, PairWanted, wanted}
use Rattle.ojp_records.proofs.BoardFacts.{ends_few, ends_some, reach_improves, wanted_is_open}
use Rattle.ojp_records.proofs.CheckedFacts.{check_open}
use Rattle.ojp_records.proofs.PlaceFacts.{OriginCheck, TargetCheck, AtPair}
use Rattle.ojp_records.proofs.WantedFacts.{WantedBy, wanted_by, check_is, pair_wanted}

-- what is asked of a wanted query is within the limits of a document
pub document_well : (book : Book) (ask : TripAsk) (told : List Entry) (query : Query) → IsWellBook book → Among query (wanted book ask told) → IsWellAsk (document book ask query)
document_well book ask told (Check region stop) well h = (omega arith, omega arith)
document_well book ask told (Reach region stop start) well h =
    let it : Improves book ask told (record { stop = stop; region = region }) start = reach_improves book ask told region stop start h in
    let few : length (filter (λ (spot : Spot). same region spot.region) book.spots) ≤ 255 =
    subst (λ (n : ℕ). n ≤ 255) (sym (length-filter (λ (spot : Spot). same region spot.region) book.spots)) (well.few region) in
    (ends_some book ask told (record { stop = stop; region = region }) start it, ends_few book ask.target stop region 255 few)

-- ---- its region

placed_among : (p x : Pair) (qs : List Pair) → Among x (placed p qs) → (x ≡ p) ⊎ Among x qs
placed_among p x [] h = elim h [ inl e ↦ inl e | inr n ↦ absurd n ]
placed_among p x (q ∷ qs) h = go (pair_lt p q) h (λ r. placed_among p x qs r)
  where
    go : (b : Bool) → Among x (cond b (p ∷ q ∷ qs) (q ∷ placed p qs)) → (Among x (placed p qs) → (x ≡ p) ⊎ Among x qs) → (x ≡ p) ⊎ Among x (q ∷ qs)
    go true (inl e) rest = inl e
    go true (inr r) rest = inr r
    go false (inl e) rest = inr (inl e)
    go false (inr r) rest = elim (rest r) [ inl e ↦ inl e | inr t ↦ inr (inr t) ]

module _ (book : Book) (well : IsWellBook book) where
  spot_region : (pair : Pair) → Among pair (map pair_of book.spots) → Among pair.region book.codes
  spot_region pair h =
      let m : Member book.spots (λ (spot : Spot). pair ≡ pair_of spot) = among_map_back pair_of pair book.spots h in
      subst (λ (p : Pair). Among p.region book.codes) (sym m.holds) (well.known m.item m.among)

  own_region : (begin code : Text) (pair : Pair) (b : Bool) → has_region book code ≡ b → Among pair (cond b (placed (record { stop = begin; region = code }) (map pair_of book.spots)) (map pair_of book.spots)) → Among pair.region book.codes
  own_region begin code pair true known h =
      elim (placed_among (record { stop = begin; region = code }) pair (map pair_of book.spots) h) [
        | inl e ↦ subst (λ (p : Pair). Among p.region book.codes) (sym e) (region_is book code known)
        | inr r ↦ spot_region pair r
      ]
  own_region begin code pair false known h = spot_region pair h

  with_own_region : (begin : Text) (code : Option Text) (pair : Pair) → Among pair (with_own book begin code (map pair_of book.spots)) → Among pair.region book.codes
  with_own_region begin None pair h = spot_region pair h
  with_own_region begin (Some code) pair h = own_region begin code pair (has_region book code) refl h

  pair_region : (begin : Text) (pair : Pair) → Among pair (pairs_from book begin) → Among pair.region book.codes
  unfolding pairs_from
  pair_region begin pair h = with_own_region begin (home begin) pair h

  -- the region of a wanted query is one of the book
  pub wanted_region : (ask : TripAsk) (told : List Entry) (query : Query) → Among query (wanted book ask told) → Among (region_of query) book.codes
  wanted_region ask told (Check region stop) h = region_is book region (check_open book ask told region stop (wanted_is_open book ask told (Check region stop) h)).1
  wanted_region ask told (Reach region stop start) h = go (wanted_by book ask told (Reach region stop start) h)
    where
      no_check : (place : Text) → Among (Reach region stop start) (check place) → ⊥
      no_check place i =
          let is : (code : Text) × (home place ≡ Some code) × (Reach region stop start ≡ Check code place) = check_is place (Reach region stop start) i in
          let both : Reach region stop start ≡ Check is.0 place = is.2 in
          cc

      go : WantedBy book ask told (Reach region stop start) → Among region book.codes
      go (OriginCheck o i) = absurd (no_check ask.origin i)
      go (TargetCheck k t i) = absurd (no_check ask.target i)
      go (AtPair o t i) =
          let w : PairWanted book ask told (Reach region stop start) = pair_wanted book ask told (Reach region stop start) i in
          let is : Reach region stop start ≡ Reach w.pair.region w.pair.stop w.start = w.is in
          let regions : w.pair.region ≡ region = cc in
          subst (λ (r : Text). Among r book.codes) regions (pair_region ask.origin w.pair w.listed)
