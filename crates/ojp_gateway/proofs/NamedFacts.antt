-- The region that a search names: a failure of it stands in the record, and its count of faults rose.
use Rattle.std.proofs.Common.{◌≡◌, ℕ, List, Option, Some, None, refl, ◌∙◌, ap, subst, inl, inr}
use Rattle.ojp_values.specs.Lists.{Each}
use Rattle.ojp_values.specs.Texts.{Text}
use Rattle.ojp_values.specs.declared.asks.TripAsk.{TripAsk}
use Rattle.ojp_values.specs.declared.replies.Fault.TheVariants.{RegionFailed}
use Rattle.ojp_values.proofs.ListFacts.{each_at}
use Rattle.ojp_exchange.specs.Book.{Book}
use Rattle.ojp_links.specs.Seen.{View}
use Rattle.ojp_records.specs.declared.queries.Query.{Query}
use Rattle.ojp_records.specs.declared.queries.Query.TheVariants.{Check, Reach}
use Rattle.ojp_records.specs.declared.queries.Entry.{Entry}
use Rattle.ojp_records.specs.Records.{Failed, region_of}
use Rattle.ojp_records.specs.Starts.{best}
use Rattle.ojp_records.specs.Ends.{failed_checks, failed_pairs, least_text, fault_by, fault, PlaceFailed, FailureStands}
use Rattle.ojp_records.specs.declared.places.PlaceState.{PlaceState}
use Rattle.ojp_records.specs.declared.places.PlaceState.TheVariants.{Unknown}
use Rattle.ojp_records.specs.Places.{place_state, checks_in}
use Rattle.ojp_records.proofs.EndFacts.{failed_check_is, failed_pair_is, least_text_among}
use Rattle.ojp_turns.specs.Faults.{FaultRose, HasCause}

-- ---- a failure of the named region stands

named_by : (book : Book) (ask : TripAsk) (told : List Entry) (region : Text) (origin target : PlaceState) (check pair : Option Text) (arrival : Option ℕ)
    → least_text (failed_checks book ask told) ≡ check → least_text (failed_pairs book ask told) ≡ pair → fault_by ask.origin ask.target origin target check pair arrival ≡ Some (RegionFailed region) → FailureStands book ask told region
named_by book ask told region Unknown target check pair arrival c p e = absurd (cc)
named_by book ask told region origin Unknown check pair arrival c p e = absurd (cc)
named_by book ask told region origin target (Some code) pair arrival c p e =
    let same : code ≡ region = cc in
    inl (failed_check_is book ask told region (least_text_among (failed_checks book ask told) region (c ∙ ap Some same)))
named_by book ask told region origin target None (Some code) arrival c p e =
    let same : code ≡ region = cc in
    inr (failed_pair_is book ask told region (least_text_among (failed_pairs book ask told) region (p ∙ ap Some same)))
named_by book ask told region origin target None None (Some arrival) c p e = absurd (cc)
named_by book ask told region origin target None None None c p e = absurd (cc)

-- of a region that is named a failure stands
pub named_stands : (book : Book) (ask : TripAsk) (told : List Entry) (region : Text) → fault book ask told ≡ Some (RegionFailed region) → FailureStands book ask told region
unfolding fault
named_stands book ask told region e =
    named_by book ask told region (place_state book (checks_in told) ask.origin) (place_state book (checks_in told) ask.target) (least_text (failed_checks book ask told)) (least_text (failed_pairs book ask told)) (best book ask told) refl refl e

-- ---- its count rose

failed_rose : (old new : View) (told : List Entry) (query : Query) → Each (HasCause old new) told → Failed told query → FaultRose old new (region_of query)
failed_rose old new told query causes failed =
    subst (λ (q : Query). FaultRose old new (region_of q)) failed.2 (each_at (HasCause old new) failed.0 told causes failed.1 failed.3)

pub place_rose : (old new : View) (told : List Entry) (stop region : Text) → Each (HasCause old new) told → PlaceFailed told stop region → FaultRose old new region
place_rose old new told stop region causes failed = failed_rose old new told (Check region stop) causes failed.1

-- of a region of which a failure stands, the count rose
pub stands_rose : (book : Book) (ask : TripAsk) (old new : View) (told : List Entry) (region : Text) → Each (HasCause old new) told → FailureStands book ask told region → FaultRose old new region
stands_rose book ask old new told region causes (inl (inl failed)) = place_rose old new told ask.origin region causes failed
stands_rose book ask old new told region causes (inl (inr failed)) = place_rose old new told ask.target region causes failed
stands_rose book ask old new told region causes (inr failed) = failed_rose old new told (Reach region failed.stop failed.start) causes failed.failed
