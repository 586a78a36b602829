-- The places and the exchange points of a region, as the lines of its file declare them.
use Rattle.std.proofs.Common.{◌≡◌, ◌≢◌, inl, inr, ℕ, ◌+◌, ◌<◌, ◌≤◌, Bool, false, cond, List, [], ◌∷◌, ◌++◌, refl, ◌∙◌, ap, arith}
use Rattle.std.proofs.lemmas.List.Sums.{fold-append}
use Rattle.ojp_values.specs.Lists.{Each}
use Rattle.ojp_values.specs.Texts.{Text, is_exchange, text_lt}
use Rattle.ojp_values.specs.declared.trips.Point.{Point}
use Rattle.ojp_timetable.specs.Contents.{with_point}
use Rattle.ojp_timetable.specs.Lines.{new_point}
use Rattle.ojp_timetable.specs.Tables.{Place}
use Rattle.ojp_texts.specs.Spelled.{HaveOwn, IsNamed}
use Rattle.ojp_texts.proofs.PointsGrow.{bare, one_more, points_after}
use Rattle.ojp_network.specs.Draws.{state_after}
use Rattle.ojp_network.specs.Regions.{higher_point, lower_point, minutes, own_place, own_places, region_code, shared_place, shared_point, shared_stop}
use Rattle.ojp_network_laws.specs.Laws.{all_places}
use Rattle.ojp_network_laws.proofs.Names.{own_apart, own_is_name, own_same, own_stop_code, own_stop_ref, own_stop_shared, point_is_name, shared_same, shared_stop_ref}
use Rattle.ojp_network_laws.proofs.Own.{each_append, each_below, own_append, own_below}
use Rattle.ojp_network_laws.proofs.Ring.{IsInRing}

-- ---- which points places add

no_points : (region : Text) (points : List Point) (places : List Place) → Each (λ (p : Place). is_exchange p.stop ≡ false) places → points_after region points places ≡ points
no_points region points [] h = refl
no_points region points (p ∷ places) h =
    ap (λ (b : Bool). points_after region (cond b (with_point points (new_point region p.stop p.change)) points) places) h.0 ∙ no_points region points places h.1

second_at : (p q : Point) → text_lt q.stop p.stop ≡ false → with_point (p ∷ []) q ≡ p ∷ q ∷ []
second_at p q h = rw h refl

pub first_point : (z region point : ℕ) (own : List Place) → Each (λ (p : Place). is_exchange p.stop ≡ false) own
    → points_after (region_code region) [] (own ++ shared_place z point ∷ []) ≡ bare (shared_point z region point) ∷ []
unfolding bare
first_point z region point own h =
    fold-append (one_more (region_code region)) [] own (shared_place z point ∷ [])
    ∙ ap (λ (ps : List Point). points_after (region_code region) ps (shared_place z point ∷ [])) (no_points (region_code region) [] own h)

pub second_point : (z region point : ℕ) (p : Point) → text_lt (shared_stop point) p.stop ≡ false
    → points_after (region_code region) (p ∷ []) (shared_place z point ∷ []) ≡ p ∷ bare (shared_point z region point) ∷ []
unfolding bare
second_point z region point p h = second_at p (new_point (region_code region) (shared_stop point) (minutes z 0 5)) h

-- ---- what is known of the places

own_known : (z region : ℕ) → Each (IsNamed (region_code region)) (own_places z region)
own_known z region =
    each_below (IsNamed (region_code region)) (own_place z region) 30 (λ k small. (own_stop_ref region (k + 1), own_is_name region (k + 1), inr (own_stop_code region (k + 1))))

pub own_unshared : (z region : ℕ) → Each (λ (p : Place). is_exchange p.stop ≡ false) (own_places z region)
own_unshared z region = each_below (λ (p : Place). is_exchange p.stop ≡ false) (own_place z region) 30 (λ k small. own_stop_shared region (k + 1))

shared_known : (z region point : ℕ) → IsNamed (region_code region) (shared_place z point)
shared_known z region point = (shared_stop_ref point, point_is_name point, inl refl)

pub places_known : (z region : ℕ) → Each (IsNamed (region_code region)) (all_places z region)
places_known z region =
    each_append (IsNamed (region_code region)) (own_places z region) _ (own_known z region)
    (shared_known (state_after z 30) region (lower_point region), (shared_known (state_after z 32) region (higher_point region), tt))

pub places_own : (z region : ℕ) → IsInRing region → HaveOwn (λ (p : Place). p.stop) (all_places z region)
places_own z region ring =
    own_append (λ (p : Place). p.stop) (own_places z region) _
    (own_below (λ (p : Place). p.stop) (own_place z region) 30 (λ i j low high e. let same = own_same region (i + 1) (j + 1) (omega (arith, low)) (omega (arith, high)) e in omega (arith, same)))
    ((λ e. let same = shared_same (lower_point region) (higher_point region) (omega (arith, ring.less, ring.few)) (omega (arith, ring.few)) e in absurd (omega (arith, ring.less, same)), tt), (tt, tt))
    (each_below (λ (p : Place). Each (λ (q : Place). p.stop ≢ q.stop) (shared_place (state_after z 30) (lower_point region) ∷ shared_place (state_after z 32) (higher_point region) ∷ [])) (own_place z region) 30
    (λ k small. (own_apart region (k + 1) (lower_point region), (own_apart region (k + 1) (higher_point region), tt))))

pub minutes_fit : (z k m : ℕ) → 0 < m → m ≤ 100 → (1 ≤ minutes z k m) × (minutes z k m ≤ 7200)
minutes_fit z k m some few = (omega arith, omega (arith, some, few))
