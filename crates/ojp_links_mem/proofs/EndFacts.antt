-- What the end of an ask does to what is seen of the links.
use Rattle.std.proofs.Common.{◌≡◌, ℕ, ◌≤◌, List, map, length, Some, None, IfSome, option_map, slice_get, refl, sym, ◌∙◌, ap, subst}
use Rattle.slab.specs.Slab.{get}
use Rattle.ojp_outside.specs.Causes.{Rose, next_count}
use Rattle.ojp_values.specs.Lists.{Each}
use Rattle.ojp_links.specs.Seen.{Live, ask_at}
use Rattle.ojp_links.specs.Calls.{Closes, Drops, Rejects}
use Rattle.ojp_links_mem.specs.Regions.{ChangesAt, DoesNotFall, count_at, fault_count, number_of_table, rejected, rejection_count, station_of}
use Rattle.ojp_links_mem.specs.Memory.{RejectsBy, SameTerms, links_of}
use Rattle.ojp_links_mem.specs.Pending.{AreKept, live_of}
use Rattle.ojp_links_mem.specs.Kept.{IsToldOf, IsWhole, view_of}
use Rattle.ojp_links_mem.specs.declared.pending.Pending.{Pending}
use Rattle.ojp_links_mem.specs.declared.regions.Region.{Region}
use Rattle.ojp_links_mem.specs.declared.memory.MemLinks.TheInside.{Inside}
use Rattle.ojp_links_mem.proofs.FixedFacts.{SameRegions, same_fixed, whole_after}
use Rattle.ojp_links_mem.proofs.LookFacts.{OthersAre, kept_without}
use Rattle.ojp_links_mem.proofs.RegionFacts.{changed_each, changed_map, count_elsewhere, count_rose, faults_later}
use Rattle.ojp_links_mem.proofs.SoundFacts.{le_from, seen_at, told_by}

drops_at : (m n : Inside) (key : ℕ) → SameTerms (view_of m) (view_of n) → SameRegions m n → ((k : ℕ) → count_at (map fault_count m.regions.items) k ≤ count_at (map fault_count n.regions.items) k)
    → n.made ≡ m.made → n.patience ≡ m.patience → get n.asks key ≡ None → OthersAre m.asks n.asks key → Drops (links_of (view_of m)) (links_of (view_of n)) key
drops_at m n key terms same later made patience gone others = record {
  keeps = record { fixed = same_fixed m n terms same; faults = later };
  made = made;
  others = λ other ne. ap (option_map live_of) (others other ne);
  gone = ap (option_map live_of) gone;
  patience = (n.patience, refl, le_from n.patience m.patience (sym patience));
}

pub same_regions : (m n : Inside) → n.regions.items ≡ m.regions.items → SameRegions m n
same_regions m n e = record { stations = ap (map station_of) e; numbers = ap (map number_of_table) e }

pub closes_at : (m n : Inside) (key : ℕ) → SameTerms (view_of m) (view_of n) → n.regions.items ≡ m.regions.items → n.made ≡ m.made → n.patience ≡ m.patience → get n.asks key ≡ None → OthersAre m.asks n.asks key
    → Closes (links_of (view_of m)) (links_of (view_of n)) key
closes_at m n key terms regions made patience gone others = record {
  drops = drops_at m n key terms (same_regions m n regions) (λ k. le_from _ _ (ap (λ (rs : List Region). count_at (map fault_count rs) k) regions)) made patience gone others;
  rejections = ap (λ (rs : List Region). count_at (map rejection_count rs)) regions;
}

pub whole_closed : (m n : Inside) (key : ℕ) → IsWhole m → SameTerms (view_of m) (view_of n) → n.regions.items ≡ m.regions.items → n.patience ≡ m.patience → get n.asks key ≡ None → OthersAre m.asks n.asks key → IsWhole n
whole_closed m n key whole terms regions patience gone others =
    whole_after m n whole terms (same_regions m n regions) (λ tells. subst (λ (rs : List Region). Each IsToldOf rs) (sym regions) (whole.told tells))
    (subst (λ (k : ℕ). AreKept (length m.regions.items) (told_by m) m.most k n.asks) (sym patience) (kept_without (length m.regions.items) (told_by m) m.most m.patience m.asks n.asks key whole.kept gone others))

-- ---- rejections

changed_regions : (m n : Inside) (at : ℕ) → ChangesAt rejected m.regions.items n.regions.items at → SameRegions m n
changed_regions m n at h = record {
  stations = changed_map station_of rejected m.regions.items n.regions.items at h (λ _. refl);
  numbers = changed_map number_of_table rejected m.regions.items n.regions.items at h (λ _. refl);
}

pub rejects_at : (m n : Inside) (key : ℕ) (p : Pending) (region : Region) → SameTerms (view_of m) (view_of n) → n.made ≡ m.made → n.patience ≡ m.patience → get m.asks key ≡ Some p → get n.asks key ≡ None → OthersAre m.asks n.asks key
    → slice_get m.regions.items p.region ≡ Some region → ChangesAt rejected m.regions.items n.regions.items p.region → IfSome (slice_get m.regions.items p.region) DoesNotFall → Rejects (links_of (view_of m)) (links_of (view_of n)) key
rejects_at m n key p region terms made patience at gone others there h later =
    let to : p.region ≡ (ask_at (links_of (view_of m)) key).region = sym (ap (λ (a : Live). a.region) (seen_at m.asks key p at)) in
    record {
      drops = drops_at m n key terms (changed_regions m n p.region h) (faults_later rejected m.regions.items n.regions.items p.region (λ _. refl) h later) made patience gone others;
      fault = subst (λ (r : ℕ). Rose (count_at (map fault_count m.regions.items) r) (count_at (map fault_count n.regions.items) r)) to (count_rose fault_count rejected m.regions.items n.regions.items p.region region (λ _. refl) h there);
      rejection = subst (λ (r : ℕ). Rose (count_at (map rejection_count m.regions.items) r) (count_at (map rejection_count n.regions.items) r)) to (count_rose rejection_count rejected m.regions.items n.regions.items p.region region (λ _. refl) h there);
      elsewhere = λ r ne. count_elsewhere rejection_count rejected m.regions.items n.regions.items p.region r h (λ e. ne (e ∙ to));
    }

told_still : (r : Region) → IsToldOf r → IsToldOf (rejected r)
told_still r h = record { has_table = h.has_table; sure = ap next_count h.sure }

pub whole_rejected : (m n : Inside) (key at : ℕ) → IsWhole m → SameTerms (view_of m) (view_of n) → n.patience ≡ m.patience → get n.asks key ≡ None → OthersAre m.asks n.asks key → ChangesAt rejected m.regions.items n.regions.items at → IsWhole n
whole_rejected m n key at whole terms patience gone others h =
    whole_after m n whole terms (changed_regions m n at h) (λ tells. changed_each IsToldOf rejected m.regions.items n.regions.items at h told_still (whole.told tells))
    (subst (λ (k : ℕ). AreKept (length m.regions.items) (told_by m) m.most k n.asks) (sym patience) (kept_without (length m.regions.items) (told_by m) m.most m.patience m.asks n.asks key whole.kept gone others))

-- what a rejection does here
pub rejects_by : (m n : Inside) (key : ℕ) (p : Pending) → SameTerms (view_of m) (view_of n) → n.rested ≡ m.rested → get m.asks key ≡ Some p → ChangesAt rejected m.regions.items n.regions.items p.region → RejectsBy (view_of m) (view_of n) key
rejects_by m n key p terms rest at rises = record {
  terms = terms;
  rises = subst (λ (r : ℕ). ChangesAt rejected m.regions.items n.regions.items r) (sym (ap (λ (a : Live). a.region) (seen_at m.asks key p at))) rises;
  rested_same = rest;
}
