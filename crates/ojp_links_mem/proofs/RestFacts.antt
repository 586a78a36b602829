-- What a rest does to what is seen of the links.
use Rattle.std.proofs.Common.{◌≡◌, ◌≢◌, ℕ, ◌+◌, ◌-◌, ◌≤◌, List, length, map, Option, Some, None, option_map, refl, sym, ◌∙◌, ap, subst, inl, inr, arith}
use Rattle.std.proofs.lemmas.Bool.{cases_eq, cases_lt}
use Rattle.std.proofs.lemmas.List.{get_or_past}
use Rattle.std.proofs.lemmas.Option.{none-some, same_Some}
use Rattle.slab.specs.Slab.{Slab, get}
use Rattle.ojp_values.specs.Lists.{Each}
use Rattle.ojp_timetable.specs.Tables.{Timetable}
use Rattle.ojp_links.specs.Calls.{RestsOnce, after_rest, without_rests}
use Rattle.ojp_links_mem.specs.Regions.{count_at, fault_count, rejection_count}
use Rattle.ojp_links_mem.specs.Memory.{SameTerms, links_of}
use Rattle.ojp_links_mem.specs.Pending.{AllRested, AreKept, IsKept, IsServed, RestedBelow, live_in, live_of, rested}
use Rattle.ojp_links_mem.specs.Kept.{IsToldOf, IsWhole, view_of}
use Rattle.ojp_links_mem.specs.declared.pending.Pending.{Pending}
use Rattle.ojp_links_mem.specs.declared.regions.Region.{Region}
use Rattle.ojp_links_mem.specs.declared.memory.MemLinks.TheInside.{Inside}
use Rattle.ojp_links_mem.proofs.EndFacts.{same_regions}
use Rattle.ojp_links_mem.proofs.FixedFacts.{same_fixed, whole_after}
use Rattle.ojp_links_mem.proofs.LookFacts.{OthersAre}
use Rattle.ojp_links_mem.proofs.SoundFacts.{if_some_map, if_told, le_from, le_same, told_by}

same_but : (o : Option Pending) → option_map without_rests (option_map live_of (option_map rested o)) ≡ option_map without_rests (option_map live_of o)
same_but None = refl
same_but (Some p) = refl

one_less : (o : Option Pending) → option_map live_of (option_map rested o) ≡ option_map after_rest (option_map live_of o)
one_less None = refl
one_less (Some p) = refl

-- one more ask had its rest
pub rested_one : (first old new : Slab Pending) (key : ℕ) → RestedBelow first old key → get new key ≡ option_map rested (get old key) → OthersAre old new key → RestedBelow first new (key + 1)
rested_one first old new key is here others = record {
  done = λ k below. elim (cases_eq k key) [
    | inl e ↦
        let at : get new key ≡ option_map rested (get first key) = here ∙ ap (option_map rested) (is.ahead key (le_same key)) in
        subst (λ (n : ℕ). get new n ≡ option_map rested (get first n)) (sym e) at
    | inr ne ↦ others k ne ∙ is.done k (omega (arith, below, ne))
  ];
  ahead = λ k above.
      let ne : k ≢ key = λ e. omega (arith, above, e) in
      others k ne ∙ is.ahead k (omega (arith, above));
}

-- past the last slot there is no ask
past_slots : (asks : Slab Pending) (key : ℕ) → length asks.slots ≤ key → get asks key ≡ None
past_slots asks key past = get_or_past asks.slots key None past

pub rested_all : (first now : Slab Pending) (last : ℕ) → RestedBelow first now last → length first.slots ≤ last → AllRested first now
rested_all first now last is few key = elim (cases_lt key last) [
  | inl below ↦ is.done key below
  | inr past ↦
      let none : get first key ≡ None = past_slots first key (omega (arith, few, past)) in
      is.ahead key past ∙ (none ∙ sym (ap (option_map rested) none))
]

pub rests_once : (m n : Inside) → SameTerms (view_of m) (view_of n) → n.regions.items ≡ m.regions.items → n.made ≡ m.made → AllRested m.asks n.asks → n.patience ≡ m.patience - 1 → RestsOnce (links_of (view_of m)) (links_of (view_of n))
rests_once m n terms regions made all e = record {
  idles = record {
    keeps = record {
      fixed = same_fixed m n terms (same_regions m n regions);
      faults = λ k. le_from _ _ (ap (λ (rs : List Region). count_at (map fault_count rs) k) regions);
    };
    rejections = ap (λ (rs : List Region). count_at (map rejection_count rs)) regions;
    made = made;
    live = λ key. ap (λ (o : Option Pending). option_map without_rests (option_map live_of o)) (all key) ∙ same_but (get m.asks key);
  };
  spends = (n.patience, refl, omega (arith, e));
  ordered = if_told m.tells_order m.order (λ order. (key : ℕ) → live_in n.asks key ≡ option_map after_rest (live_in m.asks key)) (λ _ key. ap (option_map live_of) (all key) ∙ one_less (get m.asks key));
}

record WasRested (o : Option Pending) (q : Pending) : Type 0 where
  before : Pending
  at : o ≡ Some before
  is : q ≡ rested before

was_rested : (o : Option Pending) (q : Pending) → option_map rested o ≡ Some q → WasRested o q
was_rested None q e = absurd (none-some q e)
was_rested (Some p) q e = record { before = p; at = refl; is = sym (same_Some (rested p) q e) }

kept_rested : (regions : ℕ) (told : Option (List Timetable)) (most before now : ℕ) (old new : Slab Pending) → AllRested old new → now ≡ before - 1 → AreKept regions told most before old → AreKept regions told most now new
kept_rested regions told most before now old new all e kept key q at =
    let was = was_rested (get old key) q (sym (all key) ∙ at) in
    let k : IsKept regions told most before was.before = kept key was.before was.at in
    let few : was.before.rests ≤ before = k.few in
    subst (λ (r : Pending). IsKept regions told most now r) (sym was.is) (record {
      of_region = k.of_region;
      within = k.within;
      at_end = k.at_end;
      at_once = k.at_once;
      few = omega (arith, few, e);
      served = if_some_map told (IsServed was.before) (IsServed (rested was.before)) (λ tables s. record { steady = s.steady; some = s.some; serves = s.serves }) k.served;
    })

pub whole_rested : (m n : Inside) → IsWhole m → SameTerms (view_of m) (view_of n) → n.regions.items ≡ m.regions.items → AllRested m.asks n.asks → n.patience ≡ m.patience - 1 → IsWhole n
whole_rested m n whole terms regions all e =
    whole_after m n whole terms (same_regions m n regions) (λ tells. subst (λ (rs : List Region). Each IsToldOf rs) (sym regions) (whole.told tells))
    (kept_rested (length m.regions.items) (told_by m) m.most m.patience n.patience m.asks n.asks all e whole.kept)
