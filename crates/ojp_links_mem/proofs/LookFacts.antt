-- What a look at an ask does to what is seen of the links.
use Rattle.std.proofs.Common.{◌≡◌, ◌≢◌, ℕ, zero, suc, ◌+◌, ◌-◌, ◌==◌, ◌<◌, ◌≤◌, min, true, false, Bool, List, [], ◌∷◌, ◌++◌, length, map, take, drop, Option, Some, None, IfSome, is_some, option_map, slice_get, if◌then◌else◌, refl, sym, ◌∙◌, ap, subst, inl, inr, arith, true≢false}
use Rattle.std.proofs.lemmas.Bool.{cases_Bool, cases_eq}
use Rattle.std.proofs.lemmas.List.{length-take-le, length-drop, take_all}
use Rattle.std.proofs.lemmas.Option.{none-some, same_Some}
use Rattle.std.proofs.Math.Seq.{take-add}
use Rattle.slab.specs.Slab.{Slab, get}
use Rattle.ojp_outside.specs.Causes.{Rose, next_count}
use Rattle.ojp_values.specs.Lists.{Each}
use Rattle.ojp_timetable.specs.Tables.{Timetable}
use Rattle.ojp_links.specs.Replies.{ServesByTable}
use Rattle.ojp_links.specs.declared.links.More.{More}
use Rattle.ojp_links.specs.declared.links.More.TheVariants as mores
use Rattle.ojp_links.specs.Seen.{Live, View, ask_at}
use Rattle.ojp_links.specs.Calls.{Gives, IsInOrder, IsPatient, Looks}
use Rattle.ojp_links_mem.specs.Regions.{ChangesAt, DoesNotFall, count_at, fault_count, faulted, number_of_table, rejection_count, station_of}
use Rattle.ojp_links_mem.specs.Memory.{CountsLook, GivesBy, LooksAtOne, SameTerms, links_of, told_order}
use Rattle.ojp_links_mem.specs.Pending.{AreKept, IsKept, IsServed, LooksAt, live_of, piece_of}
use Rattle.ojp_links_mem.specs.Kept.{IsToldOf, IsWhole, view_of}
use Rattle.ojp_links_mem.specs.declared.pending.Pending.{Pending}
use Rattle.ojp_links_mem.specs.declared.regions.Region.{Region}
use Rattle.ojp_links_mem.specs.declared.memory.MemLinks.TheInside.{Inside}
use Rattle.ojp_links_mem.proofs.FixedFacts.{SameRegions, same_fixed, whole_after}
use Rattle.ojp_links_mem.proofs.RegionFacts.{changed_map, count_rose, faults_later}
use Rattle.ojp_links_mem.proofs.SoundFacts.{if_some_map, if_told, le_from, le_same, of_tables, seen_at, told_by}

piece_low : (b : Bool) (most left : ℕ) → (if b then left else min most left) ≤ left
piece_low true most left = le_same left
piece_low false most left = let h : min most left ≤ left = omega arith in h

piece_some : (b : Bool) (most left : ℕ) → (b ≡ false → 0 < most) → 0 < left → 0 < (if b then left else min most left)
piece_some true most left h l = l
piece_some false most left h l = let k : 0 < most = h refl in let it : 0 < min most left = omega (arith, k, l) in it

some_most : (most : ℕ) → (most == 0) ≡ false → 0 < most
some_most most h = elim (cases_eq most 0) [ inl e ↦ absurd (true≢false (sym (ap (λ (n : ℕ). n == 0) e) ∙ h)) | inr ne ↦ omega (arith, ne) ]

-- what a piece leaves
falls : (len taken piece : ℕ) → piece ≤ len - taken → 0 < piece → taken < len → len - (taken + piece) < len - taken
falls len taken piece low pos more = omega (arith, low, pos, more)

fits : (len taken piece : ℕ) → piece ≤ len - taken → taken < len → taken + piece ≤ len
fits len taken piece low more = omega (arith, low, more)

reached : (len taken piece : ℕ) → piece ≡ len - taken → taken < len → taken + piece ≡ len
reached len taken piece e more = omega (arith, e, more)

left_over : (len taken : ℕ) → taken < len → 0 < len - taken
left_over len taken more = omega (arith, more)

rose_next : (n : ℕ) → Rose n (next_count n)
rose_next n = le_same (next_count n)

-- a piece of what is left: not more than it, and something where there is something
record IsPiece (left piece : ℕ) : Type 0 where
  low : piece ≤ left
  some : 0 < left → 0 < piece

is_piece : (most left : ℕ) → IsPiece left (piece_of most left)
is_piece most left = record { low = piece_low (most == 0) most left; some = piece_some (most == 0) most left (some_most most) }

whole_piece : (most left : ℕ) → most ≡ 0 → piece_of most left ≡ left
whole_piece most left e = ap (λ (n : ℕ). piece_of n left) e

-- where the order is told: all bytes come at once, and the ask does not fail and has a reply
record IsSure (most : ℕ) (p : Pending) : Type 0 where
  all : most ≡ 0
  steady : p.fails ≡ false
  some : 0 < length p.reply.items

-- what a look does to one ask
record LooksBy (tells : Bool) (order before_patience : ℕ) (before after : Live) (answer : More) : Type 0 where
  region_same : after.region ≡ before.region
  request_same : after.request ≡ before.request
  reply_same : after.reply ≡ before.reply
  rests_same : after.rests ≡ before.rests
  looks_more : Rose before.looks after.looks
  gives : Gives answer before after
  patient : IsPatient (Some before_patience) (Some before_patience) answer before.left after.left
  ordered : IfSome (told_order tells order) (λ by. IsInOrder before after answer)

some_rest : (n : ℕ) → n ≡ 0 → 0 < n → ⊥
some_rest n e h = omega arith

-- nothing is taken just where the front is empty
none_front : (n : ℕ) (bytes : List ℕ) → n ≤ length bytes → take n bytes ≡ [] → n ≡ 0
none_front n bytes within e = sym (length-take-le n bytes within) ∙ ap (λ (xs : List ℕ). length xs) e

some_front : (n : ℕ) (bytes : List ℕ) → take n bytes ≢ [] → n ≡ 0 → ⊥
some_front n bytes h e = h (ap (λ (k : ℕ). take k bytes) e)

not_ended : (b : Bool) → (b ≡ true → ⊥) → b ≡ false
not_ended b h = elim (cases_Bool b) [ inl e ↦ absurd (h e) | inr e ↦ e ]

-- the ask after a piece was taken
abbrev gained_by : Pending → ℕ → Pending
gained_by p piece = record p { looks = next_count p.looks; taken = p.taken + piece }

record Gained (p : Pending) (piece : ℕ) : Type 0 where
  gain : List ℕ
  some : gain ≢ []
  joins : take (p.taken + piece) p.reply.items ≡ take p.taken p.reply.items ++ gain

gained : (p : Pending) (piece : ℕ) → p.taken < length p.reply.items → IsPiece (length p.reply.items - p.taken) piece → Gained p piece
gained p piece more is =
    let rest : List ℕ = drop p.taken p.reply.items in
    let len : length rest ≡ length p.reply.items - p.taken = length-drop p.taken p.reply.items in
    let within : piece ≤ length rest = omega (arith, len, is.low) in
    let pos : 0 < piece = is.some (left_over (length p.reply.items) p.taken more) in
    record {
      gain = take piece rest;
      some = λ e. let z = none_front piece rest within e in absurd (omega (arith, z, pos));
      joins = take-add p.taken piece p.reply.items;
    }

module _ (tells : Bool) (order patience : ℕ) where
  looked_soon : (p : Pending) → p.rests ≤ patience → 0 < p.rests → LooksBy tells order patience (live_of p) (live_of (record p { looks = next_count p.looks })) mores.NotYet
  looked_soon p few waits = record {
    region_same = refl;
    request_same = refl;
    reply_same = refl;
    rests_same = refl;
    looks_more = rose_next p.looks;
    gives = (refl, refl);
    patient = ((patience, refl, le_same patience), (λ _. omega (arith, waits, few)), le_same (length p.reply.items - p.taken));
    ordered = if_told tells order (λ by. IsInOrder (live_of p) (live_of (record p { looks = next_count p.looks })) mores.NotYet) (λ _. record {
      waits = (λ _. waits, λ _. refl);
      whole = λ e _ _. absurd (some_rest p.rests e waits);
      ends = λ e _ _. absurd (some_rest p.rests e waits);
    });
  }

  looked_failed : (p : Pending) → p.fails ≡ true → (tells ≡ true → p.fails ≡ false) → LooksBy tells order patience (live_of p) (live_of (record p { looks = next_count p.looks })) mores.Failed
  looked_failed p fails steady = record {
    region_same = refl;
    request_same = refl;
    reply_same = refl;
    rests_same = refl;
    looks_more = rose_next p.looks;
    gives = (refl, refl);
    patient = ((patience, refl, le_same patience), (λ e. absurd (cc)), le_same (length p.reply.items - p.taken));
    ordered = if_told tells order (λ by. IsInOrder (live_of p) (live_of (record p { looks = next_count p.looks })) mores.Failed) (λ t. absurd (true≢false (sym fails ∙ steady t)));
  }

  looked_last : (most : ℕ) (p : Pending) → (tells ≡ true → IsSure most p) → p.taken ≤ length p.reply.items → p.rests ≡ 0 → p.taken ≡ length p.reply.items
      → LooksBy tells order patience (live_of p) (live_of (record p { looks = next_count p.looks; ended = true })) mores.End
  looked_last most p sure within none all = record {
    region_same = refl;
    request_same = refl;
    reply_same = refl;
    rests_same = refl;
    looks_more = rose_next p.looks;
    gives = (refl, refl);
    patient = ((patience, refl, le_same patience), (λ e. absurd (cc)), le_same (length p.reply.items - p.taken));
    ordered = if_told tells order (λ by. IsInOrder (live_of p) (live_of (record p { looks = next_count p.looks; ended = true })) mores.End) (λ t. record {
      waits = (λ e. absurd (cc), λ h. absurd (some_rest p.rests none h));
      whole = λ _ e _. let z = none_front p.taken p.reply.items within e in absurd (omega (arith, z, all, (sure t).some));
      ends = λ _ _ _. refl;
    });
  }

  looked_more : (regions most : ℕ) (told : Option (List Timetable)) (p : Pending) → (tells ≡ true → IsSure most p) → IsKept regions told most patience p → p.rests ≡ 0 → p.taken < length p.reply.items
      → LooksBy tells order patience (live_of p) (live_of (gained_by p (piece_of most (length p.reply.items - p.taken)))) mores.Got
  looked_more regions most told p sure kept none more =
      let len = length p.reply.items in
      let left = len - p.taken in
      let piece = piece_of most left in
      let is : IsPiece left piece = is_piece most left in
      let low : piece ≤ left = is.low in
      let pos : 0 < piece = is.some (left_over len p.taken more) in
      let gain : Gained p piece = gained p piece more is in
      let open_yet : p.ended ≡ false = not_ended p.ended (λ e. let z = kept.at_end e in absurd (omega (arith, z, more))) in
      record {
        region_same = refl;
        request_same = refl;
        reply_same = refl;
        rests_same = refl;
        looks_more = rose_next p.looks;
        gives = ((gain.gain, gain.some, gain.joins), open_yet, open_yet);
        patient = ((patience, refl, le_same patience), (λ e. absurd (cc)), falls len p.taken piece low pos more);
        ordered = if_told tells order (λ by. IsInOrder (live_of p) (live_of (gained_by p piece)) mores.Got) (λ t. record {
          waits = (λ e. absurd (cc), λ h. absurd (some_rest p.rests none h));
          whole = λ _ _ _.
              let e : piece ≡ left = whole_piece most left (sure t).all in
              (refl, ap Some (sym (take_all (p.taken + piece) p.reply.items (le_from len (p.taken + piece) (reached len p.taken piece e more)))));
          ends = λ _ some _. elim (cases_eq p.taken 0) [
            | inl e ↦ absurd (some_front p.taken p.reply.items some e)
            | inr ne ↦ let z = kept.at_once (sure t).all (omega (arith, ne)) in absurd (omega (arith, z, more))
          ];
        });
      }

  looked : (regions most : ℕ) (told : Option (List Timetable)) (p now : Pending) (answer : More) → (tells ≡ true → IsSure most p) → IsKept regions told most patience p → LooksAt most p now answer → LooksBy tells order patience (live_of p) (live_of now) answer
  looked regions most told p now mores.NotYet sure kept h = subst (λ (q : Pending). LooksBy tells order patience (live_of p) (live_of q) mores.NotYet) (sym h.2) (looked_soon p kept.few h.1)
  looked regions most told p now mores.Got sure kept h = subst (λ (q : Pending). LooksBy tells order patience (live_of p) (live_of q) mores.Got) (sym h.3) (looked_more regions most told p sure kept h.1 h.2)
  looked regions most told p now mores.End sure kept h = subst (λ (q : Pending). LooksBy tells order patience (live_of p) (live_of q) mores.End) (sym h.3) (looked_last most p sure kept.within h.1 h.2)
  looked regions most told p now mores.Failed sure kept h = subst (λ (q : Pending). LooksBy tells order patience (live_of p) (live_of q) mores.Failed) (sym h.1) (looked_failed p h.0 (λ t. (sure t).steady))
  looked regions most told p now mores.NoMemory sure kept h = absurd h

-- ---- the links

-- the other asks stay
abbrev pub OthersAre : Slab Pending → Slab Pending → ℕ → Type 0
OthersAre old new key = (other : ℕ) → other ≢ key → get new other ≡ get old other

-- an ask is sure where the order is told
sure_of : (m : Inside) (p : Pending) → IsWhole m → IsKept (length m.regions.items) (told_by m) m.most m.patience p → m.tells_order ≡ true → IsSure m.most p
sure_of m p whole kept tells =
    let is = whole.ordered tells in
    let served : IsServed p _ = of_tables m.tells_servers m.servers.items m.regions.items (IsServed p) kept.served is.1 in
    record { all = is.0; steady = served.steady; some = served.some }

-- what a look counts
pub record Counted (m n : Inside) (at : ℕ) (answer : More) : Type 0 where
  pub same : SameRegions m n
  pub rejections_same : map rejection_count n.regions.items ≡ map rejection_count m.regions.items
  pub later : (k : ℕ) → count_at (map fault_count m.regions.items) k ≤ count_at (map fault_count n.regions.items) k
  pub rose : answer ≡ mores.Failed → Rose (count_at (map fault_count m.regions.items) at) (count_at (map fault_count n.regions.items) at)

pub counted_none : (m n : Inside) (at : ℕ) (answer : More) → (answer ≡ mores.Failed → ⊥) → n.regions.items ≡ m.regions.items → Counted m n at answer
counted_none m n at answer goes e = record {
  same = record { stations = ap (map station_of) e; numbers = ap (map number_of_table) e };
  rejections_same = ap (map rejection_count) e;
  later = λ k. le_from _ _ (ap (λ (rs : List Region). count_at (map fault_count rs) k) e);
  rose = λ f. absurd (goes f);
}

pub counted_fault : (m n : Inside) (at : ℕ) (region : Region) (answer : More) → slice_get m.regions.items at ≡ Some region → ChangesAt faulted m.regions.items n.regions.items at → IfSome (slice_get m.regions.items at) DoesNotFall → Counted m n at answer
counted_fault m n at region answer is h later = record {
  same = record { stations = changed_map station_of faulted m.regions.items n.regions.items at h (λ _. refl); numbers = changed_map number_of_table faulted m.regions.items n.regions.items at h (λ _. refl) };
  rejections_same = changed_map rejection_count faulted m.regions.items n.regions.items at h (λ _. refl);
  later = faults_later faulted m.regions.items n.regions.items at (λ _. refl) h later;
  rose = λ _. count_rose fault_count faulted m.regions.items n.regions.items at region (λ _. refl) h is;
}

pub counted_by : (m n : Inside) (at : ℕ) (region : Region) (answer : More) → slice_get m.regions.items at ≡ Some region → CountsLook answer m.regions.items n.regions.items at
    → (answer ≡ mores.Failed → IfSome (slice_get m.regions.items at) DoesNotFall) → Counted m n at answer
counted_by m n at region mores.Got is h later = counted_none m n at mores.Got (λ e. absurd (cc)) h
counted_by m n at region mores.NotYet is h later = counted_none m n at mores.NotYet (λ e. absurd (cc)) h
counted_by m n at region mores.End is h later = counted_none m n at mores.End (λ e. absurd (cc)) h
counted_by m n at region mores.NoMemory is h later = counted_none m n at mores.NoMemory (λ e. absurd (cc)) h
counted_by m n at region mores.Failed is h later = counted_fault m n at region mores.Failed is h (later refl)

pub looks_at : (m n : Inside) (key : ℕ) (answer : More) (p now : Pending) → IsWhole m → SameTerms (view_of m) (view_of n) → n.made ≡ m.made → n.patience ≡ m.patience → get m.asks key ≡ Some p → get n.asks key ≡ Some now
    → OthersAre m.asks n.asks key → LooksAt m.most p now answer → Counted m n p.region answer → Looks (links_of (view_of m)) (links_of (view_of n)) key answer
looks_at m n key answer p now whole terms made patience at is others h counted =
    let old : View = links_of (view_of m) in
    let new : View = links_of (view_of n) in
    let kept = whole.kept key p at in
    let first = looked m.tells_order m.order m.patience (length m.regions.items) m.most (told_by m) p now answer (sure_of m p whole kept) kept h in
    let second : LooksBy m.tells_order m.order m.patience (ask_at old key) (live_of now) answer = subst (λ (l : Live). LooksBy m.tells_order m.order m.patience l (live_of now) answer) (sym (seen_at m.asks key p at)) first in
    let l : LooksBy m.tells_order m.order m.patience (ask_at old key) (ask_at new key) answer = subst (λ (l : Live). LooksBy m.tells_order m.order m.patience (ask_at old key) l answer) (sym (seen_at n.asks key now is)) second in
    let region : (ask_at old key).region ≡ p.region = ap (λ (a : Live). a.region) (seen_at m.asks key p at) in
    record {
      keeps = record { fixed = same_fixed m n terms counted.same; faults = counted.later };
      rejections = ap count_at counted.rejections_same;
      made = made;
      others = λ other ne. ap (option_map live_of) (others other ne);
      live = ap (λ (o : Option Pending). is_some (option_map live_of o)) is;
      region = l.region_same;
      request = l.request_same;
      reply = l.reply_same;
      rests = l.rests_same;
      looks = l.looks_more;
      gives = l.gives;
      patience = subst (λ (k : ℕ). IsPatient (Some m.patience) (Some k) answer (ask_at old key).left (ask_at new key).left) (sym patience) l.patient;
      ordered = l.ordered;
      failed = λ e. subst (λ (r : ℕ). Rose (count_at (map fault_count m.regions.items) r) (count_at (map fault_count n.regions.items) r)) (sym region) (counted.rose e);
    }

-- ---- what is kept

served_look : (told : Option (List Timetable)) (p now : Pending) → now.fails ≡ p.fails → now.reply.items ≡ p.reply.items → now.region ≡ p.region → now.request.items ≡ p.request.items → IfSome told (IsServed p) → IfSome told (IsServed now)
served_look told p now fails reply region request =
    if_some_map told (IsServed p) (IsServed now) (λ tables s. record {
      steady = fails ∙ s.steady;
      some = subst (λ (bytes : List ℕ). 0 < length bytes) (sym reply) s.some;
      serves = (
        s.serves.0,
        subst (λ (r : ℕ). slice_get tables r ≡ Some s.serves.0) (sym region) s.serves.1,
        subst (λ (bytes : List ℕ). ServesByTable s.serves.0 bytes now.reply.items) (sym request) (subst (λ (bytes : List ℕ). ServesByTable s.serves.0 p.request.items bytes) (sym reply) s.serves.2),
      );
    })

kept_look : (regions : ℕ) (told : Option (List Timetable)) (most patience : ℕ) (p now : Pending) (answer : More) → IsKept regions told most patience p → LooksAt most p now answer → IsKept regions told most patience now
kept_look regions told most patience p now mores.NotYet kept h = subst (λ (q : Pending). IsKept regions told most patience q) (sym h.2) (record {
  of_region = kept.of_region;
  within = kept.within;
  at_end = kept.at_end;
  at_once = kept.at_once;
  few = kept.few;
  served = served_look told p (record p { looks = next_count p.looks }) refl refl refl refl kept.served;
})
kept_look regions told most patience p now mores.Failed kept h = subst (λ (q : Pending). IsKept regions told most patience q) (sym h.1) (record {
  of_region = kept.of_region;
  within = kept.within;
  at_end = kept.at_end;
  at_once = kept.at_once;
  few = kept.few;
  served = served_look told p (record p { looks = next_count p.looks }) refl refl refl refl kept.served;
})
kept_look regions told most patience p now mores.Got kept h =
    let len = length p.reply.items in
    let left = len - p.taken in
    let is : IsPiece left (piece_of most left) = is_piece most left in
    let low : piece_of most left ≤ left = is.low in
    let more : p.taken < length p.reply.items = h.2 in
    subst (λ (q : Pending). IsKept regions told most patience q) (sym h.3) (record {
      of_region = kept.of_region;
      within = fits len p.taken (piece_of most left) low more;
      at_end = λ e. let z = kept.at_end e in absurd (omega (arith, z, more));
      at_once = λ all _. reached len p.taken (piece_of most left) (whole_piece most left all) more;
      few = kept.few;
      served = served_look told p (gained_by p (piece_of most left)) refl refl refl refl kept.served;
    })
kept_look regions told most patience p now mores.End kept h = subst (λ (q : Pending). IsKept regions told most patience q) (sym h.3) (record {
  of_region = kept.of_region;
  within = kept.within;
  at_end = λ _. h.2;
  at_once = kept.at_once;
  few = kept.few;
  served = served_look told p (record p { looks = next_count p.looks; ended = true }) refl refl refl refl kept.served;
})
kept_look regions told most patience p now mores.NoMemory kept h = absurd h

-- after a change of one ask that is kept, all are
pub kept_with : (regions : ℕ) (told : Option (List Timetable)) (most patience : ℕ) (old new : Slab Pending) (key : ℕ) (now : Pending) → AreKept regions told most patience old → get new key ≡ Some now → OthersAre old new key
    → IsKept regions told most patience now → AreKept regions told most patience new
kept_with regions told most patience old new key now kept is others fits other q at = elim (cases_eq other key) [
  | inl e ↦
      let here : get new key ≡ Some q = subst (λ (k : ℕ). get new k ≡ Some q) e at in
      subst (λ (r : Pending). IsKept regions told most patience r) (same_Some now q (sym is ∙ here)) fits
  | inr ne ↦ kept other q (sym (others other ne) ∙ at)
]

-- after one was ended, the others are
pub kept_without : (regions : ℕ) (told : Option (List Timetable)) (most patience : ℕ) (old new : Slab Pending) (key : ℕ) → AreKept regions told most patience old → get new key ≡ None → OthersAre old new key → AreKept regions told most patience new
kept_without regions told most patience old new key kept gone others other q at = elim (cases_eq other key) [
  | inl e ↦ absurd (none-some q (sym gone ∙ subst (λ (k : ℕ). get new k ≡ Some q) e at))
  | inr ne ↦ kept other q (sym (others other ne) ∙ at)
]

-- where timetables are told no look fails
told_look : (m n : Inside) (answer : More) (p now : Pending) → IsWhole m → IsKept (length m.regions.items) (told_by m) m.most m.patience p → LooksAt m.most p now answer → CountsLook answer m.regions.items n.regions.items p.region
    → m.tells_servers ≡ true → Each IsToldOf n.regions.items
told_look m n mores.Got p now whole kept h counts tells = subst (λ (rs : List Region). Each IsToldOf rs) (sym counts) (whole.told tells)
told_look m n mores.NotYet p now whole kept h counts tells = subst (λ (rs : List Region). Each IsToldOf rs) (sym counts) (whole.told tells)
told_look m n mores.End p now whole kept h counts tells = subst (λ (rs : List Region). Each IsToldOf rs) (sym counts) (whole.told tells)
told_look m n mores.NoMemory p now whole kept h counts tells = absurd h
told_look m n mores.Failed p now whole kept h counts tells =
    let served : IsServed p _ = of_tables m.tells_servers m.servers.items m.regions.items (IsServed p) kept.served tells in
    absurd (true≢false (sym h.0 ∙ served.steady))

pub whole_looked : (m n : Inside) (key : ℕ) (answer : More) (p now : Pending) → IsWhole m → SameTerms (view_of m) (view_of n) → n.patience ≡ m.patience → get m.asks key ≡ Some p → get n.asks key ≡ Some now → OthersAre m.asks n.asks key
    → LooksAt m.most p now answer → CountsLook answer m.regions.items n.regions.items p.region → Counted m n p.region answer → IsWhole n
whole_looked m n key answer p now whole terms patience at is others h counts counted =
    let kept = whole.kept key p at in
    whole_after m n whole terms counted.same (told_look m n answer p now whole kept h counts)
    (subst (λ (k : ℕ). AreKept (length m.regions.items) (told_by m) m.most k n.asks) (sym patience)
    (kept_with (length m.regions.items) (told_by m) m.most m.patience m.asks n.asks key now whole.kept is others (kept_look (length m.regions.items) (told_by m) m.most m.patience p now answer kept h)))

-- an ask's region is there
pub region_there : (regions : List Region) (at : ℕ) → at < length regions → (region : Region) × (slice_get regions at ≡ Some region)
region_there [] at below = absurd (omega (arith, below))
region_there (r ∷ regions) zero below = (r, refl)
region_there (r ∷ regions) (suc at) below = region_there regions at (omega (arith, below))

-- what a look does here
pub gives_by : (m n : Inside) (key : ℕ) (answer : More) (p : Pending) → SameTerms (view_of m) (view_of n) → n.rested ≡ m.rested → get m.asks key ≡ Some p → LooksAtOne m.most m.asks n.asks key answer
    → CountsLook answer m.regions.items n.regions.items p.region → GivesBy (view_of m) (view_of n) key answer
gives_by m n key answer p terms rest at looks counts = record {
  terms = terms;
  looks_by = looks;
  counts = subst (λ (r : ℕ). CountsLook answer m.regions.items n.regions.items r) (sym (ap (λ (a : Live). a.region) (seen_at m.asks key p at))) counts;
  rested_same = rest;
}
