-- What was learned stands over the links as they are later, and how a command fails that learned no book.
use Rattle.std.proofs.Common.{◌≡◌, ℕ, ◌<◌, ◌≤◌, Bool, false, cond, List, [], ◌∷◌, length, map, take, Option, Err, refl, sym, ◌∙◌, ap, subst, inl, inr, arith}
use Rattle.std.proofs.lemmas.Bool.{cases_Bool}
use Rattle.std.proofs.lemmas.List.Sums.{sum_by-cons}
use Rattle.ojp_outside.specs.Seen.{SinkView, StoreView}
use Rattle.ojp_values.specs.Lists.{Among}
use Rattle.ojp_values.specs.Texts.{Text, same}
use Rattle.ojp_timetable.specs.Tables.{Timetable}
use Rattle.ojp_timetable.proofs.TextFacts.{same_is}
use Rattle.ojp_exchange.specs.Book.{Book}
use Rattle.ojp_exchange.specs.Joins.{times}
use Rattle.ojp_exchange.specs.declared.region_points.RegionPoints.{RegionPoints}
use Rattle.ojp_exchange.specs.declared.refusals.BookRefused.{BookRefused}
use Rattle.ojp_exchange.specs.declared.refusals.BookRefused.TheVariants as books
use Rattle.ojp_links.specs.Seen.{View, Fixed, TellsTables, code_in, codes_of}
use Rattle.ojp_links.specs.Calls.{Keeps}
use Rattle.ojp_regions.specs.Lines.{codes_in}
use Rattle.ojp_regions.specs.RegionsText.{AreApart}
use Rattle.ojp_regions.specs.declared.line.RegionLine.{RegionLine}
use Rattle.ojp_gateway.specs.Learning.{AreHeard, AreLists, FailsFirst, IsLearned, IsRefusedHeard, LearnsAs, code_of_list}
use Rattle.ojp_gateway.specs.declared.learning.LearnRefused.{LearnRefused}
use Rattle.ojp_gateway.specs.declared.learning.LearnRefused.TheVariants as refusals
use Rattle.ojp_steps.specs.Lent.{Lent, after, IsUnused}
use Rattle.ojp_grammar.specs.Answering.{AnswersBody}
use Rattle.ojp_steps.specs.Serving.{DoorsSeen, ServesAt}
use Rattle.ojp_steps.specs.declared.serving.NotServed.TheVariants as servings
use Rattle.ojp_steps.specs.declared.failures.Failure.TheVariants.{Doors}
use Rattle.ojp_steps.specs.declared.failures.Failure.{Failure}
use Rattle.ojp_online.specs.Added.{as_added, HasStations}
use Rattle.ojp_online.specs.RegionFiles.{IsFileOf}
use Rattle.ojp_online.specs.Learned.{failure_of_learning}
use Rattle.ojp_online.specs.Gateways.{GatewayFails, GatewayGives, HasFile, HasLearned}
use Rattle.ojp_online.proofs.AddFacts.{codes_of_added}

-- ---- the same regions, later

module _ (a c : View) (fixed : c.fixed ≡ a.fixed) where
  tells_back : (tables : List Timetable) → TellsTables c tables → TellsTables a tables
  tells_back tables tells = record { servers = ap (λ (f : Fixed). f.servers) (sym fixed) ∙ tells.servers; own = tells.own ∙ ap codes_of fixed }

  codes_same : codes_of a.fixed ≡ codes_of c.fixed
  codes_same = ap codes_of (sym fixed)

  heard_on : (lists : List RegionPoints) → AreHeard a lists → AreHeard c lists
  heard_on lists h = record { codes = h.codes ∙ codes_same; well = h.well; told = λ tables tells. h.told tables (tells_back tables tells) }

  lists_on : (count : ℕ) (lists : List RegionPoints) → AreLists a count lists → AreLists c count lists
  lists_on count lists h = record { codes = h.codes ∙ ap (λ (cs : List Text). take count cs) codes_same; well = h.well; told = λ tables tells. h.told tables (tells_back tables tells) }

  pub learned_on : (book : Book) → IsLearned a book → IsLearned c book
  learned_on book l = record {
    lists = l.lists;
    heard = heard_on l.lists l.heard;
    joined = l.joined;
    regions = λ code. (
      λ among. subst (Among code) codes_same ((l.regions code).0 among),
      λ among. (l.regions code).1 (subst (Among code) (sym codes_same) among),
    );
    theirs = λ tables tells. l.theirs tables (tells_back tables tells);
  }

  refused_on : (reason : BookRefused) → IsRefusedHeard a reason → IsRefusedHeard c reason
  refused_on reason r = record { lists = r.lists; heard = heard_on r.lists r.heard; refused = r.refused; some = r.some }

fails_on : (mid new : View) (code : Text) → Keeps mid new → FailsFirst mid new code → FailsFirst (as_added new) new code
fails_on mid new code keeps f = record {
  region = f.region;
  below = subst (λ (x : Fixed). f.region < length x.stations) (sym keeps.fixed) f.below;
  is = ap (λ (x : Fixed). code_in (codes_of x) f.region) keeps.fixed ∙ f.is;
  rose = omega (arith, f.rose);
  lists = f.lists;
  before = lists_on mid (as_added new) keeps.fixed f.region f.lists f.before;
}

-- ---- no region stands twice

times_none : (lists : List RegionPoints) (code : Text) → (Among code (map code_of_list lists) → ⊥) → times lists code ≡ 0
times_none [] code none = refl
times_none (l ∷ lists) code none =
    let no : same code l.code ≡ false = elim (cases_Bool (same code l.code)) [ inl e ↦ absurd (none (inl (same_is code l.code e))) | inr e ↦ e ] in
    let zero_here : ◌≡◌ {A = ℕ} (cond (same code l.code) 1 0) 0 = ap (λ (b : Bool). cond b 1 0) no in
    omega (arith, sum_by-cons (λ (list : RegionPoints). cond (same code list.code) 1 0) l lists, zero_here, times_none lists code (λ a. none (inr a)))

times_apart : (lists : List RegionPoints) (code : Text) → AreApart (map code_of_list lists) → times lists code ≤ 1
times_apart [] code apart = omega arith
times_apart (l ∷ lists) code apart =
    elim (cases_Bool (same code l.code)) [
      | inl e ↦
          let one_here : ◌≡◌ {A = ℕ} (cond (same code l.code) 1 0) 1 = ap (λ (b : Bool). cond b 1 0) e in
          let is : code ≡ l.code = same_is code l.code e in
          let none : times lists code ≡ 0 = times_none lists code (λ a. apart.0 (subst (λ (c : Text). Among c (map code_of_list lists)) is a)) in
          omega (arith, sum_by-cons (λ (list : RegionPoints). cond (same code list.code) 1 0) l lists, one_here, none)
      | inr e ↦
          let zero_here : ◌≡◌ {A = ℕ} (cond (same code l.code) 1 0) 0 = ap (λ (b : Bool). cond b 1 0) e in
          omega (arith, sum_by-cons (λ (list : RegionPoints). cond (same code list.code) 1 0) l lists, zero_here, times_apart lists code apart.1)
    ]

never_twice : (v : View) (regions : List RegionLine) (code : Text) → HasStations regions v → AreApart (codes_in regions) → IsRefusedHeard v (books.TwiceRegion code) → ⊥
never_twice v regions code has apart r =
    let codes : map code_of_list r.lists ≡ codes_in regions = r.heard.codes ∙ codes_of_added v regions has in
    let few : times r.lists code ≤ 1 = times_apart r.lists code (subst AreApart (sym codes) apart) in
    omega (arith, few, r.refused.twice)

-- ---- how the command fails

module _ {F L : Type 0} (file : Text) (store : Lent F StoreView) (links : Lent L View) (mid : View) (regions : List RegionLine) (of_file : IsFileOf file store regions) (has : HasStations regions mid)
    (keeps : Keeps mid (after links)) where
  pub has_file : HasFile file store links
  has_file = record { regions = regions; of_file = of_file; added = ap (λ (f : Fixed). f.stations) keeps.fixed ∙ has }

  pub has_learned : (book : Book) → IsLearned mid book → HasLearned file store links book
  has_learned book l = record { has_file = has_file; learned = learned_on mid (after links) keeps.fixed book l }

module _ {F O D L : Type 0} (file : Text) (port : ℕ) (count : Option ℕ) (store : Lent F StoreView) (output : Lent O SinkView) (doors : Lent D DoorsSeen) (links : Lent L View)
    (mid : View) (regions : List RegionLine) (of_file : IsFileOf file store regions) (has_mid : HasStations regions mid) (keeps : Keeps mid (after links)) where
  has : HasFile file store links
  has = has_file file store links mid regions of_file has_mid keeps

  book_fails : (reason : BookRefused) → IsRefusedHeard mid reason → IsUnused output → IsUnused doors → GatewayFails file port count store output doors links (failure_of_learning (refusals.Book reason))
  book_fails (books.TwiceRegion code) r unused closed = absurd (never_twice mid regions code has_mid of_file.is_text.said.apart r)
  book_fails books.TooMany r unused closed = (has, refused_on mid (after links) keeps.fixed books.TooMany r, unused, closed)
  book_fails (books.Disagree point left right) r unused closed = (has, refused_on mid (after links) keeps.fixed (books.Disagree point left right) r, unused, closed)
  book_fails books.NoMemory r unused closed = absurd (r.some refl)

  learning_fails : (refused : LearnRefused) → LearnsAs mid (after links) (Err refused) → IsUnused output → IsUnused doors
      → GatewayFails file port count store output doors links (failure_of_learning refused)
  learning_fails (refusals.Region code) l unused closed = (has, fails_on mid (after links) code keeps l, unused, closed)
  learning_fails (refusals.Book reason) l unused closed = book_fails reason l unused closed
  learning_fails refusals.NoMemory l unused closed = (of_file.same, unused, closed)

  pub fails_to_learn : (refused : LearnRefused) (failure : Failure) → LearnsAs mid (after links) (Err refused) → failure ≡ failure_of_learning refused → IsUnused output → IsUnused doors
      → GatewayFails file port count store output doors links failure
  fails_to_learn refused failure l e unused closed =
      subst (GatewayFails file port count store output doors links) (sym e) (learning_fails refused l unused closed)

-- the doors could not listen, or gave no connection
pub fails_for_doors : {F O D L : Type 0} (file : Text) (port : ℕ) (count : Option ℕ) (store : Lent F StoreView) (output : Lent O SinkView) (doors : Lent D DoorsSeen) (links : Lent L View) (book : Book)
    → HasLearned file store links book → ServesAt (AnswersBody (GatewayGives book (after links))) port count output doors (Err servings.Doors) → GatewayFails file port count store output doors links Doors
fails_for_doors file port count store output doors links book learned (inl s) = inl ((book, learned), s.1, s.0)
fails_for_doors file port count store output doors links book learned (inr s) = inr (record { book = book; learned = learned; is_ready = s.0; serves = s.1 })
