-- Which status is due to `plan`.
use Rattle.std.proofs.Common.{◌≡◌, ◌≢◌, ℕ, ◌<◌, ◌≤◌, ◌⊎◌, Bool, List, [], ◌∷◌, ◌++◌, Option, Some, map, length, Result, Ok, Err, refl, sym, ap, subst, inl, inr, arith}
use Rattle.std.specs.Prelude.{IsSomeAnd}
use Rattle.ojp_values.specs.Lists.{Pairwise}
use Rattle.ojp_values.specs.Texts.{Text}
use Rattle.ojp_values.specs.declared.documents.Doc.TheVariants as docs
use Rattle.ojp_outside.specs.Seen.{SourceView, SinkView, StoreView}
use Rattle.ojp_outside.specs.declared.store.TheConstants.{FILE_LIMIT}
use Rattle.ojp_timetable.specs.Tables.{Timetable}
use Rattle.ojp_timetable.specs.TableText.{IsText, IsTextRefused as IsTableRefused}
use Rattle.ojp_timetable.specs.declared.file.lines.TableReason.{TableReason}
use Rattle.ojp_timetable.proofs.NoonOnce.{one_table}
use Rattle.ojp_timetable.proofs.RefusalFacts.{text_not_refused}
use Rattle.ojp_grammar.specs.declared.refusals.Want.TheVariants as wants
use Rattle.ojp_exchange.specs.Book.{Book, points_of}
use Rattle.ojp_exchange.specs.Joins.{IsJoined, JoinFails}
use Rattle.ojp_exchange.specs.declared.refusals.BookRefused.{BookRefused}
use Rattle.ojp_exchange.specs.declared.refusals.BookRefused.TheVariants as refusals
use Rattle.ojp_region.specs.Files.{FailsToRead, IsTooLong, IsRefusedFile}
use Rattle.ojp_links_mem.specs.Files.{FilesView}
use Rattle.ojp_steps.specs.Lent.{Lent, before, after}
use Rattle.ojp_steps.specs.Endings.{HasEnding, Concludes}
use Rattle.ojp_steps.specs.declared.failures.Failure.{Failure}
use Rattle.ojp_steps.specs.declared.failures.Failure.TheVariants.{Document, Unread, TooLong, Input, Output, Memory, Line, Twice, TooMany, Disagree}
use Rattle.ojp_steps.proofs.FileFacts.{rests_or_rose, told_is}
use Rattle.ojp_steps.proofs.InputFacts.{reads, spelled_or_refused, refused_or_spelled}
use Rattle.ojp_plan.specs.Files.{AreTextsOf, IsTextOf, MakesBook, MakesNoBook, StopsAt}
use Rattle.ojp_plan.specs.Plans.{ComesTo, IsGood, IsTold, PlanFails, PlanIsDue, Planned, too_long, no_table, no_book, no_request, an_answer}
use Rattle.ojp_gateway.proofs.BookFacts.{joined_or_refused}

-- ---- files that are told

-- some file is so, and those before it are texts of timetables
abbrev Stops : (Text → Option Text) → (Text → Type 0) → List Text → Type 0
Stops held S [] = ⊥
Stops held S (file ∷ names) = S file ⊎ (((table : Timetable) × IsGood held file table) × Stops held S names)

module _ (held : Text → Option Text) where
  stops_at : (S : Text → Type 0) (above : List Text) (tables : List Timetable) (file : Text) (behind : List Text) → Pairwise (IsGood held) above tables → S file → Stops held S (above ++ file ∷ behind)
  stops_at S [] tables file behind good s = inl s
  stops_at S (name ∷ above) [] file behind good s = absurd good
  stops_at S (name ∷ above) (table ∷ tables) file behind good s = inr ((table, good.0), stops_at S above tables file behind good.1 s)

  -- what stops at a file is no text of a timetable
  all_good : (S : Text → Type 0) (names : List Text) (tables : List Timetable) → Pairwise (IsGood held) names tables → Stops held S names → ((file : Text) (table : Timetable) → IsGood held file table → S file → ⊥) → ⊥
  all_good S [] tables good stops never = stops
  all_good S (file ∷ names) [] good stops never = good
  all_good S (file ∷ names) (table ∷ tables) good (inl s) never = never file table good.0 s
  all_good S (file ∷ names) (table ∷ tables) good (inr s) never = all_good S names tables good.1 s.1 never

  -- what stops at a file stops at the same one
  both_stop : (S T : Text → Type 0) (names : List Text) → Stops held S names → Stops held T names → ((file : Text) → S file → T file → ⊥)
      → ((file : Text) (table : Timetable) → IsGood held file table → S file → ⊥) → ((file : Text) (table : Timetable) → IsGood held file table → T file → ⊥) → ⊥
  both_stop S T [] s t never never_s never_t = s
  both_stop S T (file ∷ names) (inl s) (inl t) never never_s never_t = never file s t
  both_stop S T (file ∷ names) (inl s) (inr t) never never_s never_t = never_s file t.0.0 t.0.1 s
  both_stop S T (file ∷ names) (inr s) (inl t) never never_s never_t = never_t file s.0.0 s.0.1 t
  both_stop S T (file ∷ names) (inr s) (inr t) never never_s never_t = both_stop S T names s.1 t.1 never never_s never_t

  one_text : (file a b : Text) → held file ≡ Some a → held file ≡ Some b → a ≡ b
  one_text file a b e f = cc

  one_good : (file : Text) (x y : Timetable) → IsGood held file x → IsGood held file y → x ≡ y
  one_good file x y g h = one_table h.bytes x y (subst (λ (bytes : Text). IsText bytes x) (one_text file g.bytes h.bytes g.is h.is) g.is_text) h.is_text

  -- the files are texts of one list of timetables
  one_list : (names : List Text) (xs ys : List Timetable) → Pairwise (IsGood held) names xs → Pairwise (IsGood held) names ys → xs ≡ ys
  one_list [] [] [] g h = refl
  one_list [] [] (y ∷ ys) g h = absurd h
  one_list [] (x ∷ xs) ys g h = absurd g
  one_list (file ∷ names) [] ys g h = absurd g
  one_list (file ∷ names) (x ∷ xs) [] g h = absurd h
  one_list (file ∷ names) (x ∷ xs) (y ∷ ys) g h =
      let first : x ≡ y = one_good file x y g.0 h.0 in
      let rest : xs ≡ ys = one_list names xs ys g.1 h.1 in
      λ i. first i ∷ rest i

  -- the file has these bytes
  abbrev Has : Text → Text → Type 0
  Has bytes file = held file ≡ Some bytes

  long_no_text : (bytes : Text) → FILE_LIMIT < length bytes → (file : Text) (table : Timetable) → IsGood held file table → Has bytes file → ⊥
  long_no_text bytes long file table good has = omega (arith, long, good.within, ap length (one_text file good.bytes bytes good.is has))

  refused_no_text : (bytes : Text) (line : ℕ) (reason : TableReason) → IsTableRefused bytes line reason → (file : Text) (table : Timetable) → IsGood held file table → Has bytes file → ⊥
  refused_no_text bytes line reason refused file table good has =
      text_not_refused bytes table line reason (subst (λ (b : Text). IsText b table) (one_text file good.bytes bytes good.is has) good.is_text) refused

  comes_to : (names : List Text) (bytes : Text) → ComesTo held names bytes → Stops held (Has bytes) names
  comes_to names bytes c = subst (Stops held (Has bytes)) (sym c.order) (stops_at (Has bytes) c.above c.tables c.file c.behind c.good c.is)

  -- ---- what the store tells

  module _ (store : StoreView) (contents : store.contents ≡ Some held) where
    good_of : (file : Text) (table : Timetable) → IsTextOf store file table → IsGood held file table
    good_of file table h = record {
      bytes = h.bytes;
      is = told_is (λ (files : Text → Option Text). files file ≡ Some h.bytes) store.contents held contents h.held;
      within = h.within;
      is_text = h.is_text;
    }

    goods : (names : List Text) (tables : List Timetable) → AreTextsOf store names tables → Pairwise (IsGood held) names tables
    goods [] [] h = tt
    goods [] (table ∷ tables) h = absurd h
    goods (file ∷ names) [] h = absurd h
    goods (file ∷ names) (table ∷ tables) h = (good_of file table h.0, goods names tables h.1)

    stops_of : (S : Text → Type 0) (names : List Text) → StopsAt store S names → Stops held S names
    stops_of S names s = subst (Stops held S) (sym s.order) (stops_at S s.above s.tables s.file s.behind (goods s.above s.tables s.accepted) s.stops)

    module _ (new : StoreView) where
      long_is : (file bytes : Text) → IsTooLong file store new → Has bytes file → FILE_LIMIT < length bytes
      long_is file bytes long has =
          subst (λ (o : Option Text). IsSomeAnd o (λ bytes. FILE_LIMIT < length bytes)) has
          (told_is (λ (files : Text → Option Text). IsSomeAnd (files file) (λ bytes. FILE_LIMIT < length bytes)) store.contents held contents long.above)

      long_or_good : (file : Text) (table : Timetable) → IsGood held file table → IsTooLong file store new → ⊥
      long_or_good file table good long = omega (arith, long_is file good.bytes long good.is, good.within)

      refused_is : (file bytes : Text) (line : ℕ) (reason : TableReason) (r : IsRefusedFile file store new line reason) → Has bytes file → r.bytes ≡ bytes
      refused_is file bytes line reason r has =
          one_text file r.bytes bytes (told_is (λ (files : Text → Option Text). files file ≡ Some r.bytes) store.contents held contents r.held) has

      refused_or_good : (line : ℕ) (reason : TableReason) (file : Text) (table : Timetable) → IsGood held file table → IsRefusedFile file store new line reason → ⊥
      refused_or_good line reason file table good r =
          text_not_refused good.bytes table line reason good.is_text (subst (λ (b : Text). IsTableRefused b line reason) (refused_is file good.bytes line reason r good.is) r.refused)

      short_or_long : (file bytes : Text) → IsTooLong file store new → Has bytes file → length bytes ≤ FILE_LIMIT → ⊥
      short_or_long file bytes long has short = omega (arith, long_is file bytes long has, short)

      refused_or_long : (line : ℕ) (reason : TableReason) (file bytes : Text) → IsRefusedFile file store new line reason → Has bytes file → FILE_LIMIT < length bytes → ⊥
      refused_or_long line reason file bytes r has long = omega (arith, long, r.within, ap length (refused_is file bytes line reason r has))

-- ---- what is due

module _ {F I O : Type 0} (order : ℕ) (traces : Bool) (trace : Text) (names : List Text) (files : Lent F FilesView) (input : Lent I SourceView) (output : Lent O SinkView) where
  module _ (held : Text → Option Text) (told : IsTold files held) where
    abbrev old : StoreView
    old = (before files).store

    abbrev new : StoreView
    new = (after files).store

    -- a read of a file failed
    failed : (S : Text → Type 0) → StopsAt old (λ file. S file × FailsToRead file old new) names → ⊥
    failed S s = rests_or_rose old.faults new.faults told.rests s.stops.1.rose

    texts_of : (tables : List Timetable) → MakesBook old names tables → Pairwise (IsGood held) names tables
    texts_of tables makes = goods held old told.contents names tables makes.texts

    -- no file stops where all are texts of timetables
    module _ (tables : List Timetable) (good : Pairwise (IsGood held) names tables) where
      none_long : (S : Text → Type 0) → StopsAt old (λ file. S file × IsTooLong file old new) names → ⊥
      none_long S s =
          all_good held (λ file. S file × IsTooLong file old new) names tables good (stops_of held old told.contents _ names s)
          (λ file table g h. long_or_good held old told.contents new file table g h.1)

      none_refused : (S : Text → Type 0) (line : ℕ) (reason : TableReason) → StopsAt old (λ file. S file × IsRefusedFile file old new line reason) names → ⊥
      none_refused S line reason s =
          all_good held (λ file. S file × IsRefusedFile file old new line reason) names tables good (stops_of held old told.contents _ names s)
          (λ file table g h. refused_or_good held old told.contents new line reason file table g h.1)

      -- nor is there no book where they make one
      no_reason : (book : Book) → IsJoined (map points_of tables) book → (reason : BookRefused) → reason ≢ refusals.NoMemory → MakesNoBook old names reason → ⊥
      no_reason book joined reason other makes =
          let same : makes.tables ≡ tables = one_list held names makes.tables tables (goods held old told.contents names makes.tables makes.texts) good in
          joined_or_refused (map points_of tables) book reason joined (subst (λ (ts : List Timetable). JoinFails (map points_of ts) reason) same makes.refused) other

    -- they make no book where none is joined
    unmade : (tables : List Timetable) → Pairwise (IsGood held) names tables → ((book : Book) → IsJoined (map points_of tables) book → ⊥) → (others : List Timetable) → MakesBook old names others → ⊥
    unmade tables good none others makes =
        let same : others ≡ tables = one_list held names others tables (texts_of others makes) good in
        none makes.book (subst (λ (ts : List Timetable). IsJoined (map points_of ts) makes.book) same makes.joined)

    -- a file that was come to is not of these
    module _ (bytes : Text) (comes : ComesTo held names bytes) where
      all_long : FILE_LIMIT < length bytes → (tables : List Timetable) → Pairwise (IsGood held) names tables → ⊥
      all_long long tables good = all_good held (Has held bytes) names tables good (comes_to held names bytes comes) (long_no_text held bytes long)

      all_refused : (line : ℕ) (reason : TableReason) → IsTableRefused bytes line reason → (tables : List Timetable) → Pairwise (IsGood held) names tables → ⊥
      all_refused line reason refused tables good = all_good held (Has held bytes) names tables good (comes_to held names bytes comes) (refused_no_text held bytes line reason refused)

      line_or_long : FILE_LIMIT < length bytes → (S : Text → Type 0) (line : ℕ) (reason : TableReason) → StopsAt old (λ file. S file × IsRefusedFile file old new line reason) names → ⊥
      line_or_long long S line reason s =
          both_stop held (λ file. S file × IsRefusedFile file old new line reason) (Has held bytes) names (stops_of held old told.contents _ names s) (comes_to held names bytes comes)
          (λ file h has. refused_or_long held old told.contents new line reason file bytes h.1 has long) (λ file table g h. refused_or_good held old told.contents new line reason file table g h.1) (long_no_text held bytes long)

      long_or_line : (n : ℕ) (why : TableReason) → length bytes ≤ FILE_LIMIT → IsTableRefused bytes n why → (S : Text → Type 0) → StopsAt old (λ file. S file × IsTooLong file old new) names → ⊥
      long_or_line n why short refused S s =
          both_stop held (λ file. S file × IsTooLong file old new) (Has held bytes) names (stops_of held old told.contents _ names s) (comes_to held names bytes comes)
          (λ file h has. short_or_long held old told.contents new file bytes h.1 has short) (λ file table g h. long_or_good held old told.contents new file table g h.1) (refused_no_text held bytes n why refused)

  pub due_to_plan : {E : Type 0} (ended : Result (Unit {0}) Failure) (faults : Lent E SinkView) (result status : ℕ)
      → HasEnding (Planned order traces trace names files input output) (PlanFails order traces trace names files input output) ended → Concludes ended faults result
      → PlanIsDue names files input output status → (result ≡ 5) ⊎ (result ≡ status)
  -- a file is too long
  due_to_plan (Ok nothing) faults result status e c (too_long held told bytes comes long) = absurd (all_long held told bytes comes long e.due.tables (texts_of held told e.due.tables e.due.of_files))
  due_to_plan (Err (Document at reason)) faults result status e c (too_long held told bytes comes long) = absurd (all_long held told bytes comes long e.0.0 (texts_of held told e.0.0 e.0.1))
  due_to_plan (Err Input) faults result status e c (too_long held told bytes comes long) = absurd (all_long held told bytes comes long e.0.0 (texts_of held told e.0.0 e.0.1))
  due_to_plan (Err Output) faults result status e c (too_long held told bytes comes long) = absurd (all_long held told bytes comes long e.due.tables (texts_of held told e.due.tables e.due.of_files))
  due_to_plan (Err Memory) faults result status e c (too_long held told bytes comes long) = inl c.0
  due_to_plan (Err (Unread name)) faults result status e c (too_long held told bytes comes long) = inr c.0
  due_to_plan (Err (TooLong name)) faults result status e c (too_long held told bytes comes long) = inr c.0
  due_to_plan (Err (Line name line reason)) faults result status e c (too_long held told bytes comes long) = absurd (line_or_long held told bytes comes long _ line reason e.0)
  due_to_plan (Err (Twice code)) faults result status e c (too_long held told bytes comes long) = absurd (all_long held told bytes comes long e.0.tables (goods held (before files).store told.contents names e.0.tables e.0.texts))
  due_to_plan (Err TooMany) faults result status e c (too_long held told bytes comes long) = absurd (all_long held told bytes comes long e.0.tables (goods held (before files).store told.contents names e.0.tables e.0.texts))
  due_to_plan (Err (Disagree point left right)) faults result status e c (too_long held told bytes comes long) = absurd (all_long held told bytes comes long e.0.tables (goods held (before files).store told.contents names e.0.tables e.0.texts))
  due_to_plan (Err failure) faults result status e c (too_long held told bytes comes long) = absurd e.0
  -- a file is no timetable
  due_to_plan (Ok nothing) faults result status e c (no_table held told bytes comes short n why refused) = absurd (all_refused held told bytes comes n why refused e.due.tables (texts_of held told e.due.tables e.due.of_files))
  due_to_plan (Err (Document at reason)) faults result status e c (no_table held told bytes comes short n why refused) = absurd (all_refused held told bytes comes n why refused e.0.0 (texts_of held told e.0.0 e.0.1))
  due_to_plan (Err Input) faults result status e c (no_table held told bytes comes short n why refused) = absurd (all_refused held told bytes comes n why refused e.0.0 (texts_of held told e.0.0 e.0.1))
  due_to_plan (Err Output) faults result status e c (no_table held told bytes comes short n why refused) = absurd (all_refused held told bytes comes n why refused e.due.tables (texts_of held told e.due.tables e.due.of_files))
  due_to_plan (Err Memory) faults result status e c (no_table held told bytes comes short n why refused) = inl c.0
  due_to_plan (Err (Unread name)) faults result status e c (no_table held told bytes comes short n why refused) = absurd (failed held told _ e.0)
  due_to_plan (Err (TooLong name)) faults result status e c (no_table held told bytes comes short n why refused) = absurd (long_or_line held told bytes comes n why short refused _ e.0)
  due_to_plan (Err (Line name line reason)) faults result status e c (no_table held told bytes comes short n why refused) = inr c.0
  due_to_plan (Err (Twice code)) faults result status e c (no_table held told bytes comes short n why refused) = absurd (all_refused held told bytes comes n why refused e.0.tables (goods held (before files).store told.contents names e.0.tables e.0.texts))
  due_to_plan (Err TooMany) faults result status e c (no_table held told bytes comes short n why refused) = absurd (all_refused held told bytes comes n why refused e.0.tables (goods held (before files).store told.contents names e.0.tables e.0.texts))
  due_to_plan (Err (Disagree point left right)) faults result status e c (no_table held told bytes comes short n why refused) = absurd (all_refused held told bytes comes n why refused e.0.tables (goods held (before files).store told.contents names e.0.tables e.0.texts))
  due_to_plan (Err failure) faults result status e c (no_table held told bytes comes short n why refused) = absurd e.0
  -- the timetables make no book
  due_to_plan (Ok nothing) faults result status e c (no_book held told tables good none) = absurd (unmade held told tables good none e.due.tables e.due.of_files)
  due_to_plan (Err (Document at reason)) faults result status e c (no_book held told tables good none) = absurd (unmade held told tables good none e.0.0 e.0.1)
  due_to_plan (Err Input) faults result status e c (no_book held told tables good none) = absurd (unmade held told tables good none e.0.0 e.0.1)
  due_to_plan (Err Output) faults result status e c (no_book held told tables good none) = absurd (unmade held told tables good none e.due.tables e.due.of_files)
  due_to_plan (Err Memory) faults result status e c (no_book held told tables good none) = inl c.0
  due_to_plan (Err (Unread name)) faults result status e c (no_book held told tables good none) = absurd (failed held told _ e.0)
  due_to_plan (Err (TooLong name)) faults result status e c (no_book held told tables good none) = absurd (none_long held told tables good _ e.0)
  due_to_plan (Err (Line name line reason)) faults result status e c (no_book held told tables good none) = absurd (none_refused held told tables good _ line reason e.0)
  due_to_plan (Err (Twice code)) faults result status e c (no_book held told tables good none) = inr c.0
  due_to_plan (Err TooMany) faults result status e c (no_book held told tables good none) = inr c.0
  due_to_plan (Err (Disagree point left right)) faults result status e c (no_book held told tables good none) = inr c.0
  due_to_plan (Err failure) faults result status e c (no_book held told tables good none) = absurd e.0
  -- the input is no request
  due_to_plan (Ok nothing) faults result status e c (no_request held told all bytes heard at reason refused) = absurd (spelled_or_refused wants.Request input bytes heard (docs.Ask e.due.ask) at reason e.due.of_input refused)
  due_to_plan (Err (Document place cause)) faults result status e c (no_request held told all bytes heard at reason refused) = inr c.0
  due_to_plan (Err Input) faults result status e c (no_request held told all bytes heard at reason refused) = absurd (reads wants.Request input bytes heard e.1)
  due_to_plan (Err Output) faults result status e c (no_request held told all bytes heard at reason refused) = absurd (spelled_or_refused wants.Request input bytes heard (docs.Ask e.due.ask) at reason e.due.of_input refused)
  due_to_plan (Err Memory) faults result status e c (no_request held told all bytes heard at reason refused) = inl c.0
  due_to_plan (Err (Unread name)) faults result status e c (no_request held told all bytes heard at reason refused) = absurd (failed held told _ e.0)
  due_to_plan (Err (TooLong name)) faults result status e c (no_request held told all bytes heard at reason refused) = absurd (none_long held told all.tables all.good _ e.0)
  due_to_plan (Err (Line name line why)) faults result status e c (no_request held told all bytes heard at reason refused) = absurd (none_refused held told all.tables all.good _ line why e.0)
  due_to_plan (Err (Twice code)) faults result status e c (no_request held told all bytes heard at reason refused) = absurd (no_reason held told all.tables all.good all.book all.joined (refusals.TwiceRegion code) (λ is. cc) e.0)
  due_to_plan (Err TooMany) faults result status e c (no_request held told all bytes heard at reason refused) = absurd (no_reason held told all.tables all.good all.book all.joined refusals.TooMany (λ is. cc) e.0)
  due_to_plan (Err (Disagree point left right)) faults result status e c (no_request held told all bytes heard at reason refused) = absurd (no_reason held told all.tables all.good all.book all.joined (refusals.Disagree point left right) (λ is. cc) e.0)
  due_to_plan (Err failure) faults result status e c (no_request held told all bytes heard at reason refused) = absurd e.0
  -- all is in order
  due_to_plan (Ok nothing) faults result status e c (an_answer held told all bytes heard ask spells rests) = inr c.0
  due_to_plan (Err (Document at reason)) faults result status e c (an_answer held told all bytes heard ask spells rests) = absurd (refused_or_spelled wants.Request input bytes heard (docs.Ask ask) at reason e.1 spells.wanted spells.spells)
  due_to_plan (Err Input) faults result status e c (an_answer held told all bytes heard ask spells rests) = absurd (reads wants.Request input bytes heard e.1)
  due_to_plan (Err Output) faults result status e c (an_answer held told all bytes heard ask spells rests) = absurd (rests_or_rose (before output).faults (after output).faults rests e.gained.rose)
  due_to_plan (Err Memory) faults result status e c (an_answer held told all bytes heard ask spells rests) = inl c.0
  due_to_plan (Err (Unread name)) faults result status e c (an_answer held told all bytes heard ask spells rests) = absurd (failed held told _ e.0)
  due_to_plan (Err (TooLong name)) faults result status e c (an_answer held told all bytes heard ask spells rests) = absurd (none_long held told all.tables all.good _ e.0)
  due_to_plan (Err (Line name line why)) faults result status e c (an_answer held told all bytes heard ask spells rests) = absurd (none_refused held told all.tables all.good _ line why e.0)
  due_to_plan (Err (Twice code)) faults result status e c (an_answer held told all bytes heard ask spells rests) = absurd (no_reason held told all.tables all.good all.book all.joined (refusals.TwiceRegion code) (λ is. cc) e.0)
  due_to_plan (Err TooMany) faults result status e c (an_answer held told all bytes heard ask spells rests) = absurd (no_reason held told all.tables all.good all.book all.joined refusals.TooMany (λ is. cc) e.0)
  due_to_plan (Err (Disagree point left right)) faults result status e c (an_answer held told all bytes heard ask spells rests) = absurd (no_reason held told all.tables all.good all.book all.joined (refusals.Disagree point left right) (λ is. cc) e.0)
  due_to_plan (Err failure) faults result status e c (an_answer held told all bytes heard ask spells rests) = absurd e.0
