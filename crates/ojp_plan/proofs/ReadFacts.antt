-- How far the files were read, and what stops the reading.
use Rattle.std.proofs.Common.{◌≡◌, ℕ, suc, ◌<◌, List, [], ◌∷◌, ◌++◌, map, length, take, drop, get_or, Err, refl, sym, ◌∙◌, ap, subst, take-append-drop, drop-cons}
use Rattle.ojp_values.specs.Lists.{Pairwise}
use Rattle.ojp_values.specs.Texts.{Text}
use Rattle.ojp_outside.specs.Seen.{StoreView}
use Rattle.ojp_timetable.specs.Tables.{Timetable}
use Rattle.ojp_timetable.specs.declared.file.lines.TableReason.{TableReason}
use Rattle.ojp_region.specs.Files.{IsFileOf, IsRefusedFile, ReadsFile}
use Rattle.ojp_links_mem.specs.Files.{FilesView}
use Rattle.ojp_region.specs.declared.files.FileRefused.{FileRefused}
use Rattle.ojp_region.specs.declared.files.FileRefused.TheVariants as refused
use Rattle.ojp_steps.specs.Files.{IsOfFile}
use Rattle.ojp_steps.specs.Lent.{Lent, before, after}
use Rattle.ojp_steps.specs.declared.failures.Failure.{Failure}
use Rattle.ojp_steps.specs.declared.failures.Failure.TheVariants.{Unread, TooLong, Memory, Line}
use Rattle.ojp_plan.specs.Files.{AreTextsOf, FilesFail, IsTextOf, StopsAt}

-- ---- lists

pub pairwise_push : {X Y : Type 0} (R : X → Y → Type 0) (xs : List X) (ys : List Y) (x : X) (y : Y) → Pairwise R xs ys → R x y → Pairwise R (xs ++ x ∷ []) (ys ++ y ∷ [])
pairwise_push R [] [] x y h r = (r, tt)
pairwise_push R [] (b ∷ ys) x y h r = absurd h
pairwise_push R (a ∷ xs) [] x y h r = absurd h
pairwise_push R (a ∷ xs) (b ∷ ys) x y h r = (h.0, pairwise_push R xs ys x y h.1 r)

module _ {S : Type 0} (f : S → Text) where
  map_append : (xs ys : List S) → map f (xs ++ ys) ≡ map f xs ++ map f ys
  map_append [] ys = refl
  map_append (x ∷ xs) ys = ap (λ (l : List Text). f x ∷ l) (map_append xs ys)

  -- the words up to one, it, and those behind it
  parted : (words : List S) (i : ℕ) (d : S) → i < length words → map f words ≡ map f (take i words) ++ f (get_or words i d) ∷ map f (drop (suc i) words)
  parted words i d within =
      let all : words ≡ take i words ++ get_or words i d ∷ drop (suc i) words =
      sym (take-append-drop i words) ∙ ap (λ (l : List S). take i words ++ l) (drop-cons words i d within) in
      ap (map f) all ∙ map_append (take i words) (get_or words i d ∷ drop (suc i) words)

  pub one_more : (words taken : List S) (word : S) → words ≡ taken ++ word ∷ [] → map f words ≡ map f taken ++ f word ∷ []
  one_more words taken word e = ap (map f) e ∙ map_append taken (word ∷ [])

  -- a file stops the reading
  pub stopped : (store : StoreView) (Stops : Text → Type 0) (words : List S) (i : ℕ) (word : S) (tables : List Timetable) → i < length words → word ≡ get_or words i word
      → AreTextsOf store (map f (take i words)) tables → Stops (f word) → StopsAt store Stops (map f words)
  stopped store Stops words i word tables within is accepted stops = record {
    above = map f (take i words);
    file = f word;
    behind = map f (drop (suc i) words);
    order = parted words i word within ∙ ap (λ (w : S). map f (take i words) ++ f w ∷ map f (drop (suc i) words)) (sym is);
    tables = tables;
    accepted = accepted;
    stops = stops;
  }

-- ---- one file

-- a file that was read and accepted is the text of its timetable
pub text_of_file : (file : Text) (first old new : StoreView) (table : Timetable) → old ≡ first → IsFileOf file old new table → IsTextOf first file table
text_of_file file first old new table e h = subst (λ (s : StoreView). IsTextOf s file table) e (record { bytes = h.bytes; held = h.held; within = h.within; is_text = h.is_text })

-- one more file was read and accepted
pub one_more_text : {S : Type 0} (f : S → Text) (first old new : StoreView) (words taken : List S) (word : S) (file : Text) (tables now : List Timetable) (table : Timetable) → words ≡ taken ++ word ∷ [] → file ≡ f word
    → old ≡ first → IsFileOf file old new table → now ≡ tables ++ table ∷ [] → AreTextsOf first (map f taken) tables → AreTextsOf first (map f words) now
one_more_text f first old new words taken word file tables now table e is same h grown texts =
    let one : IsTextOf first (f word) table = subst (λ (name : Text). IsTextOf first name table) is (text_of_file file first old new table same h) in
    subst (λ (names : List Text). AreTextsOf first names now) (sym (one_more f words taken word e))
    (subst (λ (ts : List Timetable). AreTextsOf first (map f taken ++ f word ∷ []) ts) (sym grown) (pairwise_push (IsTextOf first) (map f taken) tables (f word) table texts one))

module _ {F S : Type 0} (f : S → Text) (words : List S) (files : Lent F FilesView) (i : ℕ) (word : S) (tables : List Timetable) (within : i < length words) (is : word ≡ get_or words i word)
    (accepted : AreTextsOf (before files).store (map f (take i words)) tables) where
  fails : (refused : FileRefused) (failure : Failure) → ReadsFile (f word) (before files).store (after files).store (Err refused) → IsOfFile (f word) refused failure
      → FilesFail (map f words) files failure
  fails refused.Failed (Unread name) r e = stopped f (before files).store _ words i word tables within is accepted (e, r)
  fails refused.TooLong (TooLong name) r e = stopped f (before files).store _ words i word tables within is accepted (e, r)
  fails (refused.At line reason) (Line name at cause) r (same, is_line, is_reason) =
      stopped f (before files).store _ words i word tables within is accepted (
        same,
        subst (λ (c : TableReason). IsRefusedFile (f word) (before files).store (after files).store at c) (sym is_reason)
            (subst (λ (n : ℕ). IsRefusedFile (f word) (before files).store (after files).store n reason) (sym is_line) r),
      )
  fails refused.NoMemory Memory r e = tt
  fails refused failure r e = absurd e

  -- a file could not be taken
  pub fails_at : (old : StoreView) (file name : Text) (refused : FileRefused) (failure : Failure) → old ≡ (before files).store → file ≡ f word → name ≡ f word
      → ReadsFile file old (after files).store (Err refused) → IsOfFile name refused failure → FilesFail (map f words) files failure
  fails_at old file name refused failure same as_file as_name r e =
      fails refused failure
      (subst (λ (t : Text). ReadsFile t (before files).store (after files).store (Err refused)) as_file
      (subst (λ (s : StoreView). ReadsFile file s (after files).store (Err refused)) same r))
      (subst (λ (t : Text). IsOfFile t refused failure) as_name e)
