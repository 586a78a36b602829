-- Causes of refusals.
use Rattle.std.proofs.Common.{◌≡◌, ◌≢◌, ◌≤◌, ◌<◌, ◌==◌, ℕ, zero, suc, Bool, true, false, List, [], ◌∷◌, ◌++◌, length, length-append, get_or, map, Option, Some, None, refl, sym, ap, ◌∙◌, subst, inl, inr, arith}
use Rattle.std.specs.Prelude.{Contains, IsTrue, String, string_bytes}
use Rattle.std.specs.declared.alloc.Global.{Global}
use Rattle.csv.specs.Machine.{Read}
use Rattle.csv.specs.Reading.{ExplainsRead, NextIs, Reached, ReadsNext, TookRecord, default_config, pending_of, reader_state}
use Rattle.csv.specs.Records.{AllText}
use Rattle.csv.specs.declared.error.ErrorKind.{ErrorKind}
use Rattle.csv.specs.declared.error.ErrorKind.TheVariants as kind
use Rattle.csv.specs.declared.parser.State.{State}
use Rattle.csv.specs.declared.parser.State.TheVariants as st
use Rattle.csv.specs.declared.reader.Reader.{Reader}
use Rattle.csv.proofs.ReadFacts.{reached-more}
use Rattle.std.proofs.lemmas.Bool.Decides.{nat_tests}
use Rattle.std.proofs.lemmas.List.{length-map}
use Rattle.std.proofs.lemmas.List.Elements.{Contains-append_right}
use Rattle.ojp_values.specs.Numbers.{Reads}
use Rattle.ojp_values.specs.Texts.{Text}
use Rattle.ojp_feed_lines.specs.Causes.{AreSame, BeginsWith, HasManyRows, HasRow, IsBad, IsCause, IsFor, IsIdReason, IsIdRefusal, IsLacking, IsOfHead, IsOfNoRow, IsOfRow, IsOfText, IsRefused, LacksName, TellsKind, checks, doubles, needs}
use Rattle.ojp_feed_lines.specs.Columns.{column_name}
use Rattle.ojp_feed_lines.specs.Fields.{IsNoDate, compact_day, value_if}
use Rattle.ojp_feed_lines.specs.IdTexts.{HoldsIds, id_texts}
use Rattle.ojp_feed_lines.specs.Places.{HoldsZone}
use Rattle.ojp_feed_lines.specs.Rows.{IsPlace, Record, at_place}
use Rattle.ojp_feed_lines.specs.Tables.{HasEnded, HasRead, width_of}
use Rattle.ojp_feed_lines.specs.declared.columns.Column.{Column}
use Rattle.ojp_feed_lines.specs.declared.columns.Column.TheVariants as columns
use Rattle.ojp_feed_lines.specs.declared.files.FeedFile.{FeedFile}
use Rattle.ojp_feed_lines.specs.declared.files.FeedFile.TheVariants as files
use Rattle.ojp_feed_lines.specs.declared.ids.Ids.{Ids}
use Rattle.ojp_feed_lines.specs.declared.refusals.FeedRefused.{FeedRefused}
use Rattle.ojp_feed_lines.specs.declared.refusals.FeedRefused.TheVariants as refusals
use Rattle.ojp_feed_lines.specs.declared.refusals.RowReason.{RowReason}
use Rattle.ojp_feed_lines.specs.declared.refusals.RowReason.TheVariants as reasons

-- what a reader has read, the text begins with
pub begins : {R : Type 0} (rem : R → Option Text) (reader : Reader R) (text : Text) (rows : List Record) → HasRead rem reader text rows → BeginsWith text rows
begins rem reader text rows h = (reader_state reader, h.left, h.reached)

-- a read of a record that was taken
next_some : (o : Option Read) (fields : Record) (s : State) (rest : Text) → NextIs o true fields s rest → (p : Read) × (o ≡ Some p) × (fields ≡ p.0)
next_some None fields s rest n = cc n
next_some (Some p) fields s rest n = (p, refl, n.1)

took_one : (text y : Text) (a b : State) (rows : List Record) (fields : Record) (k : Option Text)
    → ReadsNext default_config a (Some y) k true fields b → Reached default_config st.StartRecord text rows a y → BeginsWith text (rows ++ fields ∷ [])
took_one text y a b rows fields None r h = absurd r
took_one text y a b rows fields (Some z) r h =
    let n = next_some _ fields b z r in (
      n.0.1,
      n.0.2,
      subst (λ (f : Record). Reached default_config st.StartRecord text (rows ++ f ∷ []) n.0.1 n.0.2) (sym n.2)
          (reached-more default_config st.StartRecord a text y rows n.0 h n.1),
    )

took : {R : Type 0} (rem : R → Option Text) (a b : Reader R) (text : Text) (rows : List Record) (fields : Record)
    → HasRead rem a text rows → TookRecord rem a b fields → BeginsWith text (rows ++ fields ∷ [])
took rem a b text rows fields h t =
    took_one text h.left (reader_state a) (reader_state b) rows fields (pending_of (rem b.rdr) b) (rw (h.config, h.told) at t) h.reached

-- a refusal for a reason with a cause
pub for_cause : (file : FeedFile) (text : Text) (reason : RowReason) (e : FeedRefused) → IsFor reason e → IsCause file reason text → IsOfText file text e
for_cause file text reason (refusals.Unread other) is cause = absurd is
for_cause file text reason (refusals.At other line reason1) is cause = subst (λ (r : RowReason). IsCause file r text) (sym is) cause
for_cause file text reason refusals.NoMemory is cause = tt

pub of_no_row : (file : FeedFile) (text : Text) (e : FeedRefused) → IsOfNoRow e → IsOfText file text e
of_no_row file text (refusals.Unread other) h = tt
of_no_row file text (refusals.At other line reason) h = absurd h
of_no_row file text refusals.NoMemory h = tt

-- a record of another length than the first
other_width : (file : FeedFile) (text : Text) (rows : List Record) (fields : Record) (expected len : ℕ)
    → width_of rows ≡ Some expected → expected ≢ len → length fields ≡ len → BeginsWith text (rows ++ fields ∷ []) → IsCause file reasons.Width text
unfolding IsCause IsRefused
other_width file text [] fields expected len width other is b = absurd (cc width)
other_width file text (head ∷ above) fields expected len width other is b = record {
  head = head;
  above = above;
  row = fields;
  begins = b;
  is = λ same. other (cc (width, is, same));
}

-- a record that is no text
no_text : (file : FeedFile) (text : Text) (rows : List Record) (fields : Record) → BeginsWith text (rows ++ fields ∷ []) → ¬ AllText fields → IsCause file reasons.NotText text
unfolding IsCause
no_text file text rows fields b other = (rows, fields, b, other)

-- why a read of a record failed
pub read_refused : {R : Type 0} (rem : R → Option Text) (a b : Reader R) (text : Text) (rows : List Record) (file : FeedFile) (cause : ErrorKind) (e : FeedRefused)
    → HasRead rem a text rows → ExplainsRead rem a b true cause → TellsKind cause e → IsOfText file text e
read_refused rem a b text rows file (kind.Io error) e h x t = of_no_row file text e t
read_refused rem a b text rows file (kind.Utf8 pos error) e h x t =
    for_cause file text reasons.NotText e t (no_text file text rows x.1 (took rem a b text rows x.1 h x.2) x.3)
read_refused rem a b text rows file (kind.UnequalLengths pos expected len) e h x t =
    for_cause file text reasons.Width e t (other_width file text rows x.3 expected len (sym h.width ∙ x.1) x.2 x.5 (took rem a b text rows x.3 h x.4))
read_refused rem a b text rows file (kind.Serialize why) e h x t = absurd x
read_refused rem a b text rows file (kind.Deserialize pos error) e h x t = absurd x
read_refused rem a b text rows file kind.OutOfMemory e h x t = of_no_row file text e t

-- a column that the head line lacks
pub head_lacks : (file : FeedFile) (column : Column) (head : Record) (e : FeedRefused)
    → IsFor (reasons.MissingColumn column) e → LacksName head (column_name column) → IsTrue (needs file column) → IsOfHead file head e
unfolding IsLacking
head_lacks file column head (refusals.Unread other) is lacks needed = absurd is
head_lacks file column head (refusals.At other line reason) is lacks needed = subst (λ (r : RowReason). IsLacking file r head) (sym is) (needed, lacks)
head_lacks file column head refusals.NoMemory is lacks needed = tt

-- a head line that is lacking is a cause
lacking : (file : FeedFile) (text : Text) (head : Record) (reason : RowReason) → BeginsWith text (head ∷ []) → IsLacking file reason head → IsCause file reason text
unfolding IsLacking IsCause
lacking file text head (reasons.MissingColumn column) b h = (h.0, inr (head, b, h.1))
lacking file text head reasons.MissingFile b h = absurd h
lacking file text head reasons.Width b h = absurd h
lacking file text head reasons.NotText b h = absurd h
lacking file text head (reasons.Value column) b h = absurd h
lacking file text head reasons.TwoZones b h = absurd h
lacking file text head (reasons.Doubled column) b h = absurd h
lacking file text head (reasons.Unknown column) b h = absurd h
lacking file text head reasons.LineForm b h = absurd h
lacking file text head reasons.Limit b h = absurd h

pub head_refused : (file : FeedFile) (text : Text) (head : Record) (e : FeedRefused) → BeginsWith text (head ∷ []) → IsOfHead file head e → IsOfText file text e
head_refused file text head (refusals.Unread other) b h = absurd h
head_refused file text head (refusals.At other line reason) b h = lacking file text head reason b h
head_refused file text head refusals.NoMemory b h = tt

-- a text without a head line
pub no_head : (file : FeedFile) (text : Text) (column : Column) (e : FeedRefused)
    → IsFor (reasons.MissingColumn column) e → HasEnded text [] → IsTrue (needs file column) → IsOfText file text e
unfolding IsCause
no_head file text column e is ended needed = for_cause file text (reasons.MissingColumn column) e is (needed, inl ended)

-- a row that is refused is a cause
refused_row : (file : FeedFile) (text : Text) (head : Record) (above : List Record) (row : Record) (reason : RowReason)
    → BeginsWith text (head ∷ above ++ row ∷ []) → IsRefused file reason head above row → HasRow (IsRefused file reason) text
refused_row file text head above row reason b is = record { head = head; above = above; row = row; begins = b; is = is }

row_cause : (file : FeedFile) (text : Text) (head : Record) (above : List Record) (row : Record) (reason : RowReason)
    → BeginsWith text (head ∷ above ++ row ∷ []) → IsRefused file reason head above row → IsCause file reason text
unfolding IsCause IsRefused
row_cause file text head above row (reasons.MissingColumn column) b h = absurd h
row_cause file text head above row reasons.MissingFile b h = absurd h
row_cause file text head above row reasons.Width b h = refused_row file text head above row reasons.Width b h
row_cause file text head above row reasons.NotText b h = absurd h
row_cause file text head above row (reasons.Value column) b h = inl (refused_row file text head above row (reasons.Value column) b h)
row_cause file text head above row reasons.TwoZones b h = refused_row file text head above row reasons.TwoZones b h
row_cause file text head above row (reasons.Doubled column) b h = refused_row file text head above row (reasons.Doubled column) b h
row_cause file text head above row (reasons.Unknown column) b h = absurd h
row_cause file text head above row reasons.LineForm b h = absurd h
row_cause file text head above row reasons.Limit b (inl is) = inl is
row_cause file text head above row reasons.Limit b (inr many) =
    let more = length-append above (row ∷ []) in
    inr (head, above ++ row ∷ [], b, omega (arith, more, many))

pub row_refused : (file : FeedFile) (text : Text) (head : Record) (above : List Record) (row : Record) (e : FeedRefused)
    → BeginsWith text (head ∷ above ++ row ∷ []) → IsOfRow file head above row e → IsOfText file text e
row_refused file text head above row (refusals.Unread other) b h = absurd h
row_refused file text head above row (refusals.At other line reason) b h = row_cause file text head above row reason b h
row_refused file text head above row refusals.NoMemory b h = tt

-- too many rows
pub limit_refused : (file : FeedFile) (text : Text) (e : FeedRefused) → IsFor reasons.Limit e → HasManyRows text → IsOfText file text e
unfolding IsCause
limit_refused file text e is many = for_cause file text reasons.Limit e is (inr many)

-- a refusal for a reason of the row
pub for_row : (file : FeedFile) (head : Record) (above : List Record) (row : Record) (reason : RowReason) (e : FeedRefused)
    → IsFor reason e → IsRefused file reason head above row → IsOfRow file head above row e
for_row file head above row reason (refusals.Unread other) is cause = absurd is
for_row file head above row reason (refusals.At other line reason1) is cause = subst (λ (r : RowReason). IsRefused file r head above row) (sym is) cause
for_row file head above row reason refusals.NoMemory is cause = tt

-- a field that is not of the form of its column
pub bad_field : (file : FeedFile) (column : Column) (head : Record) (above : List Record) (row : Record) (place : Option ℕ) (e : FeedRefused)
    → IsTrue (checks file column) → IsPlace head (column_name column) place → IsBad column (at_place row place) → IsFor (reasons.Value column) e
    → IsOfRow file head above row e
unfolding IsRefused
bad_field file column head above row place e checked placed bad is =
    for_row file head above row (reasons.Value column) e is (checked, inl (rw (placed row) bad))

-- the same by a text that was read
pub bad_text : (file : FeedFile) (column : Column) (head : Record) (above : List Record) (row : Record) (place : Option ℕ) (text : Text) (e : FeedRefused)
    → IsTrue (checks file column) → IsPlace head (column_name column) place → text ≡ at_place row place → IsBad column text → IsFor (reasons.Value column) e
    → IsOfRow file head above row e
bad_text file column head above row place text e checked placed read bad is =
    bad_field file column head above row place e checked placed (subst (λ (t : Text). IsBad column t) read bad) is

-- a value that is none is that of no text of the form
pub no_value : {A : Type 0} (is : Bool) (value : A) (read : Option A) → read ≡ value_if is value → read ≡ None → is ≡ false
no_value true value read e none = cc (e, none)
no_value false value read e none = refl

-- an empty text
is_zero : (n : ℕ) → (n == 0) ≡ true → n ≡ 0
is_zero n e = grind (arith, nat_tests)

no_bytes : (text : Text) → length text ≡ 0 → text ≡ []
no_bytes [] e = refl
no_bytes (byte ∷ bytes) e = absurd (omega (arith, e))

pub empty_text : (text : Text) → (length text == 0) ≡ true → text ≡ []
empty_text text e = no_bytes text (is_zero (length text) e)

-- a text that is read as no date
pub no_date : (read : Option ℕ) (text : Text) → Reads (λ n. (2 ≤ n) × (n ≤ 84002)) compact_day text read → read ≡ None → IsNoDate text
no_date None text h is = h
no_date (Some day) text h is = cc is

-- a text that is read as a date
pub is_date : (read : Option ℕ) (text : Text) (day : ℕ) → Reads (λ n. (2 ≤ n) × (n ≤ 84002)) compact_day text read → read ≡ Some day → text ≡ compact_day day
is_date None text day h is = cc is
is_date (Some other) text day h is = let same : other ≡ day = cc is in rw same at (sym h.1)

-- an end before its start
pub ends_early : (head : Record) (above : List Record) (row : Record) (starts ends first last : ℕ) (e : FeedRefused)
    → IsPlace head (column_name columns.StartDate) (Some starts) → IsPlace head (column_name columns.EndDate) (Some ends)
    → at_place row (Some starts) ≡ compact_day first → at_place row (Some ends) ≡ compact_day last → last < first
    → IsFor (reasons.Value columns.EndDate) e → IsOfRow files.Calendar head above row e
unfolding IsRefused
ends_early head above row starts ends first last e placed placed_end start end early is =
    for_row files.Calendar head above row (reasons.Value columns.EndDate) e is
    (refl, inr (refl, (first, last, placed row ∙ start, placed_end row ∙ end, early)))

-- a date of a service that stands in a row above
pub date_doubled : (head : Record) (above : List Record) (row other : Record) (e : FeedRefused)
    → Contains above other → AreSame columns.Date head other row → AreSame columns.ServiceId head other row
    → IsFor (reasons.Doubled columns.Date) e → IsOfRow files.CalendarDates head above row e
unfolding IsRefused
date_doubled head above row other e there date service is =
    for_row files.CalendarDates head above row (reasons.Doubled columns.Date) e is (refl, (other, there, date, λ _. service))

-- services of both calendars that are too many
pub services_limit : (head : Record) (above : List Record) (row : Record) (e : FeedRefused) → IsFor reasons.Limit e → IsOfRow files.CalendarDates head above row e
unfolding IsRefused
services_limit head above row e is = for_row files.CalendarDates head above row reasons.Limit e is (inl refl)

-- a zone that is not that of the rows above
pub other_zone : (head : Record) (above : List Record) (row : Record) (column : ℕ) (name : String Global) (e : FeedRefused)
    → IsPlace head (column_name columns.AgencyTimezone) (Some column) → HoldsZone (Some name) column above
    → at_place row (Some column) ≢ string_bytes name → IsFor reasons.TwoZones e → IsOfRow files.Agency head above row e
unfolding IsRefused
other_zone head [] row column name e placed held other is = absurd (omega (arith, held.0))
other_zone head (first ∷ above) row column name e placed held other is =
    for_row files.Agency head (first ∷ above) row reasons.TwoZones e is
    (refl, first, (0, held.0, refl), λ same. other (sym (placed row) ∙ sym same ∙ placed first ∙ held.1 0 first held.0))

-- an element of a list of values is the value of one
contains_at : {X Y : Type 0} (f : X → Y) (xs : List X) (y : Y) (k : ℕ) → k < length (map f xs) → get_or (map f xs) k y ≡ y → (x : X) × Contains xs x × (f x ≡ y)
contains_at f [] y k below at = absurd (omega (arith, below))
contains_at f (x ∷ xs) y zero below at = (x, (0, omega arith, refl), at)
contains_at f (x ∷ xs) y (suc k) below at =
    let (found, there, is) = contains_at f xs y k (omega (arith, below)) at in
    (found, Contains-append_right (x ∷ []) xs found there, is)

-- an id that is refused, where those that are there are the rows'
id_reason : (file : FeedFile) (column : Column) (head : Record) (above : List Record) (row : Record) (place : ℕ) (ids : Ids) (reason : RowReason)
    → IsTrue (checks file column) → IsBad column [] → IsTrue (doubles file column) → (file ≢ files.CalendarDates)
    → IsPlace head (column_name column) (Some place) → HoldsIds ids place above
    → IsIdReason (id_texts ids) (at_place row (Some place)) column reason → IsRefused file reason head above row
unfolding IsRefused
id_reason file column head above row place ids reasons.Limit checked bad once other_file placed held h =
    let same : length (id_texts ids) ≡ length above = ap length held ∙ length-map above (λ (r : Record). at_place r (Some place)) in
    inr (omega (arith, h, same))
id_reason file column head above row place ids (reasons.Value other) checked bad once other_file placed held h =
    subst (λ (c : Column). IsRefused file (reasons.Value c) head above row) (sym h.0)
    (checked, inl (subst (λ (t : Text). IsBad column t) (sym (placed row ∙ h.1)) bad))
id_reason file column head above row place ids (reasons.Doubled other) checked bad once other_file placed held h =
    let (one, there, is) =
    let there = subst (λ (texts : List Text). Contains texts (at_place row (Some place))) held h.1 in
    contains_at (λ (r : Record). at_place r (Some place)) above (at_place row (Some place)) there.0 there.1 there.2
    in
    subst (λ (c : Column). IsRefused file (reasons.Doubled c) head above row) (sym h.0)
    (once, (one, there, placed one ∙ is ∙ sym (placed row), λ dated. absurd (other_file dated)))
id_reason file column head above row place ids reasons.MissingFile checked bad once other_file placed held h = absurd h
id_reason file column head above row place ids (reasons.MissingColumn other) checked bad once other_file placed held h = absurd h
id_reason file column head above row place ids reasons.Width checked bad once other_file placed held h = absurd h
id_reason file column head above row place ids reasons.NotText checked bad once other_file placed held h = absurd h
id_reason file column head above row place ids reasons.TwoZones checked bad once other_file placed held h = absurd h
id_reason file column head above row place ids (reasons.Unknown other) checked bad once other_file placed held h = absurd h
id_reason file column head above row place ids reasons.LineForm checked bad once other_file placed held h = absurd h

pub id_refused : (file : FeedFile) (column : Column) (head : Record) (above : List Record) (row : Record) (place : ℕ) (ids : Ids) (e : FeedRefused)
    → IsTrue (checks file column) → IsBad column [] → IsTrue (doubles file column) → (file ≢ files.CalendarDates)
    → IsPlace head (column_name column) (Some place) → HoldsIds ids place above
    → IsIdRefusal (id_texts ids) (at_place row (Some place)) column e → IsOfRow file head above row e
id_refused file column head above row place ids (refusals.Unread other) checked bad once other_file placed held h = absurd h
id_refused file column head above row place ids (refusals.At other line reason) checked bad once other_file placed held h =
    id_reason file column head above row place ids reason checked bad once other_file placed held h
id_refused file column head above row place ids refusals.NoMemory checked bad once other_file placed held h = tt

-- the id of a service that is new in the second calendar
new_reason : (head : Record) (above : List Record) (row : Record) (place : ℕ) (ids : List Text) (reason : RowReason)
    → IsPlace head (column_name columns.ServiceId) (Some place) → ¬ Contains ids (at_place row (Some place))
    → IsIdReason ids (at_place row (Some place)) columns.ServiceId reason → IsRefused files.CalendarDates reason head above row
unfolding IsRefused
new_reason head above row place ids reasons.Limit placed new h = inl refl
new_reason head above row place ids (reasons.Value other) placed new h =
    subst (λ (c : Column). IsRefused files.CalendarDates (reasons.Value c) head above row) (sym h.0) (refl, inl (placed row ∙ h.1))
new_reason head above row place ids (reasons.Doubled other) placed new h = absurd (new h.1)
new_reason head above row place ids reasons.MissingFile placed new h = absurd h
new_reason head above row place ids (reasons.MissingColumn other) placed new h = absurd h
new_reason head above row place ids reasons.Width placed new h = absurd h
new_reason head above row place ids reasons.NotText placed new h = absurd h
new_reason head above row place ids reasons.TwoZones placed new h = absurd h
new_reason head above row place ids (reasons.Unknown other) placed new h = absurd h
new_reason head above row place ids reasons.LineForm placed new h = absurd h

pub new_refused : (head : Record) (above : List Record) (row : Record) (place : ℕ) (ids : List Text) (e : FeedRefused)
    → IsPlace head (column_name columns.ServiceId) (Some place) → ¬ Contains ids (at_place row (Some place))
    → IsIdRefusal ids (at_place row (Some place)) columns.ServiceId e → IsOfRow files.CalendarDates head above row e
new_refused head above row place ids (refusals.Unread other) placed new h = absurd h
new_refused head above row place ids (refusals.At other line reason) placed new h = new_reason head above row place ids reason placed new h
new_refused head above row place ids refusals.NoMemory placed new h = tt

-- a refusal for a reason of an id
pub for_id : (ids : List Text) (id : Text) (column : Column) (reason : RowReason) (e : FeedRefused)
    → IsFor reason e → IsIdReason ids id column reason → IsIdRefusal ids id column e
for_id ids id column reason (refusals.Unread other) is cause = absurd is
for_id ids id column reason (refusals.At other line reason1) is cause = subst (λ (r : RowReason). IsIdReason ids id column r) (sym is) cause
for_id ids id column reason refusals.NoMemory is cause = tt
