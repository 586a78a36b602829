-- Causes of failures, over several calls.
use Rattle.std.proofs.Common.{◌≡◌, ◌<◌, ℕ, List, ◌∷◌, ◌++◌, Option, Some, None, Result, Ok, Err, arith, inl, inr, sym, ap, subst, length, refl, ◌∙◌, IsTrue, append_assoc}
use Rattle.std.specs.Prelude.{IfErr, IfSome, IsErrAnd, IsSomeAnd, codes}
use Rattle.ojp_values.specs.Texts.{Text}
use Rattle.ojp_outside.specs.Causes.{Rose}
use Rattle.ojp_outside.specs.Files.{IsContents}
use Rattle.ojp_outside.specs.Seen.{SinkView, StoreView}
use Rattle.ojp_outside.specs.declared.store.TheConstants.{FILE_LIMIT}
use Rattle.ojp_timetable.specs.Tables.{Timetable}
use Rattle.ojp_calendars.specs.Files.{HasCause, IsNoFile}
use Rattle.ojp_calendars.specs.declared.faults.ZoneFault.{ZoneFault}
use Rattle.ojp_calendars.specs.declared.faults.ZoneFault.TheVariants as zones
use Rattle.ojp_feed_lines.specs.Folders.{Files, FolderView}
use Rattle.ojp_feed_lines.specs.Refusals.{ExplainsAll, is_unread}
use Rattle.ojp_feed_lines.specs.Rows.{or_nothing}
use Rattle.ojp_feed_lines.specs.declared.refusals.FeedRefused.{FeedRefused}
use Rattle.ojp_feed_lines.specs.declared.refusals.FeedRefused.TheVariants as feeds
use Rattle.ojp_feed_rows.specs.declared.feed.Feed.{Feed}
use Rattle.ojp_feed_rows.specs.declared.settings.Settings.{Settings}
use Rattle.ojp_feed_rows.specs.declared.settings.Window.{Window}
use Rattle.ojp_feed.specs.Converting.{IsCause}
use Rattle.ojp_feed.specs.declared.converting.ConvertRefused.{ConvertRefused}
use Rattle.ojp_feed.specs.declared.converting.ConvertRefused.TheVariants as conversions
use Rattle.ojp_region.specs.Files.{IsFileOf, ReadsFile}
use Rattle.ojp_region.specs.declared.files.FileRefused.{FileRefused}
use Rattle.ojp_region.specs.declared.files.FileRefused.TheVariants as files
use Rattle.ojp_steps.specs.Lent.{Lent, Tells, before, after, lent}
use Rattle.ojp_gtfs_cli.specs.Causes.{ConversionFailsAs, FailsAs, FileFailsAs, GivesNone, HasNoZoneFile, HasTooLong, OthersFailAs, RowsFailAs, StoreFails, StoreGoesOn, ZoneFailsAs}
use Rattle.ojp_gtfs_cli.specs.Failures.{failure_of_conversion, failure_of_feed, failure_of_file}
use Rattle.ojp_gtfs_cli.specs.Feeds.{AreSettings, IsFeedOf, OfStored, Stored, held_day, zone_path}
use Rattle.ojp_gtfs_cli.specs.Lines.{conversion_lines, feed_line, other_line}
use Rattle.ojp_gtfs_cli.specs.Refused.{HasNoZone, IsOperatorOf, IsRowRefused}
use Rattle.ojp_gtfs_cli.specs.Words.{StandsBehind, Wanted}
use Rattle.ojp_gtfs_cli.specs.declared.failures.Failure.{Failure}
use Rattle.ojp_gtfs_cli.specs.declared.failures.Failure.TheVariants.{Words, Unread, Refused, Memory}

-- a failure that `?` passes on
pub passed_on : {T : Type 0} (result : Result T Failure) (failure : Failure) (P : Failure → Type 0)
    → IsErrAnd result (λ passed. passed ≡ failure) → P failure → IfErr result P
passed_on (Ok value) failure P is holds = tt
passed_on (Err passed) failure P is holds = subst P (sym is) holds

-- ---- one read of the store

-- the file of this name is too long
pub too_long : (stored : Option (Text → Option Text)) (name : Text)
    → IfSome stored (λ files. IsSomeAnd (files name) (λ bytes. FILE_LIMIT < length bytes)) → HasTooLong stored
too_long None name is = is
too_long (Some files) name is = (name, is)

-- what holds of the bytes that were read holds of the file
pub of_stored : (stored : Option (Text → Option Text)) (name bytes : Text) (P : Text → Type 0) → IsContents stored name bytes → P bytes → OfStored stored name P
of_stored None name bytes P held holds = tt
of_stored (Some files) name bytes P held holds = subst (λ (o : Option Text). IsSomeAnd o P) (sym held) holds

-- the file of this zone is no zone file
pub no_zone_file : (zoneinfo zone : Text) (stored : Option (Text → Option Text)) (bytes : Text)
    → IsContents stored (zone_path zoneinfo zone) bytes → IsNoFile bytes → HasNoZoneFile zoneinfo stored
no_zone_file zoneinfo zone None bytes held none = tt
no_zone_file zoneinfo zone (Some files) bytes held none = (zone, subst (λ (o : Option Text). IsSomeAnd o IsNoFile) (sym held) none)

-- a zone file gives no zone
pub gives_none : (bytes : Text) (window : Window) (fault : ZoneFault) → HasCause bytes (held_day window.first) (held_day window.last) fault → GivesNone bytes window fault
gives_none bytes window zones.Memory cause = tt
gives_none bytes window zones.File cause = cause
gives_none bytes window zones.Rule cause = inl cause

-- the file of another region was not taken
pub of_file : {E : Type 0} (options : List Text) (name : Text) (old new : StoreView) (report : Lent E SinkView) (refused : FileRefused)
    → StandsBehind options (codes "--against") name → ReadsFile name old new (Err refused) → Tells report (other_line name refused)
    → OthersFailAs options old new report (failure_of_file refused)
of_file options name old new report files.Failed named read told = inl read.rose
of_file options name old new report files.TooLong named read told = inr (too_long old.contents name read.above)
of_file options name old new report (files.At line reason) named read told = record {
  file = name;
  line = line;
  reason = reason;
  bytes = read.bytes;
  named = named;
  held = read.held;
  refused = read.refused;
  told = told;
}
of_file options name old new report files.NoMemory named read told = tt

-- it leaves what the store tells
pub file_kept : (name : Text) (old new : StoreView) (refused : FileRefused)
    → ReadsFile name old new (Err refused) → new.contents ≡ old.contents
file_kept name old new files.Failed read = read.same
file_kept name old new files.TooLong read = ap (λ (view : StoreView). view.contents) read.same
file_kept name old new (files.At line reason) read = ap (λ (view : StoreView). view.contents) read.same
file_kept name old new files.NoMemory read = ap (λ (view : StoreView). view.contents) read

-- the file of another region was taken
pub file_goes_on : (name : Text) (old new : StoreView) (table : Timetable) → IsFileOf name old new table → StoreGoesOn old new
file_goes_on name old new table read = subst (StoreGoesOn old) (sym read.same) (record { kept = refl; later = omega (arith) })

-- ---- several calls

-- two calls over which the store goes on
pub store_goes_on : (a b c : StoreView) → StoreGoesOn a b → StoreGoesOn b c → StoreGoesOn a c
store_goes_on a b c first second = record {
  kept = second.kept ∙ first.kept;
  later = omega (arith, first.later, second.later);
}

-- a call over which the store goes on, and then one in which it fails
pub store_fails_later : (a b c : StoreView) → StoreGoesOn a b → StoreFails b c → StoreFails a c
store_fails_later a b c on (inl rose) = inl (omega (arith, on.later, rose))
store_fails_later a b c on (inr long) = inr (subst HasTooLong on.kept long)

-- what stands behind an option stands behind it in a longer list
pub stands_later : (front options : List Text) (option word : Text) → StandsBehind options option word → StandsBehind (front ++ options) option word
stands_later front options option word stands = record {
  front = front ++ stands.front;
  back = stands.back;
  joined = ap (λ (rest : List Text). front ++ rest) stands.joined ∙ sym (append_assoc front stands.front (option ∷ word ∷ stands.back));
}

-- files that stand behind others, and calls over which the store goes on
pub others_fail_later : {E : Type 0} (front options : List Text) (a b c : StoreView) (report : Lent E SinkView) (failure : Failure) → StoreGoesOn a b
    → OthersFailAs options b c report failure → OthersFailAs (front ++ options) a c report failure
others_fail_later front options a b c report Words on fails = fails
others_fail_later front options a b c report Unread on fails = store_fails_later a b c on fails
others_fail_later front options a b c report Refused on fails = record {
  file = fails.file;
  line = fails.line;
  reason = fails.reason;
  bytes = fails.bytes;
  named = stands_later front options (codes "--against") fails.file fails.named;
  held = subst (λ (stored : Stored). IsContents stored fails.file fails.bytes) on.kept fails.held;
  refused = fails.refused;
  told = fails.told;
}
others_fail_later front options a b c report Memory on fails = tt

-- the same where nothing was told before
pub others_fail_behind : {E : Type 0} (seen : E → SinkView) (all front rest options : List Text) (a b c : StoreView) (old mid new : E) (failure : Failure)
    → all ≡ front ++ rest → options ≡ rest → StoreGoesOn a b → mid ≡ old → OthersFailAs options b c (lent seen mid new) failure
    → OthersFailAs all a c (lent seen old new) failure
others_fail_behind {E} seen all front rest options a b c old mid new failure joined is on same fails =
    let here : OthersFailAs rest b c (lent seen mid new) failure = subst (λ (o : List Text). OthersFailAs o b c (lent seen mid new) failure) is fails in
    let told : OthersFailAs rest b c (lent seen old new) failure = subst (λ (m : E). OthersFailAs rest b c (lent seen m new) failure) same here in
    subst (λ (o : List Text). OthersFailAs o a c (lent seen old new) failure) (sym joined) (others_fail_later front rest a b c (lent seen old new) failure on told)

-- the feed was not read, behind a call over which the store goes on
pub of_feed : {E : Type 0} (code : Text) (name operator : Option Text) (folder folder_after : FolderView) (store store_after : StoreView)
    (report : Lent E SinkView) (refused : FeedRefused)
    → IsOperatorOf store.contents name operator → (IsTrue (is_unread refused) → Rose folder.faults folder_after.faults)
    → ExplainsAll folder.contents code operator refused → Tells report (feed_line (or_nothing name) refused)
    → RowsFailAs code name folder folder_after store store_after report (failure_of_feed refused)
of_feed code name operator folder folder_after store store_after report (feeds.Unread file) held rose why told = inl (rose refl)
of_feed code name operator folder folder_after store store_after report (feeds.At file line reason) held rose why told = record {
  file = file;
  line = line;
  reason = reason;
  operator = operator;
  held = held;
  explained = why;
  told = told;
}
of_feed code name operator folder folder_after store store_after report feeds.NoMemory held rose why told = tt

-- the operator's file was not read
pub of_operator : {E : Type 0} (code : Text) (name : Option Text) (folder : FolderView) (store store_after : StoreView) (report : Lent E SinkView) (failure : Failure)
    → FileFailsAs store store_after failure → RowsFailAs code name folder folder store store_after report failure
of_operator code name folder store store_after report Words fails = fails
of_operator code name folder store store_after report Unread fails = inr fails
of_operator code name folder store store_after report Refused fails = absurd fails
of_operator code name folder store store_after report Memory fails = tt

-- the files that a store tells are those that it told before
pub rows_stored : {E : Type 0} (contents : Option Files) (a b : Stored) (code : Text) (name : Option Text) (report : Lent E SinkView)
    → a ≡ b → IsRowRefused contents a code name report → IsRowRefused contents b code name report
rows_stored contents a b code name report same refused = subst (λ (stored : Stored). IsRowRefused contents stored code name report) same refused

-- a feed has no timetable for this refusal
pub unconverted : {E : Type 0} (feed : Feed) (settings : Settings) (report : Lent E SinkView) (fits : Option ℕ) (refused : ConvertRefused)
    → IsCause feed settings refused → Tells report (conversion_lines feed.stops.items feed.trips.items fits refused)
    → ConversionFailsAs feed settings report (failure_of_conversion refused)
unconverted feed settings report fits (conversions.DoubledStops first second) why told =
    record { refused = conversions.DoubledStops first second; fits = fits; is = refl; why = why; told = told }
unconverted feed settings report fits (conversions.DoubledTrips first second) why told =
    record { refused = conversions.DoubledTrips first second; fits = fits; is = refl; why = why; told = told }
unconverted feed settings report fits conversions.TooManyJourneys why told =
    record { refused = conversions.TooManyJourneys; fits = fits; is = refl; why = why; told = told }
unconverted feed settings report fits conversions.TooManyCalls why told =
    record { refused = conversions.TooManyCalls; fits = fits; is = refl; why = why; told = told }
unconverted feed settings report fits (conversions.Line line reason) why told =
    record { refused = conversions.Line line reason; fits = fits; is = refl; why = why; told = told }
unconverted feed settings report fits conversions.NoMemory why told = tt

-- ---- what a run fails of

module _ {D S E : Type 0} (wanted : Wanted) (zoneinfo : Text) (folder : Lent D FolderView) (store : Lent S StoreView) (seen : E → SinkView) (old new : E) where
  -- the files of other regions
  pub of_others : (failure : Failure) → OthersFailAs wanted.options (before store) (after store) (lent seen old new) failure
      → FailsAs wanted zoneinfo folder store (lent seen old new) failure
  of_others Words fails = fails
  of_others Unread fails = inr (inl fails)
  of_others Refused fails = inl fails
  of_others Memory fails = tt

  -- the rows, behind calls over which the store goes on
  pub of_rows : (middle : StoreView) (failure : Failure) → StoreGoesOn (before store) middle
      → RowsFailAs wanted.code wanted.chosen.exchange (before folder) (after folder) middle (after store) (lent seen old new) failure
      → FailsAs wanted zoneinfo folder store (lent seen old new) failure
  of_rows middle Words on fails = fails
  of_rows middle Unread on (inl rose) = inl rose
  of_rows middle Unread on (inr fails) = inr (inl (store_fails_later (before store) middle (after store) on fails))
  of_rows middle Refused on fails =
      inr (inl (rows_stored (before folder).contents middle.contents (before store).contents wanted.code wanted.chosen.exchange (lent seen old new) on.kept fails))
  of_rows middle Memory on fails = tt

  -- the zone of the folder's feed, behind calls over which the store goes on
  pub of_zone : (middle : StoreView) (feed : Feed) (failure : Failure) → StoreGoesOn (before store) middle → IsFeedOf (before folder).contents feed
      → ZoneFailsAs wanted.chosen.zone zoneinfo feed middle (after store) (lent seen old new) failure → FailsAs wanted zoneinfo folder store (lent seen old new) failure
  of_zone middle feed Words on is fails = fails
  of_zone middle feed Unread on is (inl fails) = inr (inl (store_fails_later (before store) middle (after store) on fails))
  of_zone middle feed Unread on is (inr none) = inr (inr (subst (HasNoZoneFile zoneinfo) on.kept none))
  of_zone middle feed Refused on is fails = inr (inr (inl (record {
    feed = feed;
    of_folder = is;
    why = subst (λ (stored : Stored). HasNoZone wanted.chosen.zone zoneinfo stored feed (lent seen old new)) on.kept fails;
  })))
  of_zone middle feed Memory on is fails = tt

  -- the conversion of the folder's feed
  pub of_conversion : (feed : Feed) (settings : Settings) (failure : Failure) → IsFeedOf (before folder).contents feed
      → AreSettings wanted zoneinfo (before store).contents feed settings → ConversionFailsAs feed settings (lent seen old new) failure
      → FailsAs wanted zoneinfo folder store (lent seen old new) failure
  of_conversion feed settings Words is asked fails = absurd fails
  of_conversion feed settings Unread is asked fails = absurd fails
  of_conversion feed settings Refused is asked fails = inr (inr (inr (record { feed = feed; settings = settings; of_folder = is; as_asked = asked; why = fails })))
  of_conversion feed settings Memory is asked fails = tt
