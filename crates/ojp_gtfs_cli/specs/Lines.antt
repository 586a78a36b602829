-- The lines that standard error is told where a run fails.
use Rattle.std.specs.Prelude.{ℕ, List, [], ◌++◌, Option, Some, None, codes, slice_get}
use Rattle.std.specs.Fmt.{decimal}
use Rattle.ojp_values.specs.Dates.{day_text}
use Rattle.ojp_values.specs.Texts.{Text}
use Rattle.ojp_timetable.specs.Views.{reason_words}
use Rattle.ojp_region.specs.declared.files.FileRefused.{FileRefused}
use Rattle.ojp_region.specs.declared.files.FileRefused.TheVariants as files
use Rattle.ojp_feed_rows.specs.declared.settings.Window.{Window}
use Rattle.ojp_feed_rows.specs.declared.stops.Stop.{Stop}
use Rattle.ojp_feed_rows.specs.declared.trips.Trip.{Trip}
use Rattle.ojp_feed_lines.specs.Refusals.{name_of}
use Rattle.ojp_feed_lines.specs.ReasonWords.{row_words}
use Rattle.ojp_feed_lines.specs.declared.files.FeedFile.{FeedFile}
use Rattle.ojp_feed_lines.specs.declared.files.FeedFile.TheVariants.{Operator}
use Rattle.ojp_feed_lines.specs.declared.refusals.FeedRefused.{FeedRefused}
use Rattle.ojp_feed_lines.specs.declared.refusals.FeedRefused.TheVariants as feeds
use Rattle.ojp_feed_plans.specs.Labels.{stop_id, trip_id}
use Rattle.ojp_feed.specs.declared.converting.ConvertRefused.{ConvertRefused}
use Rattle.ojp_feed.specs.declared.converting.ConvertRefused.TheVariants as conversions
use Rattle.ojp_steps.specs.Failures.{line_of, refused_line_text}
use Rattle.ojp_gtfs_cli.specs.Feeds.{held_day}

abbrev pub memory_line : Text
memory_line = line_of (codes "no memory")

-- a file could not be read
abbrev pub unread_line : Text → Text
unread_line file = line_of (codes "store: " ++ file)

-- a file has too many bytes
abbrev pub long_line : Text → Text
long_line file = line_of (codes "too long: " ++ file)

-- what stands before the reason for which a line of a file is refused
abbrev pub place_text : Text → ℕ → Text
place_text file line = file ++ codes ": line " ++ decimal line ++ codes ": "

-- a line of a file is refused
abbrev pub refused_line : Text → ℕ → Text → Text
refused_line file line reason = line_of (refused_line_text file line reason)

-- the name of a file of the feed; that of the operator's is given
abbrev pub file_name : Text → FeedFile → Text
file_name operator Operator = operator
file_name operator file = name_of file

-- a feed was not read
abbrev pub feed_line : Text → FeedRefused → Text
feed_line operator (feeds.Unread file) = unread_line (file_name operator file)
feed_line operator (feeds.At file line reason) = refused_line (file_name operator file) line (row_words reason)
feed_line operator feeds.NoMemory = memory_line

-- the file of another region was not taken
abbrev pub other_line : Text → FileRefused → Text
other_line file files.Failed = unread_line file
other_line file files.TooLong = long_line file
other_line file (files.At line reason) = refused_line file line (reason_words reason)
other_line file files.NoMemory = memory_line

-- the zone of a feed is no name of a zone file
abbrev pub zone_name_line : Text
zone_name_line = refused_line (codes "agency.txt") 2 (codes "bad agency_timezone")

-- no rule has the noons of the zone in the window
abbrev pub no_rule_line : Text → Window → Text
no_rule_line zone window =
    line_of (codes "agency.txt: no rule for " ++ zone ++ codes " from " ++ day_text (held_day window.first) ++ codes " to " ++ day_text (held_day window.last)
    ++ codes ": shorten the window or give --zone")

-- two stops, or two trips, have one label
abbrev pub doubled_line : Text → Text → Text → Text
doubled_line file one other = line_of (file ++ codes ": one label for " ++ one ++ codes " and " ++ other)

-- a day up to which a feed is converted, if one is told
abbrev pub fit_line : Option ℕ → Text
fit_line None = []
fit_line (Some day) = line_of (codes "it fits with --to " ++ day_text (held_day day))

-- a feed with these stops and trips was not converted
abbrev pub conversion_lines : List Stop → List Trip → Option ℕ → ConvertRefused → Text
conversion_lines stops trips fits (conversions.DoubledStops first second) =
    doubled_line (codes "stops.txt") (stop_id (slice_get stops first)) (stop_id (slice_get stops second))
conversion_lines stops trips fits (conversions.DoubledTrips first second) =
    doubled_line (codes "trips.txt") (trip_id (slice_get trips first)) (trip_id (slice_get trips second))
conversion_lines stops trips fits conversions.TooManyJourneys = line_of (codes "timetable: more than 20000 journeys") ++ fit_line fits
conversion_lines stops trips fits conversions.TooManyCalls = line_of (codes "timetable: more than 100000 calls") ++ fit_line fits
conversion_lines stops trips fits (conversions.Line line reason) = refused_line (codes "timetable") line (reason_words reason) ++ fit_line fits
conversion_lines stops trips fits conversions.NoMemory = memory_line
