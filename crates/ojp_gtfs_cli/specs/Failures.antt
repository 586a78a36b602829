-- Which failure a refusal is, and its status.
use Rattle.std.specs.Prelude.{ℕ}
use Rattle.ojp_feed.specs.declared.converting.ConvertRefused.{ConvertRefused}
use Rattle.ojp_feed.specs.declared.converting.ConvertRefused.TheVariants as conversions
use Rattle.ojp_feed_lines.specs.declared.refusals.FeedRefused.{FeedRefused}
use Rattle.ojp_feed_lines.specs.declared.refusals.FeedRefused.TheVariants as feeds
use Rattle.ojp_region.specs.declared.files.FileRefused.{FileRefused}
use Rattle.ojp_region.specs.declared.files.FileRefused.TheVariants as files
use Rattle.ojp_gtfs_cli.specs.declared.failures.Failure.{Failure}
use Rattle.ojp_gtfs_cli.specs.declared.failures.Failure.TheVariants.{Words, Unread, Refused, Memory}

-- the exit status
abbrev pub status_of : Failure → ℕ
status_of Words = 2
status_of Unread = 3
status_of Memory = 5
status_of Refused = 6

-- of a feed that was not read
abbrev pub failure_of_feed : FeedRefused → Failure
failure_of_feed (feeds.Unread file) = Unread
failure_of_feed (feeds.At file line reason) = Refused
failure_of_feed feeds.NoMemory = Memory

-- of another region's file that was not taken
abbrev pub failure_of_file : FileRefused → Failure
failure_of_file files.Failed = Unread
failure_of_file files.TooLong = Unread
failure_of_file (files.At line reason) = Refused
failure_of_file files.NoMemory = Memory

-- of a feed that was not converted
abbrev pub failure_of_conversion : ConvertRefused → Failure
failure_of_conversion (conversions.DoubledStops first second) = Refused
failure_of_conversion (conversions.DoubledTrips first second) = Refused
failure_of_conversion conversions.TooManyJourneys = Refused
failure_of_conversion conversions.TooManyCalls = Refused
failure_of_conversion (conversions.Line line reason) = Refused
failure_of_conversion conversions.NoMemory = Memory
