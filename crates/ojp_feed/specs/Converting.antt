-- What a conversion refuses.
use Rattle.std.specs.Prelude.{ℕ}
use Rattle.ojp_feed_rows.specs.declared.feed.Feed.{Feed}
use Rattle.ojp_feed_rows.specs.declared.settings.Settings.{Settings}
use Rattle.ojp_feed_plans.specs.Plans.{IsPlanOf}
use Rattle.ojp_feed_plans.specs.Refusals.{AreRefused, AreStopsRefused}
use Rattle.ojp_feed_plans.specs.declared.plans.Plan.{Plan}
use Rattle.ojp_feed_plans.specs.declared.refusals.PlanRefused.{PlanRefused}
use Rattle.ojp_feed_plans.specs.declared.refusals.PlanRefused.TheVariants as plans
use Rattle.ojp_timetable.specs.TableText.{IsTextRefused}
use Rattle.ojp_timetable.specs.declared.file.lines.TableReason.{TableReason}
use Rattle.ojp_timetable.specs.declared.file.refusals.TableRefused.{TableRefused}
use Rattle.ojp_timetable.specs.declared.file.refusals.TableRefused.TheVariants.{At, NoMemory}
use Rattle.ojp_feed.specs.Texts.{text_of}
use Rattle.ojp_feed.specs.declared.converting.ConvertRefused.{ConvertRefused}
use Rattle.ojp_feed.specs.declared.converting.ConvertRefused.TheVariants as refusals

-- the line of the text of a plan of the feed is the first that a timetable refuses, and for that reason
pub record IsLineOf (feed : Feed) (settings : Settings) (line : ℕ) (reason : TableReason) : Type 0 where
  pub plan : Plan
  pub of : IsPlanOf feed plan
  pub refused : IsTextRefused (text_of settings plan) line reason

-- the refusal of the text of a plan
abbrev pub refusal_of : TableRefused → ConvertRefused
refusal_of (At line reason) = refusals.Line line reason
refusal_of NoMemory = refusals.NoMemory

-- the refusal of a feed that has no plan
abbrev pub planned_refusal : PlanRefused → ConvertRefused
planned_refusal (plans.DoubledStops first second) = refusals.DoubledStops first second
planned_refusal (plans.DoubledTrips first second) = refusals.DoubledTrips first second
planned_refusal plans.TooManyJourneys = refusals.TooManyJourneys
planned_refusal plans.TooManyCalls = refusals.TooManyCalls
planned_refusal plans.NoMemory = refusals.NoMemory

-- a feed has no plan for the cause that is named, and a line is refused where a timetable refuses it
abbrev pub IsCause : Feed → Settings → ConvertRefused → Type 0
IsCause feed settings (refusals.DoubledStops first second) = AreStopsRefused feed first second
IsCause feed settings (refusals.DoubledTrips first second) = AreRefused feed (plans.DoubledTrips first second)
IsCause feed settings refusals.TooManyJourneys = AreRefused feed plans.TooManyJourneys
IsCause feed settings refusals.TooManyCalls = AreRefused feed plans.TooManyCalls
IsCause feed settings (refusals.Line line reason) = IsLineOf feed settings line reason
IsCause feed settings refusals.NoMemory = Unit {0}
