-- Why a feed is not converted.
use Rattle.std.proofs.Common.{◌≡◌, ℕ, List, sym, subst}
use Rattle.ojp_feed_rows.specs.declared.feed.Feed.{Feed}
use Rattle.ojp_feed_rows.specs.declared.settings.Settings.{Settings}
use Rattle.ojp_feed_plans.specs.Plans.{IsPlanOf}
use Rattle.ojp_feed_plans.specs.Refusals.{IsPlanRefused}
use Rattle.ojp_feed_plans.specs.declared.plans.Plan.{Plan}
use Rattle.ojp_feed_plans.specs.declared.refusals.PlanRefused.{PlanRefused}
use Rattle.ojp_feed_plans.specs.declared.refusals.PlanRefused.TheVariants as plans
use Rattle.ojp_timetable.specs.Refusals.{IsRefusal}
use Rattle.ojp_timetable.specs.TableText.{IsTextRefused}
use Rattle.ojp_timetable.specs.declared.file.refusals.TableRefused.{TableRefused}
use Rattle.ojp_timetable.specs.declared.file.refusals.TableRefused.TheVariants.{At, NoMemory}
use Rattle.ojp_feed.specs.Converting.{IsCause, planned_refusal, refusal_of}
use Rattle.ojp_feed.specs.Texts.{text_of}
use Rattle.ojp_feed.specs.declared.converting.ConvertRefused.{ConvertRefused}

cause_of : (feed : Feed) (settings : Settings) (plan : Plan) (text : List ℕ) (refused : TableRefused) → IsPlanOf feed plan → text ≡ text_of settings plan → IsRefusal text refused → IsCause feed settings (refusal_of refused)
cause_of feed settings plan text (At line reason) of is why = record { plan = plan; of = of; refused = subst (λ (t : List ℕ). IsTextRefused t line reason) is why }
cause_of feed settings plan text NoMemory of is why = tt

pub cause_read : (feed : Feed) (settings : Settings) (plan : Plan) (text : List ℕ) (refused : TableRefused) (result : ConvertRefused) → IsPlanOf feed plan → text ≡ text_of settings plan
    → IsRefusal text refused → result ≡ refusal_of refused → IsCause feed settings result
cause_read feed settings plan text refused result of is why same = subst (λ (r : ConvertRefused). IsCause feed settings r) (sym same) (cause_of feed settings plan text refused of is why)

planned_cause : (feed : Feed) (settings : Settings) (refused : PlanRefused) → IsPlanRefused feed refused → IsCause feed settings (planned_refusal refused)
planned_cause feed settings (plans.DoubledStops first second) why = why
planned_cause feed settings (plans.DoubledTrips first second) why = why
planned_cause feed settings plans.TooManyJourneys why = why
planned_cause feed settings plans.TooManyCalls why = why
planned_cause feed settings plans.NoMemory why = tt

pub cause_planned : (feed : Feed) (settings : Settings) (refused : PlanRefused) (result : ConvertRefused) → IsPlanRefused feed refused → result ≡ planned_refusal refused → IsCause feed settings result
cause_planned feed settings refused result why same = subst (λ (r : ConvertRefused). IsCause feed settings r) (sym same) (planned_cause feed settings refused why)
