-- What a record tells of places: the checks that were told, and what they say of a stop.
use Rattle.std.specs.Prelude.{Bool, ◌&&◌, List, [], ◌∷◌, ◌++◌, Option, Some, None, if◌then◌else◌}
use Rattle.std.specs.List.{filter_map}
use Rattle.ojp_values.specs.Texts.{Text, same, home}
use Rattle.ojp_values.specs.declared.replies.Fault.TheVariants.{StopUnknown}
use Rattle.ojp_values.specs.declared.replies.EventsReply.TheVariants as events_replies
use Rattle.ojp_values.specs.declared.replies.Delivery.{Delivery}
use Rattle.ojp_values.specs.declared.replies.Delivery.TheVariants as deliveries
use Rattle.ojp_exchange.specs.Book.{Book, has_region, is_declared}
use Rattle.ojp_records.specs.declared.queries.Query.{Query}
use Rattle.ojp_records.specs.declared.queries.Query.TheVariants.{Check, Reach}
use Rattle.ojp_records.specs.declared.queries.Entry.{Entry}
pub use Rattle.ojp_records.specs.declared.places.PlaceState.{PlaceState}
pub use Rattle.ojp_records.specs.declared.places.PlaceState.TheVariants.{Known, Unknown, Unheard, CheckFailed}

-- a check that was told: which region was asked of which stop, and its reply
pub record ToldCheck : Type 0 where
  pub region : Text
  pub stop : Text
  pub reply : Option Delivery

-- the check that the query is
abbrev pub check_of : Query → Option Delivery → Option ToldCheck
check_of (Check region stop) reply = Some (record { region = region; stop = stop; reply = reply })
check_of (Reach region stop start) reply = None

-- the checks of a record, in the order told
unfoldable pub checks_in : List Entry → List ToldCheck
checks_in told = filter_map (λ (entry : Entry). check_of entry.query entry.reply) told

-- a check failed where it has no reply, the place is unknown where the reply says so, and else it is known
abbrev pub reply_state : Option Delivery → PlaceState
reply_state None = CheckFailed
reply_state (Some (deliveries.Events (events_replies.Fault (StopUnknown stop)))) = Unknown
reply_state (Some reply) = Known

-- the check is that of the stop by the region
abbrev pub is_check : Text → Text → ToldCheck → Bool
is_check region stop check = same check.region region && same check.stop stop

-- what the first check of the stop by the region tells, if there is one
abbrev pub check_state : List ToldCheck → Text → Text → PlaceState
check_state [] region stop = Unheard
check_state (check ∷ checks) region stop = if is_check region stop check then reply_state check.reply else check_state checks region stop

-- the state of an exchange point, or of the stop of the region with the code
abbrev pub state_by : Book → List ToldCheck → Text → Option Text → PlaceState
state_by book checks stop None = if is_declared book stop then Known else Unknown
state_by book checks stop (Some code) = if has_region book code then check_state checks code stop else Unknown

-- an exchange point is known where some region of the book declares it; a stop of a region that the book lacks is
-- unknown; every other stop is as its check was told
unfoldable pub place_state : Book → List ToldCheck → Text → PlaceState
place_state book checks stop = state_by book checks stop (home stop)

-- the state of the place after the stop was checked
abbrev pub state_after : Text → Text → PlaceState → PlaceState → PlaceState
state_after place stop state before = if same place stop then state else before

-- the check of the stop by the region with the code
abbrev pub check_by : Text → Option Text → List Query
check_by stop None = []
check_by stop (Some code) = Check code stop ∷ []

-- the check of the stop by its region
abbrev pub check : Text → List Query
check stop = check_by stop (home stop)

-- by the states of origin and target: nothing where the origin is unknown; else the checks that were not told;
-- else nothing, unless both places are known
abbrev pub wanted_by_places : {Query : Type 0} → List Query → List Query → List Query → PlaceState → PlaceState → List Query
wanted_by_places check_origin check_target rest Unknown target = []
wanted_by_places check_origin check_target rest Unheard Unheard = check_origin ++ check_target
wanted_by_places check_origin check_target rest Unheard target = check_origin
wanted_by_places check_origin check_target rest origin Unheard = check_target
wanted_by_places check_origin check_target rest Known Known = rest
wanted_by_places check_origin check_target rest origin target = []
