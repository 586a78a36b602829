-- How what a board keeps stands to its book and its record.
use Rattle.std.specs.Prelude.{◌≡◌, ℕ, Bool, true, false, ◌&&◌, List, [], ◌∷◌, ◌++◌, Option, Some, None, map, IsTrue, length, slice_get, if◌then◌else◌}
use Rattle.std.specs.List.{flat_map, cons_option}
use Rattle.ojp_values.specs.Lists.{Among, least}
use Rattle.ojp_values.specs.Texts.{Text, same, home, is_stop_ref}
use Rattle.ojp_values.specs.declared.asks.TripAsk.{TripAsk}
use Rattle.ojp_values.specs.declared.replies.Delivery.{Delivery}
use Rattle.ojp_exchange.specs.Book.{Book, Spot, is_home}
use Rattle.ojp_exchange.specs.Kept.{IsWellBook}
use Rattle.ojp_exchange.specs.Places.{IsSpotAt}
use Rattle.ojp_records.specs.declared.queries.Query.{Query}
use Rattle.ojp_records.specs.declared.queries.Query.TheVariants.{Reach}
use Rattle.ojp_records.specs.declared.queries.Entry.{Entry}
use Rattle.ojp_records.specs.Records.{is_told, is_failed}
use Rattle.ojp_records.specs.declared.places.PlaceState.{PlaceState}
use Rattle.ojp_records.specs.declared.places.PlaceState.TheVariants.{CheckFailed}
use Rattle.ojp_records.specs.Places.{checks_in, place_state}
use Rattle.ojp_records.specs.Pairs.{ends_towards}
use Rattle.ojp_records.specs.Starts.{Arrival, arrivals, best, asked_start, starts_after}
use Rattle.ojp_records.specs.Told.{IsRecord}
use Rattle.ojp_records.specs.Ends.{lesser_text}
use Rattle.ojp_labels.specs.Labels.{marked, label_slot, failed_by}
use Rattle.ojp_labels.specs.Slots.{origin_slot, target_slot, are_known, known_slot}
use Rattle.ojp_labels.specs.declared.labels.Label.{Label}
use Rattle.ojp_labels.specs.declared.board.Board.{Board}

-- the ask of the board's search
abbrev pub ask_of : Board → TripAsk
ask_of board = board.ask

-- the record: all that was told to the board, in the order told
abbrev pub told_of : Board → List Entry
told_of board = board.told.items

-- the starts of a pair that are known by these arrivals
unfoldable pub starts_by : Book → TripAsk → List Arrival → Text → Text → List ℕ
starts_by book ask heard stop region = asked_start book ask stop region ++ flat_map (starts_after book stop region) heard

-- the asked start, where the stop is the origin
abbrev pub start_at : TripAsk → Text → Option ℕ
start_at ask stop = if same stop ask.origin then Some ask.start else None

-- there is one
abbrev pub has_any : {X : Type 0} → List X → Bool
has_any [] = false
has_any (x ∷ xs) = true

-- the label of the spot's pair keeps the least start that is known by these arrivals, and what was told of the pair at it
pub record IsLabel (book : Book) (ask : TripAsk) (told : List Entry) (heard : List Arrival) (spot : Spot) (label : Label) : Type 0 where
  pub start_is : label.start ≡ least (starts_by book ask heard spot.stop spot.region)
  pub told_is : (start : ℕ) → label.start ≡ Some start → label.told ≡ is_told told (Reach spot.region spot.stop start)
  pub failed_is : (start : ℕ) → label.start ≡ Some start → label.failed ≡ is_failed told (Reach spot.region spot.stop start)
  pub targets_are : label.has_target ≡ has_any (ends_towards book ask.target spot.stop spot.region)

-- whatever was told of a pair was told at a known start
abbrev pub TellsKnown : Book → TripAsk → List Entry → List Arrival → Type 0
TellsKnown book ask told heard =
    (stop region : Text) (start : ℕ) → is_told told (Reach region stop start) ≡ true → Among start (starts_by book ask heard stop region)

-- each place has its label
pub record AreLabels (book : Book) (ask : TripAsk) (told : List Entry) (heard : List Arrival) (labels : List Label) : Type 0 where
  pub count : length labels ≡ length book.spots
  pub known : TellsKnown book ask told heard
  pub each : (place : ℕ) (spot : Spot) (label : Label) → IsSpotAt book place spot → slice_get labels place ≡ Some label → IsLabel book ask told heard spot label

-- the own stop, as a spot of its region
abbrev pub own_spot : Text → Text → Spot
own_spot stop code = record { stop = stop; region = code; change = 0 }

-- the origin's own spot, if the origin is no exchange point
abbrev pub own_spot_of : TripAsk → Option Text → Option Spot
own_spot_of ask None = None
own_spot_of ask (Some code) = Some (own_spot ask.origin code)

-- the label is that of the origin's own pair, if the origin is no exchange point
abbrev pub IsOwnLabel : Book → TripAsk → List Entry → Label → Option Text → Type 0
IsOwnLabel book ask told own None = Unit {0}
IsOwnLabel book ask told own (Some code) = IsLabel book ask told (arrivals book ask told) (own_spot ask.origin code) own

-- what is kept agrees with the book, the ask and the record: the best arrival, the states of the places, the label of
-- the origin's own pair, and that of each place
pub record IsKept (book : Book) (ask : TripAsk) (told : List Entry) (least_arrival : Option ℕ) (origin target : PlaceState) (own : Label) (labels : List Label) : Type 0 where
  pub book_well : IsWellBook book
  pub origin_well : IsTrue (is_stop_ref ask.origin)
  pub record_of : IsRecord book ask told
  pub best_is : least_arrival ≡ best book ask told
  pub origin_is : origin ≡ place_state book (checks_in told) ask.origin
  pub target_is : target ≡ place_state book (checks_in told) ask.target
  pub own_is : IsOwnLabel book ask told own (home ask.origin)
  pub labels_are : AreLabels book ask told (arrivals book ask told) labels

-- the board is one of the book: what it keeps agrees with the book, its ask and its record
abbrev pub IsBoardOf : Board → Book → Type 0
IsBoardOf board book = IsKept book board.ask board.told.items board.best board.origin board.target board.own board.labels.items

-- the boards keep the same
pub record IsUnchanged (old new : Board) : Type 0 where
  pub ask : new.ask ≡ old.ask
  pub told : new.told.items ≡ old.told.items
  pub best : new.best ≡ old.best
  pub origin : new.origin ≡ old.origin
  pub target : new.target ≡ old.target
  pub own : new.own ≡ old.own
  pub labels : new.labels.items ≡ old.labels.items

-- the entry of the query, with its reply or its failure
abbrev pub entry_of : Query → Option Delivery → Entry
entry_of query reply = record { query = query; reply = reply }

-- what the board wants of the origin's own pair
abbrev pub own_slot : TripAsk → Option ℕ → Label → Option Text → Option Query
own_slot ask best own None = None
own_slot ask best own (Some code) = label_slot ask best (own_spot ask.origin code) own

-- what is wanted at each place by its label
abbrev pub place_slots : TripAsk → Option ℕ → List Spot → List Label → List (Option Query)
place_slots ask best [] labels = []
place_slots ask best (spot ∷ spots) [] = []
place_slots ask best (spot ∷ spots) (label ∷ labels) = label_slot ask best spot label ∷ place_slots ask best spots labels

-- what is wanted by the board: the checks, then, where the places are known, the own pair and each place
abbrev pub kept_slots : Book → Board → List (Option Query)
kept_slots book board =
    origin_slot board.ask board.origin ∷ target_slot board.ask board.origin board.target ∷ map (known_slot (are_known board.origin board.target))
    (own_slot board.ask board.best board.own (home board.ask.origin) ∷ place_slots board.ask board.best book.spots board.labels.items)

-- the lesser of the codes, or the one that there is
abbrev pub lesser_code : Option Text → Option Text → Option Text
lesser_code None other = other
lesser_code (Some code) other = Some (lesser_text code other)

-- the region, where its check failed
abbrev pub failed_code : PlaceState → Option Text → Option Text
failed_code CheckFailed code = code
failed_code state code = None

-- the regions of the places of which a failure stands
abbrev pub failed_places : TripAsk → Option ℕ → List Spot → List Label → List Text
failed_places ask best [] labels = []
failed_places ask best (spot ∷ spots) [] = []
failed_places ask best (spot ∷ spots) (label ∷ labels) = cons_option (failed_by ask best spot label) (failed_places ask best spots labels)

-- the region of the origin's own pair, where a failure of it stands
abbrev pub own_failed : TripAsk → Option ℕ → Label → Option Text → Option Text
own_failed ask best own None = None
own_failed ask best own (Some code) = failed_by ask best (own_spot ask.origin code) own

-- the pair is the origin's own
abbrev pub is_own : TripAsk → Text → Text → Bool
is_own ask region stop = is_home region (home ask.origin) && same ask.origin stop

-- the own label after the pair was told at the start
abbrev pub own_told : TripAsk → Text → Text → ℕ → Bool → Label → Label
own_told ask region stop start failed own = if is_own ask region stop then marked own start failed else own
