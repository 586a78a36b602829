-- What a line of the operator's file says, and why it is not taken below the lines above it.
use Rattle.std.specs.Prelude.{◌≡◌, ◌≢◌, ◌<◌, ◌⊎◌, ⊤, ℕ, Contains, IsUtf8, List, [], ◌∷◌, ◌++◌, false, get_or, length}
use Rattle.ojp_values.specs.Numbers.{number}
use Rattle.ojp_values.specs.Texts.{Text}
use Rattle.ojp_feed_rows.specs.declared.operator.Exchange.{Exchange}
use Rattle.ojp_feed_rows.specs.declared.operator.NeighbourOf.{NeighbourOf}
use Rattle.ojp_feed_rows.specs.declared.operator.Operator.{Operator}
use Rattle.ojp_feed_rows.specs.declared.operator.StopChange.{StopChange}
use Rattle.ojp_feed_lines.specs.OperatorCauses.{IsChange, IsExchange, IsNeighbour, IsPlain, IsSpelled, IsUnknown, is_change}
use Rattle.ojp_feed_lines.specs.declared.columns.Column.TheVariants as columns
use Rattle.ojp_feed_lines.specs.declared.operator.OperatorLine.{OperatorLine}
use Rattle.ojp_feed_lines.specs.declared.operator.OperatorLine.TheVariants as said
use Rattle.ojp_feed_lines.specs.declared.operator.Refused.{Refused}
use Rattle.ojp_feed_lines.specs.declared.operator.Refused.TheVariants.{For, NoMemory}
use Rattle.ojp_feed_lines.specs.declared.refusals.RowReason.{RowReason}
use Rattle.ojp_feed_lines.specs.declared.refusals.RowReason.TheVariants as reasons

-- the stop of this number has the id
abbrev pub IsIdOf : List Text → ℕ → Text → Type 0
IsIdOf ids stop id = (stop < length ids) × (get_or ids stop [] ≡ id)

-- the line says this
abbrev pub Says : List Text → Text → OperatorLine → Type 0
Says ids line (said.Exchange exchange) =
    (change : Text) × (id : Text) × IsExchange line exchange.point change id × (number change ≡ exchange.change) × IsIdOf ids exchange.stop id
Says ids line (said.Neighbour neighbour) = (change : Text) × IsNeighbour line neighbour.point neighbour.region change
Says ids line (said.Change change) = (text : Text) × (id : Text) × IsChange line text id × (number text ≡ change.change) × IsIdOf ids change.stop id

-- ---- the change of a stop, as a line ends

-- the text is a change and an id
abbrev pub IsStopChangeOf : List Text → Text → StopChange → Type 0
IsStopChangeOf ids text of =
    (change : Text) × (id : Text) × IsSpelled text (change ∷ []) id × (number change ≡ of.change) × IsIdOf ids of.stop id

-- why a change and an id are refused
abbrev pub IsPairFault : List Text → Text → Text → RowReason → Type 0
IsPairFault ids change id reason =
    (reason ≡ reasons.Value columns.Change) × (is_change change ≡ false)
    ⊎ ((reason ≡ reasons.NotText) × (¬ IsUtf8 id) ⊎ (reason ≡ reasons.Unknown columns.StopId) × IsUnknown ids id)

-- why a text is none
abbrev pub IsStopChangeFault : List Text → Text → RowReason → Type 0
IsStopChangeFault ids text reason =
    (reason ≡ reasons.LineForm) × IsPlain text
    ⊎ ((change : Text) × (id : Text) × IsSpelled text (change ∷ []) id × IsPairFault ids change id reason)

-- ---- beside what the lines above say

-- two exchange points may not stand beside each other
abbrev pub IsBeside : Exchange → Exchange → RowReason → Type 0
IsBeside other exchange reason =
    (reason ≡ reasons.Doubled columns.StopId) × (other.stop ≡ exchange.stop)
    ⊎ (reason ≡ reasons.Value columns.Change) × (other.point ≡ exchange.point) × (other.change ≢ exchange.change)

abbrev pub IsExchangeClash : List Exchange → Exchange → RowReason → Type 0
IsExchangeClash exchanges exchange reason = (other : Exchange) × Contains exchanges other × IsBeside other exchange reason

abbrev pub IsNeighbourClash : List Exchange → List NeighbourOf → NeighbourOf → RowReason → Type 0
IsNeighbourClash exchanges neighbours neighbour reason =
    (reason ≡ reasons.Unknown columns.Exchange) × ((other : Exchange) → Contains exchanges other → other.point ≢ neighbour.point)
    ⊎ (reason ≡ reasons.Doubled columns.Code)
    × (other : NeighbourOf) × Contains neighbours other × (other.point ≡ neighbour.point) × (other.region ≡ neighbour.region)

abbrev pub IsChangeClash : List StopChange → StopChange → RowReason → Type 0
IsChangeClash changes change reason =
    (reason ≡ reasons.Doubled columns.StopId) × (other : StopChange) × Contains changes other × (other.stop ≡ change.stop)

-- what a line says cannot be added
abbrev pub IsClash : Operator → OperatorLine → RowReason → Type 0
IsClash operator (said.Exchange exchange) reason = IsExchangeClash operator.exchanges.items exchange reason
IsClash operator (said.Neighbour neighbour) reason = IsNeighbourClash operator.exchanges.items operator.neighbours.items neighbour reason
IsClash operator (said.Change change) reason = IsChangeClash operator.changes.items change reason

-- the line is not taken for a reason of which this holds, or for want of memory
abbrev pub IsFor : (RowReason → Type 0) → Refused → Type 0
IsFor P (For reason) = P reason
IsFor P NoMemory = ⊤

-- what a line says goes behind the rest of its kind
abbrev pub Adds : Operator → OperatorLine → Operator → Type 0
Adds old (said.Exchange exchange) new =
    (new.exchanges.items ≡ old.exchanges.items ++ exchange ∷ []) × (new.neighbours.items ≡ old.neighbours.items) × (new.changes.items ≡ old.changes.items)
Adds old (said.Neighbour neighbour) new =
    (new.exchanges.items ≡ old.exchanges.items) × (new.neighbours.items ≡ old.neighbours.items ++ neighbour ∷ []) × (new.changes.items ≡ old.changes.items)
Adds old (said.Change change) new =
    (new.exchanges.items ≡ old.exchanges.items) × (new.neighbours.items ≡ old.neighbours.items) × (new.changes.items ≡ old.changes.items ++ change ∷ [])

-- ---- the lines above

-- one of the lines says this
abbrev pub IsSaid : List Text → List Text → OperatorLine → Type 0
IsSaid ids lines what = (line : Text) × Contains lines line × Says ids line what

-- what was taken stems from the lines, and each of their exchange points was taken
pub record StandsFor (ids : List Text) (lines : List Text) (operator : Operator) : Type 0 where
  pub exchanges : (e : Exchange) → Contains operator.exchanges.items e → IsSaid ids lines (said.Exchange e)
  pub neighbours : (n : NeighbourOf) → Contains operator.neighbours.items n → IsSaid ids lines (said.Neighbour n)
  pub changes : (c : StopChange) → Contains operator.changes.items c → IsSaid ids lines (said.Change c)
  pub points : (line point change id : Text) → Contains lines line → IsExchange line point change id
      → (e : Exchange) × Contains operator.exchanges.items e × (e.point ≡ point)
