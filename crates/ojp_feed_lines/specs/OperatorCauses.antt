-- Why the operator's file is refused, by its lines.
use Rattle.std.specs.Prelude.{◌≡◌, ◌≢◌, ◌<◌, ◌≤◌, ◌+◌, ◌^◌, ◌⊎◌, ◌&&◌, ◌==◌, ⊤, ℕ, Bool, false, Contains, IsUtf8, List, [], ◌∷◌, ◌++◌, codes, length, nat_lt}
use Rattle.std.specs.List.{list_any}
use Rattle.ojp_values.specs.Numbers.{number}
use Rattle.ojp_values.specs.Texts.{Text, is_code, is_exchange, is_stop_ref}
use Rattle.ojp_zones.specs.Parts.{parts}
use Rattle.ojp_feed_lines.specs.Fields.{is_count}
use Rattle.ojp_feed_lines.specs.declared.columns.Column.TheVariants as columns
use Rattle.ojp_feed_lines.specs.declared.files.FeedFile.TheVariants as files
use Rattle.ojp_feed_lines.specs.declared.refusals.FeedRefused.{FeedRefused}
use Rattle.ojp_feed_lines.specs.declared.refusals.FeedRefused.TheVariants as refusals
use Rattle.ojp_feed_lines.specs.declared.refusals.RowReason.{RowReason}
use Rattle.ojp_feed_lines.specs.declared.refusals.RowReason.TheVariants as reasons

-- ---- how a line is spelled

-- the byte is a space
abbrev pub is_space : ℕ → Bool
is_space b = b == 32

-- no space stands in the text
abbrev pub IsPlain : Text → Type 0
IsPlain text = list_any is_space text ≡ false

abbrev pub ArePlain : List Text → Type 0
ArePlain [] = ⊤
ArePlain (field ∷ fields) = IsPlain field × ArePlain fields

-- fields with a space behind each, and what stands behind them
abbrev pub spelled : List Text → Text → Text
spelled [] rest = rest
spelled (field ∷ fields) rest = field ++ 32 ∷ spelled fields rest

-- the line begins with these fields, and this stands behind them
abbrev pub IsSpelled : Text → List Text → Text → Type 0
IsSpelled line fields rest = (line ≡ spelled fields rest) × ArePlain fields

-- `exchange POINT CHANGE ID`
abbrev pub IsExchange : Text → Text → Text → Text → Type 0
IsExchange line point change id = IsSpelled line (codes "exchange" ∷ point ∷ change ∷ []) id

-- `neighbour POINT CODE CHANGE`
abbrev pub IsNeighbour : Text → Text → Text → Text → Type 0
IsNeighbour line point region change = IsSpelled line (codes "neighbour" ∷ point ∷ region ∷ []) change

-- `change CHANGE ID`
abbrev pub IsChange : Text → Text → Text → Type 0
IsChange line change id = IsSpelled line (codes "change" ∷ change ∷ []) id

-- ---- what its fields must be

-- an exchange point: `x`, a colon and a label
abbrev pub is_point : Text → Bool
is_point text = is_stop_ref text && is_exchange text

-- the seconds of a change: a count from 1 to 7,200
abbrev pub is_change : Text → Bool
is_change text = is_count 7200 text && nat_lt 0 (number text)

-- no stop has the id, or the stops are too many to be numbered
abbrev pub IsUnknown : List Text → Text → Type 0
IsUnknown ids id = (¬ Contains ids id) ⊎ 2 ^ 32 ≤ length ids

-- ---- why it is refused

-- the first word is none of the three
abbrev pub IsNoWord : Text → Type 0
IsNoWord word = (word ≢ codes "exchange") × (word ≢ codes "neighbour") × (word ≢ codes "change")

-- these are too few fields before the last one of the form that they begin
abbrev pub AreTooFew : List Text → Type 0
AreTooFew [] = ⊤
AreTooFew (word ∷ fields) =
    ((word ≡ codes "exchange") ⊎ (word ≡ codes "neighbour")) × length fields < 2 ⊎ (word ≡ codes "change") × length fields < 1

-- the line is of none of the forms: by its first word, or since it has too few spaces
abbrev pub IsFormless : Text → Type 0
IsFormless line =
    ((word : Text) × (rest : Text) × IsSpelled line (word ∷ []) rest × IsNoWord word)
    ⊎ ((fields : List Text) × (last : Text) × IsSpelled line fields last × IsPlain last × AreTooFew fields)

-- the line names this exchange point
abbrev pub HasPoint : Text → Text → Type 0
HasPoint line point =
    ((rest : Text) × IsSpelled line (codes "exchange" ∷ point ∷ []) rest)
    ⊎ ((region : Text) × (rest : Text) × IsSpelled line (codes "neighbour" ∷ point ∷ region ∷ []) rest)

-- the line names the region at the exchange point
abbrev pub HasRegion : Text → Text → Text → Type 0
HasRegion line point region = (change : Text) × IsNeighbour line point region change

-- this stands for the seconds of a change
abbrev pub HasChange : Text → Text → Type 0
HasChange line change =
    ((point : Text) × (id : Text) × IsExchange line point change id)
    ⊎ (((point : Text) × (region : Text) × IsNeighbour line point region change) ⊎ ((id : Text) × IsChange line change id))

-- the line gives the stop with this id an exchange point
abbrev pub GivesPoint : Text → Text → Type 0
GivesPoint line id = (point : Text) × (change : Text) × IsExchange line point change id

-- or a change
abbrev pub GivesChange : Text → Text → Type 0
GivesChange line id = (change : Text) × IsChange line change id

-- a line above gives the same stop the same
abbrev pub IsStopDoubled : List Text → Text → Type 0
IsStopDoubled above line =
    (other : Text) × (id : Text) × Contains above other
    × ((GivesPoint other id × GivesPoint line id) ⊎ (GivesChange other id × GivesChange line id))

-- a line above gives the same exchange point another change
abbrev pub IsOtherChange : List Text → Text → Type 0
IsOtherChange above line =
    (other : Text) × (point : Text) × (change : Text) × (id : Text) × (change1 : Text) × (id1 : Text)
    × Contains above other × IsExchange other point change id × IsExchange line point change1 id1 × (number change ≢ number change1)

-- a line above names the same region at the same exchange point
abbrev pub IsRegionDoubled : List Text → Text → Type 0
IsRegionDoubled above line =
    (other : Text) × (point : Text) × (region : Text) × Contains above other × HasRegion other point region × HasRegion line point region

-- no line above gives a stop this exchange point
abbrev pub IsNoPointAbove : List Text → Text → Type 0
IsNoPointAbove above point = (other change id : Text) → Contains above other → ¬ IsExchange other point change id

-- why a line is refused, by the code of the region, the ids of the stops, and the lines above it
unfoldable pub IsLineCause : Text → List Text → List Text → Text → RowReason → Type 0
IsLineCause code ids above line reasons.LineForm = IsFormless line
IsLineCause code ids above line (reasons.Value columns.Exchange) = (point : Text) × HasPoint line point × (is_point point ≡ false)
IsLineCause code ids above line (reasons.Value columns.Code) =
    (point : Text) × (region : Text) × HasRegion line point region × ((is_code region ≡ false) ⊎ (region ≡ code))
IsLineCause code ids above line (reasons.Value columns.Change) =
    ((change : Text) × HasChange line change × (is_change change ≡ false)) ⊎ IsOtherChange above line
IsLineCause code ids above line reasons.NotText = (id : Text) × (GivesPoint line id ⊎ GivesChange line id) × ¬ IsUtf8 id
IsLineCause code ids above line (reasons.Unknown columns.StopId) = (id : Text) × (GivesPoint line id ⊎ GivesChange line id) × IsUnknown ids id
IsLineCause code ids above line (reasons.Unknown columns.Exchange) =
    (point : Text) × (region : Text) × HasRegion line point region × IsNoPointAbove above point
IsLineCause code ids above line (reasons.Doubled columns.StopId) = IsStopDoubled above line
IsLineCause code ids above line (reasons.Doubled columns.Code) = IsRegionDoubled above line
IsLineCause code ids above line _ = ⊥

-- the lines of a text: what stands between its line feeds
abbrev pub lines_of : Text → List Text
lines_of bytes = parts 10 bytes

-- the bytes have a line of this number, from 1, that is refused for this reason
pub record IsOperatorCause (code : Text) (ids : List Text) (bytes : Text) (line : ℕ) (reason : RowReason) : Type 0 where
  pub above : List Text
  pub text : Text
  pub below : List Text
  pub lines : lines_of bytes ≡ above ++ text ∷ below
  pub counted : line ≡ length above + 1
  pub why : IsLineCause code ids above text reason

-- the refusal is of a line of the operator's file that is the cause, or want of memory
abbrev pub IsOperatorRefusal : Text → List Text → Text → FeedRefused → Type 0
IsOperatorRefusal code ids bytes (refusals.Unread file) = ⊥
IsOperatorRefusal code ids bytes (refusals.At file line reason) = (file ≡ files.Operator) × IsOperatorCause code ids bytes line reason
IsOperatorRefusal code ids bytes refusals.NoMemory = ⊤
