-- What the rows so far stand for, and what all rows do.
use Rattle.std.proofs.Common.{◌≡◌, ℕ, List, [], ◌∷◌, ◌++◌, map, Option, Some, None, refl, sym, ◌∙◌, arith, length-append}
use Rattle.std.specs.Prelude.{String, string_bytes, IsSomeAnd}
use Rattle.std.specs.declared.alloc.Global.{Global}
use Rattle.std.proofs.lemmas.List.{map-append}
use Rattle.std.proofs.lemmas.List.Elements.{All-append, All-cons, All-nil}
use Rattle.ojp_values.specs.Texts.{Text}
use Rattle.ojp_feed_rows.specs.declared.stops.Route.{Route}
use Rattle.ojp_feed_lines.specs.Columns.{column_name}
use Rattle.ojp_feed_lines.specs.Folders.{Files}
use Rattle.ojp_feed_lines.specs.IdTexts.{HoldsIds, id_texts}
use Rattle.ojp_feed_lines.specs.Places.{AreRoutesOf, AreStopIdsOf, HoldsZone, IsZoneOf, route_at, route_texts, route_under}
use Rattle.ojp_feed_lines.specs.Rows.{IsPlace, OfFile, Record, at_place, under}
use Rattle.ojp_feed_lines.specs.Tables.{HasTaken}
use Rattle.ojp_feed_lines.specs.declared.files.FeedFile.{FeedFile}
use Rattle.ojp_feed_lines.specs.declared.ids.Ids.{Ids}
use Rattle.ojp_feed_lines.specs.declared.columns.Column.TheVariants as columns
use Rattle.ojp_feed_lines.specs.RowPlaces.{StopPlaces}
use Rattle.ojp_feed_lines.specs.declared.routes.RouteColumns.{RouteColumns}

-- the first row names the zone
pub zone_first : (name : String Global) (column : ℕ) (rows : List Record) (row : Record)
    → rows ≡ [] → at_place row (Some column) ≡ string_bytes name → HoldsZone (Some name) column (rows ++ row ∷ [])
zone_first name column rows row none is =
    let P = λ (r : Record). at_place r (Some column) ≡ string_bytes name in
    (omega (arith, length-append rows (row ∷ [])), rw none (All-cons P row [] is (All-nil P)))

-- a further one names it too
pub zone_more : (name : String Global) (column : ℕ) (rows : List Record) (row : Record)
    → HoldsZone (Some name) column rows → at_place row (Some column) ≡ string_bytes name → HoldsZone (Some name) column (rows ++ row ∷ [])
zone_more name column rows row h is =
    let P = λ (r : Record). at_place r (Some column) ≡ string_bytes name in
    (omega (arith, length-append rows (row ∷ [])), All-append P rows (row ∷ []) h.1 (All-cons P row [] is (All-nil P)))

-- what holds of the bytes where one fact does holds where another does that follows
pub of_file : (contents : Option Files) (file : FeedFile) (P Q : Text → Type 0) → ((bytes : Text) → P bytes → Q bytes) → OfFile contents file P → OfFile contents file Q
of_file None file P Q f h = h
of_file (Some files) file P Q f h = by (files file) h
  where
    by : (o : Option Text) → IsSomeAnd o P → IsSomeAnd o Q
    by None h = h
    by (Some bytes) h = f bytes h

-- the zone of all rows
pub zone_is : (name : String Global) (bytes : Text)
    → HasTaken (λ column head. IsPlace head (column_name columns.AgencyTimezone) (Some column)) (λ column rows. HoldsZone (Some name) column rows) bytes
    → IsZoneOf bytes (string_bytes name)
zone_is name bytes h = record {
  head = h.head;
  rows = h.rows;
  are_rows = h.all;
  some = h.held.0;
  each = λ k d below. h.placed _ ∙ h.held.1 k d below;
}

-- maps that agree at each element
same_maps : {X Y : Type 0} (f g : X → Y) → ((x : X) → f x ≡ g x) → (xs : List X) → map f xs ≡ map g xs
same_maps f g e [] = refl
same_maps f g e (x ∷ xs) = rw (e x, same_maps f g e xs) refl

-- a value more
pub map_more : {X Y Z : Type 0} (f : X → Z) (g : Y → Z) (xs : List X) (ys : List Y) (x : X) (y : Y)
    → map f xs ≡ map g ys → f x ≡ g y → map f (xs ++ x ∷ []) ≡ map g (ys ++ y ∷ [])
map_more f g xs ys x y e last = map-append f xs (x ∷ []) ∙ (rw (e, last) refl) ∙ sym (map-append g ys (y ∷ []))

-- the zone by the bytes of the file
pub zone_of : (contents : Option Files) (file : FeedFile) (name : String Global)
    → OfFile contents file (HasTaken (λ column head. IsPlace head (column_name columns.AgencyTimezone) (Some column)) (λ column rows. HoldsZone (Some name) column rows))
    → OfFile contents file (λ bytes. IsZoneOf bytes (string_bytes name))
zone_of contents file name h =
    of_file contents file
    (HasTaken (λ column head. IsPlace head (column_name columns.AgencyTimezone) (Some column)) (λ column rows. HoldsZone (Some name) column rows))
    (λ bytes. IsZoneOf bytes (string_bytes name)) (zone_is name) h

-- the places of the columns of routes
abbrev pub RoutePlaces : RouteColumns → Record → Type 0
RoutePlaces c head = IsPlace head (column_name columns.RouteId) (Some c.id) × IsPlace head (column_name columns.RouteShortName) c.short_name

-- the routes that were taken
abbrev pub HoldsRoutes : List Route → Ids → RouteColumns → List Record → Type 0
HoldsRoutes routes ids c rows = (map route_texts routes ≡ map (route_at c.id c.short_name) rows) × HoldsIds ids c.id rows

routes_are : (routes : List Route) (ids : Ids) (bytes : Text) → HasTaken RoutePlaces (HoldsRoutes routes ids) bytes → AreRoutesOf bytes routes
routes_are routes ids bytes h = record {
  head = h.head;
  rows = h.rows;
  are_rows = h.all;
  same = h.held.0 ∙ same_maps (route_at h.columns.id h.columns.short_name) (route_under h.head) (λ row. rw (h.placed.0 row, h.placed.1 row) refl) h.rows;
}

-- the routes by the bytes of the file
pub routes_of : (contents : Option Files) (file : FeedFile) (routes : List Route) (ids : Ids)
    → OfFile contents file (HasTaken RoutePlaces (HoldsRoutes routes ids)) → OfFile contents file (λ bytes. AreRoutesOf bytes routes)
routes_of contents file routes ids h = of_file contents file (HasTaken RoutePlaces (HoldsRoutes routes ids)) (λ bytes. AreRoutesOf bytes routes) (routes_are routes ids) h

ids_are : (ids : Ids) (bytes : Text) → HasTaken StopPlaces (λ c rows. HoldsIds ids c.id rows) bytes → AreStopIdsOf bytes (id_texts ids)
ids_are ids bytes h = record {
  head = h.head;
  rows = h.rows;
  are_rows = h.all;
  same = h.held ∙ same_maps (λ row. at_place row (Some h.columns.id)) (under h.head (column_name columns.StopId)) (λ row. sym (h.placed.id row)) h.rows;
}

-- the ids of the stops by the bytes of the file
pub stop_ids_of : (contents : Option Files) (file : FeedFile) (ids : Ids)
    → OfFile contents file (HasTaken StopPlaces (λ c rows. HoldsIds ids c.id rows)) → OfFile contents file (λ bytes. AreStopIdsOf bytes (id_texts ids))
stop_ids_of contents file ids h =
    of_file contents file (HasTaken StopPlaces (λ c rows. HoldsIds ids c.id rows)) (λ bytes. AreStopIdsOf bytes (id_texts ids)) (ids_are ids) h
