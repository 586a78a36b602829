-- A record: the queries that were told to a search with their replies, in the order told.
use Rattle.std.specs.Prelude.{◌≡◌, Bool, true, false, not, ◌&&◌, ◌==◌, List, Option, Some, None}
use Rattle.std.specs.List.{list_any}
use Rattle.ojp_values.specs.Lists.{Among}
use Rattle.ojp_values.specs.Texts.{Text, same}
use Rattle.ojp_values.specs.declared.replies.Delivery.{Delivery}
use Rattle.ojp_records.specs.declared.queries.Query.{Query}
use Rattle.ojp_records.specs.declared.queries.Query.TheVariants.{Check, Reach}
use Rattle.ojp_records.specs.declared.queries.Entry.{Entry}

-- the region that the query asks
abbrev pub region_of : Query → Text
region_of (Check region stop) = region
region_of (Reach region stop start) = region

-- the queries are the same
abbrev pub same_query : Query → Query → Bool
same_query (Check r s) (Check r' s') = same r r' && same s s'
same_query (Check r s) (Reach r' s' t') = false
same_query (Reach r s t) (Check r' s') = false
same_query (Reach r s t) (Reach r' s' t') = same r r' && (same s s' && (t == t'))

-- the record has an entry of the query
unfoldable pub is_told : List Entry → Query → Bool
is_told told query = list_any (λ (entry : Entry). same_query entry.query query) told

-- there is a reply
abbrev pub has_reply : Option Delivery → Bool
has_reply None = false
has_reply (Some delivery) = true

-- the record has a failure of the query
unfoldable pub is_failed : List Entry → Query → Bool
is_failed told query = list_any (λ (entry : Entry). same_query entry.query query && not (has_reply entry.reply)) told

-- the record has a failure of the query, in plain words
abbrev pub Failed : List Entry → Query → Type 0
Failed told query = (entry : Entry) × Among entry told × (entry.query ≡ query) × (entry.reply ≡ None)
