-- What the rows need of boards.
use Rattle.std.proofs.Common.{◌≡◌, Bool, true, false, List, sym}
use Rattle.std.proofs.lemmas.Bool.{true≢false}
use Rattle.std.specs.Prelude.{MatchBool}
use Rattle.ojp_values.specs.Lists.{Among}
use Rattle.ojp_values.specs.declared.asks.TripAsk.{TripAsk}
use Rattle.ojp_exchange.specs.Book.{Book}
use Rattle.ojp_records.specs.declared.queries.Query.{Query}
use Rattle.ojp_records.specs.declared.queries.Entry.{Entry}
use Rattle.ojp_records.specs.Wanted.{wanted}
use Rattle.ojp_records.specs.Told.{IsOpenQuery}
use Rattle.ojp_records.proofs.BoardFacts.{wanted_is_open}

-- a query that is wanted is open
pub open_from :
    (book : Book) (ask : TripAsk) (told : List Entry) (query : Query) (is_wanted : Bool)
    → MatchBool is_wanted (Among query (wanted book ask told)) (Among query (wanted book ask told) → ⊥) → is_wanted ≡ true
    → IsOpenQuery book ask told query
open_from book ask told query true listed e = wanted_is_open book ask told query listed
open_from book ask told query false listed e = absurd (true≢false (sym e))
