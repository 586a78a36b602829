-- Small networks: the traces of whole searches, by the definitions.
use Rattle.std.specs.Prelude.{◌≡◌, ℕ, List, [], ◌∷◌, ◌++◌, Option, Some, None, codes, option_map, if◌then◌else◌}
use Rattle.ojp_values.specs.Texts.{Text}
use Rattle.ojp_values.specs.declared.asks.TripAsk.{TripAsk}
use Rattle.ojp_values.specs.declared.replies.EventsReply.TheVariants as events_replies
use Rattle.ojp_values.specs.declared.replies.Delivery.{Delivery}
use Rattle.ojp_values.specs.declared.replies.Delivery.TheVariants as deliveries
use Rattle.ojp_exchange.specs.Book.{Book}
use Rattle.ojp_records.specs.declared.queries.Query.{Query}
use Rattle.ojp_records.specs.declared.queries.Entry.{Entry}
use Rattle.ojp_records.specs.Records.{same_query}
use Rattle.ojp_records.specs.Examples.{at, code_bb, point_p, by_ride, heard, one_point, to_bb, at_point, apart, ask_to, shared_points, to_point, all_heard, two_regions, to_aa, back, three_points, later_to_bb, reached}
use Rattle.ojp_traces.specs.Traces.{Standing, before_all, ended_from}

-- nothing was heard
abbrev pub no_reply : Delivery
no_reply = deliveries.Events (events_replies.Events [])

-- the reply, where there is one
abbrev pub reply_or_none : Option Delivery → Delivery
reply_or_none None = no_reply
reply_or_none (Some reply) = reply

-- the reply that the record has for the query
abbrev pub reply_in : List Entry → Query → Delivery
reply_in [] query = no_reply
reply_in (entry ∷ told) query = if same_query entry.query query then reply_or_none entry.reply else reply_in told query

-- the lines of the search whose replies are those of the record
abbrev pub lines_by : Book → TripAsk → ℕ → List Entry → Option Text
lines_by book ask order told = option_map (λ (last : Standing). last.lines) (ended_from book ask order (reply_in told) 40 1 before_all)

-- BB reaches BB:z at 09:00
abbrev pub exactly_met : List Entry
exactly_met = at_point ++ heard code_bb point_p (at 8 40) (by_ride code_bb (codes "K1") point_p (at 8 40) (codes "BB:z") (at 9 0) ∷ []) ∷ []

-- a change that is exactly met
abbrev pub TracesExactChange : Type 0
TracesExactChange =
    lines_by (one_point 600) to_bb 0 exactly_met
    ≡ Some (codes "1 check 1 AA AA:a\n1 check 2 BB BB:z\n5 reply 2\n9 reply 1\n9 ask 3 AA AA:a 2024-05-06T07:55:00Z\n20 reply 3\n20 ask 4 BB x:P 2024-05-06T08:40:00Z\n27 reply 4\n")

-- from one exchange point to another
abbrev pub TracesPoints : Type 0
TracesPoints =
    lines_by shared_points to_point 0 all_heard
    ≡ Some (codes "1 ask 1 AA x:P 2024-05-06T08:59:00Z\n1 ask 2 BB x:P 2024-05-06T08:59:00Z\n1 ask 3 CC x:P 2024-05-06T08:59:00Z\n5 reply 2\n9 reply 1\n12 reply 3\n")

-- out and back, in three orders
pub record TracesOrders : Type 0 where
  pub first : lines_by two_regions to_aa 0 back
      ≡ Some (codes "1 check 1 AA AA:a\n1 check 2 AA AA:z\n5 reply 2\n9 reply 1\n9 ask 3 AA AA:a 2024-05-06T08:55:00Z\n20 reply 3\n20 ask 4 BB x:P 2024-05-06T09:15:00Z\n27 reply 4\n27 ask 5 AA x:Q 2024-05-06T09:45:00Z\n30 reply 5\n")
  pub second : lines_by two_regions to_aa 5 back
      ≡ Some (codes "1 check 1 AA AA:a\n1 check 2 AA AA:z\n3 reply 1\n10 reply 2\n10 ask 3 AA AA:a 2024-05-06T08:55:00Z\n15 reply 3\n15 ask 4 BB x:P 2024-05-06T09:15:00Z\n16 reply 4\n16 ask 5 AA x:Q 2024-05-06T09:45:00Z\n24 reply 5\n")
  pub third : lines_by two_regions to_aa 10 back
      ≡ Some (codes "1 check 1 AA AA:a\n1 check 2 AA AA:z\n4 reply 2\n8 reply 1\n8 ask 3 AA AA:a 2024-05-06T08:55:00Z\n18 reply 3\n18 ask 4 BB x:P 2024-05-06T09:15:00Z\n24 reply 4\n24 ask 5 AA x:Q 2024-05-06T09:45:00Z\n26 reply 5\n")

-- what can't improve is dropped
abbrev pub TracesDrops : Type 0
TracesDrops =
    lines_by three_points later_to_bb 5 reached
    ≡ Some (codes "1 check 1 AA AA:a\n1 check 2 BB BB:z\n3 reply 1\n10 reply 2\n10 ask 3 AA AA:a 2024-05-06T08:55:00Z\n15 reply 3\n15 ask 4 BB x:P 2024-05-06T09:15:00Z\n15 ask 5 CC x:Q 2024-05-06T09:55:00Z\n15 ask 6 CC x:R 2024-05-06T10:00:00Z\n16 reply 4\n16 drop 5\n16 drop 6\n")

-- a place of no region ends the search in its first turn, before anything is asked
abbrev pub TracesNothing : Type 0
TracesNothing = lines_by apart (ask_to (codes "ZZ:y") (codes "ZZ:z")) 0 [] ≡ Some []
