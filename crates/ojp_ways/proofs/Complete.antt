-- Where a search has settled, an end as good as that of any row of rides and changes was heard.
use Rattle.std.proofs.Common.{◌⊎◌, inl, inr}
use Rattle.ojp_ways.specs.Ways.{Ways, LeadsTo, LastRides, RidesThen, IsOrder, RidesAsWell, ChangesAsWell, KnownAsGood, HeardAsGood, Beaten, LeadsOut}

module _ (ways : Ways) (Good : ways.Label → ways.Label → Type 0) (order : IsOrder ways Good)
    (Within : ways.Label → Type 0) (AtEnd : ways.Place → Type 0)
    (Known : ways.Place → ways.Label → Type 0)
    (Heard : ways.Place → ways.Label → Type 0)
    (within : (l m : ways.Label) → Good l m → Within m → Within l)
    (settled : (p : ways.Place) (l : ways.Label) (q : ways.Place) (m : ways.Label) → Known p l → ways.Rides p l q m → Within m → AtEnd q ⊎ LeadsOut ways q m → HeardAsGood ways Good Heard q m ⊎ Beaten ways Good AtEnd Heard m)
    (closed : (q : ways.Place) (m : ways.Label) (p : ways.Place) (l : ways.Label) → Heard q m → ways.Change q m p l → KnownAsGood ways Good Known p l)
  where
    beaten_by : (l m : ways.Label) → Good l m → Beaten ways Good AtEnd Heard l → Beaten ways Good AtEnd Heard m
    beaten_by l m good it = record { place = it.place; label = it.label; at_end = it.at_end; heard = it.heard; as_good = order.trans it.label l m it.as_good good }

    forward : (q : ways.Place) (m : ways.Label) (p : ways.Place) (l : ways.Label) → LeadsTo ways q m p l → Good l m
    forward q m p l (LastRides rides) = order.rides_worsen p l q m rides
    forward q m p l (RidesThen {r = r} {n = n} {s = s} {k = k} rides change rest) =
        order.trans l n m (order.rides_worsen p l r n rides) (order.trans n k m (order.change_worsens r n s k change) (forward q m s k rest))

    pub none_is_better : (q : ways.Place) (m : ways.Label) (p : ways.Place) (l : ways.Label) → AtEnd q → Within m → KnownAsGood ways Good Known p l → LeadsTo ways q m p l → Beaten ways Good AtEnd Heard m
    none_is_better q m p l at_end in_day it (LastRides rides) = go (settled p it.label q as_well.label it.known as_well.rides (within as_well.label m as_well.as_good in_day) (inl at_end))
      where
        as_well : RidesAsWell ways Good p it.label q m
        as_well = order.rides_as_well it.label l p q m it.as_good rides

        go : HeardAsGood ways Good Heard q as_well.label ⊎ Beaten ways Good AtEnd Heard as_well.label → Beaten ways Good AtEnd Heard m
        go (inl heard) = record { place = q; label = heard.label; at_end = at_end; heard = heard.heard; as_good = order.trans heard.label as_well.label m heard.as_good as_well.as_good }
        go (inr beaten) = beaten_by as_well.label m as_well.as_good beaten
    none_is_better q m p l at_end in_day it (RidesThen {r = r} {n = n} {s = s} {k = k} rides change rest) =
        go (λ known. none_is_better q m s k at_end in_day known rest) (settled p it.label r as_well.label it.known as_well.rides (within as_well.label m to_end in_day) (inr out))
      where
        as_well : RidesAsWell ways Good p it.label r n
        as_well = order.rides_as_well it.label l p r n it.as_good rides

        n_to_end : Good n m
        n_to_end = order.trans n k m (order.change_worsens r n s k change) (forward q m s k rest)

        to_end : Good as_well.label m
        to_end = order.trans as_well.label n m as_well.as_good n_to_end

        changed : (x : ways.Label) → Good x n → ChangesAsWell ways Good r x s k
        changed x good = order.change_as_well x n r s k good change

        out : LeadsOut ways r as_well.label
        out = record { place = s; label = (changed as_well.label as_well.as_good).label; change = (changed as_well.label as_well.as_good).change }

        known_on : HeardAsGood ways Good Heard r as_well.label → KnownAsGood ways Good Known s k
        known_on heard =
            let on : ChangesAsWell ways Good r heard.label s k = changed heard.label (order.trans heard.label as_well.label n heard.as_good as_well.as_good) in
            let known : KnownAsGood ways Good Known s on.label = closed r heard.label s on.label heard.heard on.change in
            record { label = known.label; known = known.known; as_good = order.trans known.label on.label k known.as_good on.as_good }

        go : (KnownAsGood ways Good Known s k → Beaten ways Good AtEnd Heard m) → HeardAsGood ways Good Heard r as_well.label ⊎ Beaten ways Good AtEnd Heard as_well.label → Beaten ways Good AtEnd Heard m
        go on (inl heard) = on (known_on heard)
        go on (inr beaten) = beaten_by as_well.label m to_end beaten
