-- The reply to an ask for exchange points, by those that were found.
use Rattle.std.specs.Prelude.{List, [], ◌∷◌, Option, Some, None}
use Rattle.ojp_values.specs.Texts.{Text}
use Rattle.ojp_values.specs.declared.trips.Point.{Point}
use Rattle.ojp_values.specs.declared.replies.Fault.TheVariants.{StopUnknown}
use Rattle.ojp_values.specs.declared.replies.PointsReply.{PointsReply}
use Rattle.ojp_values.specs.declared.replies.PointsReply.TheVariants.{Points, Fault}

-- the points that were found, or that the place is unknown where there is none at it
abbrev pub points_reply : Option Text → List Point → PointsReply
points_reply None found = Points found
points_reply (Some place) [] = Fault (StopUnknown place)
points_reply (Some place) (point ∷ more) = Points (point ∷ more)
