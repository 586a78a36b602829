use Rattle.std.proofs.Common.{[], ◌∷◌, refl, inl, inr, subst, codes}
use Rattle.ojp_values.specs.Lists.{Among}
use Rattle.ojp_values.specs.Texts.{same, text_lt}
use Rattle.ojp_values.specs.declared.trips.Point.{Point}
use Rattle.ojp_timetable.specs.Tables.{Timetable}
use Rattle.ojp_timetable.specs.GatewayAnswers.{IsDeclaredBy, AreAllPoints}
use Rattle.ojp_timetable.specs.Examples.{shared_point, with_point, both_regions, both_entries}
use Rattle.ojp_timetable.proofs.laws.points_are_listed.Goals as goal

declared : (point : Point) → Among point both_entries → IsDeclaredBy both_regions point
declared point (inl e) = (with_point (codes "AA") (codes "BB") 300, inr (inl refl), inl e)
declared point (inr (inl e)) = (with_point (codes "BB") (codes "AA") 600, inl refl, inl e)
declared point (inr (inr none)) = absurd none

listed : (point : Point) → IsDeclaredBy both_regions point → Among point both_entries
listed point (table, inl is, h) = second (subst (λ (t : Timetable). Among point t.points) is h)
  where
    second : Among point (shared_point (codes "BB") (codes "AA") 600 ∷ []) → Among point both_entries
    second (inl e) = inr (inl e)
    second (inr none) = absurd none
listed point (table, inr (inl is), h) = first (subst (λ (t : Timetable). Among point t.points) is h)
  where
    first : Among point (shared_point (codes "AA") (codes "BB") 300 ∷ []) → Among point both_entries
    first (inl e) = inl e
    first (inr none) = absurd none
listed point (table, inr (inr none), h) = absurd none

all_points : AreAllPoints both_regions both_entries
unfolding same text_lt
all_points = record { just_these = λ point. (declared point, listed point); rising = ((refl, tt), (tt, tt)) }

pub returns : goal.returns
unfolding same
returns c = record { all = (both_entries, all_points, refl); one = (both_entries, all_points, refl); none = (both_entries, all_points, refl) }
