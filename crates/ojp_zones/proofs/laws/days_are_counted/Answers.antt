use Rattle.std.proofs.Common.{◌≡◌, pos, refl, arith}
use Rattle.jiff_core.specs.Calendar.{day_count}
use Rattle.jiff_core.proofs.CalendarLemmas.{day_count-epoch}
use Rattle.jiff_core.proofs.MarchLemmas.{day_count-early, day_count-late}
use Rattle.ojp_zones.specs.Days.{day_number}
use Rattle.ojp_zones.proofs.laws.days_are_counted.Goals as goal

pub returns : goal.returns
unfolding day_number
returns c =
    let leap : day_count (pos 2000) 2 29 ≡ 4_382_969 = day_count-early (pos 2000) 11999 2 29 refl (omega arith) (omega arith) (omega arith) in
    let monday : day_count (pos 2024) 5 6 ≡ 4_391_802 = day_count-late (pos 2024) 12024 5 6 refl (omega arith) (omega arith) (omega arith) in
    let common : day_count (pos 2100) 3 1 ≡ 4_419_494 = day_count-late (pos 2100) 12100 3 1 refl (omega arith) (omega arith) (omega arith) in
    let last : day_count (pos 2199) 12 31 ≡ 4_455_958 = day_count-late (pos 2199) 12199 12 31 refl (omega arith) (omega arith) (omega arith) in
    (omega (arith, day_count-epoch), omega (arith, leap), omega (arith, monday), omega (arith, common), omega (arith, last))
