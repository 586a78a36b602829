-- A zone has one list of noons, and a text one timetable.
use Rattle.std.proofs.Common.{◌≡◌, ℕ, ◌+◌, ◌-◌, List, length, sym, ◌∙◌, ap, arith}
use Rattle.std.specs.Prelude.{slice_index}
use Rattle.std.proofs.lemmas.List.{ext_get_or}
use Rattle.ojp_values.specs.Texts.{Text}
use Rattle.ojp_values.specs.declared.moments.TheConstants.{FIRST_DAY}
use Rattle.ojp_zones.specs.Noons.{AreNoons}
use Rattle.ojp_zones.proofs.NoonFacts.{one_noon}
use Rattle.ojp_zones.specs.declared.zone.Zone.{Zone}
use Rattle.ojp_timetable.specs.Tables.{Timetable}
use Rattle.ojp_timetable.specs.Contents.{timetable_of}
use Rattle.ojp_timetable.specs.TableText.{IsText, contents_of}

same_noons : (zone : Zone) (xs ys : List ℕ) → AreNoons zone xs → AreNoons zone ys → length xs ≡ length ys → xs ≡ ys
same_noons zone xs ys first second size =
    ext_get_or 0 xs ys size
    (λ i low. let day : ℕ = i + FIRST_DAY in let e : day - FIRST_DAY ≡ i = omega arith in
    ap (slice_index xs) (sym e) ∙ (one_noon zone day (slice_index xs (day - FIRST_DAY)) (slice_index ys (day - FIRST_DAY)) (first.noon day (omega arith) (omega arith)) (second.noon day (omega arith) (omega (arith, size))) ∙ ap (slice_index ys) e))

pub one_table : (bytes : Text) (table other : Timetable) → IsText bytes table → IsText bytes other → table ≡ other
one_table bytes table other first second =
    let contents = contents_of bytes in
    let noons = same_noons contents.zone table.noons other.noons first.noons second.noons (first.days ∙ sym second.days) in
    first.makes ∙ (ap (timetable_of contents) noons ∙ sym second.makes)
