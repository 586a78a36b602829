-- What small files say, and where they are refused.
use Rattle.std.proofs.Common.{◌≡◌, ℕ, false, true≢false, [], ◌∷◌, codes, refl, sym, ◌∙◌, ap, inl, inr, arith, lit<, lit≤}
use Rattle.std.specs.Fmt.{decimal}
use Rattle.std.proofs.lemmas.Fmt.{decimal_injective}
use Rattle.ojp_values.proofs.Numerals.{decimal_of, plain_of}
use Rattle.ojp_values.specs.Lists.{Among}
use Rattle.ojp_values.specs.Numbers.{is_plain, number}
use Rattle.ojp_values.specs.Texts.{Text, same}
use Rattle.ojp_zones.specs.Parts.{parts}
use Rattle.ojp_timetable.proofs.TextFacts.{differ_is}
use Rattle.ojp_timetable.specs.Fields.{body}
use Rattle.ojp_timetable.specs.TableText.{lines_of}
use Rattle.ojp_regions.specs.Hosts.{is_host, IsPort}
use Rattle.ojp_regions.specs.Lines.{AreFields, HasFields, Says, form, values, doubled}
use Rattle.ojp_regions.specs.Examples.{in_aa, in_bb, LinesAreExact, RegionsAreSaid}
use Rattle.ojp_regions.specs.RegionsText.{AreSaid}
use Rattle.ojp_regions.specs.declared.line.RegionLine.{RegionLine}
use Rattle.ojp_regions.proofs.RegionFacts.{said_none}

port_9001 : decimal 9001 ≡ codes "9001"
unfolding number
port_9001 = decimal_of (codes "9001") refl (lit< tt)

port_65535 : decimal 65535 ≡ codes "65535"
unfolding number
port_65535 = decimal_of (codes "65535") refl (lit< tt)

port_65536 : decimal 65536 ≡ codes "65536"
unfolding number
port_65536 = decimal_of (codes "65536") refl (lit< tt)

aa_fields : AreFields (codes "AA") (codes "127.0.0.1") (codes "9001") in_aa
aa_fields = record { same_code = refl; same_host = refl; same_port = port_9001; well_code = refl; well_host = refl; well_port = (lit≤ tt, lit< tt) }

bb_fields : AreFields (codes "BB") (codes "b.example-2.org") (codes "65535") in_bb
bb_fields = record { same_code = refl; same_host = refl; same_port = port_65535; well_code = refl; well_host = refl; well_port = (lit≤ tt, lit< tt) }

aa_said : Says (codes "AA 127.0.0.1 9001\n") in_aa
unfolding body parts
aa_said = (codes "AA", codes "127.0.0.1", codes "9001", refl, aa_fields)

bb_said : Says (codes "BB b.example-2.org 65535") in_bb
unfolding body parts
bb_said = (codes "BB", codes "b.example-2.org", codes "65535", refl, bb_fields)

aa_alone : AreSaid (codes "AA 127.0.0.1 9001\n" ∷ []) (in_aa ∷ [])
aa_alone = record { each = (aa_said, tt); apart = ((λ h. h), tt); within = lit≤ tt }

not_bb : Among (codes "AA") (codes "BB" ∷ []) → ⊥
unfolding same
not_bb (inl e) = differ_is (codes "AA") (codes "BB") refl e
not_bb (inr h) = h

pub regions_are_said : RegionsAreSaid
unfolding lines_of
regions_are_said = record {
  one = record { said = aa_alone; some = λ e. absurd (cc) };
  two = record {
    said = record { each = (aa_said, (bb_said, tt)); apart = (not_bb, ((λ h. h), tt)); within = lit≤ tt };
    some = λ e. absurd (cc);
  };
}

-- ---- refusals

not_host : (text code host port : Text) → HasFields text code host port → is_host host ≡ false → (region : RegionLine) → Says text region → ⊥
not_host text code host port has unlike region (other_code, other_host, other_port, others, are) =
    let e = sym others ∙ has in
    let equal : other_host ≡ host = cc in
    true≢false (sym are.well_host ∙ (ap is_host equal ∙ unlike))

spells : (text code host port : Text) → HasFields text code host port → (region : RegionLine) → Says text region → (decimal region.port ≡ port) × IsPort region.port
spells text code host port has region (other_code, other_host, other_port, others, are) =
    let e = sym others ∙ has in
    let equal : other_port ≡ port = cc in
    (are.same_port ∙ equal, are.well_port)

past_last : (port : ℕ) → decimal port ≡ codes "65536" → IsPort port → ⊥
past_last port e is =
    let same : port ≡ 65536 = decimal_injective port 65536 (omega (arith, is.1)) (lit< tt) (e ∙ sym port_65536) in
    omega (arith, same, is.1)

leading_zero : (port : ℕ) → decimal port ≡ codes "09001" → IsPort port → ⊥
leading_zero port e is = true≢false (sym (ap is_plain (sym e) ∙ plain_of port (omega (arith, is.1))))

pub lines_are_exact : LinesAreExact
unfolding lines_of body parts
lines_are_exact = record {
  none = inr (refl, refl, refl);
  empty = inl (record { above = []; text = codes "\n"; below = []; lines = refl; number = refl; regions = []; said = said_none; fault = form (λ three. let e = three.3 in absurd (cc)) });
  two_fields =
      inl (record {
        above = codes "AA 127.0.0.1 9001\n" ∷ [];
        text = codes "BB 9002\n";
        below = [];
        lines = refl;
        number = refl;
        regions = in_aa ∷ [];
        said = aa_alone;
        fault = form (λ three. let e = three.3 in absurd (cc));
      });
  four_fields =
      inl (record { above = []; text = codes "AA 127.0.0.1 9001 \n"; below = []; lines = refl; number = refl; regions = []; said = said_none; fault = form (λ three. let e = three.3 in absurd (cc)) });
  host =
      inl (record {
        above = [];
        text = codes "AA a_b 9001\n";
        below = [];
        lines = refl;
        number = refl;
        regions = [];
        said = said_none;
        fault = values (codes "AA", codes "a_b", codes "9001", refl) (not_host (codes "AA a_b 9001\n") (codes "AA") (codes "a_b") (codes "9001") refl refl);
      });
  port =
      inl (record {
        above = [];
        text = codes "AA a 65536\n";
        below = [];
        lines = refl;
        number = refl;
        regions = [];
        said = said_none;
        fault = values (codes "AA", codes "a", codes "65536", refl)
            (λ region says. let s = spells (codes "AA a 65536\n") (codes "AA") (codes "a") (codes "65536") refl region says in past_last region.port s.0 s.1);
      });
  zeros =
      inl (record {
        above = [];
        text = codes "AA a 09001\n";
        below = [];
        lines = refl;
        number = refl;
        regions = [];
        said = said_none;
        fault = values (codes "AA", codes "a", codes "09001", refl)
            (λ region says. let s = spells (codes "AA a 09001\n") (codes "AA") (codes "a") (codes "09001") refl region says in leading_zero region.port s.0 s.1);
      });
  doubled =
      inl (record {
        above = codes "AA 127.0.0.1 9001\n" ∷ [];
        text = codes "AA 127.0.0.1 9001\n";
        below = [];
        lines = refl;
        number = refl;
        regions = in_aa ∷ [];
        said = aa_alone;
        fault = doubled in_aa aa_said (inl refl);
      });
}
