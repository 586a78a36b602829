-- Reading a line, and one line more.
use Rattle.std.proofs.Common.{◌≡◌, ◌≢◌, ℕ, suc, ◌+◌, ◌==◌, Bool, true, false, true≢false, List, [], ◌∷◌, ◌++◌, length, refl, sym, ◌∙◌, ap, subst, inl, arith, append_assoc, append-nil}
use Rattle.std.specs.Prelude.{IsTrue, IfErr, OnOk, Result, Ok, Err, is_err}
use Rattle.std.proofs.lemmas.Bool.{eqb-true}
use Rattle.std.specs.List.{list_any}
use Rattle.ojp_values.proofs.ListFacts.{among_map, among_map_back}
use Rattle.ojp_values.specs.Lists.{Among, Pairwise}
use Rattle.ojp_values.specs.Texts.{Text, same, is_code}
use Rattle.ojp_timetable.proofs.AmongFacts.{any_false, any_true}
use Rattle.ojp_timetable.proofs.TextFacts.{is_same, same_is}
use Rattle.ojp_timetable.specs.TableText.{lines_of}
use Rattle.ojp_regions.specs.declared.line.RegionLineRefused.{RegionLineRefused}
use Rattle.ojp_regions.specs.declared.line.RegionLineRefused.TheVariants.{Reason, NoMemory}
use Rattle.ojp_regions.specs.Hosts.{is_host}
use Rattle.ojp_regions.specs.Lines.{AddsLine, AreFields, HasFields, IsFault, IsFieldsRefusal, IsLineRefusal, Says, codes_in, values}
use Rattle.ojp_regions.specs.RegionsText.{AreSaid, IsRefusal, IsText, refusal_of}
use Rattle.ojp_regions.specs.declared.line.RegionLine.{RegionLine}
use Rattle.ojp_regions.proofs.RegionFacts.{said_more, said_none}

-- ---- a line

-- where the fields are no region's, the line says none
none_said : (text code host port : Text) → HasFields text code host port → ((region : RegionLine) → AreFields code host port region → ⊥) → (region : RegionLine) → Says text region → ⊥
none_said text code host port has none region (other_code, other_host, other_port, others, are) =
    let e = sym others ∙ has in
    let codes : other_code ≡ code = cc in
    let hosts : other_host ≡ host = cc in
    let ports : other_port ≡ port = cc in
    none region (record {
      same_code = are.same_code ∙ codes;
      same_host = are.same_host ∙ hosts;
      same_port = are.same_port ∙ ports;
      well_code = subst (λ (t : Text). IsTrue (is_code t)) codes are.well_code;
      well_host = subst (λ (t : Text). IsTrue (is_host t)) hosts are.well_host;
      well_port = are.well_port;
    })

pub fields_refused : (text code host port : Text) (result : Result RegionLine RegionLineRefused) → HasFields text code host port → IfErr result (IsFieldsRefusal code host port)
    → IfErr result (λ refused. (above : List RegionLine) → IsLineRefusal above text refused)
fields_refused text code host port (Ok region) has refused = tt
fields_refused text code host port (Err (Reason reason)) has refused =
    λ above. subst (IsFault above text) (sym refused.0) (values (code, host, port, has) (none_said text code host port has refused.1))
fields_refused text code host port (Err NoMemory) has refused = λ above. tt

-- ---- the lines above

abbrev pub has_code : Text → List RegionLine → Bool
has_code code regions = list_any (λ region. same code region.code) regions

pub listed : (code : Text) (regions : List RegionLine) → has_code code regions ≡ true → Among code (codes_in regions)
listed code regions h =
    let found = any_true (λ (region : RegionLine). same code region.code) regions h in
    subst (λ (c : Text). Among c (codes_in regions)) (sym (same_is code found.0.code found.2)) (among_map (λ (region : RegionLine). region.code) found.0 regions found.1)

pub unlisted : (code : Text) (regions : List RegionLine) → has_code code regions ≡ false → Among code (codes_in regions) → ⊥
unlisted code regions h among =
    let m = among_map_back (λ (region : RegionLine). region.code) code regions among in
    true≢false (sym (is_same code m.item.code m.holds) ∙ any_false (λ (region : RegionLine). same code region.code) m.item regions h m.among)

-- ---- all lines

-- the lines above the rest of the text say these regions
pub record HasRead (bytes rest : Text) (regions : List RegionLine) : Type 0 where
  pub above : List Text
  pub split : lines_of bytes ≡ above ++ lines_of rest
  pub said : AreSaid above regions

pub read_none : (bytes : Text) → HasRead bytes bytes []
read_none bytes = record { above = []; split = refl; said = said_none }

pub read_more : (bytes rest : Text) (regions : List RegionLine) (line more : Text) (new : List RegionLine) → HasRead bytes rest regions → lines_of rest ≡ line ∷ lines_of more → AddsLine regions line new
    → HasRead bytes more new
read_more bytes rest regions line more new read next adds = record {
  above = read.above ++ line ∷ [];
  split = read.split ∙ (ap (λ (l : List Text). read.above ++ l) next ∙ sym (append_assoc read.above (line ∷ []) (lines_of more)));
  said = said_more read.above regions line new read.said adds;
}

lengths : {X Y : Type 0} (R : X → Y → Type 0) (xs : List X) (ys : List Y) → Pairwise R xs ys → length xs ≡ length ys
lengths R [] [] p = refl
lengths R [] (y ∷ ys) p = absurd p
lengths R (x ∷ xs) [] p = absurd p
lengths R (x ∷ xs) (y ∷ ys) p = omega (arith, lengths R xs ys p.1)

pub read_refused : (bytes rest : Text) (regions : List RegionLine) (line more : Text) (number : ℕ) (refused : RegionLineRefused) → HasRead bytes rest regions → lines_of rest ≡ line ∷ lines_of more
    → number ≡ length regions + 1 → IsLineRefusal regions line refused → IsRefusal bytes (refusal_of refused number)
read_refused bytes rest regions line more number (Reason reason) read next counted fault = inl (record {
  above = read.above;
  text = line;
  below = lines_of more;
  lines = read.split ∙ ap (λ (l : List Text). read.above ++ l) next;
  number = omega (arith, counted, lengths Says read.above regions read.said.each);
  regions = regions;
  said = read.said;
  fault = fault;
})
read_refused bytes rest regions line more number NoMemory read next counted fault = tt

all_lines : (bytes rest : Text) (regions : List RegionLine) → HasRead bytes rest regions → rest ≡ [] → (r : HasRead bytes rest regions) × (lines_of bytes ≡ r.above)
unfolding lines_of
all_lines bytes rest regions read e = (read, read.split ∙ (ap (λ (t : Text). read.above ++ lines_of t) e ∙ append-nil read.above))

pub read_all : (bytes rest : Text) (regions : List RegionLine) → HasRead bytes rest regions → rest ≡ [] → regions ≢ [] → IsText bytes regions
read_all bytes rest regions read e some =
    let all = all_lines bytes rest regions read e in
    record { said = subst (λ (l : List Text). AreSaid l regions) (sym all.1) all.0.said; some = some }

pub read_nothing : (bytes rest : Text) (regions : List RegionLine) → HasRead bytes rest regions → rest ≡ [] → regions ≡ [] → lines_of bytes ≡ []
read_nothing bytes rest regions read e none =
    let all = all_lines bytes rest regions read e in
    all.1 ∙ empty all.0.above (subst (Pairwise Says all.0.above) none all.0.said.each)
  where
    empty : (above : List Text) → Pairwise Says above [] → above ≡ []
    empty [] p = refl
    empty (l ∷ above) p = absurd p

-- a text of no byte
pub no_text : (text : Text) → (length text == 0) ≡ true → text ≡ []
no_text [] h = refl
no_text (b ∷ text) h = let e : suc (length text) ≡ 0 = eqb-true _ _ h in absurd (omega (arith, e))

-- what did not fail holds
pub on_ok : {T E : Type 0} (r : Result T E) (P : Type 0) → is_err r ≡ false → OnOk r P → P
on_ok (Ok value) P e p = p
on_ok (Err value) P e p = absurd (true≢false e)
