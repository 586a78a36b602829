-- Lines that say regions, and the one that is refused.
use Rattle.std.proofs.Common.{◌≡◌, ◌≢◌, ℕ, ◌<◌, inl, inr, List, [], ◌∷◌, ◌++◌, length, refl, sym, ◌∙◌, ap, subst, arith, length-append}
use Rattle.ojp_values.specs.Lists.{Among, Pairwise}
use Rattle.ojp_values.specs.Texts.{Text}
use Rattle.ojp_timetable.proofs.AmongFacts.{among_push}
use Rattle.ojp_timetable.proofs.RefusalFacts.{neither}
use Rattle.ojp_timetable.specs.TableText.{lines_of}
use Rattle.ojp_timetable.specs.declared.file.lines.TableReason.{TableReason}
use Rattle.ojp_regions.specs.Lines.{AddsLine, IsFault, Says, codes_in, form, values, doubled, too_many}
use Rattle.ojp_regions.specs.RegionsText.{AreApart, AreSaid, IsListRefused, IsRefusedLine, IsText}
use Rattle.ojp_regions.specs.declared.line.RegionLine.{RegionLine}
use Rattle.ojp_regions.proofs.PortFacts.{one_decimal}

-- ---- lists

-- one more stands apart from the others
apart_push : (xs : List Text) (x : Text) → AreApart xs → (Among x xs → ⊥) → AreApart (xs ++ x ∷ [])
apart_push [] x apart own = ((λ h. h), tt)
apart_push (y ∷ ys) x apart own =
    (λ h. elim (among_push y ys x h) [ inl a ↦ apart.0 a | inr e ↦ own (inl (sym e)) ], apart_push ys x apart.1 (λ h. own (inr h)))

pairs_push : {X Y : Type 0} (R : X → Y → Type 0) (xs : List X) (ys : List Y) (x : X) (y : Y) → Pairwise R xs ys → R x y → Pairwise R (xs ++ x ∷ []) (ys ++ y ∷ [])
pairs_push R [] [] x y pairs r = (r, tt)
pairs_push R [] (b ∷ ys) x y pairs r = absurd pairs
pairs_push R (a ∷ xs) [] x y pairs r = absurd pairs
pairs_push R (a ∷ xs) (b ∷ ys) x y pairs r = (pairs.0, pairs_push R xs ys x y pairs.1 r)

codes_push : (regions : List RegionLine) (region : RegionLine) → codes_in (regions ++ region ∷ []) ≡ codes_in regions ++ region.code ∷ []
codes_push [] region = refl
codes_push (r ∷ regions) region = ap (λ (l : List Text). r.code ∷ l) (codes_push regions region)

-- pairs of a list that has x behind a front
record PairsAt {X Y : Type 0} (R : X → Y → Type 0) (front : List X) (x : X) (ys : List Y) : Type 0 where
  before : List Y
  here : Y
  after : List Y
  is : ys ≡ before ++ here ∷ after
  pairs : Pairwise R front before
  holds : R x here

pairs_at : {X Y : Type 0} (R : X → Y → Type 0) (front : List X) (x : X) (more : List X) (ys : List Y) → Pairwise R (front ++ x ∷ more) ys → PairsAt R front x ys
pairs_at R [] x more [] pairs = absurd pairs
pairs_at R [] x more (y ∷ ys) pairs = record { before = []; here = y; after = ys; is = refl; pairs = tt; holds = pairs.0 }
pairs_at R (a ∷ front) x more [] pairs = absurd pairs
pairs_at {X} {Y} R (a ∷ front) x more (y ∷ ys) pairs =
    let rest = pairs_at R front x more ys pairs.1 in
    record { before = y ∷ rest.before; here = rest.here; after = rest.after; is = ap (λ (l : List Y). y ∷ l) rest.is; pairs = (pairs.0, rest.pairs); holds = rest.holds }

-- two splits of one list, by which front is shorter
split_shorter : {X : Type 0} (a b : List X) (x y : X) (c d : List X) → a ++ x ∷ c ≡ b ++ y ∷ d → length a < length b → (m : List X) × (b ≡ a ++ x ∷ m)
split_shorter [] [] x y c d e l = absurd (omega (arith, l))
split_shorter [] (q ∷ b) x y c d e l = (b, (cc))
split_shorter (p ∷ a) [] x y c d e l = absurd (omega (arith, l))
split_shorter {X} (p ∷ a) (q ∷ b) x y c d e l =
    let rest = split_shorter a b x y c d (cc) (omega (arith, l)) in
    let first : p ≡ q = cc in
    (rest.0, (λ i. sym first i ∷ rest.1 i))

split_same : {X : Type 0} (a b : List X) (x y : X) (c d : List X) → a ++ x ∷ c ≡ b ++ y ∷ d → length a ≡ length b → (a ≡ b) × (x ≡ y)
split_same [] [] x y c d e l = (refl, (cc))
split_same [] (q ∷ b) x y c d e l = absurd (omega (arith, l))
split_same (p ∷ a) [] x y c d e l = absurd (omega (arith, l))
split_same (p ∷ a) (q ∷ b) x y c d e l =
    let rest = split_same a b x y c d (cc) (omega (arith, l)) in
    let first : p ≡ q = cc in
    ((λ i. first i ∷ rest.0 i), rest.1)

-- ---- what lines say

-- one line more
pub said_more : (lines : List Text) (regions : List RegionLine) (text : Text) (new : List RegionLine) → AreSaid lines regions → AddsLine regions text new → AreSaid (lines ++ text ∷ []) new
said_more lines regions text new said adds =
    subst (AreSaid (lines ++ text ∷ [])) (sym adds.added) (record {
      each = pairs_push Says lines regions text adds.region said.each adds.says;
      apart = subst AreApart (sym (codes_push regions adds.region)) (apart_push (codes_in regions) adds.region.code said.apart adds.own);
      within = omega (arith, length-append regions (adds.region ∷ []), adds.room);
    })

pub said_none : AreSaid [] []
said_none = record { each = tt; apart = tt; within = omega arith }

-- a line says one region
says_one : (text : Text) (a b : RegionLine) → Says text a → Says text b → a ≡ b
says_one text a b (code, host, port, fields, is) (other_code, other_host, other_port, others, are) =
    let e = sym fields ∙ others in
    let codes : code ≡ other_code = cc in
    let hosts : host ≡ other_host = cc in
    let ports : port ≡ other_port = cc in
    let same_code : a.code ≡ b.code = is.same_code ∙ (codes ∙ sym are.same_code) in
    let same_host : a.host ≡ b.host = is.same_host ∙ (hosts ∙ sym are.same_host) in
    let same_port : a.port ≡ b.port = one_decimal other_port a.port b.port (omega (arith, is.well_port.1)) (omega (arith, are.well_port.1)) (is.same_port ∙ ports) are.same_port in
    λ i. record { code = same_code i; host = same_host i; port = same_port i }

said_one : (lines : List Text) (xs ys : List RegionLine) → Pairwise Says lines xs → Pairwise Says lines ys → xs ≡ ys
said_one [] [] [] p q = refl
said_one [] [] (y ∷ ys) p q = absurd q
said_one [] (x ∷ xs) ys p q = absurd p
said_one (l ∷ lines) [] ys p q = absurd p
said_one (l ∷ lines) (x ∷ xs) [] p q = absurd q
said_one (l ∷ lines) (x ∷ xs) (y ∷ ys) p q = λ i. says_one l x y p.0 q.0 i ∷ said_one lines xs ys p.1 q.1 i

pub text_is_one : (bytes : Text) (regions others : List RegionLine) → IsText bytes regions → IsText bytes others → regions ≡ others
text_is_one bytes regions others is are = said_one (lines_of bytes) regions others is.said.each are.said.each

-- ---- refusals

-- a code does not stand before itself
not_before : (front : List RegionLine) (x : RegionLine) (more : List RegionLine) → AreApart (codes_in (front ++ x ∷ more)) → Among x.code (codes_in front) → ⊥
not_before [] x more apart h = h
not_before (r ∷ front) x more apart (inl e) = apart.0 (there front)
  where
    there : (front : List RegionLine) → Among r.code (codes_in (front ++ x ∷ more))
    there [] = inl (sym e)
    there (q ∷ front) = inr (there front)
not_before (r ∷ front) x more apart (inr h) = not_before front x more apart.1 h

-- lines that say regions have none that is refused
said_or_fault : (above : List Text) (text : Text) (below : List Text) (regions before : List RegionLine) (reason : TableReason)
    → AreSaid (above ++ text ∷ below) regions → AreSaid above before → IsFault before text reason → ⊥
said_or_fault above text below regions before reason all said fault =
    let at = pairs_at Says above text below regions all.each in
    let same : before ≡ at.before = said_one above before at.before said.each at.pairs in
    let apart = subst (λ (l : List RegionLine). AreApart (codes_in l)) at.is all.apart in
    go reason fault at same apart
  where
    go : (reason : TableReason) → IsFault before text reason → (at : PairsAt Says above text regions) → before ≡ at.before → AreApart (codes_in (at.before ++ at.here ∷ at.after)) → ⊥
    go reason (form none) at same apart = none (at.holds.0, at.holds.1, at.holds.2, at.holds.3)
    go reason (values three none) at same apart = none at.here at.holds
    go reason (doubled region says among) at same apart =
        let one = says_one text region at.here says at.holds in
        not_before at.before at.here at.after apart
        (subst (λ (l : List RegionLine). Among at.here.code (codes_in l)) same (subst (λ (r : RegionLine). Among r.code (codes_in before)) one among))
    go reason (too_many region says own full) at same apart =
        omega (arith, full, ap length same, ap length at.is, length-append at.before (at.here ∷ at.after), all.within)

pub text_not_refused : (bytes : Text) (regions : List RegionLine) (line : ℕ) (reason : TableReason) → IsText bytes regions → IsListRefused bytes line reason → ⊥
text_not_refused bytes regions line reason is (inl refused) =
    said_or_fault refused.above refused.text refused.below regions refused.regions reason (subst (λ (l : List Text). AreSaid l regions) refused.lines is.said) refused.said refused.fault
text_not_refused bytes regions line reason is (inr (e, one, why)) = none regions (subst (λ (l : List Text). Pairwise Says l regions) e is.said.each) is.some
  where
    none : (regions : List RegionLine) → Pairwise Says [] regions → regions ≢ [] → ⊥
    none [] pairs some = some refl
    none (r ∷ regions) pairs some = pairs

-- a line has one fault
fault_one : (above : List RegionLine) (text : Text) (reason why : TableReason) → IsFault above text reason → IsFault above text why → reason ≡ why
fault_one above text reason why (form none) (form same) = refl
fault_one above text reason why (form none) (values also neither_one) = absurd (none also)
fault_one above text reason why (form none) (doubled q said there) = absurd (none (said.0, said.1, said.2, said.3))
fault_one above text reason why (form none) (too_many q said other_own more) = absurd (none (said.0, said.1, said.2, said.3))
fault_one above text reason why (values three nor) (form same) = absurd (same three)
fault_one above text reason why (values three nor) (values also neither_one) = refl
fault_one above text reason why (values three nor) (doubled q said there) = absurd (nor q said)
fault_one above text reason why (values three nor) (too_many q said other_own more) = absurd (nor q said)
fault_one above text reason why (doubled r says among) (form same) = absurd (same (says.0, says.1, says.2, says.3))
fault_one above text reason why (doubled r says among) (values also neither_one) = absurd (neither_one r says)
fault_one above text reason why (doubled r says among) (doubled q said there) = refl
fault_one above text reason why (doubled r says among) (too_many q said other_own more) = absurd (other_own (subst (λ (x : RegionLine). Among x.code (codes_in above)) (says_one text r q says said) among))
fault_one above text reason why (too_many r says own full) (form same) = absurd (same (says.0, says.1, says.2, says.3))
fault_one above text reason why (too_many r says own full) (values also neither_one) = absurd (neither_one r says)
fault_one above text reason why (too_many r says own full) (doubled q said there) = absurd (own (subst (λ (x : RegionLine). Among x.code (codes_in above)) (says_one text q r said says) there))
fault_one above text reason why (too_many r says own full) (too_many q said other_own more) = refl

-- no line is refused above another
not_above : (bytes : Text) (line other : ℕ) (reason why : TableReason) (first : IsRefusedLine bytes line reason) (second : IsRefusedLine bytes other why) → length first.above < length second.above → ⊥
not_above bytes line other reason why first second l =
    let split = split_shorter first.above second.above first.text second.text first.below second.below (sym first.lines ∙ second.lines) l in
    said_or_fault first.above first.text split.0 second.regions first.regions reason (subst (λ (a : List Text). AreSaid a second.regions) split.1 second.said) first.said first.fault

one_refused : (bytes : Text) (line other : ℕ) (reason why : TableReason) → IsRefusedLine bytes line reason → IsRefusedLine bytes other why → (line ≡ other) × (reason ≡ why)
one_refused bytes line other reason why first second =
    let counts : length first.above ≡ length second.above = neither (length first.above) (length second.above) (not_above bytes line other reason why first second) (not_above bytes other line why reason second first) in
    let split = split_same first.above second.above first.text second.text first.below second.below (sym first.lines ∙ second.lines) counts in
    let same : first.regions ≡ second.regions = said_one second.above first.regions second.regions (subst (λ (a : List Text). Pairwise Says a first.regions) split.0 first.said.each) second.said.each in
    let fault = subst (λ (r : List RegionLine). IsFault r second.text reason) same (subst (λ (t : Text). IsFault first.regions t reason) split.1 first.fault) in
    (omega (arith, first.number, second.number, counts), fault_one second.regions second.text reason why fault second.fault)

no_lines : (bytes : Text) (line : ℕ) (reason : TableReason) → lines_of bytes ≡ [] → IsRefusedLine bytes line reason → ⊥
no_lines bytes line reason e refused = none refused.above (sym e ∙ refused.lines)
  where
    none : (above : List Text) → [] ≡ above ++ refused.text ∷ refused.below → ⊥
    none [] h = absurd (cc)
    none (a ∷ above) h = absurd (cc)

pub refusal_is_one : (bytes : Text) (line other : ℕ) (reason why : TableReason) → IsListRefused bytes line reason → IsListRefused bytes other why → (line ≡ other) × (reason ≡ why)
refusal_is_one bytes line other reason why (inl first) (inl second) = one_refused bytes line other reason why first second
refusal_is_one bytes line other reason why (inl first) (inr second) = absurd (no_lines bytes line reason second.0 first)
refusal_is_one bytes line other reason why (inr first) (inl second) = absurd (no_lines bytes other why first.0 second)
refusal_is_one bytes line other reason why (inr first) (inr second) = (first.1 ∙ sym second.1, first.2 ∙ sym second.2)
