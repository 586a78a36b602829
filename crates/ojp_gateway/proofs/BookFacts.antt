-- Lists that make a book are not refused.
use Rattle.std.proofs.Common.{◌≡◌, ◌≢◌, ℕ, ◌+◌, ◌≤◌, ◌&&◌, Bool, cond, List, [], ◌∷◌, length, refl, sym, ap, subst, inl, inr, arith}
use Rattle.std.proofs.lemmas.List.Sums.{sum_by-cons}
use Rattle.ojp_values.specs.Lists.{Among}
use Rattle.ojp_values.specs.Texts.{Text, same, text_lt}
use Rattle.ojp_timetable.proofs.Orders.{IsOrder, text_order, then_order}
use Rattle.ojp_timetable.proofs.TextFacts.{is_same}
use Rattle.ojp_exchange.specs.declared.region_points.RegionPoints.{RegionPoints}
use Rattle.ojp_exchange.specs.declared.refusals.BookRefused.{BookRefused}
use Rattle.ojp_exchange.specs.declared.refusals.BookRefused.TheVariants as refusals
use Rattle.ojp_exchange.specs.Book.{Book, IsBookOf, Link, Spot, link_lt, spot_lt}
use Rattle.ojp_exchange.specs.Joins.{HaveOwnCodes, IsJoined, IsOneSided, JoinFails, times}
use Rattle.ojp_exchange.specs.Kept.{stops_of}
use Rattle.ojp_gateway.proofs.PointFacts.{alike}

-- ---- lists have one book

spot_order : IsOrder spot_lt (λ (x : Spot) (y : Spot). same x.stop y.stop && same x.region y.region)
spot_order =
    then_order (λ (x : Spot) (y : Spot). text_lt x.stop y.stop) (λ (x : Spot) (y : Spot). same x.stop y.stop) _ _ (text_order (λ (x : Spot). x.stop))
    (text_order (λ (x : Spot). x.region))

link_order : IsOrder link_lt (λ (x : Link) (y : Link). same x.stop y.stop && (same x.region y.region && same x.other y.other))
link_order =
    then_order (λ (x : Link) (y : Link). text_lt x.stop y.stop) (λ (x : Link) (y : Link). same x.stop y.stop) _ _ (text_order (λ (x : Link). x.stop))
    (then_order (λ (x : Link) (y : Link). text_lt x.region y.region) (λ (x : Link) (y : Link). same x.region y.region) _ _ (text_order (λ (x : Link). x.region))
    (text_order (λ (x : Link). x.other)))

one_book : (lists : List RegionPoints) (a b : Book) → IsBookOf lists a → IsBookOf lists b → a ≡ b
one_book lists a b of_a of_b =
    let codes : a.codes ≡ b.codes = alike text_lt same (text_order (λ (t : Text). t)) a.codes b.codes of_a.codes_rise of_b.codes_rise (λ x h. (of_b.codes x).1 ((of_a.codes x).0 h)) (λ x h. (of_a.codes x).1 ((of_b.codes x).0 h)) in
    let spots : a.spots ≡ b.spots = alike spot_lt _ spot_order a.spots b.spots of_a.spots_rise of_b.spots_rise (λ x h. (of_b.spots x).1 ((of_a.spots x).0 h)) (λ x h. (of_a.spots x).1 ((of_b.spots x).0 h)) in
    let links : a.links ≡ b.links = alike link_lt _ link_order a.links b.links of_a.links_rise of_b.links_rise (λ x h. (of_b.links x).1 ((of_a.links x).0 h)) (λ x h. (of_a.links x).1 ((of_b.links x).0 h)) in
    λ i. record { codes = codes i; spots = spots i; links = links i }

-- ---- lists with codes of their own are no more than the codes

-- how often the code stands among them
abbrev hits : List Text → Text → ℕ
hits [] code = 0
hits (c ∷ codes) code = cond (same c code) 1 0 + hits codes code

-- how many lists have one of the codes, one after another
abbrev total : List Text → List RegionPoints → ℕ
total [] lists = 0
total (c ∷ codes) lists = times lists c + total codes lists

hit : (codes : List Text) (code : Text) → Among code codes → 1 ≤ hits codes code
hit [] code a = absurd a
hit (c ∷ codes) code (inl e) =
    let one : ℕ = 1 in
    let yes : cond (same c code) 1 0 ≡ one = ap (λ (b : Bool). cond b 1 0) (is_same c code (sym e)) in
    omega (arith, yes)
hit (c ∷ codes) code (inr a) = omega (arith, hit codes code a)

total_more : (codes : List Text) (list : RegionPoints) (lists : List RegionPoints) → total codes (list ∷ lists) ≡ hits codes list.code + total codes lists
total_more [] list lists = refl
total_more (c ∷ codes) list lists = omega (arith, sum_by-cons (λ (l : RegionPoints). cond (same c l.code) 1 0) list lists, total_more codes list lists)

within_total : (codes : List Text) (lists : List RegionPoints) → ((list : RegionPoints) → Among list lists → Among list.code codes) → length lists ≤ total codes lists
within_total codes [] all = omega arith
within_total codes (list ∷ lists) all =
    omega (arith, total_more codes list lists, hit codes list.code (all list (inl refl)), within_total codes lists (λ other a. all other (inr a)))

total_few : (codes : List Text) (lists : List RegionPoints) → HaveOwnCodes lists → total codes lists ≤ length codes
total_few [] lists own = omega arith
total_few (c ∷ codes) lists own = omega (arith, own c, total_few codes lists own)

no_more : (lists : List RegionPoints) (book : Book) → HaveOwnCodes lists → IsBookOf lists book → length lists ≤ length book.codes
no_more lists book own of =
    omega (arith, within_total book.codes lists (λ list a. (of.codes list.code).1 (list, a, refl)), total_few book.codes lists own)

-- ---- a book or a refusal

-- no book is refused for another reason than memory
pub joined_or_refused : (lists : List RegionPoints) (book : Book) (reason : BookRefused) → IsJoined lists book → JoinFails lists reason → reason ≢ refusals.NoMemory → ⊥
joined_or_refused lists book (refusals.TwiceRegion code) j r other = omega (arith, j.own code, r.twice)
joined_or_refused lists book refusals.TooMany j (own, inl more) other =
    omega (arith, more, no_more lists book own j.book_of, j.sound.regions_few)
joined_or_refused lists book refusals.TooMany j (own, inr (another, of, more)) other =
    let same_stops : length (stops_of another.spots) ≡ length (stops_of book.spots) = ap (λ (b : Book). length (stops_of b.spots)) (one_book lists another book of j.book_of) in
    omega (arith, more, same_stops, j.sound.stops_few)
joined_or_refused lists book (refusals.Disagree point left right) j r other =
    let one : IsOneSided book r.first.link = subst (λ (b : Book). IsOneSided b r.first.link) (one_book lists r.book book r.book_of j.book_of) r.first.one_sided in
    one.2 (j.sound.agreed r.first.link one.0 one.1)
joined_or_refused lists book refusals.NoMemory j r other = other refl
