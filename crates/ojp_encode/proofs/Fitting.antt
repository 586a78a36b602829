-- What is within the limits of the shapes.
use Rattle.std.proofs.Common.{◌≡◌, ℕ, ◌≤◌, List, [], ◌∷◌, map, length, IsTrue, All, OnOk, Result, Ok, Err, subst, arith}
use Rattle.std.specs.List.{AllByRecursion}
use Rattle.std.proofs.lemmas.List.Elements.{recursion_from_All}
use Rattle.std.proofs.lemmas.List.{length-map}
use Rattle.ojp_values.specs.Texts.{is_stop_ref, is_code, is_label, is_name}
use Rattle.ojp_values.specs.declared.moments.TheConstants.{FIRST_DAY, LAST_DAY, LAST_SECOND}
use Rattle.ojp_grammar.specs.Syntax.{Syntax, many, Says, Fits}
use Rattle.ojp_grammar.specs.Grammar.{PLACE, FROM, TO, SERVICE, HALT}
use Rattle.ojp_grammar.specs.Documents.{place_said, from_said, to_said, service_said, halt_said}

-- ---- results

-- what holds holds where the call succeeded
pub ok_given : {T E : Type 0} (r : Result T E) (P : Type 0) → P → OnOk r P
ok_given (Ok v) P p = p
ok_given (Err e) P p = tt

-- what follows holds where the call succeeded
pub ok_then : {T E : Type 0} (r : Result T E) (P Q : Type 0) → (P → Q) → OnOk r P → OnOk r Q
ok_then (Ok v) P Q f p = f p
ok_then (Err e) P Q f p = tt

-- ---- lists

each_said : {X : Type 0} (a : Syntax) (f : X → Says a) (xs : List X) → AllByRecursion (λ x. Fits a (f x)) xs → AllByRecursion (Fits a) (map f xs)
each_said a f [] h = tt
each_said a f (x ∷ xs) h = (h.0, each_said a f xs h.1)

-- a list whose items and whose length are within their limits
pub list_fits : {X : Type 0} (low high : ℕ) (a b : Syntax) (f : X → Says a) (xs ys : List X) (w : Says b) → xs ≡ ys → low ≤ length ys → length ys ≤ high → Fits b w → All (λ x. Fits a (f x)) xs → Fits (many low high a b) (map f ys, w)
list_fits {X = X} low high a b f xs ys w e least most behind each =
    let P : List X → Type 0 = All (λ x. Fits a (f x)) in (
      omega (arith, length-map ys f),
      omega (arith, length-map ys f),
      each_said a f ys (recursion_from_All (λ x. Fits a (f x)) ys (subst P e each)),
      behind,
    )

-- ---- parts

pub place_fits : (stop : List ℕ) → IsTrue (is_stop_ref stop) → Fits PLACE (place_said stop)
place_fits stop h = (tt, ((tt, h), tt))

pub from_fits : (stop : List ℕ) (start : ℕ) → IsTrue (is_stop_ref stop) → start ≤ LAST_SECOND → Fits FROM (from_said stop start)
from_fits stop start h k = (tt, ((place_fits stop h, (tt, k)), tt))

pub to_fits : (stop : List ℕ) → IsTrue (is_stop_ref stop) → Fits TO (to_said stop)
to_fits stop h = (tt, (place_fits stop h, tt))

pub service_fits : (day : ℕ) (journey line region : List ℕ) → FIRST_DAY ≤ day → day ≤ LAST_DAY → IsTrue (is_label journey) → IsTrue (is_label line) → IsTrue (is_code region) → Fits SERVICE (service_said day journey line region)
service_fits day journey line region low high j l r = (tt, (((tt, (low, high)), ((tt, j), ((tt, l), (tt, r)))), tt))

pub halt_fits : (stop name : List ℕ) (moment : ℕ) → IsTrue (is_stop_ref stop) → IsTrue (is_name name) → moment ≤ LAST_SECOND → Fits HALT (halt_said stop name moment)
halt_fits stop name moment s n m = ((tt, s), ((tt, n), (tt, m)))
