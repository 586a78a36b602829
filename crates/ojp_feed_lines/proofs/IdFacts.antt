-- Ids as texts.
use Rattle.std.proofs.Common.{◌≡◌, ◌<◌, ◌||◌, ℕ, zero, suc, Bool, true, false, not, cond, List, [], ◌∷◌, ◌++◌, length, get_or, map, Some, refl, sym, ap, ◌∙◌, arith}
use Rattle.std.specs.Prelude.{Contains, String, string_bytes}
use Rattle.std.specs.Str.{bytes_eq}
use Rattle.std.specs.List.{list_any}
use Rattle.std.specs.declared.alloc.Global.{Global}
use Rattle.std.specs.String.{string_eq}
use Rattle.std.proofs.lemmas.Bool.{false≢true}
use Rattle.std.proofs.lemmas.List.{map-append}
use Rattle.std.proofs.lemmas.List.Elements.{Contains-append_right}
use Rattle.std.proofs.lemmas.Slice.Eq.{bytes_eq-Decides}
use Rattle.indexmap.specs.IndexSet.{insert_key}
use Rattle.ojp_values.specs.Texts.{Text}
use Rattle.ojp_feed_lines.specs.IdTexts.{HoldsIds, id_texts}
use Rattle.ojp_feed_lines.specs.Rows.{Record, at_place}
use Rattle.ojp_feed_lines.specs.declared.ids.Ids.{Ids}

-- a text that is new goes last
new_last : (any added : Bool) (ks new : List (String Global)) (s : String Global) → added ≡ true → added ≡ not any
    → new ≡ cond any ks (ks ++ s ∷ []) → map string_bytes new ≡ map string_bytes ks ++ string_bytes s ∷ []
new_last true added ks new s is e n = absurd (false≢true (sym e ∙ is))
new_last false added ks new s is e n = rw n (map-append string_bytes ks (s ∷ []))

pub added_new : (ks new : List (String Global)) (s : String Global) (added : Bool) → added ≡ true → added ≡ not (list_any (string_eq s) ks)
    → new ≡ insert_key string_eq ks s → map string_bytes new ≡ map string_bytes ks ++ string_bytes s ∷ []
added_new ks new s added is e n = new_last (list_any (string_eq s) ks) added ks new s is e n

-- a text that a test finds is there
any_text : (ks : List (String Global)) (s : String Global) → list_any (string_eq s) ks ≡ true → Contains (map string_bytes ks) (string_bytes s)
any_text [] s e = absurd (false≢true e)
any_text (k ∷ ks) s e = by (bytes_eq (string_bytes s) (string_bytes k)) (any_text ks s) refl e
  where
    by : (b : Bool) → (list_any (string_eq s) ks ≡ true → Contains (map string_bytes ks) (string_bytes s)) → b ≡ bytes_eq (string_bytes s) (string_bytes k) → (b || list_any (string_eq s) ks) ≡ true
        → Contains (string_bytes k ∷ map string_bytes ks) (string_bytes s)
    by true more same e = (0, omega arith, sym ((bytes_eq-Decides (string_bytes s) (string_bytes k)).0 (sym same)))
    by false more same e = Contains-append_right (string_bytes k ∷ []) (map string_bytes ks) (string_bytes s) (more e)

not_added : (any added : Bool) → added ≡ false → added ≡ not any → any ≡ true
not_added true added is e = refl
not_added false added is e = absurd (false≢true (sym is ∙ e))

pub added_not : (ks : List (String Global)) (s : String Global) (added : Bool) → added ≡ false → added ≡ not (list_any (string_eq s) ks)
    → Contains (map string_bytes ks) (string_bytes s)
added_not ks s added is e = any_text ks s (not_added (list_any (string_eq s) ks) added is e)

-- a text that is there is found
found_at : (ks : List (String Global)) (id : Text) (k : ℕ) → k < length (map string_bytes ks) → get_or (map string_bytes ks) k id ≡ id
    → list_any (λ x. bytes_eq id (string_bytes x)) ks ≡ true
found_at [] id k below at = absurd (omega (arith, below))
found_at (x ∷ xs) id zero below at = ap (λ (b : Bool). b || list_any (λ y. bytes_eq id (string_bytes y)) xs) ((bytes_eq-Decides id (string_bytes x)).1 (sym at))
found_at (x ∷ xs) id (suc k) below at = or_true (bytes_eq id (string_bytes x)) (list_any (λ y. bytes_eq id (string_bytes y)) xs) (found_at xs id k (omega (arith, below)) at)
  where
    or_true : (a b : Bool) → b ≡ true → (a || b) ≡ true
    or_true true b e = refl
    or_true false b e = e

pub not_found : (ks : List (String Global)) (id : Text) (found : Bool) → found ≡ list_any (λ x. bytes_eq id (string_bytes x)) ks → found ≡ false
    → ¬ Contains (map string_bytes ks) id
not_found ks id found is absent = λ there. false≢true (sym absent ∙ is ∙ found_at ks id there.0 there.1 there.2)

-- the ids of one row more
pub ids_more : (old new : Ids) (place : ℕ) (rows : List Record) (row : Record) (id : Text) → id ≡ at_place row (Some place)
    → id_texts new ≡ id_texts old ++ id ∷ [] → HoldsIds old place rows → HoldsIds new place (rows ++ row ∷ [])
ids_more old new place rows row id is added held =
    let f = λ (r : Record). at_place r (Some place) in
    added ∙ (rw (held, is) refl) ∙ sym (map-append f rows (row ∷ []))
