-- The first of a list of queries that is not live.
use Rattle.std.proofs.Common.{◌≡◌, Bool, true, false, not, cond, List, [], ◌∷◌, Option, Some, None, refl, sym, ◌∙◌, ap, subst}
use Rattle.std.proofs.lemmas.Bool.{true≢false}
use Rattle.ojp_values.specs.Lists.{Among}
use Rattle.ojp_values.proofs.ListFacts.{Member, among_list_any, among_list_any_back}
use Rattle.ojp_records.specs.declared.queries.Query.{Query}
use Rattle.ojp_records.specs.Records.{same_query}
use Rattle.ojp_records.specs.Wanted.{is_live, next_of, IsNext}
use Rattle.ojp_records.specs.Laws.{NextIsFirst}
use Rattle.ojp_records.proofs.RecordFacts.{same_query_is, is_same_query}

pub live_is : (live : List Query) (query : Query) → is_live live query ≡ true → Among query live
live_is live query e =
    let m : Member live (λ (other : Query). same_query other query ≡ true) = among_list_any_back (λ (other : Query). same_query other query) live e in
    subst (λ (q : Query). Among q live) (same_query_is m.item query m.holds) m.among

pub not_live_is : (live : List Query) (query : Query) → is_live live query ≡ false → Among query live → ⊥
not_live_is live query e h = true≢false (sym (among_list_any (λ (other : Query). same_query other query) query live h (is_same_query query query refl)) ∙ e)

next_step : (live : List Query) (first : Query) (queries : List Query) (b : Bool) (rest : Option Query) → is_live live first ≡ b → IsNext queries live rest → IsNext (first ∷ queries) live (cond (not b) (Some first) rest)
next_step live first queries false rest e later = record { before = []; rest = queries; split = refl; all_live = tt; not_live = not_live_is live first e }
next_step live first queries true None e later = (live_is live first e, later)
next_step live first queries true (Some query) e later =
    record { before = first ∷ later.before; rest = later.rest; split = ap (λ (l : List Query). first ∷ l) later.split; all_live = (live_is live first e, later.all_live); not_live = later.not_live }

pub next_is_first : NextIsFirst
next_is_first [] live = tt
next_is_first (first ∷ queries) live = next_step live first queries (is_live live first) (next_of queries live) refl (next_is_first queries live)
