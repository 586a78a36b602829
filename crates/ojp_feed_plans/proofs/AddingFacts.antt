-- Lists that grow.
use Rattle.std.proofs.Common.{◌≡◌, List, [], ◌∷◌, ◌++◌, sym, ◌∙◌, ap, subst, append-nil, append_assoc}
use Rattle.std.specs.List.{All}
use Rattle.std.proofs.lemmas.List.Elements.{All-append, All-cons, All-nil, All-weaker}
use Rattle.ojp_feed_plans.specs.Adding.{Adds}

pub adds_none : {X : Type 0} (P : X → Type 0) (old : List X) → Adds P old old
adds_none {X} P old = record { more = []; joined = sym (append-nil old); each = All-nil P }

pub adds_one : {X : Type 0} (P : X → Type 0) (old new : List X) (x : X) → new ≡ old ++ x ∷ [] → P x → Adds P old new
adds_one {X} P old new x is has = record { more = x ∷ []; joined = is; each = All-cons P x [] has (All-nil P) }

pub adds_both : {X : Type 0} (P : X → Type 0) (old mid new : List X) → Adds P old mid → Adds P mid new → Adds P old new
adds_both {X} P old mid new one two = record {
  more = one.more ++ two.more;
  joined = two.joined ∙ (ap (λ (xs : List X). xs ++ two.more) one.joined ∙ append_assoc old one.more two.more);
  each = All-append P one.more two.more one.each two.each;
}

pub adds_weaker : {X : Type 0} (P Q : X → Type 0) (old new : List X) → ((x : X) → P x → Q x) → Adds P old new → Adds Q old new
adds_weaker {X} P Q old new step adds = record { more = adds.more; joined = adds.joined; each = All-weaker P Q step adds.more adds.each }

-- what held of the old list holds of the new one
pub all_added : {X : Type 0} (P : X → Type 0) (old new : List X) → All P old → Adds P old new → All P new
all_added {X} P old new before adds = subst (λ (xs : List X). All P xs) (sym adds.joined) (All-append P old adds.more before adds.each)

-- what was added to no list
pub all_of_added : {X : Type 0} (P : X → Type 0) (new : List X) → Adds P [] new → All P new
all_of_added {X} P new adds = all_added P [] new (All-nil P) adds
