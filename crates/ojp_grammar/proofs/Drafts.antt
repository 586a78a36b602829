-- What was folded so far, where the machine stands.
use Rattle.std.proofs.Common.{◌≡◌, refl, List, [], ◌∷◌, ◌++◌, Option, Some, None, sym, ◌∙◌, ap, subst}
use Rattle.std.proofs.lemmas.List.{append-nil}
use Rattle.ojp_grammar.specs.Items.{Item, spell}
use Rattle.ojp_grammar.specs.Steps.{step as open_behind, Accepts}
use Rattle.ojp_grammar.specs.Reached.{start_of}
use Rattle.ojp_grammar.proofs.Plain.{some_items}
use Rattle.ojp_grammar.proofs.Progress.{at_step}
use Rattle.ojp_grammar.proofs.Wanted.{start_means}
use Rattle.ojp_grammar.specs.Folding.{Waiting, nothing, fold, onward, step, Drafts, Steps, Finishes}
use Rattle.ojp_grammar.proofs.Folds.{document_folds}

through : (xs ys : List Item) (next : Option Waiting) → ((v : Waiting) → fold v (xs ++ ys) ≡ onward (fold v xs) (λ u. fold u ys)) → onward next (λ v. fold v (xs ++ ys)) ≡ onward (onward next (λ v. fold v xs)) (λ v. fold v ys)
through xs ys None h = refl
through xs ys (Some v) h = h v

pub fold-append : (w : Waiting) (xs ys : List Item) → fold w (xs ++ ys) ≡ onward (fold w xs) (λ v. fold v ys)
fold-append w [] ys = refl
fold-append w (i ∷ xs) ys = through xs ys (step i w) (λ v. fold-append v xs ys)

came : (o : Option Waiting) (f : Waiting → Option Waiting) (r : Waiting) → onward o f ≡ Some r → (d : Waiting) × (o ≡ Some d)
came None f r e = absurd cc
came (Some d) f r e = (d, refl)

-- whole items of a wanted document fold
pub drafts : Drafts
drafts want bytes front k tail at =
    let w = some_items k at.plain in
    let d = (start_means want).accepted (front ++ w.0) (at.to w.0 w.1) in
    let all : fold nothing (front ++ w.0) ≡ Some (record nothing { done = d.doc ∷ [] }) = subst (λ (l : List Item). fold nothing l ≡ Some (record nothing { done = d.doc ∷ [] })) d.parts (document_folds d.doc) in
    came (fold nothing front) (λ v. fold v w.0) (record nothing { done = d.doc ∷ [] }) (sym (fold-append nothing front w.0) ∙ all)

stepped : (i : Item) (d e : Waiting) → onward (step i d) (λ v. Some v) ≡ Some e → step i d ≡ Some e
stepped i d e h = same (step i d) h
  where
    same : (o : Option Waiting) → onward o (λ v. Some v) ≡ Some e → o ≡ Some e
    same None h = absurd cc
    same (Some v) h = h

-- the item that comes next is folded
pub steps : Steps
steps want bytes front s k tail i behind d plain at comes is =
    let e = drafts want bytes (front ++ i ∷ []) (open_behind i s k) behind (at_step (start_of want) bytes front s k tail i behind plain at comes) in
    let here : fold nothing (front ++ i ∷ []) ≡ onward (step i d) (λ v. Some v) =
    fold-append nothing front (i ∷ []) ∙ ap (λ (o : Option Waiting). onward o (λ v. fold v (i ∷ []))) is in
    (e.0, stepped i d e.0 (sym here ∙ e.1), e.1)

-- at the end the document is there, and spells the bytes
pub finishes : Finishes
finishes want bytes front d at is =
    let P : List Item → Type 0 = λ w. Accepts w (start_of want) in
    let doc = (start_means want).accepted front (subst P (append-nil front) (at.to [] tt)) in
    let folded : Some d ≡ Some (record nothing { done = doc.doc ∷ [] }) =
    sym is ∙ (ap (fold nothing) (sym doc.parts) ∙ document_folds doc.doc) in
    (doc.doc, doc.wanted, at.parts ∙ (append-nil (spell front) ∙ ap spell (sym doc.parts)), (let same : d ≡ record nothing { done = doc.doc ∷ [] } = cc in same))
