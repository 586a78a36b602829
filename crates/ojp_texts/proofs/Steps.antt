-- Rows of lines that lead from what is declared to what is declared behind them.
use Rattle.std.proofs.Common.{◌≡◌, ◌≢◌, ℕ, ◌+◌, ◌<◌, Bool, true, false, ◌&&◌, ◌||◌, nat_le, true≢false, List, [], ◌∷◌, ◌++◌, refl, sym, ◌∙◌, ap, subst, arith, fold, inl, inr}
use Rattle.std.specs.List.{list_any}
use Rattle.std.proofs.lemmas.Bool.Decides.{nat_tests}
use Rattle.std.proofs.lemmas.List.Sums.{fold-append}
use Rattle.ojp_values.specs.Lists.{Among}
use Rattle.ojp_values.specs.Texts.{Text, same}
use Rattle.ojp_values.proofs.ListFacts.{each_at}
use Rattle.ojp_timetable.specs.Contents.{Contents}
use Rattle.ojp_timetable.specs.Lines.{grown, left_open}
use Rattle.ojp_timetable.specs.declared.file.lines.Line.{Line}
use Rattle.ojp_timetable.specs.declared.file.lines.Open.{Open}
use Rattle.ojp_timetable.proofs.TextFacts.{is_differ}
use Rattle.ojp_texts.specs.Spelled.{HaveOwn}
use Rattle.ojp_texts.proofs.Fitting.{AllFit, Fits, all_append, left_after, left_append}

-- the lines fit below what is declared and left open, and lead to what is declared and left open behind them
pub record Takes (zone : Text) (from : Contents) (left : Open) (entries : List Line) (to : Contents) (behind : Open) : Type 0 where
  pub fit : AllFit zone from left entries
  pub makes : fold grown from entries ≡ to
  pub leaves : left_after left entries ≡ behind

pub takes_none : (zone : Text) (from to : Contents) (left : Open) → from ≡ to → Takes zone from left [] to left
takes_none zone from to left e = record { fit = tt; makes = e; leaves = refl }

pub takes_line : (zone : Text) (from : Contents) (left : Open) (line : Line) (more : List Line) (to : Contents) (behind : Open) → Fits zone from left line → Takes zone (grown from line) (left_open line) more to behind
    → Takes zone from left (line ∷ more) to behind
takes_line zone from left line more to behind fits t = record { fit = (fits, t.fit); makes = t.makes; leaves = t.leaves }

pub takes_more : (zone : Text) (from between to : Contents) (left mid behind : Open) (xs ys : List Line) → Takes zone from left xs between mid → Takes zone between mid ys to behind → Takes zone from left (xs ++ ys) to behind
takes_more zone from between to left mid behind xs ys first second = record {
  fit = all_append zone from left xs ys first.fit
      (subst (λ (c : Contents). AllFit zone c (left_after left xs) ys) (sym first.makes) (subst (λ (l : Open). AllFit zone between l ys) (sym first.leaves) second.fit));
  makes = fold-append grown from xs ys ∙ (ap (λ (c : Contents). fold grown c ys) first.makes ∙ second.makes);
  leaves = left_append left xs ys ∙ (ap (λ (l : Open). left_after l ys) first.leaves ∙ second.leaves);
}

-- ---- small facts

pub neither : (a b : Bool) → a ≡ false → b ≡ false → (a || b) ≡ false
neither false b h k = k
neither true b h k = absurd (true≢false h)

pub not_both : (a b : Bool) → b ≡ false → (a && b) ≡ false
not_both true b h = h
not_both false b h = refl

pub not_le : (n m : ℕ) → m < n → nat_le n m ≡ false
not_le n m h = grind (arith, nat_tests)

pub among_middle : {X : Type 0} (done : List X) (x : X) (rest : List X) → Among x (done ++ x ∷ rest)
among_middle [] x rest = inl refl
among_middle (d ∷ done) x rest = inr (among_middle done x rest)

-- an element whose key no other has is new behind those before it
pub own_new : {X : Type 0} (key : X → Text) (done : List X) (x : X) (rest : List X) → HaveOwn key (done ++ x ∷ rest) → list_any (λ (y : X). same (key x) (key y)) done ≡ false
own_new key [] x rest h = refl
own_new {X} key (d ∷ done) x rest h =
    neither _ _ (is_differ (key x) (key d) (λ e. each_at (λ (y : X). key d ≢ key y) x (done ++ x ∷ rest) h.0 (among_middle done x rest) (sym e))) (own_new key done x rest h.1)

pub own_of : {X : Type 0} (key : X → Text) (all xs : List X) → xs ≡ all → HaveOwn key all → HaveOwn key xs
own_of {X} key all xs e h = subst (λ (ys : List X). HaveOwn key ys) (sym e) h

pub among_of : {X : Type 0} (all done : List X) (x : X) (rest : List X) → done ++ x ∷ rest ≡ all → Among x all
among_of {X} all done x rest e = subst (λ (ys : List X). Among x ys) e (among_middle done x rest)
