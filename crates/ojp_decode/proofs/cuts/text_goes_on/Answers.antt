use Rattle.std.proofs.Common.{◌≡◌, ℕ, List, [], length, get_or, sym, ◌∙◌, ap, arith}
use Rattle.std.specs.Prelude.{slice_index_or}
use Rattle.std.proofs.lemmas.Bool.{eqb-true}
use Rattle.ojp_grammar.specs.Items.{text}
use Rattle.ojp_decode.proofs.Bytes.{text_stays}
use Rattle.ojp_decode.proofs.cuts.text_goes_on.Goals as goal

pub returns : goal.returns
unfolding text
returns c hit =
    let is : c.at-text.result.now ≡ text c.args.n =
    c.at-text.ensures ∙ ap (λ (texts : List (List ℕ)). slice_index_or texts c.args.n []) c.markup.ensures in
    text_stays c.args.n c.args.passed c.args.byte
    (omega (arith, c.if-passed-saturating_sub.false, c.saturating_sub.ensures, ap length is))
    (ap (λ (l : List ℕ). get_or l c.args.passed 0) (sym is) ∙ eqb-true (get_or c.at-text.result.now c.args.passed 0) c.args.byte hit)
