use Rattle.std.proofs.Common.{◌≡◌, ◌∷◌, [], sym, ◌∙◌, ap, subst, List, Some}
use Rattle.ojp_tables.specs.declared.names.TheConstants.{HEAD, END}
use Rattle.ojp_grammar.specs.declared.machine.Cut.TheVariants as cuts
use Rattle.ojp_grammar.specs.declared.refusals.Reason.TheVariants.{Truncated}
use Rattle.ojp_grammar.specs.Syntax.{Syntax, text}
use Rattle.ojp_grammar.specs.Steps.{stack_of}
use Rattle.ojp_grammar.specs.Folding.{Waiting}
use Rattle.ojp_grammar.specs.Machine.{IsCutAt, StopsFor}
use Rattle.ojp_grammar.specs.Reached.{start_of}
use Rattle.ojp_grammar.specs.Running.{IsReading}
use Rattle.ojp_grammar.proofs.Cutting.{start_cut, cut_stops}
use Rattle.ojp_grammar.proofs.Runs.{reading_start, three_open}
use Rattle.ojp_grammar.proofs.machine.Machine.new.Goals as goal

pub returns-clause-stands : goal.returns-clause-stands
returns-clause-stands c bytes =
    let open_shapes : stack_of c.push-3.new.self.items ≡ start_of c.args.want =
    three_open c.new-stack.result.items c.push.new.self.items c.push-2.new.self.items c.push-3.new.self.items _ c.content.result _
    c.new-stack.ensures c.push.ensures.items c.push-2.ensures.items c.push-3.ensures.items
    ∙ ap (λ s. text HEAD ∷ s ∷ text END ∷ []) c.content.ensures in
    let P : Waiting → Type 0 = λ w. IsReading c.args.want 0 (start_of c.args.want) w bytes bytes in
    let Q : List Syntax → Type 0 = λ k. IsReading c.args.want 0 k c.new.result bytes bytes in
    subst Q (sym open_shapes) (subst P (sym c.new.ensures) (reading_start c.args.want bytes))

pub returns-clause-stop : goal.returns-clause-stop
returns-clause-stop c =
    let open_shapes : stack_of c.push-3.new.self.items ≡ start_of c.args.want =
    three_open c.new-stack.result.items c.push.new.self.items c.push-2.new.self.items c.push-3.new.self.items _ c.content.result _
    c.new-stack.ensures c.push.ensures.items c.push-2.ensures.items c.push-3.ensures.items
    ∙ ap (λ s. text HEAD ∷ s ∷ text END ∷ []) c.content.ensures in
    let P : List Syntax → Type 0 = λ k. StopsFor k [] Truncated in
    subst P (sym open_shapes) (cut_stops (cuts.Text HEAD) (start_of c.args.want) [] (start_cut c.args.want))

pub returns-clause-cut : goal.returns-clause-cut
returns-clause-cut c =
    let open_shapes : stack_of c.push-3.new.self.items ≡ start_of c.args.want =
    three_open c.new-stack.result.items c.push.new.self.items c.push-2.new.self.items c.push-3.new.self.items _ c.content.result _
    c.new-stack.ensures c.push.ensures.items c.push-2.ensures.items c.push-3.ensures.items
    ∙ ap (λ s. text HEAD ∷ s ∷ text END ∷ []) c.content.ensures in
    let P : List Syntax → Type 0 = λ k. IsCutAt (Some (cuts.Text HEAD)) k [] in
    subst P (sym open_shapes) (start_cut c.args.want)
