use Rattle.ojp_grammar.specs.Steps.{syntax_of}
use Rattle.ojp_grammar.proofs.Cuts.{text_comes, no_text}
use Rattle.ojp_grammar.proofs.machine.find_text.Goals as goal

pub returns-in-Some : goal.returns-in-Some
returns-in-Some c =
    text_comes (syntax_of c.args.shape.now) c.args.bytes.now c.in-Some.n c.requires.plain c.in-Some.ensures.0 c.in-Some.ensures.1

pub returns-in-None-cut_text : goal.returns-in-None-cut_text
returns-in-None-cut_text c =
    no_text (syntax_of c.args.shape.now) c.args.bytes.now c.requires.text c.in-None.ensures c.in-None-cut_text.ensures
