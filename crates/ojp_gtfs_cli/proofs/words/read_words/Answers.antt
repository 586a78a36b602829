use Rattle.ojp_gtfs_cli.proofs.WordFacts.{no_words, one_word, read_as}
use Rattle.ojp_gtfs_cli.proofs.words.read_words.Goals as goal

pub returns-in-None : goal.returns-in-None
returns-in-None c = no_words c.args.words.now c.in-None.ensures.cases

pub returns-in-None-split_first : goal.returns-in-None-split_first
returns-in-None-split_first c = one_word c.args.words.now c.in-Some.behind.now c.in-Some.folder.now c.in-Some.ensures.cases.0 c.in-None-split_first.ensures.cases

pub returns-in-Some-split_first : goal.returns-in-Some-split_first
returns-in-Some-split_first c =
    read_as c.args.words.now c.in-Some.behind.now c.in-Some-split_first.rest.now c.in-Some.folder.now c.in-Some-split_first.code.now c.as_str.result.now c.as_str-in-Some-split_first.result.now c.read_behind.result
    c.in-Some.ensures.cases.0 c.in-Some-split_first.ensures.cases.0 c.as_str.ensures.value c.as_str-in-Some-split_first.ensures.value c.read_behind.ensures
