use Rattle.ojp_grammar.proofs.Cuts.{field_comes, no_field, too_long, open_run}
use Rattle.ojp_grammar.proofs.machine.find_field.Goals as goal

pub returns-in-Some-read_field : goal.returns-in-Some-read_field
returns-in-Some-read_field c =
    field_comes c.args.kind c.args.bytes.now c.in-Some.len c.in-Some-read_field.value c.in-Some.ensures c.in-Some-read_field.ensures

pub returns-in-None-read_field : goal.returns-in-None-read_field
returns-in-None-read_field c =
    no_field c.args.kind c.args.bytes.now c.in-Some.len c.in-Some.ensures c.in-None-read_field.ensures

pub returns-then-bytes-le-LONGEST_FIELD : goal.returns-then-bytes-le-LONGEST_FIELD
returns-then-bytes-le-LONGEST_FIELD c = open_run c.args.kind c.args.bytes.now c.in-None.ensures c.if-bytes-le-LONGEST_FIELD.true

pub returns-else-bytes-le-LONGEST_FIELD : goal.returns-else-bytes-le-LONGEST_FIELD
returns-else-bytes-le-LONGEST_FIELD c = too_long c.args.kind c.args.bytes.now c.in-None.ensures c.if-bytes-le-LONGEST_FIELD.false
