use Rattle.std.proofs.Common.{◌≡◌, sym, ◌∙◌, subst, arith}
use Rattle.ojp_regions.specs.Lines.{doubled, too_many}
use Rattle.ojp_regions.proofs.ReadFacts.{has_code, on_ok, listed, unlisted}
use Rattle.ojp_regions.proofs.reading.add_line.Goals as goal

pub returns-in-Err-clause-refused : goal.returns-in-Err-clause-refused
returns-in-Err-clause-refused c = c.in-Err.ensures.refused c.args.regions.now

pub returns-then-has_code-clause-refused : goal.returns-then-has_code-clause-refused
returns-then-has_code-clause-refused c =
    doubled c.in-Ok.region c.in-Ok.ensures.said
    (listed c.in-Ok.region.code c.args.regions.now (subst (λ regions. has_code c.in-Ok.region.code regions ≡ c.has_code.result) c.as_slice.ensures (sym c.has_code.ensures) ∙ c.if-has_code.true))

pub returns-then-len-ge-REGIONS-clause-refused : goal.returns-then-len-ge-REGIONS-clause-refused
returns-then-len-ge-REGIONS-clause-refused c =
    too_many c.in-Ok.region c.in-Ok.ensures.said
    (unlisted c.in-Ok.region.code c.args.regions.now (subst (λ regions. has_code c.in-Ok.region.code regions ≡ c.has_code.result) c.as_slice.ensures (sym c.has_code.ensures) ∙ c.if-has_code.false))
    (omega (arith, c.len.ensures, c.if-len-ge-REGIONS.true))

pub returns-clause-added : goal.returns-clause-added
returns-clause-added c = record {
  region = c.in-Ok.region;
  says = c.in-Ok.ensures.said;
  own = unlisted c.in-Ok.region.code c.args.regions.now (subst (λ regions. has_code c.in-Ok.region.code regions ≡ c.has_code.result) c.as_slice.ensures (sym c.has_code.ensures) ∙ c.if-has_code.false);
  room = omega (arith, c.len.ensures, c.if-len-ge-REGIONS.false);
  added = on_ok c.push.result _ (sym c.is_err.ensures.value ∙ c.if-is_err.false) c.push.ensures.ok;
}
