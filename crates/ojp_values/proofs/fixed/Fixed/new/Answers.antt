use Rattle.std.proofs.Common.{ℕ, length}
use Rattle.std.proofs.Math.Seq.{drop-append_seam}
use Rattle.std.proofs.lemmas.List.{drop-replicate}
use Rattle.ojp_values.proofs.Padding.{length-padded}
use Rattle.ojp_values.proofs.fixed.Fixed.new.Goals as goal

pub invariant_of-result : goal.invariant_of-result
invariant_of-result g c =
    rw (c.copy_from_slice.ensures.after, drop-replicate {X = ℕ} (length c.args.text.now) g.row.N 0)
    (c.requires, length-padded c.args.text.now g.row.N c.requires, drop-append_seam c.args.text.now _)
