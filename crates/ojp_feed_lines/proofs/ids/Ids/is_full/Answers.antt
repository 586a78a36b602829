use Rattle.std.proofs.Common.{ℕ, ◌≤◌, arith}
use Rattle.std.specs.Prelude.{IsTrue, nat_le, string_bytes}
use Rattle.std.proofs.lemmas.Bool.Decides.{nat_tests}
use Rattle.std.proofs.lemmas.List.{length-map}
use Rattle.ojp_feed_lines.proofs.ids.Ids.is_full.Goals as goal

is_most : (most count : ℕ) → IsTrue (nat_le most count) → most ≤ count
is_most most count is = grind (arith, nat_tests)

pub returns : goal.returns
returns c =
    λ is.
    let most = is_most 100000000 c.len.result is in
    let same = length-map c.args.self.now.ids.keys string_bytes in
    omega (arith, most, same, c.len.ensures.len)
