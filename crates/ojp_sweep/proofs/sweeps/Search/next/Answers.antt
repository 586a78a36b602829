use Rattle.std.proofs.Common.{◌≡◌, ℕ, ◌+◌, sym, subst, arith, min, rules, nat_cmp}
use Rattle.std.specs.Ordering.{ord_min}
use Rattle.ojp_sweep.specs.declared.progress.Next.{Next}
use Rattle.ojp_sweep.specs.Sweeps.{IsFirst}
use Rattle.ojp_sweep.proofs.NextFacts.{first-more, first-now}
use Rattle.ojp_sweep.proofs.sweeps.Search.next.Goals as goal
use Rattle.ojp_sweep.proofs.sweeps.Search.next.Goals.{then-at-next, else-at-next}

least-is : (a b r : ℕ) → r ≡ ord_min nat_cmp a b → r ≡ min a b
least-is a b r e = search rules

pub days-preserved : goal.days-preserved
days-preserved c =
    let p = c.args.progress.now in
    let net = c.args.self.now.net.now in
    let days = c.args.self.now.days.now in
    elim c.if-at-next.branch [
      | then-at-next w ↦
          let found = first-now p net days c.days.day c.moment-at.result 18446744073709551614 c.days.next c.days.invariant c.moment-at.ensures w.if-at-next.true (omega arith) in
          let limit : min c.days.next.at 18446744073709551614 ≡ w.min-limit.result = sym (least-is c.days.next.at 18446744073709551614 w.min-limit.result w.min-limit.ensures) in
          subst (λ (n : Next). IsFirst p net days (c.days.day + 1) n) (sym w.next-is)
          (subst (λ l. IsFirst p net days (c.days.day + 1) (record { day = c.days.day; at = c.moment-at.result; limit = l })) limit found)
      | else-at-next w ↦
          let found = first-more p net days c.days.day c.moment-at.result c.days.next c.days.invariant c.moment-at.ensures w.if-at-next.false in
          let limit : min c.days.next.limit c.moment-at.result ≡ w.min.result = sym (least-is c.days.next.limit c.moment-at.result w.min.result w.min.ensures) in
          subst (λ (n : Next). IsFirst p net days (c.days.day + 1) n) (sym w.next-is)
          (subst (λ l. IsFirst p net days (c.days.day + 1) (record { day = c.days.next.day; at = c.days.next.at; limit = l })) limit found)
    ]

pub returns : goal.returns
returns c =
    let four : c.days.day ≡ 4 = omega arith in
    subst (λ n. IsFirst c.args.progress.now c.args.self.now.net.now c.args.self.now.days.now n c.days.next) four c.days.invariant
