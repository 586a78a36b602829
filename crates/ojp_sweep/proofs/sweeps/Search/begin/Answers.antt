use Rattle.std.proofs.Common.{◌≡◌, ◌∙◌, ap, length, arith, subst}
use Rattle.ojp_sweep.specs.Sweeps.{IsBegun}
use Rattle.ojp_sweep.proofs.BeginFacts.{begun-swept, cleared-right, cleared-ready, cleared-next, cleared-kept}
use Rattle.ojp_sweep.proofs.sweeps.Search.begin.Goals as goal

pub days-init : goal.days-init
days-init c =
    let s = c.args.self.now in
    let p = c.args.progress.now in
    let room = c.requires.room in
    let right = cleared-right p.labels c.clear.new.self s.net.now s.days.now s.asked c.requires.search room.arrives room.ready room.next room.hops c.requires.round c.clear.ensures in
    let begun : IsBegun (record { labels = c.clear.new.self; boarded = c.leave.new.boarded; cursors = p.cursors; ends = p.ends }) s.net.now s.days.now s.asked 0 =
    record {
      room = record {
        arrives = c.clear.ensures.arrives_count ∙ room.arrives;
        ready = cleared-ready p.labels c.clear.new.self s.asked c.clear.ensures ∙ room.ready;
        next = cleared-next p.labels c.clear.new.self s.asked c.clear.ensures ∙ room.next;
        hops = ap length c.clear.ensures.hops ∙ room.hops;
        runs = c.leave.ensures.count ∙ room.runs;
        cursors = room.cursors;
        ends = room.ends;
      };
      labels = right;
      none = λ run h. c.leave.ensures.none run (omega (arith, c.leave.ensures.count));
      cursors = λ day h. absurd (omega arith);
      ends = λ day h. absurd (omega arith);
    } in
    record {
      begun = begun;
      kept = λ round. cleared-kept p.labels c.clear.new.self s.asked c.clear.ensures round;
    }

pub returns-clause-swept : goal.returns-clause-swept
returns-clause-swept c =
    let s = c.args.self.now in
    let four : c.days.day ≡ 4 = omega arith in
    begun-swept c.days.progress s.net.now s.days.now s.asked c.requires.search (subst (λ n. IsBegun c.days.progress s.net.now s.days.now s.asked n) four c.days.invariant.begun)
