use Rattle.std.proofs.Common.{◌+◌, ◌-◌, arith, sym, subst, refl, ap, ◌∙◌}
use Rattle.std.specs.Vec.{with_item}
use Rattle.ojp_sweep.specs.declared.progress.Progress.{Progress}
use Rattle.ojp_sweep.specs.Rides.{moment}
use Rattle.ojp_sweep.specs.Sweeps.{IsOnRun, IsSwept, HasBoarded}
use Rattle.ojp_sweep.proofs.SweepFacts.{looked-at, on-run, none-falls, four-read}
use Rattle.ojp_sweep.proofs.sweeps.Search.look.Goals as goal
use Rattle.ojp_sweep.proofs.sweeps.Search.look.Goals.{then-board-gt0, else-board-gt0}

pub alight-requires-clause-on_run : goal.alight-requires-clause-on_run
alight-requires-clause-on_run c =
    let s = c.args.self.now in
    let p = c.args.progress.now in
    let e = four-read p.cursors.items c.args.day c.index-index.result.now c.requires.day c.requires.swept.cursors_count c.index-index.ensures in
    let boarded = subst (λ k. HasBoarded p.boarded.items c.board-board.new.boarded.items p.labels.ready.items s.net.now s.days.now c.args.day k c.board-board.result) e c.board-board.ensures in
    subst (λ k. IsOnRun p.labels.ready.items s.net.now s.days.now c.args.day (c.board-board.result - 1) k) (sym e)
    (on-run s.net.now s.days.now s.asked c.requires.search p c.requires.swept c.args.day c.requires.day c.requires.next (c.board-board.result - 1)
    c.board-board.new.boarded.items c.board-board.result (omega arith) boarded)

pub returns-clause-swept : goal.returns-clause-swept
returns-clause-swept c =
    let s = c.args.self.now in
    let p = c.args.progress.now in
    let i = c.index-index.result.now in
    let e = four-read p.cursors.items c.args.day c.index-index.result.now c.requires.day c.requires.swept.cursors_count c.index-index.ensures in
    let P = λ (q : Progress). IsSwept (record { labels = q.labels; boarded = q.boarded; cursors = with_item q.cursors c.args.day (i + 1); ends = q.ends }) s.net.now s.days.now s.asked in
    elim c.if-board-gt0.branch [
      | then-board-gt0 w ↦
          let mid : Progress = record { labels = w.alight.new.labels; boarded = c.board-board.new.boarded; cursors = p.cursors; ends = p.ends } in
          subst P (sym w.progress-is)
          (looked-at s.net.now s.days.now s.asked p c.requires.swept c.args.day c.requires.day c.requires.next i e mid c.board-board.result c.board-board.ensures refl refl
          w.alight.ensures.labels w.alight.ensures.falls (λ rode. w.alight.ensures.low))
      | else-board-gt0 w ↦
          let mid : Progress = record { labels = p.labels; boarded = c.board-board.new.boarded; cursors = p.cursors; ends = p.ends } in
          subst P (sym w.progress-is)
          (looked-at s.net.now s.days.now s.asked p c.requires.swept c.args.day c.requires.day c.requires.next i e mid c.board-board.result c.board-board.ensures refl refl
          c.requires.swept.labels (λ k at. none-falls (moment s.days.now c.args.day k.departs) p.labels) (λ rode. absurd (rode (omega arith))))
    ]

pub returns-clause-kept : goal.returns-clause-kept
returns-clause-kept c round =
    let p = c.args.progress.now in
    elim c.if-board-gt0.branch [
      | then-board-gt0 w ↦ ap (λ (q : Progress). q.labels.ready.items) w.progress-is ∙ w.alight.ensures.kept round
      | else-board-gt0 w ↦ ap (λ (q : Progress). q.labels.ready.items) w.progress-is
    ]
