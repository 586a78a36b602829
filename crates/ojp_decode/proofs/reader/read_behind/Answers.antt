use Rattle.std.proofs.Common.{◌≡◌, ◌++◌, ◌-◌, ℕ, List, length, drop, take, ap, sym, ◌∙◌, subst}
use Rattle.std.proofs.Common.{Ok}
use Rattle.ojp_grammar.proofs.Tests.{is_zero}
use Rattle.ojp_grammar.specs.declared.refusals.Want.{Want}
use Rattle.ojp_decode.specs.Standing.{ReadsOn}
use Rattle.ojp_decode.specs.declared.fed.Fed.TheVariants as feds
use Rattle.ojp_decode.proofs.Readings.{HasRun, joined_stands, empty_stands, passed_all, none_of, run_behind, run_decides, behind_stands, slice_all, stays_cut, waits_behind}
use Rattle.ojp_decode.proofs.reader.read_behind.Goals as goal

pub read_piece-requires-clause-stands : goal.read_piece-requires-clause-stands
read_piece-requires-clause-stands c =
    (c.requires.0 ++ c.args.piece.now, empty_stands c.args.machine.now c.requires.0 c.args.kept.now.items c.args.piece.now c.requires.1 (is_zero (length c.args.kept.now.items) (sym c.is_empty.ensures ∙ c.if-is_empty.true)))

pub returns-then-is_empty : goal.returns-then-is_empty
returns-then-is_empty c bytes waiting =
    c.read_piece.ensures (bytes ++ c.args.piece.now) (empty_stands c.args.machine.now bytes c.args.kept.now.items c.args.piece.now waiting (is_zero (length c.args.kept.now.items) (sym c.is_empty.ensures ∙ c.if-is_empty.true)))

pub run-requires : goal.run-requires
run-requires c =
    (c.requires.0 ++ take c.min-room.result c.args.piece.now, joined_stands c.args.machine.now c.requires.0 c.args.kept.now.items (take c.min-room.result c.args.piece.now) c.as_slice.result.now c.requires.1 (c.as_slice.ensures.value ∙ c.in-Ok.ensures.ok))

pub overflow_sub-result : goal.overflow_sub-result
overflow_sub-result c =
    let joined_is : c.as_slice.result.now ≡ c.args.kept.now.items ++ take c.min-room.result c.args.piece.now = c.as_slice.ensures.value ∙ c.in-Ok.ensures.ok in
    let run : HasRun c.args.machine.now.want c.run.new.self (c.requires.0 ++ take c.min-room.result c.args.piece.now) (drop c.in-Ok-run.ran.took c.as_slice.result.now) c.in-Ok-run.ran.stop = record {
      want_is = c.in-Ok-run.ensures.want;
      stands = c.in-Ok-run.ensures.stands (c.requires.0 ++ take c.min-room.result c.args.piece.now) (joined_stands c.args.machine.now c.requires.0 c.args.kept.now.items (take c.min-room.result c.args.piece.now) c.as_slice.result.now c.requires.1 joined_is);
      stop_is = c.in-Ok-run.ensures.stop;
      cut_is = c.in-Ok-run.ensures.cut;
    } in
    passed_all c.args.machine.now c.run.new.self c.requires.0 c.args.kept.now.items (take c.min-room.result c.args.piece.now) (drop c.in-Ok-run.ran.took c.as_slice.result.now) c.in-Ok-run.ran.took c.len-before.result c.in-Ok-run.ran.stop
    c.requires.1 run (none_of c.in-Ok-run.ran.stop c.in_default-stop.not-Some) c.in-Ok-run.ensures.took.1 c.len-before.ensures.value

pub returns-in_default-stop : goal.returns-in_default-stop
returns-in_default-stop c bytes waiting =
    let joined_is : c.as_slice.result.now ≡ c.args.kept.now.items ++ take c.min-room.result c.args.piece.now = c.as_slice.ensures.value ∙ c.in-Ok.ensures.ok in
    let run : HasRun c.args.machine.now.want c.run.new.self (bytes ++ take c.min-room.result c.args.piece.now) (drop c.in-Ok-run.ran.took c.as_slice.result.now) c.in-Ok-run.ran.stop = record {
      want_is = c.in-Ok-run.ensures.want;
      stands = c.in-Ok-run.ensures.stands (bytes ++ take c.min-room.result c.args.piece.now) (joined_stands c.args.machine.now bytes c.args.kept.now.items (take c.min-room.result c.args.piece.now) c.as_slice.result.now waiting joined_is);
      stop_is = c.in-Ok-run.ensures.stop;
      cut_is = c.in-Ok-run.ensures.cut;
    } in
    let none = none_of c.in-Ok-run.ran.stop c.in_default-stop.not-Some in
    let passed = passed_all c.args.machine.now c.run.new.self bytes c.args.kept.now.items (take c.min-room.result c.args.piece.now) (drop c.in-Ok-run.ran.took c.as_slice.result.now) c.in-Ok-run.ran.took c.len-before.result c.in-Ok-run.ran.stop
    waiting run none c.in-Ok-run.ensures.took.1 c.len-before.ensures.value in
    run_behind c.args.machine.now.want c.run.new.self bytes c.args.kept.now.items c.args.piece.now c.as_slice.result.now c.clear.new.self.items c.min-room.result c.in-Ok-run.ran.took c.len-before.result c.in-Ok-run.ran.stop
    run none joined_is c.len-before.ensures.value passed c.in-Ok-run.ensures.took.0 c.clear.ensures

pub returns-then-not-is_truncated : goal.returns-then-not-is_truncated
returns-then-not-is_truncated c bytes waiting =
    let joined_is : c.as_slice.result.now ≡ c.args.kept.now.items ++ take c.min-room.result c.args.piece.now = c.as_slice.ensures.value ∙ c.in-Ok.ensures.ok in
    let run : HasRun c.args.machine.now.want c.run.new.self (bytes ++ take c.min-room.result c.args.piece.now) (drop c.in-Ok-run.ran.took c.as_slice.result.now) c.in-Ok-run.ran.stop = record {
      want_is = c.in-Ok-run.ensures.want;
      stands = c.in-Ok-run.ensures.stands (bytes ++ take c.min-room.result c.args.piece.now) (joined_stands c.args.machine.now bytes c.args.kept.now.items (take c.min-room.result c.args.piece.now) c.as_slice.result.now waiting joined_is);
      stop_is = c.in-Ok-run.ensures.stop;
      cut_is = c.in-Ok-run.ensures.cut;
    } in
    run_decides c.args.machine.now.want c.run.new.self bytes c.args.piece.now (drop c.in-Ok-run.ran.took c.as_slice.result.now) c.try_extend_from_slice.new.self.items c.min-room.result c.in-Ok-run.ran.stop c.in-Some.reason c.refused.result
    run c.in-Some.is c.if-not-is_truncated.ensures c.refused.ensures

pub returns-then-ran-before : goal.returns-then-ran-before
returns-then-ran-before c bytes waiting =
    let joined_same : c.try_extend_from_slice.new.self.items ≡ c.args.kept.now.items ++ take c.min-room.result c.args.piece.now = c.in-Ok.ensures.ok in
    let joined_is : c.as_slice.result.now ≡ c.args.kept.now.items ++ take c.min-room.result c.args.piece.now = c.as_slice.ensures.value ∙ c.in-Ok.ensures.ok in
    let run : HasRun c.args.machine.now.want c.run.new.self (bytes ++ take c.min-room.result c.args.piece.now) (drop c.in-Ok-run.ran.took c.as_slice.result.now) c.in-Ok-run.ran.stop = record {
      want_is = c.in-Ok-run.ensures.want;
      stands = c.in-Ok-run.ensures.stands (bytes ++ take c.min-room.result c.args.piece.now) (joined_stands c.args.machine.now bytes c.args.kept.now.items (take c.min-room.result c.args.piece.now) c.as_slice.result.now waiting joined_is);
      stop_is = c.in-Ok-run.ensures.stop;
      cut_is = c.in-Ok-run.ensures.cut;
    } in
    let P : List ℕ → Type 0 = λ l. ReadsOn c.args.machine.now.want (bytes ++ c.args.piece.now) c.args.piece.now (Ok feds.More) c.run.new.self l in
    subst P c.as_slice.ensures.value
    (stays_cut c.args.machine.now c.run.new.self bytes c.args.kept.now.items c.args.piece.now c.as_slice.result.now c.min-room.result c.in-Ok-run.ran.took c.len-before.result c.in-Ok-run.ran.stop c.in-Some.reason
    waiting joined_is c.min-room.ensures c.len-before.ensures.value run c.in-Some.is c.if-not-is_truncated.ensures c.in-Ok-run.ensures.took.1 c.if-ran-before.true)

pub read_piece-requires-then-room-piece-clause-stands : goal.read_piece-requires-then-room-piece-clause-stands
read_piece-requires-then-room-piece-clause-stands c =
    let joined_is : c.as_slice.result.now ≡ c.args.kept.now.items ++ take c.min-room.result c.args.piece.now = c.as_slice.ensures.value ∙ c.in-Ok.ensures.ok in (
      c.requires.0 ++ c.args.piece.now,
      behind_stands c.run.new.self c.requires.0 c.args.kept.now.items c.args.piece.now c.as_slice.result.now c.min-room.result c.in-Ok-run.ran.took c.len-before.result
          (c.in-Ok-run.ensures.stands (c.requires.0 ++ take c.min-room.result c.args.piece.now) (joined_stands c.args.machine.now c.requires.0 c.args.kept.now.items (take c.min-room.result c.args.piece.now) c.as_slice.result.now c.requires.1 joined_is))
          joined_is c.len-before.ensures.value c.if-ran-before.false c.in-Ok-run.ensures.took.0,
    )

pub returns-then-room-piece : goal.returns-then-room-piece
returns-then-room-piece c bytes waiting =
    let joined_is : c.as_slice.result.now ≡ c.args.kept.now.items ++ take c.min-room.result c.args.piece.now = c.as_slice.ensures.value ∙ c.in-Ok.ensures.ok in
    let behind =
    behind_stands c.run.new.self bytes c.args.kept.now.items c.args.piece.now c.as_slice.result.now c.min-room.result c.in-Ok-run.ran.took c.len-before.result
    (c.in-Ok-run.ensures.stands (bytes ++ take c.min-room.result c.args.piece.now) (joined_stands c.args.machine.now bytes c.args.kept.now.items (take c.min-room.result c.args.piece.now) c.as_slice.result.now waiting joined_is))
    joined_is c.len-before.ensures.value c.if-ran-before.false c.in-Ok-run.ensures.took.0 in
    let P : Want → Type 0 = λ w. ReadsOn w (bytes ++ c.args.piece.now) c.args.piece.now c.read_piece-then-room-piece.result c.read_piece-then-room-piece.new.machine c.read_piece-then-room-piece.new.kept.items in
    subst P c.in-Ok-run.ensures.want (c.read_piece-then-room-piece.ensures (bytes ++ c.args.piece.now) behind)

pub returns : goal.returns
returns c bytes waiting =
    let joined_is : c.as_slice.result.now ≡ c.args.kept.now.items ++ take c.min-room.result c.args.piece.now = c.as_slice.ensures.value ∙ c.in-Ok.ensures.ok in
    let run : HasRun c.args.machine.now.want c.run.new.self (bytes ++ take c.min-room.result c.args.piece.now) (drop c.in-Ok-run.ran.took c.as_slice.result.now) c.in-Ok-run.ran.stop = record {
      want_is = c.in-Ok-run.ensures.want;
      stands = c.in-Ok-run.ensures.stands (bytes ++ take c.min-room.result c.args.piece.now) (joined_stands c.args.machine.now bytes c.args.kept.now.items (take c.min-room.result c.args.piece.now) c.as_slice.result.now waiting joined_is);
      stop_is = c.in-Ok-run.ensures.stop;
      cut_is = c.in-Ok-run.ensures.cut;
    } in
    let passed : ℕ = c.in-Ok-run.ran.took - c.len-before.result in
    let left : c.try_extend_from_slice-2.new.self.items ≡ drop passed c.args.piece.now =
    c.in-Ok-try_extend_from_slice.ensures.ok
    ∙ (ap (λ (l : List ℕ). l ++ take (length c.args.piece.now - passed) (drop passed c.args.piece.now)) c.clear-2.ensures ∙ slice_all c.args.piece.now passed) in
    waits_behind c.args.machine.now.want c.run.new.self bytes c.args.kept.now.items c.args.piece.now c.as_slice.result.now c.try_extend_from_slice-2.new.self.items c.min-room.result c.in-Ok-run.ran.took c.len-before.result c.in-Ok-run.ran.stop c.in-Some.reason
    run c.in-Some.is c.if-not-is_truncated.ensures joined_is c.len-before.ensures.value c.if-ran-before.false c.in-Ok-run.ensures.took.0 c.if-room-piece.false left
