use Rattle.std.proofs.Common.{sym, ap, ◌∙◌, ◌++◌, ℕ, List, []}
use Rattle.ojp_values.specs.Texts.{escaped}
use Rattle.ojp_values.specs.Dates.{moment_text, day_text}
use Rattle.ojp_values.specs.declared.trips.Leg.{Leg}
use Rattle.ojp_tables.specs.declared.runs.TheConstants as runs
use Rattle.ojp_grammar.specs.Items.{text}
use Rattle.ojp_grammar.specs.Fields.{field_text}
use Rattle.ojp_grammar.specs.Syntax.{put}
use Rattle.ojp_grammar.specs.Grammar.{LEG}
use Rattle.ojp_grammar.specs.Documents.{leg_said}
use Rattle.ojp_grammar.proofs.Fronts.{spell_joined}
use Rattle.ojp_grammar.proofs.front.Front.leg.Goals as goal

pub returns : goal.returns
unfolding text field_text
returns c =
    let leg : Leg = record {
      region = c.in_ok-region.region;
      journey = c.in_ok-journey.journey;
      line = c.in_ok-line.line;
      day = c.in_ok-day.day;
      board = c.in_ok-board.board;
      board_name = c.in_ok-board_name.board_name;
      departs = c.in_ok-departs.departs;
      alight = c.in_ok-alight.alight;
      alight_name = c.in_ok-alight_name.alight_name;
      arrives = c.in_ok-arrives.arrives;
    } in
    record {
      parts = (c.in_ok-board.ensures.0 ∙ ap (λ (l : List ℕ). runs.LEG_START.now ++ ((c.in_ok-board.board) ++ l)) (c.in_ok-board_name.ensures.0 ∙ ap (λ (l : List ℕ). runs.STOP_NAME.now ++ ((escaped c.in_ok-board_name.board_name) ++ l)) (c.in_ok-departs.ensures.0 ∙ ap (λ (l : List ℕ). runs.NAME_TIME.now ++ ((moment_text c.in_ok-departs.departs) ++ l)) (c.in_ok-alight.ensures.0 ∙ ap (λ (l : List ℕ). runs.BOARD_ALIGHT.now ++ ((c.in_ok-alight.alight) ++ l)) (c.in_ok-alight_name.ensures.0 ∙ ap (λ (l : List ℕ). runs.STOP_NAME.now ++ ((escaped c.in_ok-alight_name.alight_name) ++ l)) (c.in_ok-arrives.ensures.0 ∙ ap (λ (l : List ℕ). runs.NAME_TIME.now ++ ((moment_text c.in_ok-arrives.arrives) ++ l)) (c.in_ok-day.ensures.0 ∙ ap (λ (l : List ℕ). runs.ALIGHT_SERVICE.now ++ ((day_text c.in_ok-day.day) ++ l)) (c.in_ok-journey.ensures.0 ∙ ap (λ (l : List ℕ). runs.DAY_JOURNEY.now ++ ((c.in_ok-journey.journey) ++ l)) (c.in_ok-line.ensures.0 ∙ ap (λ (l : List ℕ). runs.JOURNEY_LINE.now ++ ((c.in_ok-line.line) ++ l)) (c.in_ok-region.ensures.0 ∙ ap (λ (l : List ℕ). runs.LINE_REGION.now ++ ((c.in_ok-region.region) ++ l)) (c.in_ok-pass.ensures)))))))))))
          ∙ sym (spell_joined (put LEG (leg_said leg) []) c.pass.new.self);
      fits = (tt, ((tt, (((tt, (((tt, c.in_ok-board.ensures.1), ((tt, c.in_ok-board_name.ensures.1), (tt, c.in_ok-departs.ensures.1))), tt)), ((tt, (((tt, c.in_ok-alight.ensures.1), ((tt, c.in_ok-alight_name.ensures.1), (tt, c.in_ok-arrives.ensures.1))), tt)), (tt, (((tt, (c.in_ok-day.ensures.1, c.in_ok-day.ensures.2)), ((tt, c.in_ok-journey.ensures.1), ((tt, c.in_ok-line.ensures.1), (tt, c.in_ok-region.ensures.1)))), tt)))), tt)), tt));
    }
