-- What a text declares is what its lines add, one after another.
use Rattle.std.proofs.Common.{◌≡◌, ◌⊎◌, inl, inr, Bool, true, false, ◌||◌, List, [], ◌∷◌, refl, subst, fold}
use Rattle.std.specs.Prelude.{Option, Some, None, Ok, Err}
use Rattle.ojp_values.specs.Lists.{Among}
use Rattle.ojp_values.specs.Texts.{Text}
use Rattle.ojp_timetable.specs.Contents.{Contents}
use Rattle.ojp_timetable.specs.Lines.{Above, after_line, grown, no_lines}
use Rattle.ojp_timetable.specs.Fields.{body}
use Rattle.ojp_timetable.specs.Said.{Said, said}
use Rattle.ojp_timetable.specs.Checks.{checked, checks, first_failing, is_doubled, is_falling, is_foreign, is_full, is_long, lacks_service, lacks_stop, read_line, verdict}
use Rattle.ojp_timetable.specs.SaidLines.{said_first, say, say_below}
use Rattle.ojp_timetable.specs.TableText.{above_of, with_line, with_said}
use Rattle.ojp_timetable.specs.declared.file.lines.Line.{Line}
use Rattle.ojp_timetable.specs.declared.file.lines.TableReason.{TableReason}
use Rattle.ojp_timetable.specs.declared.file.lines.TableReason.TheVariants.{ForeignStop, DoubledName, UnknownStop, UnknownService, FallingTimes, Limit}

-- the contents are those above with what each line adds
contents_from : (above : Above) (texts : List Text) → (fold with_line above texts).contents ≡ fold grown above.contents (say_below above texts)
contents_from above [] = refl
contents_from above (text ∷ texts) = step (λ next. contents_from next texts) (read_line above text)
  where
    step : ((next : Above) → (fold with_line next texts).contents ≡ fold grown next.contents (say_below next texts)) → (s : Said)
        → (fold with_line (with_said above text s) texts).contents ≡ fold grown above.contents (said_first s (say_below (with_said above text s) texts))
    step later (Err reason) = later above
    step later (Ok line) = later (after_line above text line)

pub contents_said : (texts : List Text) → (above_of texts).contents ≡ fold grown no_lines.contents (say texts)
unfolding above_of say
contents_said texts = contents_from no_lines texts

-- ---- a line that says something lacks no stop

none_lacks : (a b c d e f : Bool) (r s t u v w : TableReason) → first_failing ((a, r) ∷ (b, s) ∷ (c, t) ∷ (d, u) ∷ (e, v) ∷ (f, w) ∷ []) ≡ None → c ≡ false
none_lacks true b c d e f r s t u v w h = absurd (cc h)
none_lacks false true c d e f r s t u v w h = absurd (cc h)
none_lacks false false true d e f r s t u v w h = absurd (cc h)
none_lacks false false false d e f r s t u v w h = refl

verdict_passes : (line given : Line) (failing : Option TableReason) → verdict line failing ≡ Ok given → (line ≡ given) × (failing ≡ None)
verdict_passes line given None h = (cc, refl)
verdict_passes line given (Some reason) h = absurd (cc h)

has_its_stop : (above : Above) (text : Text) (line : Line) → read_line above text ≡ Ok line → lacks_stop above.contents line ≡ false
unfolding read_line
has_its_stop above text line h = by_said (said above.lines above.contents.region above.left (body text)) h
  where
    by_said : (s : Said) → checked above text s ≡ Ok line → lacks_stop above.contents line ≡ false
    by_said (Err reason) e = absurd (cc e)
    by_said (Ok given) e =
        let passes = verdict_passes given line (first_failing (checks above.contents above.left (is_long above text) given)) e in
        subst (λ (l : Line). lacks_stop above.contents l ≡ false) passes.0
        (none_lacks (is_foreign above.contents given) (is_doubled above.contents given) (lacks_stop above.contents given) (lacks_service above.contents given)
        (is_falling above.left given) (is_full above.contents given || is_long above text) ForeignStop DoubledName UnknownStop UnknownService FallingTimes Limit passes.1)

-- each line names a stop that stands where it is read, if it names one
abbrev pub HaveStops : Contents → List Line → Type 0
HaveStops contents [] = Unit {0}
HaveStops contents (line ∷ more) = (lacks_stop contents line ≡ false) × HaveStops (grown contents line) more

stops_from : (above : Above) (texts : List Text) → HaveStops above.contents (say_below above texts)
stops_from above [] = tt
stops_from above (text ∷ texts) = step (λ next. stops_from next texts) (read_line above text) refl
  where
    step : ((next : Above) → HaveStops next.contents (say_below next texts)) → (s : Said) → read_line above text ≡ s
        → HaveStops above.contents (said_first s (say_below (with_said above text s) texts))
    step later (Err reason) is = later above
    step later (Ok line) is = (has_its_stop above text line is, later (after_line above text line))

pub stops_said : (texts : List Text) → HaveStops no_lines.contents (say texts)
unfolding say
stops_said texts = stops_from no_lines texts

-- ---- what is declared, by what one line adds

abbrev pub Some_of : List Line → (Line → Type 0) → Type 0
Some_of said D = (line : Line) × Among line said × D line

pub told : (P : Contents → Type 0) (D : Line → Type 0) → ((contents : Contents) (line : Line) → P (grown contents line) → P contents ⊎ D line)
    → (said : List Line) (contents : Contents) → P (fold grown contents said) → P contents ⊎ Some_of said D
told P D one [] contents h = inl h
told P D one (line ∷ more) contents h = elim (told P D one more (grown contents line) h) [
  | inl old ↦ elim (one contents line old) [ inl before ↦ inl before | inr d ↦ inr (line, inl refl, d) ]
  | inr later ↦ inr (later.0, inr later.1, later.2)
]

pub kept : (P : Contents → Type 0) → ((contents : Contents) (line : Line) → P contents → P (grown contents line)) → (said : List Line) (contents : Contents) → P contents → P (fold grown contents said)
kept P one [] contents h = h
kept P one (line ∷ more) contents h = kept P one more (grown contents line) (one contents line h)

-- what a line declares where all keep I
pub declared : (P I : Contents → Type 0) (D : Line → Type 0) → ((contents : Contents) (line : Line) → P contents → P (grown contents line))
    → ((contents : Contents) (line : Line) → I contents → I (grown contents line))
    → ((contents : Contents) (line : Line) → I contents → lacks_stop contents line ≡ false → D line → P (grown contents line))
    → (said : List Line) (contents : Contents) → I contents → HaveStops contents said → Some_of said D → P (fold grown contents said)
declared P I D keep hold one [] contents i stops h = absurd h.1
declared P I D keep hold one (line ∷ more) contents i stops (given, inl e, d) =
    kept P keep more (grown contents line) (one contents line i stops.0 (subst D e d))
declared P I D keep hold one (line ∷ more) contents i stops (given, inr later, d) =
    declared P I D keep hold one more (grown contents line) (hold contents line i) stops.1 (given, later, d)
