use Rattle.std.proofs.Common.{refl, ◌∙◌, [], ◌∷◌}
use Rattle.ojp_http.specs.declared.refusal.Refusal.TheVariants as refusals
use Rattle.ojp_http.specs.declared.machine.Phase.TheVariants.{Trailing}
use Rattle.ojp_http.specs.Bodies.{ReadsTrailer, EndsHere}
use Rattle.ojp_http.proofs.Stepping.{open_at, few_lines, recounted, grown, ready_more, trailer_more, trailer_found, trailer_refused, begins_refused}
use Rattle.ojp_http.proofs.machine.Framing.step_trailer.Goals as goal

pub keep-requires : goal.keep-requires
keep-requires c = few_lines 65 _ _ (open_at c.args.self.now Trailing c.requires.phase c.requires.ready).1

pub trailer_end-requires-clause-grown : goal.trailer_end-requires-clause-grown
trailer_end-requires-clause-grown c =
    let o = open_at c.args.self.now Trailing c.requires.phase c.requires.ready in
    grown ReadsTrailer (λ t. t.0) 65 c.args.self.now.kept.items _ c.args.byte c.args.self.now.count (c.deref.ensures.value ∙ c.in-Ok.ensures.kept) o.0 o.1

pub trailer_end-requires-clause-counted : goal.trailer_end-requires-clause-counted
trailer_end-requires-clause-counted c =
    recounted c.args.self.now.kept.items _ c.args.byte c.args.self.now.count _ (c.deref.ensures.value ∙ c.in-Ok.ensures.kept) (open_at c.args.self.now Trailing c.requires.phase c.requires.ready).1.lines c.in-Ok.ensures.count

pub trailer_end-requires-clause-newest : goal.trailer_end-requires-clause-newest
trailer_end-requires-clause-newest c = (c.args.self.now.kept.items, c.deref.ensures.value ∙ c.in-Ok.ensures.kept)

pub returns-in-Ok-Some : goal.returns-in-Ok-Some
returns-in-Ok-Some c =
    let o = open_at c.args.self.now Trailing c.requires.phase c.requires.ready in
    let found = rw c.in-Ok-Some.field-0-is at c.in-Ok-Some.ensures in
    trailer_found c.args.self.now _ c.args.byte _ found.0 c.requires.phase refl c.in-Ok.ensures.room (c.deref.ensures.value ∙ c.in-Ok.ensures.kept) o.1 found.1

pub returns-in-Err : goal.returns-in-Err
returns-in-Err c =
    trailer_refused c.args.self.now c.args.byte _ c.in-Err.refusal c.requires.phase (c.deref.ensures.value ∙ c.in-Ok.ensures.kept)
    (begins_refused ReadsTrailer (λ t. t.0) 65 refusals.Chunk refusals.Chunk (λ t. EndsHere) _ c.in-Err.refusal c.in-Err.ensures)

pub returns-in-Ok-None : goal.returns-in-Ok-None
returns-in-Ok-None c =
    let o = open_at c.args.self.now Trailing c.requires.phase c.requires.ready in
    trailer_more c.args.self.now _ (c.args.byte ∷ []) c.requires.phase (c.in-Ok.ensures.phase ∙ c.requires.phase) c.in-Ok.ensures.room c.in-Ok.ensures.kept
    (ready_more ReadsTrailer (λ t. t.0) 65 c.args.self.now.kept.items _ _ c.args.byte c.args.self.now.count _ c.deref.ensures.value c.in-Ok.ensures.kept o.0 o.1 c.in-Ok.ensures.count (rw c.in-Ok-None.field-0-is at c.in-Ok-None.ensures))
