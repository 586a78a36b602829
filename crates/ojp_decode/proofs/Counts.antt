-- How many bytes a reader was fed: what its machine passed, and what it keeps.
use Rattle.std.proofs.Common.{◌≡◌, ℕ, ◌+◌, ◌<◌, ◌^◌, List, [], length, sym, ◌∙◌, ap, subst, arith, length-append}
use Rattle.ojp_grammar.specs.declared.machine.Machine.{Machine}
use Rattle.ojp_grammar.specs.Items.{spell}
use Rattle.ojp_grammar.specs.Steps.{stack_of}
use Rattle.ojp_grammar.proofs.Runs.{reading_short}
use Rattle.ojp_decode.specs.declared.fed.Stage.{Stage}
use Rattle.ojp_decode.specs.declared.fed.Stage.TheVariants.{Reading, Whole, Over}
use Rattle.ojp_decode.specs.declared.fed.ReadRefused.TheVariants.{At as Refusal, NoMemory}
use Rattle.ojp_decode.specs.Progress.{Progress, reading, whole, over, spent}
use Rattle.ojp_decode.specs.Standing.{HasReadAt}
use Rattle.ojp_decode.proofs.Following.{cut_short}
use Rattle.ojp_decode.proofs.Standings.{ended_at}

-- so many bytes were fed, and they are few
abbrev pub Counts : Progress → ℕ → Type 0
Counts (reading want bytes) count = (length bytes ≡ count) × (count < 2 ^ 42)
Counts (whole want bytes) count = (length bytes ≡ count) × (count < 2 ^ 42)
Counts (over refused) count = Unit {0}
Counts spent count = Unit {0}

pub counted : (stage : Stage) (m : Machine) (kept : List ℕ) (progress : Progress) → HasReadAt stage m kept progress → Counts progress (m.at + length kept)
counted Reading m kept progress h =
    let w = h.2 in
    let size : length h.0 ≡ m.at + length kept =
    ap length w.stands.reached.parts ∙ (length-append (spell w.stands.front) kept ∙ ap (λ n. n + length kept) (sym w.stands.place)) in
    let few = cut_short m.want m.at (stack_of m.stack.items) m.draft h.0 kept w.stands w.stops in
    let short = reading_short m.want m.at (stack_of m.stack.items) m.draft h.0 kept w.stands in
    subst (λ (p : Progress). Counts p (m.at + length kept)) (sym h.1) (size, omega (arith, few, short))
counted Whole m kept progress h =
    let none : length kept ≡ 0 = ap (λ (l : List ℕ). length l) h.2.none_kept in
    let short = reading_short m.want m.at (stack_of m.stack.items) m.draft h.0 [] h.2.stands in
    subst (λ (p : Progress). Counts p (m.at + length kept)) (sym h.1) (omega (arith, none, ended_at m h.0 kept h.2), omega (arith, none, short))
counted (Over (Refusal r)) m kept progress h = subst (λ (p : Progress). Counts p (m.at + length kept)) (sym h) tt
counted (Over NoMemory) m kept progress h = subst (λ (p : Progress). Counts p (m.at + length kept)) (sym h) tt
