use Rattle.std.proofs.Common.{◌≡◌, ◌-◌, ◌++◌, ℕ, List, length, take, drop, refl, subst, sym}
use Rattle.ojp_subrequests.specs.Hearing.{HasHeard, HearingView, HearsBy}
use Rattle.ojp_subrequests.specs.Pieces.{IsFramed}
use Rattle.ojp_subrequests.proofs.HearingFacts.{all_behind, hears, piece_is}
use Rattle.ojp_subrequests.proofs.hearing.Hearing.hear.Goals as goal

pub returns : goal.returns
returns c =
    let before = c.requires.0 in
    let bytes = c.args.bytes.now in
    let reply = c.frame-framed.new.reply in
    let framed = c.frame-framed.result in
    let heard : HasHeard (record { taken = c.self.inside.taken; reply = c.self.inside.reply; reader = c.self.inside.reader }) before =
    subst (λ (v : HearingView). HasHeard v before) (sym c.self.view_is) c.requires.2 in
    let piece : before ++ drop c.self.inside.taken bytes ≡ bytes = piece_is before bytes c.self.inside.taken c.requires.1 heard.count in
    let come : IsFramed reply (before ++ take (length bytes - c.self.inside.taken) (drop c.self.inside.taken bytes)) (heard.got ++ c.frame-framed.new.body) framed =
    c.frame-framed.ensures before heard.got heard.stage heard.fed in
    let first : IsFramed reply (before ++ drop c.self.inside.taken bytes) (heard.got ++ c.frame-framed.new.body) framed =
    subst (λ (p : List ℕ). IsFramed reply (before ++ p) (heard.got ++ c.frame-framed.new.body) framed) (all_behind c.self.inside.taken bytes) come in
    let second : IsFramed reply bytes (heard.got ++ c.frame-framed.new.body) framed = subst (λ (b : List ℕ). IsFramed reply b (heard.got ++ c.frame-framed.new.body) framed) piece first in
    let third : IsFramed reply bytes (heard.got ++ c.as_slice.result.now) framed = subst (λ (body : List ℕ). IsFramed reply bytes (heard.got ++ body) framed) (sym c.as_slice.ensures) second in
    let by : HearsBy reply c.read_on-heard.new.reader bytes (heard.got ++ c.as_slice.result.now) c.read_on-heard.result = c.read_on-heard.ensures reply bytes heard.got third heard.read in
    hears c.an_open_reply.ensures.none (record { taken = _; reply = reply; reader = c.read_on-heard.new.reader }) bytes (heard.got ++ c.as_slice.result.now) c.read_on-heard.result refl by
