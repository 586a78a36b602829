use Rattle.std.proofs.Common.{refl, ◌≡◌, ◌∙◌, ◌++◌, ◌∷◌, [], ℕ, Bool, List, not, subst, ap}
use Rattle.ojp_records.specs.declared.queries.Entry.{Entry}
use Rattle.ojp_records.specs.declared.queries.Query.TheVariants.{Reach}
use Rattle.ojp_records.specs.Records.{has_reply}
use Rattle.ojp_labels.specs.Boards.{own_told, entry_of}
use Rattle.ojp_labels.specs.Hearing.{IsMarked}
use Rattle.ojp_labels.proofs.BoardFacts.{reached, answers_each, failed_is_none, kept_same}
use Rattle.ojp_labels.proofs.board.Board.tell_reach.Goals as goal

pub take_reply-self-requires-clause-each : goal.take_reply-self-requires-clause-each
take_reply-self-requires-clause-each c = answers_each c.args.book.now c.args.self.now.ask (entry_of (Reach c.args.region c.args.stop c.args.start) c.args.reply) c.args.stop c.args.region c.args.start c.requires.fits refl

pub returns-clause-of : goal.returns-clause-of
returns-clause-of c =
    let book = c.args.book.now in
    let old = c.args.self.now in
    let region = c.args.region in
    let stop = c.args.stop in
    let start = c.args.start in
    let reply = c.args.reply in
    let entry : Entry = entry_of (Reach region stop start) reply in
    let failed : c.is_none-failed.result ≡ not (has_reply reply) = failed_is_none reply c.is_none-failed.result c.is_none-failed.ensures in
    let marked : IsMarked book region stop start (not (has_reply reply)) old.labels.items c.mark_pair.new.labels.items =
    subst (λ (n : ℕ). IsMarked book region stop n (not (has_reply reply)) old.labels.items c.mark_pair.new.labels.items) c.seconds-2.ensures.value
    (subst (λ (b : Bool). IsMarked book region stop c.seconds-2.result b old.labels.items c.mark_pair.new.labels.items) failed c.mark_pair.ensures.marked) in
    let own : c.own_told-self.result ≡ own_told old.ask region stop start (not (has_reply reply)) old.own =
    c.own_told-self.ensures ∙ (ap (λ (n : ℕ). own_told old.ask region stop n c.is_none-failed.result old.own) c.seconds.ensures.value ∙ ap (λ (b : Bool). own_told old.ask region stop start b old.own) failed) in
    let told : c.push.new.self.items ≡ old.told.items ++ entry ∷ [] = c.in-Ok.ensures.items ∙ ap (λ (xs : List Entry). xs ++ entry ∷ []) c.reserve.ensures.items in
    kept_same book old.ask (old.told.items ++ entry ∷ []) c.push.new.self.items _ c.take_reply-self.result old.origin old.target _ c.own_told-self.result c.take_reply-self.new.labels.items told c.take_reply-self.ensures.best own
    (reached book old.ask old.told.items old.best old.origin old.target old.own old.labels.items c.mark_pair.new.labels.items c.take_reply-self.new.labels.items entry stop region start
    c.requires.of c.requires.fresh c.requires.fits refl marked c.take_reply-self.ensures.follow)
