use Rattle.std.proofs.Common.{refl, ◌≡◌, ◌∙◌, ◌++◌, ◌∷◌, [], List, sym, subst, ap}
use Rattle.ojp_records.specs.declared.queries.Entry.{Entry}
use Rattle.ojp_records.specs.declared.queries.Query.TheVariants.{Check}
use Rattle.ojp_records.specs.declared.places.PlaceState.{PlaceState}
use Rattle.ojp_records.specs.Places.{reply_state, state_after}
use Rattle.ojp_labels.specs.Boards.{IsKept, entry_of}
use Rattle.ojp_labels.proofs.BoardFacts.{checked}
use Rattle.ojp_labels.proofs.board.Board.tell_check.Goals as goal

pub returns-clause-of : goal.returns-clause-of
returns-clause-of c =
    let book = c.args.book.now in
    let old = c.args.self.now in
    let entry : Entry = entry_of (Check c.args.region c.args.stop) c.args.reply in
    let told : c.push.new.self.items ≡ old.told.items ++ entry ∷ [] = c.in-Ok.ensures.items ∙ ap (λ (xs : List Entry). xs ++ entry ∷ []) c.reserve.ensures.items in
    let origin : c.state_after-self.result ≡ state_after old.ask.origin c.args.stop (reply_state c.args.reply) old.origin = c.state_after-self.ensures ∙ ap (λ (s : PlaceState). state_after old.ask.origin c.args.stop s old.origin) c.reply_state-state.ensures in
    let target : c.state_after-self-2.result ≡ state_after old.ask.target c.args.stop (reply_state c.args.reply) old.target = c.state_after-self-2.ensures ∙ ap (λ (s : PlaceState). state_after old.ask.target c.args.stop s old.target) c.reply_state-state.ensures in
    subst (λ (ts : List Entry). IsKept book old.ask ts old.best c.state_after-self.result c.state_after-self-2.result old.own old.labels.items) (sym told)
    (subst (λ (s : PlaceState). IsKept book old.ask (old.told.items ++ entry ∷ []) old.best s c.state_after-self-2.result old.own old.labels.items) (sym origin)
    (subst (λ (s : PlaceState). IsKept book old.ask (old.told.items ++ entry ∷ []) old.best (state_after old.ask.origin c.args.stop (reply_state c.args.reply) old.origin) s old.own old.labels.items) (sym target)
    (checked book old.ask old.told.items old.best old.origin old.target old.own old.labels.items entry c.args.region c.args.stop c.requires.of c.requires.fresh c.requires.fits refl)))
