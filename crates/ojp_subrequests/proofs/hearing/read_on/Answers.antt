use Rattle.std.proofs.Common.{◌++◌, subst, sym}
use Rattle.ojp_http.specs.Replying.{ReplyView}
use Rattle.ojp_decode.specs.Standing.{ReaderView}
use Rattle.ojp_subrequests.specs.Pieces.{IsFramed, IsReadTo, MayGoOn}
use Rattle.ojp_subrequests.proofs.HearingFacts.{no_open_body, no_reply, no_whole_body, none_spelled}
use Rattle.ojp_subrequests.proofs.hearing.read_on.Goals as goal

pub finish-requires : goal.finish-requires
finish-requires c =
    let before = c.requires.0 in
    let on : IsReadTo c.read_piece-in-Whole.new.reader (before ++ c.args.body.now) × MayGoOn (before ++ c.args.body.now) = c.in-Open-read_piece-2.ensures before c.requires.1 in
    (before ++ c.args.body.now, subst (λ (r : ReaderView). IsReadTo r (before ++ c.args.body.now)) (sym c.replace.ensures.value) on.0)

pub returns-in-Refused : goal.returns-in-Refused
returns-in-Refused c reply bytes before framed read more delivery r =
    no_reply bytes (subst (IsFramed reply bytes (before ++ c.args.body.now)) c.in-Refused.is framed) more delivery r

pub returns-in-Open-read_piece : goal.returns-in-Open-read_piece
returns-in-Open-read_piece c reply bytes before framed read =
    let on = c.in-Open-read_piece.ensures before read in
    (subst (IsFramed reply bytes (before ++ c.args.body.now)) c.in-Open.is framed, on.0, on.1)

pub returns-in-Refused-read_piece : goal.returns-in-Refused-read_piece
returns-in-Refused-read_piece c reply bytes before framed read more delivery r =
    no_open_body reply bytes (before ++ c.args.body.now) (subst (IsFramed reply bytes (before ++ c.args.body.now)) c.in-Open.is framed) (c.in-Refused-read_piece.ensures before read) more delivery r

pub returns-in-Whole-finish : goal.returns-in-Whole-finish
returns-in-Whole-finish c reply bytes before framed read =
    let on : IsReadTo c.read_piece-in-Whole.new.reader (before ++ c.args.body.now) × MayGoOn (before ++ c.args.body.now) = c.in-Open-read_piece-2.ensures before read in
    let to = subst (λ (r : ReaderView). IsReadTo r (before ++ c.args.body.now)) (sym c.replace.ensures.value) on.0 in
    (before ++ c.args.body.now, subst (IsFramed reply bytes (before ++ c.args.body.now)) c.in-Whole.is framed, c.in-Whole-finish.ensures (before ++ c.args.body.now) to)

pub returns-in-Refused-finish : goal.returns-in-Refused-finish
returns-in-Refused-finish c reply bytes before framed read more delivery r =
    let on : IsReadTo c.read_piece-in-Whole.new.reader (before ++ c.args.body.now) × MayGoOn (before ++ c.args.body.now) = c.in-Open-read_piece-2.ensures before read in
    let to = subst (λ (r : ReaderView). IsReadTo r (before ++ c.args.body.now)) (sym c.replace.ensures.value) on.0 in
    no_whole_body c.one_body.ensures c.no_reply_begins_another.ensures bytes (before ++ c.args.body.now) (subst (IsFramed reply bytes (before ++ c.args.body.now)) c.in-Whole.is framed)
    (c.in-Refused-finish.ensures (before ++ c.args.body.now) to)
    more
    delivery
    r

pub returns-in-Refused-read_piece-2 : goal.returns-in-Refused-read_piece-2
returns-in-Refused-read_piece-2 c reply bytes before framed read more delivery r =
    no_whole_body c.one_body.ensures c.no_reply_begins_another.ensures bytes (before ++ c.args.body.now) (subst (IsFramed reply bytes (before ++ c.args.body.now)) c.in-Whole.is framed)
    (none_spelled (before ++ c.args.body.now) (c.in-Refused-read_piece-2.ensures before read))
    more
    delivery
    r
