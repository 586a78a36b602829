-- What the polls of a turn find.
use Rattle.std.specs.Prelude.{◌≡◌, ◌≢◌, ◌⊎◌, ◌<◌, ◌≤◌, ℕ, Bool, true, false, List, [], ◌∷◌, ◌++◌, map, length, Option, Some, None, IsSome, IfSome, Result, Ok, Err}
use Rattle.std.specs.List.{filter_map}
use Rattle.std.specs.Option.{option_to_list}
use Rattle.ojp_outside.specs.Causes.{Rose}
use Rattle.ojp_values.specs.Lists.{Among, Each}
use Rattle.ojp_values.specs.declared.asks.TripAsk.{TripAsk}
use Rattle.ojp_values.specs.declared.replies.Delivery.{Delivery}
use Rattle.ojp_values.specs.declared.NoMemory.{NoMemory}
use Rattle.ojp_timetable.specs.Tables.{Timetable}
use Rattle.ojp_exchange.specs.Book.{Book}
use Rattle.ojp_links.specs.Replies.{Carries}
use Rattle.ojp_links.specs.Seen.{View, Live, live_or_none, ask_at, TellsTables, codes_of}
use Rattle.ojp_links.specs.Calls.{Keeps, NotRaised, OthersStay}
use Rattle.ojp_records.specs.declared.queries.Query.{Query}
use Rattle.ojp_records.specs.declared.queries.Entry.{Entry}
use Rattle.ojp_records.specs.Told.{ReplyFits}
use Rattle.ojp_records.specs.Headline.{EntryGiven}
use Rattle.ojp_subrequests.specs.declared.subreply.SubEnd.{SubEnd}
use Rattle.ojp_subrequests.specs.declared.subreply.SubEnd.TheVariants as ends
use Rattle.ojp_turns.specs.declared.kept.Kept.{Kept}
use Rattle.ojp_turns.specs.declared.polling.Step.{Step}
use Rattle.ojp_turns.specs.declared.polling.Step.TheVariants as steps
use Rattle.ojp_turns.specs.Held.{key_of, NotAmong, IsForIn}
use Rattle.ojp_turns.specs.Faults.{HasCause, RejectsNone}

-- ---- an ask that was looked at

-- the ask is live as before, and was looked at
pub record IsSeenAgain (old new : Option Live) : Type 0 where
  pub live : IsSome new
  pub looks : Rose (live_or_none old).looks (live_or_none new).looks
  pub region : (live_or_none new).region ≡ (live_or_none old).region
  pub request : (live_or_none new).request ≡ (live_or_none old).request

-- nothing came; where patience is told, there was some
pub record GotNothing (patience : Option ℕ) (old new : Option Live) : Type 0 where
  pub left : IfSome patience (λ (p : ℕ). (0 < p) × ((live_or_none new).left ≤ (live_or_none old).left))
  pub taken : (live_or_none new).taken ≡ (live_or_none old).taken
  pub ended : (live_or_none new).ended ≡ (live_or_none old).ended

-- at least one byte came; where patience is told, less is left of the reply
pub record GotBytes (patience : Option ℕ) (old new : Option Live) : Type 0 where
  pub left : IfSome patience (λ (p : ℕ). (live_or_none new).left < (live_or_none old).left)
  pub gained : List ℕ
  pub some : gained ≢ []
  pub taken : (live_or_none new).taken ≡ (live_or_none old).taken ++ gained

-- ---- one poll

-- what became of a subrequest in a poll: it goes on, or it ended and was told, or it was lost for want of memory
pub data Fate : Type 0 where
  going : Kept → Fate
  over : Entry → Fate
  lost : Fate

-- a subrequest, and what became of it
pub record Polled : Type 0 where
  pub was : Kept
  pub fate : Fate

-- the subrequest as it goes on, with the same ask of the same query
pub record GoesOnAs (old new : View) (was now : Kept) : Type 0 where
  pub key : key_of now ≡ key_of was
  pub query : now.query ≡ was.query
  pub number : now.number ≡ was.number
  pub again : IsSeenAgain (old.live (key_of was)) (new.live (key_of was))
  pub came : GotNothing old.patience (old.live (key_of was)) (new.live (key_of was)) ⊎ GotBytes old.patience (old.live (key_of was)) (new.live (key_of was))

-- the subrequest ended with the entry: its ask is live no more; a reply is in the told one, and is that of its region where
-- timetables are told; a failure has its cause
pub record EndsWith (book : Book) (ask : TripAsk) (old new : View) (was : Kept) (entry : Entry) : Type 0 where
  pub query : entry.query ≡ was.query
  pub gone : new.live (key_of was) ≡ None
  pub carried : IfSome entry.reply (λ delivery. IfSome (ask_at old (key_of was)).reply (λ whole. Carries whole delivery))
  pub given : (tables : List Timetable) → TellsTables old tables → EntryGiven tables book ask entry
  pub cause : HasCause old new entry

-- what became of the subrequest, over links and a book
abbrev pub HasFate : Book → TripAsk → View → View → Kept → Fate → Type 0
HasFate book ask old new was (going now) = GoesOnAs old new was now
HasFate book ask old new was (over entry) = EndsWith book ask old new was entry
HasFate book ask old new was lost = new.live (key_of was) ≡ None

abbrev pub IsPolled : Book → TripAsk → View → View → Polled → Type 0
IsPolled book ask old new p = HasFate book ask old new p.was p.fate

-- ---- what the answers say

-- the entry that tells an end
abbrev pub end_entry : Query → Option Delivery → Entry
end_entry query reply = record { query = query; reply = reply }

-- the record with the end of the query's subrequest, unless it ended for want of memory
abbrev pub TellsEnd : SubEnd → Query → List Entry → List Entry → Type 0
TellsEnd (ends.Heard delivery) query before after = after ≡ before ++ end_entry query (Some delivery) ∷ []
TellsEnd ends.Failed query before after = after ≡ before ++ end_entry query None ∷ []
TellsEnd ends.NoMemory query before after = ⊥

-- a reply that was heard fits the query's document
abbrev pub EndFits : Book → TripAsk → Query → SubEnd → Type 0
EndFits book ask query (ends.Heard delivery) = ReplyFits book ask query (Some delivery)
EndFits book ask query ends.Failed = Unit {0}
EndFits book ask query ends.NoMemory = Unit {0}

-- what one poll leaves of the subrequest and of the record
abbrev pub Steps : Step → Book → TripAsk → View → View → Kept → Kept → List Entry → List Entry → Type 0
Steps steps.Waits book ask old new was now before after =
    (after ≡ before) × GoesOnAs old new was now × IsForIn book ask (codes_of new.fixed) new.live now × GotNothing old.patience (old.live (key_of was)) (new.live (key_of was))
Steps steps.Moved book ask old new was now before after =
    (after ≡ before) × GoesOnAs old new was now × IsForIn book ask (codes_of new.fixed) new.live now × GotBytes old.patience (old.live (key_of was)) (new.live (key_of was))
Steps steps.Over book ask old new was now before after = (entry : Entry) × (after ≡ before ++ entry ∷ []) × EndsWith book ask old new was entry

-- ---- a round of polls

-- the subrequest before the poll
abbrev pub was_of : Polled → Kept
was_of p = p.was

-- the subrequest, if it goes on
abbrev pub kept_by : Fate → Option Kept
kept_by (going now) = Some now
kept_by (over entry) = None
kept_by lost = None

abbrev pub going_of : Polled → Option Kept
going_of p = kept_by p.fate

-- the entry, if it was told
abbrev pub told_by : Fate → Option Entry
told_by (going now) = None
told_by (over entry) = Some entry
told_by lost = None

abbrev pub entry_of : Polled → Option Entry
entry_of p = told_by p.fate

-- nothing came of the poll
abbrev pub IsVain : View → View → Kept → Fate → Type 0
IsVain old new was (going now) = GotNothing old.patience (old.live (key_of was)) (new.live (key_of was))
IsVain old new was (over entry) = ⊥
IsVain old new was lost = ⊥

abbrev pub InVain : View → View → Polled → Type 0
InVain old new p = IsVain old new p.was p.fate

-- bytes came, or the subrequest ended
abbrev pub IsNews : View → View → Kept → Fate → Type 0
IsNews old new was (going now) = GotBytes old.patience (old.live (key_of was)) (new.live (key_of was))
IsNews old new was (over entry) = Unit {0}
IsNews old new was lost = ⊥

-- whether something came, unless memory ran out
abbrev pub IsFound : Result Bool NoMemory → View → View → Kept → Fate → Type 0
IsFound (Ok true) old new was fate = IsNews old new was fate
IsFound (Ok false) old new was fate = IsVain old new was fate
IsFound (Err none) old new was fate = Unit {0}

abbrev pub GotSome : View → View → Polled → Type 0
GotSome old new p = IsNews old new p.was p.fate

-- what the first poll of the subrequests leaves: it goes on behind the others, or it ended
pub record FirstPolled (book : Book) (ask : TripAsk) (old new : View) (start subs : List Kept) (before after : List Entry) (found : Result Bool NoMemory) : Type 0 where
  pub kept : Kept
  pub rest : List Kept
  pub is_first : start ≡ kept ∷ rest
  pub fate : Fate
  pub turned : subs ≡ rest ++ option_to_list (kept_by fate)
  pub tells : after ≡ before ++ option_to_list (told_by fate)
  pub has : HasFate book ask old new kept fate
  pub others : OthersStay old new (key_of kept)
  pub keeps : Keeps old new
  pub patience : NotRaised old.patience new.patience
  pub rejects_none : RejectsNone book ask before old new
  pub news : IsFound found old new kept fate

-- a round of polls: the first of the subrequests were polled in their order, and those that go on stand behind the others; the
-- record grew by the ends
pub record Round (book : Book) (ask : TripAsk) (old new : View) (start subs : List Kept) (before after : List Entry) : Type 0 where
  pub polled : List Polled
  pub ahead : List Kept
  pub split : start ≡ map was_of polled ++ ahead
  pub turned : subs ≡ ahead ++ filter_map going_of polled
  pub tells : after ≡ before ++ filter_map entry_of polled
  pub each : Each (IsPolled book ask old new) polled
  pub same : (kept : Kept) → Among kept ahead → new.live (key_of kept) ≡ old.live (key_of kept)
  pub elsewhere : (key : ℕ) → NotAmong key (map key_of start) → new.live key ≡ old.live key
  pub keeps : Keeps old new
  pub patience : NotRaised old.patience new.patience
  pub rejects_none : RejectsNone book ask before old new

-- whether something came in the round
abbrev pub Moves : Bool → View → View → List Polled → Type 0
Moves true old new polled = (p : Polled) × Among p polled × GotSome old new p
Moves false old new polled = Each (InVain old new) polled

-- the subrequest was not lost
abbrev pub IsKept : Fate → Type 0
IsKept (going now) = Unit {0}
IsKept (over entry) = Unit {0}
IsKept lost = ⊥

-- so many polls of a round, each with its memory, and whether something came
pub record PollsTo (moved : Bool) (n : ℕ) (book : Book) (ask : TripAsk) (old new : View) (start subs : List Kept) (before after : List Entry) : Type 0 where
  pub round : Round book ask old new start subs before after
  pub counted : length round.polled ≡ n
  pub none_lost : Each (λ (p : Polled). IsKept p.fate) round.polled
  pub moves : Moves moved old new round.polled

-- a whole round
abbrev pub WholeRound : Bool → Book → TripAsk → View → View → List Kept → List Kept → List Entry → List Entry → Type 0
WholeRound moved book ask old new start subs before after = PollsTo moved (length start) book ask old new start subs before after
