-- What one turn does to the links, to the subrequests that are live and to the record.
use Rattle.std.specs.Prelude.{◌≡◌, ◌≢◌, ◌⊎◌, ◌+◌, ◌<◌, ◌≤◌, ℕ, Bool, true, false, List, [], ◌∷◌, ◌++◌, map, None, IsSome, IfSome, unwrap_or}
use Rattle.ojp_outside.specs.Causes.{Rose}
use Rattle.ojp_values.specs.Lists.{Among, Each}
use Rattle.ojp_values.specs.declared.asks.TripAsk.{TripAsk}
use Rattle.ojp_exchange.specs.Book.{Book}
use Rattle.ojp_links.specs.Replies.{Carries}
use Rattle.ojp_links.specs.Seen.{View, ask_at}
use Rattle.ojp_links.specs.Calls.{Keeps}
use Rattle.ojp_records.specs.declared.queries.Entry.{Entry}
use Rattle.ojp_turns.specs.declared.kept.Kept.{Kept}
use Rattle.ojp_turns.specs.Held.{key_of, query_of, NotAmong, AreWanted}
use Rattle.ojp_turns.specs.Faults.{HasCause, RejectsNone, TellsGiven}
use Rattle.ojp_turns.specs.Polling.{IsSeenAgain, GotNothing, GotBytes}

-- ---- the record

-- the entry is of a subrequest that was live, and where replies are told, its reply is in the told one
pub record IsOfLive (old : View) (subs : List Kept) (entry : Entry) : Type 0 where
  pub sub : Kept
  pub was_live : Among sub subs
  pub same : sub.query ≡ entry.query
  pub told : IfSome entry.reply (λ delivery. IfSome (ask_at old (key_of sub)).reply (λ whole. Carries whole delivery))

-- what a turn tells the record: what it heard of the subrequests that were live, and then the asks that were refused
pub record Tells (old new : View) (subs : List Kept) (before after : List Entry) : Type 0 where
  pub heard : List Entry
  pub refused : List Entry
  pub grows : after ≡ (before ++ heard) ++ refused
  pub of_live : Each (IsOfLive old subs) heard
  pub failures : Each (λ (entry : Entry). entry.reply ≡ None) refused
  pub causes : Each (HasCause old new) (heard ++ refused)

-- what holds of a turn whatever it answers
pub record Passes (book : Book) (ask : TripAsk) (old new : View) (subs : List Kept) (before after : List Entry) : Type 0 where
  pub keeps : Keeps old new
  pub tells : Tells old new subs before after
  pub given : TellsGiven book ask old before after
  pub rejects_none : RejectsNone book ask before old new

-- ---- what moved

-- each subrequest that was live and still is was looked at
abbrev pub LooksAtAll : View → View → List Kept → List Kept → Type 0
LooksAtAll old new start subs =
    (kept : Kept) → Among kept start → Among kept.query (map query_of subs) → Rose (ask_at old (key_of kept)).looks (ask_at new (key_of kept)).looks

-- each ask was looked at in vain, and none was made or ended
pub record Waited (old new : View) (start subs : List Kept) (asks now : ℕ) (before after : List Entry) : Type 0 where
  pub same_keys : map key_of subs ≡ map key_of start
  pub same_queries : map query_of subs ≡ map query_of start
  pub same_told : after ≡ before
  pub same_asks : now ≡ asks
  pub again : (kept : Kept) → Among kept start → IsSeenAgain (old.live (key_of kept)) (new.live (key_of kept))
  pub nothing : (kept : Kept) → Among kept start → GotNothing old.patience (old.live (key_of kept)) (new.live (key_of kept))
  pub none : (key : ℕ) → old.live key ≡ None → new.live key ≡ None

-- an ask was made, or one that was live ended or was given a byte
abbrev pub HasMoved : View → View → List Kept → List Kept → ℕ → ℕ → Type 0
HasMoved old new start subs asks now =
    (asks < now)
    ⊎ ((kept : Kept) × Among kept start
    × (NotAmong kept.query (map query_of subs) ⊎ GotBytes old.patience (old.live (key_of kept)) (new.live (key_of kept))))

-- whether something moved
abbrev pub MovesBy : Bool → View → View → List Kept → List Kept → ℕ → ℕ → List Entry → List Entry → Type 0
MovesBy true old new start subs asks now before after = HasMoved old new start subs asks now
MovesBy false old new start subs asks now before after = Waited old new start subs asks now before after

-- what is left of the replies of these subrequests, and one for each
unfoldable pub total_left : View → List Kept → ℕ
total_left v [] = 0
total_left v (kept ∷ subs) = ((ask_at v (key_of kept)).left + 1) + total_left v subs

-- the patience that is told, if it is
abbrev pub patience_of : View → ℕ
patience_of v = unwrap_or v.patience 0

-- patience and what is left do not rise; where something moved, what is left falls, and else there was patience
pub record Tires (moved : Bool) (old new : View) (start subs : List Kept) : Type 0 where
  pub told : IsSome new.patience
  pub patience : patience_of new ≤ patience_of old
  pub left : total_left new subs ≤ total_left old start
  pub moves : moved ≡ true → total_left new subs < total_left old start
  pub waits : moved ≡ false → 0 < patience_of old

-- a turn that had its memory: what is live is just what is wanted
pub record Settles (moved : Bool) (book : Book) (ask : TripAsk) (old new : View) (start subs : List Kept) (asks now : ℕ) (before after : List Entry) : Type 0 where
  pub just_wanted : AreWanted book ask after subs
  pub looks : LooksAtAll old new start subs
  pub moves : MovesBy moved old new start subs asks now before after
  pub tires : IsSome old.patience → now ≡ asks → start ≢ [] → Tires moved old new start subs
