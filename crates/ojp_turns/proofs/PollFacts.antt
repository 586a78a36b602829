-- What one poll of a subrequest leaves.
use Rattle.std.proofs.Common.{◌≡◌, ◌≢◌, ℕ, zero, suc, ◌≤◌, ◌<◌, List, [], ◌∷◌, map, length, unwrap_or, Option, Some, None, IfSome, refl, sym, ◌∙◌, ap, subst, inl, inr, arith, slice_get, option_map}
use Rattle.std.proofs.lemmas.Option.{slice_get-map}
use Rattle.ojp_outside.specs.Causes.{Rose}
use Rattle.ojp_values.specs.Lists.{Among}
use Rattle.ojp_values.specs.Texts.{Text}
use Rattle.ojp_values.specs.declared.asks.TripAsk.{TripAsk}
use Rattle.ojp_values.specs.declared.replies.Delivery.{Delivery}
use Rattle.ojp_timetable.specs.Tables.{Timetable}
use Rattle.ojp_timetable.specs.Answers.{RegionAnswers}
use Rattle.ojp_exchange.specs.Book.{Book}
use Rattle.ojp_links.specs.declared.expect.Expect.{Expect}
use Rattle.ojp_links.specs.declared.expect.Expect.TheVariants as expects
use Rattle.ojp_links.specs.declared.links.More.{More}
use Rattle.ojp_links.specs.declared.links.More.TheVariants as mores
use Rattle.ojp_links.specs.Replies.{FitsExpected, ask_of}
use Rattle.ojp_links.specs.Seen.{View, Fixed, ask_at, code_in, codes_of, region_of_table, TellsTables, IsSound, AreServers}
use Rattle.ojp_links.specs.Calls.{Keeps, NotRaised, IsPatient, Looks, Drops, Closes, OthersStay}
use Rattle.ojp_records.specs.declared.queries.Query.{Query}
use Rattle.ojp_records.specs.declared.queries.Entry.{Entry}
use Rattle.ojp_records.specs.Records.{region_of}
use Rattle.ojp_records.specs.Told.{document, IsOpenQuery}
use Rattle.ojp_records.specs.Headline.{AreTablesOf, AreGiven, EntryGiven}
use Rattle.ojp_records.specs.Laws.{OpenIsSure}
use Rattle.ojp_subrequests.specs.declared.subreply.SubPoll.TheVariants as polls
use Rattle.ojp_subrequests.specs.declared.subreply.SubEnd.{SubEnd}
use Rattle.ojp_subrequests.specs.declared.subreply.SubEnd.TheVariants as ends
use Rattle.ojp_subrequests.specs.Views.{SubView}
use Rattle.ojp_subrequests.specs.Subrequests.{IsHeldIn, GoesOn, Polls, HearsTold, OnHeard, OnFailed, IsSafe}
use Rattle.ojp_turns.specs.declared.kept.Kept.{Kept}
use Rattle.ojp_turns.specs.declared.polling.Step.TheVariants as steps
use Rattle.ojp_turns.specs.Held.{key_of, IsForIn}
use Rattle.ojp_turns.specs.Faults.{FaultRose, RejectsNone}
use Rattle.ojp_turns.specs.Polling.{IsSeenAgain, GotNothing, GotBytes, TellsEnd, EndFits, Steps, end_entry}

pub keeps_on : (a b c : View) → Keeps a b → Keeps b c → Keeps a c
keeps_on a b c x y = record { fixed = y.fixed ∙ x.fixed; faults = λ region. omega (arith, x.faults region, y.faults region) }

pub keeps_self : (a : View) → Keeps a a
keeps_self a = record { fixed = refl; faults = λ region. omega arith }

pub others_on : (a b c : View) (key : ℕ) → OthersStay a b key → OthersStay b c key → OthersStay a c key
others_on a b c key x y other apart = y other apart ∙ x other apart

-- ---- it goes on

again_by : (old seen new : View) (key : ℕ) (more : More) → Looks old seen key more → new ≡ seen → IsSeenAgain (old.live key) (new.live key)
again_by old seen new key more looks same =
    subst (λ (v : View). IsSeenAgain (old.live key) (v.live key)) (sym same)
    (record { live = looks.live; looks = looks.looks; region = looks.region; request = looks.request })

waits_patient : (old new : Option ℕ) (before now : ℕ) → IsPatient old new mores.NotYet before now → IfSome old (λ (p : ℕ). (0 < p) × (now ≤ before))
waits_patient None new before now it = tt
waits_patient (Some p) new before now it = (it.1 refl, it.2)

gains_patient : (old new : Option ℕ) (before now : ℕ) → IsPatient old new mores.Got before now → IfSome old (λ (p : ℕ). now < before)
gains_patient None new before now it = tt
gains_patient (Some p) new before now it = it.2

not_raised_by : (old new : Option ℕ) (more : More) (before now : ℕ) → IsPatient old new more before now → NotRaised old new
not_raised_by None new more before now it = it
not_raised_by (Some p) new more before now it = it.0

pub not_raised_on : (a b c : Option ℕ) → NotRaised a b → NotRaised b c → NotRaised a c
not_raised_on None b c x y = subst (λ (o : Option ℕ). NotRaised o c) x y
not_raised_on (Some p) b c x y =
    let z : NotRaised (Some x.0) c = subst (λ (o : Option ℕ). NotRaised o c) x.1 y in
    (z.0, z.1, omega (arith, x.2, z.2))

pub not_raised_self : (a : Option ℕ) → NotRaised a a
not_raised_self None = refl
not_raised_self (Some p) = (p, refl, omega arith)

nothing_at : (old seen : View) (key : ℕ) → Looks old seen key mores.NotYet → GotNothing old.patience (old.live key) (seen.live key)
nothing_at old seen key looks =
    record { left = waits_patient old.patience seen.patience (ask_at old key).left (ask_at seen key).left looks.patience; taken = looks.gives.0; ended = looks.gives.1 }

bytes_at : (old seen : View) (key : ℕ) → Looks old seen key mores.Got → GotBytes old.patience (old.live key) (seen.live key)
bytes_at old seen key looks =
    record { left = gains_patient old.patience seen.patience (ask_at old key).left (ask_at seen key).left looks.patience; gained = looks.gives.0.0; some = looks.gives.0.1; taken = looks.gives.0.2 }

pub nothing_by : (old seen new : View) (key : ℕ) (more : More) → more ≡ mores.NotYet → Looks old seen key more → new ≡ seen → GotNothing old.patience (old.live key) (new.live key)
nothing_by old seen new key more is looks same =
    subst (λ (v : View). GotNothing old.patience (old.live key) (v.live key)) (sym same) (nothing_at old seen key (subst (Looks old seen key) is looks))

pub bytes_by : (old seen new : View) (key : ℕ) (more : More) → more ≡ mores.Got → Looks old seen key more → new ≡ seen → GotBytes old.patience (old.live key) (new.live key)
bytes_by old seen new key more is looks same =
    subst (λ (v : View). GotBytes old.patience (old.live key) (v.live key)) (sym same) (bytes_at old seen key (subst (Looks old seen key) is looks))

module _ (book : Book) (ask : TripAsk) (old new : View) (was now : Kept) (query : now.query ≡ was.query) (number : now.number ≡ was.number) (is_for : IsForIn book ask (codes_of old.fixed) old.live was) where
  -- it is for the same query
  goes_for : (seen : View) → Keeps old seen → GoesOn seen new was.sub now.sub → IsForIn book ask (codes_of new.fixed) new.live now
  goes_for seen keeps on =
      let fixed : new.fixed ≡ old.fixed = ap (λ (v : View). v.fixed) on.same ∙ keeps.fixed in
      record {
        of_region = ap (λ (f : Fixed). code_in (codes_of f) now.sub.region) fixed ∙ (ap (code_in (codes_of old.fixed)) on.region ∙ (is_for.of_region ∙ ap region_of (sym query)));
        asks = on.expects ∙ (is_for.asks ∙ ap (λ (q : Query). expects.Region (region_of q) (document book ask q)) (sym query));
        held_as = subst (λ (v : View). IsHeldIn now.sub v) (sym on.same) on.held;
      }

  pub waits_steps : (told : List Entry) → Polls old new was.sub now.sub polls.Pending → Steps steps.Waits book ask old new was now told told
  waits_steps told p =
      let on : GoesOn p.seen new was.sub now.sub = p.after.1 in
      let nothing : GotNothing old.patience (old.live (key_of was)) (new.live (key_of was)) = nothing_by old p.seen new (key_of was) p.more p.after.0 p.looks on.same in (
        refl,
        record { key = on.key; query = query; number = number; again = again_by old p.seen new (key_of was) p.more p.looks on.same; came = inl nothing },
        goes_for p.seen p.looks.keeps on,
        nothing,
      )

  pub moved_steps : (told : List Entry) → Polls old new was.sub now.sub polls.Moved → Steps steps.Moved book ask old new was now told told
  moved_steps told p =
      let on : GoesOn p.seen new was.sub now.sub = p.after.1 in
      let bytes : GotBytes old.patience (old.live (key_of was)) (new.live (key_of was)) = bytes_by old p.seen new (key_of was) p.more p.after.0 p.looks on.same in (
        refl,
        record { key = on.key; query = query; number = number; again = again_by old p.seen new (key_of was) p.more p.looks on.same; came = inr bytes },
        goes_for p.seen p.looks.keeps on,
        bytes,
      )

-- ---- it is over

-- the ask with the key is live no more, and the others are as they were
pub record Gone (old new : View) (key : ℕ) : Type 0 where
  pub keeps : Keeps old new
  pub others : OthersStay old new key
  pub none : new.live key ≡ None
  pub patience : NotRaised old.patience new.patience

gone_by : (old seen new : View) (key : ℕ) (more : More) → Looks old seen key more → Drops seen new key → Gone old new key
gone_by old seen new key more looks drops =
    record {
      keeps = keeps_on old seen new looks.keeps drops.keeps;
      others = others_on old seen new key looks.others drops.others;
      none = drops.gone;
      patience = not_raised_on old.patience seen.patience new.patience (not_raised_by old.patience seen.patience more (ask_at old key).left (ask_at seen key).left looks.patience) drops.patience;
    }

pub gone_closed : (old new : View) (key : ℕ) → Closes old new key → Gone old new key
gone_closed old new key closes = record { keeps = closes.drops.keeps; others = closes.drops.others; none = closes.drops.gone; patience = closes.drops.patience }

over_heard : (old new : View) (s now : SubView) (delivery : Delivery) → Polls old new s now (polls.Over (ends.Heard delivery)) → Gone old new s.key
over_heard old new s now delivery p = gone_by old p.seen new s.key p.more p.looks p.after.2.closes.drops

over_failed : (old new : View) (s now : SubView) → Polls old new s now (polls.Over ends.Failed) → Gone old new s.key
over_failed old new s now p =
    elim p.after.1 [
      | inl closed ↦ gone_by old p.seen new s.key p.more p.looks closed.1.drops
      | inr rejected ↦ gone_by old p.seen new s.key p.more p.looks rejected.1.rejects.drops
    ]

over_lost : (old new : View) (s now : SubView) → Polls old new s now (polls.Over ends.NoMemory) → Gone old new s.key
over_lost old new s now p = gone_by old p.seen new s.key p.more p.looks p.after.2.drops

pub over_gone : (old new : View) (s now : SubView) (end : SubEnd) → Polls old new s now (polls.Over end) → Gone old new s.key
over_gone old new s now (ends.Heard delivery) p = over_heard old new s now delivery p
over_gone old new s now ends.Failed p = over_failed old new s now p
over_gone old new s now ends.NoMemory p = over_lost old new s now p

-- what keeps and stays while it goes on
pub record Looked (old new : View) (key : ℕ) : Type 0 where
  pub keeps : Keeps old new
  pub others : OthersStay old new key
  pub patience : NotRaised old.patience new.patience

looked_keeps : (old seen new : View) (key : ℕ) (more : More) → Looks old seen key more → new ≡ seen → Looked old new key
looked_keeps old seen new key more looks same =
    subst (λ (v : View). Looked old v key) (sym same)
    (record { keeps = looks.keeps; others = looks.others; patience = not_raised_by old.patience seen.patience more (ask_at old key).left (ask_at seen key).left looks.patience })

pub pending_keeps : (old new : View) (s now : SubView) → Polls old new s now polls.Pending → Looked old new s.key
pending_keeps old new s now p = looked_keeps old p.seen new s.key p.more p.looks p.after.1.same

pub moved_keeps : (old new : View) (s now : SubView) → Polls old new s now polls.Moved → Looked old new s.key
moved_keeps old new s now p = looked_keeps old p.seen new s.key p.more p.looks p.after.1.same

-- ---- timetables

-- the timetable with the number
pub record Numbered (tables : List Timetable) (region : ℕ) : Type 0 where
  pub table : Timetable
  pub at : slice_get tables region ≡ Some table
  pub among : Among table tables

pub numbered : (tables : List Timetable) (region : ℕ) → region < length tables → Numbered tables region
numbered [] region below = absurd (omega (arith, below))
numbered (t ∷ tables) zero below = record { table = t; at = refl; among = inl refl }
numbered (t ∷ tables) (suc region) below =
    let it : Numbered tables region = numbered tables region (omega (arith, below)) in
    record { table = it.table; at = it.at; among = inr it.among }

-- its code is that of the region
pub code_of_numbered : (tables : List Timetable) (codes : List Text) (region : ℕ) (table : Timetable) → map region_of_table tables ≡ codes → slice_get tables region ≡ Some table → table.region ≡ code_in codes region
code_of_numbered tables codes region table own at =
    let found : slice_get codes region ≡ Some table.region = ap (λ (cs : List Text). slice_get cs region) (sym own) ∙ (slice_get-map region_of_table tables region ∙ ap (option_map region_of_table) at) in
    sym (ap (λ (o : Option Text). unwrap_or o []) found)

module _ (book : Book) (ask : TripAsk) (old : View) (was : Kept) (is_for : IsForIn book ask (codes_of old.fixed) old.live was) (sound : IsSound old) where
  -- its region is one of the links
  region_below : was.sub.region < length old.fixed.stations
  region_below =
      subst (λ (r : ℕ). r < length old.fixed.stations) is_for.held_as.own.of_region (sound.honest (key_of was) is_for.held_as.own.live).is_region

  -- the timetable of its region
  table_of : (tables : List Timetable) → TellsTables old tables → (it : Numbered tables was.sub.region) × (it.table.region ≡ region_of was.query)
  table_of tables tells =
      let servers : AreServers old.fixed.stations tables = subst (λ (o : Option (List Timetable)). IfSome o (AreServers old.fixed.stations)) tells.servers sound.servers_well in
      let below : was.sub.region < length tables = subst (λ (n : ℕ). was.sub.region < n) (sym servers.one_each) region_below in
      let at : Numbered tables was.sub.region = numbered tables was.sub.region below in
      (at, code_of_numbered tables (codes_of old.fixed) was.sub.region at.table tells.own at.at ∙ is_for.of_region)

  -- what was heard is given
  heard_given : (delivery : Delivery) → HearsTold old was.sub delivery → (tables : List Timetable) → TellsTables old tables → EntryGiven tables book ask (end_entry was.query (Some delivery))
  heard_given delivery hears tables tells =
      let it : (n : Numbered tables was.sub.region) × (n.table.region ≡ region_of was.query) = table_of tables tells in (
        it.0.table,
        it.0.among,
        it.1,
        subst (λ (x : Expect). RegionAnswers it.0.table (ask_of x) delivery) is_for.asks (hears.answers tables tells.servers it.0.table it.0.at),
      )

  -- a region is sure of the ask, so that it is never condemned
  pub is_safe : OpenIsSure → (told : List Entry) → ask.origin ≢ ask.target → IsOpenQuery book ask told was.query
      → (tables : List Timetable) → TellsTables old tables → AreTablesOf tables book → AreGiven tables book ask told → IsSafe old was.sub was.sub.expect
  is_safe sure told differ is_open tables tells whole given =
      let it : (n : Numbered tables was.sub.region) × (n.table.region ≡ region_of was.query) = table_of tables tells in
      subst (IsSafe old was.sub) (sym is_for.asks)
      (tables, tells, (it.0.table, it.0.at, sure tables book ask told was.query it.0.table whole differ given is_open it.0.among it.1))

  -- a failure has its cause
  failed_cause : (new : View) → Rose (old.faults was.sub.region) (new.faults was.sub.region) → FaultRose old new (region_of was.query)
  failed_cause new rose = (was.sub.region, region_below, is_for.of_region, rose)

  -- ---- the end

  pub end_fits : (end : SubEnd) → OnHeard (polls.Over end) (HearsTold old was.sub) → EndFits book ask was.query end
  end_fits (ends.Heard delivery) hears = subst (λ (x : Expect). FitsExpected x delivery) is_for.asks hears.fits
  end_fits ends.Failed hears = tt
  end_fits ends.NoMemory hears = tt

  pub over_steps : (new : View) (now : Kept) (end : SubEnd) (before after : List Entry) → TellsEnd end was.query before after → new.live (key_of was) ≡ None
      → OnHeard (polls.Over end) (HearsTold old was.sub) → OnFailed (polls.Over end) (Rose (old.faults was.sub.region) (new.faults was.sub.region))
      → Steps steps.Over book ask old new was now before after
  over_steps new now (ends.Heard delivery) before after told gone hears failed = (
    end_entry was.query (Some delivery),
    told,
    record { query = refl; gone = gone; carried = hears.carried; given = heard_given delivery hears; cause = λ none. absurd (cc) },
  )
  over_steps new now ends.Failed before after told gone hears failed =
      (end_entry was.query None, told, record { query = refl; gone = gone; carried = tt; given = λ tables tells. tt; cause = λ none. failed_cause new failed })
  over_steps new now ends.NoMemory before after told gone hears failed = absurd told

-- where the ask is safe, nothing is rejected
pub rejects_by : (book : Book) (ask : TripAsk) (told : List Entry) (old new : View) (s : SubView)
    → ((tables : List Timetable) → TellsTables old tables → AreTablesOf tables book → AreGiven tables book ask told → IsSafe old s s.expect)
    → (IsSafe old s s.expect → new.rejections ≡ old.rejections) → RejectsNone book ask told old new
rejects_by book ask told old new s safe calm tables tells whole given region = ap (λ (f : ℕ → ℕ). f region) (calm (safe tables tells whole given))
