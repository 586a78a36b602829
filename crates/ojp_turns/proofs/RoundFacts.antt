-- A round of polls, one after another.
use Rattle.std.proofs.Common.{◌≡◌, ◌≢◌, ℕ, ◌+◌, ◌≤◌, ◌<◌, ◌⊎◌, Bool, true, false, ◌||◌, List, [], ◌∷◌, ◌++◌, map, length, unwrap_or, Option, Some, None, IfSome, Result, Ok, Err, refl, sym, ◌∙◌, ap, subst, inl, inr, arith, append-nil, append_assoc, length-append}
use Rattle.std.specs.List.{filter_map, cons_option}
use Rattle.std.specs.Option.{option_to_list}
use Rattle.std.proofs.lemmas.List.{map-append, length-map}
use Rattle.std.proofs.lemmas.List.Elements.{filter_map-append}
use Rattle.ojp_outside.specs.Causes.{Rose}
use Rattle.ojp_values.specs.Lists.{Among, Each}
use Rattle.ojp_values.specs.Texts.{Text}
use Rattle.ojp_values.specs.declared.NoMemory.{NoMemory}
use Rattle.ojp_values.specs.declared.asks.TripAsk.{TripAsk}
use Rattle.ojp_values.specs.declared.replies.Delivery.{Delivery}
use Rattle.ojp_values.proofs.ListFacts.{among_append_left, among_append_right, among_map}
use Rattle.ojp_timetable.specs.Tables.{Timetable}
use Rattle.ojp_timetable.proofs.AmongFacts.{each_push}
use Rattle.ojp_exchange.specs.Book.{Book}
use Rattle.ojp_links.specs.Replies.{Carries}
use Rattle.ojp_links.specs.Seen.{View, Live, Fixed, code_in, codes_of, no_ask, live_or_none, TellsTables}
use Rattle.ojp_links.specs.Calls.{Keeps, NotRaised, OthersStay}
use Rattle.ojp_records.specs.declared.queries.Entry.{Entry}
use Rattle.ojp_records.specs.Headline.{AreGiven, EntryGiven}
use Rattle.ojp_turns.specs.declared.kept.Kept.{Kept}
use Rattle.ojp_turns.specs.Held.{key_of, AreApart}
use Rattle.ojp_turns.specs.Faults.{FaultRose}
use Rattle.ojp_turns.specs.Polling.{IsSeenAgain, GotNothing, GotBytes, Fate, going, over, lost, Polled, HasFate, IsPolled, was_of, kept_by, going_of, told_by, entry_of, IsVain, InVain, IsNews, IsFound, IsKept, FirstPolled, Round, Moves, PollsTo}
use Rattle.ojp_turns.proofs.PollFacts.{keeps_on, keeps_self, not_raised_on, not_raised_self}

-- ---- causes at later moments

pub rose_on : (a b c : ℕ) → Rose a b → b ≤ c → Rose a c
rose_on a b c rose more = omega (arith, rose, more)

pub rose_from : (a b c : ℕ) → a ≤ b → Rose b c → Rose a c
rose_from a b c more rose = omega (arith, rose, more)

pub fault_on : (old mid new : View) (code : Text) → Keeps mid new → FaultRose old mid code → FaultRose old new code
fault_on old mid new code keeps it = (it.0, it.1, it.2, rose_on (old.faults it.0) (mid.faults it.0) (new.faults it.0) it.3 (keeps.faults it.0))

pub fault_from : (old mid new : View) (code : Text) → Keeps old mid → FaultRose mid new code → FaultRose old new code
fault_from old mid new code keeps it = (
  it.0,
  subst (λ (f : Fixed). it.0 < length f.stations) keeps.fixed it.1,
  ap (λ (f : Fixed). code_in (codes_of f) it.0) (sym keeps.fixed) ∙ it.2,
  rose_from (old.faults it.0) (mid.faults it.0) (new.faults it.0) (keeps.faults it.0) it.3,
)

pub tells_on : (old mid : View) (tables : List Timetable) → Keeps old mid → TellsTables old tables → TellsTables mid tables
tells_on old mid tables keeps tells =
    record { servers = ap (λ (f : Fixed). f.servers) keeps.fixed ∙ tells.servers; own = tells.own ∙ ap codes_of (sym keeps.fixed) }

-- ---- patience

-- what holds where there is patience held before, where there was no less
if_patient : (old mid : Option ℕ) (P : Type 0) → NotRaised old mid → IfSome mid (λ (p : ℕ). P) → IfSome old (λ (p : ℕ). P)
if_patient None mid P less it = tt
if_patient (Some p) mid P less it = subst (λ (o : Option ℕ). IfSome o (λ (q : ℕ). P)) less.1 it

if_waiting : (old mid : Option ℕ) (P : Type 0) → NotRaised old mid → IfSome mid (λ (p : ℕ). (0 < p) × P) → IfSome old (λ (p : ℕ). (0 < p) × P)
if_waiting None mid P less it = tt
if_waiting (Some p) mid P less it =
    let both : (0 < less.0) × P = subst (λ (o : Option ℕ). IfSome o (λ (q : ℕ). (0 < q) × P)) less.1 it in
    (omega (arith, both.0, less.2), both.1)

nothing_from : (old mid : Option ℕ) (x y : Option Live) → NotRaised old mid → GotNothing mid x y → GotNothing old x y
nothing_from old mid x y less it =
    record { left = if_waiting old mid ((live_or_none y).left ≤ (live_or_none x).left) less it.left; taken = it.taken; ended = it.ended }

bytes_from : (old mid : Option ℕ) (x y : Option Live) → NotRaised old mid → GotBytes mid x y → GotBytes old x y
bytes_from old mid x y less it =
    record { left = if_patient old mid ((live_or_none y).left < (live_or_none x).left) less it.left; gained = it.gained; some = it.some; taken = it.taken }

either_from : (old mid : Option ℕ) (x y : Option Live) → NotRaised old mid → GotNothing mid x y ⊎ GotBytes mid x y → GotNothing old x y ⊎ GotBytes old x y
either_from old mid x y less (inl it) = inl (nothing_from old mid x y less it)
either_from old mid x y less (inr it) = inr (bytes_from old mid x y less it)

-- ---- what became of one

module _ (book : Book) (ask : TripAsk) (old mid new : View) where
  -- what became of it is seen later too
  pub fate_on : (was : Kept) (fate : Fate) → new.live (key_of was) ≡ mid.live (key_of was) → Keeps mid new → HasFate book ask old mid was fate → HasFate book ask old new was fate
  fate_on was (going now) e keeps it =
      record {
        key = it.key;
        query = it.query;
        number = it.number;
        again = subst (λ (o : Option Live). IsSeenAgain (old.live (key_of was)) o) (sym e) it.again;
        came = subst (λ (o : Option Live). GotNothing old.patience (old.live (key_of was)) o ⊎ GotBytes old.patience (old.live (key_of was)) o) (sym e) it.came;
      }
  fate_on was (over entry) e keeps it =
      record { query = it.query; gone = e ∙ it.gone; carried = it.carried; given = it.given; cause = λ none. fault_on old mid new _ keeps (it.cause none) }
  fate_on was lost e keeps it = e ∙ it

  -- and since before, where its ask was as it was
  pub fate_from : (was : Kept) (fate : Fate) → mid.live (key_of was) ≡ old.live (key_of was) → Keeps old mid → NotRaised old.patience mid.patience → HasFate book ask mid new was fate → HasFate book ask old new was fate
  fate_from was (going now) e keeps less it =
      record {
        key = it.key;
        query = it.query;
        number = it.number;
        again = subst (λ (o : Option Live). IsSeenAgain o (new.live (key_of was))) e it.again;
        came = subst (λ (o : Option Live). GotNothing old.patience o (new.live (key_of was)) ⊎ GotBytes old.patience o (new.live (key_of was))) e
            (either_from old.patience mid.patience (mid.live (key_of was)) (new.live (key_of was)) less it.came);
      }
  fate_from was (over entry) e keeps less it =
      record {
        query = it.query;
        gone = it.gone;
        carried = subst (λ (o : Option Live). IfSome entry.reply (λ (delivery : Delivery). IfSome (unwrap_or o no_ask).reply (λ (whole : List ℕ). Carries whole delivery))) e it.carried;
        given = λ tables tells. it.given tables (tells_on old mid tables keeps tells);
        cause = λ none. fault_from old mid new _ keeps (it.cause none);
      }
  fate_from was lost e keeps less it = it

  vain_on : (was : Kept) (fate : Fate) → new.live (key_of was) ≡ mid.live (key_of was) → IsVain old mid was fate → IsVain old new was fate
  vain_on was (going now) e it = subst (λ (o : Option Live). GotNothing old.patience (old.live (key_of was)) o) (sym e) it
  vain_on was (over entry) e it = absurd it
  vain_on was lost e it = absurd it

  news_on : (was : Kept) (fate : Fate) → new.live (key_of was) ≡ mid.live (key_of was) → IsNews old mid was fate → IsNews old new was fate
  news_on was (going now) e it = subst (λ (o : Option Live). GotBytes old.patience (old.live (key_of was)) o) (sym e) it
  news_on was (over entry) e it = tt
  news_on was lost e it = absurd it

  vain_from : (was : Kept) (fate : Fate) → mid.live (key_of was) ≡ old.live (key_of was) → NotRaised old.patience mid.patience → IsVain mid new was fate → IsVain old new was fate
  vain_from was (going now) e less it =
      subst (λ (o : Option Live). GotNothing old.patience o (new.live (key_of was))) e (nothing_from old.patience mid.patience (mid.live (key_of was)) (new.live (key_of was)) less it)
  vain_from was (over entry) e less it = absurd it
  vain_from was lost e less it = absurd it

  news_from : (was : Kept) (fate : Fate) → mid.live (key_of was) ≡ old.live (key_of was) → NotRaised old.patience mid.patience → IsNews mid new was fate → IsNews old new was fate
  news_from was (going now) e less it =
      subst (λ (o : Option Live). GotBytes old.patience o (new.live (key_of was))) e (bytes_from old.patience mid.patience (mid.live (key_of was)) (new.live (key_of was)) less it)
  news_from was (over entry) e less it = tt
  news_from was lost e less it = absurd it

  pub found_from : (found : Result Bool NoMemory) (was : Kept) (fate : Fate) → mid.live (key_of was) ≡ old.live (key_of was) → NotRaised old.patience mid.patience → IsFound found mid new was fate → IsFound found old new was fate
  found_from (Ok true) was fate e less it = news_from was fate e less it
  found_from (Ok false) was fate e less it = vain_from was fate e less it
  found_from (Err none) was fate e less it = tt

  each_on : (ps : List Polled) → ((p : Polled) → Among p ps → new.live (key_of p.was) ≡ mid.live (key_of p.was)) → Keeps mid new → Each (IsPolled book ask old mid) ps → Each (IsPolled book ask old new) ps
  each_on [] same keeps all = tt
  each_on (p ∷ ps) same keeps all = (fate_on p.was p.fate (same p (inl refl)) keeps all.0, each_on ps (λ q h. same q (inr h)) keeps all.1)

  vains_on : (ps : List Polled) → ((p : Polled) → Among p ps → new.live (key_of p.was) ≡ mid.live (key_of p.was)) → Each (InVain old mid) ps → Each (InVain old new) ps
  vains_on [] same all = tt
  vains_on (p ∷ ps) same all = (vain_on p.was p.fate (same p (inl refl)) all.0, vains_on ps (λ q h. same q (inr h)) all.1)

-- ---- lists

-- those before an element have another key
apart_before : (xs : List Kept) (y : Kept) (zs : List Kept) (x : Kept) → AreApart (map key_of (xs ++ y ∷ zs)) → Among x xs → key_of x ≢ key_of y
apart_before [] y zs x apart h e = absurd h
apart_before (w ∷ xs) y zs x apart (inl same) e =
    apart.0 (subst (λ (k : ℕ). Among k (map key_of (xs ++ y ∷ zs))) (sym e ∙ ap key_of same) (among_map key_of y (xs ++ y ∷ zs) (among_append_right y xs (y ∷ zs) (inl refl))))
apart_before (w ∷ xs) y zs x apart (inr h) e = apart_before xs y zs x apart.1 h e

-- and so have those behind it
apart_behind : (xs : List Kept) (y : Kept) (zs : List Kept) (z : Kept) → AreApart (map key_of (xs ++ y ∷ zs)) → Among z zs → key_of z ≢ key_of y
apart_behind [] y zs z apart h e = apart.0 (subst (λ (k : ℕ). Among k (map key_of zs)) e (among_map key_of z zs h))
apart_behind (w ∷ xs) y zs z apart h e = apart_behind xs y zs z apart.1 h e

option_alone : {Y : Type 0} (o : Option Y) → cons_option o [] ≡ option_to_list o
option_alone None = refl
option_alone (Some y) = refl

one_mapped : {X Y : Type 0} (f : X → Option Y) (x : X) → filter_map f (x ∷ []) ≡ option_to_list (f x)
one_mapped f x = option_alone (f x)

same_cons : (x y : Kept) (xs ys : List Kept) → x ∷ xs ≡ y ∷ ys → (x ≡ y) × (xs ≡ ys)
same_cons x y xs ys e = (cc, cc)

each_joined : {X : Type 0} (P : X → Type 0) (xs ys : List X) → Each P xs → Each P ys → Each P (xs ++ ys)
each_joined P [] ys all more = more
each_joined P (x ∷ xs) ys all more = (all.0, each_joined P xs ys all.1 more)

-- ---- what was told is given

fate_given : (book : Book) (ask : TripAsk) (old mid : View) (tables : List Timetable) (was : Kept) (fate : Fate) → TellsTables old tables → HasFate book ask old mid was fate → Each (EntryGiven tables book ask) (option_to_list (told_by fate))
fate_given book ask old mid tables was (going now) tells it = tt
fate_given book ask old mid tables was (over entry) tells it = (it.given tables tells, tt)
fate_given book ask old mid tables was lost tells it = tt

pub polled_given : (book : Book) (ask : TripAsk) (old mid : View) (tables : List Timetable) (ps : List Polled) → TellsTables old tables → Each (IsPolled book ask old mid) ps → Each (EntryGiven tables book ask) (filter_map entry_of ps)
polled_given book ask old mid tables [] tells all = tt
polled_given book ask old mid tables (p ∷ ps) tells all =
    subst (Each (EntryGiven tables book ask)) (sym (filter_map-append entry_of (p ∷ []) ps ∙ ap (λ (xs : List Entry). xs ++ filter_map entry_of ps) (one_mapped entry_of p)))
    (each_joined (EntryGiven tables book ask) (option_to_list (told_by p.fate)) (filter_map entry_of ps) (fate_given book ask old mid tables p.was p.fate tells all.0) (polled_given book ask old mid tables ps tells all.1))

pub round_given : (book : Book) (ask : TripAsk) (old mid : View) (start subs : List Kept) (before after : List Entry) (tables : List Timetable)
    → Round book ask old mid start subs before after → TellsTables old tables → AreGiven tables book ask before → AreGiven tables book ask after
round_given book ask old mid start subs before after tables r tells given =
    subst (AreGiven tables book ask) (sym r.tells) (each_joined (EntryGiven tables book ask) before (filter_map entry_of r.polled) given (polled_given book ask old mid tables r.polled tells r.each))

-- ---- one more poll

-- before the first poll
pub round_start : (book : Book) (ask : TripAsk) (old : View) (start : List Kept) (told : List Entry) → PollsTo false 0 book ask old old start start told told
round_start book ask old start told =
    record {
      round = record {
        polled = [];
        ahead = start;
        split = refl;
        turned = sym (append-nil start);
        tells = sym (append-nil told);
        each = tt;
        same = λ kept among. refl;
        elsewhere = λ key none. refl;
        keeps = keeps_self old;
        patience = not_raised_self old.patience;
        rejects_none = λ tables tells whole given region. refl;
      };
      counted = refl;
      none_lost = tt;
      moves = tt;
    }

-- the round with one more poll
pub record OneMore (book : Book) (ask : TripAsk) (old mid new : View) (start after : List Kept) (before told : List Entry) (polled : List Polled) (found : Result Bool NoMemory) : Type 0 where
  pub round : Round book ask old new start after before told
  pub last : Polled
  pub is : round.polled ≡ polled ++ last ∷ []
  pub found_is : IsFound found old new last.was last.fate
  pub same : (p : Polled) → Among p polled → new.live (key_of p.was) ≡ mid.live (key_of p.was)

module _ (book : Book) (ask : TripAsk) (old mid new : View) (start now after : List Kept) (before told told' : List Entry) (found : Result Bool NoMemory)
    (apart : AreApart (map key_of start)) (r : Round book ask old mid start now before told) (f : FirstPolled book ask mid new now after told told' found) where
  next_by : (kept : Kept) (ahead : List Kept) → r.ahead ≡ kept ∷ ahead → OneMore book ask old mid new start after before told' r.polled found
  next_by kept ahead at =
      let split : start ≡ map was_of r.polled ++ kept ∷ ahead = r.split ∙ ap (λ (xs : List Kept). map was_of r.polled ++ xs) at in
      let both : (kept ≡ f.kept) × (ahead ++ filter_map going_of r.polled ≡ f.rest) =
      same_cons kept f.kept (ahead ++ filter_map going_of r.polled) f.rest (sym (r.turned ∙ ap (λ (xs : List Kept). xs ++ filter_map going_of r.polled) at) ∙ f.is_first) in
      let keys : AreApart (map key_of (map was_of r.polled ++ kept ∷ ahead)) = subst (λ (xs : List Kept). AreApart (map key_of xs)) split apart in
      let key_is : key_of f.kept ≡ key_of kept = ap key_of (sym both.0) in
      let others : OthersStay mid new (key_of kept) = subst (OthersStay mid new) key_is f.others in
      let stays : (p : Polled) → Among p r.polled → new.live (key_of p.was) ≡ mid.live (key_of p.was) =
      (λ p h. others (key_of p.was) (apart_before (map was_of r.polled) kept ahead p.was keys (among_map was_of p r.polled h))) in
      let here : mid.live (key_of kept) ≡ old.live (key_of kept) = r.same kept (subst (Among kept) (sym at) (inl refl)) in
      let has : HasFate book ask mid new kept f.fate = subst (λ (k : Kept). HasFate book ask mid new k f.fate) (sym both.0) f.has in
      let last : Polled = record { was = kept; fate = f.fate } in
      record {
        round = record {
          polled = r.polled ++ last ∷ [];
          ahead = ahead;
          split = split ∙ (sym (append_assoc (map was_of r.polled) (kept ∷ []) ahead) ∙ ap (λ (xs : List Kept). xs ++ ahead) (sym (map-append was_of r.polled (last ∷ []))));
          turned = f.turned
              ∙ (ap (λ (xs : List Kept). xs ++ option_to_list (kept_by f.fate)) (sym both.1)
              ∙ (append_assoc ahead (filter_map going_of r.polled) (option_to_list (kept_by f.fate))
              ∙ ap (λ (xs : List Kept). ahead ++ xs) (ap (λ (xs : List Kept). filter_map going_of r.polled ++ xs) (sym (one_mapped going_of last)) ∙ sym (filter_map-append going_of r.polled (last ∷ [])))));
          tells = f.tells
              ∙ (ap (λ (xs : List Entry). xs ++ option_to_list (told_by f.fate)) r.tells
              ∙ (append_assoc before (filter_map entry_of r.polled) (option_to_list (told_by f.fate))
              ∙ ap (λ (xs : List Entry). before ++ xs) (ap (λ (xs : List Entry). filter_map entry_of r.polled ++ xs) (sym (one_mapped entry_of last)) ∙ sym (filter_map-append entry_of r.polled (last ∷ [])))));
          each = each_push (IsPolled book ask old new) r.polled last (each_on book ask old mid new r.polled stays f.keeps r.each) (fate_from book ask old mid new kept f.fate here r.keeps r.patience has);
          same = λ g among. others (key_of g) (apart_behind (map was_of r.polled) kept ahead g keys among) ∙ r.same g (subst (Among g) (sym at) (inr among));
          elsewhere = λ key none.
              others key (λ e. none (subst (λ (k : ℕ). Among k (map key_of start)) (sym e) (among_map key_of kept start (subst (Among kept) (sym split) (among_append_right kept (map was_of r.polled) (kept ∷ ahead) (inl refl))))))
              ∙ r.elsewhere key none;
          keeps = keeps_on old mid new r.keeps f.keeps;
          patience = not_raised_on old.patience mid.patience new.patience r.patience f.patience;
          rejects_none = λ tables tells whole given region.
              f.rejects_none tables (tells_on old mid tables r.keeps tells) whole (round_given book ask old mid start now before told tables r tells given) region
              ∙ r.rejects_none tables tells whole given region;
        };
        last = last;
        is = refl;
        found_is = found_from book ask old mid new found kept f.fate here r.patience (subst (λ (k : Kept). IsFound found mid new k f.fate) (sym both.0) f.news);
        same = stays;
      }

  next_at : (ahead : List Kept) → r.ahead ≡ ahead → length r.polled < length start → OneMore book ask old mid new start after before told' r.polled found
  next_at [] at below =
      let whole : start ≡ map was_of r.polled = r.split ∙ (ap (λ (xs : List Kept). map was_of r.polled ++ xs) at ∙ append-nil (map was_of r.polled)) in
      let long : length start ≡ length r.polled = ap length whole ∙ length-map r.polled was_of in
      absurd (omega (arith, below, long))
  next_at (kept ∷ ahead) at below = next_by kept ahead at

  pub next_round : length r.polled < length start → OneMore book ask old mid new start after before told' r.polled found
  next_round below = next_at r.ahead refl below

-- what came so far, and of the last poll
module _ (book : Book) (ask : TripAsk) (old mid new : View) (polled now : List Polled) (last : Polled) (is : now ≡ polled ++ last ∷ [])
    (same : (p : Polled) → Among p polled → new.live (key_of p.was) ≡ mid.live (key_of p.was)) where
  moves_more : (moved one : Bool) → Moves moved old mid polled → IsFound (Ok one) old new last.was last.fate → Moves (moved || one) old new now
  moves_more true one moves found = (
    moves.0,
    subst (Among moves.0) (sym is) (among_append_left moves.0 polled (last ∷ []) moves.1),
    news_on book ask old mid new moves.0.was moves.0.fate (same moves.0 moves.1) moves.2,
  )
  moves_more false true moves found = (last, subst (Among last) (sym is) (among_append_right last polled (last ∷ []) (inl refl)), found)
  moves_more false false moves found =
      subst (Each (InVain old new)) (sym is) (each_push (InVain old new) polled last (vains_on book ask old mid new polled same moves) found)

found_kept : (one : Bool) (old new : View) (was : Kept) (fate : Fate) → IsFound (Ok one) old new was fate → IsKept fate
found_kept one old new was (going now) it = tt
found_kept one old new was (over entry) it = tt
found_kept true old new was lost it = absurd it
found_kept false old new was lost it = absurd it

-- one more poll that had its memory
pub poll_more : (book : Book) (ask : TripAsk) (old mid new : View) (start now after : List Kept) (before told told' : List Entry) (moved one : Bool) (n : ℕ)
    → AreApart (map key_of start) → n < length start → PollsTo moved n book ask old mid start now before told → FirstPolled book ask mid new now after told told' (Ok one)
    → PollsTo (moved || one) (n + 1) book ask old new start after before told'
poll_more book ask old mid new start now after before told told' moved one n apart below so_far first =
    let more : OneMore book ask old mid new start after before told' so_far.round.polled (Ok one) =
    next_round book ask old mid new start now after before told told' (Ok one) apart so_far.round first (subst (λ (k : ℕ). k < length start) (sym so_far.counted) below) in
    record {
      round = more.round;
      counted = ap length more.is ∙ (length-append so_far.round.polled (more.last ∷ []) ∙ ap (λ (k : ℕ). k + 1) so_far.counted);
      none_lost = subst (Each (λ (p : Polled). IsKept p.fate)) (sym more.is) (each_push (λ (p : Polled). IsKept p.fate) so_far.round.polled more.last so_far.none_lost (found_kept one old new more.last.was more.last.fate more.found_is));
      moves = moves_more book ask old mid new so_far.round.polled more.round.polled more.last more.is more.same moved one so_far.moves more.found_is;
    }

-- one more poll that had none
pub poll_lost : (book : Book) (ask : TripAsk) (old mid new : View) (start now after : List Kept) (before told told' : List Entry) (moved : Bool) (n : ℕ) (none : NoMemory)
    → AreApart (map key_of start) → n < length start → PollsTo moved n book ask old mid start now before told → FirstPolled book ask mid new now after told told' (Err none)
    → Round book ask old new start after before told'
poll_lost book ask old mid new start now after before told told' moved n none apart below so_far first =
    (next_round book ask old mid new start now after before told told' (Err none) apart so_far.round first (subst (λ (k : ℕ). k < length start) (sym so_far.counted) below)).round

-- while not all were polled, there is a first
pub some_ahead : (book : Book) (ask : TripAsk) (old new : View) (start now : List Kept) (before told : List Entry) (moved : Bool) (n : ℕ) → n < length start → PollsTo moved n book ask old new start now before told → 0 < length now
some_ahead book ask old new start now before told moved n below it =
    let polled : length (map was_of it.round.polled) ≡ length it.round.polled = length-map it.round.polled was_of in
    let split : length start ≡ length (map was_of it.round.polled) + length it.round.ahead = ap length it.round.split ∙ length-append (map was_of it.round.polled) it.round.ahead in
    let turned : length now ≡ length it.round.ahead + length (filter_map going_of it.round.polled) = ap length it.round.turned ∙ length-append it.round.ahead (filter_map going_of it.round.polled) in
    omega (arith, below, it.counted, polled, split, turned)

-- after the last poll
pub round_ends : (book : Book) (ask : TripAsk) (old new : View) (start now : List Kept) (before told : List Entry) (moved : Bool) (n : ℕ) → length start ≤ n → PollsTo moved n book ask old new start now before told → PollsTo moved (length start) book ask old new start now before told
round_ends book ask old new start now before told moved n whole it =
    let polled : length (map was_of it.round.polled) ≡ length it.round.polled = length-map it.round.polled was_of in
    let split : length start ≡ length (map was_of it.round.polled) + length it.round.ahead = ap length it.round.split ∙ length-append (map was_of it.round.polled) it.round.ahead in
    let same : n ≡ length start = omega (arith, whole, it.counted, polled, split) in
    subst (λ (k : ℕ). PollsTo moved k book ask old new start now before told) same it

-- a whole round leaves none ahead
pub whole_ahead : (book : Book) (ask : TripAsk) (old new : View) (start now : List Kept) (before told : List Entry) (moved : Bool) (it : PollsTo moved (length start) book ask old new start now before told) → it.round.ahead ≡ []
whole_ahead book ask old new start now before told moved it = go it.round.ahead refl
  where
    go : (ahead : List Kept) → it.round.ahead ≡ ahead → ahead ≡ []
    go [] e = refl
    go (k ∷ ahead) e =
        let polled : length (map was_of it.round.polled) ≡ length it.round.polled = length-map it.round.polled was_of in
        let split : length start ≡ length (map was_of it.round.polled) + length (k ∷ ahead) = ap length (it.round.split ∙ ap (λ (xs : List Kept). map was_of it.round.polled ++ xs) e) ∙ length-append (map was_of it.round.polled) (k ∷ ahead) in
        absurd (omega (arith, split, polled, it.counted))
