-- What holds on the way of a sweep.
use Rattle.std.specs.Prelude.{◌≡◌, ◌≢◌, ℕ, ◌+◌, ◌-◌, ◌*◌, ◌^◌, ◌<◌, ◌≤◌, List, ◌⊎◌, length, slice_index}
use Rattle.ojp_sweep.specs.declared.connections.Connection.{Connection}
use Rattle.ojp_sweep.specs.declared.connections.Connections.{Connections}
use Rattle.ojp_sweep.specs.declared.connections.Days.{Days}
use Rattle.ojp_sweep.specs.declared.connections.Asked.{Asked}
use Rattle.ojp_sweep.specs.declared.labels.Labels.{Labels}
use Rattle.ojp_sweep.specs.declared.progress.Progress.{Progress}
use Rattle.ojp_sweep.specs.declared.progress.Next.{Next}
use Rattle.ojp_sweep.specs.Rides.{IsAt, Runs, moment, day_long}
use Rattle.ojp_sweep.specs.Labels.{AreLabels, KeepsReady, FallAfter}

-- the run of the connection can be boarded in time where it leaves
pub record Boards (ready : List ℕ) (net : Connections) (days : Days) (day n : ℕ) : Type 0 where
  pub first : Connection
  pub first_at : IsAt net n first
  pub runs : Runs net days first.journey day
  pub in_time : slice_index ready first.from ≤ moment days day first.departs

-- the run can be boarded in time at the one connection, and goes on to the other
pub record IsOnRun (ready : List ℕ) (net : Connections) (days : Days) (day board n : ℕ) : Type 0 where
  pub day_in : day < 4
  pub boards : Boards ready net days day board
  pub last : Connection
  pub last_at : IsAt net n last
  pub in_order : board ≤ n
  pub journey : boards.first.journey ≡ last.journey

-- labels fell where the connection leaves on the day, or later
abbrev pub FallsAt : Labels → Labels → Connections → Days → ℕ → ℕ → Type 0
FallsAt old new net days day n = (connection : Connection) → IsAt net n connection → FallAfter (moment days day connection.departs) old new

-- the label where the connection goes is not above its arrival
abbrev pub IsLowAt : List ℕ → Connections → Days → ℕ → ℕ → Type 0
IsLowAt arrives net days day n = (connection : Connection) → IsAt net n connection → slice_index arrives connection.to ≤ moment days day connection.arrives

-- where the run of the journey on the day stands among the boarded
abbrev pub run_of : ℕ → ℕ → ℕ
run_of journey day = 4 * journey + day

-- there is a number for each run
abbrev pub IsCountOfRuns : List ℕ → Connections → Type 0
IsCountOfRuns boarded net = length boarded ≡ 4 * length net.services.items

-- what boarding at the connection did: 0 where the run was not boarded, and cannot be boarded here
pub record HasBoarded (old new ready : List ℕ) (net : Connections) (days : Days) (day n board : ℕ) : Type 0 where
  pub of : Connection
  pub at : IsAt net n of
  pub count : length new ≡ length old
  pub here : slice_index new (run_of of.journey day) ≡ board
  pub others : (run : ℕ) → run ≢ run_of of.journey day → slice_index new run ≡ slice_index old run
  pub none : board ≡ 0 → (slice_index old (run_of of.journey day) ≡ 0) × (Boards ready net days day n → ⊥)
  pub some : (b : ℕ) → board ≡ b + 1 → (slice_index old (run_of of.journey day) ≡ b + 1) ⊎ ((b ≡ n) × Boards ready net days day n)

-- the run was boarded at a connection that was looked at
pub record IsBoarded (ready : List ℕ) (net : Connections) (days : Days) (cursor day journey n : ℕ) : Type 0 where
  pub within : n < cursor
  pub boards : Boards ready net days day n
  pub of : boards.first.journey ≡ journey

-- what holds where of each day the connections before its cursor were looked at
pub record IsSwept (progress : Progress) (net : Connections) (days : Days) (asked : Asked) : Type 0 where
  pub labels : AreLabels progress.labels net days asked
  pub runs : IsCountOfRuns progress.boarded.items net
  pub cursors_count : length progress.cursors.items ≡ 4
  pub ends_count : length progress.ends.items ≡ 4
  pub within : (day : ℕ) → day < 4 → slice_index progress.cursors.items day ≤ slice_index progress.ends.items day
  pub ends_in : (day : ℕ) → day < 4 → slice_index progress.ends.items day ≤ length net.sorted.items
  -- no ride to where one was looked at arrives before the label
  pub closed : (day b n : ℕ) (first last : Connection) → day < 4 → b ≤ n → n < slice_index progress.cursors.items day → IsAt net b first → IsAt net n last → first.journey ≡ last.journey
      → Boards progress.labels.ready.items net days day b → slice_index progress.labels.arrives.items last.to ≤ moment days day last.arrives
  -- a run that was not boarded could not be
  pub none : (day n : ℕ) (of : Connection) → day < 4 → n < slice_index progress.cursors.items day → IsAt net n of → slice_index progress.boarded.items (run_of of.journey day) ≡ 0
      → Boards progress.labels.ready.items net days day n → ⊥
  pub some : (day journey n : ℕ) → day < 4 → journey < length net.services.items → slice_index progress.boarded.items (run_of journey day) ≡ n + 1
      → IsBoarded progress.labels.ready.items net days (slice_index progress.cursors.items day) day journey n
  -- what was looked at leaves no later than what was not
  pub in_turn : (x n y m : ℕ) (c d : Connection) → x < 4 → y < 4 → n < slice_index progress.cursors.items x → slice_index progress.cursors.items y ≤ m → m < slice_index progress.ends.items y
      → IsAt net n c → IsAt net m d → moment days x c.departs ≤ moment days y d.departs
  -- what is past the ends leaves too late
  pub late : (day n : ℕ) (of : Connection) → day < 4 → slice_index progress.ends.items day ≤ n → IsAt net n of → asked.start + day_long < moment days day of.departs

-- the day's next connection leaves no later than any other that was not looked at
pub record IsNext (progress : Progress) (net : Connections) (days : Days) (day : ℕ) : Type 0 where
  pub within : slice_index progress.cursors.items day < slice_index progress.ends.items day
  pub least : (y m : ℕ) (c d : Connection) → y < 4 → slice_index progress.cursors.items y ≤ m → m < slice_index progress.ends.items y
      → IsAt net (slice_index progress.cursors.items day) c → IsAt net m d → moment days day c.departs ≤ moment days y d.departs

-- the moment at which the day's next connection leaves, and one past all moments where there is none
abbrev pub IsMoment : Progress → Connections → Days → ℕ → ℕ → Type 0
IsMoment progress net days day at =
    ((slice_index progress.ends.items day ≤ slice_index progress.cursors.items day) × (at ≡ 2 ^ 64 - 1))
    ⊎ ((slice_index progress.cursors.items day < slice_index progress.ends.items day) × (at < 2 ^ 64 - 1)
    × ((of : Connection) × IsAt net (slice_index progress.cursors.items day) of × (at ≡ moment days day of.departs)))

-- of the first days the one whose next connection leaves first, and a limit that the others keep
pub record IsFirst (progress : Progress) (net : Connections) (days : Days) (count : ℕ) (next : Next) : Type 0 where
  pub day_in : next.day < count
  pub at : IsMoment progress net days next.day next.at
  pub limit : next.limit < 2 ^ 64 - 1
  pub others : (day at : ℕ) → day < count → day ≢ next.day → IsMoment progress net days day at → (next.at ≤ at) × (next.limit ≤ at)

-- no connection of another day that was not looked at leaves before the limit
abbrev pub IsLimit : Progress → Connections → Days → ℕ → ℕ → Type 0
IsLimit progress net days x limit =
    (y m : ℕ) (d : Connection) → y < 4 → y ≢ x → slice_index progress.cursors.items y ≤ m → m < slice_index progress.ends.items y → IsAt net m d → limit ≤ moment days y d.departs

-- the day went on, and the others stand
pub record GoesFurther (old new : Progress) (x : ℕ) : Type 0 where
  pub ends : new.ends.items ≡ old.ends.items
  pub further : slice_index old.cursors.items x < slice_index new.cursors.items x
  pub others : (y : ℕ) → y ≢ x → slice_index new.cursors.items y ≡ slice_index old.cursors.items y

-- how many connections of the four days are left
abbrev pub left : Progress → ℕ → ℕ
left progress day = slice_index progress.ends.items day - slice_index progress.cursors.items day

abbrev pub all_left : Progress → ℕ
all_left progress = left progress 0 + left progress 1 + left progress 2 + left progress 3

-- what the limit of a run keeps on its way
pub record IsRunning (old new : Progress) (net : Connections) (days : Days) (asked : Asked) (day limit : ℕ) : Type 0 where
  pub swept : IsSwept new net days asked
  pub next : IsNext new net days day
  pub limited : IsLimit new net days day limit
  pub ends : new.ends.items ≡ old.ends.items
  pub kept : KeepsReady asked old.labels new.labels
  pub further : slice_index old.cursors.items day ≤ slice_index new.cursors.items day
  pub others : (y : ℕ) → y ≢ day → slice_index new.cursors.items y ≡ slice_index old.cursors.items y

-- so many connections leave before the moment on the day, and the others do not
pub record IsCountBefore (net : Connections) (days : Days) (day at count : ℕ) : Type 0 where
  pub within : count ≤ length net.sorted.items
  pub before : (n : ℕ) (of : Connection) → n < count → IsAt net n of → moment days day of.departs < at
  pub after : (n : ℕ) (of : Connection) → count ≤ n → IsAt net n of → at ≤ moment days day of.departs

-- there is room for each place, run and day
pub record HasRoom (progress : Progress) (net : Connections) : Type 0 where
  pub arrives : length progress.labels.arrives.items ≡ length net.changes.items
  pub ready : length progress.labels.ready.items ≡ length net.changes.items
  pub next : length progress.labels.next.items ≡ length net.changes.items
  pub hops : length progress.labels.hops.items ≡ length net.changes.items
  pub runs : IsCountOfRuns progress.boarded.items net
  pub cursors : length progress.cursors.items ≡ 4
  pub ends : length progress.ends.items ≡ 4

-- what holds where a search was begun on the first days
pub record IsBegun (progress : Progress) (net : Connections) (days : Days) (asked : Asked) (count : ℕ) : Type 0 where
  pub room : HasRoom progress net
  pub labels : AreLabels progress.labels net days asked
  pub none : (run : ℕ) → run < length progress.boarded.items → slice_index progress.boarded.items run ≡ 0
  pub cursors : (day : ℕ) → day < count → IsCountBefore net days day asked.start (slice_index progress.cursors.items day)
  pub ends : (day : ℕ) → day < count → IsCountBefore net days day (asked.start + 86401) (slice_index progress.ends.items day)
