-- What a script says of asks.
use Rattle.std.specs.Prelude.{ℕ, ◌==◌, Bool, true, false, List, [], ◌∷◌, Option, Some, None, if◌then◌else◌}
use Rattle.ojp_links_mem.specs.declared.script.What.{What}
use Rattle.ojp_links_mem.specs.declared.script.What.TheVariants.{FailAsk, FailMore, Reply}
use Rattle.ojp_links_mem.specs.declared.script.Script.{Script}

-- what the script says of the ask with the number: its first entry of it
abbrev pub said_of : List Script → ℕ → Option What
said_of [] number = None
said_of (entry ∷ entries) number = if entry.ask == number then Some entry.what else said_of entries number

-- what is said with one more entry behind: what was said before holds
abbrev pub said_more : Option What → Script → ℕ → Option What
said_more (Some what) entry number = Some what
said_more None entry number = if entry.ask == number then Some entry.what else None

-- the timetable that answers, where the ask does not fail at once
abbrev pub answering : Option What → Option ℕ → Option ℕ
answering (Some FailAsk) table = None
answering (Some FailMore) table = table
answering (Some (Reply bytes)) table = table
answering None table = table

-- whether its looks fail
abbrev pub fails_later : Option What → Bool
fails_later (Some FailMore) = true
fails_later (Some FailAsk) = false
fails_later (Some (Reply bytes)) = false
fails_later None = false

-- the reply that is stated, if one is
abbrev pub stated : Option What → Option (List ℕ)
stated (Some (Reply bytes)) = Some bytes.items
stated (Some FailAsk) = None
stated (Some FailMore) = None
stated None = None
