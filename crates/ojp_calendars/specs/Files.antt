-- Zone files.
use Rattle.std.specs.Prelude.{◌≡◌, ℕ, ◌-◌, ◌==◌, ◌⊎◌, not, cond, Ok, Err, length, take, drop, slice_index}
use Rattle.std.specs.List.{suffix_len}
use Rattle.jiff_core.specs.declared.error.TzifFault.{TzifFault}
use Rattle.jiff_tz.specs.Tzif.{HasBadRule, tzif_view}
use Rattle.jiff_tz.specs.TzifReader.{read_tzif}
use Rattle.jiff_tz.specs.declared.tzif.Tzif.{Tzif}
use Rattle.ojp_zones.specs.Parts.{Text}
use Rattle.ojp_calendars.specs.Noons.{Fits}
use Rattle.ojp_calendars.specs.Rules.{NoneFits}
use Rattle.ojp_calendars.specs.declared.faults.ZoneFault.{ZoneFault}
use Rattle.ojp_calendars.specs.declared.faults.ZoneFault.TheVariants.{Memory, File, Rule}

-- the text without the line feed at its end, if there is one
abbrev pub without_feed : Text → Text
without_feed text = cond (slice_index text (length text - 1) == 10) (take (length text - 1) text) text

-- the bytes at the end that are no line feeds
abbrev pub behind_feeds : Text → Text
behind_feeds text = drop (length text - suffix_len (λ b. not (b == 10)) text) text

-- the last line of a file
unfoldable pub last_line : Text → Text
last_line file = behind_feeds (without_feed file)

-- the bytes are read as this table
abbrev pub IsTable : Text → Tzif → Type 0
IsTable file table = read_tzif file ≡ Ok (tzif_view table)

-- the text names a zone whose noons on the days from the first to the last are those of the file
pub record IsZoned (file : Text) (first last : ℕ) (text : Text) : Type 0 where
  pub table : Tzif
  pub read : IsTable file table
  pub fits : Fits table first last text

-- the bytes are no zone file, or its last line does not agree with its table
abbrev pub IsNoFile : Text → Type 0
IsNoFile file = ((fault : TzifFault) × (read_tzif file ≡ Err fault)) ⊎ HasBadRule (read_tzif file)

-- none of the texts that are tried for the file fits
pub record HasNoRule (file : Text) (first last : ℕ) : Type 0 where
  pub table : Tzif
  pub read : IsTable file table
  pub none : NoneFits table (last_line file) first last

-- why no zone is given; want of memory is free
abbrev pub HasCause : Text → ℕ → ℕ → ZoneFault → Type 0
HasCause file first last Memory = Unit {0}
HasCause file first last File = IsNoFile file
HasCause file first last Rule = HasNoRule file first last
