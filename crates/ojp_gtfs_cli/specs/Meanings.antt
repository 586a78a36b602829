-- What the code's words mean.
use Rattle.std.specs.Prelude.{Option, Some, None}
use Rattle.std.specs.Borrow.{Bor}
use Rattle.ojp_values.specs.Texts.{Text}
use Rattle.ojp_gtfs_cli.specs.Words.{Chosen, Wanted, texts_of}
use Rattle.ojp_gtfs_cli.specs.declared.words.Options.{Options}
use Rattle.ojp_gtfs_cli.specs.declared.words.Words.{Words}

-- the text of a word, if there is one
abbrev pub text_in : Option (Bor Text) → Option Text
text_in None = None
text_in (Some word) = Some word.now

-- what the options say
abbrev pub chosen_by : Options → Chosen
chosen_by options = record {
  from = text_in options.from;
  to = text_in options.to;
  zone = text_in options.zone;
  exchange = text_in options.exchange;
  change = text_in options.change;
  station_change = text_in options.station_change;
  as_open = options.as_open;
  strict = options.strict;
}

abbrev pub chosen_in : Option Options → Option Chosen
chosen_in None = None
chosen_in (Some options) = Some (chosen_by options)

-- what the words ask for
abbrev pub wanted_by : Words → Wanted
wanted_by words = record {
  code = words.code;
  window = words.window;
  change = words.change;
  station_change = words.station_change;
  options = texts_of words.rest.now;
  chosen = chosen_by words.options;
}
