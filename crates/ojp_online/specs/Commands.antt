-- What the code's commands mean.
use Rattle.std.specs.Prelude.{Option, Some, None}
use Rattle.std.specs.Borrow.{Bor}
use Rattle.ojp_values.specs.Texts.{Text}
use Rattle.ojp_online.specs.Words.{Command as Words, Region as RegionWords, Gateway as GatewayWords, Ask as AskWords}
use Rattle.ojp_online.specs.declared.words.Command.{Command}
use Rattle.ojp_online.specs.declared.words.Command.TheVariants.{Region, Gateway, Ask}

-- the text of a word, if there is one
abbrev pub text_in : Option (Bor Text) → Option Text
text_in None = None
text_in (Some word) = Some word.now

abbrev pub words_of : Command → Words
words_of (Region words) = RegionWords words.file.now words.port.now (text_in words.count)
words_of (Gateway words) = GatewayWords words.file.now words.port.now (text_in words.count)
words_of (Ask words) = AskWords words.host.now words.port.now

-- the command that the code's value stands for
abbrev pub meaning : Option Command → Option Words
meaning None = None
meaning (Some command) = Some (words_of command)
