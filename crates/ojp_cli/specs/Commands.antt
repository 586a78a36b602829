-- What the code's commands mean.
use Rattle.std.specs.Prelude.{Option, Some, None}
use Rattle.std.specs.Borrow.{Bor}
use Rattle.ojp_values.specs.Texts.{Text}
use Rattle.ojp_cli.specs.Words.{Command as Words, texts_of, Plan as PlanWords, Check as CheckWords, Load as LoadWords}
use Rattle.ojp_cli.specs.declared.words.Command.{Command}
use Rattle.ojp_cli.specs.declared.words.Command.TheVariants.{Plan, Check, Load}

-- the text of a word, if there is one
abbrev pub text_in : Option (Bor Text) → Option Text
text_in None = None
text_in (Some word) = Some word.now

abbrev pub words_of : Command → Words
words_of (Plan words) = PlanWords (text_in words.order) words.traces (texts_of words.files.now)
words_of Check = CheckWords
words_of (Load number) = LoadWords number.now

-- the command that the code's value stands for
abbrev pub meaning : Option Command → Option Words
meaning None = None
meaning (Some command) = Some (words_of command)
