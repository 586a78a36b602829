-- How a command fails: its status and its text on standard error.
use Rattle.std.specs.Prelude.{ℕ, [], ◌∷◌, ◌++◌, codes}
use Rattle.std.specs.Fmt.{decimal}
use Rattle.ojp_values.specs.Texts.{Text}
use Rattle.ojp_timetable.specs.Views.{reason_words}
use Rattle.ojp_grammar.specs.Reasons.{refusal_text}
use Rattle.ojp_exchange.specs.declared.refusals.BookRefused.{BookRefused}
use Rattle.ojp_exchange.specs.declared.refusals.BookRefused.TheVariants as books
use Rattle.ojp_steps.specs.declared.failures.Failure.{Failure}
use Rattle.ojp_steps.specs.declared.failures.Failure.TheVariants.{Document, Words, Unread, TooLong, Input, Output, Memory, Line, Twice, TooMany, Disagree, Region, Doors}

-- the exit status
abbrev pub status_of : Failure → ℕ
status_of (Document at reason) = 1
status_of Words = 2
status_of (Unread file) = 3
status_of (TooLong file) = 3
status_of Input = 3
status_of Output = 4
status_of Memory = 5
status_of (Line file line reason) = 6
status_of (Twice code) = 7
status_of TooMany = 7
status_of (Disagree point left right) = 7
status_of (Region code) = 8
status_of Doors = 9

-- a text as a line
abbrev pub line_of : Text → Text
line_of text = text ++ 10 ∷ []

-- a line of a file is refused
abbrev pub refused_line_text : Text → ℕ → Text → Text
refused_line_text file line reason = file ++ codes ": line " ++ decimal line ++ codes ": " ++ reason

-- two timetables are of one region
abbrev pub twice_text : Text → Text
twice_text code = codes "region twice: " ++ code

-- two regions disagree at an exchange point
abbrev pub dispute_text : Text → Text → Text → Text
dispute_text point left right = codes "regions disagree: " ++ point ++ codes " " ++ left ++ codes " " ++ right

-- a region failed
abbrev pub region_text : Text → Text
region_text code = codes "region failed: " ++ code

-- what stands on standard error
abbrev pub text_of : Failure → Text
text_of (Document at reason) = refusal_text at reason
text_of Words = codes "ojp: bad words"
text_of (Unread file) = codes "store: " ++ file.now
text_of (TooLong file) = codes "too long: " ++ file.now
text_of Input = codes "input"
text_of Output = codes "output"
text_of Memory = codes "no memory"
text_of (Line file line reason) = refused_line_text file.now line (reason_words reason)
text_of (Twice code) = twice_text code
text_of TooMany = codes "too many"
text_of (Disagree point left right) = dispute_text point left right
text_of (Region code) = region_text code
text_of Doors = codes "doors"

-- the failure of a command whose regions make no book
abbrev pub failure_of_book : BookRefused → Failure
failure_of_book (books.TwiceRegion code) = Twice code
failure_of_book books.TooMany = TooMany
failure_of_book (books.Disagree point left right) = Disagree point left right
failure_of_book books.NoMemory = Memory
