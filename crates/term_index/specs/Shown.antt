-- A command of the code, as contracts see it, and what reading the words of one answers.
use Rattle.std.specs.Prelude.{◌≡◌, ◌≢◌, ◌<◌, ◌^◌, ℕ, List, Option, Some, None, decimal}
use Rattle.term_index.specs.declared.command_line.Command.{Command}
use Rattle.term_index.specs.declared.command_line.Command.TheVariants.{Build, Search, Ask, Tree, Generate}
use Rattle.term_index.specs.Commands as commands
use Rattle.term_index.specs.Commands.{IsCommand, IsNoCommand}

abbrev pub shown : Command → commands.Command
shown (Build path pages) = commands.build path.now pages
shown (Search path field query) = commands.search path.now field.now query.now
shown (Ask field query) = commands.ask field.now query.now
shown (Tree query) = commands.tree query.now
shown (Generate seed count) = commands.generate seed count

-- the command that the words are, or none where they are none
abbrev pub Parses : List (List ℕ) → Option Command → Type 0
Parses words None = IsNoCommand words
Parses words (Some command) = IsCommand words (shown command)

-- the number of which the word is the decimal text, or none where it is of none
abbrev pub ParsesNumber : List ℕ → Option ℕ → Type 0
ParsesNumber word None = (n : ℕ) → n < 2 ^ 64 → word ≢ decimal n
ParsesNumber word (Some n) = (word ≡ decimal n) × (n < 2 ^ 64)
