-- How the command that the words are ends, what it writes and prints, and how much of the file it reads.
use Rattle.std.specs.Prelude.{◌≡◌, List, ℕ, Option, true}
use Rattle.std.specs.Io.KnownBytes.{Keeps}
use Rattle.owned_bytes.specs.Outside.{FileState}
use Rattle.term_search.specs.Searching as searching
use Rattle.term_search.specs.Searching.{ReadsFor}
use Rattle.term_index.specs.declared.outcome.Outcome.{Outcome}
use Rattle.term_index.specs.declared.outcome.Outcome.TheVariants.{Done, NotYet}
use Rattle.term_index.specs.Commands.{Command, build, search, ask, tree, generate, IfCommand, reads_documents}
use Rattle.term_index.specs.Source.{IsReadWhole}
use Rattle.term_index.specs.Build.{BuildEnds, Builds}
use Rattle.term_index.specs.Search.{SearchEnds, Searches}
use Rattle.term_index.specs.Ask.{AskEnds, Asks}
use Rattle.term_index.specs.Tree.{TreeEnds, PrintsTree}

-- which outcome a command has, by what the source and the file tell
abbrev pub CommandEnds : Outcome → Option (List ℕ) → FileState → Command → Type 0
CommandEnds outcome left file (build path pages) = BuildEnds pages left outcome
CommandEnds outcome left file (search path field query) = SearchEnds query file outcome
CommandEnds outcome left file (ask field query) = AskEnds query left outcome
CommandEnds outcome left file (tree query) = TreeEnds query outcome
CommandEnds outcome left file (generate seed count) = outcome ≡ NotYet

-- what it appends to the store
abbrev pub CommandStores : Outcome → Option (List ℕ) → Option (List ℕ) → Option (List ℕ) → Command → Type 0
CommandStores outcome left old new (build path pages) = Builds pages outcome left old new
CommandStores outcome left old new _ = Keeps old new

-- what it appends to the output
abbrev pub CommandPrints : Outcome → Option (List ℕ) → FileState → Option (List ℕ) → Option (List ℕ) → Command → Type 0
CommandPrints outcome left file old new (search path field query) = Searches query field outcome file old new
CommandPrints outcome left file old new (ask field query) = Asks query field outcome left old new
CommandPrints outcome left file old new (tree query) = PrintsTree query outcome old new
CommandPrints outcome left file old new _ = Keeps old new

-- a command that reads documents and is done has read the source to its end
abbrev pub CommandReadsWhole : Outcome → Option (List ℕ) → Option (List ℕ) → Command → Type 0
CommandReadsWhole outcome before now command = outcome ≡ Done → reads_documents command ≡ true → IsReadWhole before now

-- how many reads of the file it makes
abbrev pub CommandReads : FileState → FileState → Command → Type 0
CommandReads before now (search path field query) = ReadsFor query field before now
CommandReads before now _ = now ≡ before

-- how many bytes of the file it asks for
abbrev pub CommandFetches : FileState → FileState → Command → Type 0
CommandFetches before now (search path field query) = searching.Fetches query field before now
CommandFetches before now _ = now ≡ before

-- ---- the same of words, where they are a command

abbrev pub Ends : List (List ℕ) → Outcome → Option (List ℕ) → FileState → Type 0
Ends words outcome left file = IfCommand words (CommandEnds outcome left file)

abbrev pub Stores : List (List ℕ) → Outcome → Option (List ℕ) → Option (List ℕ) → Option (List ℕ) → Type 0
Stores words outcome left old new = IfCommand words (CommandStores outcome left old new)

abbrev pub Prints : List (List ℕ) → Outcome → Option (List ℕ) → FileState → Option (List ℕ) → Option (List ℕ) → Type 0
Prints words outcome left file old new = IfCommand words (CommandPrints outcome left file old new)

abbrev pub ReadsWhole : List (List ℕ) → Outcome → Option (List ℕ) → Option (List ℕ) → Type 0
ReadsWhole words outcome before now = IfCommand words (CommandReadsWhole outcome before now)

abbrev pub Reads : List (List ℕ) → FileState → FileState → Type 0
Reads words before now = IfCommand words (CommandReads before now)

abbrev pub Fetches : List (List ℕ) → FileState → FileState → Type 0
Fetches words before now = IfCommand words (CommandFetches before now)
