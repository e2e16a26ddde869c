-- Outcomes: the exit status of one, and the line that is printed of it.
use Rattle.std.specs.Prelude.{◌≡◌, ◌⊎◌, ℕ, List, [], ◌∷◌, ◌++◌, codes, decimal}
use Rattle.term_index.specs.declared.outcome.Outcome.{Outcome}
use Rattle.term_index.specs.declared.outcome.Outcome.TheVariants.{Done, Usage, NotYet, InputTooLong, BadInput, TooManyDocuments, BadField, KeyTooLong, ArenaFull, Query, TooDeep, UnsupportedSlop, UnsupportedRegex, Version, Corrupt, Compressed, InFault, StoreFault, ReadFault, OutFault, Memory}

-- the outcome is one of these
abbrev pub IsAmong : List Outcome → Outcome → Type 0
IsAmong [] outcome = ⊥
IsAmong (one ∷ others) outcome = (outcome ≡ one) ⊎ IsAmong others outcome

-- ---- as texts

-- texts, one after the other
abbrev pub joined : List (List ℕ) → List ℕ
joined [] = []
joined (part ∷ parts) = part ++ joined parts

-- a line of a text and a number in decimal
abbrev pub numbered_line : List ℕ → ℕ → List ℕ
numbered_line front number = joined (front ∷ decimal number ∷ codes "\n" ∷ [])

-- a line of a text, the number of a document and that of a pair in it
abbrev pub placed_line : List ℕ → ℕ → ℕ → List ℕ
placed_line front doc pair = joined (front ∷ decimal doc ∷ codes " " ∷ decimal pair ∷ codes "\n" ∷ [])

abbrev pub status_of : Outcome → ℕ
status_of Done = 0
status_of Usage = 2
status_of NotYet = 9
status_of InputTooLong = 3
status_of BadInput = 3
status_of TooManyDocuments = 4
status_of (BadField doc pair) = 4
status_of (KeyTooLong doc pair) = 4
status_of ArenaFull = 4
status_of Query = 5
status_of TooDeep = 5
status_of UnsupportedSlop = 5
status_of UnsupportedRegex = 5
status_of (Version version) = 6
status_of Corrupt = 6
status_of (Compressed place) = 6
status_of InFault = 7
status_of StoreFault = 7
status_of ReadFault = 7
status_of OutFault = 7
status_of Memory = 8

-- an outcome that tells no number
abbrev pub HasNoNumbers : Outcome → Type 0
HasNoNumbers (BadField doc pair) = ⊥
HasNoNumbers (KeyTooLong doc pair) = ⊥
HasNoNumbers (Version version) = ⊥
HasNoNumbers (Compressed place) = ⊥
HasNoNumbers _ = Unit {0}

-- the line, with its line feed. Numbers are in decimal
abbrev pub line_of : Outcome → List ℕ
line_of Done = []
line_of Usage = codes "usage\n"
line_of NotYet = codes "not yet\n"
line_of InputTooLong = codes "input too long\n"
line_of BadInput = codes "bad input\n"
line_of TooManyDocuments = codes "too many documents\n"
line_of (BadField doc pair) = placed_line (codes "bad field ") doc pair
line_of (KeyTooLong doc pair) = placed_line (codes "key too long ") doc pair
line_of ArenaFull = codes "arena full\n"
line_of Query = codes "query refused\n"
line_of TooDeep = codes "query too deep\n"
line_of UnsupportedSlop = codes "unsupported slop\n"
line_of UnsupportedRegex = codes "unsupported regex\n"
line_of (Version version) = numbered_line (codes "version ") version
line_of Corrupt = codes "corrupt\n"
line_of (Compressed place) = numbered_line (codes "compressed ") place
line_of InFault = codes "input failed\n"
line_of StoreFault = codes "store failed\n"
line_of ReadFault = codes "file failed\n"
line_of OutFault = codes "output failed\n"
line_of Memory = codes "out of memory\n"
