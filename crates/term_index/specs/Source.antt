-- The documents of a source.
use Rattle.std.specs.Prelude.{◌≡◌, ◌<◌, ◌≤◌, ◌+◌, ◌-◌, ◌^◌, ℕ, min, List, [], length, Option, None, Some, IfSome}
use Rattle.std.specs.Io.KnownBytes.{IsAtEnd}
use Rattle.documents.specs.declared.documents.Doc.{Doc}
use Rattle.term_index.specs.declared.input.TheConstants.{INPUT_LIMIT}
use Rattle.term_index.specs.declared.outcome.Outcome.{Outcome}
use Rattle.term_index.specs.declared.outcome.Outcome.TheVariants.{InputTooLong, BadInput, InFault, Memory}
use Rattle.term_index.specs.Reading.{docs_of}

-- more than so many bytes were taken, or the count stands at its last value
abbrev pub TakenPast : ℕ → ℕ → ℕ → Type 0
TakenPast limit before now = min (before + limit + 1) (2 ^ 64 - 1) ≤ now

-- The source holds these bytes: where it tells its bytes, they are these.
abbrev pub AreHeld : Option (List ℕ) → List ℕ → Type 0
AreHeld left bytes = IfSome left (λ told. bytes ≡ told)

-- The source is at its end. Where it told its bytes, it tells that none are left.
pub record IsReadWhole (before now : Option (List ℕ)) : Type 0 where
  pub at_end : IsAtEnd now
  pub told : IfSome before (λ bytes. now ≡ Some [])

-- bytes that a command reads whole, and that spell these documents
pub record Spell (bytes : List ℕ) (docs : List Doc) : Type 0 where
  pub short : length bytes ≤ INPUT_LIMIT
  pub spelled : docs_of bytes ≡ Some docs

-- The source holds bytes that spell these documents.
pub record Tells (left : Option (List ℕ)) (docs : List Doc) : Type 0 where
  pub bytes : List ℕ
  pub held : AreHeld left bytes
  pub spell : Spell bytes docs

-- the source holds more bytes than a command reads
pub record IsTooLong (left : Option (List ℕ)) : Type 0 where
  pub bytes : List ℕ
  pub held : AreHeld left bytes
  pub long : INPUT_LIMIT < length bytes

-- the source holds bytes that spell no documents
pub record IsBad (left : Option (List ℕ)) : Type 0 where
  pub bytes : List ℕ
  pub held : AreHeld left bytes
  pub short : length bytes ≤ INPUT_LIMIT
  pub unspelled : docs_of bytes ≡ None

-- What an outcome that comes before the documents are known says of the source.
abbrev pub Unread : Outcome → Option (List ℕ) → Type 0
Unread InFault left = Unit {0}
Unread Memory left = Unit {0}
Unread InputTooLong left = IsTooLong left
Unread BadInput left = IsBad left
Unread _ left = ⊥
