-- What calls that take values and write them did.
use Rattle.std.specs.Prelude.{◌≡◌, false}
use Rattle.sstable_values.specs.declared.errors.ValueError.{ValueError}
use Rattle.sstable_values.specs.declared.errors.ValueError.TheVariants.{Memory, Refused}
use Rattle.sstable_values.specs.Values.{Values}
use Rattle.sstable_values.specs.Codec.{Codec}
use Rattle.sstable_values.specs.Reads.{ReadsAgain}

-- the bytes that the values are written as are read as them again, whatever follows
abbrev pub AreReadAgain : {V : Type 0} → Codec V → Values V → Type 0
AreReadAgain codec values = ReadsAgain codec.values_of (codec.spelled values) values

-- Refused comes only where the value may not come after these
abbrev pub RefusesValue : {V : Type 0} → Codec V → Values V → V → ValueError → Type 0
RefusesValue codec values value Memory = Unit {0}
RefusesValue codec values value Refused = codec.accepts values value ≡ false
