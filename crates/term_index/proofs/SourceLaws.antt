-- What a source holds.
use Rattle.std.proofs.Common.{◌≡◌, ◌<◌, ◌+◌, ℕ, List, [], length, Option, Some, None, IfSome, refl, ap, arith}
use Rattle.std.specs.Prelude.{replicate}
use Rattle.std.proofs.lemmas.List.{length-replicate}
use Rattle.std.specs.Io.KnownBytes.{Consumes, IsAtEnd}
use Rattle.term_index.specs.declared.input.TheConstants.{INPUT_LIMIT}
use Rattle.term_index.specs.Source.{AreHeld, IsReadWhole, IsTooLong}

-- bytes that a source may hold
pub some_held : (left : Option (List ℕ)) → (bytes : List ℕ) × AreHeld left bytes
some_held None = ([], tt)
some_held (Some told) = (told, refl)

-- bytes were taken up to the end
pub read_whole : (before now : Option (List ℕ)) (bytes : List ℕ) → Consumes before now bytes → IsAtEnd now → IsReadWhole before now
read_whole None now bytes consumed at_end = record { at_end = at_end; told = tt }
read_whole (Some all) None bytes consumed at_end = absurd consumed
read_whole (Some all) (Some rest) bytes consumed at_end = record { at_end = at_end; told = ap (λ (l : List ℕ). Some l) at_end }

longer : (n : ℕ) (bytes : List ℕ) → length bytes ≡ n + 1 → n < length bytes
longer n bytes is = omega (arith, is)

some_longer : (n : ℕ) → (bytes : List ℕ) × (n < length bytes)
some_longer n = let zeros : List ℕ = replicate (n + 1) 0 in (zeros, longer n zeros (length-replicate {A = ℕ} (n + 1) 0))

-- told bytes are too many
pub too_long : (left : Option (List ℕ)) → IfSome left (λ all. INPUT_LIMIT < length all) → IsTooLong left
too_long None long = let longer = some_longer INPUT_LIMIT in record { bytes = longer.0; held = tt; long = longer.1 }
too_long (Some all) long = record { bytes = all; held = refl; long = long }
