use Rattle.std.proofs.Common.{◌≡◌, ◌-◌, ◌+◌, ◌*◌, ◌/◌, length}
use Rattle.tantivy_stacker.specs.Hashing.{hash_words}
use Rattle.tantivy_stacker.proofs.hash.get_hash.Given as goal

abbrev pub invariant-loop-word : goal.invariant-loop-word
invariant-loop-word l =
    (length l.rest + 8 * l._word ≡ length l.key) × (hash_words (length l.key / 8 - l._word) l.gathered l.rest ≡ hash_words (length l.key / 8) (length l.key) l.key)
