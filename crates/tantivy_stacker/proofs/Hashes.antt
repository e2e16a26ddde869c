-- A hash while it is gathered.
use Rattle.std.proofs.Common.{◌≡◌, ℕ, suc, ◌+◌, ◌-◌, ◌*◌, ◌<◌, ◌≤◌, List, length, take, drop, sym, ap, ◌∙◌, arith, length-drop}
use Rattle.std.specs.Int.{w64, from_le_bytes}
use Rattle.std.proofs.lemmas.List.{take_rest}
use Rattle.tantivy_stacker.specs.Hashing.{mixed, hash_words}

pub hash_more : (words i h all len h' : ℕ) (rest key : List ℕ) → i < words → 8 ≤ length rest → h' ≡ mixed h (from_le_bytes w64 (take 8 rest)) → (length rest + 8 * i ≡ len) × (hash_words (words - i) h rest ≡ all) → (length (take (length rest - 8) (drop 8 rest)) + 8 * (i + 1) ≡ len) × (hash_words (words - (i + 1)) h' (take (length rest - 8) (drop 8 rest)) ≡ all)
unfolding hash_words
hash_more words i h all len h' rest key more long next s =
    let size = s.0 in
    let left : words - i ≡ suc (words - (i + 1)) = omega arith in
    let cut = take_rest rest 8 in (
      omega (arith, ap length cut, length-drop 8 rest),
      rw (next, cut) (ap (λ n. hash_words n h rest) (sym left) ∙ s.1),
    )
