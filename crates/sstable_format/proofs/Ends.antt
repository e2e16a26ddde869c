-- What is read at the end of some bytes.
use Rattle.std.proofs.Common.{◌≡◌, ℕ, ◌-◌, ◌<◌, ◌≤◌, List, [], length, take, drop, Option, Some, None, Bool, true, false, ap, ◌∙◌, arith, length-drop, drop-drop, leb}
use Rattle.std.proofs.lemmas.Bool.{le-leb, lt-leb}
use Rattle.std.proofs.lemmas.List.{take_all, drop_all}
use Rattle.std.specs.Int.{Width, byte_len, w32, w64, from_le_bytes}
use Rattle.owned_bytes.specs.Front.{Reading, ◌>>=◌, provided, number_at, bytes_at}
use Rattle.sstable_format.specs.declared.footer.Footer.{Footer}
use Rattle.sstable_format.specs.Footer.{footer_at}
use Rattle.sstable_format.specs.Index.{at_end}

pub provided-holds : {A : Type 0} (b : Bool) (next : Option A) → b ≡ true → (provided b >>= (λ _. next)) ≡ next
provided-holds b next e = ap (λ t. provided t >>= (λ _. next)) e

pub provided-fails : {A : Type 0} (b : Bool) (next : Option A) → b ≡ false → (provided b >>= (λ _. next)) ≡ None
provided-fails b next e = ap (λ t. provided t >>= (λ _. next)) e

pub bytes_at-front : (n : ℕ) (bytes : List ℕ) → n ≤ length bytes → bytes_at n bytes ≡ Some (take n bytes, drop n bytes)
bytes_at-front n bytes fits = provided-holds (leb n (length bytes)) (Some (take n bytes, drop n bytes)) (le-leb _ _ fits)

pub bytes_at-none : (n : ℕ) (bytes : List ℕ) → length bytes < n → bytes_at n bytes ≡ None
bytes_at-none n bytes short = provided-fails (leb n (length bytes)) (Some (take n bytes, drop n bytes)) (lt-leb _ _ short)

pub number_at-front : (w : Width) (bytes : List ℕ) → byte_len w ≤ length bytes → number_at w bytes ≡ Some (from_le_bytes w (take (byte_len w) bytes), drop (byte_len w) bytes)
number_at-front w bytes fits = ap (λ o. o >>= (λ piece. Some (from_le_bytes w piece.0, piece.1))) (bytes_at-front (byte_len w) bytes fits)

pub number_at-whole : (w : Width) (bytes : List ℕ) → length bytes ≡ byte_len w → number_at w bytes ≡ Some (from_le_bytes w bytes, [])
number_at-whole w bytes fits =
    number_at-front w bytes (omega arith)
    ∙ ap (λ (p : List ℕ). Some (from_le_bytes w p, drop (byte_len w) bytes)) (take_all (byte_len w) bytes (omega arith))
    ∙ ap (λ (r : List ℕ). Some (from_le_bytes w bytes, r)) (drop_all (byte_len w) bytes (omega arith))

pub at_end-found : {A : Type 0} (n : ℕ) (reading : Reading A) (bytes rest : List ℕ) (x : A) → n ≤ length bytes → reading (drop (length bytes - n) bytes) ≡ Some (x, rest) → at_end n reading bytes ≡ Some (x, take (length bytes - n) bytes)
at_end-found n reading bytes rest x fits found =
    provided-holds (leb n (length bytes)) (reading (drop (length bytes - n) bytes) >>= (λ found. Some (found.0, take (length bytes - n) bytes))) (le-leb _ _ fits)
    ∙ ap (λ o. o >>= (λ found. Some (found.0, take (length bytes - n) bytes))) found

pub at_end-none : {A : Type 0} (n : ℕ) (reading : Reading A) (bytes : List ℕ) → length bytes < n → at_end n reading bytes ≡ None
at_end-none n reading bytes short = provided-fails (leb n (length bytes)) (reading (drop (length bytes - n) bytes) >>= (λ found. Some (found.0, take (length bytes - n) bytes))) (lt-leb _ _ short)

-- a number at the end
pub number_at_end : (w : Width) (bytes : List ℕ) → byte_len w ≤ length bytes → at_end (byte_len w) (number_at w) bytes ≡ Some (from_le_bytes w (drop (length bytes - byte_len w) bytes), take (length bytes - byte_len w) bytes)
number_at_end w bytes fits =
    let len : length (drop (length bytes - byte_len w) bytes) ≡ byte_len w = omega (arith, length-drop (length bytes - byte_len w) bytes) in
    at_end-found (byte_len w) (number_at w) bytes [] (from_le_bytes w (drop (length bytes - byte_len w) bytes)) fits (number_at-whole w (drop (length bytes - byte_len w) bytes) len)

abbrev pub footer_in : List ℕ → Footer
footer_in bytes = record { index_offset = from_le_bytes w64 (take 8 bytes); num_terms = from_le_bytes w64 (take 8 (drop 8 bytes)); version = from_le_bytes w32 (take 4 (drop 16 bytes)) }

pub footer_at-whole : (bytes : List ℕ) → length bytes ≡ 20 → footer_at bytes ≡ Some (footer_in bytes, [])
footer_at-whole bytes len =
    let first = number_at-front w64 bytes (omega (arith, len)) in
    let second : number_at w64 (drop 8 bytes) ≡ Some (from_le_bytes w64 (take 8 (drop 8 bytes)), drop 16 bytes) =
    number_at-front w64 (drop 8 bytes) (omega (arith, len, length-drop 8 bytes)) ∙ ap (λ (r : List ℕ). Some (from_le_bytes w64 (take 8 (drop 8 bytes)), r)) (drop-drop 8 8 bytes) in
    let third : number_at w32 (drop 16 bytes) ≡ Some (from_le_bytes w32 (take 4 (drop 16 bytes)), []) =
    number_at-front w32 (drop 16 bytes) (omega (arith, len, length-drop 16 bytes))
    ∙ ap (λ (r : List ℕ). Some (from_le_bytes w32 (take 4 (drop 16 bytes)), r)) (drop_all 4 (drop 16 bytes) (omega (arith, len, length-drop 16 bytes))) in
    ap (λ o. o >>= (λ (a : ℕ × List ℕ). number_at w64 a.1 >>= (λ (b : ℕ × List ℕ). number_at w32 b.1 >>= (λ (c : ℕ × List ℕ). Some (record { index_offset = a.0; num_terms = b.0; version = c.0 }, c.1))))) first
    ∙ ap (λ o. o >>= (λ (b : ℕ × List ℕ). number_at w32 b.1 >>= (λ (c : ℕ × List ℕ). Some (record { index_offset = from_le_bytes w64 (take 8 bytes); num_terms = b.0; version = c.0 }, c.1)))) second
    ∙ ap (λ o. o >>= (λ (c : ℕ × List ℕ). Some (record { index_offset = from_le_bytes w64 (take 8 bytes); num_terms = from_le_bytes w64 (take 8 (drop 8 bytes)); version = c.0 }, c.1))) third
