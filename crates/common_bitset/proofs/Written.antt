-- Words that were appended one after another.
use Rattle.std.proofs.Common.{◌≡◌, ℕ, zero, suc, ◌+◌, ◌-◌, ◌<◌, List, [], ◌++◌, Option, None, Some, Result, Ok, Err, sym, ap, subst, ◌∙◌, arith, append_assoc, append-nil, add-zero, add-suc, add-one, w64}
use Rattle.std.specs.Int.{to_le_bytes}
use Rattle.std.specs.Io.KnownBytes.{Appends, Keeps}
use Rattle.std.proofs.KnownBytes.{Appends-trans}
use Rattle.owned_bytes.specs.Outside.{AppendsPrefix, WritesAll}
use Rattle.owned_bytes.proofs.InTurn.{AppendsPrefix-all, AppendsPrefix-first, AppendsPrefix-second}
use Rattle.common_bitset.specs.Numbers.{Numbers}
use Rattle.common_bitset.specs.Words.{word_of}
use Rattle.common_bitset.specs.Subset.{words_bytes}
use Rattle.common_bitset.specs.Laws.Stored.{words_bytes-zero, words_bytes-more}

Appends-nothing : (a : Option (List ℕ)) → Appends a a []
Appends-nothing None = tt
Appends-nothing (Some xs) = sym (append-nil xs)

pub words_none : (a : Option (List ℕ)) (word : ℕ → Numbers) → Appends a a (words_bytes 0 word)
words_none a word = subst (Appends a a) (sym (words_bytes-zero word)) (Appends-nothing a)

-- one more word was appended
pub words_more : (a b c : Option (List ℕ)) (k : ℕ) (word : ℕ → Numbers) (w : Numbers) → w ≡ word k → Appends a b (words_bytes k word) → Appends b c (to_le_bytes w64 (word_of w)) → Appends a c (words_bytes (k + 1) word)
words_more a b c k word w is first second =
    subst (Appends a c) (sym (words_bytes-more k word))
    (Appends-trans a b c (words_bytes k word) (to_le_bytes w64 (word_of (word k))) first (subst (λ v. Appends b c (to_le_bytes w64 (word_of v))) is second))

record Ends (m n : ℕ) (word : ℕ → Numbers) : Type 0 where
  rest : List ℕ
  is : words_bytes n word ≡ words_bytes m word ++ rest

ends_by : (m d : ℕ) (word : ℕ → Numbers) → Ends m (m + d) word
ends_by m zero word = record { rest = []; is = ap (λ n. words_bytes n word) (add-zero m) ∙ sym (append-nil (words_bytes m word)) }
ends_by m (suc d) word =
    let before = ends_by m d word in
    let last = to_le_bytes w64 (word_of (word (m + d))) in
    record {
      rest = before.rest ++ last;
      is = ap (λ n. words_bytes n word) (add-suc m d ∙ sym (add-one (m + d))) ∙ words_bytes-more (m + d) word ∙ ap (λ xs. xs ++ last) before.is ∙ append_assoc (words_bytes m word) before.rest last;
    }

-- a word was cut off
pub words_cut : (a b c : Option (List ℕ)) (k n : ℕ) (word : ℕ → Numbers) (w : Numbers) → w ≡ word k → k < n → Appends a b (words_bytes k word) → AppendsPrefix b c (to_le_bytes w64 (word_of w)) → AppendsPrefix a c (words_bytes n word)
words_cut a b c k n word w is within first cut =
    let whole : k + 1 + (n - (k + 1)) ≡ n = omega arith in
    let ends = ends_by (k + 1) (n - (k + 1)) word in
    subst (λ m. AppendsPrefix a c (words_bytes m word)) whole
    (subst (AppendsPrefix a c) (sym ends.is)
    (AppendsPrefix-first a c (words_bytes (k + 1) word) ends.rest
    (subst (AppendsPrefix a c) (sym (words_bytes-more k word))
    (AppendsPrefix-second a b c (words_bytes k word) (to_le_bytes w64 (word_of (word k))) first (subst (λ v. AppendsPrefix b c (to_le_bytes w64 (word_of v))) is cut)))))

Appends-kept : (a b c : Option (List ℕ)) (bs : List ℕ) → Appends a b bs → Keeps b c → Appends a c bs
Appends-kept None b c bs all kept = tt
Appends-kept (Some xs) None c bs all kept = absurd all
Appends-kept (Some xs) (Some ys) None bs all kept = absurd kept
Appends-kept (Some xs) (Some ys) (Some zs) bs all kept = kept ∙ all

-- all was written, and a flush keeps it
pub written_kept : {E : Type 0} (a b c : Option (List ℕ)) (r : Result (Unit {0}) E) (bs : List ℕ) → Appends a b bs → Keeps b c → WritesAll a c r bs
written_kept a b c (Ok x) bs all kept = Appends-kept a b c bs all kept
written_kept a b c (Err e) bs all kept = subst (AppendsPrefix a c) (append-nil bs) (AppendsPrefix-all a c bs [] (Appends-kept a b c bs all kept))
