-- The numbers of the documents that have a key.
use Rattle.std.proofs.Common.{◌≡◌, ℕ, ◌+◌, ◌<◌, ◌≤◌, Bool, true, false, cond, List, [], ◌∷◌, ◌++◌, length, refl, ap, ◌∙◌, arith, append-nil, All}
use Rattle.std.specs.Prelude.{map, filter, nat_lt}
use Rattle.std.specs.List.{enumerate_from, list_any}
use Rattle.std.proofs.lemmas.List.{map-append}
use Rattle.std.proofs.lemmas.List.Elements.{filter-append, All-cons, All-head}
use Rattle.std.proofs.lemmas.Bool.{and_from}
use Rattle.std.proofs.lemmas.Bool.{lt-ltb}
unfoldable use Rattle.index_file.specs.IndexFile.{is_increasing}
use Rattle.owned_bytes.specs.Keys.{Key, is_same}
use Rattle.documents.specs.declared.documents.Pair.{Pair}
use Rattle.documents.specs.declared.documents.Doc.{Doc}
use Rattle.documents.specs.Documents.{numbers_where}
use Rattle.documents.specs.Postings.{key_of, numbers_of}

-- one of the pairs has the key
abbrev pub has : Key → List Pair → Bool
has key pairs = list_any (λ pair. is_same key (key_of pair)) pairs

enumerate_from-push : {X : Type 0} (n : ℕ) (xs : List X) (x : X) → enumerate_from n (xs ++ x ∷ []) ≡ enumerate_from n xs ++ (n + length xs, x) ∷ []
enumerate_from-push n [] x = ap (λ k. (k, x) ∷ []) (omega arith)
enumerate_from-push n (y ∷ ys) x =
    ap (λ l. (n, y) ∷ l) (enumerate_from-push (n + 1) ys x ∙ ap (λ k. enumerate_from (n + 1) ys ++ (k, x) ∷ []) (omega arith))

step : (test : Doc → Bool) (docs : List Doc) (d : Doc) → numbers_where test (docs ++ d ∷ []) ≡ numbers_where test docs ++ map (λ numbered. numbered.0) (filter (λ (numbered : ℕ × Doc). test numbered.1) ((0 + length docs, d) ∷ []))
step test docs d =
    ap (λ l. map (λ (numbered : ℕ × Doc). numbered.0) (filter (λ (numbered : ℕ × Doc). test numbered.1) l)) (enumerate_from-push 0 docs d)
    ∙ ap (λ l. map (λ (numbered : ℕ × Doc). numbered.0) l) (filter-append (λ (numbered : ℕ × Doc). test numbered.1) (enumerate_from 0 docs) ((0 + length docs, d) ∷ []))
    ∙ map-append (λ (numbered : ℕ × Doc). numbered.0) (filter (λ (numbered : ℕ × Doc). test numbered.1) (enumerate_from 0 docs)) (filter (λ (numbered : ℕ × Doc). test numbered.1) ((0 + length docs, d) ∷ []))

passes : (test : Doc → Bool) (docs : List Doc) (d : Doc) → test d ≡ true → numbers_where test (docs ++ d ∷ []) ≡ numbers_where test docs ++ length docs ∷ []
passes test docs d passed = grind (arith, step test docs d)

fails : (test : Doc → Bool) (docs : List Doc) (d : Doc) → test d ≡ false → numbers_where test (docs ++ d ∷ []) ≡ numbers_where test docs
fails test docs d failed = grind (arith, step test docs d, append-nil)

-- a document more, which has the key or not
pub numbers-with : (key : Key) (docs : List Doc) (d : Doc) → has key d.pairs ≡ true → numbers_of key (docs ++ d ∷ []) ≡ numbers_of key docs ++ length docs ∷ []
numbers-with key docs d is = passes (λ doc. has key doc.pairs) docs d is

pub numbers-without : (key : Key) (docs : List Doc) (d : Doc) → has key d.pairs ≡ false → numbers_of key (docs ++ d ∷ []) ≡ numbers_of key docs
numbers-without key docs d is = fails (λ doc. has key doc.pairs) docs d is

-- the numbers of those documents that pass the test, the first document having this number
abbrev chosen : (Doc → Bool) → ℕ → List Doc → List ℕ
chosen test start docs = map (λ (numbered : ℕ × Doc). numbered.0) (filter (λ (numbered : ℕ × Doc). test numbered.1) (enumerate_from start docs))

abbrev IsFrom : ℕ → ℕ → ℕ → Type 0
IsFrom start end m = (start ≤ m) × (m < end)

chosen-from : (test : Doc → Bool) (start end : ℕ) (docs : List Doc) → start + length docs ≡ end → All (IsFrom start end) (chosen test start docs)
chosen-from test start end [] is = λ k d within. absurd (omega (arith, within))
chosen-from test start end (doc ∷ docs) is =
    let rest = chosen-from test (start + 1) end docs (omega (arith, is)) in
    let wider : All (IsFrom start end) (chosen test (start + 1) docs) = λ k d within. (omega (arith, rest k d within), (rest k d within).1) in
    elim (test doc) as (λ b. All (IsFrom start end) (map (λ (numbered : ℕ × Doc). numbered.0) (cond b ((start, doc) ∷ filter (λ (numbered : ℕ × Doc). test numbered.1) (enumerate_from (start + 1) docs)) (filter (λ (numbered : ℕ × Doc). test numbered.1) (enumerate_from (start + 1) docs))))) [
      | true ↦ All-cons (IsFrom start end) start (chosen test (start + 1) docs) (omega arith, omega (arith, is)) wider
      | false ↦ wider
    ]

increasing-cons : (start : ℕ) (ms : List ℕ) → All (λ m. start < m) ms → is_increasing ms ≡ true → is_increasing (start ∷ ms) ≡ true
unfolding is_increasing
increasing-cons start [] above rises = refl
increasing-cons start (m ∷ ms) above rises = and_from (nat_lt start m) (is_increasing (m ∷ ms)) (lt-ltb start m (All-head (λ m. start < m) m ms above)) rises

chosen-rise : (test : Doc → Bool) (start : ℕ) (docs : List Doc) → is_increasing (chosen test start docs) ≡ true
unfolding is_increasing
chosen-rise test start [] = refl
chosen-rise test start (doc ∷ docs) =
    let rest = chosen-rise test (start + 1) docs in
    let from = chosen-from test (start + 1) (start + 1 + length docs) docs refl in
    elim (test doc) as (λ b. is_increasing (map (λ (numbered : ℕ × Doc). numbered.0) (cond b ((start, doc) ∷ filter (λ (numbered : ℕ × Doc). test numbered.1) (enumerate_from (start + 1) docs)) (filter (λ (numbered : ℕ × Doc). test numbered.1) (enumerate_from (start + 1) docs)))) ≡ true) [
      | true ↦ increasing-cons start (chosen test (start + 1) docs) (λ k d within. omega (arith, from k d within)) rest
      | false ↦ rest
    ]

pub numbers-below : (key : Key) (docs : List Doc) → All (λ m. m < length docs) (numbers_of key docs)
numbers-below key docs = λ k d within. (chosen-from (λ doc. has key doc.pairs) 0 (length docs) docs (omega arith) k d within).1

pub numbers-rise : (key : Key) (docs : List Doc) → is_increasing (numbers_of key docs) ≡ true
numbers-rise key docs = chosen-rise (λ doc. has key doc.pairs) 0 docs
