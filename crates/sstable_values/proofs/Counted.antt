-- Laws of values of which so many stand one after the other.
use Rattle.std.proofs.Common.{◌≡◌, ℕ, zero, suc, ◌+◌, ◌^◌, ◌<◌, ◌≤◌, List, [], ◌∷◌, ◌++◌, length, take, drop, Option, Some, None, refl, ap, sym, ◌∙◌, arith, append_assoc, append-nil, drop-drop, get_or, All}
use Rattle.std.specs.List.{flat_map}
use Rattle.std.specs.Int.{w32, to_le_bytes, from_le_bytes}
use Rattle.std.proofs.lemmas.Bool.{lt-leb}
use Rattle.std.proofs.lemmas.List.{drop_more, drop_all}
use Rattle.std.proofs.lemmas.List.Elements.{All-head, All-tail}
use Rattle.std.proofs.lemmas.Nat.{from_le_bytes-to_le_bytes_4}
use Rattle.owned_bytes.specs.Front.{◌>>=◌, provided, Reading, number_at, counted}
use Rattle.owned_bytes.proofs.Pieces.{bytes_at-front, bytes_at-again}

as_number : List ℕ × List ℕ → Option (ℕ × List ℕ)
as_number piece = Some (from_le_bytes w32 piece.0, piece.1)

-- the number in the first four bytes
pub number_at-front : (bytes : List ℕ) → 4 ≤ length bytes → number_at w32 bytes ≡ Some (from_le_bytes w32 (take 4 bytes), drop 4 bytes)
unfolding as_number
number_at-front bytes h = ap (λ o. o >>= as_number) (bytes_at-front 4 bytes h)

pub number_at-short : (bytes : List ℕ) → length bytes < 4 → number_at w32 bytes ≡ None
unfolding as_number
number_at-short bytes h = ap (λ b. (provided b >>= (λ _. Some (take 4 bytes, drop 4 bytes))) >>= as_number) (lt-leb 4 (length bytes) h)

pub number_at-place : (at : ℕ) (bytes word : List ℕ) (n : ℕ) → 4 ≤ length (drop at bytes) → word ≡ take 4 (drop at bytes) → n ≡ from_le_bytes w32 word
    → number_at w32 (drop at bytes) ≡ Some (n, drop (at + 4) bytes)
number_at-place at bytes word n h is same =
    number_at-front (drop at bytes) h
    ∙ ap (λ m. Some (m, drop 4 (drop at bytes))) (ap (from_le_bytes w32) (sym is) ∙ sym same)
    ∙ ap (λ rest. Some (n, rest)) (drop-drop 4 at bytes)

-- a number that was written is read again
pub number_at-again : (n : ℕ) (rest : List ℕ) → n < 2 ^ 32 → number_at w32 (to_le_bytes w32 n ++ rest) ≡ Some (n, rest)
unfolding as_number
number_at-again n rest h =
    ap (λ o. o >>= as_number) (bytes_at-again (to_le_bytes w32 n) rest) ∙ ap (λ m. Some (m, rest)) (from_le_bytes-to_le_bytes_4 n h)

-- values, and then further ones
abbrev pub with_items : {A : Type 0} → List A → Option (List A × List ℕ) → Option (List A × List ℕ)
with_items items found = found >>= (λ more. Some (items ++ more.0, more.1))

-- a loop that reads n values from start on: those so far, and so many more
pub record CountedOn {A : Type 0} (item : Reading A) (n : ℕ) (start : List ℕ) (left taken : ℕ) (items : List A) (content : List ℕ) : Type 0 where
  pub within : taken ≤ length content
  pub found : counted n item start ≡ with_items items (counted left item (drop taken content))

none_before : {A : Type 0} (found : Option (List A × List ℕ)) → found ≡ with_items [] found
none_before None = refl
none_before (Some more) = refl

pub Counted-begin : {A : Type 0} (item : Reading A) (n left at : ℕ) (content : List ℕ) → left ≡ n → at ≤ length content → CountedOn item n (drop at content) left at [] content
Counted-begin item n left at content same h = record {
  within = h;
  found = ap (λ k. counted k item (drop at content)) (sym same) ∙ none_before (counted left item (drop at content));
}

abbrev pub next_item : {A : Type 0} → Reading A → ℕ → A × List ℕ → Option (List A × List ℕ)
next_item item left first = counted left item first.1 >>= (λ others. Some (first.0 ∷ others.0, others.1))

counted-more : {A : Type 0} (item : Reading A) (left : ℕ) (bytes : List ℕ) → counted (suc left) item bytes ≡ (item bytes >>= next_item item left)
unfolding counted
counted-more item left bytes = refl

counted-none : {A : Type 0} (item : Reading A) (bytes : List ℕ) → counted 0 item bytes ≡ Some ([], bytes)
unfolding counted
counted-none item bytes = refl

pub Counted-cut : {A : Type 0} (item : Reading A) (n : ℕ) (start : List ℕ) (left taken : ℕ) (items : List A) (content : List ℕ) → CountedOn item n start left taken items content
    → 0 < left → item (drop taken content) ≡ None → counted n item start ≡ None
Counted-cut item n start zero taken items content r h e = absurd (omega arith)
Counted-cut item n start (suc left) taken items content r h e =
    r.found ∙ ap (with_items items) (counted-more item left (drop taken content) ∙ ap (λ o. o >>= next_item item left) e)

items-onward : {A : Type 0} (items : List A) (next : A) (found : Option (List A × List ℕ))
    → with_items items (found >>= (λ others. Some (next ∷ others.0, others.1))) ≡ with_items (items ++ next ∷ []) found
items-onward items next None = refl
items-onward items next (Some others) = ap (λ xs. Some (xs, others.1)) (sym (append_assoc items (next ∷ []) others.0))

-- one more value
pub Counted-more : {A : Type 0} (item : Reading A) (n : ℕ) (start : List ℕ) (left more taken : ℕ) (items : List A) (content : List ℕ) (x : A) (next : ℕ)
    → CountedOn item n start left taken items content → left ≡ suc more → item (drop taken content) ≡ Some (x, drop next content) → next ≤ length content
    → CountedOn item n start more next (items ++ x ∷ []) content
Counted-more item n start left more taken items content x next r same e h =
    let found : counted n item start ≡ with_items items (counted (suc more) item (drop taken content)) = rw same at r.found in
    record {
      within = h;
      found = found ∙ ap (with_items items) (counted-more item more (drop taken content) ∙ ap (λ o. o >>= next_item item more) e)
          ∙ items-onward items x (counted more item (drop next content));
    }

pub Counted-end : {A : Type 0} (item : Reading A) (n : ℕ) (start : List ℕ) (taken : ℕ) (items : List A) (content : List ℕ) → CountedOn item n start 0 taken items content
    → counted n item start ≡ Some (items, drop taken content)
Counted-end item n start taken items content r =
    r.found ∙ ap (with_items items) (counted-none item (drop taken content)) ∙ ap (λ xs. Some (xs, drop taken content)) (append-nil items)

-- values that were written one after the other are read again, where each of them is
pub counted-again : {A : Type 0} (item : Reading A) (spell : A → List ℕ) (P : A → Type 0) → ((x : A) (rest : List ℕ) → P x → item (spell x ++ rest) ≡ Some (x, rest))
    → (items : List A) (rest : List ℕ) → All P items → counted (length items) item (flat_map spell items ++ rest) ≡ Some (items, rest)
counted-again item spell P again [] rest h = counted-none item rest
counted-again item spell P again (x ∷ items) rest h =
    let more : List ℕ = flat_map spell items ++ rest in
    ap (counted (suc (length items)) item) (append_assoc (spell x) (flat_map spell items) rest)
    ∙ counted-more item (length items) (spell x ++ more)
    ∙ ap (λ o. o >>= next_item item (length items)) (again x more (All-head P x items h))
    ∙ ap (λ o. o >>= (λ others. Some (x ∷ others.0, others.1))) (counted-again item spell P again items rest (All-tail P x items h))

-- a loop that writes: the values from i on are left
pub record Spelling {A : Type 0} (spell : A → List ℕ) (i : ℕ) (items : List A) (output whole : List ℕ) : Type 0 where
  pub written : output ++ flat_map spell (drop i items) ≡ whole

pub Spelling-begin : {A : Type 0} (spell : A → List ℕ) (items : List A) (output front : List ℕ) → Spelling spell 0 items (output ++ front) (output ++ (front ++ flat_map spell items))
Spelling-begin spell items output front = record { written = append_assoc output front (flat_map spell items) }

pub Spelling-more : {A : Type 0} (spell : A → List ℕ) (i : ℕ) (items : List A) (output whole : List ℕ) (x d : A) → Spelling spell i items output whole → i < length items → x ≡ get_or items i d
    → Spelling spell (i + 1) items (output ++ spell x) whole
Spelling-more spell i items output whole x d w h is =
    let e : drop i items ≡ x ∷ drop (i + 1) items = drop_more items i d h ∙ ap (λ y. y ∷ drop (i + 1) items) (sym is) in
    record { written = append_assoc output (spell x) (flat_map spell (drop (i + 1) items)) ∙ ap (λ xs. output ++ flat_map spell xs) (sym e) ∙ w.written }

pub Spelling-end : {A : Type 0} (spell : A → List ℕ) (i : ℕ) (items : List A) (output whole : List ℕ) → Spelling spell i items output whole → length items ≤ i → output ≡ whole
Spelling-end spell i items output whole w h = sym (append-nil output) ∙ ap (λ xs. output ++ flat_map spell xs) (sym (drop_all i items h)) ∙ w.written
