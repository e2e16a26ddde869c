-- Laws of stored lists of numbers.
use Rattle.std.proofs.Common.{◌≡◌, ℕ, ◌+◌, ◌^◌, ◌<◌, List, [], ◌∷◌, ◌++◌, length, take, get_or, Option, Some, None, Vec, ap, sym, subst, ◌∙◌, append_assoc, All}
use Rattle.std.proofs.lemmas.List.{map_push, get_or-map, length-map}
use Rattle.std.specs.List.{flat_map}
use Rattle.std.specs.Int.{w32, to_le_bytes}
use Rattle.std.proofs.lemmas.List.Elements.{All-from_get_or, All-get_or, All-more}
use Rattle.owned_bytes.specs.Front.{◌>>=◌, number_at, counted}
use Rattle.sstable_values.specs.Values.{Values, Listed}
use Rattle.sstable_values.specs.Codec.{vec_u32, list_at, list, count_limit, AreCountable, items_of}
use Rattle.sstable_values.specs.Reads.{ReadsAgain, CorruptOnly}
use Rattle.sstable_values.specs.declared.errors.BlockError.{BlockError}
use Rattle.sstable_values.specs.declared.errors.BlockError.TheVariants as errors
use Rattle.sstable_values.proofs.Counted.{number_at-again, counted-again, Spelling, Spelling-begin, Spelling-more}

pub list-none : (bytes : List ℕ) → number_at w32 bytes ≡ None → list_at bytes ≡ None
list-none bytes e = ap (λ o. o >>= (λ count. counted count.0 (number_at w32) count.1)) e

pub list-counted : (bytes : List ℕ) (count : ℕ) (rest : List ℕ) → number_at w32 bytes ≡ Some (count, rest) → list_at bytes ≡ counted count (number_at w32) rest
list-counted bytes count rest e = ap (λ o. o >>= (λ count. counted count.0 (number_at w32) count.1)) e

-- a list that was written is read again
pub list-again : (numbers : List ℕ) → length numbers < 2 ^ 32 → ((i : ℕ) → get_or numbers i 0 < 2 ^ 32) → ReadsAgain list_at (list numbers) numbers
list-again numbers short fits rest =
    list-counted (list numbers ++ rest) (length numbers) (flat_map (to_le_bytes w32) numbers ++ rest)
    (ap (number_at w32) (append_assoc (to_le_bytes w32 (length numbers)) (flat_map (to_le_bytes w32) numbers) rest) ∙ number_at-again (length numbers) (flat_map (to_le_bytes w32) numbers ++ rest) short)
    ∙ counted-again (number_at w32) (to_le_bytes w32) (λ n. n < 2 ^ 32) (λ n rest h. number_at-again n rest h) numbers rest (All-from_get_or (λ n. n < 2 ^ 32) numbers 0 (λ i h. fits i))

as_lists : List (List ℕ) × List ℕ → Option (Values (List ℕ) × List ℕ)
as_lists found = Some (Listed found.0, found.1)

pub lists-none : (content : List ℕ) → number_at w32 content ≡ None → vec_u32.values_of content ≡ None
unfolding vec_u32 as_lists
lists-none content e = ap (λ o. o >>= (λ count. counted count.0 list_at count.1 >>= as_lists)) e

lists-counted : (content : List ℕ) (count : ℕ) (rest : List ℕ) → number_at w32 content ≡ Some (count, rest) → vec_u32.values_of content ≡ (counted count list_at rest >>= as_lists)
unfolding vec_u32 as_lists
lists-counted content count rest e = ap (λ o. o >>= (λ count. counted count.0 list_at count.1 >>= as_lists)) e

pub lists-cut : (content : List ℕ) (count : ℕ) (rest : List ℕ) → number_at w32 content ≡ Some (count, rest) → counted count list_at rest ≡ None → vec_u32.values_of content ≡ None
lists-cut content count rest e none = lists-counted content count rest e ∙ ap (λ o. o >>= as_lists) none

pub lists-read : (content : List ℕ) (count : ℕ) (rest : List ℕ) (lists : List (List ℕ)) (left : List ℕ) → number_at w32 content ≡ Some (count, rest)
    → counted count list_at rest ≡ Some (lists, left) → vec_u32.values_of content ≡ Some (Listed lists, left)
unfolding as_lists
lists-read content count rest lists left e found = lists-counted content count rest e ∙ ap (λ o. o >>= as_lists) found

-- lists that were written are read again
pub lists-again : (lists : List (List ℕ)) (rest : List ℕ) → length lists < 2 ^ 32 → All (λ numbers. ReadsAgain list_at (list numbers) numbers) lists
    → vec_u32.values_of (vec_u32.spelled (Listed lists) ++ rest) ≡ Some (Listed lists, rest)
unfolding vec_u32 as_lists
lists-again lists rest short again =
    lists-counted (to_le_bytes w32 (length lists) ++ flat_map list lists ++ rest) (length lists) (flat_map list lists ++ rest)
    (ap (number_at w32) (append_assoc (to_le_bytes w32 (length lists)) (flat_map list lists) rest) ∙ number_at-again (length lists) (flat_map list lists ++ rest) short)
    ∙ ap (λ o. o >>= as_lists) (counted-again list_at list (λ numbers. ReadsAgain list_at (list numbers) numbers) (λ numbers rest h. h rest) lists rest again)

pub corrupt_as : (e : BlockError) (P Q : Type 0) → (P → Q) → CorruptOnly e P → CorruptOnly e Q
corrupt_as errors.Memory P Q f p = tt
corrupt_as errors.Corrupt P Q f p = f p
corrupt_as (errors.Compressed place) P Q f p = p

pub items_of-push : {A : Type 0} (vectors : List (Vec ℕ A)) (vector : Vec ℕ A) → items_of (vectors ++ vector ∷ []) ≡ items_of vectors ++ vector.items ∷ []
items_of-push {A} vectors vector = map_push (λ (v : Vec ℕ A). v.items) vectors vector

pub items_of-length : {A : Type 0} (vectors : List (Vec ℕ A)) → length (items_of vectors) ≡ length vectors
items_of-length {A} vectors = length-map vectors (λ (v : Vec ℕ A). v.items)

pub items_of-at : {A : Type 0} (vectors : List (Vec ℕ A)) (i : ℕ) (vector : Vec ℕ A) → i < length vectors → vector ≡ get_or vectors i vector → get_or (items_of vectors) i [] ≡ vector.items
items_of-at {A} vectors i vector h is = get_or-map (λ (v : Vec ℕ A). v.items) vectors i vector [] h ∙ ap (λ (v : Vec ℕ A). v.items) (sym is)

-- each list is as long as a count of 32 bits holds
pub length-fits : {A : Type 0} (vectors : List (Vec ℕ A)) (i : ℕ) (vector : Vec ℕ A) → AreCountable (items_of vectors) → i < length vectors → vector ≡ get_or vectors i vector → length vector.items < count_limit
length-fits vectors i vector fits h is =
    subst (λ (numbers : List ℕ). length numbers < count_limit) (items_of-at vectors i vector h is)
    (All-get_or (λ (numbers : List ℕ). length numbers < count_limit) (items_of vectors) i [] (rw (items_of-length vectors) h) fits.1)

-- a loop that writes lists, at its start
pub Lists-begin : {A : Type 0} (vectors : List (Vec ℕ A)) (output : List ℕ) → Spelling list 0 (items_of vectors) (output ++ to_le_bytes w32 (length vectors)) (output ++ vec_u32.spelled (Listed (items_of vectors)))
unfolding vec_u32
Lists-begin vectors output =
    subst (λ (n : ℕ). Spelling list 0 (items_of vectors) (output ++ to_le_bytes w32 (length vectors)) (output ++ (to_le_bytes w32 n ++ flat_map list (items_of vectors))))
    (sym (items_of-length vectors)) (Spelling-begin list (items_of vectors) output (to_le_bytes w32 (length vectors)))

-- one more list
pub Lists-more : {A : Type 0} (vectors : List (Vec ℕ A)) (i : ℕ) (vector : Vec ℕ A) (output whole : List ℕ) → Spelling list i (items_of vectors) output whole
    → i < length vectors → vector ≡ get_or vectors i vector → Spelling list (i + 1) (items_of vectors) (output ++ list vector.items) whole
Lists-more vectors i vector output whole w h is =
    Spelling-more list i (items_of vectors) output whole vector.items [] w (rw (items_of-length vectors) h) (sym (items_of-at vectors i vector h is))

pub Lists-again : {A : Type 0} (vectors : List (Vec ℕ A)) (i : ℕ) (vector : Vec ℕ A) → All (λ numbers. ReadsAgain list_at (list numbers) numbers) (take i (items_of vectors))
    → i < length vectors → vector ≡ get_or vectors i vector → ReadsAgain list_at (list vector.items) vector.items
    → All (λ numbers. ReadsAgain list_at (list numbers) numbers) (take (i + 1) (items_of vectors))
Lists-again vectors i vector all h is again =
    All-more (λ numbers. ReadsAgain list_at (list numbers) numbers) (items_of vectors) i [] (rw (items_of-length vectors) h) all
    (subst (λ (numbers : List ℕ). ReadsAgain list_at (list numbers) numbers) (sym (items_of-at vectors i vector h is)) again)
