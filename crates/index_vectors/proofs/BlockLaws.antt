-- Where the blocks of an index end, after a call.
use Rattle.std.proofs.Common.{◌≡◌, ℕ, suc, ◌+◌, ◌<◌, ◌≤◌, List, [], ◌∷◌, ◌++◌, length, map, take, drop, Bool, true, false, Option, Some, None, refl, ap, sym, subst, ◌∙◌, arith, length-append, length-drop, length-take}
use Rattle.std.specs.Prelude.{option_map, unwrap_or, All, ◌==◌, if◌then◌else◌}
use Rattle.std.proofs.lemmas.Bool.{and_from, eq-eqb, le-leb}
use Rattle.std.proofs.lemmas.List.{map-append, take-append-drop}
use Rattle.std.proofs.lemmas.List.Elements.{All-append, All-cons, All-nil}
use Rattle.owned_bytes.specs.Keys.{Key, shared}
use Rattle.sstable_values.specs.Codec.{Address, last_is}
use Rattle.sstable_blocks.specs.Writing.{keys_in}
use Rattle.sstable_format.specs.Index.{IndexEntry}
unfoldable use Rattle.block_addresses.specs.Shortened.{raised, shortened}
use Rattle.sstable_index.specs.Building.{comes_next, address_of, addresses_in, with_last_key_shortened}
use Rattle.sstable_index.specs.BuildingV2.{AreShort, longest_key}
use Rattle.index_vectors.specs.Ends.{EndsAt}

last-more : (test : Address → Bool) (addresses : List Address) (address : Address) → last_is test (addresses ++ address ∷ []) ≡ test address
last-more test [] address = refl
last-more test (first ∷ []) address = refl
last-more test (first ∷ next ∷ addresses) address = last-more test (next ∷ addresses) address

pub ends-more : (old new : List IndexEntry) (key : Key) (start end first next : ℕ) → new ≡ old ++ (key, record { start = start; end = end; first_ordinal = first }) ∷ [] → first ≤ next → next ≤ first + 4294967296 → EndsAt new end next
ends-more old new key start end first next is after near =
    let address : Address = record { start = start; end = end; first_ordinal = first } in
    let test : Address → Bool = λ before. comes_next before (record { start = end; end = end; first_ordinal = next }) in
    ap (λ es. last_is test (addresses_in es)) is ∙ ap (last_is test) (map-append (λ (e : IndexEntry). e.1) old ((key, address) ∷ [])) ∙ last-more test (addresses_in old) address
    ∙ and_from (end == end) _ (eq-eqb end end refl) (and_from _ _ (le-leb first next after) (le-leb next (first + 4294967296) near))

pub short-more : (old new : List IndexEntry) (key : Key) (address : Address) → new ≡ old ++ (key, address) ∷ [] → AreShort old → length key ≤ longest_key → AreShort new
short-more old new key address is short fits =
    subst (λ ks. All (λ k. length k ≤ longest_key) ks) (sym (ap keys_in is ∙ map-append (λ (e : IndexEntry). e.0) old ((key, address) ∷ [])))
    (All-append (λ k. length k ≤ longest_key) (keys_in old) (key ∷ []) short (All-cons (λ k. length k ≤ longest_key) key [] fits (All-nil (λ k. length k ≤ longest_key))))

-- ---- a shortened key

same-addresses : (entries : List IndexEntry) (next : Key) → addresses_in (with_last_key_shortened entries next) ≡ addresses_in entries
same-addresses [] next = refl
same-addresses (entry ∷ []) next = refl
same-addresses (entry ∷ other ∷ entries) next = ap (λ bs. entry.1 ∷ bs) (same-addresses (other ∷ entries) next)

pub ends-shorter : (old new : List IndexEntry) (next : Key) (place ordinal : ℕ) → new ≡ with_last_key_shortened old next → EndsAt old place ordinal → EndsAt new place ordinal
ends-shorter old new next place ordinal is ends =
    let test : Address → Bool = λ before. comes_next before (record { start = place; end = place; first_ordinal = ordinal }) in
    ap (λ es. last_is test (addresses_in es)) is ∙ ap (last_is test) (same-addresses old next) ∙ ends

abbrev IsShorter : Key → Option Key → Type 0
IsShorter bytes None = Unit {0}
IsShorter bytes (Some key) = length key ≤ length bytes

shorter-behind : (byte : ℕ) (bytes : Key) (found : Option Key) → IsShorter bytes found → IsShorter (byte ∷ bytes) (option_map (λ key. 255 ∷ key) found)
shorter-behind byte bytes None short = tt
shorter-behind byte bytes (Some key) short = omega (arith, short)

raised-shorter : (bytes : Key) → IsShorter bytes (raised bytes)
unfolding raised
raised-shorter [] = tt
raised-shorter (byte ∷ bytes) =
    let by : (t : Bool) → IsShorter (byte ∷ bytes) (if t then option_map (λ key. 255 ∷ key) (raised bytes) else Some ((byte + 1) ∷ [])) =
    λ t. elim t as (λ t. IsShorter (byte ∷ bytes) (if t then option_map (λ key. 255 ∷ key) (raised bytes) else Some ((byte + 1) ∷ []))) [
      | true ↦ shorter-behind byte bytes (raised bytes) (raised-shorter bytes)
      | false ↦ omega arith
    ] in
    by (byte == 255)

kept-shorter : (kept : ℕ) (left : Key) (found : Option Key) → IsShorter (drop kept left) found → length (unwrap_or (option_map (λ key. take kept left ++ key) found) left) ≤ length left
kept-shorter kept left None short = omega arith
kept-shorter kept left (Some key) short = omega (arith, short, length-append (take kept left) key, length-append (take kept left) (drop kept left), ap length (take-append-drop kept left))

shortened-shorter : (left right : Key) → length (shortened left right) ≤ length left
unfolding shortened
shortened-shorter left right = kept-shorter (shared left right + 1) left (raised (drop (shared left right + 1) left)) (raised-shorter (drop (shared left right + 1) left))

abbrev Fits : Key → Type 0
Fits key = length key ≤ longest_key

short-kept : (entries : List IndexEntry) (next : Key) → AreShort entries → AreShort (with_last_key_shortened entries next)
short-kept [] next short = short
short-kept (entry ∷ []) next short =
    let first : length entry.0 ≤ longest_key = short 0 [] (omega arith) in
    All-cons Fits (shortened entry.0 next) [] (omega (arith, first, shortened-shorter entry.0 next)) (All-nil Fits)
short-kept (entry ∷ other ∷ entries) next short =
    let others : AreShort (other ∷ entries) = λ k d within. short (suc k) d (omega (arith, within)) in
    All-cons Fits entry.0 (keys_in (with_last_key_shortened (other ∷ entries) next)) (short 0 [] (omega arith)) (short-kept (other ∷ entries) next others)

pub short-shorter : (old new : List IndexEntry) (next : Key) → new ≡ with_last_key_shortened old next → AreShort old → AreShort new
short-shorter old new next is short = subst (λ es. AreShort es) (sym is) (short-kept old next short)
