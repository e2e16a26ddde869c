-- A reader that goes over bytes stands at its place in them, where a block that it answers to be compressed stands.
use Rattle.std.proofs.Common.{◌≡◌, ℕ, ◌+◌, ◌-◌, ◌≤◌, List, [], ◌∷◌, length, take, drop, Bool, true, false, cond, ◌&&◌, Option, Some, None, Result, Ok, Err, refl, ap, sym, ◌∙◌, subst, arith, drop-drop}
use Rattle.std.specs.Prelude.{nat_lt, nat_le, is_some, not, ◌==◌, slice_range, IfErr}
use Rattle.std.specs.Int.{w8, w32, from_le_bytes}
use Rattle.std.proofs.lemmas.Bool.{le-leb, ltb-false, eqb-true}
use Rattle.owned_bytes.specs.Front.{◌>>=◌, provided, number_at}
use Rattle.owned_bytes.specs.Outside.{IsPart}
use Rattle.common_wire.specs.Slices.{Span}
use Rattle.sstable_values.specs.declared.errors.BlockError.{BlockError}
use Rattle.sstable_values.specs.declared.errors.BlockError.TheVariants as blocks
use Rattle.sstable_values.specs.Codec.{Codec}
use Rattle.sstable_values.specs.Values.{Values}
use Rattle.sstable_blocks.specs.Content.{Found, content_after}
unfoldable use Rattle.sstable_blocks.specs.Content.{block_at}
unfoldable use Rattle.sstable_blocks.specs.Delta.{delta_at}
use Rattle.sstable_blocks.specs.Entries.{Entry, Walk, Step, entry_at, to_entry, to_first, to_block, onward}
use Rattle.sstable_blocks.specs.BlockReader.{before_bytes}
use Rattle.sstable_blocks.specs.Slices.{Sliced, Begins, Steps, StepsIn, Stays}
use Rattle.sstable_blocks.proofs.SliceLaws.{ready-one}
use Rattle.sstable_blocks.proofs.BlockLaws.{block-parts}
use Rattle.sstable_format.specs.Refused.{is_compressed_at}
use Rattle.tantivy_sstable.specs.Finding.{TellsPlace, TellsPlaceAt}
use Rattle.sstable_index.specs.Errors.{error_of_block, error_of_handle}
use Rattle.owned_bytes.specs.declared.outside.HandleError.{HandleError}
use Rattle.owned_bytes.specs.declared.outside.HandleError.TheVariants as handle
use Rattle.sstable_index.specs.declared.errors.SstError.{SstError}
use Rattle.sstable_index.specs.declared.errors.SstError.TheVariants as errors
use Rattle.sstable_format.proofs.Ends.{number_at-front}

-- Neither the end nor an error came, in the only slice, and the bytes after the block are those from the place on.
pub record Stands {V : Type 0} (bytes : List ℕ) (stands : Sliced V) : Type 0 where
  pub going : stands.final ≡ None
  pub one : stands.more ≡ []
  pub rest : stands.walk.rest ≡ drop stands.walk.place bytes

pub stands-begin : {V : Type 0} (codec : Codec V) (bytes : List ℕ) (stands : Sliced V) → Begins codec stands (before_bytes bytes 0) → Stands bytes stands
stands-begin codec bytes stands b = record { going = b.no_answer; one = b.slices; rest = b.fresh.bytes ∙ ap (λ n. drop n bytes) (sym b.fresh.start) }

step-is : {V : Type 0} (x y : Walk V) → ◌≡◌ {A = Step V} (Ok (Some x)) (Ok (Some y)) → x ≡ y
step-is x y e = cc

-- the bytes after the block stay
abbrev Same : {V : Type 0} → Walk V → Walk V → Type 0
Same old new = (new.rest ≡ old.rest) × (new.place ≡ old.place)

-- the bytes after the block are those from the place on
abbrev Behind : {V : Type 0} → List ℕ → Walk V → Type 0
Behind bytes walk = walk.rest ≡ drop walk.place bytes

entry-same : {V : Type 0} (walk new : Walk V) (o : Option (Entry V × List ℕ)) → to_entry walk o ≡ Ok (Some new) → Same walk new
entry-same walk new None e = absurd cc
entry-same walk new (Some found) e =
    let same = step-is _ new e in
    (sym (ap (λ (w : Walk _). w.rest) same), sym (ap (λ (w : Walk _). w.place) same))

first-same : {V : Type 0} (walk new : Walk V) (o : Option (Values V × List ℕ)) → to_first walk o ≡ Ok (Some new) → Same walk new
first-same walk new None e = absurd cc
first-same walk new (Some found) e = entry-same (record walk { values = found.0; given = 0; deltas = found.1 }) new (entry_at found.0 0 found.1) e

block-stands : {V : Type 0} (codec : Codec V) (bytes : List ℕ) (walk new : Walk V) (found : Found) → Behind bytes walk → block_at walk.place walk.rest ≡ found → to_block codec walk found ≡ Ok (Some new) → Behind bytes new
block-stands codec bytes walk new (Err error) s is e = absurd cc
block-stands codec bytes walk new (Ok None) s is e = absurd cc
block-stands codec bytes walk new (Ok (Some found)) s is e =
    let same = first-same (record walk { rest = found.1; place = walk.place + (5 + length found.0) }) new (codec.values_of found.0) e in
    let parts = block-parts walk.place walk.rest found.0 found.1 is in
    same.0 ∙ parts.2 ∙ ap (drop (5 + length found.0)) s ∙ drop-drop (5 + length found.0) walk.place bytes ∙ ap (λ n. drop n bytes) (sym same.1)

onward-stands : {V : Type 0} (codec : Codec V) (bytes : List ℕ) (old new : Walk V) (deltas : List ℕ) → Behind bytes old → onward codec old deltas ≡ Ok (Some new) → Behind bytes new
onward-stands codec bytes old new [] s e = block-stands codec bytes old new (block_at old.place old.rest) s refl e
onward-stands codec bytes old new (b ∷ deltas) s e =
    let same = entry-same old new (entry_at old.values old.given old.deltas) e in
    same.0 ∙ s ∙ ap (λ n. drop n bytes) (sym same.1)

pub stands-more : {V : Type 0} (codec : Codec V) (bytes : List ℕ) (old new : Sliced V) → Stands bytes old → (old.final ≡ None → Steps codec old new (Ok true)) → Stays new (Ok true) → Stands bytes new
stands-more codec bytes old new s steps stays =
    let step = subst (λ o. StepsIn codec o new (Ok true)) (ready-one old s.one) (steps s.going) in
    record { going = stays.1; one = step.1 ∙ s.one; rest = onward-stands codec bytes old.walk new.walk old.walk.deltas s.rest step.0 }

no_end : (b : Bool) (r : Found) (error : BlockError) → cond b (Ok None) r ≡ Err error → (b ≡ false) × (r ≡ Err error)
no_end true r error e = absurd cc
no_end false r error e = (refl, e)

no_fault : (b : Bool) (r : Found) (p : ℕ) → cond b (Err blocks.Corrupt) r ≡ Err (blocks.Compressed p) → (b ≡ false) × (r ≡ Err (blocks.Compressed p))
no_fault true r p e = absurd cc
no_fault false r p e = (refl, e)

place-is : (place p : ℕ) → ◌≡◌ {A = Found} (Err (blocks.Compressed place)) (Err (blocks.Compressed p)) → place ≡ p
place-is place p e = cc

-- behind the length stands a byte 1
content-compressed : (place len p : ℕ) (bytes : List ℕ) → content_after place len bytes ≡ Err (blocks.Compressed p) → (place ≡ p) × (rest : List ℕ) × (bytes ≡ 1 ∷ rest)
content-compressed place len p [] e = absurd cc
content-compressed place len p (c ∷ bytes) e = by_test (c == 1) refl e
  where
    plain : Bool → Found
    plain b = cond b (Err (blocks.Compressed place)) (cond (not (c == 0)) (Err blocks.Corrupt) (cond (nat_lt (length bytes) len) (Err blocks.Corrupt) (Ok (Some (take len bytes, drop len bytes)))))

    by_test : (b : Bool) → (c == 1) ≡ b → plain b ≡ Err (blocks.Compressed p) → (place ≡ p) × (rest : List ℕ) × (c ∷ bytes ≡ 1 ∷ rest)
    by_test true t e = (place-is place p e, bytes, ap (λ n. n ∷ bytes) (eqb-true _ _ t))
    by_test false t e =
        let first = no_fault (not (c == 0)) _ p e in
        let second = no_fault (nat_lt (length bytes) len) _ p first.1 in
        absurd (let none : ⊥ = cc in none)

compressed-front : (bytes rest : List ℕ) → 4 ≤ length bytes → 2 ≤ from_le_bytes w32 (take 4 bytes) → drop 4 bytes ≡ 1 ∷ rest → is_compressed_at 0 bytes ≡ true
compressed-front bytes rest long some one =
    ap (λ o. is_some (o >>= (λ (len : ℕ × List ℕ). number_at w8 len.1 >>= (λ compress. provided (nat_le 2 len.0 && (compress.0 == 1)))))) (number_at-front w32 bytes long)
    ∙ ap (λ r. is_some (number_at w8 r >>= (λ compress. provided (nat_le 2 (from_le_bytes w32 (take 4 bytes)) && (compress.0 == 1))))) one
    ∙ ap (λ o. is_some (o >>= (λ (compress : ℕ × List ℕ). provided (nat_le 2 (from_le_bytes w32 (take 4 bytes)) && (compress.0 == 1))))) (number_at-front w8 (1 ∷ rest) (omega arith))
    ∙ ap (λ t. is_some (provided (t && true))) (le-leb 2 (from_le_bytes w32 (take 4 bytes)) some)

pub found-compressed : (place p : ℕ) (bytes : List ℕ) → block_at place bytes ≡ Err (blocks.Compressed p) → (place ≡ p) × (is_compressed_at 0 bytes ≡ true)
unfolding block_at
found-compressed place p bytes e =
    let some = no_end (length bytes == 0) _ (blocks.Compressed p) e in
    let long = no_fault (nat_lt (length bytes) 4) _ p some.1 in
    let block = no_end (nat_lt (from_le_bytes w32 (take 4 bytes)) 2) _ (blocks.Compressed p) long.1 in
    let here = content-compressed place (from_le_bytes w32 (take 4 bytes) - 1) p (drop 4 bytes) block.1 in
    (here.0, compressed-front bytes here.1 (ltb-false _ _ long.0) (ltb-false _ _ block.0) here.2)

entry-plain : {V : Type 0} (walk : Walk V) (o : Option (Entry V × List ℕ)) (p : ℕ) → to_entry walk o ≡ Err (blocks.Compressed p) → ⊥
entry-plain walk None p e = cc
entry-plain walk (Some found) p e = cc

first-plain : {V : Type 0} (walk : Walk V) (o : Option (Values V × List ℕ)) (p : ℕ) → to_first walk o ≡ Err (blocks.Compressed p) → ⊥
first-plain walk None p e = cc
first-plain walk (Some found) p e = entry-plain (record walk { values = found.0; given = 0; deltas = found.1 }) (entry_at found.0 0 found.1) p e

error-is : {V : Type 0} (one other : BlockError) → ◌≡◌ {A = Step V} (Err one) (Err other) → one ≡ other
error-is one other e = cc

block-compressed : {V : Type 0} (codec : Codec V) (walk : Walk V) (found : Found) (p : ℕ) → to_block codec walk found ≡ Err (blocks.Compressed p) → found ≡ Err (blocks.Compressed p)
block-compressed {V} codec walk (Err error) p e = ap Err (error-is {V = V} error (blocks.Compressed p) e)
block-compressed codec walk (Ok None) p e = absurd cc
block-compressed codec walk (Ok (Some found)) p e = absurd (first-plain (record walk { rest = found.1; place = walk.place + (5 + length found.0) }) (codec.values_of found.0) p e)

onward-compressed : {V : Type 0} (codec : Codec V) (bytes : List ℕ) (walk : Walk V) (deltas : List ℕ) (p : ℕ) → Behind bytes walk → onward codec walk deltas ≡ Err (blocks.Compressed p) → is_compressed_at p bytes ≡ true
onward-compressed codec bytes walk [] p s e =
    let here = found-compressed walk.place p walk.rest (block-compressed codec walk (block_at walk.place walk.rest) p e) in
    ap (λ n. is_compressed_at n bytes) (sym here.0) ∙ ap (is_compressed_at 0) (sym s) ∙ here.1
onward-compressed codec bytes walk (b ∷ deltas) p s e = absurd (entry-plain walk (entry_at walk.values walk.given walk.deltas) p e)

-- what a step tells that is an error
pub stands-compressed : {V : Type 0} (codec : Codec V) (bytes : List ℕ) (old new : Sliced V) (error : BlockError) → Stands bytes old → (old.final ≡ None → Steps codec old new (Err error)) → TellsPlace bytes (error_of_block error)
stands-compressed codec bytes old new blocks.Memory s steps = tt
stands-compressed codec bytes old new blocks.Corrupt s steps = tt
stands-compressed codec bytes old new (blocks.Compressed p) s steps =
    onward-compressed codec bytes old.walk old.walk.deltas p s.rest (subst (λ o. StepsIn codec o new (Err (blocks.Compressed p))) (ready-one old s.one) (steps s.going))

-- the same of the bytes that a file's part was
pub tells-at : (contents : Option (List ℕ)) (range : Span) (start end : ℕ) (part : List ℕ) (error : SstError) → start ≡ range.start → end ≡ range.end → IsPart contents start end part → TellsPlace part error → TellsPlaceAt contents range error
tells-at None range start end part error a b is tells = tt
tells-at (Some bytes) range start end part errors.Memory a b is tells = tt
tells-at (Some bytes) range start end part errors.Corrupt a b is tells = tt
tells-at (Some bytes) range start end part (errors.Compressed place) a b is tells =
    ap (is_compressed_at place) (sym (is ∙ ap (λ n. slice_range bytes n end) a ∙ ap (λ n. slice_range bytes range.start n) b)) ∙ tells
tells-at (Some bytes) range start end part errors.Read a b is tells = tt
tells-at (Some bytes) range start end part (errors.Version version) a b is tells = tt

-- a failed read tells no place
pub tells-unread : (contents : Option (List ℕ)) (range : Span) (h : HandleError) (error : SstError) → error ≡ error_of_handle h → TellsPlaceAt contents range error
tells-unread None range h error is = tt
tells-unread (Some bytes) range h error is = subst (TellsPlaceAt (Some bytes) range) (sym is) (by h)
  where
    by : (h : HandleError) → TellsPlaceAt (Some bytes) range (error_of_handle h)
    by handle.Memory = tt
    by handle.Failed = tt

pub tells-result : {A : Type 0} (contents : Option (List ℕ)) (range : Span) (start end : ℕ) (part : List ℕ) (result : Result A SstError) → start ≡ range.start → end ≡ range.end → IsPart contents start end part
    → IfErr result (TellsPlace part) → IfErr result (TellsPlaceAt contents range)
tells-result contents range start end part (Ok found) a b is tells = tt
tells-result contents range start end part (Err error) a b is tells = tells-at contents range start end part error a b is tells
