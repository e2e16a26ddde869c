-- A step tells the place of a compressed block that stood in what was left.
use Rattle.std.proofs.Common.{◌≡◌, ℕ, ◌+◌, List, [], ◌∷◌, length, drop, Bool, true, false, Option, Some, None, Result, Ok, Err, refl, ap, sym, ◌∙◌, subst, inl, inr, ◌⊎◌, ⊎_elim, zero, suc, arith, drop-drop}
use Rattle.sstable_values.specs.declared.errors.BlockError.{BlockError}
use Rattle.sstable_values.specs.declared.errors.BlockError.TheVariants.{Memory, Corrupt, Compressed}
use Rattle.sstable_values.specs.Codec.{Codec}
use Rattle.sstable_values.specs.Values.{Values}
use Rattle.sstable_blocks.specs.declared.block_reader.BlockSlice.{BlockSlice}
use Rattle.sstable_blocks.specs.Content.{Found}
unfoldable use Rattle.sstable_blocks.specs.Content.{block_at}
unfoldable use Rattle.sstable_blocks.specs.Delta.{delta_at}
use Rattle.sstable_blocks.specs.BlockReader.{before_slices}
unfoldable use Rattle.sstable_blocks.specs.BlockReader.{onto_bytes}
use Rattle.sstable_blocks.specs.Entries.{Entry, Walk, Step, entry_at, to_entry, to_first, to_block, onward, step}
use Rattle.sstable_blocks.specs.Slices.{Sliced, Steps, Stays, Begins, ready, in_slice}
use Rattle.sstable_blocks.proofs.BlockLaws.{block-parts}
use Rattle.sstable_streams.specs.Held.{HasCompressed, HaveCompressed, HoldsCompressed, TellsHeld, HeldBefore, KeepsHeld, HoldsSlices}

-- on to the next slice no compressed block is added
onto-held : (rest : List ℕ) (start : ℕ) (more : List BlockSlice) (ordinal : Option ℕ) (place : ℕ)
    → HasCompressed place (onto_bytes rest start more ordinal).place (onto_bytes rest start more ordinal).rest ⊎ HaveCompressed place (onto_bytes rest start more ordinal).more
    → HasCompressed place start rest ⊎ HaveCompressed place more
unfolding onto_bytes
onto-held rest start [] ordinal place held = held
onto-held [] start (slice ∷ slices) ordinal place held = inr (onto-held slice.bytes slice.start slices (Some slice.first_ordinal) place held)
onto-held (b ∷ rest) start (slice ∷ slices) ordinal place held = held

ready-held : {V : Type 0} (stands : Sliced V) (deltas : List ℕ) (place : ℕ) → HoldsCompressed place (in_slice stands deltas) → HoldsCompressed place stands
ready-held stands [] place held = onto-held stands.walk.rest stands.walk.place stands.more stands.ordinal place held
ready-held stands (b ∷ deltas) place held = held

step-is : {V : Type 0} (x y : Walk V) → ◌≡◌ {A = Step V} (Ok (Some x)) (Ok (Some y)) → x ≡ y
step-is x y e = cc

-- the bytes after the block stay
abbrev Same : {V : Type 0} → Walk V → Walk V → Type 0
Same old new = (new.rest ≡ old.rest) × (new.place ≡ old.place)

entry-same : {V : Type 0} (walk new : Walk V) (o : Option (Entry V × List ℕ)) → to_entry walk o ≡ Ok (Some new) → Same walk new
entry-same walk new None e = absurd cc
entry-same walk new (Some found) e =
    let same = step-is _ new e in
    (sym (ap (λ (w : Walk _). w.rest) same), sym (ap (λ (w : Walk _). w.place) same))

first-same : {V : Type 0} (walk new : Walk V) (o : Option (Values V × List ℕ)) → to_first walk o ≡ Ok (Some new) → Same walk new
first-same walk new None e = absurd cc
first-same walk new (Some found) e = entry-same (record walk { values = found.0; given = 0; deltas = found.1 }) new (entry_at found.0 0 found.1) e

same-held : (old_start new_start place : ℕ) (old_rest new_rest : List ℕ) → new_rest ≡ old_rest → new_start ≡ old_start → HasCompressed place new_start new_rest → HasCompressed place old_start old_rest
same-held old_start new_start place old_rest new_rest same_rest same_start held =
    subst (λ s. HasCompressed place s old_rest) same_start (subst (λ r. HasCompressed place new_start r) same_rest held)

-- so many bytes further on
further-held : (start len place : ℕ) (rest : List ℕ) → HasCompressed place (start + len) (drop len rest) → HasCompressed place start rest
further-held start len place rest held =
    let at : (start + len) + held.0 ≡ start + (len + held.0) = omega arith in
    let there : drop held.0 (drop len rest) ≡ drop (len + held.0) rest = drop-drop held.0 len rest in
    (len + held.0, ap (λ s. block_at s (drop (len + held.0) rest)) (sym at) ∙ ap (block_at ((start + len) + held.0)) (sym there) ∙ held.1)

block-held : {V : Type 0} (codec : Codec V) (old new : Walk V) (place : ℕ) (found : Found) → block_at old.place old.rest ≡ found → to_block codec old found ≡ Ok (Some new) → HasCompressed place new.place new.rest → HasCompressed place old.place old.rest
block-held codec old new place (Err error) is e held = absurd cc
block-held codec old new place (Ok None) is e held = absurd cc
block-held codec old new place (Ok (Some found)) is e held =
    let same = first-same (record old { rest = found.1; place = old.place + (5 + length found.0) }) new (codec.values_of found.0) e in
    let parts = block-parts old.place old.rest found.0 found.1 is in
    further-held old.place (5 + length found.0) place old.rest
    (same-held (old.place + (5 + length found.0)) new.place place (drop (5 + length found.0) old.rest) new.rest (same.0 ∙ parts.2) same.1 held)

onward-held : {V : Type 0} (codec : Codec V) (old new : Walk V) (deltas : List ℕ) (place : ℕ) → onward codec old deltas ≡ Ok (Some new) → HasCompressed place new.place new.rest → HasCompressed place old.place old.rest
onward-held codec old new [] place e held = block-held codec old new place (block_at old.place old.rest) refl e held
onward-held codec old new (b ∷ deltas) place e held =
    let same = entry-same old new (entry_at old.values old.given old.deltas) e in
    same-held old.place new.place place old.rest new.rest same.0 same.1 held

entry-error : {V : Type 0} (walk : Walk V) (o : Option (Entry V × List ℕ)) (place : ℕ) → to_entry walk o ≡ Err (Compressed place) → ⊥
entry-error walk None place e = cc
entry-error walk (Some found) place e = cc

first-error : {V : Type 0} (walk : Walk V) (o : Option (Values V × List ℕ)) (place : ℕ) → to_first walk o ≡ Err (Compressed place) → ⊥
first-error walk None place e = cc
first-error walk (Some found) place e = entry-error (record walk { values = found.0; given = 0; deltas = found.1 }) (entry_at found.0 0 found.1) place e

error-is : {V : Type 0} (error : BlockError) (place : ℕ) → ◌≡◌ {A = Step V} (Err error) (Err (Compressed place)) → error ≡ Compressed place
error-is error place e = cc

block-error : {V : Type 0} (codec : Codec V) (walk : Walk V) (place : ℕ) (found : Found) → block_at walk.place walk.rest ≡ found → to_block codec walk found ≡ Err (Compressed place) → block_at walk.place walk.rest ≡ Err (Compressed place)
block-error codec walk place (Err error) is e = is ∙ ap (λ x. Err x) (error-is error place e)
block-error codec walk place (Ok None) is e = absurd cc
block-error codec walk place (Ok (Some found)) is e = absurd (first-error (record walk { rest = found.1; place = walk.place + (5 + length found.0) }) (codec.values_of found.0) place e)

onward-error : {V : Type 0} (codec : Codec V) (walk : Walk V) (deltas : List ℕ) (place : ℕ) → onward codec walk deltas ≡ Err (Compressed place) → HasCompressed place walk.place walk.rest
onward-error codec walk [] place e =
    let at : walk.place + 0 ≡ walk.place = omega arith in
    (0, ap (λ s. block_at s walk.rest) at ∙ block-error codec walk place (block_at walk.place walk.rest) refl e)
onward-error codec walk (b ∷ deltas) place e = absurd (entry-error walk (entry_at walk.values walk.given walk.deltas) place e)

pub keeps : {V : Type 0} (codec : Codec V) (old new : Sliced V) (result : Result Bool BlockError) → (old.final ≡ None → Steps codec old new result) → Stays new result → KeepsHeld old new result
keeps codec old new (Ok true) steps stays =
    λ going. (stays.1, λ place held. ready-held old old.walk.deltas place (held-there (ready old) (steps going).0 (steps going).1 place held))
  where
    held-there : (at : Sliced _) → step codec at.walk ≡ Ok (Some new.walk) → new.more ≡ at.more → (place : ℕ) → HoldsCompressed place new → HoldsCompressed place at
    held-there at is more place (inl here) = inl (onward-held codec at.walk new.walk at.walk.deltas place is here)
    held-there at is more place (inr behind) = inr (subst (HaveCompressed place) more behind)
keeps codec old new (Ok false) steps stays = tt
keeps codec old new (Err Memory) steps stays = λ going. tt
keeps codec old new (Err Corrupt) steps stays = λ going. tt
keeps codec old new (Err (Compressed place)) steps stays =
    λ going. ready-held old old.walk.deltas place (inl (onward-error codec (ready old).walk (ready old).walk.deltas place (steps going)))

-- asking for the first position of a slice changes nothing of that
pub keeps-taken : {V : Type 0} (old new taken : Sliced V) → taken ≡ record new { ordinal = None } → KeepsHeld old new (Ok true) → KeepsHeld old taken (Ok true)
keeps-taken old new taken is kept = subst (λ s. KeepsHeld old s (Ok true)) (sym is) kept

-- one call after another
pub keeps-on : {V : Type 0} (first old new : Sliced V) → KeepsHeld first old (Ok true) → KeepsHeld old new (Ok true) → KeepsHeld first new (Ok true)
keeps-on first old new before after going = (((after (before going).0)).0, λ place held. (before going).1 place ((after (before going).0).1 place held))

tells-before : {V : Type 0} (old new : Sliced V) (error : BlockError) → HeldBefore old new → TellsHeld new error → TellsHeld old error
tells-before old new Memory before tells = tt
tells-before old new Corrupt before tells = tt
tells-before old new (Compressed place) before tells = before place tells

pub keeps-error : {V : Type 0} (first old new : Sliced V) (error : BlockError) → KeepsHeld first old (Ok true) → KeepsHeld old new (Err error) → KeepsHeld first new (Err error)
keeps-error first old new error before after going = tells-before first old error (before going).1 (after (before going).0)

drop-none : (n : ℕ) → drop {A = ℕ} n [] ≡ []
drop-none zero = refl
drop-none (suc n) = refl

none-held : (place start : ℕ) → HasCompressed place start [] → ⊥
unfolding block_at
none-held place start held =
    let none : block_at (start + held.0) [] ≡ Err (Compressed place) = ap (block_at (start + held.0)) (sym (drop-none held.0)) ∙ held.1 in
    cc

-- what a reader holds that begins before the first of slices
pub begins-held : {V : Type 0} (codec : Codec V) (slices : List BlockSlice) (stands : Sliced V) → Begins codec stands (before_slices slices) → HoldsSlices slices stands
begins-held codec [] stands b = (
  b.no_answer,
  λ place held. ⊎_elim (λ (here : HasCompressed place stands.walk.place stands.walk.rest). none-held place 0 (same-held 0 stands.walk.place place [] stands.walk.rest b.fresh.bytes b.fresh.start here))
      (λ (there : HaveCompressed place stands.more). subst (HaveCompressed place) b.slices there) held,
)
begins-held codec (slice ∷ slices) stands b = (
  b.no_answer,
  λ place held. ⊎_elim (λ (here : HasCompressed place stands.walk.place stands.walk.rest). inl (same-held slice.start stands.walk.place place slice.bytes stands.walk.rest b.fresh.bytes b.fresh.start here))
      (λ (there : HaveCompressed place stands.more). inr (subst (HaveCompressed place) b.slices there)) held,
)
