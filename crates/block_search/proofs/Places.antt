-- A reader stands at its place, where a block that it answers to be compressed stands.
use Rattle.std.proofs.Common.{◌≡◌, ℕ, ◌+◌, ◌-◌, List, [], ◌∷◌, length, take, drop, Bool, true, false, cond, Option, Some, None, Ok, Err, refl, ap, sym, ◌∙◌, subst, arith, drop-drop}
use Rattle.std.specs.Prelude.{nat_lt, not, ◌==◌, IsSome}
use Rattle.std.specs.Int.{w32, from_le_bytes}
use Rattle.sstable_values.specs.declared.errors.BlockError.{BlockError}
use Rattle.sstable_values.specs.declared.errors.BlockError.TheVariants.{Memory, Corrupt, Compressed}
use Rattle.sstable_values.specs.Codec.{Codec}
use Rattle.sstable_values.specs.Values.{Values}
use Rattle.sstable_blocks.specs.Content.{Found, content_after}
unfoldable use Rattle.sstable_blocks.specs.Content.{block_at}
use Rattle.sstable_blocks.specs.Entries.{Entry, Walk, Step, entry_at, to_entry, to_first, to_block, onward}
use Rattle.sstable_blocks.specs.Slices.{Sliced, Steps, StepsIn, Stays}
use Rattle.sstable_blocks.proofs.SliceLaws.{ready-one}
use Rattle.sstable_blocks.proofs.BlockLaws.{block-parts}
use Rattle.block_search.specs.Standing.{Going, GoesOn, IsCompressedBehind, TellsCompressed, StandsWhereReached}

pub going-begin : {V : Type 0} (start : Sliced V) → GoesOn start start
going-begin start one none = record { going = none; one = one; by = 0; place = omega arith; rest = refl }

step-is : {V : Type 0} (x y : Walk V) → ◌≡◌ {A = Step V} (Ok (Some x)) (Ok (Some y)) → x ≡ y
step-is x y e = cc

-- so many bytes further
record Further {V : Type 0} (old new : Walk V) : Type 0 where
  by : ℕ
  place : new.place ≡ old.place + by
  rest : new.rest ≡ drop by old.rest

entry-further : {V : Type 0} (walk new : Walk V) (o : Option (Entry V × List ℕ)) → to_entry walk o ≡ Ok (Some new) → Further walk new
entry-further walk new None e = absurd cc
entry-further walk new (Some found) e =
    let same = step-is _ new e in
    let place : walk.place ≡ new.place = ap (λ (w : Walk _). w.place) same in
    record { by = 0; place = omega (arith, place); rest = sym (ap (λ (w : Walk _). w.rest) same) }

first-further : {V : Type 0} (walk new : Walk V) (o : Option (Values V × List ℕ)) → to_first walk o ≡ Ok (Some new) → Further walk new
first-further walk new None e = absurd cc
first-further walk new (Some found) e =
    let same = entry-further (record walk { values = found.0; given = 0; deltas = found.1 }) new (entry_at found.0 0 found.1) e in
    record { by = same.by; place = same.place; rest = same.rest }

block-further : {V : Type 0} (codec : Codec V) (walk new : Walk V) (found : Found) → block_at walk.place walk.rest ≡ found → to_block codec walk found ≡ Ok (Some new) → Further walk new
block-further codec walk new (Err error) is e = absurd cc
block-further codec walk new (Ok None) is e = absurd cc
block-further codec walk new (Ok (Some found)) is e =
    let same = first-further (record walk { rest = found.1; place = walk.place + (5 + length found.0) }) new (codec.values_of found.0) e in
    let parts = block-parts walk.place walk.rest found.0 found.1 is in
    let place : new.place ≡ walk.place + (5 + length found.0) + same.by = same.place in
    record {
      by = 5 + length found.0 + same.by;
      place = omega (arith, place);
      rest = same.rest ∙ ap (drop same.by) parts.2 ∙ drop-drop same.by (5 + length found.0) walk.rest;
    }

onward-further : {V : Type 0} (codec : Codec V) (old new : Walk V) (deltas : List ℕ) → onward codec old deltas ≡ Ok (Some new) → Further old new
onward-further codec old new [] e = block-further codec old new (block_at old.place old.rest) refl e
onward-further codec old new (b ∷ deltas) e = entry-further old new (entry_at old.values old.given old.deltas) e

pub going-more : {V : Type 0} (codec : Codec V) (start old new : Sliced V) (more : Bool) → GoesOn start old → more ≡ true → (old.final ≡ None → Steps codec old new (Ok more)) → Stays new (Ok more) → GoesOn start new
going-more codec start old new more goes is steps stays one none =
    let g = goes one none in
    let s = subst (λ (b : Bool). Stays new (Ok b)) is stays in
    let step = subst (λ o. StepsIn codec o new (Ok true)) (ready-one old g.one) (subst (λ (b : Bool). Steps codec old new (Ok b)) is (steps g.going)) in
    let f = onward-further codec old.walk new.walk old.walk.deltas step.0 in
    let here : old.walk.place ≡ start.walk.place + g.by = g.place in
    let place : new.walk.place ≡ old.walk.place + f.by = f.place in
    record {
      going = s.1;
      one = step.1 ∙ g.one;
      by = g.by + f.by;
      place = omega (arith, here, place);
      rest = f.rest ∙ ap (drop f.by) g.rest ∙ drop-drop f.by g.by start.walk.rest;
    }

no_end : (b : Bool) (r : Found) (error : BlockError) → cond b (Ok None) r ≡ Err error → r ≡ Err error
no_end true r error e = absurd cc
no_end false r error e = e

no_fault : (b : Bool) (r : Found) (p : ℕ) → cond b (Err Corrupt) r ≡ Err (Compressed p) → r ≡ Err (Compressed p)
no_fault true r p e = absurd cc
no_fault false r p e = e

place-is : (place p : ℕ) → ◌≡◌ {A = Found} (Err (Compressed place)) (Err (Compressed p)) → place ≡ p
place-is place p e = cc

content-place : (place len p : ℕ) (bytes : List ℕ) → content_after place len bytes ≡ Err (Compressed p) → place ≡ p
content-place place len p [] e = absurd cc
content-place place len p (c ∷ bytes) e = by_test (c == 1) e
  where
    whole : Found
    whole = Ok (Some (take len bytes, drop len bytes))

    cut : Found
    cut = cond (nat_lt (length bytes) len) (Err Corrupt) whole

    by_test : (b : Bool) → cond {A = Found} b (Err (Compressed place)) (cond (not (c == 0)) (Err Corrupt) cut) ≡ Err (Compressed p) → place ≡ p
    by_test true e = place-is place p e
    by_test false e =
        let second = no_fault (nat_lt (length bytes) len) whole p (no_fault (not (c == 0)) cut p e) in
        absurd (let none : ⊥ = cc in none)

found-place : (place p : ℕ) (bytes : List ℕ) → block_at place bytes ≡ Err (Compressed p) → place ≡ p
unfolding block_at
found-place place p bytes e =
    let some = no_end (length bytes == 0) _ (Compressed p) e in
    let long = no_fault (nat_lt (length bytes) 4) _ p some in
    let block = no_end (nat_lt (from_le_bytes w32 (take 4 bytes)) 2) _ (Compressed p) long in
    content-place place (from_le_bytes w32 (take 4 bytes) - 1) p (drop 4 bytes) block

entry-plain : {V : Type 0} (walk : Walk V) (o : Option (Entry V × List ℕ)) (p : ℕ) → to_entry walk o ≡ Err (Compressed p) → ⊥
entry-plain walk None p e = cc
entry-plain walk (Some found) p e = cc

first-plain : {V : Type 0} (walk : Walk V) (o : Option (Values V × List ℕ)) (p : ℕ) → to_first walk o ≡ Err (Compressed p) → ⊥
first-plain walk None p e = cc
first-plain walk (Some found) p e = entry-plain (record walk { values = found.0; given = 0; deltas = found.1 }) (entry_at found.0 0 found.1) p e

error-is : {V : Type 0} (one other : BlockError) → ◌≡◌ {A = Step V} (Err one) (Err other) → one ≡ other
error-is one other e = cc

block-compressed : {V : Type 0} (codec : Codec V) (walk : Walk V) (found : Found) (p : ℕ) → to_block codec walk found ≡ Err (Compressed p) → found ≡ Err (Compressed p)
block-compressed {V} codec walk (Err error) p e = ap Err (error-is {V = V} error (Compressed p) e)
block-compressed codec walk (Ok None) p e = absurd cc
block-compressed codec walk (Ok (Some found)) p e = absurd (first-plain (record walk { rest = found.1; place = walk.place + (5 + length found.0) }) (codec.values_of found.0) p e)

onward-compressed : {V : Type 0} (codec : Codec V) (walk : Walk V) (deltas : List ℕ) (p : ℕ) → onward codec walk deltas ≡ Err (Compressed p) → block_at walk.place walk.rest ≡ Err (Compressed p)
onward-compressed codec walk [] p e = block-compressed codec walk (block_at walk.place walk.rest) p e
onward-compressed codec walk (b ∷ deltas) p e = absurd (entry-plain walk (entry_at walk.values walk.given walk.deltas) p e)

-- a compressed block stands where the reader came to
compressed-at : {V : Type 0} (start now : Sliced V) (p : ℕ) → Going start now → block_at now.walk.place now.walk.rest ≡ Err (Compressed p) → IsCompressedBehind start p
compressed-at start now p g found =
    let at : now.walk.place ≡ p = found-place now.walk.place p now.walk.rest found in
    let place : now.walk.place ≡ start.walk.place + g.by = g.place in
    let by : g.by ≡ p - start.walk.place = omega (arith, at, place) in
    record {
      behind = omega (arith, at, place);
      there = ap (λ n. block_at p (drop n start.walk.rest)) (sym by) ∙ ap (block_at p) (sym g.rest) ∙ ap (λ n. block_at n now.walk.rest) (sym at) ∙ found;
    }

-- what a step tells that is an error
pub going-stopped : {V : Type 0} (codec : Codec V) (start old new : Sliced V) (error : BlockError) → GoesOn start old → (old.final ≡ None → Steps codec old new (Err error)) → TellsCompressed start error
going-stopped codec start old new Memory goes steps = tt
going-stopped codec start old new Corrupt goes steps = tt
going-stopped codec start old new (Compressed p) goes steps = λ one none.
    let g = goes one none in
    compressed-at start old p g (onward-compressed codec old.walk old.walk.deltas p (subst (λ o. StepsIn codec o new (Err (Compressed p))) (ready-one old g.one) (steps g.going)))

-- an entry was reached
pub going-reached : {V : Type 0} (codec : Codec V) (start old new : Sliced V) (more : Bool) → GoesOn start old → more ≡ true → (old.final ≡ None → Steps codec old new (Ok more)) → Stays new (Ok more) → StandsWhereReached start new (Ok true)
going-reached codec start old new more goes is steps stays =
    ((subst (λ (b : Bool). Stays new (Ok b)) is stays).0, going-more codec start old new more goes is steps stays)

pub stands-here : {V : Type 0} (new : Sliced V) (more : Bool) → more ≡ true → Stays new (Ok more) → IsSome new.walk.current
stands-here new more is stays = (subst (λ (b : Bool). Stays new (Ok b)) is stays).0
