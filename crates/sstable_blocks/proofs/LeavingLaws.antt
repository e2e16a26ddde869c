-- A reader of blocks goes on from slice to slice.
use Rattle.std.proofs.Common.{◌≢◌, ◌≡◌, ℕ, ◌+◌, ◌-◌, ◌<◌, ◌≤◌, List, [], ◌∷◌, length, take, drop, Option, Some, refl, ap, sym, ◌∙◌, subst, arith, length-drop, drop-cons, get_or, suc}
use Rattle.std.proofs.lemmas.List.{drop_all}
use Rattle.sstable_blocks.specs.declared.block_reader.BlockSlice.{BlockSlice}
use Rattle.sstable_values.specs.declared.errors.BlockError.{BlockError}
use Rattle.sstable_blocks.specs.BlockReader.{State, Left, InOrder, AreWithin, bytes_in, bytes_of, behind, ReadsBlock}
use Rattle.sstable_blocks.proofs.BlockLaws.{block-parts}
use Rattle.std.specs.Prelude.{IfOk, IsTrue, Result, Ok, Err, Bool, true, false}
use Rattle.std.proofs.lemmas.Bool.{false≢true}
unfoldable use Rattle.sstable_blocks.specs.BlockReader.{onto_bytes}

-- A reader behind a block, which stays before what it had left to begin with.
pub record Leaving (start begin at next : ℕ) (reader : List ℕ) (more : List BlockSlice) (ordinal : Option ℕ) (whole : Left) : Type 0 where
  pub order : InOrder start begin at next (length reader) more
  pub begun : begin ≡ next
  pub unread : at ≡ next
  pub left : onto_bytes (drop next reader) (start + next) more ordinal ≡ whole

pub Leaving-more : (start begin at next : ℕ) (reader : List ℕ) (more : List BlockSlice) (ordinal : Option ℕ) (whole : Left) (slice : BlockSlice) (slices : List BlockSlice)
    → Leaving start begin at next reader more ordinal whole → next ≡ length reader → more ≡ slice ∷ slices
    → Leaving slice.start 0 0 0 slice.bytes slices (Some slice.first_ordinal) whole
unfolding onto_bytes
Leaving-more start begin at next reader more ordinal whole slice slices l used is =
    let within : AreWithin (slice ∷ slices) = subst AreWithin is l.order.others in
    let none : drop next reader ≡ [] = drop_all next reader (omega (arith, used)) in
    let zero : slice.start + 0 ≡ slice.start = omega arith in
    record {
      order = record { begun = omega arith; unread = omega arith; within = omega arith; placed = within.0; others = within.1 };
      begun = refl;
      unread = refl;
      left = ap (λ p. onto_bytes slice.bytes p slices (Some slice.first_ordinal)) zero ∙ sym (ap (λ r. onto_bytes r (start + next) (slice ∷ slices) ordinal) none)
          ∙ sym (ap (λ ms. onto_bytes (drop next reader) (start + next) ms ordinal) is) ∙ l.left;
    }

-- what is shown behind a block
abbrev pub shown_at : ℕ → ℕ → ℕ → ℕ → List ℕ → List BlockSlice → Option ℕ → State
shown_at start begin at next reader more ordinal =
    record { block = take (next - begin) (drop begin reader); offset = at - begin; rest = drop next reader; place = start + next; more = more; ordinal = ordinal }

abbrev pub shown : Left → State
shown left = record { block = []; offset = 0; rest = left.rest; place = left.place; more = left.more; ordinal = left.ordinal }

shown-stays : (start begin at next : ℕ) (reader : List ℕ) (more : List BlockSlice) (ordinal : Option ℕ) (whole : Left)
    → Leaving start begin at next reader more ordinal whole
    → onto_bytes (drop next reader) (start + next) more ordinal ≡ record { rest = drop next reader; place = start + next; more = more; ordinal = ordinal }
    → shown_at start begin at next reader more ordinal ≡ shown whole
shown-stays start begin at next reader more ordinal whole l stays =
    let none : next - begin ≡ 0 = omega (arith, l.begun) in
    let zero : at - begin ≡ 0 = omega (arith, l.begun, l.unread) in
    ap (λ n. record { block = take n (drop begin reader); offset = at - begin; rest = drop next reader; place = start + next; more = more; ordinal = ordinal }) none
    ∙ ap (λ n. record { block = []; offset = n; rest = drop next reader; place = start + next; more = more; ordinal = ordinal }) zero
    ∙ ap shown (sym stays ∙ l.left)

-- where no slice is left
pub Leaving-last : (start begin at next : ℕ) (reader : List ℕ) (more : List BlockSlice) (ordinal : Option ℕ) (whole : Left)
    → Leaving start begin at next reader more ordinal whole → more ≡ [] → shown_at start begin at next reader more ordinal ≡ shown whole
unfolding onto_bytes
Leaving-last start begin at next reader more ordinal whole l none =
    shown-stays start begin at next reader more ordinal whole l
    (subst (λ ms. onto_bytes (drop next reader) (start + next) ms ordinal ≡ record { rest = drop next reader; place = start + next; more = ms; ordinal = ordinal }) (sym none) refl)

-- where bytes are left
onto-some : (b : ℕ) (bytes : List ℕ) (place : ℕ) (more : List BlockSlice) (ordinal : Option ℕ) → onto_bytes (b ∷ bytes) place more ordinal ≡ record { rest = b ∷ bytes; place = place; more = more; ordinal = ordinal }
unfolding onto_bytes
onto-some b bytes place [] ordinal = refl
onto-some b bytes place (slice ∷ more) ordinal = refl

pub Leaving-end : (start begin at next : ℕ) (reader : List ℕ) (more : List BlockSlice) (ordinal : Option ℕ) (whole : Left)
    → Leaving start begin at next reader more ordinal whole → next < length reader → shown_at start begin at next reader more ordinal ≡ shown whole
Leaving-end start begin at next reader more ordinal whole l some =
    let cons : drop next reader ≡ get_or reader next 0 ∷ drop (suc next) reader = drop-cons reader next 0 some in
    shown-stays start begin at next reader more ordinal whole l
    (subst (λ bs. onto_bytes bs (start + next) more ordinal ≡ record { rest = bs; place = start + next; more = more; ordinal = ordinal }) (sym cons) (onto-some (get_or reader next 0) (drop (suc next) reader) (start + next) more ordinal))

pub is_empty : {A : Type 0} (xs : List A) → length xs ≡ 0 → xs ≡ []
is_empty [] e = refl
is_empty (x ∷ xs) e = absurd (omega arith)

-- going on to another slice takes no byte
onto-fewer : (rest : List ℕ) (place : ℕ) (more : List BlockSlice) (ordinal : Option ℕ) → let left = onto_bytes rest place more ordinal in length left.rest + bytes_in left.more ≤ length rest + bytes_in more
unfolding onto_bytes
onto-fewer rest place [] ordinal = omega arith
onto-fewer [] place (slice ∷ slices) ordinal = let behind = onto-fewer slice.bytes slice.start slices (Some slice.first_ordinal) in omega (arith, behind)
onto-fewer (b ∷ rest) place (slice ∷ slices) ordinal = omega arith

-- the next block leaves fewer bytes than there were
pub reads-fewer : (old new : State) (r : Result Bool BlockError) → ReadsBlock (behind old) new r → IfOk r (λ more. IsTrue more → bytes_of new < bytes_of old)
reads-fewer old new (Err e) reads = tt
reads-fewer old new (Ok false) reads = λ t. absurd (false≢true t)
reads-fewer old new (Ok true) reads = λ t.
    let left = onto_bytes old.rest old.place old.more old.ordinal in
    let fewer = onto-fewer old.rest old.place old.more old.ordinal in
    let parts = block-parts left.place left.rest new.block new.rest reads.0 in
    let is_rest : length new.rest ≡ length left.rest - (5 + length new.block) = ap length parts.2 ∙ length-drop (5 + length new.block) left.rest in
    let same : bytes_in new.more ≡ bytes_in left.more = ap bytes_in reads.3 in
    let unread_len : length (drop new.offset new.block) ≤ length new.block = simp length-drop (omega arith) in
    omega (arith, fewer, parts.0, is_rest, same, unread_len)

-- a reader that went on to the next block's place stays there
onto-again : (rest : List ℕ) (place : ℕ) (more : List BlockSlice) (ordinal : Option ℕ) → let left = onto_bytes rest place more ordinal in onto_bytes left.rest left.place left.more left.ordinal ≡ left
unfolding onto_bytes
onto-again rest place [] ordinal = refl
onto-again [] place (slice ∷ slices) ordinal = onto-again slice.bytes slice.start slices (Some slice.first_ordinal)
onto-again (b ∷ rest) place (slice ∷ slices) ordinal = refl

-- at the end, or with an error, the next step begins at the same place
pub reads-again : (old new : State) (r : Result Bool BlockError) → ReadsBlock (behind old) new r → r ≢ Ok true → behind new ≡ new
reads-again old new (Err e) reads n = ap behind reads.1 ∙ ap shown (onto-again old.rest old.place old.more old.ordinal) ∙ sym reads.1
reads-again old new (Ok false) reads n = ap behind reads.1 ∙ ap shown (onto-again old.rest old.place old.more old.ordinal) ∙ sym reads.1
reads-again old new (Ok true) reads n = absurd (n refl)
