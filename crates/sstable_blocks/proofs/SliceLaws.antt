-- A reader over slices gives the entries of the slices, in order.
use Rattle.std.proofs.Common.{◌≡◌, ℕ, ◌+◌, ◌^◌, ◌<◌, List, [], ◌∷◌, ◌++◌, length, take, Bool, true, false, Option, Some, None, Result, Ok, Err, refl, ap, sym, ◌∙◌, subst, inl, inr, arith, append-nil}
use Rattle.std.specs.Prelude.{unwrap_or, nat_eq, nat_lt, ◌⊎◌, MatchOption}
use Rattle.std.proofs.lemmas.Bool.{eqb-true, ltb-true}
use Rattle.owned_bytes.specs.Front.{◌>>=◌, provided, End, Piece, continued, pieces}
use Rattle.owned_bytes.specs.Keys.{Key, shared}
use Rattle.owned_bytes.proofs.Pieces.{pieces-step, bind_some, some_is}
use Rattle.sstable_values.specs.declared.errors.BlockError.{BlockError}
use Rattle.sstable_values.specs.declared.errors.BlockError.TheVariants.{Memory, Corrupt, Compressed}
use Rattle.sstable_blocks.specs.declared.block_reader.BlockSlice.{BlockSlice}
use Rattle.sstable_values.specs.Values.{Values, values_from}
use Rattle.sstable_values.specs.Codec.{Codec}
use Rattle.sstable_blocks.specs.Content.{Found, block_at}
use Rattle.sstable_blocks.specs.Block.{key_after, paired}
use Rattle.sstable_blocks.specs.Run.{Run, front_of_blocks, block_or_end, blocks_after, entries_of, whole_run_of, run_of}
use Rattle.sstable_blocks.specs.BlockReader.{State, Left, onto_bytes, before_bytes, before_slices}
use Rattle.sstable_blocks.specs.Entries.{Entry, Walk, entry_at, Step, to_entry, to_first, to_block, onward, step, entries_left, MemoryOr, TakesFirst}
use Rattle.sstable_blocks.specs.Placed.{Placed, placed_from}
use Rattle.sstable_blocks.specs.Slices.{full_run_of, placed_run, placed_in, Sliced, placed_over, position, unless_final, entries_here, entries_over, Begins, HasEntriesOf, GivesFirst, GivesHere, TakesPlaced, GivesPlaced, in_slice, ready, StepsIn, Steps, Stays, AnswersFinal}
use Rattle.sstable_values.proofs.RisingLaws.{provided-true}
use Rattle.sstable_blocks.proofs.RunLaws.{blocks-shrink, front-placed, front-none}
use Rattle.sstable_blocks.proofs.EntryLaws.{Outcome, Ended, Moved, outcome, step-is, slice_left, values_used, fresh_left}

-- ---- what a step does to the bytes behind the block

entry-rest : {V : Type 0} (walk new : Walk V) (found : Option (Entry V × List ℕ)) → to_entry walk found ≡ Ok (Some new) → new.rest ≡ walk.rest
entry-rest walk new None e = absurd cc
entry-rest {V} walk new (Some found) e =
    let is : record walk { current = Some found.0; given = walk.given + 1; deltas = found.1 } ≡ new = step-is _ _ e in ap (λ (w : Walk V). w.rest) (sym is)

first-rest : {V : Type 0} (walk new : Walk V) (found : Option (Values V × List ℕ)) → to_first walk found ≡ Ok (Some new) → new.rest ≡ walk.rest
first-rest walk new None e = absurd cc
first-rest walk new (Some found) e = entry-rest (record walk { values = found.0; given = 0; deltas = found.1 }) new (entry_at found.0 0 found.1) e

-- some bytes are blocks up to their end
pub record IsFull (bytes : List ℕ) : Type 0 where
  pub contents : List (List ℕ)
  pub cut : pieces front_of_blocks bytes ≡ Some (contents, [])

full-step : (place : ℕ) (rest content after : List ℕ) → block_at place rest ≡ Ok (Some (content, after)) → IsFull rest → IsFull after
full-step place rest content after at f =
    let front : front_of_blocks rest ≡ Piece content after = front-placed 0 place rest ∙ ap block_or_end at in
    let cut : continued (pieces front_of_blocks) rest (Piece content after) ≡ Some (f.contents, []) = ap (continued (pieces front_of_blocks) rest) (sym front) ∙ sym (pieces-step front_of_blocks blocks-shrink rest) ∙ f.cut in
    let step = bind_some (pieces front_of_blocks after) (λ (others : List (List ℕ) × List ℕ). Some (content ∷ others.0, others.1)) (f.contents, []) cut in
    let same : (content ∷ step.0.0, step.0.1) ≡ (f.contents, []) = some_is _ _ step.2 in
    let end : step.0.1 ≡ [] = ap (λ (p : List (List ℕ) × List ℕ). p.1) same in
    record { contents = step.0.0; cut = step.1 ∙ ap (λ (e : List ℕ). Some (step.0.0, e)) end }

block-full : {V : Type 0} (codec : Codec V) (walk new : Walk V) (found : Found) → block_at walk.place walk.rest ≡ found → to_block codec walk found ≡ Ok (Some new) → IsFull walk.rest → IsFull new.rest
block-full codec walk new (Err x) at e f = absurd cc
block-full codec walk new (Ok None) at e f = absurd cc
block-full codec walk new (Ok (Some found)) at e f =
    let same = first-rest (record walk { rest = found.1; place = walk.place + (5 + length found.0) }) new (codec.values_of found.0) e in
    subst IsFull (sym same) (full-step walk.place walk.rest found.0 found.1 at f)

-- bytes that are blocks up to their end are so behind a step
step-full : {V : Type 0} (codec : Codec V) (walk new : Walk V) → step codec walk ≡ Ok (Some new) → IsFull walk.rest → IsFull new.rest
step-full {V} codec walk new e f = by_deltas walk.deltas e
  where
    by_deltas : (deltas : List ℕ) → onward codec walk deltas ≡ Ok (Some new) → IsFull new.rest
    by_deltas [] h = block-full codec walk new (block_at walk.place walk.rest) refl h f
    by_deltas (b ∷ bytes) h = subst IsFull (sym (entry-rest walk new (entry_at walk.values walk.given walk.deltas) h)) f

-- ---- the end of a slice

entry-end : {V : Type 0} (walk : Walk V) (found : Option (Entry V × List ℕ)) → to_entry walk found ≡ Ok None → ⊥
entry-end walk None e = cc
entry-end walk (Some found) e = cc

first-end : {V : Type 0} (walk : Walk V) (found : Option (Values V × List ℕ)) → to_first walk found ≡ Ok None → ⊥
first-end walk None e = cc
first-end walk (Some found) e = entry-end (record walk { values = found.0; given = 0; deltas = found.1 }) (entry_at found.0 0 found.1) e

block-end : {V : Type 0} (codec : Codec V) (walk : Walk V) (found : Found) → to_block codec walk found ≡ Ok None → found ≡ Ok None
block-end codec walk (Err x) e = absurd cc
block-end codec walk (Ok None) e = refl
block-end codec walk (Ok (Some found)) e = absurd (first-end (record walk { rest = found.1; place = walk.place + (5 + length found.0) }) (codec.values_of found.0) e)

-- where a step finds the end, the block and the bytes behind it are used up, if these are blocks up to their end
pub used_up : {V : Type 0} (codec : Codec V) (walk : Walk V) → step codec walk ≡ Ok None → IsFull walk.rest → (walk.deltas ≡ []) × (walk.rest ≡ [])
used_up {V} codec walk e f = by_deltas walk.deltas refl e
  where
    by_deltas : (deltas : List ℕ) → walk.deltas ≡ deltas → onward codec walk deltas ≡ Ok None → (walk.deltas ≡ []) × (walk.rest ≡ [])
    by_deltas (b ∷ bytes) same h = absurd (entry-end walk (entry_at walk.values walk.given walk.deltas) h)
    by_deltas [] same h =
        let found = block-end codec walk (block_at walk.place walk.rest) h in
        let front : front_of_blocks walk.rest ≡ End = front-placed 0 walk.place walk.rest ∙ ap block_or_end found in
        let ends : Some ([], walk.rest) ≡ Some (f.contents, []) = ap (continued (pieces front_of_blocks) walk.rest) (sym front) ∙ sym (pieces-step front_of_blocks blocks-shrink walk.rest) ∙ f.cut in
        (same, ap (λ (p : List (List ℕ) × List ℕ). p.1) (some_is ([], walk.rest) (f.contents, []) ends))

-- ---- what is left in the slices, by its parts

-- what the slices after this one have
abbrev pub After : {V : Type 0} → Codec V → List ℕ → List BlockSlice → List (Placed V) → Type 0
After codec rest [] others = others ≡ []
After codec rest (slice ∷ slices) others = IsFull rest × (placed_in codec (slice ∷ slices) ≡ Some others)

pub record Over {V : Type 0} (codec : Codec V) (before : Option Key) (first : ℕ) (walk : Walk V) (more : List BlockSlice) (entries : List (Placed V)) : Type 0 where
  pub es : List (Key × V)
  pub here : List (Placed V)
  pub others : List (Placed V)
  pub left : entries_left codec before walk ≡ Some es
  pub placed : placed_from first es ≡ Some here
  pub after : After codec walk.rest more others
  pub all : entries ≡ here ++ others

is_empty : {A : Type 0} (xs : List A) → nat_eq (length xs) 0 ≡ true → xs ≡ []
is_empty [] e = refl
is_empty (x ∷ xs) e = let none : length (x ∷ xs) ≡ 0 = eqb-true _ _ e in absurd (omega arith)

full-of : (rest : List ℕ) (contents : List (List ℕ) × List ℕ) → pieces front_of_blocks rest ≡ Some contents → nat_eq (length contents.1) 0 ≡ true → IsFull rest
full-of rest contents cut none = record { contents = contents.0; cut = cut ∙ ap (λ (e : List ℕ). Some (contents.0, e)) (is_empty contents.1 none) }

pub over-of : {V : Type 0} (codec : Codec V) (before : Option Key) (first : ℕ) (walk : Walk V) (more : List BlockSlice) (entries : List (Placed V)) → placed_over codec before first walk more ≡ Some entries → Over codec before first walk more entries
unfolding placed_over
over-of codec before first walk [] entries e =
    let left = bind_some (entries_left codec before walk) (placed_from first) entries e in
    record { es = left.0; here = entries; others = []; left = left.1; placed = left.2; after = refl; all = sym (append-nil entries) }
over-of {V} codec before first walk (slice ∷ slices) entries e =
    let last : List (Placed V) → Option (List (Placed V)) = λ here. placed_in codec (slice ∷ slices) >>= (λ others. Some (here ++ others)) in
    let left = bind_some (entries_left codec before walk) (λ es. placed_from first es >>= (λ here. pieces front_of_blocks walk.rest >>= (λ contents. provided (nat_eq (length contents.1) 0) >>= (λ _. last here)))) entries e in
    let here = bind_some (placed_from first left.0) (λ here. pieces front_of_blocks walk.rest >>= (λ contents. provided (nat_eq (length contents.1) 0) >>= (λ _. last here))) entries left.2 in
    let cut = bind_some (pieces front_of_blocks walk.rest) (λ contents. provided (nat_eq (length contents.1) 0) >>= (λ _. last here.0)) entries here.2 in
    let test = bind_some (provided (nat_eq (length cut.0.1) 0)) (λ _. last here.0) entries cut.2 in
    let others = bind_some (placed_in codec (slice ∷ slices)) (λ others. Some (here.0 ++ others)) entries test.2 in
    record {
      es = left.0;
      here = here.0;
      others = others.0;
      left = left.1;
      placed = here.1;
      after = (full-of walk.rest cut.0 cut.1 (provided-true _ _ test.1), others.1);
      all = sym (some_is _ _ others.2);
    }

pub of-over : {V : Type 0} (codec : Codec V) (before : Option Key) (first : ℕ) (walk : Walk V) (more : List BlockSlice) (entries : List (Placed V)) → Over codec before first walk more entries → placed_over codec before first walk more ≡ Some entries
unfolding placed_over
of-over codec before first walk [] entries o =
    ap (λ x. x >>= placed_from first) o.left ∙ o.placed ∙ ap Some (sym (append-nil o.here) ∙ ap (λ os. o.here ++ os) (sym o.after) ∙ sym o.all)
of-over {V} codec before first walk (slice ∷ slices) entries o =
    let last : List (Placed V) → Option (List (Placed V)) = λ here. placed_in codec (slice ∷ slices) >>= (λ others. Some (here ++ others)) in
    ap (λ x. x >>= (λ es. placed_from first es >>= (λ here. pieces front_of_blocks walk.rest >>= (λ contents. provided (nat_eq (length contents.1) 0) >>= (λ _. last here))))) o.left
    ∙ ap (λ x. x >>= (λ here. pieces front_of_blocks walk.rest >>= (λ contents. provided (nat_eq (length contents.1) 0) >>= (λ _. last here)))) o.placed
    ∙ ap (λ (x : Option (List (List ℕ) × List ℕ)). x >>= (λ contents. provided (nat_eq (length contents.1) 0) >>= (λ _. last o.here))) o.after.0.cut
    ∙ ap (λ x. x >>= (λ others. Some (o.here ++ others))) o.after.1
    ∙ ap Some (sym o.all)

-- ---- into a slice

full_run : {V : Type 0} (codec : Codec V) (bytes : List ℕ) (es : List (Key × V)) → full_run_of codec bytes ≡ Some es → (run_of codec bytes ≡ Some es) × IsFull bytes
unfolding full_run_of run_of whole_run_of
full_run {V} codec bytes es e =
    let run = bind_some (whole_run_of codec bytes) (λ (run : Run V). provided (nat_eq (length run.rest) 0) >>= (λ _. Some (entries_of run.blocks))) es e in
    let test = bind_some (provided (nat_eq (length run.0.rest) 0)) (λ _. Some (entries_of run.0.blocks)) es run.2 in
    let cut = bind_some (pieces front_of_blocks bytes) (λ contents. blocks_after codec None contents.0 >>= (λ blocks. Some (record { blocks = blocks; rest = contents.1 }))) run.0 run.1 in
    let blocks = bind_some (blocks_after codec None cut.0.0) (λ blocks. Some (record { blocks = blocks; rest = cut.0.1 })) run.0 cut.2 in
    let same : record { blocks = blocks.0; rest = cut.0.1 } ≡ run.0 = some_is _ _ blocks.2 in
    let rest : cut.0.1 ≡ [] = ap (λ (r : Run V). r.rest) same ∙ is_empty run.0.rest (provided-true _ _ test.1) in (
      ap (λ (x : Option (Run V)). x >>= (λ (run : Run V). Some (entries_of run.blocks))) run.1 ∙ test.2,
      record { contents = cut.0.0; cut = cut.1 ∙ ap (λ (r : List ℕ). Some (cut.0.0, r)) rest },
    )

-- what is left at the begin of a slice is what the slices have
pub enters : {V : Type 0} (codec : Codec V) (walk : Walk V) (slice : BlockSlice) (more : List BlockSlice) (entries : List (Placed V)) → entries_left codec None walk ≡ run_of codec slice.bytes → walk.rest ≡ slice.bytes
    → placed_in codec (slice ∷ more) ≡ Some entries → Over codec None slice.first_ordinal walk more entries
unfolding placed_in
enters codec walk slice [] entries run is e =
    let es = bind_some (run_of codec slice.bytes) (placed_from slice.first_ordinal) entries e in
    record { es = es.0; here = entries; others = []; left = run ∙ es.1; placed = es.2; after = refl; all = sym (append-nil entries) }
enters {V} codec walk slice (next ∷ more) entries run is e =
    let es = bind_some (full_run_of codec slice.bytes) (λ es. placed_from slice.first_ordinal es >>= (λ here. placed_in codec (next ∷ more) >>= (λ others. Some (here ++ others)))) entries e in
    let here = bind_some (placed_from slice.first_ordinal es.0) (λ here. placed_in codec (next ∷ more) >>= (λ others. Some (here ++ others))) entries es.2 in
    let others = bind_some (placed_in codec (next ∷ more)) (λ others. Some (here.0 ++ others)) entries here.2 in
    let full = full_run codec slice.bytes es.0 es.1 in
    record {
      es = es.0;
      here = here.0;
      others = others.0;
      left = run ∙ full.0;
      placed = here.1;
      after = (subst IsFull (sym is) full.1, others.1);
      all = sym (some_is _ _ others.2);
    }

-- ---- on to the slice that has bytes left

-- Where the next entry is looked for: these entries are left there, after the key before or at the begin of a slice.
record Ready {V : Type 0} (codec : Codec V) (before : Option Key) (next : ℕ) (walk : Walk V) (left : Left) (entries : List (Placed V)) : Type 0 where
  from : Option Key
  is : (from ≡ before) ⊎ (from ≡ None)
  over : Over codec from (position left.ordinal next) (record walk { rest = left.rest; place = left.place }) left.more entries
  ready : left.rest ≡ [] → left.more ≡ []

-- before no bytes no entry is left
none_left : {V : Type 0} (codec : Codec V) (before : Option Key) (walk : Walk V) (es : List (Key × V)) → walk.deltas ≡ [] → walk.rest ≡ [] → entries_left codec before walk ≡ Some es → es ≡ []
unfolding block_at
none_left {V} codec before walk es none empty left = by_outcome (outcome codec before walk es left)
  where
    ends : step codec walk ≡ Ok None
    ends = ap (λ ds. onward codec walk ds) none ∙ ap (λ bs. to_block codec walk (block_at walk.place bs)) empty

    by_outcome : Outcome codec before es walk → es ≡ []
    by_outcome (Ended is at) = is
    by_outcome (Moved new at takes) = let same : ◌≡◌ {A = Step V} (Ok None) (Ok (Some new)) = sym ends ∙ at in absurd cc

placed-none : {V : Type 0} (first : ℕ) (es : List (Key × V)) (here : List (Placed V)) → es ≡ [] → placed_from first es ≡ Some here → here ≡ []
unfolding placed_from
placed-none {V} first es here none e = let is : Some [] ≡ Some here = ap (placed_from first) (sym none) ∙ e in sym (some_is _ _ is)

onto-over : {V : Type 0} (codec : Codec V) (walk : Walk V) (more : List BlockSlice) (rest : List ℕ) (place : ℕ) (ordinal : Option ℕ) (next : ℕ) (before : Option Key) (entries : List (Placed V))
    → walk.deltas ≡ [] → paired [] (values_from walk.given walk.values) ≡ Some []
    → Over codec before (position ordinal next) (record walk { rest = rest; place = place }) more entries → Ready codec before next walk (onto_bytes rest place more ordinal) entries
unfolding onto_bytes
onto-over codec walk [] rest place ordinal next before entries none used o = record { from = before; is = inl refl; over = o; ready = λ e. refl }
onto-over codec walk (slice ∷ more) (b ∷ rest) place ordinal next before entries none used o = record { from = before; is = inl refl; over = o; ready = λ e. absurd cc }
onto-over {V} codec walk (slice ∷ more) [] place ordinal next before entries none used o =
    let here : o.here ≡ [] = placed-none (position ordinal next) o.es o.here (none_left codec before (record walk { rest = []; place = place }) o.es none refl o.left) o.placed in
    let all : o.others ≡ entries = sym (o.all ∙ ap (λ h. h ++ o.others) here) in
    let begin : Walk V = record walk { rest = slice.bytes; place = slice.start } in
    let r = onto-over codec walk more slice.bytes slice.start (Some slice.first_ordinal) next None entries none used
    (enters codec begin slice more entries (slice_left codec begin slice.bytes none used refl) refl (o.after.1 ∙ ap Some all)) in
    record { from = r.from; is = inr (elim r.is [ inl e ↦ e | inr e ↦ e ]); over = r.over; ready = r.ready }

-- ---- a step

-- the first of the entries that have positions
record FirstPlaced {V : Type 0} (first : ℕ) (key : Key) (value : V) (os : List (Key × V)) (here : List (Placed V)) : Type 0 where
  small : first < 2 ^ 64
  hs : List (Placed V)
  is : here ≡ (first, (key, value)) ∷ hs
  left : placed_from (first + 1) os ≡ Some hs

first_placed : {V : Type 0} (first : ℕ) (key : Key) (value : V) (es os : List (Key × V)) (here : List (Placed V)) → es ≡ (key, value) ∷ os → placed_from first es ≡ Some here → FirstPlaced first key value os here
unfolding placed_from
first_placed first key value es os here is e =
    let cons : placed_from first ((key, value) ∷ os) ≡ Some here = ap (placed_from first) (sym is) ∙ e in
    let test = bind_some (provided (nat_lt first (2 ^ 64))) (λ _. placed_from (first + 1) os >>= (λ others. Some ((first, (key, value)) ∷ others))) here cons in
    let others = bind_some (placed_from (first + 1) os) (λ others. Some ((first, (key, value)) ∷ others)) here test.2 in
    record { small = ltb-true first (2 ^ 64) (provided-true _ _ test.1); hs = others.0; is = sym (some_is _ _ others.2); left = others.1 }

after-step : {V : Type 0} (codec : Codec V) (walk new : Walk V) (more : List BlockSlice) (others : List (Placed V)) → step codec walk ≡ Ok (Some new) → After codec walk.rest more others → After codec new.rest more others
after-step codec walk new [] others at after = after
after-step codec walk new (slice ∷ slices) others at after = (step-full codec walk new at after.0, after.1)

-- the key is made the same of no key before and of one, since it keeps nothing of that
made-from : (from before : Option Key) (keep : ℕ) (suffix key : List ℕ) → (from ≡ before) ⊎ (from ≡ None) → key_after (unwrap_or from []) (record { keep = keep; suffix = suffix }) ≡ key → (keep ≡ 0) ⊎ (keep ≡ shared (unwrap_or from []) key)
    → key_after (unwrap_or before []) (record { keep = keep; suffix = suffix }) ≡ key
made-from from before keep suffix key (inl same) made keeps = subst (λ b. key_after (unwrap_or b []) (record { keep = keep; suffix = suffix }) ≡ key) same made
made-from from before keep suffix key (inr none) made keeps =
    let zero : keep ≡ 0 = elim keeps [ inl z ↦ z | inr s ↦ s ∙ ap (λ b. shared (unwrap_or b []) key) none ] in
    ap (λ n. take n (unwrap_or before []) ++ suffix) zero ∙ sym (ap (λ n. take n (unwrap_or from []) ++ suffix) zero) ∙ made

keeps-from : (from before : Option Key) (keep : ℕ) (key : Key) → (from ≡ before) ⊎ (from ≡ None) → (keep ≡ 0) ⊎ (keep ≡ shared (unwrap_or from []) key) → (keep ≡ 0) ⊎ (keep ≡ shared (unwrap_or before []) key)
keeps-from from before keep key (inl same) keeps = subst (λ b. (keep ≡ 0) ⊎ (keep ≡ shared (unwrap_or b []) key)) same keeps
keeps-from from before keep key (inr none) keeps = inl (elim keeps [ inl z ↦ z | inr s ↦ s ∙ ap (λ b. shared (unwrap_or b []) key) none ])

-- A step in the slice where the next entry is looked for.
gives-in : {V : Type 0} (codec : Codec V) (before from : Option Key) (next : ℕ) (old new : Sliced V) (entries : List (Placed V)) (r : Result Bool BlockError)
    → (from ≡ before) ⊎ (from ≡ None) → (old.walk.deltas ≡ [] → old.walk.rest ≡ [] → old.more ≡ []) → Over codec from (position old.ordinal next) old.walk old.more entries
    → StepsIn codec old new r → Stays new r → GivesPlaced codec before next entries new r
gives-in {V} codec before from next old new entries (Ok true) is ready o steps stays = by_outcome (outcome codec from old.walk o.es o.left)
  where
    by_outcome : Outcome codec from o.es old.walk → TakesPlaced codec before next entries new
    by_outcome (Ended none at) = let same : ◌≡◌ {A = Step V} (Ok None) (Ok (Some new.walk)) = sym at ∙ steps.0 in absurd cc
    by_outcome (Moved there at takes') =
        let takes = subst (λ w. TakesFirst codec from o.es w) (step-is there new.walk (sym at ∙ steps.0)) takes' in
        let first = position old.ordinal next in
        let same_first : first ≡ position new.ordinal next = ap (λ p. position p next) (sym steps.2) in
        let p = first_placed first takes.key takes.entry.value o.es takes.others o.here takes.first o.placed in
        let left : placed_over codec (Some takes.key) (first + 1) new.walk new.more ≡ Some (p.hs ++ o.others) =
        of-over codec (Some takes.key) (first + 1) new.walk new.more (p.hs ++ o.others) (record {
          es = takes.others;
          here = p.hs;
          others = o.others;
          left = takes.left;
          placed = p.left;
          after = subst (λ more. After codec new.walk.rest more o.others) (sym steps.1) (after-step codec old.walk new.walk old.more o.others steps.0 o.after);
          all = refl;
        }) in
        record {
          entry = takes.entry;
          key = takes.key;
          others = p.hs ++ o.others;
          small = subst (λ n. n < 2 ^ 64) same_first p.small;
          first = o.all ∙ ap (λ h. h ++ o.others) p.is ∙ ap (λ n. (n, (takes.key, takes.entry.value)) ∷ (p.hs ++ o.others)) same_first;
          current = takes.current;
          made = made-from from before takes.entry.delta.keep takes.entry.delta.suffix takes.key is takes.made takes.keeps;
          keeps = keeps-from from before takes.entry.delta.keep takes.key is takes.keeps;
          left = ap (λ f. unless_final f (placed_over codec (Some takes.key) (position new.ordinal next + 1) new.walk new.more)) stays.1
              ∙ ap (λ n. placed_over codec (Some takes.key) (n + 1) new.walk new.more) (sym same_first) ∙ left;
        }
gives-in {V} codec before from next old new entries (Ok false) is ready o steps stays = by_outcome (outcome codec from old.walk o.es o.left)
  where
    by_more : (more : List BlockSlice) → old.more ≡ more → After codec old.walk.rest more o.others → o.others ≡ []
    by_more [] same after = after
    by_more (slice ∷ slices) same after =
        let used = used_up codec old.walk steps after.0 in
        let none : slice ∷ slices ≡ [] = sym same ∙ ready used.0 used.1 in absurd cc

    by_outcome : Outcome codec from o.es old.walk → entries ≡ []
    by_outcome (Ended none at) =
        let here = placed-none (position old.ordinal next) o.es o.here none o.placed in
        o.all ∙ ap (λ h. h ++ o.others) here ∙ by_more old.more refl o.after
    by_outcome (Moved there at takes) = let same : ◌≡◌ {A = Step V} (Ok None) (Ok (Some there)) = sym steps ∙ at in absurd cc
gives-in {V} codec before from next old new entries (Err x) is ready o steps stays = by_error x steps (outcome codec from old.walk o.es o.left)
  where
    by_error : (x : BlockError) → MemoryOr x (step codec old.walk ≡ Err x) → Outcome codec from o.es old.walk → x ≡ Memory
    by_error Memory at out = refl
    by_error Corrupt at (Ended none is) = let same : ◌≡◌ {A = Step V} (Err Corrupt) (Ok None) = sym at ∙ is in absurd cc
    by_error Corrupt at (Moved there is takes) = let same : ◌≡◌ {A = Step V} (Err Corrupt) (Ok (Some there)) = sym at ∙ is in absurd cc
    by_error (Compressed place) at (Ended none is) = let same : ◌≡◌ {A = Step V} (Err (Compressed place)) (Ok None) = sym at ∙ is in absurd cc
    by_error (Compressed place) at (Moved there is takes) = let same : ◌≡◌ {A = Step V} (Err (Compressed place)) (Ok (Some there)) = sym at ∙ is in absurd cc

-- What a call gives of the entries that were to come, over all slices.
pub gives_placed : {V : Type 0} (codec : Codec V) (old new : Sliced V) (r : Result Bool BlockError) → AnswersFinal old new r → Stays new r → (old.final ≡ None → Steps codec old new r)
    → (before : Option Key) (next : ℕ) (entries : List (Placed V)) → entries_over codec before next old ≡ Some entries → GivesPlaced codec before next entries new r
gives_placed {V} codec old new r answers stays steps before next entries e = by_final old.final refl
  where
    by_deltas : Over codec before (position old.ordinal next) old.walk old.more entries → StepsIn codec (ready old) new r → (deltas : List ℕ) → old.walk.deltas ≡ deltas → GivesPlaced codec before next entries new r
    by_deltas o at (b ∷ deltas) same =
        let here : StepsIn codec old new r = subst (λ ds. StepsIn codec (in_slice old ds) new r) same at in
        gives-in codec before before next old new entries r (inl refl) (λ none. let wrong : b ∷ deltas ≡ [] = sym same ∙ none in absurd cc) o here stays
    by_deltas o at [] same =
        let used = values_used codec before old.walk o.es o.left same in
        let there : StepsIn codec (in_slice old []) new r = subst (λ ds. StepsIn codec (in_slice old ds) new r) same at in
        let q = onto-over codec old.walk old.more old.walk.rest old.walk.place old.ordinal next before entries same used o in
        gives-in codec before q.from next (in_slice old []) new entries r q.is (λ none empty. q.ready empty) q.over there stays

    by_answer : (answer : Bool) → old.final ≡ Some (Ok answer) → r ≡ Ok answer → new ≡ old → entries ≡ [] → (x : Result Bool BlockError) → r ≡ x → Stays new x → GivesPlaced codec before next entries new x
    by_answer answer is same_r same none (Ok false) at s = none
    by_answer answer is same_r same none (Ok true) at s = let wrong : Some (Ok answer) ≡ None = sym is ∙ ap (λ (st : Sliced V). st.final) (sym same) ∙ s.1 in absurd cc
    by_answer answer is same_r same none (Err x) at s = let wrong : ◌≡◌ {A = Result Bool BlockError} (Ok answer) (Err x) = sym same_r ∙ at in absurd cc

    by_final : (final : Option (Result Bool BlockError)) → old.final ≡ final → GivesPlaced codec before next entries new r
    by_final None is =
        let over : placed_over codec before (position old.ordinal next) old.walk old.more ≡ Some entries =
        sym (ap (λ f. unless_final f (placed_over codec before (position old.ordinal next) old.walk old.more)) is) ∙ e in
        by_deltas (over-of codec before (position old.ordinal next) old.walk old.more entries over) (steps is) old.walk.deltas refl
    by_final (Some (Ok answer)) is =
        let none : Some [] ≡ Some entries = sym (ap (λ f. unless_final f (placed_over codec before (position old.ordinal next) old.walk old.more)) is) ∙ e in
        let stayed : (r ≡ Ok answer) × (new ≡ old) = subst (λ f. MatchOption f (Unit {0}) (λ a. (r ≡ a) × (new ≡ old))) is answers in
        by_answer answer is stayed.0 stayed.1 (sym (some_is _ _ none)) r refl stays
    by_final (Some (Err x)) is =
        let none : ◌≡◌ {A = Option (List (Placed V))} None (Some entries) = sym (ap (λ f. unless_final f (placed_over codec before (position old.ordinal next) old.walk old.more)) is) ∙ e in absurd cc

-- ---- a reader of one slice

in_slice-one : {V : Type 0} (old : Sliced V) (deltas : List ℕ) → old.more ≡ [] → in_slice old deltas ≡ old
unfolding onto_bytes
in_slice-one old (b ∷ deltas) one = refl
in_slice-one {V} old [] one =
    ap (λ more. let left = onto_bytes old.walk.rest old.walk.place more old.ordinal in let walk : Walk V = record old.walk { rest = left.rest; place = left.place } in
    record old { walk = walk; more = left.more; ordinal = left.ordinal }) one
    ∙ ap (λ more. record old { more = more }) (sym one)

-- a reader of one slice looks for its next entry where it stands
pub ready-one : {V : Type 0} (old : Sliced V) → old.more ≡ [] → ready old ≡ old
ready-one old one = in_slice-one old old.walk.deltas one

gives-one : {V : Type 0} (codec : Codec V) (before : Option Key) (old new : Sliced V) (entries : List (Key × V)) (r : Result Bool BlockError) → old.more ≡ []
    → entries_left codec before old.walk ≡ Some entries → StepsIn codec old new r → GivesFirst codec before entries new r
gives-one {V} codec before old new entries (Ok true) one left steps = by_outcome (outcome codec before old.walk entries left)
  where
    by_outcome : Outcome codec before entries old.walk → TakesFirst codec before entries new.walk × (new.more ≡ [])
    by_outcome (Ended none at) = let same : ◌≡◌ {A = Step V} (Ok None) (Ok (Some new.walk)) = sym at ∙ steps.0 in absurd cc
    by_outcome (Moved there at takes) = (subst (λ w. TakesFirst codec before entries w) (step-is there new.walk (sym at ∙ steps.0)) takes, steps.1 ∙ one)
gives-one {V} codec before old new entries (Ok false) one left steps = by_outcome (outcome codec before old.walk entries left)
  where
    by_outcome : Outcome codec before entries old.walk → entries ≡ []
    by_outcome (Ended none at) = none
    by_outcome (Moved there at takes) = let same : ◌≡◌ {A = Step V} (Ok None) (Ok (Some there)) = sym steps ∙ at in absurd cc
gives-one {V} codec before old new entries (Err x) one left steps = by_error x steps (outcome codec before old.walk entries left)
  where
    by_error : (x : BlockError) → MemoryOr x (step codec old.walk ≡ Err x) → Outcome codec before entries old.walk → x ≡ Memory
    by_error Memory at out = refl
    by_error Corrupt at (Ended none is) = let same : ◌≡◌ {A = Step V} (Err Corrupt) (Ok None) = sym at ∙ is in absurd cc
    by_error Corrupt at (Moved there is takes) = let same : ◌≡◌ {A = Step V} (Err Corrupt) (Ok (Some there)) = sym at ∙ is in absurd cc
    by_error (Compressed place) at (Ended none is) = let same : ◌≡◌ {A = Step V} (Err (Compressed place)) (Ok None) = sym at ∙ is in absurd cc
    by_error (Compressed place) at (Moved there is takes) = let same : ◌≡◌ {A = Step V} (Err (Compressed place)) (Ok (Some there)) = sym at ∙ is in absurd cc

-- What a call gives of the entries of one slice.
pub gives_here : {V : Type 0} (codec : Codec V) (old new : Sliced V) (r : Result Bool BlockError) → AnswersFinal old new r → Stays new r → (old.final ≡ None → Steps codec old new r) → GivesHere codec old new r
gives_here {V} codec old new r answers stays steps before entries one e = by_final old.final refl
  where
    by_answer : (answer : Bool) → old.final ≡ Some (Ok answer) → r ≡ Ok answer → new ≡ old → entries ≡ [] → (x : Result Bool BlockError) → r ≡ x → Stays new x → GivesFirst codec before entries new x
    by_answer answer is same_r same none (Ok false) at s = none
    by_answer answer is same_r same none (Ok true) at s = let wrong : Some (Ok answer) ≡ None = sym is ∙ ap (λ (st : Sliced V). st.final) (sym same) ∙ s.1 in absurd cc
    by_answer answer is same_r same none (Err x) at s = let wrong : ◌≡◌ {A = Result Bool BlockError} (Ok answer) (Err x) = sym same_r ∙ at in absurd cc

    by_final : (final : Option (Result Bool BlockError)) → old.final ≡ final → GivesFirst codec before entries new r
    by_final None is =
        let left : entries_left codec before old.walk ≡ Some entries = sym (ap (λ f. unless_final f (entries_left codec before old.walk)) is) ∙ e in
        gives-one codec before old new entries r one left (subst (λ s. StepsIn codec s new r) (ready-one old one) (steps is))
    by_final (Some (Ok answer)) is =
        let none : Some [] ≡ Some entries = sym (ap (λ f. unless_final f (entries_left codec before old.walk)) is) ∙ e in
        let stayed : (r ≡ Ok answer) × (new ≡ old) = subst (λ f. MatchOption f (Unit {0}) (λ a. (r ≡ a) × (new ≡ old))) is answers in
        by_answer answer is stayed.0 stayed.1 (sym (some_is _ _ none)) r refl stays
    by_final (Some (Err x)) is =
        let none : ◌≡◌ {A = Option (List (Key × V))} None (Some entries) = sym (ap (λ f. unless_final f (entries_left codec before old.walk)) is) ∙ e in absurd cc

-- ---- a reader that gave no entry yet

new-run : {V : Type 0} (codec : Codec V) (stands : Sliced V) (s : State) → Begins codec stands s → entries_left codec None stands.walk ≡ run_of codec s.rest
new-run codec stands s n = fresh_left codec stands.walk s.rest s.place n.fresh

over-is : {V : Type 0} (codec : Codec V) (stands : Sliced V) (s : State) (next : ℕ) → Begins codec stands s
    → entries_over codec None next stands ≡ placed_over codec None (position s.ordinal next) stands.walk s.more
over-is codec stands s next n =
    ap (λ f. unless_final f (placed_over codec None (position stands.ordinal next) stands.walk stands.more)) n.no_answer
    ∙ ap (λ ms. placed_over codec None (position stands.ordinal next) stands.walk ms) n.slices
    ∙ ap (λ o. placed_over codec None (position o next) stands.walk s.more) n.first

pub new-left : {V : Type 0} (codec : Codec V) (stands : Sliced V) (bytes : List ℕ) (start next : ℕ) → Begins codec stands (before_bytes bytes start) → entries_over codec None next stands ≡ placed_run codec next bytes
unfolding placed_over
new-left codec stands bytes start next n = over-is codec stands (before_bytes bytes start) next n ∙ ap (λ o. o >>= placed_from next) (new-run codec stands (before_bytes bytes start) n)

pub here-left : {V : Type 0} (codec : Codec V) (stands : Sliced V) (s : State) → Begins codec stands s → entries_here codec None stands ≡ run_of codec s.rest
here-left codec stands s n = ap (λ f. unless_final f (entries_left codec None stands.walk)) n.no_answer ∙ new-run codec stands s n

slices-left : {V : Type 0} (codec : Codec V) (stands : Sliced V) (slice : BlockSlice) (more : List BlockSlice) (next : ℕ) (entries : List (Placed V)) → Begins codec stands (before_slices (slice ∷ more))
    → placed_in codec (slice ∷ more) ≡ Some entries → entries_over codec None next stands ≡ Some entries
slices-left {V} codec stands slice more next entries n e =
    over-is codec stands (before_slices (slice ∷ more)) next n
    ∙ of-over codec None slice.first_ordinal stands.walk more entries (enters codec stands.walk slice more entries (new-run codec stands (before_slices (slice ∷ more)) n) n.fresh.bytes e)

-- no bytes have no entries
pub run_of-none : {V : Type 0} (codec : Codec V) → run_of codec [] ≡ Some []
unfolding run_of whole_run_of blocks_after
run_of-none codec = ap (λ o. (o >>= (λ (contents : List (List _) × List _). blocks_after codec None contents.0 >>= (λ blocks. Some (record { blocks = blocks; rest = contents.1 })))) >>= (λ (run : Run _). Some (entries_of run.blocks))) (pieces-step front_of_blocks blocks-shrink [] ∙ ap (continued (pieces front_of_blocks) []) front-none)

pub placed_run-none : {V : Type 0} (codec : Codec V) (next : ℕ) → placed_run codec next [] ≡ Some []
unfolding placed_from
placed_run-none codec next = ap (λ o. o >>= placed_from next) (run_of-none codec)

-- what a reader of blocks before its first block gives, over any slices
pub before-left : {V : Type 0} (codec : Codec V) (stands : Sliced V) (slices : List BlockSlice) → Begins codec stands (before_slices slices) → HasEntriesOf codec slices stands
unfolding placed_in
before-left codec stands [] n next entries e = new-left codec stands [] 0 next n ∙ placed_run-none codec next ∙ e
before-left codec stands (slice ∷ slices) n next entries e = slices-left codec stands slice slices next entries n e
