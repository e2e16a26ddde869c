-- What an insertion does to the list inserted so far, and to the lengths of the blocks.
use Rattle.std.proofs.Common.{◌≡◌, ℕ, ◌-◌, ◌≤◌, List, [], ◌∷◌, ◌++◌, length, Bool, true, false, Option, Some, None, Result, Ok, Err, inl, inr, refl, ap, sym, ◌∙◌, subst, arith, length-append, append_assoc, append-nil}
use Rattle.std.specs.Prelude.{option_map, IfSome, OnOk}
use Rattle.std.specs.List.{AllByRecursion}
use Rattle.std.proofs.lemmas.Bool.{ltb-false, le-ltb, false≢true}
use Rattle.std.proofs.lemmas.List.{take_at}
use Rattle.owned_bytes.specs.Keys.{Key}
use Rattle.owned_bytes.proofs.Pieces.{some_is}
use Rattle.sstable_values.specs.Codec.{Codec}
unfoldable use Rattle.sstable_blocks.specs.Block.{deltas_between}
use Rattle.sstable_blocks.specs.Run.{Block, entries_of}
use Rattle.sstable_index.specs.declared.write_errors.SstWriteError.{SstWriteError}
use Rattle.sstable_tables.specs.Making.{Making, ClosesIfDue, inserted, IsTaken, Adds, is_due, Closes, Closing, Inserting, Gathering, greatest_len, Lengthens, KeepsList, but_last, HasSmallBlocks, KeepsBlocksSmall, deltas_of, content_of, open_block}
use Rattle.sstable_tables.proofs.Blocks.{if_some, of_some, entries-more, entries-both}
use Rattle.sstable_tables.proofs.Closing.{open-one, entries-open}

ready-stays : {W V : Type 0} (codec : Codec V) (old between : Making W V) (key : Key) (v : V) → IsTaken codec old key v → Adds old between key v → between.refusal ≡ None
ready-stays codec old between key v taken adds = ap (λ (w : Making _ _). w.refusal) adds.others ∙ taken.ready

-- an entry was added, and then the block closed where it was due
pub inserts-by : {W V : Type 0} (codec : Codec V) (told : W → Option (List ℕ)) (old between new : Making W V) (key : Key) (v : V) (result : Result (Unit {0}) SstWriteError)
    → IsTaken codec old key v → Adds old between key v → Closing codec told between new result → Inserting codec told old new key v result
inserts-by codec told old between new key v (Ok x) taken adds closing = record { taken = taken; between = between; added = adds; closes = closing.1 }
inserts-by codec told old between new key v (Err e) taken adds (inl refused) = absurd (let no : None ≡ Some e = sym (ready-stays codec old between key v taken adds) ∙ refused.0 in cc)
inserts-by codec told old between new key v (Err e) taken adds (inr closing) = inr (record { taken = taken; between = between; added = adds; closes = closing.1 })

-- no block of the greatest length is due
never-due : {W V : Type 0} (old between : Making W V) (key : Key) (v : V) → Adds old between key v → old.block_len ≡ greatest_len → is_due between ≡ false
never-due old between key v adds len =
    let same : between.block_len ≡ old.block_len = ap (λ (w : Making _ _). w.block_len) adds.others in
    le-ltb _ _ (omega (arith, same, len, adds.fits))

pub gathers-by : {W V : Type 0} (codec : Codec V) (told : W → Option (List ℕ)) (old new : Making W V) (key : Key) (v : V) (result : Result (Unit {0}) SstWriteError)
    → Inserting codec told old new key v result → old.block_len ≡ greatest_len → Gathering codec old new key v result
gathers-by codec told old new key v (Ok x) i len = (i.taken, subst (λ w. Adds old w key v) (sym (i.closes.1 (never-due old i.between key v i.added len))) i.added)
gathers-by codec told old new key v (Err e) (inl refused) len = refused
gathers-by codec told old new key v (Err e) (inr i) len = absurd (false≢true (sym (never-due old i.between key v i.added len) ∙ i.closes.0))

inserted-is : {W V : Type 0} (w : Making W V) (blocks : List (Block V)) → w.closed ≡ Some blocks → inserted w ≡ Some (entries_of blocks ++ w.gathered)
inserted-is w blocks is = ap (option_map (λ blocks. entries_of blocks ++ w.gathered)) is

inserted-parts : {W V : Type 0} (w : Making W V) (entries : List (Key × V)) → inserted w ≡ Some entries → (blocks : List (Block V)) × (w.closed ≡ Some blocks) × (entries ≡ entries_of blocks ++ w.gathered)
inserted-parts {W} {V} w entries is = by w.closed refl is
  where
    by : (found : Option (List (Block V))) → w.closed ≡ found → option_map (λ blocks. entries_of blocks ++ w.gathered) found ≡ Some entries → (blocks : List (Block V)) × (w.closed ≡ Some blocks) × (entries ≡ entries_of blocks ++ w.gathered)
    by None e h = absurd cc
    by (Some blocks) e h = (blocks, e, sym (some_is _ _ h))

-- the list inserted so far has the entry
adds-to-list : {W V : Type 0} (old new : Making W V) (blocks : List (Block V)) (key : Key) (v : V) → Adds old new key v → old.closed ≡ Some blocks → inserted new ≡ Some ((entries_of blocks ++ old.gathered) ++ (key, v) ∷ [])
adds-to-list old new blocks key v adds is =
    inserted-is new blocks (of_some (λ bs. new.closed ≡ Some bs) old.closed blocks is adds.closed)
    ∙ ap (λ es. Some (entries_of blocks ++ es)) adds.gathered
    ∙ ap Some (sym (append_assoc (entries_of blocks) old.gathered ((key, v) ∷ [])))

-- the open block, once an entry was added to it
block-open : {W V : Type 0} (codec : Codec V) (old new : Making W V) (key : Key) (v : V) → Adds old new key v → open_block codec new ≡ record { content = content_of codec new; entries = new.gathered } ∷ []
block-open codec old new key v adds = open-one new.gathered _ (λ none. absurd (omega (arith, ap length (sym adds.gathered ∙ none), length-append old.gathered ((key, v) ∷ []))))

-- the blocks that are told once the open one was closed
closed-by : {W V : Type 0} (codec : Codec V) (told : W → Option (List ℕ)) (old between new : Making W V) (blocks : List (Block V)) (bytes : List ℕ) (key : Key) (v : V) → Adds old between key v → Closes codec told between new → told old.sink ≡ Some bytes → old.closed ≡ Some blocks
    → new.closed ≡ Some (blocks ++ record { content = content_of codec between; entries = between.gathered } ∷ [])
closed-by {W} {V} codec told old between new blocks bytes key v adds closes tells is =
    let kept : between.closed ≡ Some blocks = of_some (λ bs. between.closed ≡ Some bs) old.closed blocks is adds.closed in
    let same : told between.sink ≡ Some bytes = ap (λ (w : Making W V). told w.sink) adds.others ∙ tells in
    of_some (λ (bs : List (Block V)). new.closed ≡ Some (bs ++ open_block codec between)) between.closed blocks kept
    (of_some (λ (b : List ℕ). IfSome between.closed (λ bs. new.closed ≡ Some (bs ++ open_block codec between))) (told between.sink) bytes same closes.closed)
    ∙ ap (λ bs. Some (blocks ++ bs)) (block-open codec old between key v adds)

pub lengthens : {W V : Type 0} (codec : Codec V) (told : W → Option (List ℕ)) (old new : Making W V) (key : Key) (v : V) → Inserting codec told old new key v (Ok tt) → Lengthens told old new key v
lengthens {W} {V} codec told old new key v i =
    if_some (told old.sink) (λ bytes tells. if_some (inserted old) (λ entries is.
    let parts = inserted-parts old entries is in
    let adds = adds-to-list old i.between parts.0 key v i.added parts.1 in
    by (is_due i.between) refl bytes tells parts.0 parts.1 adds ∙ ap (λ es. Some (es ++ (key, v) ∷ [])) (sym parts.2)))
  where
    by : (due : Bool) → is_due i.between ≡ due → (bytes : List ℕ) → told old.sink ≡ Some bytes → (blocks : List (Block V)) → old.closed ≡ Some blocks → inserted i.between ≡ Some ((entries_of blocks ++ old.gathered) ++ (key, v) ∷ [])
        → inserted new ≡ Some ((entries_of blocks ++ old.gathered) ++ (key, v) ∷ [])
    by false stays bytes tells blocks is adds = ap inserted (i.closes.1 stays) ∙ adds
    by true due bytes tells blocks is adds =
        let closes = i.closes.0 due in
        let one : Block V = record { content = content_of codec i.between; entries = i.between.gathered } in
        inserted-is new (blocks ++ one ∷ []) (closed-by codec told old i.between new blocks bytes key v i.added closes tells is)
        ∙ ap (λ es. Some (entries_of (blocks ++ one ∷ []) ++ es)) closes.gathered
        ∙ ap Some (append-nil (entries_of (blocks ++ one ∷ [])) ∙ entries-more blocks one)
        ∙ ap (λ es. Some (entries_of blocks ++ es)) i.added.gathered
        ∙ ap Some (sym (append_assoc (entries_of blocks) old.gathered ((key, v) ∷ [])))

but_last-more : {V : Type 0} (entries : List (Key × V)) (entry : Key × V) → but_last (entries ++ entry ∷ []) ≡ entries
but_last-more entries entry = take_at entries (entry ∷ []) (length (entries ++ entry ∷ []) - 1) (omega (arith, length-append entries (entry ∷ [])))

all-more : {A : Type 0} (P : A → Type 0) (xs : List A) (x : A) → AllByRecursion P xs → P x → AllByRecursion P (xs ++ x ∷ [])
all-more P [] x all p = (p, tt)
all-more P (y ∷ xs) x all p = (all.0, all-more P xs x all.1 p)

no-deltas : {V : Type 0} (entries : List (Key × V)) (n : ℕ) → entries ≡ [] → length (deltas_of entries) ≤ n
unfolding deltas_between
no-deltas entries n none = omega (arith, ap (λ es. length (deltas_of es)) none)

pub keeps-small : {W V : Type 0} (codec : Codec V) (told : W → Option (List ℕ)) (old new : Making W V) (key : Key) (v : V) → Inserting codec told old new key v (Ok tt) → KeepsBlocksSmall told old new
keeps-small {W} {V} codec told old new key v i =
    if_some (told old.sink) (λ bytes tells small. by (is_due i.between) refl bytes tells small)
  where
    len : i.between.block_len ≡ old.block_len
    len = ap (λ (w : Making W V). w.block_len) i.added.others

    by : (due : Bool) → is_due i.between ≡ due → (bytes : List ℕ) → told old.sink ≡ Some bytes → HasSmallBlocks old → HasSmallBlocks new
    by false stays bytes tells small =
        let same : new ≡ i.between = i.closes.1 stays in
        let there : HasSmallBlocks i.between = record {
          blocks = small.blocks;
          closed = of_some (λ bs. i.between.closed ≡ Some bs) old.closed small.blocks small.closed i.added.closed;
          small = subst (λ n. AllByRecursion (λ each. length (deltas_of (but_last each.entries)) ≤ n) small.blocks) (sym len) small.small;
          open_small = ltb-false _ _ stays;
        } in
        subst (λ (w : Making W V). HasSmallBlocks w) (sym same) there
    by true due bytes tells small =
        let closes = i.closes.0 due in
        let same : new.block_len ≡ old.block_len = ap (λ (w : Making W V). w.block_len) closes.others ∙ len in
        let one : Block V = record { content = content_of codec i.between; entries = i.between.gathered } in
        let last : but_last i.between.gathered ≡ old.gathered = ap (λ es. but_last es) i.added.gathered ∙ but_last-more old.gathered (key, v) in
        let fits : length (deltas_of (but_last i.between.gathered)) ≤ old.block_len = omega (arith, ap (λ es. length (deltas_of es)) last, small.open_small) in
        let all : AllByRecursion (λ each. length (deltas_of (but_last each.entries)) ≤ old.block_len) (small.blocks ++ one ∷ []) =
        all-more (λ each. length (deltas_of (but_last each.entries)) ≤ old.block_len) small.blocks one small.small fits in
        record {
          blocks = small.blocks ++ one ∷ [];
          closed = closed-by codec told old i.between new small.blocks bytes key v i.added closes tells small.closed;
          small = subst (λ n. AllByRecursion (λ each. length (deltas_of (but_last each.entries)) ≤ n) (small.blocks ++ one ∷ [])) (sym same) all;
          open_small = no-deltas new.gathered new.block_len closes.gathered;
        }

pub lengthens-by : {W V : Type 0} (codec : Codec V) (told : W → Option (List ℕ)) (old new : Making W V) (key : Key) (v : V) (result : Result (Unit {0}) SstWriteError) → Inserting codec told old new key v result → OnOk result (Lengthens told old new key v)
lengthens-by codec told old new key v (Ok x) i = lengthens codec told old new key v i
lengthens-by codec told old new key v (Err e) i = tt

pub keeps-small-by : {W V : Type 0} (codec : Codec V) (told : W → Option (List ℕ)) (old new : Making W V) (key : Key) (v : V) (result : Result (Unit {0}) SstWriteError) → Inserting codec told old new key v result → OnOk result (KeepsBlocksSmall told old new)
keeps-small-by codec told old new key v (Ok x) i = keeps-small codec told old new key v i
keeps-small-by codec told old new key v (Err e) i = tt

-- ---- the open block is closed without an insertion

keeps-list : {W V : Type 0} (codec : Codec V) (told : W → Option (List ℕ)) (old new : Making W V) → ClosesIfDue codec told old new (Ok tt) → KeepsList told old new
keeps-list {W} {V} codec told old new closes =
    if_some (told old.sink) (λ bytes tells. if_some (inserted old) (λ entries is. let parts = inserted-parts old entries is in by (is_due old) refl bytes tells parts.0 parts.1 ∙ ap Some (sym parts.2)))
  where
    by : (due : Bool) → is_due old ≡ due → (bytes : List ℕ) → told old.sink ≡ Some bytes → (blocks : List (Block V)) → old.closed ≡ Some blocks → inserted new ≡ Some (entries_of blocks ++ old.gathered)
    by false stays bytes tells blocks is = ap inserted (closes.1 stays) ∙ inserted-is old blocks is
    by true due bytes tells blocks is =
        let c = closes.0 due in
        let closed : new.closed ≡ Some (blocks ++ open_block codec old) =
        of_some (λ (bs : List (Block V)). new.closed ≡ Some (bs ++ open_block codec old)) old.closed blocks is
        (of_some (λ (b : List ℕ). IfSome old.closed (λ bs. new.closed ≡ Some (bs ++ open_block codec old))) (told old.sink) bytes tells c.closed) in
        inserted-is new (blocks ++ open_block codec old) closed
        ∙ ap (λ es. Some (entries_of (blocks ++ open_block codec old) ++ es)) c.gathered
        ∙ ap Some (append-nil (entries_of (blocks ++ open_block codec old)) ∙ entries-both blocks (open_block codec old) ∙ ap (λ es. entries_of blocks ++ es) (entries-open codec old))

stays-small : {W V : Type 0} (codec : Codec V) (told : W → Option (List ℕ)) (old new : Making W V) → ClosesIfDue codec told old new (Ok tt) → KeepsBlocksSmall told old new
stays-small {W} {V} codec told old new closes =
    if_some (told old.sink) (λ bytes tells small. subst (λ (w : Making W V). HasSmallBlocks w) (sym (closes.1 (le-ltb _ _ small.open_small))) small)

pub keeps-list-by : {W V : Type 0} (codec : Codec V) (told : W → Option (List ℕ)) (old new : Making W V) (result : Result (Unit {0}) SstWriteError) → Closing codec told old new result → OnOk result (KeepsList told old new)
keeps-list-by codec told old new (Ok x) closing = keeps-list codec told old new closing.1
keeps-list-by codec told old new (Err e) closing = tt

pub stays-small-by : {W V : Type 0} (codec : Codec V) (told : W → Option (List ℕ)) (old new : Making W V) (result : Result (Unit {0}) SstWriteError) → Closing codec told old new result → OnOk result (KeepsBlocksSmall told old new)
stays-small-by codec told old new (Ok x) closing = stays-small codec told old new closing.1
stays-small-by codec told old new (Err e) closing = tt
