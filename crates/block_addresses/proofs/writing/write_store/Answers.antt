use Rattle.std.proofs.Common.{◌≡◌, ◌+◌, ◌-◌, ◌*◌, ◌/◌, ◌<◌, ◌^◌, ◌++◌, List, ℕ, Result, Ok, Err, length, take, drop, get_or, min, Some, ap, subst, sym, refl, ◌∙◌, arith, rules}
use Rattle.std.specs.Prelude.{OnErr}
use Rattle.std.specs.Io.{StartsWith}
use Rattle.std.proofs.lemmas.List.{take_at, take_all}
use Rattle.sstable_format.specs.Store.{store_of}
use Rattle.block_addresses.specs.Written.{Blocks, blocks_of, AreNear, AreStorable, store_bytes, addresses_of, groups_of, all_packed, meta_bytes, meta_of, packed_of}
use Rattle.block_addresses.proofs.Cutting.{group-near, store_of-bytes, opened-bytes}
use Rattle.block_addresses.proofs.WriteSteps.{behind, length-groups_of, writes-none, writes-more, writes-all}
use Rattle.block_addresses.proofs.writing.write_store.Goals as goal

OnErr-from : {T E : Type 0} (r : Result T E) (P : Type 0) → P → OnErr r P
OnErr-from (Ok x) P holds = tt
OnErr-from (Err e) P holds = holds

starts-same : (old now : List ℕ) → now ≡ old → StartsWith now old
starts-same old now is = ap (take (length old)) is ∙ take_all (length old) old (omega arith)

pub loop-k-init : goal.loop-k-init
loop-k-init c =
    writes-none (blocks_of c.args.starts.now c.args.ordinals.now) ((length c.args.ordinals.now + 128 - 1) / 128) _ _ (ap (λ n. n / 128) (omega arith))
    (c.in_ok-extend_from_slice.ensures.items ∙ ap (λ xs. xs ++ c.to_le_bytes.result) c.new-store.ensures.items ∙ c.to_le_bytes.ensures) c.new-packed.ensures

-- the blocks from group k on, to an end
abbrev part : Blocks → ℕ → ℕ → Blocks
part blocks k end = record { starts = take (end + 1 - k * 128) (drop (k * 128) blocks.starts); ordinals = take (end - k * 128) (drop (k * 128) blocks.ordinals) }

pub write_group-requires : goal.write_group-requires
write_group-requires c =
    let blocks : Blocks = blocks_of c.args.starts.now c.args.ordinals.now in
    let k = c.loop-k.k in
    let end : c.min-end.result ≡ min (k * 128 + 128) (length c.args.ordinals.now) = first_of (search rules, grind arith) in
    let P : ℕ → Type 0 = λ n. AreNear (part blocks k n) in
    subst P (sym end) (group-near blocks k c.requires (omega arith))

pub loop-k-preserved : goal.loop-k-preserved
loop-k-preserved c =
    let blocks : Blocks = blocks_of c.args.starts.now c.args.ordinals.now in
    let k = c.loop-k.k in
    let end : c.min-end.result ≡ min (k * 128 + 128) (length c.args.ordinals.now) = first_of (search rules, grind arith) in
    writes-more blocks k c.loop-k.store.items c.loop-k.packed _ _ (omega arith) c.loop-k.invariant
    (c.in_ok-write_group.ensures.meta ∙ ap (λ n. c.loop-k.store.items ++ meta_bytes (meta_of (length c.loop-k.packed) (part blocks k n))) end)
    (c.in_ok-write_group.ensures.packed ∙ ap (λ n. c.loop-k.packed ++ packed_of (part blocks k n)) end)

pub returns-in_err-write_group-clause-err : goal.returns-in_err-write_group-clause-err
returns-in_err-write_group-clause-err c = OnErr-from _ _ (starts-same _ _ refl)

pub returns-in_err-extend_from_slice-2-clause-err : goal.returns-in_err-extend_from_slice-2-clause-err
returns-in_err-extend_from_slice-2-clause-err c = OnErr-from _ _ (starts-same _ _ c.in_err-extend_from_slice-2.ensures.items)

pub returns-in_err-extend_from_slice-3-clause-err : goal.returns-in_err-extend_from_slice-3-clause-err
returns-in_err-extend_from_slice-3-clause-err c =
    OnErr-from _ _ (ap (take (length c.args.output.now.items)) (c.in_err-extend_from_slice-3.ensures.items ∙ c.in_ok-extend_from_slice-2.ensures.items) ∙ take_at c.args.output.now.items c.deref.result.now _ refl)

pub returns-clause-ok : goal.returns-clause-ok
returns-clause-ok c =
    let blocks : Blocks = blocks_of c.args.starts.now c.args.ordinals.now in
    let all = writes-all blocks c.loop-k.k c.loop-k.store.items c.loop-k.packed (omega arith) c.loop-k.invariant in
    behind _ _ _ _ _ c.in_ok-extend_from_slice-2.ensures.items c.in_ok-extend_from_slice-3.ensures.items
    ∙ ap (λ xs. c.args.output.now.items ++ (xs ++ c.bytes.result.now)) c.deref.ensures.value
    ∙ ap (λ xs. c.args.output.now.items ++ (c.loop-k.store.items ++ xs)) c.bytes.ensures
    ∙ ap (λ xs. c.args.output.now.items ++ xs) all.0

-- what was written is read again
again : (starts ordinals packed : List ℕ) → AreStorable (blocks_of starts ordinals) → ((i : ℕ) → get_or starts i 0 < 2 ^ 64) → ((i : ℕ) → get_or ordinals i 0 < 2 ^ 64) → packed ≡ all_packed (groups_of (blocks_of starts ordinals))
    → length packed < 2 ^ 64 → length ordinals < 2 ^ 60 → store_of (store_bytes (blocks_of starts ordinals)) ≡ Some (addresses_of (blocks_of starts ordinals))
again starts ordinals packed are starts_fit ordinals_fit is room few =
    store_of-bytes (blocks_of starts ordinals) are (λ i below. starts_fit i) (λ i below. ordinals_fit i) (omega (arith, room, ap length is)) (omega (arith, few, length-groups_of (blocks_of starts ordinals)))

pub returns-clause-again : goal.returns-clause-again
returns-clause-again c =
    let all = writes-all (blocks_of c.args.starts.now c.args.ordinals.now) c.loop-k.k c.loop-k.store.items c.loop-k.packed (omega arith) c.loop-k.invariant in
    again c.args.starts.now c.args.ordinals.now c.loop-k.packed c.requires (λ i. omega (arith, c.type_inv.starts i)) (λ i. omega (arith, c.type_inv.ordinals i)) all.1
    (omega (arith, ap length c.bytes.ensures, c.in_ok-extend_from_slice-3.ensures.len)) (omega arith)

pub returns-clause-opens : goal.returns-clause-opens
returns-clause-opens c =
    let all = writes-all (blocks_of c.args.starts.now c.args.ordinals.now) c.loop-k.k c.loop-k.store.items c.loop-k.packed (omega arith) c.loop-k.invariant in
    let starts_fit : (i : ℕ) → get_or c.args.starts.now i 0 < 2 ^ 64 = λ i. omega (arith, c.type_inv.starts i) in
    let ordinals_fit : (i : ℕ) → get_or c.args.ordinals.now i 0 < 2 ^ 64 = λ i. omega (arith, c.type_inv.ordinals i) in
    opened-bytes (blocks_of c.args.starts.now c.args.ordinals.now) c.requires (λ i below. starts_fit i) (λ i below. ordinals_fit i) (omega arith)
    (again c.args.starts.now c.args.ordinals.now c.loop-k.packed c.requires starts_fit ordinals_fit all.1 (omega (arith, ap length c.bytes.ensures, c.in_ok-extend_from_slice-3.ensures.len)) (omega arith))
