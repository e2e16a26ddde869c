use Rattle.std.proofs.Common.{◌≡◌, ℕ, List, drop, Some, ap, sym, ◌∙◌, arith}
use Rattle.owned_bytes.proofs.Pieces.{some_is}
use Rattle.sstable_format.specs.Meta.{Meta}
use Rattle.sstable_format.specs.Store.{addresses_of_meta}
use Rattle.block_addresses.specs.Opened.{told, tells_then, ordinal_after}
use Rattle.block_addresses.proofs.Metas.{meta_in, meta_at-front}
use Rattle.block_addresses.proofs.Opening.{told-short, tells-next, tells-unfilled}
use Rattle.block_addresses.proofs.store.ordinal_after_first.Goals as goal

pub returns-then-metas-lt-META_LEN-clause-next : goal.returns-then-metas-lt-META_LEN-clause-next
returns-then-metas-lt-META_LEN-clause-next c = ap (tells_then (Some c.args.ordinal)) (told-short c.args.metas.now c.args.packed.now c.requires (omega arith))

pub returns-then-not-is_filled-clause-next : goal.returns-then-not-is_filled-clause-next
returns-then-not-is_filled-clause-next c =
    let metas : List ℕ = c.args.metas.now in
    let same : meta_in metas ≡ c.read-meta.result = ap (λ (p : Meta × List ℕ). p.0) (some_is _ _ (sym (meta_at-front metas (omega arith)) ∙ c.read-meta.ensures)) in
    let count : (meta_in metas).block_count ≡ c.block_count.result = ap (λ (m : Meta). m.block_count) same ∙ sym c.block_count.ensures.count in
    let has = c.is_filled.ensures.unfilled c.if-not-is_filled.true in
    tells-unfilled c.args.ordinal metas c.args.packed.now (omega arith) (λ e. has.0 (sym count ∙ e)) (λ low. let more = has.1 (omega (arith, low, count)) in omega (arith, more))

pub returns-clause-next : goal.returns-clause-next
returns-clause-next c =
    let metas : List ℕ = c.args.metas.now in
    let packed : List ℕ = c.args.packed.now in
    let same : meta_in metas ≡ c.read-meta.result = ap (λ (p : Meta × List ℕ). p.0) (some_is _ _ (sym (meta_at-front metas (omega arith)) ∙ c.read-meta.ensures)) in
    let count : (meta_in metas).block_count ≡ c.block_count.result = ap (λ (m : Meta). m.block_count) same ∙ sym c.block_count.ensures.count in
    let has = c.is_filled.ensures.filled c.if-not-is_filled.false in
    tells-next c.args.ordinal metas packed (omega arith) (omega (arith, has.0, count)) (λ more. let full = has.1 (omega (arith, more)) in omega (arith, full, count))
    ∙ ap (λ (m : Meta). tells_then (ordinal_after (addresses_of_meta packed m) c.args.ordinal) (told (drop 36 metas) packed)) same
    ∙ ap (λ n. tells_then n (told (drop 36 metas) packed)) (sym c.ordinal_after.ensures)
