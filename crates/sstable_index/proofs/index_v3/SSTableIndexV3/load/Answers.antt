use Rattle.std.proofs.Common.{◌≡◌, ◌≤◌, ℕ, List, length, map, take, drop, Bool, true, false, Option, Some, None, ap, sym, ◌∙◌, arith}
use Rattle.owned_bytes.specs.Keys.{Key, is_same}
use Rattle.fst_map.specs.Map.{map_of}
use Rattle.sstable_values.specs.Codec.{Address}
use Rattle.sstable_format.specs.Store.{store_of, numbers_from}
use Rattle.block_addresses.specs.Opened.{passing, can_index}
use Rattle.sstable_index.proofs.LoadingV3.{entries-are, no-store, opened-are, other-count}
use Rattle.sstable_index.proofs.index_v3.SSTableIndexV3.load.Goals.{then-len-via-then-len, then-len-via-else-len+then-not-is_numbered}
use Rattle.sstable_index.proofs.index_v3.SSTableIndexV3.load.Goals as goal

pub returns-in-Err-Corrupt : goal.returns-in-Err-Corrupt
returns-in-Err-Corrupt c =
    let cut = c.in_ok-fst.ensures in
    entries-are c.args.fst_length c.args.data (omega (arith, c.if-fst_length-len.false, c.len.ensures))
    ∙ no-store (map_of (take c.args.fst_length c.args.data)) _ (ap (λ bytes. passing can_index (store_of bytes)) (sym cut.1) ∙ c.in-Err-Corrupt.ensures.corrupt c.in-Err-Corrupt.field-0-is)

pub returns-then-len : goal.returns-then-len
returns-then-len c =
    let cut = c.in_ok-fst.ensures in
    let numbered : List (Key × ℕ) = c.in-Ok.fst_index in
    let addresses : List Address = c.in-Ok-open.block_addr_store in
    let same : is_same (map (λ (entry : Key × ℕ). entry.1) numbered) (numbers_from 0 (length addresses)) ≡ false =
    elim c.then-len.branch [
      | then-len-via-then-len w ↦ other-count numbered addresses (λ e. w.if-len.true (omega (arith, e, c.len-2.ensures.count, c.len-3.ensures)))
      | then-len-via-else-len+then-not-is_numbered w ↦
          let count : length numbered ≡ length addresses = omega (arith, w.if-len.false, c.len-2.ensures.count, c.len-3.ensures) in
          ap (λ n. is_same (map (λ (entry : Key × ℕ). entry.1) numbered) (numbers_from 0 n)) (sym count) ∙ sym w.is_numbered.ensures ∙ w.if-not-is_numbered.true
    ] in
    entries-are c.args.fst_length c.args.data (omega (arith, c.if-fst_length-len.false, c.len.ensures))
    ∙ opened-are numbered addresses _ _ false (ap map_of (sym cut.0) ∙ c.in-Ok.ensures.ok) (ap (λ bytes. passing can_index (store_of bytes)) (sym cut.1) ∙ c.in-Ok-open.ensures.ok) same

pub returns : goal.returns
returns c =
    let cut = c.in_ok-fst.ensures in
    let numbered : List (Key × ℕ) = c.in-Ok.fst_index in
    let addresses : List Address = c.in-Ok-open.block_addr_store in
    let count : length numbered ≡ length addresses = omega (arith, c.if-len.false, c.len-2.ensures.count, c.len-3.ensures) in
    let same : is_same (map (λ (entry : Key × ℕ). entry.1) numbered) (numbers_from 0 (length addresses)) ≡ true =
    ap (λ n. is_same (map (λ (entry : Key × ℕ). entry.1) numbered) (numbers_from 0 n)) (sym count) ∙ sym c.is_numbered.ensures ∙ c.if-not-is_numbered.false in
    entries-are c.args.fst_length c.args.data (omega (arith, c.if-fst_length-len.false, c.len.ensures))
    ∙ opened-are numbered addresses _ _ true (ap map_of (sym cut.0) ∙ c.in-Ok.ensures.ok) (ap (λ bytes. passing can_index (store_of bytes)) (sym cut.1) ∙ c.in-Ok-open.ensures.ok) same
