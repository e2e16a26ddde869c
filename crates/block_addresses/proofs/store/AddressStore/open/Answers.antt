use Rattle.std.proofs.Common.{◌≡◌, ◌≤◌, ℕ, List, [], length, take, drop, Some, None, ap, sym, ◌∙◌, true, false, arith}
use Rattle.std.specs.Prelude.{unwrap_or}
use Rattle.std.specs.Int.{w64, from_le_bytes}
use Rattle.block_addresses.specs.Opened.{told, tells_after, passing, fits_u64, can_index, opened}
use Rattle.block_addresses.proofs.Stored.{tells-found, index-none, index-counted, index-uncounted, opened-short, opened-cut, opened-is, opened-holds}
use Rattle.block_addresses.proofs.store.AddressStore.open.Goals as goal

-- the bytes of an open store, by what was read
opens : (bytes rest metas packed : List ℕ) (len : ℕ) → 8 ≤ length bytes → len ≡ from_le_bytes w64 (take 8 bytes) → rest ≡ drop 8 bytes → len ≤ length rest → metas ≡ take len rest → packed ≡ drop len rest
    → opened bytes ≡ passing can_index (told metas packed)
opens bytes rest metas packed len long is behind fits front back =
    opened-is bytes metas packed long (omega (arith, is, ap length behind, fits))
    (front ∙ ap (take len) behind ∙ ap (λ n. take n (drop 8 bytes)) is) (back ∙ ap (drop len) behind ∙ ap (λ n. drop n (drop 8 bytes)) is)

pub returns-then-len-lt8-clause-corrupt : goal.returns-then-len-lt8-clause-corrupt
returns-then-len-lt8-clause-corrupt c = λ is. opened-short c.args.bytes (omega (arith, c.len.ensures, c.if-len-lt8.true))

pub returns-then-len-clause-corrupt : goal.returns-then-len-clause-corrupt
returns-then-len-clause-corrupt c = λ is.
    opened-cut c.args.bytes (omega (arith, c.len.ensures, c.if-len-lt8.false)) (omega (arith, c.read_u64-len.ensures.value, ap length c.read_u64-len.ensures.rest, c.len-2.ensures, c.if-len.true))

pub returns-then-not-tells_addresses-clause-corrupt : goal.returns-then-not-tells_addresses-clause-corrupt
returns-then-not-tells_addresses-clause-corrupt c = λ is.
    let metas : List ℕ = c.in_ok-metas.metas in
    let packed : List ℕ = c.in_ok-metas.packed in
    let is_cut = c.in_ok-metas.ensures in
    let by : opened c.args.bytes ≡ passing can_index (told metas packed) =
    opens c.args.bytes c.read_u64-len.new.self metas packed c.read_u64-len.result (omega (arith, c.len.ensures, c.if-len-lt8.false)) c.read_u64-len.ensures.value c.read_u64-len.ensures.rest
    (omega (arith, c.len-2.ensures, c.if-len.false)) is_cut.0 is_cut.1 in
    let tells : tells_after 0 metas packed ≡ false =
    ap (λ xs. tells_after 0 xs packed) (sym c.as_slice.ensures) ∙ ap (λ xs. tells_after 0 c.as_slice.result.now xs) (sym c.as_slice-2.ensures) ∙ sym c.if-not-tells_addresses.ensures in
    by ∙ index-none (told metas packed) tells

pub invariant_of-result : goal.invariant_of-result
invariant_of-result c =
    let metas : List ℕ = c.in_ok-metas.metas in
    let packed : List ℕ = c.in_ok-metas.packed in
    let tells : tells_after 0 metas packed ≡ true =
    ap (λ xs. tells_after 0 xs packed) (sym c.as_slice.ensures) ∙ ap (λ xs. tells_after 0 c.as_slice.result.now xs) (sym c.as_slice-2.ensures) ∙ sym c.if-not-tells_addresses.ensures in
    let has = tells-found metas packed tells in
    let count : Some c.in-Some.count ≡ passing fits_u64 (Some (length has.found)) = c.in-Some.ensures packed has.found (ap (λ xs. told xs packed) c.as_slice-3.ensures ∙ has.is_told) in
    record { found = has.found; is_told = has.is_told; follow = has.follow; counted = (index-counted has.found c.in-Some.count has.follow count).1 }

pub returns-in-Some-clause-ok : goal.returns-in-Some-clause-ok
returns-in-Some-clause-ok c =
    let metas : List ℕ = c.in_ok-metas.metas in
    let packed : List ℕ = c.in_ok-metas.packed in
    let is_cut = c.in_ok-metas.ensures in
    let by : opened c.args.bytes ≡ passing can_index (told metas packed) =
    opens c.args.bytes c.read_u64-len.new.self metas packed c.read_u64-len.result (omega (arith, c.len.ensures, c.if-len-lt8.false)) c.read_u64-len.ensures.value c.read_u64-len.ensures.rest
    (omega (arith, c.len-2.ensures, c.if-len.false)) is_cut.0 is_cut.1 in
    let tells : tells_after 0 metas packed ≡ true =
    ap (λ xs. tells_after 0 xs packed) (sym c.as_slice.ensures) ∙ ap (λ xs. tells_after 0 c.as_slice.result.now xs) (sym c.as_slice-2.ensures) ∙ sym c.if-not-tells_addresses.ensures in
    let has = tells-found metas packed tells in
    let count : Some c.in-Some.count ≡ passing fits_u64 (Some (length has.found)) = c.in-Some.ensures packed has.found (ap (λ xs. told xs packed) c.as_slice-3.ensures ∙ has.is_told) in
    by ∙ ap (passing can_index) has.is_told ∙ (index-counted has.found c.in-Some.count has.follow count).0 ∙ ap (λ o. Some (unwrap_or o [])) (sym has.is_told)

pub returns-in-None-clause-corrupt : goal.returns-in-None-clause-corrupt
returns-in-None-clause-corrupt c = λ is.
    let metas : List ℕ = c.in_ok-metas.metas in
    let packed : List ℕ = c.in_ok-metas.packed in
    let is_cut = c.in_ok-metas.ensures in
    let by : opened c.args.bytes ≡ passing can_index (told metas packed) =
    opens c.args.bytes c.read_u64-len.new.self metas packed c.read_u64-len.result (omega (arith, c.len.ensures, c.if-len-lt8.false)) c.read_u64-len.ensures.value c.read_u64-len.ensures.rest
    (omega (arith, c.len-2.ensures, c.if-len.false)) is_cut.0 is_cut.1 in
    let tells : tells_after 0 metas packed ≡ true =
    ap (λ xs. tells_after 0 xs packed) (sym c.as_slice.ensures) ∙ ap (λ xs. tells_after 0 c.as_slice.result.now xs) (sym c.as_slice-2.ensures) ∙ sym c.if-not-tells_addresses.ensures in
    let has = tells-found metas packed tells in
    let count : None ≡ passing fits_u64 (Some (length has.found)) = c.in-None.ensures packed has.found (ap (λ xs. told xs packed) c.as_slice-3.ensures ∙ has.is_told) in
    by ∙ ap (passing can_index) has.is_told ∙ index-uncounted has.found has.follow count

pub returns-in-Some-clause-holds : goal.returns-in-Some-clause-holds
returns-in-Some-clause-holds c = opened-holds c.args.bytes (unwrap_or (told c.in_ok-metas.metas c.in_ok-metas.packed) []) (returns-in-Some-clause-ok c)
