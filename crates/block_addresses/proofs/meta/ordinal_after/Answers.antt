use Rattle.std.proofs.Common.{◌≡◌, ◌+◌, ◌-◌, ℕ, List, Option, Some, None, true, false, ap, sym, ◌∙◌, arith}
use Rattle.owned_bytes.specs.Front.{each}
use Rattle.sstable_values.specs.Codec.{Address}
use Rattle.sstable_format.specs.Meta.{Meta}
use Rattle.sstable_format.specs.Store.{address_of, numbers_from}
use Rattle.block_addresses.specs.Opened.{passing, ordinal_after, may_follow}
use Rattle.block_addresses.proofs.Passing.{HasBits-from, addresses_of_meta-read, walk-more, walk-end, follow-none, follow-some, then_others}
use Rattle.block_addresses.proofs.meta.ordinal_after.Goals as goal

pub loop-j-init : goal.loop-j-init
loop-j-init c =
    let m : Meta = c.args.meta.now in
    let f : ℕ → Option Address = address_of m c.part-part.result.now in
    let all : m.block_count - 0 ≡ m.block_count = omega arith in
    ap (λ n. ordinal_after (each f (numbers_from 0 n)) c.args.ordinal) all
    ∙ ap (λ part. ordinal_after (each (address_of m part) (numbers_from 0 m.block_count)) c.args.ordinal) c.part-part.ensures
    ∙ ap (λ found. ordinal_after found c.args.ordinal) (sym (addresses_of_meta-read m c.args.packed.now (sym c.has_bits.ensures ∙ c.if-not-has_bits.false)))

pub address-requires-clause-bits : goal.address-requires-clause-bits
address-requires-clause-bits c = HasBits-from c.args.meta.now (sym c.has_bits.ensures ∙ c.if-not-has_bits.false)

pub address-requires-clause-few : goal.address-requires-clause-few
address-requires-clause-few c = omega arith

pub returns-in_err-addr : goal.returns-in_err-addr
returns-in_err-addr c =
    let f : ℕ → Option Address = address_of c.args.meta.now c.part-part.result.now in
    let others : Option (List Address) = each f (numbers_from (c.loop-j.j + 1) (c.args.meta.now.block_count - (c.loop-j.j + 1))) in
    let none : passing (may_follow c.loop-j.ordinal) (f c.loop-j.j) ≡ None = follow-none c.loop-j.ordinal (f c.loop-j.j) (sym c.in_err-addr.ensures) in
    c.from_residual.ensures ∙ ap (then_others others) (sym none) ∙ sym (walk-more f c.loop-j.j c.args.meta.now.block_count c.loop-j.ordinal (omega arith)) ∙ c.loop-j.invariant

-- the address of this block, where it rises
pub returns-then-not-rises_from : goal.returns-then-not-rises_from
returns-then-not-rises_from c =
    let f : ℕ → Option Address = address_of c.args.meta.now c.part-part.result.now in
    let others : Option (List Address) = each f (numbers_from (c.loop-j.j + 1) (c.args.meta.now.block_count - (c.loop-j.j + 1))) in
    let none : passing (may_follow c.loop-j.ordinal) (f c.loop-j.j) ≡ None = follow-some c.loop-j.ordinal (f c.loop-j.j) c.in_ok-addr.addr false (sym c.in_ok-addr.ensures) c.if-not-rises_from.ensures in
    ap (then_others others) (sym none) ∙ sym (walk-more f c.loop-j.j c.args.meta.now.block_count c.loop-j.ordinal (omega arith)) ∙ c.loop-j.invariant

pub loop-j-preserved : goal.loop-j-preserved
loop-j-preserved c =
    let f : ℕ → Option Address = address_of c.args.meta.now c.part-part.result.now in
    let others : Option (List Address) = each f (numbers_from (c.loop-j.j + 1) (c.args.meta.now.block_count - (c.loop-j.j + 1))) in
    let here : passing (may_follow c.loop-j.ordinal) (f c.loop-j.j) ≡ Some c.in_ok-addr.addr = follow-some c.loop-j.ordinal (f c.loop-j.j) c.in_ok-addr.addr true (sym c.in_ok-addr.ensures) c.if-not-rises_from.ensures in
    ap (λ (a : Address). ordinal_after others a.first_ordinal) c.addr.view_is ∙ ap (then_others others) (sym here) ∙ sym (walk-more f c.loop-j.j c.args.meta.now.block_count c.loop-j.ordinal (omega arith)) ∙ c.loop-j.invariant

pub returns : goal.returns
returns c = sym (walk-end (address_of c.args.meta.now c.part-part.result.now) c.loop-j.j c.args.meta.now.block_count c.loop-j.ordinal (omega arith)) ∙ c.loop-j.invariant
