use Rattle.std.proofs.Common.{◌≡◌, ◌+◌, ◌-◌, ◌/◌, ◌<◌, ℕ, List, length, get_or, refl, ap, sym, ◌∙◌, arith}
use Rattle.std.proofs.lemmas.List.{get_or_read}
use Rattle.sstable_values.specs.Codec.{Address}
use Rattle.block_addresses.specs.Opened.{can_index}
use Rattle.sstable_index.specs.Building.{addresses_in}
use Rattle.sstable_index.proofs.Looking.{addresses-seen, halves-begin, halves-low, halves-high, halves-end}
use Rattle.sstable_index.proofs.index_v2.SSTableIndexV2.locate_with_ord.Goals as goal

pub halve-init : goal.halve-init
halve-init c =
    let seen = addresses-seen c.self.inside.keys c.self.inside.addresses.items c.args.self.now c.self.invariant c.self.view_is in
    halves-begin (addresses_in c.args.self.now) c.args.ord c.len-len.result (omega (arith, c.len-len.ensures, c.self.inside.addresses.ok.0, ap length seen)) (omega (arith, c.if-len-eq0.false))

pub index-addr-requires : goal.index-addr-requires
index-addr-requires c =
    let seen = addresses-seen c.self.inside.keys c.self.inside.addresses.items c.args.self.now c.self.invariant c.self.view_is in
    omega (arith, c.halve-test.true, c.halve.invariant.within, c.self.inside.addresses.ok.0, ap length seen)

pub halve-preserved-then-addr-ord : goal.halve-preserved-then-addr-ord
halve-preserved-then-addr-ord c =
    let seen = addresses-seen c.self.inside.keys c.self.inside.addresses.items c.args.self.now c.self.invariant c.self.view_is in
    let middle : ℕ = c.halve.low + (c.halve.high - c.halve.low) / 2 in
    let within : middle < length c.self.inside.addresses.items = omega (arith, c.halve-test.true, c.halve.invariant.within, ap length seen) in
    let a : Address = c.index-addr.result.now in
    let is : a ≡ get_or (addresses_in c.args.self.now) middle a = get_or_read c.self.inside.addresses.items _ _ within c.index-addr.ensures a ∙ ap (λ places. get_or places middle a) (sym seen) in
    halves-low (addresses_in c.args.self.now) c.args.ord c.halve.low c.halve.high middle a c.halve.invariant (omega (arith, c.halve-test.true)) is
    (omega (arith, c.if-addr-ord.true, ap (λ (x : Address). x.first_ordinal) c.addr.view_is))

pub halve-preserved : goal.halve-preserved
halve-preserved c =
    let seen = addresses-seen c.self.inside.keys c.self.inside.addresses.items c.args.self.now c.self.invariant c.self.view_is in
    let middle : ℕ = c.halve.low + (c.halve.high - c.halve.low) / 2 in
    let within : middle < length c.self.inside.addresses.items = omega (arith, c.halve-test.true, c.halve.invariant.within, ap length seen) in
    let a : Address = c.index-addr.result.now in
    let is : a ≡ get_or (addresses_in c.args.self.now) middle a = get_or_read c.self.inside.addresses.items _ _ within c.index-addr.ensures a ∙ ap (λ places. get_or places middle a) (sym seen) in
    halves-high (addresses_in c.args.self.now) c.args.ord c.halve.low c.halve.high middle a c.halve.invariant (omega (arith, c.halve-test.true)) (omega (arith, c.halve-test.true)) is
    (omega (arith, c.if-addr-ord.false, ap (λ (x : Address). x.first_ordinal) c.addr.view_is))

pub returns : goal.returns
returns c =
    let seen = addresses-seen c.self.inside.keys c.self.inside.addresses.items c.args.self.now c.self.invariant c.self.view_is in
    halves-end (addresses_in c.args.self.now) (addresses_in c.args.self.now) c.args.ord c.halve.low c.halve.high (ap can_index seen ∙ c.self.invariant.possible) refl c.halve.invariant (omega (arith, c.halve-test.false))
