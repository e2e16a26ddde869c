use Rattle.std.proofs.Common.{◌≡◌, ◌-◌, ◌++◌, ◌∷◌, [], length, drop, true, unwrap_or, ap, sym, ◌∙◌, arith}
use Rattle.owned_bytes.proofs.Pieces.{rest_is}
use Rattle.sstable_values.specs.Codec.{Address}
use Rattle.sstable_index.specs.Loaded.{last_of}
use Rattle.sstable_index.specs.ReadingV2.{with_keys_left}
use Rattle.sstable_index.proofs.ReadingBlocks.{damaged-map, load-fault, keys-fault, count-fault, block-read, value-added, values-added}
use Rattle.sstable_index.proofs.run_v2.push_block.Goals as goal

pub returns-in-Err-clause-err : goal.returns-in-Err-clause-err
returns-in-Err-clause-err c = load-fault c.in-Err.e c.from.result (last_of c.args.keys.now) c.args.content.now c.from.ensures c.in-Err.ensures.took

pub returns-in-Err-push_keys-clause-err : goal.returns-in-Err-push_keys-clause-err
returns-in-Err-push_keys-clause-err c =
    let content = c.args.content.now in
    damaged-map c.in-Err-push_keys.e _ _
    (λ none. keys-fault c.args.keys.now content (drop c.in-Ok.len content) c.load.new.self.vals.items c.in-Ok.ensures.took.1 (ap (with_keys_left true c.args.keys.now) (sym (rest_is c.in-Ok.len content)) ∙ none))
    c.in-Err-push_keys.ensures.err

pub returns-then-unwrap_or-count-clause-err : goal.returns-then-unwrap_or-count-clause-err
returns-then-unwrap_or-count-clause-err c =
    let content = c.args.content.now in
    let values : c.unwrap_or.result ≡ length c.load.new.self.vals.items = c.unwrap_or.ensures ∙ ap (λ o. unwrap_or o 0) c.count.ensures in
    count-fault c.args.keys.now c.push_keys.new.keys content (drop c.in-Ok.len content) c.load.new.self.vals.items c.in-Ok.ensures.took.1
    (ap (with_keys_left true c.args.keys.now) (sym (rest_is c.in-Ok.len content)) ∙ c.in-Ok-push_keys.ensures.ok)
    (λ e. c.if-unwrap_or-count.true (omega (arith, e, values, c.len.ensures, c.len-before.ensures)))

pub loop-i-preserved : goal.loop-i-preserved
loop-i-preserved c =
    value-added c.loop-i.addresses.items _ c.load.new.self.vals.items _ c.loop-i.i c.value-addr.result.now
    (c.in_ok-push.ensures.items ∙ ap (λ (a : Address). c.loop-i.addresses.items ++ a ∷ []) c.addr.view_is) c.value-addr.ensures c.loop-i.invariant

pub returns-clause-ok : goal.returns-clause-ok
returns-clause-ok c =
    let content = c.args.content.now in
    let values : c.unwrap_or.result ≡ length c.load.new.self.vals.items = c.unwrap_or.ensures ∙ ap (λ o. unwrap_or o 0) c.count.ensures in
    let count : length c.push_keys.new.keys - length c.args.keys.now ≡ length c.load.new.self.vals.items = omega (arith, values, c.if-unwrap_or-count.false, c.len.ensures, c.len-before.ensures) in
    block-read c.args.keys.now c.push_keys.new.keys content (drop c.in-Ok.len content) c.load.new.self.vals.items c.args.addresses.now.items c.loop-i.addresses.items c.in-Ok.ensures.took.1
    (ap (with_keys_left true c.args.keys.now) (sym (rest_is c.in-Ok.len content)) ∙ c.in-Ok-push_keys.ensures.ok) count
    (values-added c.loop-i.addresses.items c.load.new.self.vals.items _ c.loop-i.i (omega (arith, count, c.loop-i-test.false, c.len.ensures, c.len-before.ensures)) c.loop-i.invariant)
