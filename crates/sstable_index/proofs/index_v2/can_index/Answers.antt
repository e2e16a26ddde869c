use Rattle.std.proofs.Common.{sym, ap, ◌∙◌, arith}
use Rattle.sstable_values.specs.Codec.{Address}
use Rattle.sstable_index.proofs.LoadingV2.{follow-not, follow-more, follow-all}
use Rattle.sstable_index.proofs.index_v2.can_index.Goals as goal

pub returns-then-not-may_follow : goal.returns-then-not-may_follow
returns-then-not-may_follow c =
    follow-not c.args.addresses.now c.loop-i.ordinal c.loop-i.i c.index-addresses-i.result (omega (arith, c.loop-i-test.true)) c.index-addresses-i.is (sym c.may_follow.ensures ∙ c.if-not-may_follow.true) c.loop-i.invariant

pub loop-i-preserved : goal.loop-i-preserved
loop-i-preserved c =
    follow-more c.args.addresses.now c.loop-i.ordinal c.loop-i.i c.addr.inside.first_ordinal c.index-addresses-i.result (omega (arith, c.loop-i-test.true)) c.index-addresses-i.is (sym c.may_follow.ensures ∙ c.if-not-may_follow.false)
    (ap (λ (a : Address). a.first_ordinal) c.addr.view_is) c.loop-i.invariant

pub returns : goal.returns
returns c = follow-all c.args.addresses.now c.loop-i.ordinal c.loop-i.i (omega (arith, c.loop-i-test.false)) (omega (arith, c.loop-i-test.false, c.loop-i.auto.i-end)) c.loop-i.invariant
