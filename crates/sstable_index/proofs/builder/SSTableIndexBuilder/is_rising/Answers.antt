use Rattle.std.proofs.Common.{◌-◌, [], get_or, ap, ◌∙◌, arith}
use Rattle.std.proofs.lemmas.List.{length-map}
use Rattle.owned_bytes.specs.Keys.{is_below}
use Rattle.sstable_blocks.specs.Writing.{keys_in}
use Rattle.sstable_format.specs.Index.{IndexEntry}
use Rattle.sstable_index.proofs.KeyPlaces.{rising-goes_on, rising-fails, rising-ends}
use Rattle.sstable_index.proofs.builder.SSTableIndexBuilder.is_rising.Goals as goal

pub returns-then-not-comes_before : goal.returns-then-not-comes_before
returns-then-not-comes_before c =
    rising-fails (keys_in c.args.self.now) c.loop-i.i c.comes_before.result c.loop-i.invariant.1 (omega (arith, c.loop-i-test.true, c.len-i-end.ensures, length-map c.args.self.now (λ (e : IndexEntry). e.0)))
    (c.comes_before.ensures ∙ ap (λ k. is_below k c.key-in-loop-i.result.now) c.key.ensures ∙ ap (λ k. is_below (get_or (keys_in c.args.self.now) (c.loop-i.i - 1) []) k) c.key-in-loop-i.ensures) c.if-not-comes_before.true c.loop-i.invariant.0

pub loop-i-preserved : goal.loop-i-preserved
loop-i-preserved c = (
  rising-goes_on (keys_in c.args.self.now) c.loop-i.i c.comes_before.result c.loop-i.invariant.1 (omega (arith, c.loop-i-test.true, c.len-i-end.ensures, length-map c.args.self.now (λ (e : IndexEntry). e.0)))
      (c.comes_before.ensures ∙ ap (λ k. is_below k c.key-in-loop-i.result.now) c.key.ensures ∙ ap (λ k. is_below (get_or (keys_in c.args.self.now) (c.loop-i.i - 1) []) k) c.key-in-loop-i.ensures) c.if-not-comes_before.false c.loop-i.invariant.0,
  omega (arith, c.loop-i.invariant.1),
)

pub returns : goal.returns
returns c = rising-ends (keys_in c.args.self.now) c.loop-i.i (omega (arith, c.loop-i-test.false, c.len-i-end.ensures, length-map c.args.self.now (λ (e : IndexEntry). e.0))) c.loop-i.invariant.0
