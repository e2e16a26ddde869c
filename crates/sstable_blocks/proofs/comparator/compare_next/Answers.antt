use Rattle.std.proofs.Common.{◌≡◌, sym, subst, refl, []}
use Rattle.sstable_blocks.specs.Comparing.{key_from, Compares}
use Rattle.sstable_blocks.proofs.ComparingLaws.{compares-above, compares-below}
use Rattle.std.proofs.lemmas.Cmp.{ranked}
use Rattle.std.specs.declared.cmp.Ordering.TheVariants.{Less, Greater}
use Rattle.sstable_blocks.proofs.comparator.compare_next.Goals as goal

pub returns-then-keep-eq0 : goal.returns-then-keep-eq0
returns-then-keep-eq0 c = λ last follows next.
    let zero : c.args.keep ≡ 0 = c.if-keep-eq0.true in
    subst (λ n. Compares c.args.target.now (key_from last n c.args.suffix.now) c.compare_behind.result.1 c.compare_behind.result.0) (sym zero) (c.compare_behind.ensures [] refl)

pub returns-in-Less : goal.returns-in-Less
returns-in-Less c = λ last follows next.
    compares-above c.args.target.now last c.args.suffix.now c.args.matched c.args.keep c.args.keep follows next c.if-keep-eq0.false (ranked c.args.keep c.args.matched Less c.in-Less.ensures)

pub returns-in-Greater : goal.returns-in-Greater
returns-in-Greater c = λ last follows next.
    compares-below c.args.target.now last c.args.suffix.now c.args.matched c.args.keep follows next c.if-keep-eq0.false (ranked c.args.keep c.args.matched Greater c.in-Greater.ensures)
