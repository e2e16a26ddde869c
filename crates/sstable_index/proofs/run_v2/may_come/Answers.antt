use Rattle.std.proofs.Common.{◌≡◌, ◌≤◌, ◌-◌, ◌&&◌, ◌||◌, length, take, drop, ap, sym, ◌∙◌, arith}
use Rattle.std.specs.Prelude.{◌==◌}
use Rattle.owned_bytes.specs.Keys.{is_below}
use Rattle.owned_bytes.proofs.Pieces.{rest_is}
use Rattle.sstable_index.specs.Loaded.{last_of}
use Rattle.sstable_index.proofs.ReadingDeltas.{may-cut, may-is}
use Rattle.sstable_index.proofs.run_v2.may_come.Goals as goal

pub returns-then-keep-last-clause-may : goal.returns-then-keep-last-clause-may
returns-then-keep-last-clause-may c = may-cut c.args.begins (last_of c.args.keys.now) c.args.keep c.args.suffix.now (omega (arith, c.if-keep-last.true, ap length c.last-last.ensures))

pub returns-then-not-keeps_all-clause-may : goal.returns-then-not-keeps_all-clause-may
returns-then-not-keeps_all-clause-may c =
    ap (λ t. t && ((length c.args.keys.now == 0) || is_below c.cut-rest.result.now c.args.suffix.now)) (sym (sym c.keeps_all.ensures ∙ c.if-not-keeps_all.true))
    ∙ may-is c.args.begins c.args.keys.now c.args.keep c.cut-rest.result.now c.args.suffix.now c.last-last.result.now c.last-last.ensures (omega (arith, c.if-keep-last.false))
    (c.cut-rest.ensures ∙ rest_is c.args.keep c.last-last.result.now)

pub returns-clause-may : goal.returns-clause-may
returns-clause-may c =
    c.comes_behind.ensures ∙ ap (λ n. (n == 0) || is_below c.cut-rest.result.now c.args.suffix.now) c.len.ensures
    ∙ ap (λ t. t && ((length c.args.keys.now == 0) || is_below c.cut-rest.result.now c.args.suffix.now)) (sym (sym c.keeps_all.ensures ∙ c.if-not-keeps_all.false))
    ∙ may-is c.args.begins c.args.keys.now c.args.keep c.cut-rest.result.now c.args.suffix.now c.last-last.result.now c.last-last.ensures (omega (arith, c.if-keep-last.false))
    (c.cut-rest.ensures ∙ rest_is c.args.keep c.last-last.result.now)
