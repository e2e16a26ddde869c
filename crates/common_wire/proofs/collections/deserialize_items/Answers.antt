use Rattle.std.proofs.Common.{◌≡◌, suc, ◌+◌, ◌-◌, arith, refl}
use Rattle.std.proofs.lemmas.Result.{err_from_is_err_and}
use Rattle.common_wire.proofs.FromSources.{GoesOn-trans, Takes-whole, Takes-memory}
use Rattle.common_wire.proofs.ListsRead.{IsTaking-values_left, GoesOn-values, GoesOn-value, Takes-no_value, Takes-done, map-push}
use Rattle.common_wire.proofs.collections.deserialize_items.Goals as goal

pub loop-turn-init : goal.loop-turn-init
loop-turn-init g c =
    let all : c.args.len - 0 ≡ c.args.len = omega arith in
    record {
      goes_on = rw (c.new-items.ensures.items, all) (GoesOn-values g.T.BinarySerializable.taking c.args.len (g.R.Source.left c.args.reader.now));
      later = omega arith;
      taken = omega arith;
    }

pub returns-in_err-item-clause-bytes : goal.returns-in_err-item-clause-bytes
returns-in_err-item-clause-bytes g c =
    let p = err_from_is_err_and c.from_residual.result c.from_residual.ensures.1 in
    let some : c.args.len - c.loop-turn.turn ≡ suc (c.args.len - c.loop-turn.turn - 1) = omega (arith, c.loop-turn-test.true) in
    rw (p.1, p.2) (Takes-whole _ _ _ _ _ _ _ (rw some at c.loop-turn.invariant.goes_on)
    (Takes-no_value g.T.BinarySerializable.shown _ g.T.BinarySerializable.taking _ _ _ _ _ g.met.T.BinarySerializable.is_taking c.in_err-item.ensures.bytes))

pub returns-in_err-push-clause-bytes : goal.returns-in_err-push-clause-bytes
returns-in_err-push-clause-bytes g c =
    let p = err_from_is_err_and c.from_residual-in_err-push.result c.from_residual-in_err-push.ensures.1 in
    let some : c.args.len - c.loop-turn.turn ≡ suc (c.args.len - c.loop-turn.turn - 1) = omega (arith, c.loop-turn-test.true) in
    let item = g.T.BinarySerializable.taking in
    let law = g.met.T.BinarySerializable.is_taking in
    rw (p.1, p.2) (Takes-whole _ _ _ _ _ _ _
    (GoesOn-trans _ _ _ _ _ _ (rw some at c.loop-turn.invariant.goes_on) (GoesOn-value g.T.BinarySerializable.shown item _ _ _ _ _ law c.in_ok-item.ensures.bytes))
    (Takes-memory _ _ _ (IsTaking-values_left item _ _ law)))

pub loop-turn-preserved : goal.loop-turn-preserved
loop-turn-preserved g c =
    let some : c.args.len - c.loop-turn.turn ≡ suc (c.args.len - c.loop-turn.turn - 1) = omega (arith, c.loop-turn-test.true) in
    let fewer : c.args.len - (c.loop-turn.turn + 1) ≡ c.args.len - c.loop-turn.turn - 1 = omega arith in
    let item = g.T.BinarySerializable.taking in
    record {
      goes_on = rw (c.in_ok-push.ensures.items, map-push g.T.BinarySerializable.shown c.loop-turn.items.items c.in_ok-item.item, fewer)
          (GoesOn-trans _ _ _ _ _ _ (rw some at c.loop-turn.invariant.goes_on) (GoesOn-value g.T.BinarySerializable.shown item _ _ _ _ _ g.met.T.BinarySerializable.is_taking c.in_ok-item.ensures.bytes));
      later = omega (arith, c.loop-turn.invariant.later, c.deserialize.ensures.cause.later);
      taken = omega (arith, c.loop-turn.invariant.taken, c.deserialize.ensures.taken);
    }

pub returns-clause-bytes : goal.returns-clause-bytes
returns-clause-bytes g c =
    let none : c.args.len - c.loop-turn.turn ≡ 0 = omega (arith, c.loop-turn-test.false) in
    Takes-done _ _ g.T.BinarySerializable.taking _ _ _ _ (rw none at c.loop-turn.invariant.goes_on) refl
