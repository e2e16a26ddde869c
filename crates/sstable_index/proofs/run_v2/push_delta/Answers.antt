use Rattle.std.proofs.Common.{sym, ◌∙◌}
use Rattle.sstable_index.proofs.ReadingDeltas.{left-fault, left-refused, left-more}
use Rattle.sstable_index.proofs.run_v2.push_delta.Goals as goal

pub returns-in_default-clause-err : goal.returns-in_default-clause-err
returns-in_default-clause-err c = left-fault c.args.begins c.args.keys.now c.args.deltas.now c.requires.some c.in_default.ensures.none

pub returns-then-not-may_come-clause-err : goal.returns-then-not-may_come-clause-err
returns-then-not-may_come-clause-err c =
    left-refused c.args.begins c.args.keys.now c.in-Some.keep c.in-Some.suffix.now c.args.deltas.now c.in-Some.others.now c.requires.later c.in-Some.ensures.found (sym c.may_come.ensures.may ∙ c.if-not-may_come.true)

pub returns-clause-ok : goal.returns-clause-ok
returns-clause-ok c =
    left-more c.args.begins c.args.keys.now c.push.new.self c.in-Some.keep c.in-Some.suffix.now c.args.deltas.now c.in-Some.others.now c.requires.later c.in-Some.ensures.found
    (sym c.may_come.ensures.may ∙ c.if-not-may_come.false) c.in_ok-push.ensures
