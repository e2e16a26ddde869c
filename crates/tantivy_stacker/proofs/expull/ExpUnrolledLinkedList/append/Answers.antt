use Rattle.std.proofs.Common.{rules}
use Rattle.tantivy_stacker.proofs.Appending.{appending_begin, appending_more, error_bytes, error_write, done_write, spends, needed, done_bytes}
use Rattle.tantivy_stacker.proofs.expull.ExpUnrolledLinkedList.append.Goals as goal

pub loop-rest-init : goal.loop-rest-init
loop-rest-init c = appending_begin c.args.arena.now c.args.self.now c.args.buf.now c.requires

pub extend_once-requires-clause-laid_out : goal.extend_once-requires-clause-laid_out
extend_once-requires-clause-laid_out c = c.loop-rest.invariant.extends.laid_out

pub loop-rest-preserved : goal.loop-rest-preserved
loop-rest-preserved c =
    appending_more _ _ _ _ _ _ _ _ _ c.loop-rest.invariant c.in-Ok.ensures.bound c.in-Ok.ensures.extended c.in-Ok.ensures.in_use

pub returns-in-Err : goal.returns-in-Err
returns-in-Err c = record {
  bytes = tt;
  unchanged = search rules;
  same = rw c.in-Err.ensures.arena (error_bytes _ _ _ _ _ _ c.requires c.loop-rest.invariant);
  write = rw c.in-Err.ensures.arena (error_write _ _ _ _ _ _ c.requires c.loop-rest.invariant);
  space = rw c.in-Err.ensures.arena (spends _ _ _ _ _ _ c.requires c.loop-rest.invariant);
  needed = needed _ _ _ _ _ _ c.requires c.loop-rest.invariant c.in-Err.ensures.no_rest (search rules);
  at_limit = rw c.in-Err.ensures.arena c.in-Err.ensures.at_limit;
}

pub returns : goal.returns
returns c = record {
  bytes = done_bytes _ _ _ _ _ _ c.requires c.loop-rest.invariant (search rules);
  unchanged = tt;
  same = tt;
  write = done_write _ _ _ _ _ _ c.requires c.loop-rest.invariant;
  space = spends _ _ _ _ _ _ c.requires c.loop-rest.invariant;
  needed = tt;
  at_limit = tt;
}
