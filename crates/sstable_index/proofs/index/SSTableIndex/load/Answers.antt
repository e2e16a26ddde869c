use Rattle.std.proofs.Common.{◌≡◌, ◌-◌, ◌≤◌, length, ap, ◌∙◌, sym, arith}
use Rattle.owned_bytes.specs.Front.{◌>>=◌}
use Rattle.std.specs.Prelude.{Option, Some, List}
use Rattle.sstable_format.specs.Index.{IndexEntry, Entries}
use Rattle.sstable_index.proofs.LoadingV3.{last_number, v3-short, v3-one_block, v3-entries}
use Rattle.sstable_index.proofs.LoadingParts.{three-is, v2-error, v3-error}
use Rattle.sstable_index.proofs.index.SSTableIndex.load.Goals as goal

pub returns-then-len-lt8 : goal.returns-then-len-lt8
returns-then-len-lt8 c = v3-short c.args.footer.now.version c.args.part (three-is _ c.requires.known c.if-footer-eq2.false) (omega (arith, c.len.ensures, c.if-len-lt8.true))

pub returns-then-fst_length-eq0 : goal.returns-then-fst_length-eq0
returns-then-fst_length-eq0 c = (
  v3-one_block c.args.footer.now.version c.args.part c.last_u64-fst_length.result (three-is _ c.requires.known c.if-footer-eq2.false) (omega (arith, c.len.ensures, c.if-len-lt8.false))
      (c.last_u64-fst_length.ensures ∙ ap last_number c.as_slice.ensures) c.if-fst_length-eq0.true,
  (c.load-then-fst_length-eq0.ensures.start, c.load-then-fst_length-eq0.ensures.end, c.load-then-fst_length-eq0.ensures.first),
)

pub returns-in-Ok-load : goal.returns-in-Ok-load
returns-in-Ok-load c = (
  v3-entries c.args.footer.now.version c.args.part c.in_ok-data.data c.last_u64-fst_length.result (three-is _ c.requires.known c.if-footer-eq2.false) (omega (arith, c.len.ensures, c.if-len-lt8.false))
      (c.last_u64-fst_length.ensures ∙ ap last_number c.as_slice.ensures) c.if-fst_length-eq0.false c.in_ok-data.ensures.0
      ∙ ap (λ (o : Option (List IndexEntry)). o >>= (λ entries. Some (Entries entries))) c.in-Ok-load.ensures,
  tt,
)

pub returns-in-Err-load : goal.returns-in-Err-load
returns-in-Err-load c =
    v3-error c.args.footer.now c.args.part c.in_ok-data.data c.last_u64-fst_length.result c.in-Err-load.e c.error_at-in-Err-load.result c.error_at-in-Err-load.ensures c.in-Err-load.ensures
    (v3-entries c.args.footer.now.version c.args.part c.in_ok-data.data c.last_u64-fst_length.result (three-is _ c.requires.known c.if-footer-eq2.false) (omega (arith, c.len.ensures, c.if-len-lt8.false))
    (c.last_u64-fst_length.ensures ∙ ap last_number c.as_slice.ensures) c.if-fst_length-eq0.false c.in_ok-data.ensures.0)

pub returns-in-Err : goal.returns-in-Err
returns-in-Err c = v2-error c.args.footer.now c.args.part c.in-Err.e c.error_at.result c.if-footer-eq2.true c.requires.placed c.error_at.ensures c.in-Err.ensures
