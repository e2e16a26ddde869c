-- The entries that were inserted, followed from call to call.
use Rattle.std.proofs.Common.{◌≡◌, List, [], ◌∷◌, ◌++◌, Some, ap, sym, ◌∙◌, arith, length-append}
use Rattle.owned_bytes.specs.Keys.{Key}
use Rattle.sstable_tables.specs.Making.{Making, Begins, Adds, greatest_len}
use Rattle.sstable_tables.specs.Laws.{HasGathered}
use Rattle.sstable_tables.proofs.Blocks.{of_some}
use Rattle.sstable_tables.proofs.Gathering.{last-more}

-- a new writer that is to close no block has none
pub gathered-none : {W V : Type 0} (w new : Making W V) (sink : W) → Begins w sink → new ≡ record w { block_len = greatest_len } → HasGathered new sink []
gathered-none w new sink begins len = record {
  closed = ap (λ (m : Making _ _). m.closed) len ∙ begins.closed;
  gathered = ap (λ (m : Making _ _). m.gathered) len ∙ begins.gathered;
  last = ap (λ (m : Making _ _). m.last) len ∙ begins.last;
  count = ap (λ (m : Making _ _). m.count) len ∙ begins.count;
  block_len = ap (λ (m : Making _ _). m.block_len) len;
  ready = ap (λ (m : Making _ _). m.refusal) len ∙ begins.ready;
  same_sink = ap (λ (m : Making _ _). m.sink) len ∙ begins.same_sink;
}

-- and after one more it has that too
pub gathered-more : {W V : Type 0} (old new : Making W V) (sink : W) (entries : List (Key × V)) (key : Key) (v : V) → HasGathered old sink entries → Adds old new key v → HasGathered new sink (entries ++ (key, v) ∷ [])
gathered-more old new sink entries key v has adds = record {
  closed = of_some (λ blocks. new.closed ≡ Some blocks) old.closed [] has.closed adds.closed;
  gathered = adds.gathered ∙ ap (λ es. es ++ (key, v) ∷ []) has.gathered;
  last = adds.last ∙ sym (last-more entries key v);
  count = omega (arith, adds.count, has.count, length-append entries ((key, v) ∷ []));
  block_len = ap (λ (w : Making _ _). w.block_len) adds.others ∙ has.block_len;
  ready = ap (λ (w : Making _ _). w.refusal) adds.others ∙ has.ready;
  same_sink = ap (λ (w : Making _ _). w.sink) adds.others ∙ has.same_sink;
}
