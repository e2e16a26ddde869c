use Rattle.std.proofs.Common.{◌∙◌, ap, sym, refl, ◌++◌, [], arith}
use Rattle.std.specs.Prelude.{nat_lt, if◌then◌else◌}
use Rattle.owned_bytes.specs.Keys.{shared}
use Rattle.owned_bytes.proofs.Pieces.{rest_is}
use Rattle.sstable_tables.specs.Making.{Making, may_come}
use Rattle.sstable_tables.proofs.Gathering.{making-more, adds-more, not_some}
use Rattle.sstable_tables.proofs.writer.Writer.add.Goals as goal

pub invariant_of-self-2 : goal.invariant_of-self-2
invariant_of-self-2 g c =
    making-more g.T.ValueWriter.codec g.W.Sink.written g.W.Sink.faults c.self.inside.delta_writer c.write_entry.new.self c.self.inside.index_builder c.shorten_at_first.new.index_builder c.self.inside.previous_key.items c.args.key.now c.swap.new.x.items
    c.self.inside.num_terms _ c.self.inside.first_ordinal c.keep_of-keep.result _ c.self.inside.refusal _ _ c.self.invariant (not_some _ c.in_default.not-Some) (record {
      begins = refl;
      comes = ap (λ (w : Making _ _). may_come w.last c.args.key.now) c.self.view_is ∙ sym c.accepts.ensures ∙ c.if-not-accepts.false;
      kept = c.keep_of-keep.ensures.count ∙ ap (λ k. shared (if nat_lt c.self.inside.first_ordinal c.self.inside.num_terms then k else []) c.args.key.now) c.as_slice.ensures.value;
      adds = rest_is c.keep_of-keep.result c.args.key.now;
      opened = c.in_ok-write_entry.ensures.entries;
      fits = c.in_ok-write_entry.ensures.fits;
      gains = c.in_ok-write_entry.ensures.value;
      others = c.in_ok-write_entry.ensures.others;
      count = refl;
      few = omega (arith, c.if-self.false, (c.self.invariant.stands (not_some _ c.in_default.not-Some)).few);
      shortens = c.shorten_at_first.ensures;
    })
    (ap (λ v. v.items) c.swap.ensures.x_after ∙ c.in_ok-extend_from_slice.ensures.items ∙ ap (λ l. l ++ c.args.key.now) c.clear.ensures.items)

pub returns-clause-ok : goal.returns-clause-ok
returns-clause-ok g c =
    rw (← c.self.view_is) (adds-more g.T.ValueWriter.codec g.W.Sink.written g.W.Sink.faults c.self.inside.delta_writer c.write_entry.new.self c.self.inside.index_builder c.shorten_at_first.new.index_builder c.self.inside.previous_key.items c.args.key.now c.swap.new.x.items
    c.self.inside.num_terms _ c.self.inside.first_ordinal c.keep_of-keep.result _ c.self.inside.refusal _ _ c.self.invariant (not_some _ c.in_default.not-Some) (record {
      begins = refl;
      comes = ap (λ (w : Making _ _). may_come w.last c.args.key.now) c.self.view_is ∙ sym c.accepts.ensures ∙ c.if-not-accepts.false;
      kept = c.keep_of-keep.ensures.count ∙ ap (λ k. shared (if nat_lt c.self.inside.first_ordinal c.self.inside.num_terms then k else []) c.args.key.now) c.as_slice.ensures.value;
      adds = rest_is c.keep_of-keep.result c.args.key.now;
      opened = c.in_ok-write_entry.ensures.entries;
      fits = c.in_ok-write_entry.ensures.fits;
      gains = c.in_ok-write_entry.ensures.value;
      others = c.in_ok-write_entry.ensures.others;
      count = refl;
      few = omega (arith, c.if-self.false, (c.self.invariant.stands (not_some _ c.in_default.not-Some)).few);
      shortens = c.shorten_at_first.ensures;
    })
    (ap (λ v. v.items) c.swap.ensures.x_after ∙ c.in_ok-extend_from_slice.ensures.items ∙ ap (λ l. l ++ c.args.key.now) c.clear.ensures.items))
