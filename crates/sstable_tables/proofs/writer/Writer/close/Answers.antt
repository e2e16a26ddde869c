use Rattle.std.proofs.Common.{◌∙◌, ap, ◌++◌, ◌∷◌, []}
use Rattle.sstable_tables.proofs.Closing.{may-come, making-closed, closes-none, closes-one, closes-not, blocks-kept, blocks-grown, lt-of}
use Rattle.sstable_tables.proofs.Gathering.{not_some}
use Rattle.sstable_tables.proofs.writer.Writer.close.Goals as goal

pub index_block-added-requires : goal.index_block-added-requires
index_block-added-requires g c =
    let due = rw c.in-Ok-Some.field-0-is at c.in-Ok-Some.ensures.due in
    let not_due = rw c.in-Ok-Some.field-0-is at c.in-Ok-Some.ensures.not_due in
    may-come g.T.ValueWriter.codec c.self.inside.delta_writer c.flush_block_if_required.new.self c.self.inside.index_builder c.self.inside.previous_key.items c.self.inside.num_terms c.self.inside.first_ordinal c.in-Ok-Some.place
    (c.self.invariant.stands (not_some _ c.in_default.not-Some)) (due (lt-of _ _ (λ small. let no = (not_due small).0 in cc)))

pub invariant_of-self-in-Ok : goal.invariant_of-self-in-Ok
invariant_of-self-in-Ok g c =
    let due = rw c.in-Ok-Some.field-0-is at c.in-Ok-Some.ensures.due in
    let not_due = rw c.in-Ok-Some.field-0-is at c.in-Ok-Some.ensures.not_due in
    let place = c.in-Ok-Some.place in
    making-closed g.T.ValueWriter.codec g.W.Sink.written g.W.Sink.faults c.self.inside.delta_writer c.flush_block_if_required.new.self c.self.inside.index_builder c.index_block-added.new.index_builder c.self.inside.previous_key.items
    c.self.inside.num_terms c.self.inside.first_ordinal c.self.inside.refusal place c.self.invariant (not_some _ c.in_default.not-Some) c.in-Ok-Some.ensures.told c.in-Ok-Some.ensures.failed (record {
      writes = due (lt-of _ _ (λ small. let no = (not_due small).0 in cc));
      adds = rw c.in-Ok-Some.field-0-is at c.in-Ok-Some.ensures.run;
      next = rw c.in-Ok-Some.field-0-is at c.in-Ok-Some.ensures.next;
      small = c.in-Ok.ensures.small;
      index_is = c.in-Ok.ensures.ok ∙ ap (λ k. c.self.inside.index_builder ++ (k, record { start = place.start; end = place.end; first_ordinal = c.self.inside.first_ordinal }) ∷ []) c.as_slice-last_key.ensures.value;
    })

pub returns-in-Ok-None-clause-closes : goal.returns-in-Ok-None-clause-closes
returns-in-Ok-None-clause-closes g c =
    let due = rw c.in-Ok-None.field-0-is at c.in-Ok-None.ensures.due in
    rw (← c.self.view_is) (closes-none g.T.ValueWriter.codec g.W.Sink.written g.W.Sink.faults c.self.inside.delta_writer c.flush_block_if_required.new.self c.self.inside.index_builder c.self.inside.previous_key.items
    c.self.inside.num_terms c.self.inside.first_ordinal c.self.inside.refusal c.self.invariant (not_some _ c.in_default.not-Some) due (λ small. (c.in-Ok-None.ensures.not_due small).1))

pub returns-in-Ok-None-clause-blocks : goal.returns-in-Ok-None-clause-blocks
returns-in-Ok-None-clause-blocks g c =
    let due = rw c.in-Ok-None.field-0-is at c.in-Ok-None.ensures.due in
    rw (← c.self.view_is) (blocks-kept g.T.ValueWriter.codec g.W.Sink.written g.W.Sink.faults c.self.inside.delta_writer c.flush_block_if_required.new.self c.self.inside.index_builder c.self.inside.previous_key.items
    c.self.inside.num_terms c.self.inside.first_ordinal c.self.inside.refusal c.self.invariant (not_some _ c.in_default.not-Some) due (λ small. (c.in-Ok-None.ensures.not_due small).1))

pub returns-in-Ok-clause-closes : goal.returns-in-Ok-clause-closes
returns-in-Ok-clause-closes g c =
    let due = rw c.in-Ok-Some.field-0-is at c.in-Ok-Some.ensures.due in
    let not_due = rw c.in-Ok-Some.field-0-is at c.in-Ok-Some.ensures.not_due in
    let place = c.in-Ok-Some.place in
    rw (← c.self.view_is) (closes-one g.T.ValueWriter.codec g.W.Sink.written g.W.Sink.faults c.self.inside.delta_writer c.flush_block_if_required.new.self c.self.inside.index_builder c.index_block-added.new.index_builder c.self.inside.previous_key.items
    c.self.inside.num_terms c.self.inside.first_ordinal c.self.inside.refusal place c.self.invariant (not_some _ c.in_default.not-Some) c.in-Ok-Some.ensures.told (λ small. let no = (not_due small).0 in cc) (record {
      writes = due (lt-of _ _ (λ small. let no = (not_due small).0 in cc));
      adds = rw c.in-Ok-Some.field-0-is at c.in-Ok-Some.ensures.run;
      next = rw c.in-Ok-Some.field-0-is at c.in-Ok-Some.ensures.next;
      small = c.in-Ok.ensures.small;
      index_is = c.in-Ok.ensures.ok ∙ ap (λ k. c.self.inside.index_builder ++ (k, record { start = place.start; end = place.end; first_ordinal = c.self.inside.first_ordinal }) ∷ []) c.as_slice-last_key.ensures.value;
    }))

pub returns-in-Ok-clause-blocks : goal.returns-in-Ok-clause-blocks
returns-in-Ok-clause-blocks g c =
    let due = rw c.in-Ok-Some.field-0-is at c.in-Ok-Some.ensures.due in
    let not_due = rw c.in-Ok-Some.field-0-is at c.in-Ok-Some.ensures.not_due in
    let place = c.in-Ok-Some.place in
    rw (← c.self.view_is) (blocks-grown g.T.ValueWriter.codec g.W.Sink.written g.W.Sink.faults c.self.inside.delta_writer c.flush_block_if_required.new.self c.self.inside.index_builder c.index_block-added.new.index_builder c.self.inside.previous_key.items
    c.self.inside.num_terms c.self.inside.first_ordinal c.self.inside.refusal place c.self.invariant (not_some _ c.in_default.not-Some) (λ small. let no = (not_due small).0 in cc) (record {
      writes = due (lt-of _ _ (λ small. let no = (not_due small).0 in cc));
      adds = rw c.in-Ok-Some.field-0-is at c.in-Ok-Some.ensures.run;
      next = rw c.in-Ok-Some.field-0-is at c.in-Ok-Some.ensures.next;
      small = c.in-Ok.ensures.small;
      index_is = c.in-Ok.ensures.ok ∙ ap (λ k. c.self.inside.index_builder ++ (k, record { start = place.start; end = place.end; first_ordinal = c.self.inside.first_ordinal }) ∷ []) c.as_slice-last_key.ensures.value;
    }))

pub returns-in-Err-clause-closes : goal.returns-in-Err-clause-closes
returns-in-Err-clause-closes g c =
    rw (← c.self.view_is) (closes-not g.T.ValueWriter.codec g.W.Sink.written g.W.Sink.faults c.self.inside.delta_writer c.flush_block_if_required.new.self c.self.inside.index_builder c.self.inside.previous_key.items
    c.self.inside.num_terms c.self.inside.first_ordinal c.self.inside.refusal c.in-Err.error _ _ c.self.invariant (not_some _ c.in_default.not-Some) c.in-Err.ensures.told (λ small. let no = (c.in-Err.ensures.not_due small).0 in cc) c.in-Err.ensures.due
    c.from-error.ensures c.refusal_by.ensures)
