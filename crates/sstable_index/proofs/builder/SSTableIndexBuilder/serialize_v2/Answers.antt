use Rattle.std.proofs.Common.{◌++◌, ap, sym, ◌∙◌}
use Rattle.std.specs.Prelude.{replicate}
use Rattle.sstable_index.proofs.PartV2.{tells, serialized}
use Rattle.sstable_index.proofs.builder.SSTableIndexBuilder.serialize_v2.Goals as goal

pub returns-clause-serializes : goal.returns-clause-serializes
returns-clause-serializes g c =
    serialized c.args.self.now _ _ _ _ (tells c.args.self.now c.in-Ok.sink _ (sym c.is_rising.ensures ∙ c.if-not-is_rising.false) c.in-Ok.ensures.ok
    (c.as_slice.ensures.value ∙ c.in_ok-extend_from_slice.ensures.items ∙ ap (λ bytes. bytes ++ replicate 4 0) c.into_bytes-bytes.ensures)) c.append.ensures.bytes c.append.ensures.error
