use Rattle.std.proofs.Common.{take, ap, ◌∙◌, subst}
use Rattle.owned_bytes.specs.Outside.{WritesAll}
use Rattle.tantivy_bitpacker.proofs.Words.{word_bytes-take}
use Rattle.tantivy_bitpacker.proofs.bitpacker.write_word.Goals as goal

pub returns-clause-bytes : goal.returns-clause-bytes
returns-clause-bytes g c =
    subst (λ bs. WritesAll (g.W.Sink.written c.args.output.now) (g.W.Sink.written c.write_all.new.self) c.write_all.result bs)
    (ap (take c.args.num_bytes) c.to_le_bytes-bytes.ensures ∙ word_bytes-take c.args.num_bytes c.args.word c.requires) c.write_all.ensures.bytes
