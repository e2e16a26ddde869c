use Rattle.std.proofs.Common.{◌<◌, length, arith, le_trans, le_refl}
use Rattle.common_bitset.specs.Subset.{word_at}
use Rattle.common_bitset.specs.Laws.Laid.{word_read}
use Rattle.common_bitset.proofs.Written.{words_none, words_more, words_cut}
use Rattle.common_bitset.proofs.words.write.Goals as goal

pub loop-k-init : goal.loop-k-init
loop-k-init g c = record { written = words_none (g.W.Sink.written c.args.writer.now) (word_at c.args.words.now); later = le_refl _ }

pub loop-k-preserved : goal.loop-k-preserved
loop-k-preserved g c =
    let within : c.loop-k.k < length c.args.words.now = omega arith in
    record {
      written = words_more (g.W.Sink.written c.args.writer.now) (g.W.Sink.written c.loop-k.writer) (g.W.Sink.written c.serialize.new.writer) c.loop-k.k (word_at c.args.words.now) c.index-words-k.result
          (word_read c.args.words.now c.loop-k.k c.index-words-k.result within c.index-words-k.is) c.loop-k.invariant.written c.in-Ok.ensures.bytes;
      later = le_trans c.loop-k.invariant.later c.in-Ok.ensures.cause.later;
    }

pub returns-in-Err-clause-bytes : goal.returns-in-Err-clause-bytes
returns-in-Err-clause-bytes g c =
    let within : c.loop-k.k < length c.args.words.now = omega arith in
    words_cut (g.W.Sink.written c.args.writer.now) (g.W.Sink.written c.loop-k.writer) (g.W.Sink.written c.serialize.new.writer) c.loop-k.k (length c.args.words.now) (word_at c.args.words.now) c.index-words-k.result
    (word_read c.args.words.now c.loop-k.k c.index-words-k.result within c.index-words-k.is) within c.loop-k.invariant.written c.in-Err.ensures.bytes
