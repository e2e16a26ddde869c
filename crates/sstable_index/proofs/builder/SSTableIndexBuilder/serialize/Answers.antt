use Rattle.std.proofs.Common.{subst, sym, ◌∙◌, arith}
use Rattle.std.specs.Io.KnownBytes.{Appends}
use Rattle.sstable_index.proofs.Appending.{appends-one, stops-at_one, appends-several}
use Rattle.sstable_index.proofs.builder.SSTableIndexBuilder.serialize.Goals as goal

pub returns-in-Ok-clause-serializes : goal.returns-in-Ok-clause-serializes
returns-in-Ok-clause-serializes g c = appends-one c.args.self.now _ _ (omega (arith, c.len.ensures, c.if-len-le1.true)) c.in-Ok.ensures.bytes

pub returns-in-Err-clause-serializes : goal.returns-in-Err-clause-serializes
returns-in-Err-clause-serializes g c = stops-at_one c.args.self.now _ _ _ (omega (arith, c.len.ensures, c.if-len-le1.true)) c.in-Err.ensures.error c.in-Err.ensures.bytes

pub returns-in-Ok-append-clause-serializes : goal.returns-in-Ok-append-clause-serializes
returns-in-Ok-append-clause-serializes g c =
    let rising = sym c.is_rising.ensures ∙ c.if-not-is_rising.false in
    appends-several c.args.self.now _ _ c.in_ok-bytes.bytes.items _ (omega (arith, c.len.ensures, c.if-len-le1.false)) rising c.in_ok-bytes.ensures.bytes (omega (arith, c.in_ok-bytes.bytes.ok.0)) c.in_ok-bytes.ensures.len c.in_ok-bytes.ensures.again
    (subst (λ bs. Appends (g.W.Sink.written c.args.wrt.now) (g.W.Sink.written c.append-2.new.wrt) bs) c.as_slice.ensures.value c.in-Ok-append.ensures.bytes)
