use Rattle.std.proofs.Common.{subst, sym}
use Rattle.owned_bytes.specs.Outside.{WritesAll}
use Rattle.term_index.specs.declared.outcome.Outcome.{Outcome}
use Rattle.term_index.specs.Outcomes.{line_of}
use Rattle.term_index.proofs.outcome.Outcome.print_line.Goals as goal

pub returns-in-KeyTooLong-clause-bytes : goal.returns-in-KeyTooLong-clause-bytes
returns-in-KeyTooLong-clause-bytes g c =
    subst (λ (o : Outcome). WritesAll (g.P.Sink.written c.args.sink.now) (g.P.Sink.written c.write_placed-in-KeyTooLong.new.sink) c.write_placed-in-KeyTooLong.result (line_of o)) (sym c.in-KeyTooLong.is) c.write_placed-in-KeyTooLong.ensures.bytes

pub returns-in-Compressed-clause-bytes : goal.returns-in-Compressed-clause-bytes
returns-in-Compressed-clause-bytes g c =
    subst (λ (o : Outcome). WritesAll (g.P.Sink.written c.args.sink.now) (g.P.Sink.written c.write_numbered-in-Compressed.new.sink) c.write_numbered-in-Compressed.result (line_of o)) (sym c.in-Compressed.is) c.write_numbered-in-Compressed.ensures.bytes
