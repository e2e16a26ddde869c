use Rattle.std.proofs.Common.{◌≡◌, [], ap, sym, subst}
use Rattle.std.proofs.lemmas.Result.{err_from_is_err_and}
use Rattle.std.specs.Io.KnownBytes.{Appends}
use Rattle.owned_bytes.specs.Outside.{AppendsPrefix}
use Rattle.tantivy_bitpacker.specs.Packed.{whole_bytes}
use Rattle.tantivy_bitpacker.proofs.Runs.{Appends-none, HasPacked-close}
use Rattle.tantivy_bitpacker.proofs.Words.{whole_bytes-none}
use Rattle.tantivy_bitpacker.proofs.bitpacker.BitPacker.flush.Goals as goal

pub returns-then-written-eq0-clause-bytes : goal.returns-then-written-eq0-clause-bytes
returns-then-written-eq0-clause-bytes g c =
    let none : whole_bytes c.args.self.now ≡ [] = rw (← c.self.view_is) (whole_bytes-none c.self.inside.mini_buffer c.self.inside.mini_buffer_written c.if-written-eq0.true) in
    subst (λ bs. Appends (g.W.Sink.written c.args.output.now) (g.W.Sink.written c.args.output.now) bs) (sym none) (Appends-none (g.W.Sink.written c.args.output.now))

pub returns-then-written-eq0-clause-run : goal.returns-then-written-eq0-clause-run
returns-then-written-eq0-clause-run g c = λ pieces before has.
    let none : whole_bytes c.args.self.now ≡ [] = rw (← c.self.view_is) (whole_bytes-none c.self.inside.mini_buffer c.self.inside.mini_buffer_written c.if-written-eq0.true) in
    HasPacked-close pieces c.args.self.now before (g.W.Sink.written c.args.output.now) (g.W.Sink.written c.args.output.now) has
    (subst (λ bs. Appends (g.W.Sink.written c.args.output.now) (g.W.Sink.written c.args.output.now) bs) (sym none) (Appends-none (g.W.Sink.written c.args.output.now)))

pub returns-in_err-write_word-clause-bytes : goal.returns-in_err-write_word-clause-bytes
returns-in_err-write_word-clause-bytes g c =
    let p = err_from_is_err_and c.from_residual.result c.from_residual.ensures.1 in
    rw p.1 (subst (λ bs. AppendsPrefix (g.W.Sink.written c.args.output.now) (g.W.Sink.written c.write_word.new.output) bs) (ap whole_bytes c.self.view_is) c.in_err-write_word.ensures.bytes)

pub returns-clause-bytes : goal.returns-clause-bytes
returns-clause-bytes g c = subst (λ bs. Appends (g.W.Sink.written c.args.output.now) (g.W.Sink.written c.write_word.new.output) bs) (ap whole_bytes c.self.view_is) c.in_ok-write_word.ensures.bytes

pub returns-clause-run : goal.returns-clause-run
returns-clause-run g c = λ pieces before has.
    HasPacked-close pieces c.args.self.now before (g.W.Sink.written c.args.output.now) (g.W.Sink.written c.write_word.new.output) has
    (subst (λ bs. Appends (g.W.Sink.written c.args.output.now) (g.W.Sink.written c.write_word.new.output) bs) (ap whole_bytes c.self.view_is) c.in_ok-write_word.ensures.bytes)
