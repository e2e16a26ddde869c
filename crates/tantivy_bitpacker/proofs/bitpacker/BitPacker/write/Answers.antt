use Rattle.std.proofs.Common.{◌≡◌, [], ap, refl, sym, ◌∙◌, subst, arith}
use Rattle.std.proofs.lemmas.Result.{err_from_is_err_and}
use Rattle.std.specs.Io.KnownBytes.{Appends}
use Rattle.owned_bytes.specs.Outside.{AppendsPrefix}
use Rattle.tantivy_bitpacker.specs.Packed.{bytes_of, with_value, full_words, open_word}
use Rattle.tantivy_bitpacker.proofs.Runs.{Appends-none, HasPacked-push}
use Rattle.tantivy_bitpacker.proofs.Words.{Kept-holds, Filled-holds}
use Rattle.tantivy_bitpacker.proofs.bitpacker.BitPacker.write.Goals as goal

pub invariant_of-self : goal.invariant_of-self
invariant_of-self g c =
    let step = Kept-holds c.self.inside.mini_buffer c.self.inside.mini_buffer_written c.args.val c.args.num_bits c.low_word-word.result c.self.invariant.1 c.requires.fits c.if-total-lt64.true c.low_word-word.ensures in
    (c.if-total-lt64.true, step.small)

pub returns-then-total-lt64-clause-bytes : goal.returns-then-total-lt64-clause-bytes
returns-then-total-lt64-clause-bytes g c =
    let step = Kept-holds c.self.inside.mini_buffer c.self.inside.mini_buffer_written c.args.val c.args.num_bits c.low_word-word.result c.self.invariant.1 c.requires.fits c.if-total-lt64.true c.low_word-word.ensures in
    let words : full_words (with_value c.args.self.now c.args.val c.args.num_bits) ≡ [] = ap (λ b. full_words (with_value b c.args.val c.args.num_bits)) (sym c.self.view_is) ∙ step.words in
    subst (λ bs. Appends (g.W.Sink.written c.args.output.now) (g.W.Sink.written c.args.output.now) bs) (sym words) (Appends-none (g.W.Sink.written c.args.output.now))

pub returns-then-total-lt64-clause-ok : goal.returns-then-total-lt64-clause-ok
returns-then-total-lt64-clause-ok g c =
    let step = Kept-holds c.self.inside.mini_buffer c.self.inside.mini_buffer_written c.args.val c.args.num_bits c.low_word-word.result c.self.invariant.1 c.requires.fits c.if-total-lt64.true c.low_word-word.ensures in
    step.rest ∙ ap (λ b. open_word (with_value b c.args.val c.args.num_bits)) c.self.view_is

pub returns-then-total-lt64-clause-run : goal.returns-then-total-lt64-clause-run
returns-then-total-lt64-clause-run g c = λ pieces before has.
    HasPacked-push pieces c.args.self.now _ before (g.W.Sink.written c.args.output.now) (g.W.Sink.written c.args.output.now) c.args.val c.args.num_bits has
    (returns-then-total-lt64-clause-bytes g c) (returns-then-total-lt64-clause-ok g c)

pub returns-in_err-write_word-clause-bytes : goal.returns-in_err-write_word-clause-bytes
returns-in_err-write_word-clause-bytes g c =
    let p = err_from_is_err_and c.from_residual.result c.from_residual.ensures.1 in
    let step = Filled-holds c.self.inside.mini_buffer c.self.inside.mini_buffer_written c.args.val c.args.num_bits c.low_word-word.result _ c.self.invariant.1 c.requires.fits c.self.invariant.0 c.requires.width c.if-total-lt64.false c.low_word-word.ensures refl in
    let words : bytes_of 8 c.low_word-word.result ≡ full_words (with_value c.args.self.now c.args.val c.args.num_bits) = sym step.words ∙ ap (λ b. full_words (with_value b c.args.val c.args.num_bits)) c.self.view_is in
    rw p.1 (subst (λ bs. AppendsPrefix (g.W.Sink.written c.args.output.now) (g.W.Sink.written c.write_word.new.output) bs) words c.in_err-write_word.ensures.bytes)

pub invariant_of-self-2 : goal.invariant_of-self-2
invariant_of-self-2 g c =
    let step = Filled-holds c.self.inside.mini_buffer c.self.inside.mini_buffer_written c.args.val c.args.num_bits c.low_word-word.result c.high_word-self-inside.result c.self.invariant.1 c.requires.fits c.self.invariant.0 c.requires.width c.if-total-lt64.false c.low_word-word.ensures c.high_word-self-inside.ensures in
    (omega (arith, c.self.invariant.0), step.small)

pub returns-clause-bytes : goal.returns-clause-bytes
returns-clause-bytes g c =
    let step = Filled-holds c.self.inside.mini_buffer c.self.inside.mini_buffer_written c.args.val c.args.num_bits c.low_word-word.result c.high_word-self-inside.result c.self.invariant.1 c.requires.fits c.self.invariant.0 c.requires.width c.if-total-lt64.false c.low_word-word.ensures c.high_word-self-inside.ensures in
    let words : bytes_of 8 c.low_word-word.result ≡ full_words (with_value c.args.self.now c.args.val c.args.num_bits) = sym step.words ∙ ap (λ b. full_words (with_value b c.args.val c.args.num_bits)) c.self.view_is in
    subst (λ bs. Appends (g.W.Sink.written c.args.output.now) (g.W.Sink.written c.write_word.new.output) bs) words c.in_ok-write_word.ensures.bytes

pub returns-clause-ok : goal.returns-clause-ok
returns-clause-ok g c =
    let step = Filled-holds c.self.inside.mini_buffer c.self.inside.mini_buffer_written c.args.val c.args.num_bits c.low_word-word.result c.high_word-self-inside.result c.self.invariant.1 c.requires.fits c.self.invariant.0 c.requires.width c.if-total-lt64.false c.low_word-word.ensures c.high_word-self-inside.ensures in
    step.rest ∙ ap (λ b. open_word (with_value b c.args.val c.args.num_bits)) c.self.view_is

pub returns-clause-run : goal.returns-clause-run
returns-clause-run g c = λ pieces before has.
    HasPacked-push pieces c.args.self.now _ before (g.W.Sink.written c.args.output.now) (g.W.Sink.written c.write_word.new.output) c.args.val c.args.num_bits has
    (returns-clause-bytes g c) (returns-clause-ok g c)
