use Rattle.std.proofs.Common.{length-append, length-take, arith}
use Rattle.std.proofs.lemmas.Result.{err_from_is_err_and}
use Rattle.std.proofs.KnownBytes.{Consumes-trans}
use Rattle.common_wire.proofs.ListsRead.{Takes-no_piece, Takes-no_room, Consumes-taken}
use Rattle.common_wire.proofs.collections.read_bytes.Goals as goal

pub returns-in_err-read_exact-clause-bytes : goal.returns-in_err-read_exact-clause-bytes
returns-in_err-read_exact-clause-bytes g c =
    let p = err_from_is_err_and c.from_residual-in_err-read_exact.result c.from_residual-in_err-read_exact.ensures.1 in
    rw (p.1, p.2) (Takes-no_piece _ _ _ _ _ _ _ _ _ c.loop-buf.invariant.gone (omega (arith, length-take c.min-piece.result c.loop-buf.buf, c.min-piece.ensures, c.len-in-loop-buf.ensures)) c.in_err-read_exact.ensures.bytes)

pub returns-in_err-extend_from_slice-clause-bytes : goal.returns-in_err-extend_from_slice-clause-bytes
returns-in_err-extend_from_slice-clause-bytes g c =
    let p = err_from_is_err_and c.from_residual-in_err-extend_from_slice.result c.from_residual-in_err-extend_from_slice.ensures.1 in
    rw (p.1, p.2) (Takes-no_room _ _ _ _ _ (Consumes-trans _ _ _ _ _ c.loop-buf.invariant.gone (Consumes-taken _ _ _ _ c.in_ok-read_exact.ensures.bytes))
    (omega (arith, length-append c.loop-buf.bytes.items c.read_exact.new.buf, c.read_exact.auto.buf, length-take c.min-piece.result c.loop-buf.buf, c.min-piece.ensures, c.len-in-loop-buf.ensures)))
