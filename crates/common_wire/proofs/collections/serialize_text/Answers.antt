use Rattle.std.proofs.lemmas.Result.{err_from_is_err_and}
use Rattle.owned_bytes.proofs.InTurn.{AppendsPrefix-first, WritesAll-second}
use Rattle.common_wire.specs.Wire.{text_bytes}
use Rattle.common_wire.proofs.collections.serialize_text.Goals as goal

pub returns-in_err-serialize-clause-bytes : goal.returns-in_err-serialize-clause-bytes
unfolding text_bytes
returns-in_err-serialize-clause-bytes g c =
    let p = err_from_is_err_and c.from_residual.result c.from_residual.ensures.1 in
    rw p.1 (AppendsPrefix-first _ _ _ c.args.text.now c.in_err-serialize.ensures.bytes)

pub returns-clause-bytes : goal.returns-clause-bytes
unfolding text_bytes
returns-clause-bytes g c = WritesAll-second _ _ _ _ _ _ c.in_ok-serialize.ensures.bytes c.write_all.ensures.bytes
