use Rattle.common_wire.proofs.laws.written_is_read_again.Goals as goal

pub returns : goal.returns
returns g c v fits can rest = g.met.T.BinarySerializable.again v rest fits can
