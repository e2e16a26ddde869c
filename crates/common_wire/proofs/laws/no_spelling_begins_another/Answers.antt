use Rattle.std.proofs.Common.{[], sym, ◌∙◌}
use Rattle.common_wire.specs.TakingLaws.{value_is}
use Rattle.common_wire.proofs.laws.no_spelling_begins_another.Goals as goal

pub returns : goal.returns
returns g c bytes more v w alone longer = value_is v w more [] (sym (g.met.T.BinarySerializable.is_taking.longer bytes [] more v alone) ∙ longer)
