use Rattle.tantivy_stacker.proofs.ListFacts.{room_is_bounded, room_grows}
use Rattle.tantivy_stacker.proofs.laws.room_laws.Goals as goal

pub returns : goal.returns
returns c = record { bound = room_is_bounded; grows = room_grows }
