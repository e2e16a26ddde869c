use Rattle.std.proofs.Common.{◌≡◌, ◌∙◌, arith}
use Rattle.tantivy_stacker.specs.Maps.{key_length}
use Rattle.tantivy_stacker.proofs.Entries.{value_place_is}
use Rattle.tantivy_stacker.proofs.shared_arena_hashmap.value_addr.Goals as goal

pub returns : goal.returns
unfolding key_length
returns c =
    let a = c.args.arena.now in
    let e = c.args.addr in
    let len : c.from.result ≡ key_length a e = c.from.ensures ∙ c.read-len.ensures.item in
    value_place_is a e 1 c.requires (omega arith) c.offset.result c.from.result c.read-len.ensures.pages len c.offset.ensures
