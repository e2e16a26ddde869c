use Rattle.std.proofs.Common.{◌≡◌, ◌+◌, ap, ◌∙◌, arith}
use Rattle.tantivy_stacker.specs.Arena.{bytes_at}
use Rattle.tantivy_stacker.specs.Maps.{key_length, key_at}
use Rattle.tantivy_stacker.proofs.Entries.{key_lies, key_place}
use Rattle.tantivy_stacker.proofs.shared_arena_hashmap.entry_key.Goals as goal

pub slice-requires : goal.slice-requires
unfolding key_length
slice-requires c =
    let a = c.args.arena.now in
    let e = c.args.addr in
    let len : c.from-len.result ≡ key_length a e = c.from-len.ensures ∙ c.read.ensures.item in
    let at = key_place a e 1 c.requires (omega arith) c.offset.result c.read.ensures.pages c.offset.ensures in
    rw (len, at) (key_lies a e 1 c.requires (omega arith))

pub returns-clause-key : goal.returns-clause-key
unfolding key_length key_at
returns-clause-key c =
    let a = c.args.arena.now in
    let e = c.args.addr in
    let len : c.from-len.result ≡ key_length a e = c.from-len.ensures ∙ c.read.ensures.item in
    let at = key_place a e 1 c.requires (omega arith) c.offset.result c.read.ensures.pages c.offset.ensures in
    c.slice.ensures.bytes ∙ (ap (λ p. bytes_at a p c.from-len.result) at ∙ ap (bytes_at a (e + 2)) len)
