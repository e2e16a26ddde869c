use Rattle.std.proofs.Common.{◌≡◌, ◌+◌, length, ap, ◌∙◌, subst, arith}
use Rattle.std.specs.Int.{w16, from_le_bytes}
use Rattle.std.proofs.lemmas.Nat.{from_le_bytes-to_le_bytes_2}
use Rattle.tantivy_stacker.specs.Arena.{Lies, Writes}
use Rattle.tantivy_stacker.proofs.Chains.{Lies-front, Lies-back}
use Rattle.tantivy_stacker.proofs.Entries.{place_after}
use Rattle.tantivy_stacker.proofs.Inserting.{entry_written}
use Rattle.tantivy_stacker.proofs.shared_arena_hashmap.write_entry.Goals as goal

pub write-requires-2 : goal.write-requires-2
write-requires-2 g c =
    let a = c.args.arena.now in
    let e = c.args.addr in
    let some = g.met.V.ArenaItem.some in
    let at = place_after a e _ 2 c.offset.result c.requires.lies c.requires.pages (omega arith) c.offset.ensures in
    let body : Lies a (e + 2) (length c.args.key.now) = Lies-front (length c.args.key.now) (omega arith) (Lies-back a e 2 (length c.args.key.now + g.V.ArenaItem.SIZE) (Lies-front (2 + (length c.args.key.now + g.V.ArenaItem.SIZE)) (omega arith) c.requires.lies) (omega arith)) in
    c.write.ensures.written.keeps.lies c.offset.result (length c.args.key.now) (rw at body)

pub write_at-requires : goal.write_at-requires
write_at-requires g c =
    let a = c.args.arena.now in
    let e = c.args.addr in
    let some = g.met.V.ArenaItem.some in
    let len : c.from.result ≡ length c.args.key.now = c.from.ensures in
    let at = place_after a e _ (2 + c.from.result) c.offset-2.result c.requires.lies c.requires.pages (omega arith) c.offset-2.ensures in
    let body : Lies a (e + (2 + length c.args.key.now)) g.V.ArenaItem.SIZE = Lies-back a e (2 + length c.args.key.now) g.V.ArenaItem.SIZE c.requires.lies some in
    c.write-2.ensures.written.keeps.lies c.offset-2.result g.V.ArenaItem.SIZE (c.write.ensures.written.keeps.lies c.offset-2.result g.V.ArenaItem.SIZE (rw (at, len) body))

pub returns : goal.returns
returns g c =
    let a = c.args.arena.now in
    let e = c.args.addr in
    let some = g.met.V.ArenaItem.some in
    let len : c.from.result ≡ length c.args.key.now = c.from.ensures in
    let at = place_after a e _ 2 c.offset.result c.requires.lies c.requires.pages (omega arith) c.offset.ensures in
    let at' = place_after a e _ (2 + c.from.result) c.offset-2.result c.requires.lies c.requires.pages (omega arith) c.offset-2.ensures in
    let there : c.offset-2.result ≡ e + (2 + length c.args.key.now) = at' ∙ ap (λ k. e + (2 + k)) len in
    entry_written g.V.ArenaItem.SIZE g.V.ArenaItem.item a c.write.new.self c.write-2.new.self c.write_at.new.self e c.args.key.now c.to_le_bytes.result (g.V.ArenaItem.bytes c.args.value) c.args.value c.requires.lies some
    c.write.ensures.written (ap length c.to_le_bytes.ensures)
    (ap (from_le_bytes w16) c.to_le_bytes.ensures ∙ from_le_bytes-to_le_bytes_2 (length c.args.key.now) (omega arith))
    (subst (λ p. Writes c.write.new.self c.write-2.new.self p c.args.key.now) at c.write-2.ensures.written)
    (subst (λ p. Writes c.write-2.new.self c.write_at.new.self p (g.V.ArenaItem.bytes c.args.value)) there c.write_at.ensures.written)
    c.write_at.ensures.size c.write_at.ensures.again
