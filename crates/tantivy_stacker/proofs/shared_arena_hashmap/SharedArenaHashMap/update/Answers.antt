use Rattle.std.proofs.Common.{refl, ◌≡◌, ◌+◌, ℕ, ap, ◌∙◌, subst}
use Rattle.tantivy_stacker.specs.Arena.{Writes}
use Rattle.tantivy_stacker.specs.Maps.{place, value_place, key_length, key_at}
use Rattle.tantivy_stacker.proofs.Maps.{updated_write, updated_puts, read_place}
use Rattle.tantivy_stacker.proofs.shared_arena_hashmap.SharedArenaHashMap.update.Goals as goal

pub returns-clause-write : goal.returns-clause-write
returns-clause-write g c =
    let a = c.args.arena.now in
    let t = c.args.self.now in
    let i = c.args.bucket in
    let e : c.addr.result ≡ (place t.places i).0 = c.addr.ensures ∙ ap (λ (p : ℕ × ℕ). p.0) (read_place (record { places = c.self.inside.table.items; count = c.self.inside.len }) t i c.index.result.now c.self.view_is c.requires.taken c.index.ensures) in
    let at : c.value_addr-addr.result ≡ value_place a (place t.places i).0 = c.value_addr-addr.ensures ∙ ap (λ p. p + (2 + key_length a p)) e in
    updated_write g.V.ArenaItem.SIZE g.V.ArenaItem.item a c.write_at.new.self t (key_at a (place t.places i).0) (g.V.ArenaItem.bytes c.updater-value.result) c.updater-value.result i g.met.V.ArenaItem.some c.requires.held (record { taken = c.requires.taken; key_is = refl }) (subst (λ p. Writes a c.write_at.new.self p (g.V.ArenaItem.bytes c.updater-value.result)) at c.write_at.ensures.written) c.write_at.ensures.size c.write_at.ensures.again

pub returns-clause-puts : goal.returns-clause-puts
returns-clause-puts g c =
    let a = c.args.arena.now in
    let t = c.args.self.now in
    let i = c.args.bucket in
    let e : c.addr.result ≡ (place t.places i).0 = c.addr.ensures ∙ ap (λ (p : ℕ × ℕ). p.0) (read_place (record { places = c.self.inside.table.items; count = c.self.inside.len }) t i c.index.result.now c.self.view_is c.requires.taken c.index.ensures) in
    let at : c.value_addr-addr.result ≡ value_place a (place t.places i).0 = c.value_addr-addr.ensures ∙ ap (λ p. p + (2 + key_length a p)) e in
    updated_puts g.V.ArenaItem.SIZE g.V.ArenaItem.item a c.write_at.new.self t (key_at a (place t.places i).0) (g.V.ArenaItem.bytes c.updater-value.result) c.updater-value.result i g.met.V.ArenaItem.some c.requires.held (record { taken = c.requires.taken; key_is = refl }) (subst (λ p. Writes a c.write_at.new.self p (g.V.ArenaItem.bytes c.updater-value.result)) at c.write_at.ensures.written) c.write_at.ensures.size c.write_at.ensures.again
