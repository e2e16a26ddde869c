use Rattle.std.proofs.Common.{◌≡◌, ◌+◌, ◌<◌, ℕ, length, refl, ap, ◌∙◌, subst, filter, drop, arith}
use Rattle.std.proofs.lemmas.List.{get_or_read}
use Rattle.tantivy_stacker.specs.Maps.{place, is_taken, key_length, key_at, value_place}
use Rattle.tantivy_stacker.proofs.Iterating.{first_entry, no_entry, none_left}
use Rattle.tantivy_stacker.proofs.map_iter.IterIterator.next.Goals as goal

pub returns-then-found-places-clause-steps : goal.returns-then-found-places-clause-steps
returns-then-found-places-clause-steps c =
    let ps = c.args.self.now.places.now in
    let e = c.if-found-places.true in
    (refl, (no_entry c.args.self.now.memory_arena.now ps (subst (λ k. filter is_taken ps ≡ filter is_taken (drop k ps)) e c.first_taken-found.ensures.free), none_left ps c.first_taken-found.result e))

pub returns-clause-steps : goal.returns-clause-steps
returns-clause-steps c =
    let a = c.args.self.now.memory_arena.now in
    let ps = c.args.self.now.places.now in
    let i = c.first_taken-found.result in
    let bound = c.first_taken-found.ensures.bound in
    let ne = c.if-found-places.false in
    let within : i < length ps = omega arith in
    let read : c.index-places-found.result ≡ place ps i = get_or_read ps i c.index-places-found.result within c.index-places-found.is (4294967295, 0) in
    let addr : c.addr-addr.result ≡ (place ps i).0 = c.addr-addr.ensures ∙ ap (λ (p : ℕ × ℕ). p.0) read in
    let key : c.entry_key.result.now ≡ key_at a (place ps i).0 = c.entry_key.ensures.key ∙ ap (key_at a) addr in
    let value : c.value_addr.result ≡ value_place a (place ps i).0 = c.value_addr.ensures ∙ ap (λ p. p + (2 + key_length a p)) addr in
    (refl, rw (key, value) (first_entry a ps i within (c.first_taken-found.ensures.taken within) c.first_taken-found.ensures.free))
