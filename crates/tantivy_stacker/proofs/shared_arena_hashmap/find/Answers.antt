use Rattle.std.proofs.Common.{ℕ, ◌≡◌, ◌≢◌, sym, ap, ◌∙◌}
use Rattle.std.proofs.lemmas.Bool.{false≢true}
use Rattle.std.proofs.lemmas.List.{get_or_read}
use Rattle.tantivy_stacker.specs.Maps.{place, key_at}
use Rattle.tantivy_stacker.proofs.Tables.{read_taken, read_free}
use Rattle.tantivy_stacker.proofs.Entries.{ends_free, searching_begin, searching_more, search_ends}
use Rattle.tantivy_stacker.proofs.shared_arena_hashmap.find.Goals as goal

pub loop-step-init : goal.loop-step-init
loop-step-init c =
    searching_begin c.args.arena.now c.args.places.now c.args.key.now c.args.hash c.home-bucket.result c.home-bucket.ensures.value c.home-bucket.ensures.bound

pub returns-then-is_free : goal.returns-then-is_free
returns-then-is_free c =
    let s = c.loop-step.invariant in
    let ps = c.args.places.now in
    let free = read_free ps c.loop-step.bucket c.index-places-bucket.result c.is_free.result s.within c.index-places-bucket.is c.is_free.ensures c.if-is_free.true in
    ends_free c.args.arena.now ps c.args.key.now c.args.hash c.loop-step._step c.loop-step.bucket c.requires.table c.requires.hash s c.loop-step-test.true free

pub loop-step-preserved : goal.loop-step-preserved
loop-step-preserved c =
    let s = c.loop-step.invariant in
    let a = c.args.arena.now in
    let ps = c.args.places.now in
    let taken = read_taken ps c.loop-step.bucket c.index-places-bucket.result c.is_free.result s.within c.index-places-bucket.is c.is_free.ensures c.if-is_free.false in
    let same : c.index-places-bucket.result ≡ place ps c.loop-step.bucket = get_or_read ps c.loop-step.bucket c.index-places-bucket.result s.within c.index-places-bucket.is (4294967295, 0) in
    let other : key_at a (place ps c.loop-step.bucket).0 ≢ c.args.key.now =
    λ e. false≢true (sym c.if-has_key.false ∙ c.has_key.ensures.1 (ap (λ (p : ℕ × ℕ). key_at a p.0) same ∙ e)) in
    searching_more a ps c.args.key.now c.args.hash c.loop-step._step c.loop-step.bucket c.next_bucket-bucket.result s c.loop-step-test.true c.next_bucket-bucket.ensures taken other

pub unreachable-requires : goal.unreachable-requires
unreachable-requires c =
    search_ends c.args.arena.now c.args.places.now c.args.key.now c.args.hash c.loop-step._step c.loop-step.bucket c.requires.table c.loop-step.invariant c.loop-step-test.false
