-- What a search in the bytes of a block tells.
use Rattle.std.proofs.Common.{◌≡◌, ℕ, ◌+◌, ◌-◌, ◌≤◌, List, [], ◌∷◌, ◌++◌, drop, true, Some, None, Err, refl, ap, sym, ◌∙◌, subst, arith}
use Rattle.owned_bytes.specs.Keys.{Key}
use Rattle.sstable_values.specs.Codec.{Codec}
use Rattle.sstable_values.specs.declared.errors.BlockError.{BlockError}
use Rattle.sstable_values.specs.declared.errors.BlockError.TheVariants as blocks
use Rattle.sstable_blocks.specs.Content.{block_at}
use Rattle.sstable_blocks.specs.BlockReader.{before_bytes}
use Rattle.sstable_blocks.specs.Slices.{Sliced, Begins}
use Rattle.sstable_format.specs.Entries.{value_at}
use Rattle.sstable_format.specs.Refused.{is_compressed_at}
use Rattle.sstable_format.proofs.Holding.{value-passed, value-this, value-above}
use Rattle.sstable_index.specs.Errors.{error_of_block}
use Rattle.block_search.specs.ByKey.{StandsAt, IsMissingAt}
use Rattle.block_search.specs.Standing.{TellsCompressed}
use Rattle.tantivy_sstable.specs.Finding.{TellsPlaceFrom}
use Rattle.tantivy_sstable.proofs.Standing.{found-compressed}

-- what a search in a block tells of the value
pub value-stands : {V : Type 0} (key : Key) (count : ℕ) (value : V) (entries : List (Key × V)) → StandsAt key count value entries → value_at key entries ≡ Some value
value-stands key count value entries s =
    ap (value_at key) s.1.parts ∙ value-passed key s.1.below ((key, value) ∷ s.0) s.1.under ∙ value-this key value s.0

pub value-missing : {V : Type 0} (key : Key) (count : ℕ) (entries : List (Key × V)) → IsMissingAt key count entries → value_at key entries ≡ None
value-missing key count entries s =
    ap (value_at key) s.1.parts ∙ value-passed key s.1.below s.0 s.1.under ∙ value-above key s.0 s.2

pub tells-from : {V : Type 0} (codec : Codec V) (stands : Sliced V) (bytes : List ℕ) (start : ℕ) (error : BlockError) → Begins codec stands (before_bytes bytes start) → TellsCompressed stands error → TellsPlaceFrom start bytes (error_of_block error)
tells-from codec stands bytes start blocks.Memory b tells = tt
tells-from codec stands bytes start blocks.Corrupt b tells = tt
tells-from codec stands bytes start (blocks.Compressed p) b tells =
    let t = tells b.slices b.no_answer in
    let place : stands.walk.place ≡ start = b.fresh.start in
    let there : block_at p (drop (p - start) bytes) ≡ Err (blocks.Compressed p) =
    ap (λ n. block_at p (drop (p - n) bytes)) (sym place) ∙ ap (λ (l : List ℕ). block_at p (drop (p - stands.walk.place) l)) (sym b.fresh.bytes) ∙ t.there in
    let behind : stands.walk.place ≤ p = t.behind in
    (omega (arith, place, behind), (found-compressed p p (drop (p - start) bytes) there).1)
