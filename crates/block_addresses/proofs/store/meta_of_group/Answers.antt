use Rattle.std.proofs.Common.{ℕ, ◌*◌, List, drop, length-drop, ap, sym, arith}
use Rattle.std.specs.Prelude.{option_map}
use Rattle.sstable_format.specs.Meta.{Meta}
use Rattle.block_addresses.proofs.Metas.{meta_at-short}
use Rattle.block_addresses.proofs.store.meta_of_group.Goals as goal

pub returns-then-k-metas : goal.returns-then-k-metas
returns-then-k-metas c =
    let metas : List ℕ = c.args.metas.now in
    sym (ap (option_map (λ (found : Meta × List ℕ). found.0)) (meta_at-short (drop (36 * c.args.k) metas) (omega (arith, length-drop (36 * c.args.k) metas))))
