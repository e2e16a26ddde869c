use Rattle.std.proofs.Common.{◌≡◌, ℕ, ◌++◌, Some, List, ap, ◌∙◌, arith}
use Rattle.std.specs.Int.{w64, to_le_bytes}
use Rattle.owned_bytes.specs.Keys.{Key}
use Rattle.fst_map.proofs.Building.{map_of-after}
use Rattle.fst_map.proofs.map.MapBuilder.into_inner.Goals as goal

pub returns-clause-ok : goal.returns-clause-ok
returns-clause-ok c =
    let first : c.extend_from_slice.new.self.items ≡ to_le_bytes w64 c.self.inside.len =
    c.in_ok-extend_from_slice.ensures.items ∙ ap (λ (l : List ℕ). l ++ c.to_le_bytes.result) c.in_ok-bytes.ensures.items ∙ c.to_le_bytes.ensures in
    let second : c.extend_from_slice-2.new.self.items ≡ to_le_bytes w64 c.self.inside.len ++ c.self.inside.table.items =
    c.in_ok-extend_from_slice-2.ensures.items ∙ ap (λ (l : List ℕ). l ++ c.as_slice.result.now) first ∙ ap (λ (l : List ℕ). to_le_bytes w64 c.self.inside.len ++ l) c.as_slice.ensures.value in
    let third : c.extend_from_slice-3.new.self.items ≡ (to_le_bytes w64 c.self.inside.len ++ c.self.inside.table.items) ++ c.self.inside.keys.items =
    c.in_ok-extend_from_slice-3.ensures.items ∙ ap (λ (l : List ℕ). l ++ c.as_slice-2.result.now) second
    ∙ ap (λ (l : List ℕ). (to_le_bytes w64 c.self.inside.len ++ c.self.inside.table.items) ++ l) c.as_slice-2.ensures.value in
    map_of-after c.self.inside.len c.self.inside.last_start c.self.inside.table.items c.self.inside.keys.items c.extend_from_slice-3.new.self.items c.self.invariant (omega (arith, c.self.invariant.full, c.len.ensures, c.len.type_inv, c.self.inside.table.ok.0)) third
    ∙ ap (λ (entries : List (Key × ℕ)). Some entries) c.self.view_is
