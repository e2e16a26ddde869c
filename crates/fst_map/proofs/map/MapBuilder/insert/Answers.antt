use Rattle.std.proofs.Common.{◌≡◌, ℕ, ◌∷◌, [], ◌++◌, true, List, ap, sym, ◌∙◌, arith}
use Rattle.owned_bytes.specs.Keys.{Key}
use Rattle.fst_map.specs.Map.{last_key, may_follow}
use Rattle.fst_map.specs.Built.{built}
use Rattle.fst_map.proofs.Building.{IsBuilt-after, built-after, ok-at}
use Rattle.fst_map.proofs.map.MapBuilder.insert.Goals as goal

pub invariant_of-self-2 : goal.invariant_of-self-2
invariant_of-self-2 c =
    let after : may_follow (last_key (built c.self.inside.len c.self.inside.table.items c.self.inside.keys.items)) c.args.key.now ≡ true =
    ap (λ (entries : List (Key × ℕ)). may_follow (last_key entries) c.args.key.now) c.self.view_is ∙ sym c.accepts.ensures ∙ c.if-not-accepts.false in
    IsBuilt-after c.self.inside.len c.self.inside.last_start c.len-start.result c.len.result c.args.value c.self.inside.table.items c.self.inside.keys.items c.push_entry.new.table.items c.extend_from_slice.new.self.items c.args.key.now
    c.self.invariant after c.in_ok-extend_from_slice.ensures.items (ok-at c.push_entry.result _ c.push_entry.ensures.ok (sym c.if-is_err.ensures.value))
    (omega (arith, c.self.inside.keys.ok.0)) (omega (arith, c.extend_from_slice.new.self.ok.0)) (omega (arith, c.len.type_inv)) (omega (arith, c.ranges.value.fits))

pub returns-clause-ok : goal.returns-clause-ok
returns-clause-ok c =
    built-after c.self.inside.len c.self.inside.last_start c.len.result c.args.value c.self.inside.table.items c.self.inside.keys.items c.push_entry.new.table.items c.extend_from_slice.new.self.items c.args.key.now
    c.self.invariant c.in_ok-extend_from_slice.ensures.items (ok-at c.push_entry.result _ c.push_entry.ensures.ok (sym c.if-is_err.ensures.value))
    (omega (arith, c.extend_from_slice.new.self.ok.0)) (omega (arith, c.len.type_inv)) (omega (arith, c.ranges.value.fits))
    ∙ ap (λ (entries : List (Key × ℕ)). entries ++ (c.args.key.now, c.args.value) ∷ []) c.self.view_is
