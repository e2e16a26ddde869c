use Rattle.std.proofs.Common.{◌+◌, ◌*◌, ℕ, List, length, ◌∙◌, ap, sym, arith}
use Rattle.fst_map.specs.Opened.{number_in}
use Rattle.fst_map.proofs.Opening.{shown}
use Rattle.fst_map.proofs.opened.Fst.value.Goals as goal

pub overflow_mul-i : goal.overflow_mul-i
overflow_mul-i c =
    let e = shown c.self.inside.len c.args.i c.self.inside.bytes c.args.self.now c.self.invariant c.self.view_is c.requires in
    omega (arith, e.fits, ap length c.as_slice-bytes.ensures, c.as_slice-bytes.type_inv.0)

pub overflow_add-i : goal.overflow_add-i
overflow_add-i c =
    let e = shown c.self.inside.len c.args.i c.self.inside.bytes c.args.self.now c.self.invariant c.self.view_is c.requires in
    omega (arith, e.fits, ap length c.as_slice-bytes.ensures, c.as_slice-bytes.type_inv.0)

pub number_at-requires : goal.number_at-requires
number_at-requires c =
    let e = shown c.self.inside.len c.args.i c.self.inside.bytes c.args.self.now c.self.invariant c.self.view_is c.requires in
    omega (arith, e.fits, ap length c.as_slice-bytes.ensures)

pub returns : goal.returns
returns c =
    let e = shown c.self.inside.len c.args.i c.self.inside.bytes c.args.self.now c.self.invariant c.self.view_is c.requires in
    c.number_at.ensures ∙ ap (λ (b : List ℕ). number_in b (16 + 16 * c.args.i)) c.as_slice-bytes.ensures ∙ sym e.value
