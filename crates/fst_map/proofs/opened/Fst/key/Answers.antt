use Rattle.std.proofs.Common.{◌≡◌, ◌+◌, ◌*◌, ◌-◌, ℕ, List, length, take, drop, ◌∙◌, ap, sym, arith}
use Rattle.std.specs.Prelude.{slice_range}
use Rattle.owned_bytes.proofs.Pieces.{rest_is}
use Rattle.fst_map.specs.Opened.{end_in, start_in, area_in}
use Rattle.fst_map.proofs.Opening.{shown}
use Rattle.fst_map.proofs.opened.Fst.key.Goals as goal

pub start_at-start-requires : goal.start_at-start-requires
start_at-start-requires c =
    let e = shown c.self.inside.len c.args.i c.self.inside.bytes c.args.self.now c.self.invariant c.self.view_is c.requires in
    omega (arith, e.fits, ap length c.as_slice-bytes.ensures)

pub end_at-end-requires : goal.end_at-end-requires
end_at-end-requires c =
    let e = shown c.self.inside.len c.args.i c.self.inside.bytes c.args.self.now c.self.invariant c.self.view_is c.requires in
    omega (arith, e.fits, ap length c.as_slice-bytes.ensures)

pub slice_bounds-result-count : goal.slice_bounds-result-count
slice_bounds-result-count c =
    let e = shown c.self.inside.len c.args.i c.self.inside.bytes c.args.self.now c.self.invariant c.self.view_is c.requires in
    let start : c.start_at-start.result ≡ start_in c.self.inside.bytes c.args.i = c.start_at-start.ensures ∙ ap (λ (b : List ℕ). start_in b c.args.i) c.as_slice-bytes.ensures in
    let end : c.end_at-end.result ≡ end_in c.self.inside.bytes c.args.i = c.end_at-end.ensures ∙ ap (λ (b : List ℕ). end_in b c.args.i) c.as_slice-bytes.ensures in
    omega (arith, e.ordered, start, end)

pub slice_bounds-result-start : goal.slice_bounds-result-start
slice_bounds-result-start c = slice_bounds-result-count c

pub slice_bounds-result-end : goal.slice_bounds-result-end
slice_bounds-result-end c =
    let e = shown c.self.inside.len c.args.i c.self.inside.bytes c.args.self.now c.self.invariant c.self.view_is c.requires in
    let end : c.end_at-end.result ≡ end_in c.self.inside.bytes c.args.i = c.end_at-end.ensures ∙ ap (λ (b : List ℕ). end_in b c.args.i) c.as_slice-bytes.ensures in
    let area = ap (λ (b : List ℕ). length (take (length b - (8 + 16 * c.self.inside.len)) (drop (8 + 16 * c.self.inside.len) b))) c.as_slice-bytes.ensures ∙ ap length (rest_is (8 + 16 * c.self.inside.len) c.self.inside.bytes) in
    omega (arith, e.within, end, area)

pub returns : goal.returns
returns c =
    let len = c.self.inside.len in
    let e = shown c.self.inside.len c.args.i c.self.inside.bytes c.args.self.now c.self.invariant c.self.view_is c.requires in
    let start : c.start_at-start.result ≡ start_in c.self.inside.bytes c.args.i = c.start_at-start.ensures ∙ ap (λ (b : List ℕ). start_in b c.args.i) c.as_slice-bytes.ensures in
    let end : c.end_at-end.result ≡ end_in c.self.inside.bytes c.args.i = c.end_at-end.ensures ∙ ap (λ (b : List ℕ). end_in b c.args.i) c.as_slice-bytes.ensures in
    ap (λ (b : List ℕ). slice_range (take (length b - (8 + 16 * len)) (drop (8 + 16 * len) b)) c.start_at-start.result c.end_at-end.result) c.as_slice-bytes.ensures
    ∙ ap (λ (area : List ℕ). slice_range area c.start_at-start.result c.end_at-end.result) (rest_is (8 + 16 * len) c.self.inside.bytes)
    ∙ ap (λ s. slice_range (area_in len c.self.inside.bytes) s c.end_at-end.result) start
    ∙ ap (λ t. slice_range (area_in len c.self.inside.bytes) (start_in c.self.inside.bytes c.args.i) t) end
    ∙ sym e.key
