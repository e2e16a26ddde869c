use Rattle.std.proofs.Common.{◌≤◌, ◌+◌, List, ℕ, length, refl, sym, subst, ap, ◌∙◌, rules, arith, take}
use Rattle.tantivy_stacker.specs.Arena.{put_on_page}
use Rattle.tantivy_stacker.proofs.Pages.{refill-put}
use Rattle.tantivy_stacker.proofs.page.Page.slice_mut.Goals as goal

pub returns : goal.returns
returns c =
    let inside = c.self.inside in
    let same = c.self.view_is in
    let below : c.args.place + c.args.len ≤ length inside.bytes.items = subst (λ (xs : List ℕ). c.args.place + c.args.len ≤ length xs) (sym same) c.requires in (
      (refl, λ w. refill-put inside.bytes.items w c.args.place inside.bytes.len (omega (arith, inside.bytes.ok.0)) (omega arith) ∙ ap (λ (xs : List ℕ). take (length xs) (put_on_page xs c.args.place w)) same),
      record { writes_back = tt; bytes = search rules; len = search rules },
    )
