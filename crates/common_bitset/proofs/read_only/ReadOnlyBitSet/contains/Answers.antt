use Rattle.std.proofs.Common.{◌<◌, ◌/◌, ◌%◌, ap, sym, subst, ◌∙◌}
use Rattle.std.specs.FinSet.{contains}
use Rattle.common_bitset.specs.Subset.{stored_word}
use Rattle.common_bitset.specs.Laws.Gathered.{contains_gathered_at}
use Rattle.common_bitset.proofs.read_only.ReadOnlyBitSet.contains.Goals as goal

pub returns : goal.returns
returns c =
    let within = subst (λ s. c.args.el < s.max_value) (sym c.self.view_is) c.requires in
    c.contains.ensures ∙ ap (λ w. contains w (c.args.el % 64)) (c.stored.ensures ∙ ap (λ bs. stored_word bs (c.args.el / 64)) c.as_slice.ensures)
    ∙ contains_gathered_at c.self.inside.max_value (stored_word c.self.inside.words) c.args.el within ∙ ap (λ s. contains s.elements c.args.el) c.self.view_is
