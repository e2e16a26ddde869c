use Rattle.std.proofs.Common.{refl}
use Rattle.term_search.proofs.Seen.{sees_both}
use Rattle.term_search.proofs.obstacles.Obstacles.or.Goals as goal

pub returns : goal.returns
returns c = λ before after. sees_both c.args.self c.args.others _ c.first_of.ensures refl before after
