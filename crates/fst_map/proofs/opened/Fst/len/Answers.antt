use Rattle.std.proofs.Common.{List, ℕ, map, ◌∙◌, ap, sym, length}
use Rattle.owned_bytes.specs.Keys.{Key, is_rising}
use Rattle.fst_map.proofs.Opening.{has-entries, map_of-rising}
use Rattle.fst_map.specs.Opened.{entries_of}
use Rattle.fst_map.proofs.opened.Fst.len.Goals as goal

pub returns-clause-count : goal.returns-clause-count
returns-clause-count c = sym (has-entries c.self.inside.len c.self.inside.bytes c.self.invariant).long ∙ ap length c.self.view_is

pub returns-clause-rising : goal.returns-clause-rising
returns-clause-rising c =
    sym (ap (λ (entries : List (Key × ℕ)). is_rising (map (λ (entry : Key × ℕ). entry.0) entries)) c.self.view_is)
    ∙ map_of-rising c.self.inside.bytes (entries_of c.self.inside.bytes) (has-entries c.self.inside.len c.self.inside.bytes c.self.invariant).found
