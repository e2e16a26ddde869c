-- Nothing was taken, and no count has changed.
use Rattle.std.proofs.Common.{◌≡◌}
use Rattle.std.specs.Io.KnownBytes.{Keeps}
use Rattle.owned_bytes.proofs.standard.StdSourceSource.read.Given as goal

abbrev pub invariant-loop : goal.invariant-loop
invariant-loop g l = record {
  kept : Keeps (g.R.Read.remaining l.initial.self.inner) (g.R.Read.remaining l.self.inner);
  taken : l.self.taken ≡ l.initial.self.taken;
  same : l.self.faults ≡ l.initial.self.faults;
}
