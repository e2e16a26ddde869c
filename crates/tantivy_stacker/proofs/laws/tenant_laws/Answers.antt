use Rattle.tantivy_stacker.proofs.Tenants.{none_are_tenants, empty_joins, writes_stay_apart}
use Rattle.tantivy_stacker.proofs.laws.tenant_laws.Goals as goal

pub returns : goal.returns
returns c = record { none = none_are_tenants; empty = empty_joins; writes = writes_stay_apart }
