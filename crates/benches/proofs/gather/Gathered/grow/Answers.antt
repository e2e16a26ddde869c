use Rattle.benches.proofs.gather.Gathered.grow.Goals as goal

-- src/gather.rt:59:5
pub returns-in_ok-push-clause-lists : goal.returns-in_ok-push-clause-lists
returns-in_ok-push-clause-lists c = rw c.in_ok-push.ensures.items (c.tenant_laws.ensures.empty c.args.self.now.arena c.args.self.now.lists.items c.default.result c.requires.lists c.default.ensures)
