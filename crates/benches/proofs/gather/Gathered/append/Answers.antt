use Rattle.std.proofs.Common.{rules, ◌≡◌, slice_index_or}
use Rattle.benches.proofs.gather.Gathered.append.Goals as goal

pub returns-in_err-append-clause-lists : goal.returns-in_err-append-clause-lists
returns-in_err-append-clause-lists c =
    let there : slice_index_or c.args.self.now.lists.items c.args.place c.index_mut.result.now ≡ c.index_mut.result.now = search rules in
    (c.tenant_laws.ensures.writes c.args.self.now.arena c.append.new.arena c.args.self.now.lists.items c.args.place c.index_mut.result.now c.append.new.self (search rules) c.requires.lists (rw there c.append.ensures.write)).0

pub returns-in_ok-append-clause-lists : goal.returns-in_ok-append-clause-lists
returns-in_ok-append-clause-lists c =
    let there : slice_index_or c.args.self.now.lists.items c.args.place c.index_mut.result.now ≡ c.index_mut.result.now = search rules in
    (c.tenant_laws.ensures.writes c.args.self.now.arena c.append.new.arena c.args.self.now.lists.items c.args.place c.index_mut.result.now c.append.new.self (search rules) c.requires.lists (rw there c.append.ensures.write)).0
