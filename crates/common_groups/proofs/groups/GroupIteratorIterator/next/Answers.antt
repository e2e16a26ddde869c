use Rattle.std.proofs.Common.{◌≡◌, true, refl, rules}
use Rattle.common_groups.proofs.Calls.{Fills-of, taken_call, taken_progress}
use Rattle.common_groups.proofs.groups.GroupIteratorIterator.next.Goals as goal

pub returns-then-eq-clause-steps : goal.returns-then-eq-clause-steps
returns-then-eq-clause-steps g c =
    let same : g.K.PartialEq.eq c.args.self.now.key c.in_ok-key.key ≡ true = search rules in
    let e = c.in_ok-key.ensures in
    let filled = Fills-of {left = g.I.Iterator.remaining} e.can_read e.gives e.keys e.key e.ready e.stays e.kept in
    record { same_reference = refl; key = refl; call = taken_call g.K.PartialEq.eq c.args.self.now.key c.in_ok-key.key _ c.fill.new.self _ _ filled same c.take.ensures.item c.take.ensures.rest }

pub returns-then-eq-clause-goes : goal.returns-then-eq-clause-goes
returns-then-eq-clause-goes g c =
    let same : g.K.PartialEq.eq c.args.self.now.key c.in_ok-key.key ≡ true = search rules in
    let e = c.in_ok-key.ensures in
    let filled = Fills-of {left = g.I.Iterator.remaining} e.can_read e.gives e.keys e.key e.ready e.stays e.kept in
    let p = taken_progress g.K.PartialEq.eq c.args.self.now.key c.in_ok-key.key _ c.fill.new.self _ _ filled same c.take.ensures.item c.take.ensures.rest in
    record { on = p.on; keeps = p.keeps; rests = p.rests }
