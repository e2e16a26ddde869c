use Rattle.std.proofs.Common.{◌≤◌, ◌<◌, arith, sym, ◌∙◌, ap}
use Rattle.fst_map.proofs.Turns.{leads_on-none, leads_on-found, leads_on-next}
use Rattle.fst_map.proofs.within.leads_on.Goals as goal

pub returns-then-can_match : goal.returns-then-can_match
returns-then-can_match g c =
    let machine = g.A.Automaton.machine c.args.automaton.now in
    let more : c.loop-byte.byte < c.args.end = omega arith in
    sym (leads_on-found machine c.args.state.now c.loop-byte.byte c.args.end more (sym (ap machine.can_match c.accept.ensures) ∙ sym c.can_match.ensures ∙ c.if-can_match.true)) ∙ c.loop-byte.invariant

pub loop-byte-preserved : goal.loop-byte-preserved
loop-byte-preserved g c =
    let machine = g.A.Automaton.machine c.args.automaton.now in
    let more : c.loop-byte.byte < c.args.end = omega arith in
    sym (leads_on-next machine c.args.state.now c.loop-byte.byte c.args.end more (sym (ap machine.can_match c.accept.ensures) ∙ sym c.can_match.ensures ∙ c.if-can_match.false)) ∙ c.loop-byte.invariant

pub returns : goal.returns
returns g c =
    let done : c.args.end ≤ c.loop-byte.byte = omega arith in
    sym (leads_on-none (g.A.Automaton.machine c.args.automaton.now) c.args.state.now c.loop-byte.byte c.args.end done) ∙ c.loop-byte.invariant
