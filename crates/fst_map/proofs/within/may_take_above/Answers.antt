use Rattle.std.proofs.Common.{◌≤◌, ◌<◌, ◌+◌, ◌&&◌, length, drop, arith, sym, ◌∙◌, ap}
use Rattle.std.proofs.lemmas.Bool.{and_left}
use Rattle.fst_map.specs.Within.{leads_on, may_take_above}
use Rattle.fst_map.proofs.Turns.{above-end, above-dead, above-found, above-next}
use Rattle.fst_map.proofs.within.may_take_above.Goals as goal

pub returns-then-not-can_match : goal.returns-then-not-can_match
returns-then-not-can_match g c =
    let more : c.loop-byte.byte-index < length c.args.lower.now = omega arith in
    sym (above-dead (g.A.Automaton.machine c.args.automaton.now) c.loop-byte.state c.args.lower.now c.loop-byte.byte-index more (sym c.can_match.ensures ∙ c.if-not-can_match.true)) ∙ c.loop-byte.invariant

pub returns-then-leads_on : goal.returns-then-leads_on
returns-then-leads_on g c =
    let more : c.loop-byte.byte-index < length c.args.lower.now = omega arith in
    sym (above-found (g.A.Automaton.machine c.args.automaton.now) c.loop-byte.state c.args.lower.now c.loop-byte.byte-index more (sym c.can_match.ensures ∙ c.if-not-can_match.false) (sym c.leads_on.ensures ∙ c.if-leads_on.true)) ∙ c.loop-byte.invariant

pub loop-byte-preserved : goal.loop-byte-preserved
loop-byte-preserved g c =
    let machine = g.A.Automaton.machine c.args.automaton.now in
    let more : c.loop-byte.byte-index < length c.args.lower.now = omega arith in
    ap (λ s. may_take_above machine s (drop (c.loop-byte.byte-index + 1) c.args.lower.now)) c.accept-state.ensures
    ∙ sym (above-next machine c.loop-byte.state c.args.lower.now c.loop-byte.byte-index more (sym c.can_match.ensures ∙ c.if-not-can_match.false) (sym c.leads_on.ensures ∙ c.if-leads_on.false)) ∙ c.loop-byte.invariant

pub returns-then-can_match : goal.returns-then-can_match
returns-then-can_match g c =
    let machine = g.A.Automaton.machine c.args.automaton.now in
    let done : length c.args.lower.now ≤ c.loop-byte.byte-index = omega arith in
    c.leads_on-then-can_match.ensures
    ∙ sym (ap (λ t. t && leads_on machine c.loop-byte.state 0 256) (sym c.can_match-2.ensures ∙ c.if-can_match.true))
    ∙ sym (above-end machine c.loop-byte.state c.args.lower.now c.loop-byte.byte-index done) ∙ c.loop-byte.invariant

pub returns-else-can_match : goal.returns-else-can_match
returns-else-can_match g c =
    let machine = g.A.Automaton.machine c.args.automaton.now in
    let done : length c.args.lower.now ≤ c.loop-byte.byte-index = omega arith in
    c.if-can_match.false
    ∙ sym (and_left (machine.can_match c.loop-byte.state) (leads_on machine c.loop-byte.state 0 256) (sym c.can_match-2.ensures ∙ c.if-can_match.false))
    ∙ sym (above-end machine c.loop-byte.state c.args.lower.now c.loop-byte.byte-index done) ∙ c.loop-byte.invariant
