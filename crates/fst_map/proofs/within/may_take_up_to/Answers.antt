use Rattle.std.proofs.Common.{◌≤◌, ◌<◌, ◌+◌, length, drop, get_or, arith, sym, ◌∙◌, ap}
use Rattle.std.proofs.lemmas.Bool.{or_left, or_right, or_from}
use Rattle.fst_map.specs.Within.{leads_on, may_take_up_to}
use Rattle.fst_map.proofs.Turns.{up_to-end, up_to-dead, up_to-found, up_to-next}
use Rattle.fst_map.proofs.within.may_take_up_to.Goals as goal
use Rattle.fst_map.proofs.within.may_take_up_to.Goals.{then-is_match-via-then-is_match, then-is_match-via-else-is_match+then-leads_on}

pub returns-then-not-can_match : goal.returns-then-not-can_match
returns-then-not-can_match g c =
    let more : c.loop-byte.byte-index < length c.args.upper.now = omega arith in
    sym (up_to-dead (g.A.Automaton.machine c.args.automaton.now) c.loop-byte.state c.args.upper.now c.loop-byte.byte-index more (sym c.can_match.ensures ∙ c.if-not-can_match.true)) ∙ c.loop-byte.invariant

pub returns-then-is_match : goal.returns-then-is_match
returns-then-is_match g c =
    let machine = g.A.Automaton.machine c.args.automaton.now in
    let here = leads_on machine c.loop-byte.state 0 (get_or c.args.upper.now c.loop-byte.byte-index 0) in
    let more : c.loop-byte.byte-index < length c.args.upper.now = omega arith in
    elim c.then-is_match.branch [
      | then-is_match-via-then-is_match w ↦
          sym (up_to-found machine c.loop-byte.state c.args.upper.now c.loop-byte.byte-index more (sym c.can_match.ensures ∙ c.if-not-can_match.false)
          (or_left (machine.is_match c.loop-byte.state) here (sym c.is_match.ensures ∙ w.if-is_match.true))) ∙ c.loop-byte.invariant
      | then-is_match-via-else-is_match+then-leads_on w ↦
          sym (up_to-found machine c.loop-byte.state c.args.upper.now c.loop-byte.byte-index more (sym c.can_match.ensures ∙ c.if-not-can_match.false)
          (or_right (machine.is_match c.loop-byte.state) here (sym w.leads_on.ensures ∙ w.if-leads_on.true))) ∙ c.loop-byte.invariant
    ]

pub loop-byte-preserved : goal.loop-byte-preserved
loop-byte-preserved g c =
    let machine = g.A.Automaton.machine c.args.automaton.now in
    let here = leads_on machine c.loop-byte.state 0 (get_or c.args.upper.now c.loop-byte.byte-index 0) in
    let more : c.loop-byte.byte-index < length c.args.upper.now = omega arith in
    ap (λ s. may_take_up_to machine s (drop (c.loop-byte.byte-index + 1) c.args.upper.now)) c.accept-state.ensures
    ∙ sym (up_to-next machine c.loop-byte.state c.args.upper.now c.loop-byte.byte-index more (sym c.can_match.ensures ∙ c.if-not-can_match.false)
    (or_from (machine.is_match c.loop-byte.state) here (sym c.is_match.ensures ∙ c.if-is_match.false) (sym c.leads_on.ensures ∙ c.if-leads_on.false))) ∙ c.loop-byte.invariant

pub returns : goal.returns
returns g c =
    let done : length c.args.upper.now ≤ c.loop-byte.byte-index = omega arith in
    c.is_match-2.ensures ∙ sym (up_to-end (g.A.Automaton.machine c.args.automaton.now) c.loop-byte.state c.args.upper.now c.loop-byte.byte-index done) ∙ c.loop-byte.invariant
