use Rattle.std.proofs.Common.{◌≡◌, ◌+◌, ◌||◌, true, false, sym, ◌∙◌, ap}
use Rattle.std.proofs.lemmas.Bool.{or_left, or_right, or_from, le-ltb}
use Rattle.fst_map.specs.Within.{leads_on, may_take_up_to, may_take_above}
use Rattle.fst_map.proofs.Turns.{apart-no_upper, apart-dead, apart-first_found, apart-first_next, apart-crossed, apart-both_found, apart-both_next}
use Rattle.fst_map.proofs.within.may_take_apart.Goals as goal
use Rattle.fst_map.proofs.within.may_take_apart.Goals.{then-leads_on-2, else-leads_on-2}

pub returns-in_default : goal.returns-in_default
returns-in_default g c = sym (apart-no_upper (g.A.Automaton.machine c.args.automaton.now) c.args.state.now c.args.lower.now c.args.upper.now c.in_default.ensures.cases)

pub returns-then-not-can_match : goal.returns-then-not-can_match
returns-then-not-can_match g c =
    sym (apart-dead (g.A.Automaton.machine c.args.automaton.now) c.args.state.now c.args.lower.now c.args.upper.now c.in-Some.end.now c.in-Some.after_end.now c.in-Some.ensures.cases.0 (sym c.can_match.ensures ∙ c.if-not-can_match.true))

pub returns-then-leads_on : goal.returns-then-leads_on
returns-then-leads_on g c =
    c.if-leads_on.true
    ∙ sym (apart-first_found (g.A.Automaton.machine c.args.automaton.now) c.args.state.now c.args.lower.now c.args.upper.now c.in-Some.end.now c.in-Some.after_end.now
    c.in_default-split_first.ensures.cases c.in-Some.ensures.cases.0 (sym c.can_match.ensures ∙ c.if-not-can_match.false) (sym c.leads_on.ensures ∙ c.if-leads_on.true))

pub returns-else-leads_on : goal.returns-else-leads_on
returns-else-leads_on g c =
    let machine = g.A.Automaton.machine c.args.automaton.now in
    c.may_take_up_to.ensures ∙ ap (λ s. may_take_up_to machine s c.in-Some.after_end.now) c.accept.ensures
    ∙ sym (apart-first_next machine c.args.state.now c.args.lower.now c.args.upper.now c.in-Some.end.now c.in-Some.after_end.now
    c.in_default-split_first.ensures.cases c.in-Some.ensures.cases.0 (sym c.can_match.ensures ∙ c.if-not-can_match.false) (sym c.leads_on.ensures ∙ c.if-leads_on.false))

pub returns-then-may_take_above : goal.returns-then-may_take_above
returns-then-may_take_above g c =
    let machine = g.A.Automaton.machine c.args.automaton.now in
    let between = leads_on machine c.args.state.now (c.in-Some-split_first.first.now + 1) c.in-Some.end.now in
    let above = may_take_above machine (machine.accept c.args.state.now c.in-Some-split_first.first.now) c.in-Some-split_first.after_first.now in
    let some : (between || above) ≡ true = elim c.if-leads_on-2.branch [
      | then-leads_on-2 w ↦ or_left between above (sym c.leads_on-then-first-end.ensures ∙ w.if-leads_on-2.true)
      | else-leads_on-2 w ↦ or_right between above
          (sym (w.may_take_above.ensures ∙ ap (λ s. may_take_above machine s c.in-Some-split_first.after_first.now) w.accept-else-leads_on-2.ensures) ∙ sym w.value-is ∙ c.if-may_take_above.true)
    ] in
    c.if-may_take_above.true
    ∙ sym (apart-both_found machine c.args.state.now c.args.lower.now c.args.upper.now c.in-Some-split_first.first.now c.in-Some.end.now c.in-Some-split_first.after_first.now c.in-Some.after_end.now
    c.in-Some-split_first.ensures.cases.0 c.in-Some.ensures.cases.0 (sym c.can_match.ensures ∙ c.if-not-can_match.false) c.if-first-end.true some)

pub returns-else-may_take_above : goal.returns-else-may_take_above
returns-else-may_take_above g c =
    let machine = g.A.Automaton.machine c.args.automaton.now in
    let between = leads_on machine c.args.state.now (c.in-Some-split_first.first.now + 1) c.in-Some.end.now in
    let above = may_take_above machine (machine.accept c.args.state.now c.in-Some-split_first.first.now) c.in-Some-split_first.after_first.now in
    let none : (between || above) ≡ false = elim c.if-leads_on-2.branch [
      | then-leads_on-2 w ↦ absurd cc
      | else-leads_on-2 w ↦ or_from between above (sym c.leads_on-then-first-end.ensures ∙ w.if-leads_on-2.false)
          (sym (w.may_take_above.ensures ∙ ap (λ s. may_take_above machine s c.in-Some-split_first.after_first.now) w.accept-else-leads_on-2.ensures) ∙ sym w.value-is ∙ c.if-may_take_above.false)
    ] in
    c.may_take_up_to-else-may_take_above.ensures ∙ ap (λ s. may_take_up_to machine s c.in-Some.after_end.now) c.accept-else-may_take_above.ensures
    ∙ sym (apart-both_next machine c.args.state.now c.args.lower.now c.args.upper.now c.in-Some-split_first.first.now c.in-Some.end.now c.in-Some-split_first.after_first.now c.in-Some.after_end.now
    c.in-Some-split_first.ensures.cases.0 c.in-Some.ensures.cases.0 (sym c.can_match.ensures ∙ c.if-not-can_match.false) c.if-first-end.true none)

pub returns-else-first-end : goal.returns-else-first-end
returns-else-first-end g c =
    le-ltb c.in-Some-split_first.first.now c.in-Some.end.now c.if-first-end.false
    ∙ sym (apart-crossed (g.A.Automaton.machine c.args.automaton.now) c.args.state.now c.args.lower.now c.args.upper.now c.in-Some-split_first.first.now c.in-Some.end.now c.in-Some-split_first.after_first.now c.in-Some.after_end.now
    c.in-Some-split_first.ensures.cases.0 c.in-Some.ensures.cases.0 c.if-first-end.false)
