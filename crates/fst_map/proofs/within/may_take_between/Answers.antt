use Rattle.std.proofs.Common.{◌≡◌, ◌+◌, drop, Some, arith, sym, ◌∙◌, ap}
use Rattle.fst_map.specs.Within.{may_take_apart, may_take_between}
use Rattle.fst_map.proofs.Bytes.{bytes_fit}
use Rattle.fst_map.proofs.TakenWithin.{may_take_within-complete, may_take_within-tight}
use Rattle.fst_map.proofs.Turns.{between-same_byte, between-lower_done, between-upper_done, between-other_byte, apart-rests}
use Rattle.fst_map.proofs.within.may_take_between.Goals as goal
use Rattle.fst_map.proofs.within.may_take_between.Goals.{then-loop-place-test+then-place-upper+else-lower-place, then-loop-place-test+else-place-upper, else-loop-place-test}

pub loop-place-preserved : goal.loop-place-preserved
loop-place-preserved g c =
    let machine = g.A.Automaton.machine c.args.automaton.now in (
      omega arith,
      omega arith,
      ap (λ s. may_take_between machine s (drop (c.loop-place.place + 1) c.args.lower.now) (drop (c.loop-place.place + 1) c.args.upper.now)) c.accept-state.ensures
          ∙ sym (between-same_byte machine c.loop-place.state c.args.lower.now c.args.upper.now c.loop-place.place c.loop-place-test.true c.if-place-upper.true c.if-lower-place.true)
          ∙ c.loop-place.invariant.2,
    )

pub returns : goal.returns
returns g c =
    let machine = g.A.Automaton.machine c.args.automaton.now in
    let lower = c.args.lower.now in
    let upper = c.args.upper.now in
    let parts : may_take_between machine c.loop-place.state (drop c.loop-place.place lower) (drop c.loop-place.place upper) ≡ may_take_apart machine c.loop-place.state (drop c.loop-place.place lower) (drop c.loop-place.place upper) =
    elim c.loop-place-test.branch [
      | then-loop-place-test+then-place-upper+else-lower-place w ↦ between-other_byte machine c.loop-place.state lower upper c.loop-place.place w.loop-place-test.true w.if-place-upper.true w.if-lower-place.false
      | then-loop-place-test+else-place-upper w ↦ between-upper_done machine c.loop-place.state lower upper c.loop-place.place w.if-place-upper.false
      | else-loop-place-test w ↦ between-lower_done machine c.loop-place.state lower upper c.loop-place.place w.loop-place-test.false
    ] in
    let answer : c.may_take_apart.result ≡ may_take_between machine machine.start lower upper =
    c.may_take_apart.ensures ∙ apart-rests machine c.loop-place.state lower upper c.loop-place.place ∙ sym parts ∙ c.loop-place.invariant.2 in
    record {
      answer = answer;
      complete = λ some. answer ∙ may_take_within-complete machine (Some lower) upper (bytes_fit lower c.type_inv.lower) (bytes_fit upper c.type_inv.upper) (g.met.A.Automaton.lawful c.args.automaton.now) some;
      tight = λ is_tight e. may_take_within-tight machine (Some lower) upper (bytes_fit lower c.type_inv.lower) (bytes_fit upper c.type_inv.upper) is_tight (sym answer ∙ e);
    }
