use Rattle.std.proofs.Common.{◌<◌, length, refl, ◌∙◌, arith}
use Rattle.std.proofs.lemmas.List.{take_all}
use Rattle.planner.proofs.Telling.{whole_none, whole_set, calls_set}
use Rattle.planner.proofs.runs.run.Goals as goal

pub loop-turn-init : goal.loop-turn-init
loop-turn-init g c = (whole_none _ _ _ c.new-planner.ensures, refl)

pub loop-turn-preserved : goal.loop-turn-preserved
loop-turn-preserved g c =
    let ts = c.loop-turn.turn-items in
    let i = c.loop-turn.turn-index in
    let h : i < length ts = omega (arith, c.loop-turn.auto.turn-items) in
    (whole_set _ _ _ _ ts i _ h c.loop-turn.invariant.0 c.call-turn.ensures, calls_set ts i _ _ h refl ∙ c.loop-turn.invariant.1)

pub returns : goal.returns
returns g c =
    let j = g.J.Judge in
    let whole = take_all c.loop-turn.turn-index c.loop-turn.turn-items (omega (arith, c.loop-turn.auto.turn-items)) in
    record { law = rw whole at c.loop-turn.invariant.0; calls = c.loop-turn.invariant.1 }
