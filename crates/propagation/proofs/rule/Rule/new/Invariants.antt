use Rattle.std.proofs.Common.{◌≡◌, length, take}
use Rattle.propagation.specs.Masks.{ups_of, downs_of}
use Rattle.propagation.proofs.rule.Rule.new.Given as goal

abbrev pub invariant-loop-i : goal.invariant-loop-i
invariant-loop-i l =
    (length l.held ≡ 8) × (take l.i l.held ≡ take l.i l.marks)
    × (l.sides.ups ≡ ups_of (take l.i l.marks)) × (l.sides.downs ≡ downs_of (take l.i l.marks))
