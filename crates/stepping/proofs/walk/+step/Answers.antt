use Rattle.std.proofs.Common.{◌≡◌, ◌+◌, ◌<◌, ℕ, length, get_or, true, false, pos, negsuc, sym, refl, ap, ◌∙◌, arith, w16, SFits, to_z, of_z, rules}
use Rattle.std.proofs.lemmas.Int.{to_z-of_z}
use Rattle.sweeping.specs.Trail.{Restored}
use Rattle.sweeping.proofs.Reaching.{self_restored, undone_restored}
use Rattle.deciding.proofs.Trying.{Takes, reached_found, both_lost}
use Rattle.stepping.proofs.Stepping.{not_open, arrived, walked_on, opened_again, left, taken, walked_given}
use Rattle.stepping.proofs.walk.+step.Goals.{Else-assignment-count-ne0, After-undo}
use Rattle.stepping.proofs.walk.+step.Goals as goal

pub returns-then-count-assignment : goal.returns-then-count-assignment
returns-then-count-assignment t c = arrived c.args.assignment.now c.args.count c.requires c.if-not-stands.ensures c.if-count-assignment.true

-- the choice has a value
pub step-requires : goal.step-requires
step-requires t c =
    let v = c.args.assignment.now.values.now in
    let k : c.args.count < length v = omega (arith, c.requires.low, c.if-count-assignment.false) in
    let o = not_open (get_or v c.args.count (pos 0)) (λ e. c.if-assignment-count-ne0.true (ap (of_z w16) e)) in
    (search rules, walked_on c.args.assignment.now c.args.count c.requires c.if-not-stands.ensures k o)

-- it is open
here : (t : ℕ) (c : goal.Else-assignment-count-ne0 t) → (c.args.count < length c.args.assignment.now.values.now) × (get_or c.args.assignment.now.values.now c.args.count (pos 0) ≡ pos 0)
here t c =
    let z = get_or c.args.assignment.now.values.now c.args.count (pos 0) in
    let f : SFits w16 z = search rules in
    (omega (arith, c.requires.low, c.if-count-assignment.false), sym (to_z-of_z w16 z f) ∙ ap (to_z w16) c.if-assignment-count-ne0.false)

pub step-requires-2 : goal.step-requires-2
step-requires-2 t c =
    let a = c.args.assignment.now in
    let p = here t (goal.at.step-requires-2 t c).Else-assignment-count-ne0 in
    (search rules, walked_given a c.args.count c.requires c.if-not-stands.ensures p.0 p.1 a c.set.new.self (negsuc 0) (self_restored a) refl c.set.ensures)

pub returns-then-step : goal.returns-then-step
returns-then-step t c =
    let a = c.args.assignment.now in
    let p = here t (goal.at.returns-then-step t c).Else-assignment-count-ne0 in
    reached_found (Takes (pos (c.args.count + 1)) false) a c.set.new.self (left a c.args.count c.requires c.if-not-stands.ensures p.0 p.1 c.set.new.self c.set.ensures) c.step-2.new.assignment c.if-step.ensures

back : (t : ℕ) (c : goal.After-undo t) → (c.args.count < length c.args.assignment.now.values.now) × (get_or c.args.assignment.now.values.now c.args.count (pos 0) ≡ pos 0)
    → Restored c.args.assignment.now c.undo.new.self
back t c p =
    let a = c.args.assignment.now in
    undone_restored (Takes (pos (c.args.count + 1)) false) a c.set.new.self c.step-2.new.assignment c.undo.new.self
    (left a c.args.count c.requires c.if-not-stands.ensures p.0 p.1 c.set.new.self c.set.ensures) c.if-step.ensures.restored c.undo.ensures

pub set-requires-2-clause-opened : goal.set-requires-2-clause-opened
set-requires-2-clause-opened t c =
    let p = here t (goal.at.set-requires-2-clause-opened t c).Else-assignment-count-ne0 in
    let q = back t (goal.at.set-requires-2-clause-opened t c).After-undo p in
    opened_again c.args.assignment.now c.args.count c.requires c.if-not-stands.ensures p.0 p.1 c.undo.new.self q

pub step-requires-3 : goal.step-requires-3
step-requires-3 t c =
    let p = here t (goal.at.step-requires-3 t c).Else-assignment-count-ne0 in
    let q = back t (goal.at.step-requires-3 t c).After-undo p in
    let w = walked_given c.args.assignment.now c.args.count c.requires c.if-not-stands.ensures p.0 p.1 c.undo.new.self c.set-2.new.self (pos 1) q refl c.set-2.ensures in
    let l = q.same.choices in
    (search rules, w)

pub returns-then-step-2 : goal.returns-then-step-2
returns-then-step-2 t c =
    let a = c.args.assignment.now in
    let p = here t (goal.at.returns-then-step-2 t c).Else-assignment-count-ne0 in
    let q = back t (goal.at.returns-then-step-2 t c).After-undo p in
    reached_found (Takes (pos (c.args.count + 1)) true) a c.set-2.new.self
    (taken a c.args.count c.requires c.if-not-stands.ensures p.0 p.1 c.undo.new.self c.set-2.new.self q c.set-2.ensures) c.step-3.new.assignment c.if-step-2.ensures

pub returns : goal.returns
returns t c =
    let a = c.args.assignment.now in
    let m = pos (c.args.count + 1) in
    let p = here t (goal.at.returns t c).Else-assignment-count-ne0 in
    let q = back t (goal.at.returns t c).After-undo p in
    let l = left a c.args.count c.requires c.if-not-stands.ensures p.0 p.1 c.set.new.self c.set.ensures in
    let r = taken a c.args.count c.requires c.if-not-stands.ensures p.0 p.1 c.undo.new.self c.set-2.new.self q c.set-2.ensures in
    both_lost a c.set-2.new.self c.set.new.self c.undo-2.new.self m r c.if-step-2.ensures.none l c.if-step.ensures.none
    (undone_restored (Takes m true) a c.set-2.new.self c.step-3.new.assignment c.undo-2.new.self r c.if-step-2.ensures.restored c.undo-2.ensures)
