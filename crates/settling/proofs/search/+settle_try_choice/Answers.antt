use Rattle.std.proofs.Common.{◌≡◌, ℕ, suc, true, false, arith, subst, w16, SFits, rules}
use Rattle.std.proofs.lemmas.Int.{to_z-of_z}
use Rattle.values.specs.Partial.{opens}
use Rattle.sweeping.specs.Trail.{values_in, clauses_at, Meets, Undone, Reached, Restored}
use Rattle.sweeping.specs.Sweeps.{Nowhere}
use Rattle.sweeping.proofs.Reaching.{self_restored, undone_restored}
use Rattle.deciding.proofs.Trying.{reached_found, restored_open, Takes, tried_true, tried_false, both_lost, settled_lost}
use Rattle.settling.proofs.search.+settle_try_choice.Goals.{settle-in-Ok-Some+else-try_choice, settle-in-Err, try_choice-After-set, try_choice-After-value_against, try_choice-After-set-2}
use Rattle.settling.proofs.search.+settle_try_choice.Goals as goal

pub settle-returns-then-try_choice : goal.settle-returns-then-try_choice
settle-returns-then-try_choice t c =
    reached_found (Meets (clauses_at c.args.assignment.now)) c.args.assignment.now c.propagate.new.self c.in-Ok-Some.ensures.0 c.try_choice.new.assignment c.if-try_choice.ensures

pub settle-returns : goal.settle-returns
settle-returns t c =
    let a = c.args.assignment.now in
    let s = c.propagate.new.self in
    elim c.match-propagate.branch [
      | settle-in-Ok-Some+else-try_choice w ↦
          let p = w.in-Ok-Some.ensures.0 in
          let u : Undone w.try_choice.new.assignment a.top c.undo.new.self = rw w.assignment-is at c.undo.ensures in
          settled_lost a s w.try_choice.new.assignment c.undo.new.self p w.if-try_choice.ensures.restored
          (subst (λ cs. Nowhere (Meets cs) (values_in s)) p.same.clauses w.if-try_choice.ensures.none) u
      | settle-in-Err w ↦
          let u : Undone s a.top c.undo.new.self = rw w.assignment-is at c.undo.ensures in
          settled_lost a s s c.undo.new.self w.in-Err.ensures.0 (self_restored s) w.in-Err.ensures.1 u
    ]

-- the mark made true
first : (t : ℕ) (c : goal.try_choice-After-set t) → Reached (Takes c.args.mark true) c.args.assignment.now c.set.new.self
first t c =
    let h : SFits w16 c.value_for.result = search rules in
    tried_true c.args.assignment.now c.set.new.self c.args.mark c.value_for.result c.requires c.ranges.mark h c.value_for.ensures c.set.ensures

-- that undone
back : (t : ℕ) (c : goal.try_choice-After-value_against t) → Restored c.args.assignment.now c.undo.new.self
back t c =
    undone_restored (Takes c.args.mark true) c.args.assignment.now c.set.new.self c.settle.new.assignment c.undo.new.self
    (first t (goal.at.try_choice-set-requires-2-clause-opened t c).After-set) c.if-settle.ensures.restored c.undo.ensures

-- the mark made false
second : (t : ℕ) (c : goal.try_choice-After-set-2 t) → Restored c.args.assignment.now c.undo.new.self → Reached (Takes c.args.mark false) c.args.assignment.now c.set-2.new.self
second t c q =
    let h : SFits w16 c.value_against.result = search rules in
    tried_false c.args.assignment.now c.undo.new.self c.set-2.new.self c.args.mark c.value_against.result q c.requires c.ranges.mark h c.value_against.ensures c.set-2.ensures

pub try_choice-settle-requires : goal.try_choice-settle-requires
try_choice-settle-requires t c =
    let p = first t (goal.at.try_choice-settle-requires t c).After-set in
    let k : suc (opens c.set.new.self.values.now) ≡ opens c.args.assignment.now.values.now = omega (arith, p.count, c.set.ensures.top) in
    search rules

pub try_choice-returns-then-settle : goal.try_choice-returns-then-settle
try_choice-returns-then-settle t c =
    reached_found (Takes c.args.mark true) c.args.assignment.now c.set.new.self (first t (goal.at.try_choice-returns-then-settle t c).After-set) c.settle.new.assignment c.if-settle.ensures

pub try_choice-set-requires-2-clause-opened : goal.try_choice-set-requires-2-clause-opened
try_choice-set-requires-2-clause-opened t c = rw (to_z-of_z w16 c.args.mark c.ranges.mark) (restored_open c.args.assignment.now c.undo.new.self c.args.mark (back t c) c.requires)

pub try_choice-settle-requires-2 : goal.try_choice-settle-requires-2
try_choice-settle-requires-2 t c =
    let p = second t (goal.at.try_choice-settle-requires-2 t c).After-set-2 (back t (goal.at.try_choice-settle-requires-2 t c).After-value_against) in
    let k : suc (opens c.set-2.new.self.values.now) ≡ opens c.args.assignment.now.values.now = omega (arith, p.count, c.undo.ensures.top, c.set-2.ensures.top) in
    search rules

pub try_choice-returns-then-settle-2 : goal.try_choice-returns-then-settle-2
try_choice-returns-then-settle-2 t c =
    reached_found (Takes c.args.mark false) c.args.assignment.now c.set-2.new.self (second t (goal.at.try_choice-returns-then-settle-2 t c).After-set-2 (back t (goal.at.try_choice-returns-then-settle-2 t c).After-value_against)) c.settle-2.new.assignment c.if-settle-2.ensures

pub try_choice-returns : goal.try_choice-returns
try_choice-returns t c =
    let a = c.args.assignment.now in
    let p = first t (goal.at.try_choice-returns t c).After-set in
    let p' = second t (goal.at.try_choice-returns t c).After-set-2 (back t (goal.at.try_choice-returns t c).After-value_against) in
    both_lost a c.set.new.self c.set-2.new.self c.undo-2.new.self c.args.mark p c.if-settle.ensures.none p' c.if-settle-2.ensures.none
    (undone_restored (Takes c.args.mark false) a c.set-2.new.self c.settle-2.new.assignment c.undo-2.new.self p' c.if-settle-2.ensures.restored c.undo-2.ensures)
