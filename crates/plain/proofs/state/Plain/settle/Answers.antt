use Rattle.std.proofs.Common.{List, sym, subst}
use Rattle.propagation.specs.declared.rule.Rule.{Rule}
use Rattle.propagation.specs.Held.{Met}
use Rattle.pricing.specs.Bounds.{Affordable}
use Rattle.plain.specs.Held.{pair_of}
use Rattle.plain.specs.Asked.{query}
use Rattle.plain.specs.Search.{Fitting}
use Rattle.plain.proofs.Searching.{narrow_for}
use Rattle.plain.proofs.state.Plain.settle.Goals as goal

pub returns-in_err-within_a : goal.returns-in_err-within_a
returns-in_err-within_a g c =
    let q = query (pair_of g.A.Scale.places g.B.Scale.places) c.args.self.now c.args.a c.args.b in
    let rs = c.as_slice.result.now in
    let s = c.in_ok-swept.ensures in
    let n = narrow_for (Fitting q) (Met rs) c.args.at c.loop-swept.here c.in_ok-swept.swept (λ w f. subst (λ (x : List Rule). Met x w) (sym c.as_slice.ensures.value) f.met) c.loop-swept.invariant s.0 in
    rw c.from_residual-in_err-within_a.ensures (λ w a f. c.in_err-within_a.ensures w (n.keeps w a f) f.within_a)

pub returns-in_err-next : goal.returns-in_err-next
returns-in_err-next g c =
    let q = query (pair_of g.A.Scale.places g.B.Scale.places) c.args.self.now c.args.a c.args.b in
    let rs = c.as_slice.result.now in
    let s = c.in_ok-swept.ensures in
    let n = narrow_for (Fitting q) (Met rs) c.args.at c.loop-swept.here c.in_ok-swept.swept (λ w f. subst (λ (x : List Rule). Met x w) (sym c.as_slice.ensures.value) f.met) c.loop-swept.invariant s.0 in
    let m = narrow_for (Fitting q) (Affordable q.scales.a q.prices_a c.args.a) c.args.at c.in_ok-swept.swept c.in_ok-within_a.within_a (λ w f. f.within_a) n c.in_ok-within_a.ensures.0 in
    rw c.from_residual-in_err-next.ensures (λ w a f. c.in_err-next.ensures w (m.keeps w a f) f.within_b)

pub loop-swept-preserved : goal.loop-swept-preserved
loop-swept-preserved g c =
    let q = query (pair_of g.A.Scale.places g.B.Scale.places) c.args.self.now c.args.a c.args.b in
    let rs = c.as_slice.result.now in
    let s = c.in_ok-swept.ensures in
    let n = narrow_for (Fitting q) (Met rs) c.args.at c.loop-swept.here c.in_ok-swept.swept (λ w f. subst (λ (x : List Rule). Met x w) (sym c.as_slice.ensures.value) f.met) c.loop-swept.invariant s.0 in
    let m = narrow_for (Fitting q) (Affordable q.scales.a q.prices_a c.args.a) c.args.at c.in_ok-swept.swept c.in_ok-within_a.within_a (λ w f. f.within_a) n c.in_ok-within_a.ensures.0 in
    narrow_for (Fitting q) (Affordable q.scales.b q.prices_b c.args.b) c.args.at c.in_ok-within_a.within_a c.in_ok-next.next (λ w f. f.within_b) m c.in_ok-next.ensures.0
