-- One assumption after the other.
use Rattle.std.proofs.Common.{◌≡◌, ℕ, ◌+◌, ◌<◌, ◌≤◌, Bool, List, length, get_or, drop, ℤ, pos, sym, ap, ◌∙◌}
use Rattle.std.proofs.lemmas.List.{drop_more, drop_all}
use Rattle.std.proofs.lemmas.Bool.{and_parts, and_from}
use Rattle.solver.specs.Setting.{setting, truth, all_true}
use Rattle.values.specs.Partial.{Agrees}
use Rattle.sweeping.specs.Sweeps.{Nowhere}
use Rattle.assuming.specs.Assumed.{MakesTrue, MakesAllTrue, Narrowed}

-- assumptions of which those left are still to become values
pub record Going (ms v w left : List ℤ) : Type 0 where
  pub gives : (b : List Bool) → Agrees w b → MakesAllTrue left b → Agrees v b × MakesAllTrue ms b
  pub keeps : (b : List Bool) → Agrees v b → MakesAllTrue ms b → Agrees w b × MakesAllTrue left b

pub going_start : (ms v : List ℤ) → Going ms v v ms
going_start ms v = record { gives = λ b a g. (a, g); keeps = λ b a g. (a, g) }

all_first : (b : List Bool) (ms : List ℤ) (i : ℕ) (m : ℤ) → i < length ms → m ≡ get_or ms i (pos 0) → MakesAllTrue (drop i ms) b → MakesTrue m b × MakesAllTrue (drop (i + 1) ms) b
unfolding all_true
all_first b ms i m h e g =
    let p = and_parts (truth (setting b) (get_or ms i (pos 0))) (all_true (setting b) (drop (i + 1) ms)) (sym (ap (all_true (setting b)) (drop_more ms i (pos 0) h)) ∙ g) in
    (ap (truth (setting b)) e ∙ p.0, p.1)

all_more : (b : List Bool) (ms : List ℤ) (i : ℕ) (m : ℤ) → i < length ms → m ≡ get_or ms i (pos 0) → MakesTrue m b → MakesAllTrue (drop (i + 1) ms) b → MakesAllTrue (drop i ms) b
unfolding all_true
all_more b ms i m h e t g =
    ap (all_true (setting b)) (drop_more ms i (pos 0) h) ∙ and_from _ _ (sym (ap (truth (setting b)) e) ∙ t) g

module _ (ms v w : List ℤ) (i : ℕ) (m : ℤ) (h : i < length ms) (e : m ≡ get_or ms i (pos 0)) (g : Going ms v w (drop i ms)) where
  pub going_on : (w' : List ℤ) → Narrowed (MakesTrue m) w w' → Going ms v w' (drop (i + 1) ms)
  going_on w' n =
      record {
        gives = λ b a r. let p = n.gives b a in g.gives b p.0 (all_more b ms i m h e p.1 r);
        keeps = λ b a r. let p = g.keeps b a r in let q = all_first b ms i m h e p.1 in (n.keeps b p.0 q.0, q.1);
      }

  pub going_clash : Nowhere (MakesTrue m) w → Nowhere (MakesAllTrue ms) v
  going_clash n b a r = let p = g.keeps b a r in n b p.0 (all_first b ms i m h e p.1).0

pub going_end : (ms v w : List ℤ) (i : ℕ) → length ms ≤ i → Going ms v w (drop i ms) → Narrowed (MakesAllTrue ms) v w
unfolding all_true
going_end ms v w i h g =
    record { gives = λ b a. g.gives b a (ap (all_true (setting b)) (drop_all i ms h)); keeps = λ b a r. (g.keeps b a r).0 }
