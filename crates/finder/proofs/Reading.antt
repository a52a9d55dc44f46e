-- The held setting, read into a word bit by bit.
use Rattle.std.proofs.Common.{◌≡◌, ℕ, ◌+◌, ◌-◌, ◌*◌, ◌%◌, ◌^◌, ◌<◌, ◌≤◌, Bool, true, false, cond, not, ◌||◌, eqb, ltb, leb, ◌⊎◌, List, Some, None, Ok, Result, sym, refl, ap, ◌∙◌, subst, inl, inr, mod-eq_of_lt, arith}
use native.Mathlib.Nat.{div-eq_of_lt}
use lib.Bits.{bit_or, or_lt}
use lib.Pow.{pow-lt}
use Rattle.std.proofs.lemmas.Bool.{and_from, lt-ltb, le-leb, cases_eq}
use Rattle.bits.specs.Bit.{bit}
use Rattle.bits.proofs.OfBits.{bit_of_or, power_same, power_other}
use Rattle.design.specs.Fault.{refused_or}
use Rattle.design.specs.declared.fault.SolverFault.{SolverFault}
use Rattle.design.specs.declared.fault.SolverFault.TheVariants.{BadMark}
use Rattle.solver.specs.Setting.{setting}
use Rattle.solver.specs.State.{Solving}
use Rattle.solver.specs.Calls.{taken_answer}
use Rattle.totalizer.specs.Encoding.{Agree}

-- a choice of the solver's is told of
pub told : (v : Solving) (n : ℕ) → 1 ≤ n → n ≤ v.choices → taken_answer v n ≡ Ok (setting v.held n)
told v n a b =
    ap (λ (x : Bool). refused_or (cond (not x) (Some BadMark) None) (setting v.held n)) (and_from (ltb 0 n) (leb n v.choices) (lt-ltb 0 n a) (le-leb n v.choices b))

-- no bit of a word stands where it does not reach
no_bit : (w i : ℕ) → w < 2 ^ i → bit w i ≡ false
unfolding bit
no_bit w i h = ap (λ (x : ℕ). eqb (x % 2) 1) (div-eq_of_lt h)

pub read_none : (h : List Bool) → Agree 0 0 h
read_none h k a b = absurd (omega arith)

one_more : (i : ℕ) (h : List Bool) (w w' : ℕ) → ((k : ℕ) → k < i → bit w' k ≡ bit w k) → bit w' i ≡ setting h (i + 1) → Agree i w h → Agree (i + 1) w' h
one_more i h w w' e f a k p q = by (cases_eq k (i + 1))
  where
    by : (k ≡ i + 1) ⊎ (k ≡ i + 1 → ⊥) → bit w' (k - 1) ≡ setting h k
    by (inl c) = let d : k - 1 ≡ i = omega arith in ap (bit w') d ∙ f ∙ ap (setting h) (sym c)
    by (inr c) = e (k - 1) (omega arith) ∙ a k p (omega arith)

or_true : (x : Bool) → (x || true) ≡ true
or_true true = refl
or_true false = refl

or_false : (x : Bool) → (x || false) ≡ x
or_false true = refl
or_false false = refl

longer : (w i : ℕ) → w < 2 ^ i → w < 2 ^ (i + 1)
longer w i h = let p = pow-lt {i = i} {j = i + 1} (omega arith) in omega arith

-- a choice that is taken sets its bit
pub read_taken : (w w' i : ℕ) (h : List Bool) → i < 64 → w < 2 ^ i → Agree i w h → setting h (i + 1) ≡ true → w' ≡ bit_or w ((1 * 2 ^ i) % 2 ^ 64) → (w' < 2 ^ (i + 1)) × Agree (i + 1) w' h
read_taken w w' i h l k a t e =
    let p : (1 * 2 ^ i) % 2 ^ 64 ≡ 2 ^ i = ap (λ (x : ℕ). x % 2 ^ 64) (omega arith) ∙ mod-eq_of_lt (pow-lt l) in
    let q : w' ≡ bit_or w (2 ^ i) = e ∙ ap (bit_or w) p in (
      subst (λ (x : ℕ). x < 2 ^ (i + 1)) (sym q) (or_lt (i + 1) w (2 ^ i) (longer w i k) (pow-lt {i = i} {j = i + 1} (omega arith))),
      one_more i h w w'
          (λ j b. ap (λ (x : ℕ). bit x j) q ∙ bit_of_or w (2 ^ i) j ∙ ap (λ (x : Bool). bit w j || x) (power_other i j (λ c. omega arith)) ∙ or_false (bit w j))
          (ap (λ (x : ℕ). bit x i) q ∙ bit_of_or w (2 ^ i) i ∙ ap (λ (x : Bool). bit w i || x) (power_same i) ∙ or_true (bit w i) ∙ sym t)
          a,
    )

-- and one that is left sets none
pub read_left : (w w' i : ℕ) (h : List Bool) → w < 2 ^ i → Agree i w h → setting h (i + 1) ≡ false → w' ≡ w → (w' < 2 ^ (i + 1)) × Agree (i + 1) w' h
read_left w w' i h k a t e = (
  subst (λ (x : ℕ). x < 2 ^ (i + 1)) (sym e) (longer w i k),
  one_more i h w w' (λ j b. ap (λ (x : ℕ). bit x j) e) (ap (λ (x : ℕ). bit x i) e ∙ no_bit w i k ∙ sym t) a,
)

ok_value : {F : Type 0} (x y : Bool) (r : Result Bool F) → r ≡ Ok x → r ≡ Ok y → x ≡ y
ok_value x y r p q = cc

-- what was told is the setting's value
pub told_is : (v : Solving) (n : ℕ) (r : Result Bool SolverFault) (x y : Bool) → 1 ≤ n → n ≤ v.choices → r ≡ taken_answer v n → r ≡ Ok x → x ≡ y → setting v.held n ≡ y
told_is v n r x y a b e p q = ok_value (setting v.held n) x r (e ∙ told v n a b) p ∙ q
