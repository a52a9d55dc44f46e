-- Settings that agree with values, and what those say of marks and clauses.
use Rattle.std.proofs.Common.{Some, None, Option, ◌≡◌, ℕ, zero, suc, ◌-◌, ◌<◌, Bool, true, false, not, ◌||◌, ◌⊎◌, List, [], ◌∷◌, length, get_or, set, ℤ, pos, negsuc, sym, refl, ap, ◌∙◌, subst, inl, inr, arith}
use lib.ListN.{get_or-map}
use Rattle.std.proofs.lemmas.List.{get_or-set_same, get_or-set_other}
use Rattle.std.proofs.lemmas.Bool.{and_parts, cases_eq}
use Rattle.design.specs.Mark.{named, all_are_named, bit_of}
use Rattle.design.proofs.OfMarks.{bit_below}
use Rattle.solver.specs.Setting.{setting, truth, meets}
use Rattle.store.specs.Parts.{is_taken}
use Rattle.values.specs.declared.State.{State}
use Rattle.values.specs.declared.State.TheVariants.{Met, Broken, Last, Several}
use Rattle.values.specs.Partial.{said, truth_in, value_that_holds, value_that_fails, first_left, with_open, by_truth, state_from, Fits, Agrees, setting_of, is_open, opens, Opened}

-- a mark's truth from whether its choice is taken
abbrev sided : ℤ → Bool → Bool
sided (pos c) x = x
sided (negsuc k) x = not x

truth_sided : (b : List Bool) (m : ℤ) → truth (setting b) m ≡ sided m (get_or b (bit_of m) false)
truth_sided b (pos c) = refl
truth_sided b (negsuc k) = let e : suc k - 1 ≡ k = omega arith in ap (λ i. not (get_or b i false)) e

clash : {P : Type 0} → ◌≡◌ {A = ℕ} 0 1 → P
clash e = absurd (omega arith)

side_yes : (m z : ℤ) (x : Bool) → Fits z x → said m z ≡ Some true → sided m x ≡ true
side_yes (pos c) (pos zero) x f e = clash cc
side_yes (pos c) (pos (suc n)) x f e = f
side_yes (pos c) (negsuc n) x f e = clash cc
side_yes (negsuc k) (pos zero) x f e = clash cc
side_yes (negsuc k) (pos (suc n)) x f e = clash cc
side_yes (negsuc k) (negsuc n) x f e = ap not f

side_no : (m z : ℤ) (x : Bool) → Fits z x → said m z ≡ Some false → sided m x ≡ false
side_no (pos c) (pos zero) x f e = clash cc
side_no (pos c) (pos (suc n)) x f e = clash cc
side_no (pos c) (negsuc n) x f e = f
side_no (negsuc k) (pos zero) x f e = clash cc
side_no (negsuc k) (pos (suc n)) x f e = ap not f
side_no (negsuc k) (negsuc n) x f e = clash cc

-- what values say of a mark holds in every setting that agrees
pub mark_yes : (v : List ℤ) (b : List Bool) (m : ℤ) → Agrees v b → truth_in v m ≡ Some true → truth (setting b) m ≡ true
mark_yes v b m a e = truth_sided b m ∙ side_yes m (get_or v (bit_of m) (pos 0)) (get_or b (bit_of m) false) (a (bit_of m)) e

pub mark_no : (v : List ℤ) (b : List Bool) (m : ℤ) → Agrees v b → truth_in v m ≡ Some false → truth (setting b) m ≡ false
mark_no v b m a e = truth_sided b m ∙ side_no m (get_or v (bit_of m) (pos 0)) (get_or b (bit_of m) false) (a (bit_of m)) e

pub open_zero : (m z : ℤ) → said m z ≡ None → z ≡ pos 0
open_zero m (pos zero) e = refl
open_zero (pos c) (pos (suc n)) e = clash cc
open_zero (pos c) (negsuc n) e = clash cc
open_zero (negsuc k) (pos (suc n)) e = clash cc
open_zero (negsuc k) (negsuc n) e = clash cc

-- what a state says of a clause that is met where x is true
abbrev pub Says : ℕ → List ℤ → List Bool → Bool → State → Type 0
Says n v b x Met = x ≡ true
Says n v b x Broken = x ≡ false
Says n v b x (Last m) = Opened n v m × (x ≡ truth (setting b) m)
Says n v b x (Several m) = Opened n v m

or_right_true : (x y : Bool) → y ≡ true → (x || y) ≡ true
or_right_true true y e = refl
or_right_true false y e = e

or_right_false : (x y : Bool) → y ≡ false → (x || y) ≡ x
or_right_false true y e = refl
or_right_false false y e = e

or_swap : (x y z : Bool) → ((x || y) || z) ≡ (x || (y || z))
or_swap true y z = refl
or_swap false y z = refl

opened_first : (n : ℕ) (v : List ℤ) (k m : ℤ) → Opened n v k → Opened n v m → Opened n v (first_left k m)
opened_first n v (negsuc j) m p q = p
opened_first n v (pos c) (negsuc k) p q = q
opened_first n v (pos c) (pos d) p q = p

more_open : (n : ℕ) (v : List ℤ) (b : List Bool) (x : Bool) (s : State) (m : ℤ) → Opened n v m → Says n v b x s → Says n v b (x || truth (setting b) m) (with_open s m)
more_open n v b x Met m o h = ap (λ y. y || truth (setting b) m) h
more_open n v b x Broken m o h = (o, ap (λ y. y || truth (setting b) m) h)
more_open n v b x (Last k) m o h = opened_first n v k m h.0 o
more_open n v b x (Several k) m o h = opened_first n v k m h o

-- one mark more in front, by its truth
first_says : (n : ℕ) (v : List ℤ) (b : List Bool) → Agrees v b → (m : ℤ) (c : List ℤ) → named n m ≡ true
    → ((x : Bool) (s : State) → Says n v b x s → Says n v b (x || meets (setting b) c) (state_from v s c))
    → (x : Bool) (s : State) → Says n v b x s → (t : Option Bool) → truth_in v m ≡ t
    → Says n v b (x || (truth (setting b) m || meets (setting b) c)) (by_truth t (state_from v s c) (state_from v (with_open s m) c))
first_says n v b a m c w rest x s h (Some true) e = or_right_true x _ (ap (λ y. y || meets (setting b) c) (mark_yes v b m a e))
first_says n v b a m c w rest x s h (Some false) e =
    subst (λ y. Says n v b (x || (y || meets (setting b) c)) (state_from v s c)) (sym (mark_no v b m a e)) (rest x s h)
first_says n v b a m c w rest x s h None e =
    let o : Opened n v m = record { names = w; zero_there = open_zero m (get_or v (bit_of m) (pos 0)) e } in
    subst (λ y. Says n v b y (state_from v (with_open s m) c)) (or_swap x (truth (setting b) m) (meets (setting b) c))
    (rest (x || truth (setting b) m) (with_open s m) (more_open n v b x s m o h))

pub state_says : (n : ℕ) (v : List ℤ) (b : List Bool) → Agrees v b → (c : List ℤ) → all_are_named n c ≡ true → (x : Bool) (s : State) → Says n v b x s
    → Says n v b (x || meets (setting b) c) (state_from v s c)
unfolding state_from all_are_named meets
state_says n v b a [] w x s h = subst (λ y. Says n v b y s) (sym (or_right_false x false refl)) h
state_says n v b a (m ∷ c) w x s h =
    let p = and_parts (named n m) (all_are_named n c) w in
    first_says n v b a m c p.0 (λ x s h. state_says n v b a c p.1 x s h) x s h (truth_in v m) refl

-- what the state of a whole clause says
pub clause_says : (n : ℕ) (v : List ℤ) (b : List Bool) (c : List ℤ) → Agrees v b → all_are_named n c ≡ true → Says n v b (meets (setting b) c) (state_from v Broken c)
clause_says n v b c a w = state_says n v b a c w false Broken refl

-- the values' own setting agrees with them
pub agrees_self : (v : List ℤ) → Agrees v (setting_of v)
agrees_self v i = subst (Fits (get_or v i (pos 0))) (sym (get_or-map is_taken v i (pos 0))) (own (get_or v i (pos 0)))
  where
    own : (z : ℤ) → Fits z (is_taken z)
    own (pos zero) = tt
    own (pos (suc n)) = refl
    own (negsuc n) = refl

pub agrees_set : (v : List ℤ) (b : List Bool) (i : ℕ) (z : ℤ) → i < length v → Fits z (get_or b i false) → Agrees v b → Agrees (set v i z) b
agrees_set v b i z h f a j = at (cases_eq j i)
  where
    at : (j ≡ i) ⊎ (j ≡ i → ⊥) → Fits (get_or (set v i z) j (pos 0)) (get_or b j false)
    at (inl e) = subst (λ k. Fits (get_or (set v i z) k (pos 0)) (get_or b k false)) (sym e) (subst (λ x. Fits x (get_or b i false)) (sym (get_or-set_same v i z (pos 0) h)) f)
    at (inr n) = subst (λ x. Fits x (get_or b j false)) (sym (get_or-set_other v i j z (pos 0) n)) (a j)

pub agrees_unset : (v : List ℤ) (b : List Bool) (i : ℕ) (z : ℤ) → get_or v i (pos 0) ≡ pos 0 → Agrees (set v i z) b → Agrees v b
agrees_unset v b i z o a j = at (cases_eq j i)
  where
    at : (j ≡ i) ⊎ (j ≡ i → ⊥) → Fits (get_or v j (pos 0)) (get_or b j false)
    at (inl e) = subst (λ x. Fits x (get_or b j false)) (sym (ap (λ k. get_or v k (pos 0)) e ∙ o)) tt
    at (inr n) = subst (λ x. Fits x (get_or b j false)) (get_or-set_other v i j z (pos 0) n) (a j)

pub opens_set : (v : List ℤ) (i : ℕ) (z : ℤ) → i < length v → get_or v i (pos 0) ≡ pos 0 → is_open z ≡ 0 → suc (opens (set v i z)) ≡ opens v
unfolding opens
opens_set [] i z h o n = absurd (omega arith)
opens_set (x ∷ xs) zero z h o n = omega (arith, ap is_open o)
opens_set (x ∷ xs) (suc i) z h o n = omega (arith, opens_set xs i z (omega arith) o n)

pub set_back : (v : List ℤ) (i : ℕ) (z : ℤ) → get_or v i (pos 0) ≡ pos 0 → set (set v i z) i (pos 0) ≡ v
set_back [] i z o = refl
set_back (x ∷ xs) zero z o = ap (λ y. y ∷ xs) (sym o)
set_back (x ∷ xs) (suc i) z o = ap (λ ys. x ∷ ys) (set_back xs i z o)

-- the value for a mark, and the one against it
pub for_open : (m : ℤ) → is_open (value_that_holds m) ≡ 0
for_open (pos c) = refl
for_open (negsuc k) = refl

pub against_open : (m : ℤ) → is_open (value_that_fails m) ≡ 0
against_open (pos c) = refl
against_open (negsuc k) = refl

not-true : (x : Bool) → not x ≡ true → x ≡ false
not-true true e = sym e
not-true false e = refl

fits_for : (m : ℤ) (x : Bool) → sided m x ≡ true → Fits (value_that_holds m) x
fits_for (pos c) x e = e
fits_for (negsuc k) x e = not-true x e

not-false : (x : Bool) → not x ≡ false → x ≡ true
not-false true e = refl
not-false false e = sym e

fits_against : (m : ℤ) (x : Bool) → sided m x ≡ false → Fits (value_that_fails m) x
fits_against (pos c) x e = e
fits_against (negsuc k) x e = not-false x e

-- an open mark that says left is true in the values' own setting
open_left : (v : List ℤ) (k : ℕ) → truth_in v (negsuc k) ≡ None → truth (setting (setting_of v)) (negsuc k) ≡ true
open_left v k e =
    let z : get_or v k (pos 0) ≡ pos 0 = open_zero (negsuc k) (get_or v k (pos 0)) e in
    truth_sided (setting_of v) (negsuc k) ∙ ap not (get_or-map is_taken v k (pos 0) ∙ ap is_taken z)

-- a clause whose noted open mark says left is met in the values' own setting
abbrev LeftMet : Bool → State → Type 0
LeftMet x Met = Unit {0}
LeftMet x Broken = Unit {0}
LeftMet x (Last (pos c)) = Unit {0}
LeftMet x (Last (negsuc k)) = x ≡ true
LeftMet x (Several (pos c)) = Unit {0}
LeftMet x (Several (negsuc k)) = x ≡ true

or_left_true : (x y : Bool) → x ≡ true → (x || y) ≡ true
or_left_true x y e = ap (λ z. z || y) e

left_more : (v : List ℤ) (x : Bool) (s : State) (m : ℤ) → truth_in v m ≡ None → LeftMet x s → LeftMet (x || truth (setting (setting_of v)) m) (with_open s m)
left_more v x Met m e h = tt
left_more v x Broken (pos c) e h = tt
left_more v x Broken (negsuc k) e h = or_right_true x _ (open_left v k e)
left_more v x (Last (negsuc j)) m e h = or_left_true x _ h
left_more v x (Last (pos c)) (negsuc k) e h = or_right_true x _ (open_left v k e)
left_more v x (Last (pos c)) (pos d) e h = tt
left_more v x (Several (negsuc j)) m e h = or_left_true x _ h
left_more v x (Several (pos c)) (negsuc k) e h = or_right_true x _ (open_left v k e)
left_more v x (Several (pos c)) (pos d) e h = tt

left_first_mark : (v : List ℤ) (m : ℤ) (c : List ℤ) → ((x : Bool) (s : State) → LeftMet x s → LeftMet (x || meets (setting (setting_of v)) c) (state_from v s c))
    → (x : Bool) (s : State) → LeftMet x s → (t : Option Bool) → truth_in v m ≡ t
    → LeftMet (x || (truth (setting (setting_of v)) m || meets (setting (setting_of v)) c)) (by_truth t (state_from v s c) (state_from v (with_open s m) c))
left_first_mark v m c rest x s h (Some true) e = tt
left_first_mark v m c rest x s h (Some false) e =
    subst (λ y. LeftMet (x || (y || meets (setting (setting_of v)) c)) (state_from v s c)) (sym (mark_no v (setting_of v) m (agrees_self v) e)) (rest x s h)
left_first_mark v m c rest x s h None e =
    subst (λ y. LeftMet y (state_from v (with_open s m) c)) (or_swap x (truth (setting (setting_of v)) m) (meets (setting (setting_of v)) c))
    (rest (x || truth (setting (setting_of v)) m) (with_open s m) (left_more v x s m e h))

left_state : (v c : List ℤ) (x : Bool) (s : State) → LeftMet x s → LeftMet (x || meets (setting (setting_of v)) c) (state_from v s c)
unfolding state_from meets
left_state v [] x s h = subst (λ y. LeftMet y s) (sym (or_right_false x false refl)) h
left_state v (m ∷ c) x s h = left_first_mark v m c (λ y t g. left_state v c y t g) x s h (truth_in v m) refl

pub left_met : (v c : List ℤ) (k : ℕ) → state_from v Broken c ≡ Several (negsuc k) → meets (setting (setting_of v)) c ≡ true
left_met v c k e = subst (LeftMet (meets (setting (setting_of v)) c)) e (left_state v c false Broken tt)

-- a setting in which a mark is true or false fits the value that makes it so
pub fits_holding : (b : List Bool) (m : ℤ) → truth (setting b) m ≡ true → Fits (value_that_holds m) (get_or b (bit_of m) false)
fits_holding b m t = fits_for m (get_or b (bit_of m) false) (sym (truth_sided b m) ∙ t)

pub fits_failing : (b : List Bool) (m : ℤ) → truth (setting b) m ≡ false → Fits (value_that_fails m) (get_or b (bit_of m) false)
fits_failing b m t = fits_against m (get_or b (bit_of m) false) (sym (truth_sided b m) ∙ t)

-- values that make a mark true, in a setting that agrees
pub mark_for : (v : List ℤ) (b : List Bool) (m : ℤ) → named (length v) m ≡ true → Agrees (set v (bit_of m) (value_that_holds m)) b → truth (setting b) m ≡ true
mark_for v b m w a =
    truth_sided b m ∙ to m (get_or b (bit_of m) false) (subst (λ z. Fits z (get_or b (bit_of m) false)) (get_or-set_same v (bit_of m) (value_that_holds m) (pos 0) (bit_below (length v) m w)) (a (bit_of m)))
  where
    to : (m : ℤ) (x : Bool) → Fits (value_that_holds m) x → sided m x ≡ true
    to (pos c) x f = f
    to (negsuc k) x f = ap not f
