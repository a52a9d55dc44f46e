-- A sweep under way: what is behind it, and what is still to visit.
use Rattle.std.proofs.Common.{◌≡◌, ℕ, Bool, true, List, [], ◌∷◌, length, ℤ, Some, None, Ok, Option, sym, refl, ap, ◌∙◌, subst, inl, inr, arith}
use Rattle.std.proofs.lemmas.Bool.{and_parts, and_from}
use Rattle.design.specs.Mark.{all_are_named}
use Rattle.solver.specs.Setting.{setting, meets, meets_all, clauses_named}
use Rattle.values.specs.Partial.{setting_of, Opened}
use Rattle.sweeping.specs.declared.assignment.Assignment.{Assignment}
use Rattle.sweeping.specs.Trail.{values_in, clauses_at, OpenIn, Meets, Reached}
use Rattle.sweeping.specs.Sweeps.{MeetsOne, Nowhere, NotedOne, Noted, Visited}
use Rattle.sweeping.proofs.Reaching.{none_reached, weaker, then_reached, still}

pub meets_parts : (b : List Bool) (c : List ℤ) (cs : List (List ℤ)) → Meets (c ∷ cs) b → MeetsOne c b × Meets cs b
unfolding meets_all
meets_parts b c cs e = and_parts (meets (setting b) c) (meets_all (setting b) cs) e

meets_both : (b : List Bool) (c : List ℤ) (cs : List (List ℤ)) → MeetsOne c b → Meets cs b → Meets (c ∷ cs) b
unfolding meets_all
meets_both b c cs e f = and_from _ _ e f

meets_none : (b : List Bool) → Meets [] b
unfolding meets_all
meets_none b = refl

pub named_parts : (n : ℕ) (c : List ℤ) (cs : List (List ℤ)) → clauses_named n (c ∷ cs) ≡ true → (all_are_named n c ≡ true) × (clauses_named n cs ≡ true)
unfolding clauses_named
named_parts n c cs e = and_parts (all_are_named n c) (clauses_named n cs) e

-- an open mark, or: with what is open left, all is met where what is still to visit is
abbrev pub SoFar : List (List ℤ) → List (List ℤ) → Assignment → Option ℤ → Type 0
SoFar cs todo b None = Meets todo (setting_of (values_in b)) → Meets cs (setting_of (values_in b))
SoFar cs todo b (Some m) = OpenIn b m

pub record Going (a b : Assignment) (todo : List (List ℤ)) (o : Option ℤ) : Type 0 where
  pub reached : Reached (Meets (clauses_at a)) a b
  pub names : clauses_named (length (values_in b)) todo ≡ true
  pub among : (x : List Bool) → Meets (clauses_at a) x → Meets todo x
  pub noted : b.top ≡ a.top → SoFar (clauses_at a) todo b o

pub going_start : (a : Assignment) → Going a a (clauses_at a) None
going_start a = record { reached = none_reached (Meets (clauses_at a)) a; names = a.named; among = λ x m. m; noted = λ _ m. m }

module _ (a b : Assignment) (c : List ℤ) (rest : List (List ℤ)) (o : Option ℤ) (g : Going a b (c ∷ rest) o) where
  pub named_here : all_are_named (length (values_in b)) c ≡ true
  named_here = (named_parts _ c rest g.names).0

  -- the visited clause is one of all
  meets_here : (x : List Bool) → Meets (clauses_at a) x → MeetsOne c x × Meets rest x
  meets_here x m = meets_parts x c rest (g.among x m)

  pub clashing : Nowhere (MeetsOne c) (values_in b) → Nowhere (Meets (clauses_at a)) (values_in b)
  clashing n x h m = n x h (meets_here x m).0

  -- what is noted after one more clause, where nothing moved
  noted_next : (b' : Assignment) (o' : Option ℤ) → values_in b' ≡ values_in b → SoFar (clauses_at a) (c ∷ rest) b o → NotedOne c (length (values_in b)) (values_in b) o o' → SoFar (clauses_at a) rest b' o'
  noted_next b' None e f k =
      subst (λ v. Meets rest (setting_of v) → Meets (clauses_at a) (setting_of v)) (sym e)
      (λ m. subst (SoFar (clauses_at a) (c ∷ rest) b) k.0 f (meets_both (setting_of (values_in b)) c rest k.1 m))
  noted_next b' (Some m) e f (inl k) = subst (λ v. Opened (length v) v m) (sym e) (subst (SoFar (clauses_at a) (c ∷ rest) b) k f)
  noted_next b' (Some m) e f (inr k) = subst (λ v. Opened (length v) v m) (sym e) k

  pub going_on : (b' : Assignment) (o' : Option ℤ) → Visited c b o b' (Ok o') → Going a b' rest o'
  going_on b' o' v =
      record {
        reached = then_reached (Meets (clauses_at a)) a b b' g.reached (weaker (MeetsOne c) (Meets (clauses_at a)) b b' (λ x m. (meets_here x m).0) v.0);
        names = ap (λ n. clauses_named n rest) v.0.same.choices ∙ (named_parts _ c rest g.names).1;
        among = λ x m. (meets_here x m).1;
        noted = λ e.
            let h : b.top ≡ a.top = omega (arith, g.reached.low, v.0.low, e) in
            let h' : b'.top ≡ b.top = omega (arith, g.reached.low, v.0.low, e) in
            noted_next b' o' (still (MeetsOne c) b b' v.0 h') (g.noted h) (v.1 h');
      }

pub going_end : (a b : Assignment) (o : Option ℤ) → Going a b [] o → b.top ≡ a.top → Noted (clauses_at a) b o
going_end a b None g e = g.noted e (meets_none (setting_of (values_in b)))
going_end a b (Some m) g e = g.noted e

-- one sweep after others
pub swept_on : (a b c : Assignment) → Reached (Meets (clauses_at a)) a b → Reached (Meets (clauses_at b)) b c → Reached (Meets (clauses_at a)) a c
swept_on a b c p q = then_reached (Meets (clauses_at a)) a b c p (subst (λ cs. Reached (Meets cs) b c) p.same.clauses q)
