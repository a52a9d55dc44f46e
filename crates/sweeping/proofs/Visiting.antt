-- What a clause's state says of one visit.
use Rattle.std.proofs.Common.{◌≡◌, ℕ, Bool, true, List, ℤ, pos, negsuc, Some, None, Option, sym, refl, ◌∙◌, subst, inl, inr}
use Rattle.std.proofs.lemmas.Bool.{false≢true}
use Rattle.design.specs.Mark.{all_are_named}
use Rattle.solver.specs.Setting.{setting, truth, meets}
use Rattle.values.specs.declared.State.{State}
use Rattle.values.specs.declared.State.TheVariants.{Met, Broken, Last, Several}
use Rattle.values.specs.Partial.{state_from, Agrees, setting_of, Opened}
use Rattle.values.proofs.Agreeing.{Says, clause_says, agrees_self, left_met}
use Rattle.sweeping.specs.Sweeps.{MeetsOne, Everywhere, Nowhere, note, NotedOne}

module _ (n : ℕ) (v c : List ℤ) (w : all_are_named n c ≡ true) where
  says : (b : List Bool) (s : State) → s ≡ state_from v Broken c → Agrees v b → Says n v b (meets (setting b) c) s
  says b s e a = subst (Says n v b (meets (setting b) c)) (sym e) (clause_says n v b c a w)

  pub state_met : Met ≡ state_from v Broken c → Everywhere (MeetsOne c) v
  state_met e b a = says b Met e a

  pub state_broken : Broken ≡ state_from v Broken c → Nowhere (MeetsOne c) v
  state_broken e b a m = false≢true (sym (says b Broken e a) ∙ m)

  pub state_last : (m : ℤ) → Last m ≡ state_from v Broken c → Opened n v m
  state_last m e = (says (setting_of v) (Last m) e (agrees_self v)).0

  pub last_true : (m : ℤ) → Last m ≡ state_from v Broken c → (b : List Bool) → Agrees v b → MeetsOne c b → truth (setting b) m ≡ true
  last_true m e b a g = sym (says b (Last m) e a).1 ∙ g

  pub state_several : (m : ℤ) → Several m ≡ state_from v Broken c → Opened n v m
  state_several m e = says (setting_of v) (Several m) e (agrees_self v)

  pub noted_same : Everywhere (MeetsOne c) v → (o : Option ℤ) → NotedOne c n v o o
  noted_same ev None = (refl, ev (setting_of v) (agrees_self v))
  noted_same ev (Some m) = inl refl

  pub noted_several : (o : Option ℤ) (m : ℤ) → Several m ≡ state_from v Broken c → NotedOne c n v o (note o m)
  noted_several (Some k) m e = inl refl
  noted_several None (pos d) e = inr (state_several (pos d) e)
  noted_several None (negsuc k) e = (refl, left_met v c k (sym e))
