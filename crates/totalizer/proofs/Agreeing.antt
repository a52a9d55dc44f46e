-- Settings that agree on the choices that marks name, and words as settings.
use Rattle.std.proofs.Common.{◌≡◌, ℕ, suc, ◌-◌, ◌<◌, ◌≤◌, min, Bool, true, cond, not, ◌&&◌, ◌||◌, List, [], ◌∷◌, length, get_or, ℤ, pos, negsuc, refl, ap, ◌∙◌, ap₂, arith}
use Rattle.std.proofs.lemmas.Bool.{and_parts}
use Rattle.scales.specs.Laws.{Places}
use Rattle.bits.specs.Bit.{bit}
use Rattle.design.specs.Mark.{named, all_are_named, holds}
use Rattle.design.specs.Rule.{meets as MeetsWord, meets_all as meets_all_word}
use Rattle.design.specs.Cost.{total_from, total, cost}
use Rattle.design.specs.declared.price.Price.{Price}
use Rattle.solver.specs.Setting.{truth, meets, meets_all, all_true, clauses_named}
use Rattle.totalizer.specs.Heap.{no_price, Costs, MarksNamed}
use Rattle.totalizer.proofs.Marks.{choice_low, choice_high}

-- two settings with the same n choices
abbrev pub Alike : ℕ → (ℕ → Bool) → (ℕ → Bool) → Type 0
Alike n f g = (k : ℕ) → 1 ≤ k → k ≤ n → f k ≡ g k

pub truth_alike : (n : ℕ) (f g : ℕ → Bool) → Alike n f g → (m : ℤ) → named n m ≡ true → truth f m ≡ truth g m
truth_alike n f g h (pos k) e = h k (choice_low n (pos k) e) (choice_high n (pos k) e)
truth_alike n f g h (negsuc k) e = ap not (h (suc k) (omega arith) (choice_high n (negsuc k) e))

meets_alike : (n : ℕ) (f g : ℕ → Bool) → Alike n f g → (c : List ℤ) → all_are_named n c ≡ true → meets f c ≡ meets g c
unfolding meets all_are_named
meets_alike n f g h [] e = refl
meets_alike n f g h (m ∷ ms) e =
    let p = and_parts (named n m) (all_are_named n ms) e in
    ap₂ ◌||◌ (truth_alike n f g h m p.0) (meets_alike n f g h ms p.1)

pub rules_alike : (n : ℕ) (f g : ℕ → Bool) → Alike n f g → (cs : List (List ℤ)) → clauses_named n cs ≡ true → meets_all f cs ≡ meets_all g cs
unfolding meets_all clauses_named
rules_alike n f g h [] e = refl
rules_alike n f g h (c ∷ cs) e =
    let p = and_parts (all_are_named n c) (clauses_named n cs) e in
    ap₂ ◌&&◌ (meets_alike n f g h c p.0) (rules_alike n f g h cs p.1)

pub all_alike : (n : ℕ) (f g : ℕ → Bool) → Alike n f g → (c : List ℤ) → all_are_named n c ≡ true → all_true f c ≡ all_true g c
unfolding all_true all_are_named
all_alike n f g h [] e = refl
all_alike n f g h (m ∷ ms) e =
    let p = and_parts (named n m) (all_are_named n ms) e in
    ap₂ ◌&&◌ (truth_alike n f g h m p.0) (all_alike n f g h ms p.1)

-- only what a test says of the prices' marks counts
total_from_same : (s : Places) (t t' : ℤ → Bool) (ps : List Price) (c : ℕ) → ((j : ℕ) → j < length ps → t (get_or ps j no_price).mark ≡ t' (get_or ps j no_price).mark)
    → total_from s t c ps ≡ total_from s t' c ps
unfolding total_from
total_from_same s t t' [] c h = refl
total_from_same s t t' (p ∷ ps) c h =
    ap (λ (b : Bool). total_from s t (cond b (s.join c p.place) c) ps) (h 0 (omega arith))
    ∙ total_from_same s t t' ps (cond (t' p.mark) (s.join c p.place) c) (λ j k. h (suc j) (omega arith))

pub total_same : (s : Places) (t t' : ℤ → Bool) (ps : List Price) → ((j : ℕ) → j < length ps → t (get_or ps j no_price).mark ≡ t' (get_or ps j no_price).mark)
    → total s t ps ≡ total s t' ps
unfolding total
total_same s t t' ps h = total_from_same s t t' ps 0 h

pub total_alike : (n : ℕ) (s : Places) (f g : ℕ → Bool) → Alike n f g → (ps : List Price) → MarksNamed n ps → total s (truth f) ps ≡ total s (truth g) ps
total_alike n s f g h ps marked = total_same s (truth f) (truth g) ps (λ j k. truth_alike n f g h (get_or ps j no_price).mark (marked j k))

pub costs_alike : (n : ℕ) (s : Places) (f g : ℕ → Bool) → Alike n f g → (ps : List Price) (v : ℕ → ℕ) → MarksNamed n ps → Costs s (truth f) ps v → Costs s (truth g) ps v
costs_alike n s f g h ps v marked c = record {
  leaves = λ j k. c.leaves j k ∙ ap (λ (t : Bool). cond t (min (get_or ps j no_price).place s.top) 0) (truth_alike n f g h (get_or ps j no_price).mark (marked j k));
  joins = c.joins;
}

-- a word as a setting: choice k is bit k - 1
abbrev pub in_word : ℕ → ℕ → Bool
in_word w k = bit w (k - 1)

pub holds_word : (w : ℕ) (m : ℤ) → holds w m ≡ truth (in_word w) m
holds_word w (pos c) = refl
holds_word w (negsuc k) = ap (λ (j : ℕ). not (bit w j)) (omega arith)

pub cost_word : (s : Places) (ps : List Price) (w : ℕ) → cost s ps w ≡ total s (truth (in_word w)) ps
cost_word s ps w = total_same s (holds w) (truth (in_word w)) ps (λ j k. holds_word w (get_or ps j no_price).mark)

one_word : (w : ℕ) (c : List ℤ) → MeetsWord w c ≡ meets (in_word w) c
unfolding Rattle.design.specs.Rule.meets meets
one_word w [] = refl
one_word w (m ∷ ms) = ap₂ ◌||◌ (holds_word w m) (one_word w ms)

pub rules_word : (w : ℕ) (cs : List (List ℤ)) → meets_all_word w cs ≡ meets_all (in_word w) cs
unfolding Rattle.design.specs.Rule.meets_all meets_all
rules_word w [] = refl
rules_word w (c ∷ cs) = ap₂ ◌&&◌ (one_word w c) (rules_word w cs)
