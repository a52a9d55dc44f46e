-- A word in hexadecimal digits, with zeros before them.
use Rattle.std.proofs.Common.{◌≡◌, ℕ, zero, suc, ◌+◌, ◌-◌, ◌/◌, ◌%◌, ◌^◌, ◌<◌, Bool, true, false, cond, eqb, List, [], ◌∷◌, ◌++◌, length, replicate, refl, sym, ap, ◌∙◌, arith, append_assoc, append-nil}
use Rattle.std.proofs.Math.Nat.{pow-suc}
use Rattle.std.proofs.lemmas.Bool.{eqb-true, eqb-false}
use Rattle.std.specs.Fmt.{digit_glyph, digits, digits_onto, padded_integral, char_count, format_spec}
use Rattle.job.specs.Words.{hex}

snoc : (j d : ℕ) → replicate j d ++ d ∷ [] ≡ d ∷ replicate j d
snoc zero d = refl
snoc (suc j) d = ap (λ (l : List ℕ). d ∷ l) (snoc j d)

zeros : (j : ℕ) → hex j 0 ≡ replicate j 48
zeros zero = refl
zeros (suc j) = ap (λ (l : List ℕ). l ++ 48 ∷ []) (zeros j) ∙ snoc j 48

-- the digits of n, filled up to j + 1
abbrev Fills : ℕ → ℕ → List ℕ → List ℕ → Type 0
Fills j n acc ds = replicate (suc j + length acc - length ds) 48 ++ ds ≡ hex (suc j) n ++ acc

-- the digits before the last one, g, whose number is m
front : (k : ℕ) → ((j m : ℕ) (acc : List ℕ) → m < 16 ^ suc j → j < k → Fills j m acc (digits_onto k 16 false m acc)) → (j m g : ℕ) (acc : List ℕ) (t : Bool) → eqb m 0 ≡ t → m < 16 ^ j → j < suc k
    → replicate (suc j + length acc - length (cond t (g ∷ acc) (digits_onto k 16 false m (g ∷ acc)))) 48 ++ cond t (g ∷ acc) (digits_onto k 16 false m (g ∷ acc)) ≡ (hex j m ++ g ∷ []) ++ acc
front k go j m g acc true e h l =
    let size : suc j + length acc - suc (length acc) ≡ j = omega arith in
    rw (size, eqb-true m 0 e, ← zeros j) (sym (append_assoc (hex j 0) (g ∷ []) acc))
front k go zero m g acc false e h l = absurd (omega (arith, eqb-false m 0 e))
front k go (suc j) m g acc false e h l =
    let size : suc (suc j) + length acc ≡ suc j + suc (length acc) = omega arith in
    rw (size, append_assoc) (go j m (g ∷ acc) h (omega arith))

filled : (k j n : ℕ) (acc : List ℕ) → n < 16 ^ suc j → j < k → Fills j n acc (digits_onto k 16 false n acc)
filled zero j n acc h l = absurd (omega arith)
filled (suc k) j n acc h l = front k (filled k) j (n / 16) (digit_glyph false (n % 16)) acc (eqb (n / 16) 0) refl (omega (arith, pow-suc 16 j)) l

digits_are : (n : ℕ) → digits_onto 64 16 false n [] ≡ digits 16 false n
unfolding digits
digits_are n = refl

-- what stands in 16 places, with zeros before it
padded_to : (ds r : List ℕ) → replicate (16 + 0 - length ds) 48 ++ ds ≡ r ++ [] → padded_integral (format_spec 32 0 4 16 (2 ^ 64 - 1)) false [] ds ≡ r
unfolding padded_integral char_count
padded_to ds r e =
    let size : 16 - length ds - 0 - 0 ≡ 16 + 0 - length ds = omega arith in
    rw (size, append-nil) (e ∙ append-nil r)

-- what `{:016x}` writes
pub hex_word : (n : ℕ) → n < 2 ^ 64 → padded_integral (format_spec 32 0 4 16 (2 ^ 64 - 1)) false [] (digits 16 false n) ≡ hex 16 n
hex_word n h = padded_to (digits 16 false n) (hex 16 n) (let f = filled 64 15 n [] h (omega arith) in rw (digits_are n) at f)
