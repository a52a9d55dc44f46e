-- Words as sets of bits.
use Rattle.std.specs.Prelude.{◌≡◌, ℕ, ◌/◌, ◌%◌, ◌^◌, ◌<◌, Bool, true, not, ◌&&◌, ◌==◌, Option, None, Some}

-- whether bit k of a word is set
unfoldable pub bit : ℕ → ℕ → Bool
bit w k = w / 2 ^ k % 2 == 1

-- r is one bit of x
pub record Single (x r : ℕ) : Type 0 where
  pub index : ℕ
  pub low : index < 64
  pub power : r ≡ 2 ^ index
  pub inside : bit x index ≡ true

-- k is a bit of word w, and word r is w without it
pub record Taken (w k r : ℕ) : Type 0 where
  pub low : k < 64
  pub inside : bit w k ≡ true
  pub rest : (j : ℕ) → bit r j ≡ (bit w j && not (bit (2 ^ k) j))
  pub less : r < w

-- one bit of a word and what is left, or nothing of an empty word
abbrev pub Takes : ℕ → Option ℕ → ℕ → Type 0
Takes w None r = (w ≡ 0) × (r ≡ w)
Takes w (Some k) r = Taken w k r
