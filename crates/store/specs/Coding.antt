-- Clauses as numbers: each is its length, then its marks.
use Rattle.std.specs.Prelude.{◌≡◌, ℕ, zero, suc, List, [], ◌∷◌, ◌++◌, length, take, drop, ℤ, pos, unsigned_abs}

abbrev pub encode : List ℤ → List ℤ
encode c = pos (length c) ∷ c

unfoldable pub encode_all : List (List ℤ) → List ℤ
encode_all [] = []
encode_all (c ∷ cs) = encode c ++ encode_all cs

-- at most f clauses, read from the front of a list of numbers
unfoldable pub decode : ℕ → List ℤ → List (List ℤ)
decode zero s = []
decode (suc f) [] = []
decode (suc f) (n ∷ s) = take (unsigned_abs n) s ∷ decode f (drop (unsigned_abs n) s)

unfoldable pub clauses_in : List ℤ → List (List ℤ)
clauses_in s = decode (length s) s

-- the numbers are whole clauses, one after the other
abbrev pub Sound : List ℤ → Type 0
Sound s = encode_all (clauses_in s) ≡ s
