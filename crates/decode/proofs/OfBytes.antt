-- The first bytes of a list, one by one.
use Rattle.std.proofs.Common.{◌≡◌, ℕ, zero, suc, ◌+◌, ◌<◌, ◌≤◌, List, [], ◌∷◌, length, take, drop, refl, ap, arith, drop-cons}
use Rattle.decode.specs.Format.{byte}

abbrev pub listed : List ℕ → ℕ → ℕ → List ℕ
listed bs k zero = []
listed bs k (suc n) = byte bs k ∷ listed bs (suc k) n

pub take_listed : (bs : List ℕ) (k n : ℕ) → k + n ≤ length bs → take n (drop k bs) ≡ listed bs k n
take_listed bs k zero l = refl
take_listed bs k (suc n) l =
    let h : k < length bs = omega arith in
    rw (drop-cons bs k 0) (ap (λ xs. byte bs k ∷ xs) (take_listed bs (suc k) n (omega arith)))
