-- A word of five bytes, from its length and each of its bytes. Assumes nothing.
use Rattle.std.proofs.Common.{◌≡◌, ℕ, List, [], ◌∷◌, length, get_or, arith}

pub five_are : (bs : List ℕ) (v w x y z : ℕ) → length bs ≡ 5 → get_or bs 0 0 ≡ v → get_or bs 1 0 ≡ w → get_or bs 2 0 ≡ x → get_or bs 3 0 ≡ y → get_or bs 4 0 ≡ z → bs ≡ v ∷ w ∷ x ∷ y ∷ z ∷ []
five_are [] v w x y z n a b c d e = absurd (omega arith)
five_are (p ∷ []) v w x y z n a b c d e = absurd (omega arith)
five_are (p ∷ q ∷ []) v w x y z n a b c d e = absurd (omega arith)
five_are (p ∷ q ∷ r ∷ []) v w x y z n a b c d e = absurd (omega arith)
five_are (p ∷ q ∷ r ∷ s ∷ []) v w x y z n a b c d e = absurd (omega arith)
five_are (p ∷ q ∷ r ∷ s ∷ t ∷ []) v w x y z n a b c d e = λ i. a i ∷ b i ∷ c i ∷ d i ∷ e i ∷ []
five_are (p ∷ q ∷ r ∷ s ∷ t ∷ u ∷ bs) v w x y z n a b c d e = absurd (omega arith)
