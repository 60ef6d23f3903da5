-- What digits write, digit by digit. Assumes nothing.
use Rattle.std.proofs.Common.{◌≡◌, ℕ, ◌+◌, ◌-◌, ◌*◌, min, ◌^◌, fold, eqb, List, [], ◌∷◌, get_or, refl, arith, ne_eqb}
use Rattle.std.proofs.lemmas.Bool.{cond-false}
use Rattle.fields.specs.Values.{minus, unsigned, value_after, value}

-- a number with one digit more, held within 64 bits
abbrev pub held : ℕ → ℕ → ℕ
held v b = min (min (v * 10) (2 ^ 64 - 1) + (b - 48)) (2 ^ 64 - 1)

held_after : (ds : List ℕ) (v n : ℕ) → v ≡ min n (2 ^ 64 - 1) → fold held v ds ≡ min (value_after n ds) (2 ^ 64 - 1)
held_after [] v n e = e
held_after (d ∷ ds) v n e = held_after ds (held v d) (n * 10 + (d - 48)) (omega arith)

pub fold_held : (ds : List ℕ) → fold held 0 ds ≡ min (value ds) (2 ^ 64 - 1)
fold_held ds = held_after ds 0 0 (omega arith)

pub unsigned_none : (bs : List ℕ) → (get_or bs 0 0 ≡ minus → ⊥) → unsigned bs ≡ bs
unsigned_none [] e = refl
unsigned_none (b ∷ bs) e = cond-false (eqb b minus) bs (b ∷ bs) (ne_eqb b minus e)
