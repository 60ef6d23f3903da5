-- The note of a removal means its choices. Assumes nothing.
use Rattle.std.proofs.Common.{◌≡◌, ℕ, Bool, true, false, cond, refl, ap}
use mathlib.Core.Path.{fun_ext}
use mir.Val.{bool_byte}
use Rattle.score.specs.declared.choice.Choice.{Choice}
use Rattle.steps.specs.Steps.{noted, alone, by_one, by_two, set_to}
use Rattle.score.specs.declared.values.Four.{Four}
use Rattle.notes.specs.Removals.{bank, bank_number, note_of}
use Rattle.notes.proofs.Reading.{bank_back}
use Rattle.worksheet.specs.Noting.{alone_note, one_note, two_note, set_note}

-- a value is noted as its byte
pub byte_is : (b : Bool) → bool_byte b ≡ bank_number b
byte_is true = refl
byte_is false = refl

picked : (u a b : Bool) → bank (cond u (bank_number a) (bank_number b)) ≡ cond u a b
picked true a b = bank_back a
picked false a b = bank_back b

picked_two : (u t a b c d : Bool)
    → bank (cond u (cond t (bank_number a) (bank_number b)) (cond t (bank_number c) (bank_number d))) ≡ cond u (cond t a b) (cond t c d)
picked_two true t a b c d = picked t a b
picked_two false t a b c d = picked t c d

module _ {K : Type 0} (y : ℕ) where
  pub alone_means : (a : Choice K) → note_of (alone_note y a) ≡ noted y (alone a.second)
  alone_means a = ap (λ c. noted y (alone c)) (bank_back a.second)

  pub one_means : (x : ℕ) (a0 a1 : Choice K) → note_of (one_note y x a0 a1) ≡ noted y (by_one x (λ u. cond u a1.second a0.second))
  one_means x a0 a1 = ap (λ f. noted y (by_one x f)) (fun_ext (λ u. picked u a1.second a0.second))

  pub two_means : (x z : ℕ) (f : Four (Choice K))
      → note_of (two_note y x z f)
      ≡ noted y (by_two x z (λ u t. cond u (cond t f.at11.second f.at10.second) (cond t f.at01.second f.at00.second)))
  two_means x z f =
      ap (λ h. noted y (by_two x z h))
      (fun_ext (λ u. fun_ext (λ t. picked_two u t f.at11.second f.at10.second f.at01.second f.at00.second)))

pub set_means : (y : ℕ) (c : Bool) → note_of (set_note y c) ≡ noted y (set_to c)
set_means y c = ap (λ b. noted y (set_to b)) (bank_back c)
