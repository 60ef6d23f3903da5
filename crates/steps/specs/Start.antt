-- The two banks, and the worksheet that a solve starts from: the board's scores, with its pins set in turn. Assumes nothing.
use Rattle.std.specs.Prelude.{◌≡◌, ℕ, zero, suc, ◌<◌, Bool, true, false, cond, not, ◌&&◌, List, [], ◌∷◌, is_some, Some, None, Option, nat_le, nat_lt, refl}
use Rattle.std.proofs.Common.{inl, inr}
use Rattle.std.specs.Option.{option_map, unwrap_or}
use Rattle.score.specs.Model.{Model}
use Rattle.steps.specs.Sheet.{Sheet, over, two_score, count, partners}
use Rattle.steps.specs.Change.{Among, Values, onto_scores, own, both, left_set}
use Rattle.steps.specs.Steps.{Note, noted, set_to}

-- Two banks: value 0 is `false`, and it is preferred by every variable.
pub among_banks : (b : Bool) → Among b (false ∷ true ∷ [])
among_banks false = inl refl
among_banks true = inr (inl refl)

abbrev pub banks : Values Bool
banks = record { each = false ∷ true ∷ []; complete = among_banks; preferred = λ _. false }

-- What a board says -----------------------------------------------------------------------------------------------------------------

-- the sheet of a board with n variables, their scores, and its kept pairs, before any pin
abbrev pub unpinned : {E S V : Type 0} → Model E S → ℕ → (ℕ → V → S) → (ℕ → ℕ → Option (V → V → S)) → Sheet V S
unpinned M n one two = record { size = n; base = M.neutral; one = λ v. cond (nat_lt v n) (Some (one v)) None; two = two }

-- Pins ------------------------------------------------------------------------------------------------------------------------------

abbrev pub free : {V : Type 0} → (ℕ → Option V) → ℕ → Bool
free pins v = not (is_some (pins v))

-- a pin, if there is one, is set
abbrev pub set_pin : {E S V : Type 0} → Model E S → ℕ → Option V → Sheet V S → Sheet V S
set_pin M y None s = s
set_pin M y (Some c) s = left_set M y c s

abbrev pub note_pin : {V : Type 0} → ℕ → Option V → List (Note V) → List (Note V)
note_pin y None notes = notes
note_pin y (Some c) notes = noted y (set_to c) ∷ notes

-- the pins below k set in turn, and the notes of that
abbrev pub pinned : {E S V : Type 0} → Model E S → (ℕ → Option V) → ℕ → Sheet V S → Sheet V S
pinned M pins zero s = s
pinned M pins (suc k) s = set_pin M k (pins k) (pinned M pins k s)

abbrev pub pin_notes : {V : Type 0} → (ℕ → Option V) → ℕ → List (Note V)
pin_notes pins zero = []
pin_notes pins (suc k) = note_pin k (pins k) (pin_notes pins k)

abbrev pub start : {E S V : Type 0} → Model E S → (ℕ → Option V) → Sheet V S → Sheet V S
start M pins s = pinned M pins s.size s

-- The same sheet at once: a pinned variable's score at its pin is joined to the base, a pair with one pinned end to the other
-- end's scores, and one with two pinned ends to the base.
abbrev pub at_pin : {E S V : Type 0} → Model E S → Option V → (V → S) → S
at_pin M None f = M.neutral
at_pin M (Some c) f = f c

abbrev pub pinned_at_once : {E S V : Type 0} → Model E S → (ℕ → Option V) → Sheet V S → Sheet V S
pinned_at_once M pins s = record {
  size = s.size;
  base =
      M.join s.base
      (M.join (over M s.size (λ v. at_pin M (pins v) (own M s v)))
      (over M s.size (λ a. over M s.size (λ b. at_pin M (pins a) (λ u. at_pin M (pins b) (two_score M (s.two a b) u))))));
  one =
      λ v. cond (free pins v)
      (option_map (onto_scores M (λ u. over M s.size (λ x. at_pin M (pins x) (both M s v x u)))) (s.one v))
      None;
  two = λ a b. cond (free pins a && free pins b) (s.two a b) None;
}

abbrev pub start_notes : {S V : Type 0} → (ℕ → Option V) → Sheet V S → List (Note V)
start_notes pins s = pin_notes pins s.size

-- the layout with the pins below n put in
abbrev pub with_pins : {V : Type 0} → (ℕ → Option V) → ℕ → (ℕ → V) → (ℕ → V)
with_pins pins n l v = cond (nat_lt v n) (unwrap_or (pins v) (l v)) (l v)

-- a layout keeps the pins below n
abbrev pub Keeps : {V : Type 0} → (ℕ → Option V) → ℕ → (ℕ → V) → Type 0
Keeps {V} pins n l = (v : ℕ) (c : V) → v < n → pins v ≡ Some c → l v ≡ c

-- how many variables are unpinned and have three or more unpinned partners
abbrev pub board_busy : {S V : Type 0} → (ℕ → Option V) → Sheet V S → ℕ
board_busy pins s =
    count s.size (λ v. free pins v && nat_le 3 (count s.size (λ x. free pins x && partners s v x)))
