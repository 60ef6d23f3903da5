-- The laws of "a score is of m entries", for a kind that keeps the laws of scores. Assumes nothing.
use Rattle.std.specs.Prelude.{◌≡◌, ℕ, ◌+◌, ◌≤◌, max, Some}
use Rattle.score.specs.Model.{Model, Of, better}

pub record EntryLaws {E S : Type 0} (M : Model E S) : Type 0 where
  -- the neutral score is of none
  pub none : Of M 0 M.neutral
  -- the score of an entry is of one
  pub one : (e : E) (s : S) → M.score e ≡ Some s → Of M 1 s
  -- a join is of the sum
  pub sum : (m n : ℕ) (a b : S) → Of M m a → Of M n b → Of M (m + n) (M.join a b)
  -- a choice is of the most of either
  pub most : (m n : ℕ) (a b : S) → Of M m a → Of M n b → Of M (max m n) (better M a b)
  -- m or fewer
  pub fewer : (m n : ℕ) (a : S) → m ≤ n → Of M m a → Of M n a
