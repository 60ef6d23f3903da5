-- The two stacks as lists, as a statement. Assumes nothing.
use Rattle.std.specs.Prelude.{◌≡◌, ℕ, ◌<◌, ◌≤◌, [], ◌∷◌, ◌++◌, length, take, drop, Some}
use Rattle.notes.specs.declared.removal.Removal.{Removal}
use Rattle.notes.specs.declared.splits.Split.{Split}
use Rattle.notes.specs.declared.splits.TheConstants.{MOST_SPLITS}
use Rattle.notes.specs.Splits.{Opened, Bounded, at_zero, at_one, pushed, top_of, begun, popped}
use Rattle.notes.specs.Stack.{Noted, notes_of, push_note, cut_notes}

-- Oldest first: a push adds one at the end, a pop takes it away, the newest is marked at the end. A stack of splits has room for
-- 20 and stays bounded; of the records not in use, a push takes the first, a pop puts its split before them, and all others stay.
pub record Stacks : Type 0 where
  pub note_more : (h : Noted) (n : Removal) → h.count < length h.table → notes_of (push_note h n) ≡ notes_of h ++ n ∷ []
  pub note_fewer : (h : Noted) (k : ℕ) → k ≤ h.count → notes_of (cut_notes h k) ≡ take k (notes_of h)
  pub most_is : MOST_SPLITS ≡ 20
  pub split_more : (s : Opened) (y n : ℕ) → length s.splits < MOST_SPLITS
      → ((pushed s y n).splits ≡ s.splits ++ at_zero y n ∷ []) × ((pushed s y n).spare ≡ drop 1 s.spare)
  pub split_fewer : (s : Opened) → 0 < length s.splits
      → (p : Split) × (top_of s ≡ Some p) × (s.splits ≡ (popped s).splits ++ p ∷ []) × ((popped s).spare ≡ p ∷ s.spare)
  pub split_begun : (s : Opened) (p : Split) → top_of s ≡ Some p
      → ((begun s).splits ≡ (popped s).splits ++ at_one p ∷ []) × ((begun s).spare ≡ s.spare)
  pub push_bounded : (s : Opened) (y n : ℕ) → Bounded s → Bounded (pushed s y n)
  pub begun_bounded : (s : Opened) → Bounded s → Bounded (begun s)
  pub pop_bounded : (s : Opened) → Bounded s → Bounded (popped s)
