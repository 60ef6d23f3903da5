-- How many entries the scores of a worksheet are of. The counts are a worksheet too, of numbers and with a single value for
-- every variable, on which the same steps are done. Assumes nothing.
use Rattle.std.specs.Prelude.{◌≡◌, ℕ, ◌<◌, ◌≤◌, true, [], ◌∷◌, Some, None, Option, refl}
use Rattle.std.proofs.Common.{inl}
use Rattle.score.specs.Model.{Model, Of, Together, exact_entries}
use Rattle.steps.specs.Sheet.{Sheet, remains, partners, value, numbers, two_score}
use Rattle.steps.specs.Change.{Values, own, both, with_one, with_two}

-- the single value
abbrev pub Single : Type 0
Single = Unit {0}

abbrev pub single : Values Single
single = record { each = tt ∷ []; complete = λ _. inl refl; preferred = λ _. tt }

-- each score of s is of the number of entries that c has at its place
abbrev pub OneOf : {E S V : Type 0} → Model E S → Option (Single → ℕ) → Option (V → S) → Type 0
OneOf M None None = Unit {0}
OneOf M None (Some f) = ⊥
OneOf M (Some c) None = ⊥
OneOf {V = V} M (Some c) (Some f) = (u : V) → Of M (c tt) (f u)

abbrev pub TwoOf : {E S V : Type 0} → Model E S → Option (Single → Single → ℕ) → Option (V → V → S) → Type 0
TwoOf M None None = Unit {0}
TwoOf M None (Some f) = ⊥
TwoOf M (Some c) None = ⊥
TwoOf {V = V} M (Some c) (Some f) = (u w : V) → Of M (c tt tt) (f u w)

pub record Counts {E S V : Type 0} (M : Model E S) (c : Sheet Single ℕ) (s : Sheet V S) : Type 0 where
  pub size_is : c.size ≡ s.size
  pub base_of : Of M c.base s.base
  pub one_of : (v : ℕ) → OneOf M (c.one v) (s.one v)
  pub two_of : (a b : ℕ) → TwoOf M (c.two a b) (s.two a b)

-- all counts together
abbrev pub entries : Sheet Single ℕ → ℕ
entries c = value numbers c (λ _. tt)

-- the sheet is of few enough entries, all together, that a kind joins them exactly
pub record Few {E S V : Type 0} (M : Model E S) (s : Sheet V S) : Type 0 where
  pub counts : Sheet Single ℕ
  pub counted : Counts M counts s
  pub within : entries counts ≤ exact_entries

-- the sheet is of m entries or fewer, all together
pub record OfAll {E S V : Type 0} (M : Model E S) (m : ℕ) (s : Sheet V S) : Type 0 where
  pub counts : Sheet Single ℕ
  pub counted : Counts M counts s
  pub within : entries counts ≤ m

-- Every join that a step makes is of at most that many.
pub record JoinsExact {E S V : Type 0} (M : Model E S) (s : Sheet V S) : Type 0 where
  -- y's score onto the base
  pub onto_base : (y : ℕ) (w : V) → remains s y ≡ true → Together M s.base (own M s y w)
  -- y's score with that of a pair, and that of a pair onto the partner's
  pub with_pair : (y x : ℕ) (w u : V) → partners s y x ≡ true → Together M (own M s y w) (both M s y x w u)
  pub onto_partner : (y x : ℕ) (w u : V) → partners s y x ≡ true → Together M (own M s x u) (both M s y x w u)
  -- both together onto the partner's
  pub onto_one : (y x : ℕ) (w u : V) → partners s y x ≡ true → Together M (own M s x u) (with_one M s y x u w)
  -- a second pair, and all three onto the pair of the two partners
  pub with_second : (y x z : ℕ) (w u t : V) → partners s y x ≡ true → partners s y z ≡ true → x < z
      → Together M (with_one M s y x u w) (both M s y z w t)
  pub onto_two : (y x z : ℕ) (w u t : V) → partners s y x ≡ true → partners s y z ≡ true → x < z
      → Together M (two_score M (s.two x z) u t) (with_two M s y x z u t w)
