-- What a bound is, and two of the three that are delivered, each a rule from a worksheet's contents to one score. The third says
-- nothing. Assumes nothing.
use Rattle.std.specs.Prelude.{◌≡◌, ℕ, ◌≤◌, Bool, true, false, List, length, Some, Option}
use Rattle.std.specs.Option.{option_map}
use Rattle.score.specs.Model.{Model, better}
use Rattle.steps.specs.Change.{own}
use Rattle.steps.specs.Counts.{Few}
use Rattle.steps.specs.Sheet.{Sheet, over, two_score, value}
use Rattle.steps.specs.Steps.{holding, dropped}
use Rattle.records.specs.declared.pairs.Pair.{Pair}
use Rattle.sheets.specs.declared.variables.Var.{Var}
use Rattle.worksheet.specs.Records.{contents, Arranged}

-- On records of few enough entries, and with enough working memory, the reply is the rule's.
abbrev pub Replies : {E S K : Type 0} → Model E S → (K → S) → (Sheet Bool S → Option S) → K → List (Var K) → List (Pair K) → List (Var K) → Option K → Type 0
Replies M means rule b vs ps work r =
    length vs ≤ length work → Arranged vs ps → Few M (contents means b vs ps) → option_map means r ≡ rule (contents means b vs ps)

-- Where the reply is the rule's, it is at least what any values of the remaining variables select, joined with the base.
abbrev pub Above : {E S K : Type 0} → Model E S → (K → S) → K → List (Var K) → List (Pair K) → List (Var K) → Option K → Type 0
Above {K = K} M means b vs ps work r =
    length vs ≤ length work → Arranged vs ps → Few M (contents means b vs ps)
    → (k : K) → r ≡ Some k → (l : ℕ → Bool) → M.at_most (value M (contents means b vs ps) l) (means k) ≡ true

-- A side is dropped as the steps say, whatever layout is held with the best.
abbrev pub Drops : {E S K : Type 0} → Model E S → (K → S) → Option K → Option K → Bool → Type 0
Drops M means reply best r = (l : ℕ → Bool) → r ≡ dropped M (option_map means reply) (option_map (λ b. holding (means b) l) best)

-- the best of four scores
abbrev pub best_four : {E S : Type 0} → Model E S → (Bool → Bool → S) → S
best_four M f = better M (better M (f false false) (f false true)) (better M (f true false) (f true true))

-- the base joined with each variable's better score and each pair's best of four
abbrev pub largest_score : {E S : Type 0} → Model E S → Sheet Bool S → S
largest_score M s =
    M.join s.base
    (M.join (over M s.size (λ v. better M (own M s v false) (own M s v true)))
    (over M s.size (λ a. over M s.size (λ b. best_four M (two_score M (s.two a b))))))

abbrev pub largest : {E S : Type 0} → Model E S → Sheet Bool S → Option S
largest M s = Some (largest_score M s)

-- a variable's score at u joined with the better entry at u of each pair of which it is the lower
abbrev pub arm : {E S : Type 0} → Model E S → Sheet Bool S → ℕ → Bool → S
arm M s v u = M.join (own M s v u) (over M s.size (λ b. better M (two_score M (s.two v b) u false) (two_score M (s.two v b) u true)))

-- the base joined with the better, over each variable's values, of what it gives
abbrev pub star_score : {E S : Type 0} → Model E S → Sheet Bool S → S
star_score M s = M.join s.base (over M s.size (λ v. better M (arm M s v false) (arm M s v true)))

abbrev pub star : {E S : Type 0} → Model E S → Sheet Bool S → Option S
star M s = Some (star_score M s)
