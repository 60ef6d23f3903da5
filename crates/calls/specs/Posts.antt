-- A layout's score is also the join, over all standing posts, of the entry that the layout selects. Assumes nothing.
use Rattle.std.specs.Prelude.{◌≡◌, ℕ, Bool, List, [], ◌∷◌, None}
use Rattle.score.specs.Model.{Model, joined}
use Rattle.calls.specs.declared.changes.Change.TheVariants.{One, Pair, Pin, Free}
use Rattle.calls.specs.Questions.{view_of, first_no, change_questions}
use Rattle.calls.specs.Standing.{Standing, fresh, more, score_of, layout_score}
use Rattle.score.specs.Values.{at_four, at_two}

-- each change was accepted when it came
abbrev pub Valid : {E S : Type 0} → Model E S → ℕ → Standing E → Type 0
Valid M n fresh = Unit {0}
Valid M n (more cs c) = Valid M n cs × (first_no (change_questions M (view_of n cs) c) ≡ None)

-- the score of the entry that the layout selects in each standing post
abbrev pub selected : {E S : Type 0} → Model E S → Standing E → (ℕ → Bool) → List S
selected M fresh L = []
selected M (more cs (One v es)) L = score_of M (at_two es (L v)) ∷ selected M cs L
selected M (more cs (Pair a b es)) L = score_of M (at_four es (L a) (L b)) ∷ selected M cs L
selected M (more cs (Pin v x)) L = selected M cs L
selected M (more cs (Free v)) L = selected M cs L

abbrev pub OverPosts : {E S : Type 0} → Model E S → Type 0
OverPosts {E} M = (n : ℕ) (cs : Standing E) → Valid M n cs → (L : ℕ → Bool) → layout_score M n cs L ≡ joined M (selected M cs L)
