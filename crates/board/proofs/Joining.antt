-- A running join of held scores, and the scores that a layout selects. Assumes nothing.
use Rattle.std.proofs.Common.{◌≡◌, ℕ, ◌+◌, ◌<◌, List, ◌∷◌, ◌++◌, map, length, get_or, drop, sym, ap, ◌∙◌, subst, add-one}
use Rattle.score.specs.Joins.{Joining}
use Rattle.score.specs.Model.{Model, Laws, Together}
use Rattle.score.proofs.Joins.{joining_together, joining_next}
use Rattle.std.proofs.lemmas.List.{drop_more}
use Rattle.calls.specs.Runs.{values}
use Rattle.records.specs.declared.pairs.Pair.{Pair}
use Rattle.records.specs.declared.variables.Var.{Var}
use Rattle.score.specs.Values.{at_two}
use Rattle.board.specs.Scoring.{vars_at, pair_at, pairs_at, JoinsOn}

module _ {E S K : Type 0} (M : Model E S) (laws : Laws M) (means : K → S) (J : K → K → K)
    (exact : (a b : K) → Together M (means a) (means b) → means (J a b) ≡ M.join (means a) (means b)) where
  -- one more score is joined on
  pub joins_next : (xs : List K) (start : K) (ys zs : List K) (x s s' : K) → ys ≡ x ∷ zs → s' ≡ J s x
      → JoinsOn M means xs start ys s → JoinsOn M means xs start zs s'
  joins_next xs start ys zs x s s' at is so_far rest whole j =
      let here : Joining M (means x ∷ (map means zs ++ rest)) whole (means s) = subst (λ l. Joining M (map means l ++ rest) whole (means s)) at (so_far rest whole j) in
      let sum : M.join (means s) (means x) ≡ means s' = sym (ap means is ∙ exact s x (joining_together M laws (means x) (map means zs ++ rest) whole (means s) here)) in
      subst (Joining M (map means zs ++ rest) whole) sum (joining_next M laws (means x) (map means zs ++ rest) whole (means s) here)

module _ {K : Type 0} (layout : List ℕ) where
  pub vars_step : (rs : List (Var K)) (i : ℕ) (r : Var K) (x : K) → i < length rs → r ≡ get_or rs i r → x ≡ at_two r.scores (values layout i)
      → vars_at layout i (drop i rs) ≡ x ∷ vars_at layout (i + 1) (drop (i + 1) rs)
  vars_step rs i r x below is at =
      ap (vars_at layout i) (drop_more rs i r below ∙ ap (λ q. q ∷ drop (i + 1) rs) (sym is))
      ∙ (λ j. sym at j ∷ vars_at layout (sym (add-one i) j) (drop (i + 1) rs))

  pub pairs_step : (ps : List (Pair K)) (i : ℕ) (p : Pair K) (x : K) → i < length ps → p ≡ get_or ps i p → x ≡ pair_at layout p
      → pairs_at layout (drop i ps) ≡ x ∷ pairs_at layout (drop (i + 1) ps)
  pairs_step ps i p x below is at =
      ap (pairs_at layout) (drop_more ps i p below ∙ ap (λ q. q ∷ drop (i + 1) ps) (sym is)) ∙ ap (λ y. y ∷ pairs_at layout (drop (i + 1) ps)) (sym at)
