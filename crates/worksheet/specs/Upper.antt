-- The largest and the star bound are at least every value of the sheet. Assumes nothing.
use Rattle.std.specs.Prelude.{◌≡◌, ℕ, zero, suc, Bool, true, false, Some}
use Rattle.std.proofs.Common.{sym, subst, ⊎_elim}
use Rattle.std.proofs.lemmas.Bool.{cases_Bool, cond-true, cond-false}
use Rattle.score.specs.Model.{Model, Laws, better}
use Rattle.steps.specs.Change.{own}
use Rattle.steps.specs.Claims.{Admissible}
use Rattle.steps.specs.Sheet.{over, two_score, value}
use Rattle.steps.proofs.Choices.{at_most_same, at_most_turned, keeps_left}
use Rattle.steps.proofs.Joins.{over_join}
use Rattle.worksheet.specs.Bounds.{best_four, largest, arm, star}

module _ {E S : Type 0} (M : Model E S) (laws : Laws M) where
  both_joins : (a b c d : S) → M.at_most a b ≡ true → M.at_most c d ≡ true → M.at_most (M.join a c) (M.join b d) ≡ true
  both_joins a b c d p q = laws.trans _ (M.join b c) _ (laws.keeps a b c p) (keeps_left laws c d b q)

  over_most : (n : ℕ) (f g : ℕ → S) → ((v : ℕ) → M.at_most (f v) (g v) ≡ true) → M.at_most (over M n f) (over M n g) ≡ true
  over_most zero f g h = at_most_same laws M.neutral
  over_most (suc n) f g h = both_joins (over M n f) (over M n g) (f n) (g n) (over_most n f g h) (h n)

  better_first : (a b : S) → M.at_most a (better M a b) ≡ true
  better_first a b =
      ⊎_elim
      (λ (e : M.at_most b a ≡ true). subst (λ x. M.at_most a x ≡ true) (sym (cond-true (M.at_most b a) a b e)) (at_most_same laws a))
      (λ (e : M.at_most b a ≡ false). subst (λ x. M.at_most a x ≡ true) (sym (cond-false (M.at_most b a) a b e)) (at_most_turned laws b a e))
      (cases_Bool (M.at_most b a))

  better_second : (a b : S) → M.at_most b (better M a b) ≡ true
  better_second a b =
      ⊎_elim
      (λ (e : M.at_most b a ≡ true). subst (λ x. M.at_most b x ≡ true) (sym (cond-true (M.at_most b a) a b e)) e)
      (λ (e : M.at_most b a ≡ false). subst (λ x. M.at_most b x ≡ true) (sym (cond-false (M.at_most b a) a b e)) (at_most_same laws b))
      (cases_Bool (M.at_most b a))

  better_of : (f : Bool → S) (u : Bool) → M.at_most (f u) (better M (f false) (f true)) ≡ true
  better_of f false = better_first (f false) (f true)
  better_of f true = better_second (f false) (f true)

  best_of_four : (f : Bool → Bool → S) (u w : Bool) → M.at_most (f u w) (best_four M f) ≡ true
  best_of_four f false w = laws.trans _ _ _ (better_of (f false) w) (better_first (better M (f false false) (f false true)) (better M (f true false) (f true true)))
  best_of_four f true w = laws.trans _ _ _ (better_of (f true) w) (better_second (better M (f false false) (f false true)) (better M (f true false) (f true true)))

  under : {b c : S} → Some c ≡ Some b → (x : S) → M.at_most x c ≡ true → M.at_most x b ≡ true
  under {b} {c} e x h = let is : c ≡ b = cc in subst (λ y. M.at_most x y ≡ true) is h

  pub largest_admissible : Admissible M Bool (largest M)
  largest_admissible s b sound e l =
      under e (value M s l)
      (keeps_left laws _ _ s.base
      (both_joins _ _ _ _
      (over_most s.size _ (λ v. better M (own M s v false) (own M s v true)) (λ v. better_of (own M s v) (l v)))
      (over_most s.size _ (λ a. over M s.size (λ c. best_four M (two_score M (s.two a c))))
      (λ a. over_most s.size _ (λ c. best_four M (two_score M (s.two a c))) (λ c. best_of_four (two_score M (s.two a c)) (l a) (l c))))))

  pub star_admissible : Admissible M Bool (star M)
  star_admissible s b sound e l =
      let rows : ℕ → S = λ v. over M s.size (λ c. two_score M (s.two v c) (l v) (l c)) in
      under e (value M s l)
      (keeps_left laws _ _ s.base
      (subst (λ x. M.at_most x (over M s.size (λ v. better M (arm M s v false) (arm M s v true))) ≡ true)
      (over_join laws s.size (λ v. own M s v (l v)) rows)
      (over_most s.size (λ v. M.join (own M s v (l v)) (rows v)) (λ v. better M (arm M s v false) (arm M s v true))
      (λ v. laws.trans _ (arm M s v (l v)) _
      (keeps_left laws _ _ (own M s v (l v))
      (over_most s.size (λ c. two_score M (s.two v c) (l v) (l c)) (λ c. better M (two_score M (s.two v c) (l v) false) (two_score M (s.two v c) (l v) true))
      (λ c. better_of (two_score M (s.two v c) (l v)) (l c))))
      (better_of (arm M s v) (l v))))))
