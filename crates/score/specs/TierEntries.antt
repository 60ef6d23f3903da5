-- A tiered score of m entries is of m entries in each part. Assumes nothing.
use Rattle.std.specs.Prelude.{◌≡◌, ℕ, List, [], ◌∷◌, map, Some, None, Option, refl}
use Rattle.std.proofs.Common.{ap, ◌∙◌}
use Rattle.std.proofs.lemmas.List.{length-map}
use Rattle.std.proofs.ByRecursion.{All-map, All-weaker}
use Rattle.score.specs.Model.{Model, Entered, Of, Together, joined}
use Rattle.score.specs.Tiered.{both, tiers}

both_parts : {A B : Type 0} (a : Option A) (b : Option B) (x : A × B) → both a b ≡ Some x → (a ≡ Some x.0) × (b ≡ Some x.1)
both_parts (Some a) (Some b) x h = let e : (a, b) ≡ x = cc in (ap (λ y. Some y.0) e, ap (λ y. Some y.1) e)
both_parts (Some a) None x h = absurd cc
both_parts None (Some b) x h = absurd cc
both_parts None None x h = absurd cc

-- a part of each score, and what the kind of that part makes of them
part_of : {P E X Y : Type 0} (M : Model P X) (N : Model E Y) (f : X → Y)
    → ((x : X) → Entered M x → Entered N (f x))
    → ((xs : List X) → joined N (map f xs) ≡ f (joined M xs))
    → (m : ℕ) (x : X) → Of M m x → Of N m (f x)
part_of M N f entered joins m x o = record {
  scores = map f o.scores;
  few = simp length-map o.few;
  each = All-map (Entered N) f o.scores (All-weaker (Entered M) (λ s. Entered N (f s)) entered o.scores o.each);
  joins = joins o.scores ∙ ap f o.joins;
}

module _ {P E F A B : Type 0} (first_of : P → E) (second_of : P → F) (first : Model E A) (second : Model F B) where
  entered_first : (x : A × B) → Entered (tiers first_of second_of first second) x → Entered first x.0
  entered_first x t = record { entry = first_of t.entry; scored = (both_parts _ _ x t.scored).0 }

  entered_second : (x : A × B) → Entered (tiers first_of second_of first second) x → Entered second x.1
  entered_second x t = record { entry = second_of t.entry; scored = (both_parts _ _ x t.scored).1 }

  joined_first : (xs : List (A × B)) → joined first (map (λ x. x.0) xs) ≡ (joined (tiers first_of second_of first second) xs).0
  joined_first [] = refl
  joined_first (x ∷ xs) = ap (first.join x.0) (joined_first xs)

  joined_second : (xs : List (A × B)) → joined second (map (λ x. x.1) xs) ≡ (joined (tiers first_of second_of first second) xs).1
  joined_second [] = refl
  joined_second (x ∷ xs) = ap (second.join x.1) (joined_second xs)

  of_first : (m : ℕ) (x : A × B) → Of (tiers first_of second_of first second) m x → Of first m x.0
  of_first = part_of (tiers first_of second_of first second) first (λ x. x.0) entered_first joined_first

  of_second : (m : ℕ) (x : A × B) → Of (tiers first_of second_of first second) m x → Of second m x.1
  of_second = part_of (tiers first_of second_of first second) second (λ x. x.1) entered_second joined_second

  pub together_first : (x y : A × B) → Together (tiers first_of second_of first second) x y → Together first x.0 y.0
  together_first x y t = record { left = t.left; right = t.right; within = t.within; of_left = of_first _ x t.of_left; of_right = of_first _ y t.of_right }

  pub together_second : (x y : A × B) → Together (tiers first_of second_of first second) x y → Together second x.1 y.1
  together_second x y t = record { left = t.left; right = t.right; within = t.within; of_left = of_second _ x t.of_left; of_right = of_second _ y t.of_right }
