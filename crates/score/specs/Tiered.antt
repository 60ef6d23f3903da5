-- Two kinds, one above the other, and the kind "tiered": weights over any kind. Assumes nothing.
use Rattle.std.specs.Prelude.{ℕ, Bool, true, cond, ◌&&◌, List, ℤ, pos, negsuc, ◌+ℤ◌, Some, None, codes, Option, int_le}
use Rattle.std.specs.Int.{saturate_to_bits}
use Rattle.std.specs.Fmt.{signed_decimal, option_append}
use Rattle.score.specs.declared.tiers.Tiered.{Tiered}
use Rattle.score.specs.declared.tiers.Weighted.{Weighted}
use Rattle.score.specs.Adding.{adding}
use Rattle.score.specs.Model.{Model}

-- both scores, where both entries are taken
abbrev pub both : {A B : Type 0} → Option A → Option B → Option (A × B)
both (Some a) (Some b) = Some (a, b)
both (Some a) None = None
both None (Some b) = None
both None None = None

-- The first parts join by the first kind, the second parts by the second.
-- The first parts are compared first, the second parts if the first are equal, that is, each at most the other.
module _ {P E F A B : Type 0} (first_of : P → E) (second_of : P → F) (first : Model E A) (second : Model F B) where
  abbrev pub tiers_at_most : A × B → A × B → Bool
  tiers_at_most x y = cond (first.at_most y.0 x.0) (first.at_most x.0 y.0 && second.at_most x.1 y.1) true

  abbrev pub tiers : Model P (A × B)
  tiers = record {
    neutral = (first.neutral, second.neutral);
    join = λ x y. (first.join x.0 y.0, second.join x.1 y.1);
    at_most = tiers_at_most;
    score = λ p. both (first.score (first_of p)) (second.score (second_of p));
  }

-- a weight from -1,000 to 1,000
abbrev pub weight_takes : ℤ → Bool
weight_takes w = int_le (negsuc 999) w && int_le w (pos 1000)

abbrev pub weight_score : ℤ → Option ℤ
weight_score w = cond (weight_takes w) (Some w) None

abbrev pub weight_model : Model ℤ ℤ
weight_model = adding weight_score

abbrev pub weight_of : {E : Type 0} → Weighted E → ℤ
weight_of e = e.weight

abbrev pub second_of : {E : Type 0} → Weighted E → E
second_of e = e.second

abbrev pub tiered_model : {E S : Type 0} → Model E S → Model (Weighted E) (ℤ × S)
tiered_model M = tiers weight_of second_of weight_model M

abbrev pub tiered_means : {K S : Type 0} → (K → S) → Tiered K → ℤ × S
tiered_means means t = (t.weight, means t.second)

abbrev pub holds_tiered : {K : Type 0} → ℤ → K → Tiered K
holds_tiered w k = record { weight = w; second = k }

-- what the join of two held scores holds, also where a sum of weights passes 32 bits
abbrev pub tiered_held : {K : Type 0} → (K → K → K) → Tiered K → Tiered K → Tiered K
tiered_held held a b = holds_tiered (saturate_to_bits 31 (a.weight +ℤ b.weight)) (held a.second b.second)

-- both parts print with a comma between them, where the second kind's text is known
abbrev pub tiered_text : {K : Type 0} → (K → Option (List ℕ)) → Tiered K → Option (List ℕ)
tiered_text text t = option_append (Some (signed_decimal t.weight)) (option_append (Some (codes ",")) (text t.second))
