-- A layout's bytes, one by one. Assumes nothing.
use Rattle.std.proofs.Common.{◌≡◌, ℕ, ◌+◌, ◌<◌, ◌≤◌, true, ◌&&◌, ltb, List, length, get_or, drop, ap}
use Rattle.std.proofs.lemmas.List.{drop_more, drop_all}
use Rattle.calls.specs.Questions.{all_values}

pub values_step : (layout : List ℕ) (i : ℕ) → i < length layout → all_values (drop i layout) ≡ (ltb (get_or layout i 0) 2 && all_values (drop (i + 1) layout))
values_step layout i below = ap all_values (drop_more layout i 0 below)

pub values_ended : (layout : List ℕ) (i : ℕ) → length layout ≤ i → all_values (drop i layout) ≡ true
values_ended layout i past = ap all_values (drop_all i layout past)
