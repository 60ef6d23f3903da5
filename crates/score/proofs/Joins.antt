-- A running join: its start, its step and its end. Assumes nothing.
use Rattle.std.proofs.Common.{◌≡◌, ◌+◌, ◌-◌, ◌≤◌, List, [], ◌∷◌, sym, ◌∙◌, subst, arith}
use Rattle.score.specs.Joins.{Within, Joining}
use Rattle.score.specs.Model.{Model, Laws, Together, joined, exact_entries}
use Rattle.score.proofs.Entries.{of_none, of_sum, unit_right}

module _ {E S : Type 0} (M : Model E S) (laws : Laws M) where
  pub joining_start : (ss : List S) → Within M exact_entries ss → Joining M ss (joined M ss) M.neutral
  joining_start ss w = record { entries = 0; room = omega arith; so_far = of_none M; to_come = w; sums = laws.unit (joined M ss) }

  pub joining_end : (whole s : S) → Joining M [] whole s → s ≡ whole
  joining_end whole s j = sym (unit_right M laws s) ∙ j.sums

  -- the next join is within the entries
  pub joining_together : (x : S) (rest : List S) (whole s : S) → Joining M (x ∷ rest) whole s → Together M s x
  joining_together x rest whole s j =
      record { left = j.entries; right = j.to_come.0; within = omega (arith, j.room, j.to_come.1); of_left = j.so_far; of_right = j.to_come.2 }

  pub joining_next : (x : S) (rest : List S) (whole s : S) → Joining M (x ∷ rest) whole s → Joining M rest whole (M.join s x)
  joining_next x rest whole s j =
      let m = j.entries in
      let k = j.to_come.0 in
      let few : k ≤ exact_entries - m = j.to_come.1 in
      let room : m ≤ exact_entries = j.room in
      let left : exact_entries - m - k ≡ exact_entries - (m + k) = omega arith in
      record {
        entries = m + k;
        room = omega arith;
        so_far = of_sum M laws m k s x j.so_far j.to_come.2;
        to_come = subst (λ i. Within M i rest) left j.to_come.3;
        sums = laws.assoc s x (joined M rest) ∙ j.sums;
      }
