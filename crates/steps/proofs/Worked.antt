-- The little boards, by carrying the steps out. Assumes nothing.
use Rattle.std.proofs.Common.{rules, ◌≡◌, ℕ, ◌≤◌, Bool, true, false, cond, ◌&&◌, eqb, ltb, List, is_some, Some, None, Option, sym, refl, ap, ◌∙◌, subst₂, arith, lit≤}
use Rattle.std.proofs.lemmas.Bool.{both_ways, ltb-true, eqb-true, and_parts}
use Rattle.std.specs.Option.{option_map}
use Rattle.score.specs.Model.{Model}
use Rattle.score.specs.Total.{total_model}
use Rattle.score.specs.Worst.{worst_model}
use Rattle.steps.specs.Sheet.{Sheet, Sound, remaining}
use Rattle.steps.specs.Steps.{Held, whole, Explored}
use Rattle.steps.specs.Start.{banks, start, start_notes}
use Rattle.steps.specs.Examples.{silent, digits, Ends, blank, differing, margins, Examples}
use Rattle.steps.proofs.Run.{Ran, run, run_explored}
use Rattle.steps.proofs.Starts.{unpinned_sound, pinned_sound}

-- a record only where a test passes
only_where : {A : Type 0} (b : Bool) (x : A) → is_some (cond b (Some x) None) ≡ true → b ≡ true
only_where true x h = refl
only_where false x h = absurd (both_ways false refl h)

differing_sound : (n : ℕ) → Sound (differing n)
differing_sound n = unpinned_sound total_model n _ _ (λ a b h.
    let parts = and_parts (ltb a b) (ltb b n) (only_where (ltb a b && ltb b n) _ h) in
    (ltb-true a b parts.0, ltb-true b n parts.1))

-- a board that comes out so when the steps are carried out ends so
worked : {E S : Type 0} (M : Model E S) (s : Sheet Bool S) (c : S) (ds : List Bool) (k n : ℕ) → Sound s
    → remaining (start M (λ _. None) s) ≤ n
    → let r = run M banks silent n (start M (λ _. None) s) (start_notes (λ _. None) s) None in
    (option_map (λ h. h.score) r.new ≡ Some c) → (option_map (λ h. digits h.layout s.size) r.new ≡ Some ds) → (r.splits ≡ k)
    → Ends M s c ds k
worked {S = S} M s c ds k n sound few score layout splits = go r.new refl
  where
    from : Sheet Bool S
    from = start M (λ _. None) s

    r : Ran Bool S
    r = run M banks silent n from (start_notes (λ _. None) s) None

    explored : Explored M banks silent (whole from) (start_notes (λ _. None) s) None r.new r.splits
    explored = run_explored M banks silent n from (start_notes (λ _. None) s) None (pinned_sound M (λ _. None) s sound s.size) few

    unwrap : {A : Type 0} {x y : A} → Some x ≡ Some y → x ≡ y
    unwrap e = cc

    go : (o : Option (Held Bool S)) → r.new ≡ o → Ends M s c ds k
    go None e =
        absurd (both_ways false refl (sym (ap (λ o. is_some (option_map (λ h. h.score) o)) e) ∙ ap is_some score))
    go (Some b) e = record {
      best = b;
      explored = subst₂ (λ o j. Explored M banks silent (whole from) (start_notes (λ _. None) s) None o j) e splits explored;
      scores = unwrap (sym (ap (option_map (λ h. h.score)) e) ∙ score);
      reads = unwrap (sym (ap (option_map (λ h. digits h.layout s.size)) e) ∙ layout);
    }

blank_sound : {E S : Type 0} (M : Model E S) (n : ℕ) → Sound (blank M n)
blank_sound M n = unpinned_sound M n _ _ (λ a b h. absurd (both_ways false refl h))

margins_sound : Sound margins
margins_sound = unpinned_sound worst_model 2 _ _ (λ a b h.
    let parts = and_parts (eqb a 0) (eqb b 1) (only_where (eqb a 0 && eqb b 1) _ h) in
    (omega (arith, eqb-true a 0 parts.0, eqb-true b 1 parts.1), omega (arith, eqb-true b 1 parts.1)))

pub examples : Examples
examples = record {
  entries = search rules;
  one_in_total = worked total_model (blank total_model 1) _ _ 0 1 (blank_sound total_model 1) (lit≤ tt) refl refl refl;
  one_in_worst = worked worst_model (blank worst_model 1) _ _ 0 1 (blank_sound worst_model 1) (lit≤ tt) refl refl refl;
  three_differ = worked total_model (differing 3) _ _ 0 3 (differing_sound 3) (lit≤ tt) refl refl refl;
  four_differ = worked total_model (differing 4) _ _ 1 4 (differing_sound 4) (lit≤ tt) refl refl refl;
  two_margins = worked worst_model margins _ _ 0 2 margins_sound (lit≤ tt) refl refl refl;
}
