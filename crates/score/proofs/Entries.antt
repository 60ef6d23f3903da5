-- The laws of "of m entries" hold for every kind. Assumes nothing.
use Rattle.std.proofs.Common.{◌≡◌, ℕ, ◌+◌, ◌≤◌, max, Bool, true, false, cond, List, [], ◌∷◌, ◌++◌, Some, sym, refl, ap, ◌∙◌, arith, length-append}
use Rattle.std.proofs.ByRecursion.{All-append}
use Rattle.score.specs.Model.{Model, Laws, Entered, Of, joined}
use Rattle.score.specs.Entries.{EntryLaws}

module _ {E S : Type 0} (M : Model E S) where
  pub of_fewer : (m n : ℕ) (a : S) → m ≤ n → Of M m a → Of M n a
  of_fewer m n a h o = record { scores = o.scores; few = omega (arith, o.few); each = o.each; joins = o.joins }

  pub of_none : Of M 0 M.neutral
  of_none = record { scores = []; few = omega arith; each = tt; joins = refl }

  of_chosen : (m n : ℕ) (a b : S) (t : Bool) → Of M m a → Of M n b → Of M (max m n) (cond t a b)
  of_chosen m n a b true p q = of_fewer m (max m n) a (omega arith) p
  of_chosen m n a b false p q = of_fewer n (max m n) b (omega arith) q

module _ {E S : Type 0} (M : Model E S) (laws : Laws M) where
  pub unit_right : (a : S) → M.join a M.neutral ≡ a
  unit_right a = laws.comm a M.neutral ∙ laws.unit a

  pub joined_append : (xs ys : List S) → joined M (xs ++ ys) ≡ M.join (joined M xs) (joined M ys)
  joined_append [] ys = sym (laws.unit (joined M ys))
  joined_append (x ∷ xs) ys = ap (M.join x) (joined_append xs ys) ∙ sym (laws.assoc x (joined M xs) (joined M ys))

  pub of_one : (e : E) (s : S) → M.score e ≡ Some s → Of M 1 s
  of_one e s h = record { scores = s ∷ []; few = omega arith; each = (record { entry = e; scored = h }, tt); joins = unit_right s }

  pub of_sum : (m n : ℕ) (a b : S) → Of M m a → Of M n b → Of M (m + n) (M.join a b)
  of_sum m n a b p q = record {
    scores = p.scores ++ q.scores;
    few = simp length-append (omega (arith, p.few, q.few));
    each = All-append (Entered M) p.scores q.scores p.each q.each;
    joins = joined_append p.scores q.scores ∙ ap (λ s. M.join s (joined M q.scores)) p.joins ∙ ap (M.join a) q.joins;
  }

  pub entry_laws : EntryLaws M
  entry_laws = record {
    none = of_none M;
    one = of_one;
    sum = of_sum;
    most = λ m n a b p q. of_chosen M m n a b (M.at_most b a) p q;
    fewer = of_fewer M;
  }
