-- What is shown of each case of an option. Assumes nothing.
use Rattle.std.proofs.Common.{◌≡◌, Some, None, Option, subst, MatchOption}

module _ {T : Type 0} (P : Type 0) (Q : T → Type 0) (o : Option T) where
  pub if_none : None ≡ o → P → MatchOption o P Q
  if_none e p = subst (λ q. MatchOption q P Q) e p

  pub if_some : (x : T) → Some x ≡ o → Q x → MatchOption o P Q
  if_some x e q = subst (λ q. MatchOption q P Q) e q
