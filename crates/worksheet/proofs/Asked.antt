-- What the questions before a removal have found. Assumes nothing.
use Rattle.std.proofs.Common.{◌≡◌, ℕ, ◌≤◌, Bool, true, false, cond, ltb, ◌⊎◌, List, [], ◌∷◌, length, is_some, Some, None, Option, sym, refl, ap, ◌∙◌, subst, inl, inr, arith}
use Rattle.std.specs.List.{slice_get}
use Rattle.std.proofs.lemmas.Bool.{both_ways, ltb-true, ltb-false}
use Rattle.partners.specs.declared.links.ByOne.{ByOne}
use Rattle.partners.specs.declared.links.ByTwo.{ByTwo}
use Rattle.partners.specs.declared.links.Links.{Links}
use Rattle.partners.specs.declared.links.Links.TheVariants.{Alone, Two as Pairs, More}
use Rattle.records.specs.declared.pairs.Link.{Link}
use Rattle.records.specs.declared.pairs.Pair.{Pair}
use Rattle.sheets.specs.declared.variables.Var.{Var}
use Rattle.sheets.specs.declared.variables.Var.TheVariants.{Remains, Left}
use Rattle.sheets.specs.Variables.{remaining}
use Rattle.score.specs.declared.values.Two.{Two}
use Rattle.partners.specs.Links.{front, links, with_link, add_link, gather, present_at, with_no_link, with_one_link, with_two_links, alone_at, one_at, two_at}
use Rattle.worksheet.specs.Records.{var_says}
use Rattle.std.specs.Option.{option_map}
use Rattle.worksheet.proofs.Partners.{link_cases}

module _ {K : Type 0} where
  abbrev fold_links : Links K → List (Link K) → Links K
  fold_links k [] = k
  fold_links k (l ∷ ls) = fold_links (with_link k l) ls

  gather_links : (y : ℕ) (ps : List (Pair K)) (k : Links K) → gather y k ps ≡ fold_links k (links y ps)
  gather_links y [] k = refl
  gather_links y (p ∷ ps) k =
      link_cases y p (λ o. gather y (add_link k o) ps ≡ fold_links k (front o (links y ps)))
      (λ _. gather_links y ps _) (λ _ _. gather_links y ps _) (λ _ _. gather_links y ps k)

  stays_more : (ls : List (Link K)) → fold_links More ls ≡ More
  stays_more [] = refl
  stays_more (l ∷ ls) = stays_more ls

  -- the first two, the lower partner first
  abbrev in_order : Link K → Link K → Links K
  in_order a b = cond (ltb b.partner a.partner) (Pairs b a) (Pairs a b)

  three_more : (a b d : Link K) (ls : List (Link K)) → fold_links (in_order a b) (d ∷ ls) ≡ More
  three_more a b d ls = go (ltb b.partner a.partner)
    where
      go : (t : Bool) → fold_links (with_link (cond t (Pairs b a) (Pairs a b)) d) ls ≡ More
      go true = stays_more ls
      go false = stays_more ls

  pub present_is : (vs : List (Var K)) (y : ℕ) (r : Two K) → present_at vs y ≡ Some r → slice_get vs y ≡ Some (Remains r)
  present_is vs y r e = go (slice_get vs y) e
    where
      go : (o : Option (Var K)) → (elim o [ None ↦ None | Some q ↦ remaining q ]) ≡ Some r → o ≡ Some (Remains r)
      go None e = absurd cc
      go (Some (Remains q)) e = ap (option_map Remains) e
      go (Some (Left q)) e = absurd cc

  pub absent_is : {S : Type 0} (means : K → S) (vs : List (Var K)) (y : ℕ) → present_at vs y ≡ None → is_some (var_says means (slice_get vs y)) ≡ false
  absent_is means vs y e = go (slice_get vs y) e
    where
      go : (o : Option (Var K)) → ◌≡◌ {A = Option (Two K)} (elim o [ None ↦ None | Some q ↦ remaining q ]) None → is_some (var_says means o) ≡ false
      go None e = refl
      go (Some (Remains q)) e = absurd cc
      go (Some (Left q)) e = refl

  -- an answer has the variable's scores and what its links answer
  asked : {X : Type 0} (f : Links K → Two K → Option X) (vs : List (Var K)) (ps : List (Pair K)) (y : ℕ) (x : X)
      → (elim (present_at vs y) [ None ↦ None | Some r ↦ f (gather y Alone ps) r ]) ≡ Some x
      → (r : Two K) × (slice_get vs y ≡ Some (Remains r)) × (f (fold_links Alone (links y ps)) r ≡ Some x)
  asked {X} f vs ps y x e = go (present_at vs y) refl e
    where
      go : (o : Option (Two K)) → present_at vs y ≡ o → (elim o [ None ↦ None | Some r ↦ f (gather y Alone ps) r ]) ≡ Some x
          → (r : Two K) × (slice_get vs y ≡ Some (Remains r)) × (f (fold_links Alone (links y ps)) r ≡ Some x)
      go None is e = absurd cc
      go (Some r) is e = (r, present_is vs y r is, ap (λ k. f k r) (sym (gather_links y ps Alone)) ∙ e)

  -- no answer: the variable does not remain, or its links do not answer
  unasked : {X S : Type 0} (means : K → S) (f : Links K → Two K → Option X) (vs : List (Var K)) (ps : List (Pair K)) (y : ℕ)
      → ◌≡◌ {A = Option X} (elim (present_at vs y) [ None ↦ None | Some r ↦ f (gather y Alone ps) r ]) None
      → is_some (var_says means (slice_get vs y)) ≡ true → (r : Two K) × (f (fold_links Alone (links y ps)) r ≡ None)
  unasked {X} means f vs ps y e there = go (present_at vs y) refl e
    where
      go : (o : Option (Two K)) → present_at vs y ≡ o → ◌≡◌ {A = Option X} (elim o [ None ↦ None | Some r ↦ f (gather y Alone ps) r ]) None → (r : Two K) × (f (fold_links Alone (links y ps)) r ≡ None)
      go None is e = absurd (both_ways (is_some (var_says means (slice_get vs y))) (absent_is means vs y is) there)
      go (Some r) is e = (r, ap (λ k. f k r) (sym (gather_links y ps Alone)) ∙ e)

  pub alone_asked : (vs : List (Var K)) (ps : List (Pair K)) (y : ℕ) (r : Two K) → alone_at vs ps y ≡ Some r
      → (slice_get vs y ≡ Some (Remains r)) × (links y ps ≡ [])
  alone_asked vs ps y r e =
      let q = asked with_no_link vs ps y r e in
      go (links y ps) q.0 q.1 q.2
    where
      go : (ls : List (Link K)) (q : Two K) → slice_get vs y ≡ Some (Remains q) → with_no_link (fold_links Alone ls) q ≡ Some r → (slice_get vs y ≡ Some (Remains r)) × (ls ≡ [])
      go [] q there e = (there ∙ ap (option_map Remains) e, refl)
      go (a ∷ []) q there e = absurd cc
      go (a ∷ b ∷ []) q there e = two (ltb b.partner a.partner) e
        where
          two : (t : Bool) → with_no_link (cond t (Pairs b a) (Pairs a b)) q ≡ Some r → (slice_get vs y ≡ Some (Remains r)) × (a ∷ b ∷ [] ≡ [])
          two true e = absurd cc
          two false e = absurd cc
      go (a ∷ b ∷ d ∷ ls) q there e = let m : None ≡ Some r = sym (ap (λ k. with_no_link k q) (three_more a b d ls)) ∙ e in absurd cc

  pub alone_unasked : {S : Type 0} (means : K → S) (vs : List (Var K)) (ps : List (Pair K)) (y : ℕ) → alone_at vs ps y ≡ None
      → is_some (var_says means (slice_get vs y)) ≡ true → length (links y ps) ≡ 0 → ⊥
  alone_unasked means vs ps y e there none = let q = unasked means with_no_link vs ps y e there in go (links y ps) q.0 q.1 none
    where
      go : (ls : List (Link K)) (r : Two K) → with_no_link (fold_links Alone ls) r ≡ None → length ls ≡ 0 → ⊥
      go [] r e h = cc
      go (a ∷ ls) r e h = omega (arith, h)

  pub one_asked : (vs : List (Var K)) (ps : List (Pair K)) (y : ℕ) (x : ByOne K) → one_at vs ps y ≡ Some x
      → (slice_get vs y ≡ Some (Remains x.var)) × (links y ps ≡ x.link ∷ [])
  one_asked vs ps y x e =
      let q = asked with_one_link vs ps y x e in
      go (links y ps) q.0 q.1 q.2
    where
      go : (ls : List (Link K)) (q : Two K) → slice_get vs y ≡ Some (Remains q) → with_one_link (fold_links Alone ls) q ≡ Some x → (slice_get vs y ≡ Some (Remains x.var)) × (ls ≡ x.link ∷ [])
      go [] q there e = absurd cc
      go (a ∷ []) q there e =
          let is : record { var = q; link = a } ≡ x = cc in
          (there ∙ ap (λ b. Some (Remains b.var)) is, ap (λ b. b.link ∷ []) is)
      go (a ∷ b ∷ []) q there e = two (ltb b.partner a.partner) e
        where
          two : (t : Bool) → with_one_link (cond t (Pairs b a) (Pairs a b)) q ≡ Some x → (slice_get vs y ≡ Some (Remains x.var)) × (a ∷ b ∷ [] ≡ x.link ∷ [])
          two true e = absurd cc
          two false e = absurd cc
      go (a ∷ b ∷ d ∷ ls) q there e = let m : None ≡ Some x = sym (ap (λ k. with_one_link k q) (three_more a b d ls)) ∙ e in absurd cc

  pub one_unasked : {S : Type 0} (means : K → S) (vs : List (Var K)) (ps : List (Pair K)) (y : ℕ) → one_at vs ps y ≡ None
      → is_some (var_says means (slice_get vs y)) ≡ true → length (links y ps) ≡ 1 → ⊥
  one_unasked means vs ps y e there one = let q = unasked means with_one_link vs ps y e there in go (links y ps) q.0 q.1 one
    where
      go : (ls : List (Link K)) (r : Two K) → with_one_link (fold_links Alone ls) r ≡ None → length ls ≡ 1 → ⊥
      go [] r e h = omega (arith, h)
      go (a ∷ []) r e h = cc
      go (a ∷ b ∷ ls) r e h = omega (arith, h)

  pub two_asked : (vs : List (Var K)) (ps : List (Pair K)) (y : ℕ) (x : ByTwo K) → two_at vs ps y ≡ Some x
      → (slice_get vs y ≡ Some (Remains x.var)) × (x.low.partner ≤ x.high.partner) × ((links y ps ≡ x.low ∷ x.high ∷ []) ⊎ (links y ps ≡ x.high ∷ x.low ∷ []))
  two_asked vs ps y x e =
      let q = asked with_two_links vs ps y x e in
      go (links y ps) q.0 q.1 q.2
    where
      go : (ls : List (Link K)) (q : Two K) → slice_get vs y ≡ Some (Remains q) → with_two_links (fold_links Alone ls) q ≡ Some x
          → (slice_get vs y ≡ Some (Remains x.var)) × (x.low.partner ≤ x.high.partner) × ((ls ≡ x.low ∷ x.high ∷ []) ⊎ (ls ≡ x.high ∷ x.low ∷ []))
      go [] q there e = absurd cc
      go (a ∷ []) q there e = absurd cc
      go (a ∷ b ∷ []) q there e = two (ltb b.partner a.partner) refl e
        where
          two : (t : Bool) → ltb b.partner a.partner ≡ t → with_two_links (cond t (Pairs b a) (Pairs a b)) q ≡ Some x
              → (slice_get vs y ≡ Some (Remains x.var)) × (x.low.partner ≤ x.high.partner) × ((a ∷ b ∷ [] ≡ x.low ∷ x.high ∷ []) ⊎ (a ∷ b ∷ [] ≡ x.high ∷ x.low ∷ []))
          two true t e =
              let is : record { var = q; low = b; high = a } ≡ x = cc in
              (there ∙ ap (λ d. Some (Remains d.var)) is, subst (λ d. d.low.partner ≤ d.high.partner) is (omega (arith, ltb-true b.partner a.partner t)), inr (ap (λ d. d.high ∷ d.low ∷ []) is))
          two false t e =
              let is : record { var = q; low = a; high = b } ≡ x = cc in
              (there ∙ ap (λ d. Some (Remains d.var)) is, subst (λ d. d.low.partner ≤ d.high.partner) is (ltb-false b.partner a.partner t), inl (ap (λ d. d.low ∷ d.high ∷ []) is))
      go (a ∷ b ∷ d ∷ ls) q there e = let m : None ≡ Some x = sym (ap (λ k. with_two_links k q) (three_more a b d ls)) ∙ e in absurd cc

  pub two_unasked : {S : Type 0} (means : K → S) (vs : List (Var K)) (ps : List (Pair K)) (y : ℕ) → two_at vs ps y ≡ None
      → is_some (var_says means (slice_get vs y)) ≡ true → length (links y ps) ≡ 2 → ⊥
  two_unasked means vs ps y e there two = let q = unasked means with_two_links vs ps y e there in go (links y ps) q.0 q.1 two
    where
      go : (ls : List (Link K)) (r : Two K) → with_two_links (fold_links Alone ls) r ≡ None → length ls ≡ 2 → ⊥
      go [] r e h = omega (arith, h)
      go (a ∷ []) r e h = omega (arith, h)
      go (a ∷ b ∷ []) r e h = both (ltb b.partner a.partner) e
        where
          both : (t : Bool) → with_two_links (cond t (Pairs b a) (Pairs a b)) r ≡ None → ⊥
          both true e = cc
          both false e = cc
      go (a ∷ b ∷ d ∷ ls) r e h = omega (arith, h)
