-- The scores over variables and kept pairs are those over standing posts. Assumes nothing.
use Rattle.std.proofs.Common.{◌≡◌, ℕ, zero, suc, ◌+◌, ◌<◌, min, max, Bool, true, false, cond, ◌||◌, eqb, ltb, List, [], ◌∷◌, ◌++◌, map, sym, refl, ap, ◌∙◌, subst, arith}
use Rattle.std.proofs.lemmas.List.{append-nil, map_push}
use Rattle.std.proofs.lemmas.Bool.{true≢false, or_parts, and_parts, and_from, cond-true, cond-false, eq-eqb, eqb-true, ltb-true, ltb-false, lt-ltb}
use Rattle.std.proofs.lemmas.Bool.Decides.{nat_tests}
use Rattle.score.specs.Model.{Model, Laws, joined}
use Rattle.score.proofs.Entries.{joined_append, unit_right}
use Rattle.calls.specs.declared.changes.Change.TheVariants.{One, Pair, Pin, Free}
use Rattle.score.specs.declared.values.Four.{Four}
use Rattle.calls.specs.Posts.{Valid, selected, OverPosts}
use Rattle.calls.specs.Questions.{view_of}
use Rattle.calls.specs.Standing.{Standing, fresh, more, posted_at, score_of, one_score, pair_score, key, same_key, has_key, kept_pairs, variables, layout_score, how_many}
use Rattle.score.specs.Values.{at_four, at_two}
use Rattle.calls.proofs.Asked.{one_passed}

or_false : (a : Bool) → (a || false) ≡ a
or_false true = refl
or_false false = refl

or_assoc : (a b c : Bool) → ((a || b) || c) ≡ (a || (b || c))
or_assoc true b c = refl
or_assoc false b c = refl

how_many_append : {X : Type 0} (t : X → Bool) (xs ys : List X) → how_many t (xs ++ ys) ≡ how_many t xs + how_many t ys
how_many_append t [] ys = omega arith
how_many_append t (x ∷ xs) ys = omega (arith, how_many_append t xs ys)

-- a number below n stands once among the variables
once_below : (v n : ℕ) → how_many (eqb v) (variables n) ≡ cond (ltb v n) 1 0
once_below v zero = grind (arith, nat_tests)
once_below v (suc n) =
    let rest = how_many_append (eqb v) (variables n) (n ∷ []) in
    let before = once_below v n in
    grind (arith, nat_tests, rest, before)

pub same_key_same : (p q : ℕ × ℕ) → same_key p q ≡ true → p ≡ q
same_key_same p q h =
    let both = and_parts (eqb p.0 q.0) (eqb p.1 q.1) h in
    λ i. (eqb-true p.0 q.0 both.0 i, eqb-true p.1 q.1 both.1 i)

pub same_key_refl : (p : ℕ × ℕ) → same_key p p ≡ true
same_key_refl p = and_from (eqb p.0 p.0) (eqb p.1 p.1) (eq-eqb p.0 p.0 refl) (eq-eqb p.1 p.1 refl)

pub same_key_sym : (p q : ℕ × ℕ) → same_key p q ≡ same_key q p
same_key_sym p q = grind (arith, nat_tests)

pub has_key_push : (k q : ℕ × ℕ) (ps : List (ℕ × ℕ)) → has_key k (ps ++ q ∷ []) ≡ (has_key k ps || same_key k q)
has_key_push k q [] = or_false (same_key k q)
has_key_push k q (p ∷ ps) = ap (λ b. same_key k p || b) (has_key_push k q ps) ∙ sym (or_assoc (same_key k p) (has_key k ps) (same_key k q))

module _ {E : Type 0} where
  -- a pair is kept after a post if it was, or if the post is its own
  pub kept_after : (cs : Standing E) (a b : ℕ) (es : Four E) (k : ℕ × ℕ)
      → has_key k (kept_pairs (more cs (Pair a b es))) ≡ (has_key k (kept_pairs cs) || same_key (key a b) k)
  kept_after cs a b es k = go (has_key (key a b) (kept_pairs cs)) refl
    where
      absorbed : (t u : Bool) → (u ≡ true → t ≡ true) → t ≡ (t || u)
      absorbed true u h = refl
      absorbed false true h = h refl
      absorbed false false h = refl

      go : (t : Bool) → has_key (key a b) (kept_pairs cs) ≡ t → has_key k (cond t (kept_pairs cs) (kept_pairs cs ++ key a b ∷ [])) ≡ (has_key k (kept_pairs cs) || same_key (key a b) k)
      go true e = absorbed _ _ (λ h. subst (λ p. has_key p (kept_pairs cs) ≡ true) (same_key_same (key a b) k h) e)
      go false e = has_key_push k (key a b) (kept_pairs cs) ∙ ap (λ b. has_key k (kept_pairs cs) || b) (same_key_sym k (key a b))

  -- each kept pair is kept once
  pub kept_once : (cs : Standing E) (k : ℕ × ℕ) → how_many (same_key k) (kept_pairs cs) ≡ cond (has_key k (kept_pairs cs)) 1 0
  kept_once fresh k = refl
  kept_once (more cs (One v es)) k = kept_once cs k
  kept_once (more cs (Pair a b es)) k = go (has_key (key a b) (kept_pairs cs)) refl (kept_once cs k)
    where
      pushed : (t u : Bool) (m : ℕ) → m ≡ cond t 1 0 → (u ≡ true → t ≡ false) → m + (cond u 1 0 + 0) ≡ cond (t || u) 1 0
      pushed true true m e h = let z : ◌≡◌ {A = Bool} true false = h refl in absurd (true≢false z)
      pushed true false m e h = omega (arith, e)
      pushed false true m e h = omega (arith, e)
      pushed false false m e h = omega (arith, e)

      go : (t : Bool) → has_key (key a b) (kept_pairs cs) ≡ t → how_many (same_key k) (kept_pairs cs) ≡ cond (has_key k (kept_pairs cs)) 1 0
          → how_many (same_key k) (cond t (kept_pairs cs) (kept_pairs cs ++ key a b ∷ [])) ≡ cond (has_key k (cond t (kept_pairs cs) (kept_pairs cs ++ key a b ∷ []))) 1 0
      go true e rest = rest
      go false e rest =
          how_many_append (same_key k) (kept_pairs cs) (key a b ∷ [])
          ∙ pushed (has_key k (kept_pairs cs)) (same_key k (key a b)) _ rest (λ h. subst (λ p. has_key p (kept_pairs cs) ≡ false) (sym (same_key_same k (key a b) h)) e)
          ∙ ap (λ b. cond b 1 0) (sym (has_key_push k (key a b) (kept_pairs cs)))
  kept_once (more cs (Pin v x)) k = kept_once cs k
  kept_once (more cs (Free v)) k = kept_once cs k

module _ {E S : Type 0} (M : Model E S) where
  -- a pair that is not kept has neutral scores
  pub unkept_neutral : (cs : Standing E) (k : ℕ × ℕ) (x y : Bool) → has_key k (kept_pairs cs) ≡ false → pair_score M cs k x y ≡ M.neutral
  unkept_neutral fresh k x y h = refl
  unkept_neutral (more cs (One v es)) k x y h = unkept_neutral cs k x y h
  unkept_neutral (more cs (Pair a b es)) k x y h =
      let parts = or_parts (has_key k (kept_pairs cs)) (same_key (key a b) k) (sym (kept_after cs a b es k) ∙ h) in
      cond-false (same_key (key a b) k) _ _ parts.1 ∙ unkept_neutral cs k x y parts.0
  unkept_neutral (more cs (Pin v z)) k x y h = unkept_neutral cs k x y h
  unkept_neutral (more cs (Free v)) k x y h = unkept_neutral cs k x y h

-- each variable that is posted onto is one of the n
abbrev pub InRange : {E : Type 0} → ℕ → Standing E → Type 0
InRange n fresh = Unit {0}
InRange n (more cs (One v es)) = InRange n cs × (v < n)
InRange n (more cs (Pair a b es)) = InRange n cs
InRange n (more cs (Pin v x)) = InRange n cs
InRange n (more cs (Free v)) = InRange n cs

pub valid_in_range : {E S : Type 0} (M : Model E S) (n : ℕ) (cs : Standing E) → Valid M n cs → InRange n cs
valid_in_range M n fresh h = tt
valid_in_range M n (more cs (One v es)) h = (valid_in_range M n cs h.0, (one_passed M (view_of n cs) v es h.1).below)
valid_in_range M n (more cs (Pair a b es)) h = valid_in_range M n cs h.0
valid_in_range M n (more cs (Pin v x)) h = valid_in_range M n cs h.0
valid_in_range M n (more cs (Free v)) h = valid_in_range M n cs h.0

module _ {E S : Type 0} (M : Model E S) (laws : Laws M) where
  -- scores joined on at the elements that pass a test
  abbrev touched : {X : Type 0} → (X → Bool) → (X → S) → (X → S) → X → S
  touched t s f x = cond (t x) (M.join (f x) (s x)) (f x)

  swap : (a b c : S) → M.join (M.join a b) c ≡ M.join (M.join a c) b
  swap a b c = laws.assoc a b c ∙ ap (M.join a) (laws.comm b c) ∙ sym (laws.assoc a c b)

  -- where none passes, nothing changes
  joined_untouched : {X : Type 0} (t : X → Bool) (s f : X → S) (xs : List X) → how_many t xs ≡ 0 → joined M (map (touched t s f) xs) ≡ joined M (map f xs)
  joined_untouched t s f [] h = refl
  joined_untouched t s f (x ∷ xs) h = go (t x) h (joined_untouched t s f xs)
    where
      go : (b : Bool) → cond b 1 0 + how_many t xs ≡ 0 → (how_many t xs ≡ 0 → joined M (map (touched t s f) xs) ≡ joined M (map f xs))
          → M.join (cond b (M.join (f x) (s x)) (f x)) (joined M (map (touched t s f) xs)) ≡ M.join (f x) (joined M (map f xs))
      go true e rest = absurd (omega (arith, e))
      go false e rest = ap (M.join (f x)) (rest (omega (arith, e)))

  -- where one passes, its score is joined to the whole
  joined_touched : {X : Type 0} (t : X → Bool) (s f : X → S) (c : S) → ((x : X) → t x ≡ true → s x ≡ c) → (xs : List X) → how_many t xs ≡ 1
      → joined M (map (touched t s f) xs) ≡ M.join (joined M (map f xs)) c
  joined_touched t s f c is [] h = absurd (omega (arith, h))
  joined_touched t s f c is (x ∷ xs) h = go (t x) (is x) h (joined_touched t s f c is xs)
    where
      go : (b : Bool) → (b ≡ true → s x ≡ c) → cond b 1 0 + how_many t xs ≡ 1 → (how_many t xs ≡ 1 → joined M (map (touched t s f) xs) ≡ M.join (joined M (map f xs)) c)
          → M.join (cond b (M.join (f x) (s x)) (f x)) (joined M (map (touched t s f) xs)) ≡ M.join (M.join (f x) (joined M (map f xs))) c
      go true is_c e rest =
          ap (M.join (M.join (f x) (s x))) (joined_untouched t s f xs (omega (arith, e)))
          ∙ swap (f x) (s x) (joined M (map f xs))
          ∙ ap (M.join (M.join (f x) (joined M (map f xs)))) (is_c refl)
      go false is_c e rest = ap (M.join (f x)) (rest (omega (arith, e))) ∙ sym (laws.assoc (f x) (joined M (map f xs)) c)

  posted_selects : (a b : ℕ) (es : Four E) (L : ℕ → Bool) → posted_at a b es (L (min a b)) (L (max a b)) ≡ at_four es (L a) (L b)
  posted_selects a b es L = go (ltb a b) refl
    where
      go : (t : Bool) → ltb a b ≡ t → cond t (at_four es (L (min a b)) (L (max a b))) (at_four es (L (max a b)) (L (min a b))) ≡ at_four es (L a) (L b)
      go true e =
          let low : min a b ≡ a = omega (arith, ltb-true a b e) in
          let high : max a b ≡ b = omega (arith, ltb-true a b e) in
          λ i. at_four es (L (low i)) (L (high i))
      go false e =
          let low : min a b ≡ b = omega (arith, ltb-false a b e) in
          let high : max a b ≡ a = omega (arith, ltb-false a b e) in
          λ i. at_four es (L (high i)) (L (low i))

  -- a post joins the score of its entry to the pairs' scores
  pairs_joined : (cs : Standing E) (a b : ℕ) (es : Four E) (L : ℕ → Bool)
      → joined M (map (λ p. pair_score M (more cs (Pair a b es)) p (L p.0) (L p.1)) (kept_pairs (more cs (Pair a b es))))
      ≡ M.join (joined M (map (λ p. pair_score M cs p (L p.0) (L p.1)) (kept_pairs cs))) (score_of M (at_four es (L a) (L b)))
  pairs_joined cs a b es L = go (has_key (key a b) (kept_pairs cs)) refl
    where
      f : ℕ × ℕ → S
      f p = pair_score M cs p (L p.0) (L p.1)

      s : ℕ × ℕ → S
      s p = score_of M (posted_at a b es (L p.0) (L p.1))

      post : S
      post = score_of M (at_four es (L a) (L b))

      here : (p : ℕ × ℕ) → same_key (key a b) p ≡ true → s p ≡ post
      here p h = ap s (sym (same_key_same (key a b) p h)) ∙ ap (score_of M) (posted_selects a b es L)

      last : has_key (key a b) (kept_pairs cs) ≡ false → touched (same_key (key a b)) s f (key a b) ≡ post
      last e =
          cond-true (same_key (key a b) (key a b)) (M.join (f (key a b)) (s (key a b))) (f (key a b)) (same_key_refl (key a b))
          ∙ ap (λ x. M.join x (s (key a b))) (unkept_neutral M cs (key a b) (L (min a b)) (L (max a b)) e)
          ∙ laws.unit (s (key a b))
          ∙ here (key a b) (same_key_refl (key a b))

      go : (t : Bool) → has_key (key a b) (kept_pairs cs) ≡ t
          → joined M (map (touched (same_key (key a b)) s f) (cond t (kept_pairs cs) (kept_pairs cs ++ key a b ∷ []))) ≡ M.join (joined M (map f (kept_pairs cs))) post
      go true e = joined_touched (same_key (key a b)) s f post here (kept_pairs cs) (kept_once cs (key a b) ∙ cond-true _ 1 0 e)
      go false e =
          ap (joined M) (map_push (touched (same_key (key a b)) s f) (kept_pairs cs) (key a b))
          ∙ joined_append M laws (map (touched (same_key (key a b)) s f) (kept_pairs cs)) (touched (same_key (key a b)) s f (key a b) ∷ [])
          ∙ ap (λ x. M.join x (M.join (touched (same_key (key a b)) s f (key a b)) M.neutral)) (joined_untouched (same_key (key a b)) s f (kept_pairs cs) (kept_once cs (key a b) ∙ cond-false _ 1 0 e))
          ∙ ap (M.join (joined M (map f (kept_pairs cs)))) (unit_right M laws _ ∙ last e)

  pub over_posts_within : (n : ℕ) (cs : Standing E) → InRange n cs → (L : ℕ → Bool) → layout_score M n cs L ≡ joined M (selected M cs L)
  over_posts_within n fresh valid L =
      ap (joined M) (append-nil (map (λ v. M.neutral) (variables n))) ∙ neutrals (variables n)
    where
      neutrals : (xs : List ℕ) → joined M (map (λ v. M.neutral) xs) ≡ M.neutral
      neutrals [] = refl
      neutrals (x ∷ xs) = laws.unit _ ∙ neutrals xs
  over_posts_within n (more cs (One v es)) valid L =
      let below = valid.1 in
      let post = score_of M (at_two es (L v)) in
      let once : how_many (eqb v) (variables n) ≡ 1 = once_below v n ∙ cond-true (ltb v n) 1 0 (lt-ltb v n below) in
      let here : (w : ℕ) → eqb v w ≡ true → score_of M (at_two es (L w)) ≡ post = λ w h. ap (λ u. score_of M (at_two es (L u))) (sym (eqb-true v w h)) in
      let ones = joined_touched (eqb v) (λ w. score_of M (at_two es (L w))) (λ w. one_score M cs w (L w)) post here (variables n) once in
      joined_append M laws _ (map (λ p. pair_score M cs p (L p.0) (L p.1)) (kept_pairs cs))
      ∙ ap (λ s. M.join s (joined M (map (λ p. pair_score M cs p (L p.0) (L p.1)) (kept_pairs cs)))) ones
      ∙ swap _ post _
      ∙ laws.comm _ post
      ∙ ap (M.join post) (sym (joined_append M laws (map (λ w. one_score M cs w (L w)) (variables n)) _) ∙ over_posts_within n cs valid.0 L)
  over_posts_within n (more cs (Pair a b es)) valid L =
      let post = score_of M (at_four es (L a) (L b)) in
      let ones = map (λ w. one_score M cs w (L w)) (variables n) in
      joined_append M laws ones _
      ∙ ap (M.join (joined M ones)) (pairs_joined cs a b es L)
      ∙ sym (laws.assoc (joined M ones) _ post)
      ∙ laws.comm _ post
      ∙ ap (M.join post) (sym (joined_append M laws ones _) ∙ over_posts_within n cs valid L)
  over_posts_within n (more cs (Pin v x)) valid L = over_posts_within n cs valid L
  over_posts_within n (more cs (Free v)) valid L = over_posts_within n cs valid L

  pub over_posts : OverPosts M
  over_posts n cs valid L = over_posts_within n cs (valid_in_range M n cs valid) L
