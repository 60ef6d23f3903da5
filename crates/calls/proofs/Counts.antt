-- Every score that a board holds is of few enough entries. Assumes nothing.
use Rattle.std.proofs.Common.{◌≡◌, ℕ, suc, ◌+◌, ◌-◌, ◌≤◌, Bool, true, false, cond, ◌&&◌, eqb, ltb, leb, List, [], ◌∷◌, ◌++◌, map, is_some, Some, None, Option, unwrap_or, refl, subst, add_assoc, arith}
use Rattle.std.proofs.lemmas.List.{append-nil}
use Rattle.std.proofs.lemmas.Bool.{false≢true, cond_both}
use Rattle.std.proofs.lemmas.Bool.Decides.{nat_tests}
use Rattle.score.specs.Joins.{Within}
use Rattle.score.specs.Model.{Model, Laws, Of, joined, exact_entries}
use Rattle.score.proofs.Entries.{of_none, of_one, of_sum, of_fewer, joined_append}
use Rattle.calls.specs.declared.changes.Change.TheVariants.{One, Pair, Pin, Free}
use Rattle.score.specs.declared.values.Four.{Four}
use Rattle.calls.specs.Posts.{Valid, selected}
use Rattle.calls.specs.Questions.{view_of, takes, takes_four}
use Rattle.calls.specs.Standing.{Standing, fresh, more, count, posted_at, score_of, one_score, pair_score, key, same_key, kept_pairs, variables}
use Rattle.score.specs.Values.{at_four, at_two}
use Rattle.calls.proofs.Asked.{one_passed, pair_passed, change_room}
use Rattle.calls.proofs.OverPosts.{over_posts_within, valid_in_range}
use Rattle.score.specs.declared.values.Two.{Two}

-- the kind that counts entries
abbrev pub counting : {E : Type 0} → Model E ℕ
counting = record { neutral = 0; join = ◌+◌; at_most = leb; score = λ e. Some 1 }

pub counting_laws : {E : Type 0} → Laws (counting {E = E})
counting_laws = record {
  assoc = λ a b c. add_assoc a b c;
  comm = λ a b. omega arith;
  unit = λ a. omega arith;
  compares = λ a b. grind (arith, nat_tests);
  trans = λ a b c h k. grind (arith, nat_tests);
  antisym = λ a b h k. grind (arith, nat_tests);
  keeps = λ a b c h. grind (arith, nat_tests);
}

all_four : (a b c d : Bool) → (a && (b && (c && d))) ≡ true → (a ≡ true) × (b ≡ true) × (c ≡ true) × (d ≡ true)
all_four true true true d h = (refl, refl, refl, h)
all_four true true false d h = absurd (false≢true h)
all_four true false c d h = absurd (false≢true h)
all_four false b c d h = absurd (false≢true h)

pub four_taken : {E S : Type 0} (M : Model E S) (es : Four E) → takes_four M es ≡ true → (x y : Bool) → takes M (at_four es x y) ≡ true
four_taken M es h x y = go (all_four (takes M es.at00) (takes M es.at01) (takes M es.at10) (takes M es.at11) h) x y
  where
    go : (takes M es.at00 ≡ true) × (takes M es.at01 ≡ true) × (takes M es.at10 ≡ true) × (takes M es.at11 ≡ true) → (x y : Bool) → takes M (at_four es x y) ≡ true
    go all false false = all.0
    go all false true = all.1
    go all true false = all.2
    go all true true = all.3

module _ {E S : Type 0} (M : Model E S) (laws : Laws M) where
  -- the score of a taken entry is of one
  taken_of_one : (e : E) → takes M e ≡ true → Of M 1 (score_of M e)
  taken_of_one e h = go (M.score e) refl h
    where
      go : (o : Option S) → M.score e ≡ o → is_some o ≡ true → Of M 1 (unwrap_or o M.neutral)
      go (Some s) is t = of_one M laws e s is
      go None is t = absurd cc

  four_of_one : (es : Four E) → takes_four M es ≡ true → (x y : Bool) → Of M 1 (score_of M (at_four es x y))
  four_of_one es h x y = taken_of_one (at_four es x y) (four_taken M es h x y)

  -- a score joined on under a test is of one more under that test
  of_touched : (t : Bool) (m : ℕ) (a s : S) → Of M m a → Of M 1 s → Of M (cond t (m + 1) m) (cond t (M.join a s) a)
  of_touched true m a s p q = of_sum M laws m 1 a s p q
  of_touched false m a s p q = p

  one_taken : (es : Two E) → takes M es.zero ≡ true → takes M es.one ≡ true → (x : Bool) → Of M 1 (score_of M (at_two es x))
  one_taken es p q true = taken_of_one es.one q
  one_taken es p q false = taken_of_one es.zero p

  -- a variable's score is of as many entries as were posted onto it
  one_of : (n : ℕ) (cs : Standing E) → Valid M n cs → (w : ℕ) (x : Bool) → Of M (one_score counting cs w x) (one_score M cs w x)
  one_of n fresh h w x = of_none M
  one_of n (more cs (One v es)) h w x =
      let p = one_passed M (view_of n cs) v es h.1 in
      of_touched (eqb v w) _ _ _ (one_of n cs h.0 w x) (one_taken es p.zero_taken p.one_taken x)
  one_of n (more cs (Pair a b es)) h w x = one_of n cs h.0 w x
  one_of n (more cs (Pin v y)) h w x = one_of n cs h.0 w x
  one_of n (more cs (Free v)) h w x = one_of n cs h.0 w x

  posted_taken : (a b : ℕ) (es : Four E) → takes_four M es ≡ true → (x y : Bool) → Of M 1 (score_of M (posted_at a b es x y))
  posted_taken a b es h x y = go (ltb a b)
    where
      go : (t : Bool) → Of M 1 (score_of M (cond t (at_four es x y) (at_four es y x)))
      go true = four_of_one es h x y
      go false = four_of_one es h y x

  pair_of : (n : ℕ) (cs : Standing E) → Valid M n cs → (p : ℕ × ℕ) (x y : Bool) → Of M (pair_score counting cs p x y) (pair_score M cs p x y)
  pair_of n fresh h p x y = of_none M
  pair_of n (more cs (One v es)) h p x y = pair_of n cs h.0 p x y
  pair_of n (more cs (Pair a b es)) h p x y =
      of_touched (same_key (key a b) p) _ _ _ (pair_of n cs h.0 p x y) (posted_taken a b es (pair_passed M (view_of n cs) a b es h.1).taken x y)
  pair_of n (more cs (Pin v z)) h p x y = pair_of n cs h.0 p x y
  pair_of n (more cs (Free v)) h p x y = pair_of n cs h.0 p x y

  -- scores that are of as many entries as are counted, with the counts' sum at most m, are together of m
  within_map : {X : Type 0} (f : X → S) (c : X → ℕ) → ((x : X) → Of M (c x) (f x)) → (xs : List X) (m : ℕ) (rest : List S)
      → joined (counting {E = E}) (map c xs) ≤ m → Within M (m - joined (counting {E = E}) (map c xs)) rest → Within M m (map f xs ++ rest)
  within_map f c each [] m rest h w = let e : m - 0 ≡ m = omega arith in subst (λ i. Within M i rest) e w
  within_map f c each (x ∷ xs) m rest h w =
      let sum = joined (counting {E = E}) (map c xs) in
      let e : m - (c x + sum) ≡ (m - c x) - sum = omega arith in
      (c x, omega (arith, h), each x, within_map f c each xs (m - c x) rest (omega (arith, h)) (subst (λ i. Within M i rest) e w))

-- as many entries as changes stand, at the most
selected_few : {E : Type 0} (cs : Standing E) (L : ℕ → Bool) → joined (counting {E = E}) (selected counting cs L) ≤ count cs
selected_few fresh L = omega arith
selected_few (more cs (One v es)) L = omega (arith, selected_few cs L)
selected_few (more cs (Pair a b es)) L = omega (arith, selected_few cs L)
selected_few (more cs (Pin v x)) L = omega (arith, selected_few cs L)
selected_few (more cs (Free v)) L = omega (arith, selected_few cs L)

one_few : {E : Type 0} (cs : Standing E) (w : ℕ) (x : Bool) → one_score (counting {E = E}) cs w x ≤ count cs
one_few fresh w x = omega arith
one_few (more cs (One v es)) w x = let rest = one_few cs w x in cond_both (eqb v w) _ _ (λ m. m ≤ suc (count cs)) (λ e. omega (arith, rest)) (λ e. omega (arith, rest))
one_few (more cs (Pair a b es)) w x = omega (arith, one_few cs w x)
one_few (more cs (Pin v y)) w x = omega (arith, one_few cs w x)
one_few (more cs (Free v)) w x = omega (arith, one_few cs w x)

pair_few : {E : Type 0} (cs : Standing E) (p : ℕ × ℕ) (x y : Bool) → pair_score (counting {E = E}) cs p x y ≤ count cs
pair_few fresh p x y = omega arith
pair_few (more cs (One v es)) p x y = omega (arith, pair_few cs p x y)
pair_few (more cs (Pair a b es)) p x y =
    let rest = pair_few cs p x y in cond_both (same_key (key a b) p) _ _ (λ m. m ≤ suc (count cs)) (λ e. omega (arith, rest)) (λ e. omega (arith, rest))
pair_few (more cs (Pin v z)) p x y = omega (arith, pair_few cs p x y)
pair_few (more cs (Free v)) p x y = omega (arith, pair_few cs p x y)

module _ {E S : Type 0} (M : Model E S) (laws : Laws M) (n : ℕ) where
  pub valid_few : (cs : Standing E) → Valid M n cs → count cs ≤ exact_entries
  valid_few fresh h = omega arith
  valid_few (more cs c) h = omega (arith, change_room M (view_of n cs) c h.1)

  pub one_of_count : (cs : Standing E) → Valid M n cs → (w : ℕ) (x : Bool) → Of M (count cs) (one_score M cs w x)
  one_of_count cs h w x = of_fewer M _ (count cs) _ (one_few cs w x) (one_of M laws n cs h w x)

  pub pair_of_count : (cs : Standing E) → Valid M n cs → (p : ℕ × ℕ) (x y : Bool) → Of M (count cs) (pair_score M cs p x y)
  pair_of_count cs h p x y = of_fewer M _ (count cs) _ (pair_few cs p x y) (pair_of M laws n cs h p x y)

  -- the scores at a layout's values are together of at most as many entries as a kind joins exactly
  pub layout_within : (cs : Standing E) → Valid M n cs → (L : ℕ → Bool)
      → Within M exact_entries (map (λ v. one_score M cs v (L v)) (variables n) ++ map (λ p. pair_score M cs p (L p.0) (L p.1)) (kept_pairs cs))
  layout_within cs h L =
      let ones = map (λ v. one_score (counting {E = E}) cs v (L v)) (variables n) in
      let twos = map (λ p. pair_score (counting {E = E}) cs p (L p.0) (L p.1)) (kept_pairs cs) in
      let total : joined (counting {E = E}) ones + joined (counting {E = E}) twos ≤ exact_entries =
      omega (arith, joined_append (counting {E = E}) counting_laws ones twos, over_posts_within counting counting_laws n cs (valid_in_range M n cs h) L, selected_few cs L, valid_few cs h)
      in
      within_map M laws (λ v. one_score M cs v (L v)) (λ v. one_score (counting {E = E}) cs v (L v)) (λ v. one_of M laws n cs h v (L v)) (variables n) exact_entries _
      (omega (arith, total))
      (subst (λ r. Within M (exact_entries - joined (counting {E = E}) ones) r) (append-nil _)
      (within_map M laws (λ p. pair_score M cs p (L p.0) (L p.1)) (λ p. pair_score (counting {E = E}) cs p (L p.0) (L p.1)) (λ p. pair_of M laws n cs h p (L p.0) (L p.1)) (kept_pairs cs) (exact_entries - joined (counting {E = E}) ones) []
      (omega (arith, total)) tt))
