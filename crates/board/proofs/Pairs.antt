-- Changes to a pair's record: a post onto a kept pair, and a pair that is new. Assumes nothing.
use Rattle.std.proofs.Common.{◌≡◌, ℕ, zero, suc, ◌+◌, ◌-◌, ◌<◌, ◌≤◌, Bool, true, false, cond, ltb, List, [], ◌∷◌, ◌++◌, map, length, take, set, Some, None, unwrap_or, sym, refl, ap, ◌∙◌, subst, add-one, arith}
use Rattle.std.specs.List.{AllByRecursion, slice_get}
use Rattle.std.proofs.ByRecursion.{All-push}
use Rattle.std.proofs.lemmas.List.{length-set, length-take, map_push, take_more_set, length_push}
use Rattle.std.proofs.lemmas.Bool.{cond-true, cond-false}
use Rattle.score.specs.Model.{Model, Laws, Together}
use Rattle.calls.specs.declared.changes.Change.TheVariants.{Pair as PairPost}
use Rattle.score.specs.declared.values.Four.{Four}
use Rattle.calls.specs.Entries.{FourScored}
use Rattle.calls.specs.Questions.{view_of, first_no, change_questions, most_changes}
use Rattle.calls.specs.Standing.{Standing, more, count, kept_pairs, posted_at, pair_score, score_of, key, same_key, has_key, how_many}
use Rattle.score.specs.Values.{at_four, turned_four, lower_first, joined_four}
use Rattle.calls.proofs.Asked.{pair_passed}
use Rattle.calls.proofs.Counts.{pair_of_count}
use Rattle.calls.proofs.OverPosts.{same_key_refl, kept_once, unkept_neutral}
use Rattle.records.specs.declared.pairs.Pair.{Pair}
use Rattle.records.specs.declared.history.Was.TheVariants.{Pair as WasPair, Unkept}
use Rattle.records.specs.Pairs.{joined_pair}
use Rattle.board.specs.Stands.{tables_of, VarShows, PairShows, Shows, Stands}
use Rattle.board.specs.Tables.{Held, used, pair_key, replace_pair, keep_pair, undo_at}
use Rattle.records.proofs.Lists.{set_back, take_set, take_pushed}
use Rattle.board.proofs.Steps.{Written}
use Rattle.board.proofs.Vars.{joined_exactly}
use Rattle.board.proofs.Views.{shows}

one_if : (t : Bool) → t ≡ true → cond {A = ℕ} t 1 0 ≡ 1
one_if t e = cond-true t 1 0 e

none_if : (t : Bool) → t ≡ false → cond {A = ℕ} t 1 0 ≡ 0
none_if t e = cond-false t 1 0 e

pub length_take_most : {X : Type 0} (m : ℕ) (xs : List X) → length (take m xs) ≤ m
length_take_most m xs = simp length-take (omega arith)

all_getD_nth : {X : Type 0} (P : X → Type 0) (xs : List X) (i : ℕ) (x : X) → slice_get xs i ≡ Some x → AllByRecursion P xs → P x
all_getD_nth P [] i x there all = absurd cc
all_getD_nth P (y ∷ ys) zero x there all = let e : y ≡ x = cc in subst P e all.0
all_getD_nth P (y ∷ ys) (suc i) x there all = all_getD_nth P ys i x there all.1

-- a record replaced by one with the same key
keys_set : {K : Type 0} (ps : List (Pair K)) (i : ℕ) (old new : Pair K) → slice_get ps i ≡ Some old → pair_key new ≡ pair_key old → map pair_key (set ps i new) ≡ map pair_key ps
keys_set [] i old new there same = refl
keys_set (p ∷ ps) zero old new there same = let e : p ≡ old = cc in ap (λ k. k ∷ map pair_key ps) (same ∙ ap pair_key (sym e))
keys_set (p ∷ ps) (suc i) old new there same = ap (λ ks. pair_key p ∷ ks) (keys_set ps i old new there same)

abbrev new_pair : {K : Type 0} → ℕ × ℕ → Four K → Pair K
new_pair k f = record { low = k.0; high = k.1; scores = f }

-- in a list where a key stands once, all but the record with that key keep their property
module _ {K : Type 0} (k : ℕ × ℕ) (P Q : Pair K → Type 0) (others : (p : Pair K) → same_key k (pair_key p) ≡ false → P p → Q p) where
  none_touched : (ps : List (Pair K)) → how_many (same_key k) (map pair_key ps) ≡ 0 → AllByRecursion P ps → AllByRecursion Q ps
  none_touched [] h all = tt
  none_touched (p ∷ ps) h all = go (same_key k (pair_key p)) refl h (none_touched ps)
    where
      go : (t : Bool) → same_key k (pair_key p) ≡ t → cond t 1 0 + how_many (same_key k) (map pair_key ps) ≡ 0
          → (how_many (same_key k) (map pair_key ps) ≡ 0 → AllByRecursion P ps → AllByRecursion Q ps) → Q p × AllByRecursion Q ps
      go true e z rest = absurd (omega (arith, z))
      go false e z rest = (others p e all.0, rest (omega (arith, z)) all.1)

  at_least_one : (ps : List (Pair K)) (i : ℕ) (p : Pair K) → slice_get ps i ≡ Some p → same_key k (pair_key p) ≡ true → 1 ≤ how_many (same_key k) (map pair_key ps)
  at_least_one [] i p there same = absurd cc
  at_least_one (q ∷ qs) zero p there same =
      let e : same_key k (pair_key q) ≡ true = subst (λ r. same_key k (pair_key r) ≡ true) (is q p there) same in
      let f = one_if (same_key k (pair_key q)) e in
      omega (arith, f)
    where
      is : (q p : Pair K) → Some q ≡ Some p → p ≡ q
      is q p h = cc
  at_least_one (q ∷ qs) (suc i) p there same = omega (arith, at_least_one qs i p there same)

  one_touched : (ps : List (Pair K)) (i : ℕ) (p new : Pair K) → slice_get ps i ≡ Some p → same_key k (pair_key p) ≡ true → how_many (same_key k) (map pair_key ps) ≡ 1
      → AllByRecursion P ps → Q new → AllByRecursion Q (set ps i new)
  one_touched [] i p new there same once all q = tt
  one_touched (r ∷ rs) zero p new there same once all q =
      let e : same_key k (pair_key r) ≡ true = subst (λ x. same_key k (pair_key x) ≡ true) (is r p there) same in
      let f = one_if (same_key k (pair_key r)) e in
      (q, none_touched rs (omega (arith, f, once)) all.1)
    where
      is : (r p : Pair K) → Some r ≡ Some p → p ≡ r
      is r p h = cc
  one_touched (r ∷ rs) (suc i) p new there same once all q = go (same_key k (pair_key r)) refl once (at_least_one rs i p there same) (one_touched rs i p new there same)
    where
      go : (t : Bool) → same_key k (pair_key r) ≡ t → cond t 1 0 + how_many (same_key k) (map pair_key rs) ≡ 1 → 1 ≤ how_many (same_key k) (map pair_key rs)
          → (how_many (same_key k) (map pair_key rs) ≡ 1 → AllByRecursion P rs → Q new → AllByRecursion Q (set rs i new)) → Q r × AllByRecursion Q (set rs i new)
      go true e z some rest = absurd (omega (arith, z, some))
      go false e z some rest = (others r e all.0, rest (omega (arith, z)) all.1 q)

-- the scores of a post with the lower variable first
lower_scored : {E S K : Type 0} (M : Model E S) (means : K → S) (a b : ℕ) (es : Four E) (f : Four K) → FourScored M means es f
    → (x y : Bool) → M.score (posted_at a b es x y) ≡ Some (means (at_four (lower_first a b f) x y))
lower_scored M means a b es f scored x y = go (ltb a b) x y
  where
    go : (t : Bool) (x y : Bool) → M.score (cond t (at_four es x y) (at_four es y x)) ≡ Some (means (at_four (cond t f (turned_four f)) x y))
    go true x y = scored x y
    go false false false = scored false false
    go false false true = scored true false
    go false true false = scored false true
    go false true true = scored true true

joined_at : {K : Type 0} (J : K → K → K) (f g : Four K) (x y : Bool) → at_four (joined_four J f g) x y ≡ J (at_four f x y) (at_four g x y)
joined_at J f g false false = refl
joined_at J f g false true = refl
joined_at J f g true false = refl
joined_at J f g true true = refl

module _ {E S K : Type 0} (M : Model E S) (laws : Laws M) (means : K → S) (J : K → K → K)
    (exact : (a b : K) → Together M (means a) (means b) → means (J a b) ≡ M.join (means a) (means b))
    (n : ℕ) (h : Held K) (cs : Standing E) (st : Stands M means n h cs)
    (a b : ℕ) (es : Four E) (f : Four K) (pass : first_no (change_questions M (view_of n cs) (PairPost a b es)) ≡ None) (scored : FourScored M means es f) where
  before : Shows M means n (tables_of h) cs
  before = shows M means n h cs st

  once : how_many (same_key (key a b)) (map pair_key (used h)) ≡ cond (has_key (key a b) (kept_pairs cs)) 1 0
  once = ap (how_many (same_key (key a b))) before.keys ∙ kept_once cs (key a b)

  others : (p : Pair K) → same_key (key a b) (pair_key p) ≡ false → PairShows M means n cs p → PairShows M means n (more cs (PairPost a b es)) p
  others p e s = record { scores = λ x y. s.scores x y ∙ sym (cond-false (same_key (key a b) (pair_key p)) _ (pair_score M cs (pair_key p) x y) e) }

  vars_same : (v : ℕ) (r : _) → VarShows M means n cs v r → VarShows M means n (more cs (PairPost a b es)) v r
  vars_same v r s = record { zero = s.zero; one = s.one; pin = s.pin }

  pair_room : count cs < most_changes
  pair_room = (pair_passed M (view_of n cs) a b es pass).room

  -- the post is joined onto the pair that is kept
  pub joined_on : (i : ℕ) (old : Pair K) → slice_get (used h) i ≡ Some old → pair_key old ≡ key a b → PairShows M means n cs old
      → PairShows M means n (more cs (PairPost a b es)) (joined_pair J old (lower_first a b f))
  joined_on i old there is sh = record {
    scores = λ x y.
        ap means (joined_at J old.scores (lower_first a b f) x y)
        ∙ joined_exactly M laws means J exact (count cs) _ _ _ (posted_at a b es x y) pair_room (sh.scores x y) (pair_of_count M laws n cs st.valid (pair_key old) x y) (lower_scored M means a b es f scored x y)
        ∙ sym (cond-true (same_key (key a b) (pair_key old)) _ (pair_score M cs (pair_key old) x y) (subst (λ k. same_key (key a b) k ≡ true) (sym is) (same_key_refl (key a b))));
  }

  -- the pair is new
  pub becomes : has_key (key a b) (kept_pairs cs) ≡ false → PairShows M means n (more cs (PairPost a b es)) (record { low = (key a b).0; high = (key a b).1; scores = lower_first a b f })
  becomes absent = record {
    scores = λ x y.
        let score = sym (ap (λ o. unwrap_or o M.neutral) (lower_scored M means a b es f scored x y)) in
        score
        ∙ sym (laws.unit (score_of M (posted_at a b es x y)))
        ∙ ap (λ s. M.join s (score_of M (posted_at a b es x y))) (sym (unkept_neutral M cs (key a b) x y absent))
        ∙ sym (cond-true (same_key (key a b) (key a b)) _ (pair_score M cs (key a b) x y) (same_key_refl (key a b)));
  }

  pub onto_kept : (i : ℕ) (old : Pair K) → has_key (key a b) (map pair_key (used h)) ≡ true → slice_get (used h) i ≡ Some old → pair_key old ≡ key a b
      → Written M means n h (replace_pair h i old (joined_pair J old (lower_first a b f))) cs (PairPost a b es) (undo_at i (WasPair old))
  onto_kept i old has there is =
      let new = joined_pair J old (lower_first a b f) in
      let kept : has_key (key a b) (kept_pairs cs) ≡ true = sym (ap (has_key (key a b)) before.keys) ∙ has in
      let same : kept_pairs (more cs (PairPost a b es)) ≡ kept_pairs cs = cond-true (has_key (key a b) (kept_pairs cs)) (kept_pairs cs) _ kept in
      let used_is : take h.kept (set h.pairs i new) ≡ set (used h) i new = take_set h.pairs h.kept i new in
      let old_same : same_key (key a b) (pair_key old) ≡ true = subst (λ k. same_key (key a b) k ≡ true) (sym is) (same_key_refl (key a b)) in
      let shown = all_getD_nth (PairShows M means n cs) (used h) i old there before.pairs in
      record {
        n_same = refl;
        standing_more = refl;
        history_is = refl;
        kept_is = st.kept_is ∙ ap length (sym same);
        vars_long = refl;
        pairs_long = length-set h.pairs i new;
        shows = record {
          vars = λ v below. let r = before.vars v below in (r.0, r.1, vars_same v r.0 r.2);
          keys = ap (map pair_key) used_is ∙ keys_set (used h) i old new there refl ∙ before.keys ∙ sym same;
          pairs = subst (AllByRecursion (PairShows M means n (more cs (PairPost a b es)))) (sym used_is)
              (one_touched (key a b) (PairShows M means n cs) (PairShows M means n (more cs (PairPost a b es))) others (used h) i old new there old_same (once ∙ one_if _ kept) before.pairs (joined_on i old there is shown));
        };
        leads_back = ap (λ ps. record { vars = h.vars; pairs = set ps i old }) used_is ∙ ap (λ ps. record { vars = h.vars; pairs = ps }) (set_back (used h) i old new there);
      }

  pub newly_kept : has_key (key a b) (map pair_key (used h)) ≡ false → h.kept < length h.pairs
      → Written M means n h (keep_pair h (record { low = (key a b).0; high = (key a b).1; scores = lower_first a b f })) cs (PairPost a b es) (undo_at h.kept Unkept)
  newly_kept absent room =
      let new = new_pair (key a b) (lower_first a b f) in
      let gone : has_key (key a b) (kept_pairs cs) ≡ false = sym (ap (has_key (key a b)) before.keys) ∙ absent in
      let longer : kept_pairs (more cs (PairPost a b es)) ≡ kept_pairs cs ++ key a b ∷ [] = cond-false (has_key (key a b) (kept_pairs cs)) (kept_pairs cs) _ gone in
      let used_is : take (suc h.kept) (set h.pairs h.kept new) ≡ used h ++ new ∷ [] = ap (λ m. take m (set h.pairs h.kept new)) (sym (add-one h.kept)) ∙ take_more_set h.pairs h.kept new room in
      record {
        n_same = refl;
        standing_more = refl;
        history_is = refl;
        kept_is = ap suc st.kept_is ∙ sym (ap length longer ∙ length_push (kept_pairs cs) (key a b) ∙ add-one _);
        vars_long = refl;
        pairs_long = length-set h.pairs h.kept new;
        shows = record {
          vars = λ v below. let r = before.vars v below in (r.0, r.1, vars_same v r.0 r.2);
          keys = ap (map pair_key) used_is ∙ map_push pair_key (used h) new ∙ ap (λ ks. ks ++ key a b ∷ []) before.keys ∙ sym longer;
          pairs = subst (AllByRecursion (PairShows M means n (more cs (PairPost a b es)))) (sym used_is)
              (All-push (PairShows M means n (more cs (PairPost a b es))) (used h) new
              (none_touched (key a b) (PairShows M means n cs) (PairShows M means n (more cs (PairPost a b es))) others (used h) (once ∙ none_if _ gone) before.pairs)
              (becomes gone));
        };
        leads_back = ap (λ ps. record { vars = h.vars; pairs = take (length ps - 1) ps }) used_is ∙ ap (λ ps. record { vars = h.vars; pairs = ps }) (take_pushed (used h) new);
      }
