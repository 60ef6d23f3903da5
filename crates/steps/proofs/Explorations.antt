-- An exploration leaves as best held the greatest of what was held and of all values of the sheet. Assumes nothing.
use Rattle.std.proofs.Common.{◌≡◌, ℕ, ◌<◌, Bool, true, false, cond, eqb, ◌⊎◌, List, ◌∷◌, is_some, Some, None, Option, sym, refl, ap, ◌∙◌, subst, inl, inr, ⊎_elim}
use mathlib.Core.Path.{fun_ext}
use Rattle.std.proofs.lemmas.Bool.{both_ways, eqb-true}
use Rattle.score.specs.Model.{Model, Laws}
use Rattle.steps.specs.Sheet.{Sheet, Sound, remains, value, one_score, two_score, put}
use Rattle.steps.specs.Change.{Among, Values}
use Rattle.steps.specs.Steps.{Note, taken, read, Held, holding, better_held, dropped, Task, whole, sides, Explored, leaf, removal, drop, split, finished, side}
use Rattle.steps.specs.Claims.{Admissible, Topped, Greatest}
use Rattle.steps.proofs.Joins.{total_same, total_base}
use Rattle.steps.proofs.Choices.{at_most_same, at_most_by, at_most_turned}
use Rattle.steps.proofs.Sheets.{none_if, value_set}
use Rattle.steps.proofs.Removals.{removal_keeps, removal_sound, set_sound}

-- putting in the value that is there
pub put_same : {V : Type 0} (l : ℕ → V) (y : ℕ) → put l y (l y) ≡ l
put_same l y = fun_ext (λ v. go v (eqb v y) refl)
  where
    go : (v : ℕ) (b : Bool) → eqb v y ≡ b → cond b (l y) (l v) ≡ l v
    go v true e = ap l (sym (eqb-true v y e))
    go v false e = refl

module _ {E S : Type 0} {M : Model E S} (laws : Laws M) {V : Type 0} where
  -- where nothing remains the value is the base
  pub leaf_value : {s : Sheet V S} → Sound s → ((v : ℕ) → remains s v ≡ false) → (l : ℕ → V) → value M s l ≡ s.base
  leaf_value {s} sound none l =
      total_same laws s.size _ _ _ _ _ _ refl
      (λ v. ap (λ o. one_score M o (l v)) (none_if (s.one v) (both_ways (remains s v) (none v))))
      (λ a b. ap (λ o. two_score M o (l a) (l b))
      (none_if (s.two a b) (λ e. both_ways (remains s a) (none a) (sound.left a b e))))
      ∙ total_base laws s.size s.base

  -- Topped -------------------------------------------------------------------------------------------------------------------------

  top_below : {h : Option (Held V S)} {c d : S} → M.at_most c d ≡ true → Topped M h d → Topped M h c
  top_below p t = record { best = t.best; is_held = t.is_held; above = laws.trans _ _ _ p t.above }

  -- what topped c before tops it after
  top_after : {old new : Option (Held V S)} {c : S}
      → ((h : Held V S) → old ≡ Some h → Topped M new h.score) → Topped M old c → Topped M new c
  top_after up t = top_below t.above (up t.best t.is_held)

  top_self : {h : Option (Held V S)} (b : Held V S) → h ≡ Some b → Topped M h b.score
  top_self b e = record { best = b; is_held = e; above = at_most_same laws b.score }

  -- the better of what was held and what is new
  better_cases : (b : Bool) (o n : Held V S) → M.at_most n.score o.score ≡ b
      → Topped M (cond b (Some o) (Some n)) o.score × Topped M (cond b (Some o) (Some n)) n.score
      × ((cond b (Some o) (Some n) ≡ Some o) ⊎ (cond b (Some o) (Some n) ≡ Some n))
  better_cases true o n e = (top_self o refl, top_below e (top_self o refl), inl refl)
  better_cases false o n e =
      (top_below (at_most_turned laws n.score o.score e) (top_self n refl), top_self n refl, inr refl)

  better_old : (old : Option (Held V S)) (n : Held V S) (h : Held V S) → old ≡ Some h → Topped M (better_held M old n) h.score
  better_old None n h e = absurd (both_ways (is_some (Some h)) (sym (ap is_some e)) refl)
  better_old (Some o) n h e =
      let same : o ≡ h = cc in
      subst (λ c. Topped M (better_held M (Some o) n) c.score) same (better_cases (M.at_most n.score o.score) o n refl).0

  better_new : (old : Option (Held V S)) (n : Held V S) → Topped M (better_held M old n) n.score
  better_new None n = top_self n refl
  better_new (Some o) n = (better_cases (M.at_most n.score o.score) o n refl).1

  better_is : (old : Option (Held V S)) (n : Held V S) → (better_held M old n ≡ old) ⊎ (better_held M old n ≡ Some n)
  better_is None n = inr refl
  better_is (Some o) n = (better_cases (M.at_most n.score o.score) o n refl).2

  -- a side is dropped only where the best held tops the bound's reply
  dropped_tops : (r : Option S) (old : Option (Held V S)) → dropped M r old ≡ true → (b : S) × (r ≡ Some b) × Topped M old b
  dropped_tops None old e = absurd (both_ways false refl e)
  dropped_tops (Some b) None e = absurd (both_ways false refl e)
  dropped_tops (Some b) (Some o) e = (b, refl, record { best = o; is_held = refl; above = e })

-- A whole sheet or some sides of it ------------------------------------------------------------------------------------------------

abbrev task_sheet : {V S : Type 0} → Task V S → Sheet V S
task_sheet (whole s) = s
task_sheet (sides y cs s) = s

-- the layouts that a task covers
abbrev Covers : {V S : Type 0} → Task V S → (ℕ → V) → Type 0
Covers (whole s) l = Unit {0}
Covers (sides y cs s) l = Among (l y) cs

abbrev pub Fit : {V S : Type 0} → Task V S → Type 0
Fit (whole s) = Sound s
Fit (sides y cs s) = Sound s × (y < s.size)

record Settled {E S V : Type 0} (M : Model E S) (t : Task V S) (notes : List (Note V)) (old new : Option (Held V S)) : Type 0 where
  above_old : (h : Held V S) → old ≡ Some h → Topped M new h.score
  above_all : (l : ℕ → V) → Covers t l → Topped M new (value M (task_sheet t) l)
  attained : (new ≡ old) ⊎ ((l : ℕ → V) × (new ≡ Some (holding (value M (task_sheet t) l) (read notes l))))

module _ {E S : Type 0} {M : Model E S} (laws : Laws M) {V : Type 0} (vs : Values V) (rule : Sheet V S → Option S) (law : Admissible M V rule) where
  settled : {t : Task V S} {notes : List (Note V)} {old new : Option (Held V S)} {k : ℕ}
      → Fit t → Explored M vs rule t notes old new k → Settled M t notes old new
  settled sound (leaf s notes old none) =
      let end = holding s.base (read notes vs.preferred) in
      record {
        above_old = better_old laws old end;
        above_all = λ l _. top_below laws (at_most_by laws (leaf_value laws sound none l)) (better_new laws old end);
        attained = ⊎_elim inl
            (λ e. inr (vs.preferred, e ∙ ap (λ c. Some (holding c (read notes vs.preferred))) (sym (leaf_value laws sound none vs.preferred))))
            (better_is laws old end);
      }
  settled sound (removal s notes old {m} {s'} {new} r rest) =
      let ih = settled (removal_sound sound r) rest in
      let kept = removal_keeps laws vs sound r in
      record {
        above_old = ih.above_old;
        above_all = λ l _.
            top_below laws (ap (λ l'. M.at_most (value M s l') (value M s' l)) (sym (put_same l m.variable)) ∙ kept.greatest l (l m.variable))
            (ih.above_all l tt);
        attained = ⊎_elim inl
            (λ p. inr (put p.0 m.variable (taken m.way p.0), p.1 ∙ ap (λ c. Some (holding c (read (m ∷ notes) p.0))) (sym (kept.attained p.0))))
            ih.attained;
      }
  settled sound (drop s notes old y there stuck e) =
      let tops = dropped_tops laws (rule s) old e in
      record {
        above_old = λ h r. top_self laws h r;
        above_all = λ l _. top_below laws (law s tops.0 sound tops.1 l) tops.2;
        attained = inl refl;
      }
  settled sound (split s notes old y most stuck e rest) =
      let ih = settled (sound, sound.below y most.there) rest in
      record { above_old = ih.above_old; above_all = λ l _. ih.above_all l (vs.complete (l y)); attained = ih.attained }
  settled sound (finished y s notes old) =
      record { above_old = λ h r. top_self laws h r; above_all = λ l none. absurd none; attained = inl refl }
  settled sound (side y c cs s notes old {mid} {new} first rest) =
      let ih = settled (set_sound M sound.0 y c) first in
      let others = settled sound rest in
      let set_is = value_set laws sound.0 y sound.1 c in
      record {
        above_old = λ h e. top_after laws others.above_old (ih.above_old h e);
        above_all = λ l covered. ⊎_elim
            (λ e. top_after laws others.above_old
            (top_below laws (at_most_by laws (sym (set_is l ∙ ap (value M s) (ap (put l y) (sym e) ∙ put_same l y)))) (ih.above_all l tt)))
            (others.above_all l) covered;
        attained = ⊎_elim
            (λ e. ⊎_elim (λ d. inl (e ∙ d))
            (λ p. inr (put p.0 y c, e ∙ p.1 ∙ ap (λ a. Some (holding a (read notes (put p.0 y c)))) (set_is p.0)))
            ih.attained)
            inr others.attained;
      }

  pub explored_greatest : {s : Sheet V S} {notes : List (Note V)} {old new : Option (Held V S)} {k : ℕ}
      → Sound s → Explored M vs rule (whole s) notes old new k → Greatest M s notes old new
  explored_greatest sound e =
      let all = settled sound e in
      record { above_old = all.above_old; above_all = λ l. all.above_all l tt; attained = all.attained }
