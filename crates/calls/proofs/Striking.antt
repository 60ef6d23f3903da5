-- What is struck leaves no trace. Assumes nothing.
use Rattle.std.proofs.Common.{◌≡◌, ℕ, ◌<◌, Bool, true, false, cond, List, is_some, Some, None, Option, sym, refl, ap, ◌∙◌, subst, arith}
use Rattle.std.proofs.lemmas.Bool.{ltb-true}
use Rattle.score.specs.Model.{Model}
use Rattle.calls.specs.declared.changes.Call.{Call}
use Rattle.calls.specs.declared.changes.Call.TheVariants.{Post, Back, Score}
use Rattle.calls.specs.declared.refusals.Refusal.{Refusal}
use Rattle.calls.specs.Posts.{Valid}
use Rattle.calls.specs.Questions.{view_of, back_questions}
use Rattle.calls.specs.Runs.{Sent, sent, Calls, none, then, WithoutChange, this, before_score, Struck, nothing, turned_down, change, score, back, standing, refused, carried_out, after_call, without_last, reply_at, TakingBack}
use Rattle.calls.specs.Standing.{Standing, fresh, more, count}
use Rattle.calls.proofs.Asked.{all_yes}

module _ {E S : Type 0} (M : Model E S) (n : ℕ) where
  abbrev PostsStand : Calls E → Sent E → Call E → Type 0
  PostsStand l s (Post c) = refused M n (standing M n l) s ≡ None
  PostsStand l s Back = ⊥
  PostsStand l s Score = Unit {0}

  -- every change in the list was accepted, and there is no back
  abbrev Accepted : Calls E → Type 0
  Accepted none = Unit {0}
  Accepted (then l s) = Accepted l × PostsStand l s s.call

  accepted : (cs : Standing E) (s : Sent E) → refused M n cs s ≡ None → after_call M n cs s ≡ carried_out M cs s.call
  accepted cs s h = ap (λ r. cond (is_some r) cs (carried_out M cs s.call)) h

  turned : (cs : Standing E) (s : Sent E) (f : Refusal) → refused M n cs s ≡ Some f → after_call M n cs s ≡ cs
  turned cs s f h = ap (λ r. cond (is_some r) cs (carried_out M cs s.call)) h

  scored : (cs : Standing E) (b : List ℕ) → after_call M n cs (sent Score b) ≡ cs
  scored cs b = same (is_some (refused M n cs (sent Score b)))
    where
      same : (t : Bool) → cond t cs cs ≡ cs
      same true = refl
      same false = refl

  newest_left : (k j : Calls E) → WithoutChange M k j → Accepted k → (standing M n j ≡ without_last (standing M n k)) × Accepted j
  newest_left k j (this l c b) ok = (sym (ap without_last (accepted (standing M n l) (sent (Post c) b) ok.1)), ok.0)
  newest_left k j (before_score l j' b w) ok =
      let rest = newest_left l j' w ok.0 in
      (scored (standing M n j') b ∙ rest.0 ∙ ap without_last (sym (scored (standing M n l) b)), (rest.1, tt))

  same_standing : (l k : Calls E) → Struck M n l k → (standing M n k ≡ standing M n l) × Accepted k
  same_standing l k nothing = (refl, tt)
  same_standing l k (turned_down l' k' s f h r) =
      let rest = same_standing l' k' h in
      (rest.0 ∙ sym (turned (standing M n l') s f r), rest.1)
  same_standing l k (change l' k' c b h r) =
      let rest = same_standing l' k' h in
      (ap (λ cs. after_call M n cs (sent (Post c) b)) rest.0, (rest.1, subst (λ cs. refused M n cs (sent (Post c) b) ≡ None) (sym rest.0) r))
  same_standing l k (score l' k' b h r) =
      let rest = same_standing l' k' h in
      (ap (λ cs. after_call M n cs (sent Score b)) rest.0, (rest.1, tt))
  same_standing l k (back l' k' j b h r w) =
      let rest = same_standing l' k' h in
      let left = newest_left k' j w rest.1 in
      (left.0 ∙ ap without_last rest.0 ∙ sym (accepted (standing M n l') (sent Back b) r), left.1)

  -- where a change stands, there is a newest one to strike
  newest : (k : Calls E) → Accepted k → 0 < count (standing M n k) → (j : Calls E) × WithoutChange M k j
  newest none ok some = absurd (omega (arith, some))
  newest (then k s) ok some = go s.call ok.1 some (newest k ok.0)
    where
      go : (c : Call E) → PostsStand k (sent c s.buffer) c → 0 < count (after_call M n (standing M n k) (sent c s.buffer))
          → (0 < count (standing M n k) → (j : Calls E) × WithoutChange M k j)
          → (j : Calls E) × WithoutChange M (then k (sent c s.buffer)) j
      go (Post c) fine some rest = (k, this k c s.buffer)
      go Back fine some rest = absurd fine
      go Score fine some rest =
          let left = rest (subst (λ cs. 0 < count cs) (scored (standing M n k) s.buffer) some) in
          (then left.0 (sent Score s.buffer), before_score k left.0 s.buffer left.1)

  pub struck : (l : Calls E) → (k : Calls E) × Struck M n l k
  struck none = (none, nothing)
  struck (then l s) = decided (refused M n (standing M n l) s) refl (struck l)
    where
      taken : (c : Call E) → refused M n (standing M n l) (sent c s.buffer) ≡ None → (k : Calls E) × Struck M n l k → (k : Calls E) × Struck M n (then l (sent c s.buffer)) k
      taken (Post c) r h = (then h.0 (sent (Post c) s.buffer), change l h.0 c s.buffer h.1 r)
      taken Score r h = (then h.0 (sent Score s.buffer), score l h.0 s.buffer h.1 r)
      taken Back r h =
          let same = same_standing l h.0 h.1 in
          let some = ltb-true 0 (count (standing M n l)) (all_yes (back_questions (view_of n (standing M n l))) r).0 in
          let left = newest h.0 same.1 (subst (λ cs. 0 < count cs) (sym same.0) some) in
          (left.0, back l h.0 left.0 s.buffer h.1 r left.1)

      decided : (o : Option Refusal) → refused M n (standing M n l) s ≡ o → (k : Calls E) × Struck M n l k → (k : Calls E) × Struck M n (then l s) k
      decided None e h = taken s.call e h
      decided (Some f) e h = (h.0, turned_down l h.0 s f h.1 e)

pub taking_back : {E S : Type 0} (M : Model E S) → TakingBack M
taking_back M = record {
  some = struck M;
  same = λ n calls kept h.
      let same = (same_standing M n calls kept h).0 in
      record { stands = same; replies = λ next. ap (λ cs. reply_at M n cs next) same };
}

-- what stands after any list of calls was accepted change by change
pub standing_valid : {E S : Type 0} (M : Model E S) (n : ℕ) (calls : Calls E) → Valid M n (standing M n calls)
standing_valid M n none = tt
standing_valid {E} {S} M n (then l s) = decided (refused M n (standing M n l) s) refl (standing_valid M n l)
  where
    shorter : (cs : Standing E) → Valid M n cs → Valid M n (without_last cs)
    shorter fresh h = tt
    shorter (more cs c) h = h.0

    taken : (c : Call E) → refused M n (standing M n l) (sent c s.buffer) ≡ None → Valid M n (standing M n l) → Valid M n (carried_out M (standing M n l) c)
    taken (Post c) r h = (h, r)
    taken Back r h = shorter (standing M n l) h
    taken Score r h = h

    decided : (o : Option Refusal) → refused M n (standing M n l) s ≡ o → Valid M n (standing M n l)
        → Valid M n (cond (is_some o) (standing M n l) (carried_out M (standing M n l) s.call))
    decided None e h = taken s.call e h
    decided (Some f) e h = h
