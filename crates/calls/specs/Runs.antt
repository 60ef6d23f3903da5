-- Lists of calls: the changes that stand after them, the replies, and what remains when they are struck. Assumes nothing.
use Rattle.std.specs.Prelude.{◌≡◌, ℕ, Bool, cond, List, is_some, Some, None, Option, ◌==◌, slice_index}
use Rattle.score.specs.Model.{Model}
use Rattle.calls.specs.declared.changes.Call.{Call}
use Rattle.calls.specs.declared.changes.Call.TheVariants.{Post, Back, Score}
use Rattle.calls.specs.declared.changes.Change.{Change}
use Rattle.calls.specs.declared.refusals.Refusal.{Refusal}
use Rattle.calls.specs.Questions.{View, Question, view_of, first_no, change_questions, back_questions, score_questions}
use Rattle.calls.specs.Standing.{Standing, fresh, more, layout_score}

-- a call with the layout buffer that is sent with it
pub record Sent (E : Type 0) : Type 0 where
  pub call : Call E
  pub buffer : List ℕ

abbrev pub sent : {E : Type 0} → Call E → List ℕ → Sent E
sent c b = record { call = c; buffer = b }

-- a list of calls, sent one after the other
pub data Calls (E : Type 0) : Type 0 where
  none : Calls E
  then : Calls E → Sent E → Calls E

-- what a call answers: done, a score, or turned down
pub data Reply (S : Type 0) : Type 0 where
  done : Reply S
  is : S → Reply S
  denied : Refusal → Reply S

-- the list without its last change
abbrev pub without_last : {E : Type 0} → Standing E → Standing E
without_last fresh = fresh
without_last (more cs c) = cs

-- the values of a layout's bytes
abbrev pub values : List ℕ → ℕ → Bool
values layout v = slice_index layout v == 1

module _ {E S : Type 0} (M : Model E S) where
  abbrev pub questions : View → Call E → List ℕ → List Question
  questions w (Post c) buffer = change_questions M w c
  questions w Back buffer = back_questions w
  questions w Score buffer = score_questions w buffer

  -- why a call is turned down where these changes stand on a board of n variables
  abbrev pub refused : ℕ → Standing E → Sent E → Option Refusal
  refused n cs s = first_no (questions (view_of n cs) s.call s.buffer)

  -- what an accepted call leaves standing
  abbrev pub carried_out : Standing E → Call E → Standing E
  carried_out cs (Post c) = more cs c
  carried_out cs Back = without_last cs
  carried_out cs Score = cs

  -- the changes that stand after one more call
  abbrev pub after_call : ℕ → Standing E → Sent E → Standing E
  after_call n cs s = cond (is_some (refused n cs s)) cs (carried_out cs s.call)

  -- the changes that stand after a list of calls on a fresh board
  abbrev pub standing : ℕ → Calls E → Standing E
  standing n none = fresh
  standing n (then cs s) = after_call n (standing n cs) s

  abbrev pub accepted_reply : ℕ → Standing E → Call E → List ℕ → Reply S
  accepted_reply n cs (Post c) buffer = done
  accepted_reply n cs Back buffer = done
  accepted_reply n cs Score buffer = is (layout_score M n cs (values buffer))

  abbrev pub reply_or : Option Refusal → Reply S → Reply S
  reply_or None r = r
  reply_or (Some f) r = denied f

  -- the reply to a call where these changes stand
  abbrev pub reply_at : ℕ → Standing E → Sent E → Reply S
  reply_at n cs s = reply_or (refused n cs s) (accepted_reply n cs s.call s.buffer)

  -- the reply to a call that is sent after a list of calls
  abbrev pub reply_after : ℕ → Calls E → Sent E → Reply S
  reply_after n calls s = reply_at n (standing n calls) s

  -- a list of calls without its newest change; calls that are no changes stay
  pub data WithoutChange : Calls E → Calls E → Type 0 where
    this : (l : Calls E) (c : Change E) (b : List ℕ) → WithoutChange (then l (sent (Post c) b)) l
    before_score : (l k : Calls E) (b : List ℕ) → WithoutChange l k → WithoutChange (then l (sent Score b)) (then k (sent Score b))

  -- `Struck n l k`: k is what remains of l when the calls turned down are struck, each change later taken back, and the backs that took them
  pub data Struck (n : ℕ) : Calls E → Calls E → Type 0 where
    nothing : Struck n none none
    -- a call turned down is struck
    turned_down : (l k : Calls E) (s : Sent E) (f : Refusal) → Struck n l k → refused n (standing n l) s ≡ Some f → Struck n (then l s) k
    -- an accepted change stays, unless a later back takes it
    change : (l k : Calls E) (c : Change E) (b : List ℕ) → Struck n l k → refused n (standing n l) (sent (Post c) b) ≡ None
        → Struck n (then l (sent (Post c) b)) (then k (sent (Post c) b))
    -- an accepted score stays
    score : (l k : Calls E) (b : List ℕ) → Struck n l k → refused n (standing n l) (sent Score b) ≡ None
        → Struck n (then l (sent Score b)) (then k (sent Score b))
    -- an accepted back is struck with the change that it took, the newest that was left
    back : (l k j : Calls E) (b : List ℕ) → Struck n l k → refused n (standing n l) (sent Back b) ≡ None
        → WithoutChange k j → Struck n (then l (sent Back b)) j

-- Taking back leaves no trace: what remains leaves the same changes standing, and every call sent next gets the same reply.
pub record NoTrace {E S : Type 0} (M : Model E S) (n : ℕ) (calls kept : Calls E) : Type 0 where
  pub stands : standing M n kept ≡ standing M n calls
  pub replies : (next : Sent E) → reply_after M n kept next ≡ reply_after M n calls next

pub record TakingBack {E S : Type 0} (M : Model E S) : Type 0 where
  -- from every list of calls something remains
  pub some : (n : ℕ) (calls : Calls E) → (kept : Calls E) × Struck M n calls kept
  pub same : (n : ℕ) (calls kept : Calls E) → Struck M n calls kept → NoTrace M n calls kept
