-- What every call on a board promises, after any list of calls. Assumes nothing.
use Rattle.std.specs.Prelude.{◌≡◌, ℕ, false, List, is_ok, Ok, Err, Result}
use Rattle.score.specs.Model.{Model}
use Rattle.calls.specs.declared.changes.Call.{Call}
use Rattle.calls.specs.declared.changes.Call.TheVariants.{Score}
use Rattle.calls.specs.declared.refusals.Refusal.{Refusal}
use Rattle.calls.specs.Questions.{first_no, refusal_in}
use Rattle.calls.specs.Runs.{sent, Calls, then, Reply, done, is, denied, Struck, questions, standing, after_call, reply_at, reply_after}
use Rattle.calls.specs.Standing.{Standing}
use Rattle.calls.specs.declared.answers.Answer.{Answer}
use Rattle.calls.specs.declared.answers.Answer.TheVariants.{Done, Is}
use Rattle.board.specs.Stands.{Stands}
use Rattle.board.specs.Tables.{Held, records_view}

-- an accepted change or back
abbrev pub done_or : {K : Type 0} → Result (Unit {0}) Refusal → Result (Answer K) Refusal
done_or (Ok x) = Ok Done
done_or (Err f) = Err f

-- an accepted score
abbrev pub score_or : {K : Type 0} → Result K Refusal → Result (Answer K) Refusal
score_or (Ok s) = Ok (Is s)
score_or (Err f) = Err f

-- replies are compared by what their scores mean
abbrev pub meaning : {S K : Type 0} → (K → S) → Result (Answer K) Refusal → Reply S
meaning means (Ok Done) = done
meaning means (Ok (Is s)) = is (means s)
meaning means (Err f) = denied f

module _ {E S K : Type 0} (M : Model E S) (means : K → S) where
  -- a board of n variables was sent this list of calls
  abbrev pub WasSent : ℕ → Calls E → Held K → Type 0
  WasSent n calls h = Stands M means n h (standing M n calls)

  pub record Replied (before after : Held K) (call : Call E) (layout : List ℕ) (r : Result (Answer K) Refusal) : Type 0 where
    -- turned down exactly by the first question that says no, read off the records
    pub reply : refusal_in r ≡ first_no (questions M (records_view before) call layout)
    -- turned down, it leaves every record and count as found
    pub refused : is_ok r ≡ false → after ≡ before
    -- a score only asks
    pub asked : call ≡ Score → after ≡ before
    -- for every list of standing changes at which the board stands: the defined reply, and the list that follows
    pub stands : (n : ℕ) (cs : Standing E) → Stands M means n before cs
        → (meaning means r ≡ reply_at M n cs (sent call layout)) × Stands M means n after (after_call M n cs (sent call layout))
    -- for every list of calls that the board was sent: it was then sent that list with this call at its end
    pub sent_on : (n : ℕ) (calls : Calls E) → WasSent n calls before → WasSent n (then calls (sent call layout)) after
    -- taking back leaves no trace: strike from the list the calls turned down, each change later taken back and the backs that took them;
    -- a board that is sent what remains gives this call the same reply
    pub no_trace : (n : ℕ) (calls kept : Calls E) → WasSent n calls before → Struck M n calls kept
        → (meaning means r ≡ reply_after M n calls (sent call layout)) × (meaning means r ≡ reply_after M n kept (sent call layout))
