-- What every call promises, after any list of calls. Assumes nothing.
use Rattle.std.proofs.Common.{◌≡◌, ℕ, Bool, true, false, cond, List, is_some, is_ok, Some, None, Ok, Err, Result, sym, refl, ap, ◌∙◌, subst}
use Rattle.std.proofs.lemmas.Bool.{true≢false}
use Rattle.score.specs.Model.{Model}
use Rattle.calls.specs.declared.changes.Call.{Call}
use Rattle.calls.specs.declared.changes.Call.TheVariants.{Post, Back, Score}
use Rattle.calls.specs.declared.changes.Change.{Change}
use Rattle.calls.specs.declared.refusals.Refusal.{Refusal}
use Rattle.calls.specs.Questions.{first_no, refusal_in}
use Rattle.calls.specs.Runs.{sent, Reply, done, is, denied, questions, refused, carried_out, after_call, accepted_reply, reply_or, reply_at, standing}
use Rattle.calls.specs.Standing.{Standing}
use Rattle.calls.proofs.Striking.{taking_back}
use Rattle.calls.specs.declared.answers.Answer.{Answer}
use Rattle.calls.specs.declared.answers.Answer.TheVariants.{Done, Is}
use Rattle.board.specs.Sending.{done_or, score_or, meaning, Replied}
use Rattle.board.specs.Stands.{Stands, Answered, Changed, TakenBack, Scored}
use Rattle.board.specs.Tables.{Held, records_view}

module _ {E S K : Type 0} (M : Model E S) (means : K → S) (b a : Held K) (call : Call E) (layout : List ℕ) where
  -- the promise about lists of calls follows from that about lists of standing changes
  replied : (r : Result (Answer K) Refusal) → refusal_in r ≡ first_no (questions M (records_view b) call layout) → (is_ok r ≡ false → a ≡ b) → (call ≡ Score → a ≡ b)
      → ((n : ℕ) (cs : Standing E) → Stands M means n b cs → (meaning means r ≡ reply_at M n cs (sent call layout)) × Stands M means n a (after_call M n cs (sent call layout)))
      → Replied M means b a call layout r
  replied r reply same asked stands = record {
    reply = reply;
    refused = same;
    asked = asked;
    stands = stands;
    sent_on = λ n calls st. (stands n (standing M n calls) st).1;
    no_trace = λ n calls kept st struck.
        let here = (stands n (standing M n calls) st).0 in
        (here, here ∙ sym (((taking_back M).same n calls kept struck).replies (sent call layout)));
  }

  -- turned down
  denied_so : (n : ℕ) (cs : Standing E) (f : Refusal) → Some f ≡ refused M n cs (sent call layout) → a ≡ b → Stands M means n b cs
      → (denied f ≡ reply_at M n cs (sent call layout)) × Stands M means n a (after_call M n cs (sent call layout))
  denied_so n cs f e same st = (
    ap (λ o. reply_or M o (accepted_reply M n cs call layout)) e,
    subst (λ o. Stands M means n a (cond (is_some o) cs (carried_out M cs call))) e (subst (λ h. Stands M means n h cs) (sym same) st),
  )

  -- accepted
  taken_so : (n : ℕ) (cs : Standing E) (reply : Reply S) → None ≡ refused M n cs (sent call layout) → reply ≡ accepted_reply M n cs call layout → Stands M means n a (carried_out M cs call)
      → (reply ≡ reply_at M n cs (sent call layout)) × Stands M means n a (after_call M n cs (sent call layout))
  taken_so n cs reply e same st = (
    same ∙ ap (λ o. reply_or M o (accepted_reply M n cs call layout)) e,
    subst (λ o. Stands M means n a (cond (is_some o) cs (carried_out M cs call))) e st,
  )

  sends_change : ((n : ℕ) (cs : Standing E) → done ≡ accepted_reply M n cs call layout) → (call ≡ Score → a ≡ b) → (r : Result (Unit {0}) Refusal)
      → Answered M means b a (λ w. questions M w call layout) (λ cs. carried_out M cs call) r → Replied M means b a call layout (done_or r)
  sends_change no_score asked (Ok x) h =
      replied (Ok Done) h.reply (λ e. absurd (true≢false e)) asked (λ n cs st. let s = h.stands n cs st in taken_so n cs done s.0 (no_score n cs) (s.1 refl))
  sends_change no_score asked (Err f) h =
      replied (Err f) h.reply (λ _. h.refused refl) asked (λ n cs st. denied_so n cs f (h.stands n cs st).0 (h.refused refl) st)

abbrev is_score : {E : Type 0} → Call E → Bool
is_score (Post c) = false
is_score Back = false
is_score Score = true

module _ {E S K : Type 0} (M : Model E S) (means : K → S) (b a : Held K) (layout : List ℕ) (call : Call E) (r' : Result (Answer K) Refusal) where
  same_call : (call' : Call E) (r : Result (Answer K) Refusal) → call ≡ call' → r' ≡ r → Replied M means b a call' layout r → Replied M means b a call layout r'
  same_call call' r p q h = subst (λ x. Replied M means b a x layout r') (sym p) (subst (Replied M means b a call' layout) (sym q) h)

  pub sends_post : (c : Change E) (r : Result (Unit {0}) Refusal) → call ≡ Post c → r' ≡ done_or r → Changed M means b a c r → Replied M means b a call layout r'
  sends_post c r p q h = same_call (Post c) (done_or r) p q (sends_change M means b a (Post c) layout (λ n cs. refl) (λ e. absurd (true≢false (sym (ap is_score e)))) r h)

  pub sends_back : (r : Result (Unit {0}) Refusal) → call ≡ Back → r' ≡ done_or r → TakenBack M means b a r → Replied M means b a call layout r'
  sends_back r p q h = same_call Back (done_or r) p q (sends_change M means b a Back layout (λ n cs. refl) (λ e. absurd (true≢false (sym (ap is_score e)))) r h)

  pub sends_score : (r : Result K Refusal) → call ≡ Score → r' ≡ score_or r → a ≡ b → Scored M means b layout r → Replied M means b a call layout r'
  sends_score r p q same h = same_call Score (score_or r) p q (go r h)
    where
      go : (r : Result K Refusal) → Scored M means b layout r → Replied M means b a Score layout (score_or r)
      go (Ok s) h =
          replied M means b a Score layout (Ok (Is s)) h.reply (λ _. same) (λ _. same)
          (λ n cs st. let k = h.stands n cs st in taken_so M means b a Score layout n cs (is (means s)) k.0 (ap is k.1) (subst (λ x. Stands M means n x cs) (sym same) st))
      go (Err f) h =
          replied M means b a Score layout (Err f) h.reply (λ _. same) (λ _. same) (λ n cs st. denied_so M means b a Score layout n cs f (h.stands n cs st).0 same st)
