-- An entry is read field by field. Assumes nothing.
use Rattle.std.proofs.Common.{◌≡◌, ℕ, zero, suc, ◌+◌, List, [], ◌∷◌, ◌++◌, length, get_or, drop, IsErrAnd, Some, Ok, Err, Result, sym, ap, ◌∙◌, subst, arith, MatchResult}
use Rattle.std.proofs.lemmas.List.{drop-drop}
use Rattle.std.proofs.lemmas.Grind.{get_or_after_one}
use Rattle.std.proofs.lemmas.Result.{err_from_is_err_and}
use Rattle.fields.specs.declared.faults.Place.{Place}
use Rattle.fields.specs.declared.faults.FieldFault.{FieldFault}
use Rattle.fields.specs.declared.parts.Part.{Part}
use Rattle.fields.specs.Questions.{Question, first_no, replied, answered}
use Rattle.fields.specs.Forms.{Form, asked, bytes_of}
use Rattle.listing.specs.Lines.{next_place, place_after, questions_from, Unread, Passed, Took}
use Rattle.listing.specs.Entries.{EntryForm, entry_reply, by_value_form}
use Rattle.listing.specs.Asked.{replied_ok, replied_err, first_after, first_among, field_yes, field_no, questions_append}

-- what is passed on by `?` with the fault unchanged
pub passed_on : {A F : Type 0} (r : Result A F) (f : F) (wanted : Result A F) → IsErrAnd r (λ g. g ≡ f) → Err f ≡ wanted → r ≡ wanted
passed_on r f wanted h e = let p = err_from_is_err_and r h in p.1 ∙ ap Err p.2 ∙ e

-- the questions to the fields that a cursor has left
abbrev pub asked_at : Unread → List Form → List (Question FieldFault)
asked_at c forms = questions_from c.place forms c.left

-- a field that a cursor handed out
module _ (c c' : Unread) (part : Part) (took : Took c part c') (form : Form) where
  asked_so : asked form part.place (bytes_of part) ≡ asked form c.place (get_or c.left 0 [])
  asked_so = ap (asked form part.place) took.bytes_are ∙ ap (λ p. asked form p (get_or c.left 0 [])) took.place_is

  module _ {V : Type 0} (v : V) (forms : List Form) where
    pub no_at : (f : FieldFault) → Err f ≡ answered (asked form part.place (bytes_of part)) v → first_no (asked_at c (form ∷ forms)) ≡ Some f
    no_at f e = field_no form c.place forms c.left f (ap first_no (sym asked_so) ∙ replied_err _ f v e)

    pub yes_at : (x : V) → Ok x ≡ answered (asked form part.place (bytes_of part)) v → first_no (asked_at c (form ∷ forms)) ≡ first_no (asked_at c' forms)
    yes_at x e =
        field_yes form c.place forms c.left (ap first_no (sym asked_so) ∙ (replied_ok _ x v e).0)
        ∙ ap (λ p. first_no (questions_from p forms (drop 1 c.left))) (sym took.passed.place_is) ∙ ap (λ l. first_no (questions_from c'.place forms l)) (sym took.passed.left_is)

  -- the value that is read
  pub read_is : {V : Type 0} (meant : List ℕ → V) (x : V) → Ok x ≡ answered (asked form part.place (bytes_of part)) (meant (bytes_of part)) → x ≡ meant (get_or c.left 0 [])
  read_is meant x e = (replied_ok _ x (meant (bytes_of part)) e).1 ∙ ap meant took.bytes_are

-- the field after one that was handed out
pub second_is : (c c' : Unread) → Passed 1 c c' → get_or c'.left 0 [] ≡ get_or c.left 1 []
second_is c c' passed = ap (λ l. get_or l 0 []) passed.left_is ∙ get_or_after_one c.left 0 []

place_then : (m n : ℕ) (p : Place) → place_after n (place_after m p) ≡ place_after (m + n) p
place_then zero n p = ap (λ k. place_after k p) (let z : n ≡ 0 + n = omega arith in z)
place_then (suc m) n p = place_then m n (next_place p) ∙ ap (λ k. place_after k p) (let z : suc (m + n) ≡ suc m + n = omega arith in z)

pub passed_both : (m n : ℕ) (c c' c'' : Unread) → Passed m c c' → Passed n c' c'' → Passed (m + n) c c''
passed_both m n c c' c'' a b = record {
  left_is = b.left_is ∙ ap (drop n) a.left_is ∙ drop-drop n m c.left;
  place_is = b.place_is ∙ ap (place_after n) a.place_is ∙ place_then m n c.place;
}

-- two entries, one after the other
module _ {E : Type 0} (M : EntryForm E) (c c' : Unread) where
  both_questions : first_no (asked_at c (M.forms ++ M.forms)) ≡ first_no (asked_at c M.forms ++ questions_from (place_after (length M.forms) c.place) M.forms (drop (length M.forms) c.left))
  both_questions = ap first_no (questions_append c.place M.forms M.forms c.left)

  pub zero_no : (f : FieldFault) → Err f ≡ entry_reply M c → Err f ≡ entry_reply (by_value_form M) c
  zero_no f e = ap (λ o. replied o ((by_value_form M).spelled c.left)) (sym (both_questions ∙ first_among (asked_at c M.forms) _ f (replied_err _ f _ e)))

  module _ (x : E) (first : Ok x ≡ entry_reply M c) (passed : Passed (length M.forms) c c') where
    then : first_no (asked_at c (M.forms ++ M.forms)) ≡ first_no (asked_at c' M.forms)
    then =
        both_questions ∙ first_after (asked_at c M.forms) _ (replied_ok _ x _ first).0
        ∙ ap (λ p. first_no (questions_from p M.forms (drop (length M.forms) c.left))) (sym passed.place_is) ∙ ap (λ l. first_no (questions_from c'.place M.forms l)) (sym passed.left_is)

    pub one_no : (f : FieldFault) → Err f ≡ entry_reply M c' → Err f ≡ entry_reply (by_value_form M) c
    one_no f e = ap (λ o. replied o ((by_value_form M).spelled c.left)) (sym (then ∙ replied_err _ f _ e))

    pub both_yes : (y : E) → Ok y ≡ entry_reply M c' → Ok (record { zero = x; one = y }) ≡ entry_reply (by_value_form M) c
    both_yes y e =
        let a = replied_ok _ x _ first in
        let b = replied_ok _ y _ e in
        let one : y ≡ M.spelled (drop (length M.forms) c.left) = b.1 ∙ ap M.spelled passed.left_is in
        ap Ok (λ k. record { zero = a.1 k; one = one k }) ∙ ap (λ o. replied o ((by_value_form M).spelled c.left)) (sym (then ∙ b.0))

-- the exit of a `?` that hands on the fault unchanged
pub exits : {A F : Type 0} (r : Result A F) (f : F) (P : A → Type 0) (Q : F → Type 0) → IsErrAnd r (λ g. g ≡ f) → Q f → MatchResult r P Q
exits r f P Q h q = let p = err_from_is_err_and r h in subst (λ x. MatchResult x P Q) (sym (p.1 ∙ ap Err p.2)) q

-- the fields after two that were handed out
pub third_on : (c c' c'' : Unread) → Passed 1 c c' → Passed 1 c' c'' → c''.left ≡ drop 2 c.left
third_on c c' c'' a b = (passed_both 1 1 c c' c'' a b).left_is
