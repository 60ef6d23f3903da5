-- A line is read: its word, its place, the number of its fields, and then the fields. Assumes nothing.
use Rattle.std.proofs.Common.{◌≡◌, ℕ, suc, Bor, ◌+◌, ◌-◌, ◌^◌, ◌≤◌, min, Bool, true, false, cond, not, eqb, leb, List, [], ◌∷◌, length, drop, sym, is_some, Some, None, Option, refl, ap, ◌∙◌, arith, eq-eqb, ne_eqb, leb-true, true-eqb, false-eqb}
use Rattle.std.specs.Option.{option_map, unwrap_or}
use Rattle.fields.specs.declared.faults.FieldFault.{FieldFault}
use Rattle.fields.specs.declared.faults.LineFault.{LineFault}
use Rattle.fields.specs.declared.faults.LineFault.TheVariants.{TooLong, UnknownWord, Misplaced, FieldCount, Field}
use Rattle.fields.specs.declared.words.Call.{Call as CallWord}
use Rattle.fields.specs.declared.words.Word.TheVariants.{Board, Call}
use Rattle.fields.specs.Questions.{Question, first_no}
use Rattle.fields.specs.Forms.{Form}
use Rattle.std.proofs.lemmas.List.Splits.{length-slice_split}
use Rattle.std.proofs.lemmas.List.Sums.{count_by-le-length}
use Rattle.listing.specs.Text.{comma, fields}
use Rattle.listing.specs.Lines.{place_at, field_questions, questions_from, Unread}
use Rattle.listing.specs.Entries.{EntryForm}
use Rattle.listing.specs.Commands.{said, call_forms}
use Rattle.listing.specs.Reading.{line_limit, word_at, word_questions, inside, line_questions, opens, opening_forms, opening_questions, word_forms, command_questions, said_by, command_of}
use Rattle.listing.specs.Asked.{first_after, from_index}

inside_by : (t : Bool) (f : FieldFault) (o : Option LineFault) (o' : Option FieldFault) → o ≡ option_map Field o' → cond t o (Some (Field f)) ≡ option_map Field (cond t o' (Some f))
inside_by true f o o' e = e
inside_by false f o o' e = refl

first_inside : (qs : List (Question FieldFault)) → first_no (inside qs) ≡ option_map Field (first_no qs)
first_inside [] = refl
first_inside (q ∷ qs) = inside_by q.0 q.1 (first_no (inside qs)) (first_no qs) (first_inside qs)

short_by : (n : ℕ) (t : Bool) → leb n line_limit ≡ t → (f : LineFault) (o : Option LineFault) → cond t o (Some f) ≡ None → n ≤ line_limit
short_by n true e f o h = leb-true n line_limit e
short_by n false e f o h = absurd cc

-- a line whose word is read is short
word_short : (number : ℕ) (line : List ℕ) → first_no (word_questions number line) ≡ None → length line ≤ line_limit
word_short number line h = short_by (length line) (leb (length line) line_limit) refl (TooLong number) (first_no ((is_some (word_at line), UnknownWord number) ∷ [])) h

few_fields : (number : ℕ) (line : List ℕ) → first_no (word_questions number line) ≡ None → length (fields line) ≤ 401
few_fields number line h = omega (arith, length-slice_split (λ b. eqb b comma) line, count_by-le-length (λ b. eqb b comma) line, word_short number line h)

module _ (number : ℕ) (line : List ℕ) where
  -- where word, place and count are right, the fields are left
  pub line_yes : (forms : List Form) → first_no (word_questions number line) ≡ None → length (fields line) ≡ suc (length forms) → first_no (line_questions true forms number line) ≡ option_map Field (first_no (questions_from (place_at number 1) forms (drop 1 (fields line))))
  line_yes forms h e =
      first_after (word_questions number line) ((true, Misplaced number) ∷ (eqb (length (fields line)) (suc (length forms)), FieldCount number) ∷ inside (field_questions number 1 forms (fields line))) h
      ∙ ap (λ t. cond t (first_no (inside (field_questions number 1 forms (fields line)))) (Some (FieldCount number))) (eq-eqb _ _ e)
      ∙ first_inside (field_questions number 1 forms (fields line))
      ∙ ap (λ qs. option_map Field (first_no qs)) (sym (from_index number 1 forms (fields line) (omega (arith, few_fields number line h))))

  -- where it has another number of fields
  count_no : (forms : List Form) → first_no (word_questions number line) ≡ None → (length (fields line) ≡ suc (length forms) → ⊥) → first_no (line_questions true forms number line) ≡ Some (FieldCount number)
  count_no forms h e =
      first_after (word_questions number line) ((true, Misplaced number) ∷ (eqb (length (fields line)) (suc (length forms)), FieldCount number) ∷ inside (field_questions number 1 forms (fields line))) h
      ∙ ap (λ t. cond t (first_no (inside (field_questions number 1 forms (fields line)))) (Some (FieldCount number))) (ne_eqb _ _ e)

  pub opening_yes : first_no (word_questions number line) ≡ None → word_at line ≡ Some Board → length (fields line) ≡ suc (length opening_forms) → first_no (opening_questions number line) ≡ option_map Field (first_no (questions_from (place_at number 1) opening_forms (drop 1 (fields line))))
  opening_yes h w e = ap (λ x. first_no (line_questions (opens x) opening_forms number line)) w ∙ line_yes opening_forms h e

  module _ {E : Type 0} (M : EntryForm E) (call : CallWord) (w : word_at line ≡ Some (Call call)) where
    pub command_yes : first_no (word_questions number line) ≡ None → length (fields line) ≡ suc (length (call_forms M call)) → first_no (command_questions M number line) ≡ option_map Field (first_no (questions_from (place_at number 1) (call_forms M call) (drop 1 (fields line))))
    command_yes h e = ap (λ x. first_no (line_questions (not (opens x)) (word_forms M x) number line)) w ∙ line_yes (call_forms M call) h e

    pub command_count_no : first_no (word_questions number line) ≡ None → (length (fields line) ≡ suc (length (call_forms M call)) → ⊥) → first_no (command_questions M number line) ≡ Some (FieldCount number)
    command_count_no h e = ap (λ x. first_no (line_questions (not (opens x)) (word_forms M x) number line)) w ∙ count_no (call_forms M call) h e

    pub command_is : command_of M line ≡ Some (said M call (drop 1 (fields line)))
    command_is = ap (λ x. said_by M x (fields line)) w

-- the number of fields that is compared fits, since the line is short
module _ (number : ℕ) (line : List ℕ) (h : first_no (word_questions number line) ≡ None) (count n : ℕ) (e : count ≡ min n (2 ^ 64 - 1)) where
  pub right_count : true ≡ eqb (length (fields line)) (count + 1) → length (fields line) ≡ suc n
  right_count t = let same = true-eqb _ _ t in let few = few_fields number line h in omega arith

  pub wrong_count : false ≡ eqb (length (fields line)) (count + 1) → length (fields line) ≡ suc n → ⊥
  wrong_count t g = let few = few_fields number line h in false-eqb _ _ t (omega arith)

-- the questions to the fields after the word, as a cursor there has them
pub from_word : (c : Unread) (number : ℕ) (line : List ℕ) (forms : List Form) → c.left ≡ drop 1 (fields line) → c.place ≡ place_at number 1 → first_no (questions_from (place_at number 1) forms (drop 1 (fields line))) ≡ first_no (questions_from c.place forms c.left)
from_word c number line forms l p = ap (λ fs. first_no (questions_from (place_at number 1) forms fs)) (sym l) ∙ ap (λ q. first_no (questions_from q forms c.left)) (sym p)

-- what is shown where nothing may be there
pub shown_or : (r : Option (Bor (List ℕ))) (d : Bor (List ℕ)) → (unwrap_or r d).now ≡ unwrap_or (option_map (λ x. x.now) r) d.now
shown_or None d = refl
shown_or (Some x) d = refl
