-- The same of a line's fields by their index, from 0. Nothing here cites these: they say what an index asks for. Assumes nothing.
use Rattle.std.proofs.Common.{◌≡◌, ℕ, zero, suc, ◌+◌, ◌^◌, ◌<◌, true, List, [], ◌∷◌, ◌++◌, length, get_or, drop, Some, None, sym, refl, ap, ◌∙◌, append_assoc, append-nil, arith, length-append}
use Rattle.std.proofs.lemmas.List.{get_or_at, length_push}
use Rattle.fields.specs.declared.faults.Place.{Place}
use Rattle.fields.specs.declared.faults.FieldFault.{FieldFault}
use Rattle.fields.specs.Questions.{first_no, replied, answered}
use Rattle.fields.specs.Forms.{Form, asked}
use Rattle.score.specs.declared.values.Two.{Two}
use Rattle.listing.specs.Lines.{place_at, field_questions, next_place, place_after, questions_from}
use Rattle.listing.specs.Entries.{EntryForm, entry_reply}
use Rattle.listing.specs.Written.{ReadsBack}
use Rattle.listing.specs.Asked.{first_after, first_among, ++-right_assoc, from_index}
use Rattle.listing.proofs.Among.{passes_among, same_among}

module _ (form : Form) (line i : ℕ) (forms : List Form) (fs : List (List ℕ)) where
  -- a field that is read, and then the others
  pub field_yes : (place : Place) (bytes : List ℕ) → bytes ≡ get_or fs i [] → place ≡ place_at line i → first_no (asked form place bytes) ≡ None → first_no (field_questions line i (form ∷ forms) fs) ≡ first_no (field_questions line (i + 1) forms fs)
  field_yes place bytes b p e =
      first_after (asked form (place_at line i) (get_or fs i [])) (field_questions line (i + 1) forms fs) (ap (λ x. first_no (asked form (place_at line i) x)) (sym b) ∙ ap (λ x. first_no (asked form x bytes)) (sym p) ∙ e)

  pub field_no : (place : Place) (bytes : List ℕ) (f : FieldFault) → bytes ≡ get_or fs i [] → place ≡ place_at line i → first_no (asked form place bytes) ≡ Some f → first_no (field_questions line i (form ∷ forms) fs) ≡ Some f
  field_no place bytes f b p e =
      first_among (asked form (place_at line i) (get_or fs i [])) (field_questions line (i + 1) forms fs) f (ap (λ x. first_no (asked form (place_at line i) x)) (sym b) ∙ ap (λ x. first_no (asked form x bytes)) (sym p) ∙ e)

pub questions_append : (line i : ℕ) (xs ys : List Form) (fs : List (List ℕ)) → field_questions line i (xs ++ ys) fs ≡ field_questions line i xs fs ++ field_questions line (i + length xs) ys fs
questions_append line i [] ys fs = ap (λ k. field_questions line k ys fs) (let z : i ≡ i + 0 = omega arith in z)
questions_append line i (x ∷ xs) ys fs =
    ap (λ l. asked x (place_at line i) (get_or fs i []) ++ l)
    (questions_append line (i + 1) xs ys fs ∙ ap (λ k. field_questions line (i + 1) xs fs ++ field_questions line k ys fs) (let z : i + 1 + length xs ≡ i + suc (length xs) = omega arith in z))
    ∙ sym (++-right_assoc (asked x (place_at line i) (get_or fs i [])) (field_questions line (i + 1) xs fs) (field_questions line (i + suc (length xs)) ys fs))

-- the fields before, one field, and the rest
module _ (front : List (List ℕ)) (w : List ℕ) (ws : List (List ℕ)) where
  pub here : get_or (front ++ w ∷ ws) (length front) [] ≡ w
  here = get_or_at front w ws [] (length front) refl

  pub step : front ++ w ∷ ws ≡ (front ++ w ∷ []) ++ ws
  step = sym (append_assoc front (w ∷ []) ws)

  pub passes_field : (form : Form) (forms : List Form) (line : ℕ) → first_no (asked form (place_at line (length front)) w) ≡ None → first_no (field_questions line (length (front ++ w ∷ [])) forms ((front ++ w ∷ []) ++ ws)) ≡ None → first_no (field_questions line (length front) (form ∷ forms) (front ++ w ∷ ws)) ≡ None
  passes_field form forms line h k =
      field_yes form line (length front) forms (front ++ w ∷ ws) (place_at line (length front)) w (sym here) refl h
      ∙ ap (λ i. first_no (field_questions line i forms (front ++ w ∷ ws))) (sym (length_push front w)) ∙ ap (λ fs. first_no (field_questions line (length (front ++ w ∷ [])) forms fs)) step ∙ k

-- the fields of two entries after some others, split before the second
module _ {E : Type 0} (M : EntryForm E) (back : ReadsBack M) (e : Two E) (front more : List (List ℕ)) where
  abbrev first_part : List (List ℕ)
  first_part = M.written e.zero

  abbrev second_part : List (List ℕ)
  second_part = M.written e.one

  pub at_first : front ++ ((first_part ++ second_part) ++ more) ≡ front ++ (first_part ++ (second_part ++ more))
  at_first = ap (λ l. front ++ l) (append_assoc first_part second_part more)

  pub at_second : front ++ ((first_part ++ second_part) ++ more) ≡ (front ++ first_part) ++ (second_part ++ more)
  at_second = at_first ∙ sym (append_assoc front first_part (second_part ++ more))

  pub reached : length front + length M.forms ≡ length (front ++ first_part)
  reached = simp length-append (omega (arith, back.count e.zero))

-- an entry whose fields are the last
module _ {E : Type 0} (M : EntryForm E) (back : ReadsBack M) (e : E) (front : List (List ℕ)) (h : M.fits e ≡ true) where
  pub passes_last : (line : ℕ) → first_no (field_questions line (length front) M.forms (front ++ M.written e)) ≡ None
  passes_last line = ap (λ ws. first_no (field_questions line (length front) M.forms (front ++ ws))) (sym (append-nil (M.written e))) ∙ passes_among M back e front [] h line

  pub same_last : M.spelled (drop (length front) (front ++ M.written e)) ≡ e
  same_last = ap (λ ws. M.spelled (drop (length front) (front ++ ws))) (sym (append-nil (M.written e))) ∙ same_among M back e front [] h

-- so many fields after the first is the place with that index, where its number fits
place_on : (n line i : ℕ) → i + n + 1 < 2 ^ 64 → place_after n (place_at line i) ≡ place_at line (i + n)
place_on zero line i h = ap (place_at line) (let z : i ≡ i + 0 = omega arith in z)
place_on (suc n) line i h =
    let next : next_place (place_at line i) ≡ place_at line (i + 1) = ap (λ k. record { line = line; field = k }) (omega arith) in
    ap (place_after n) next ∙ place_on n line (i + 1) (omega arith) ∙ ap (place_at line) (let z : i + 1 + n ≡ i + suc n = omega arith in z)

pub place_reached : (line i : ℕ) → i + 1 < 2 ^ 64 → place_after i (place_at line 0) ≡ place_at line i
place_reached line i h = place_on i line 0 (omega arith) ∙ ap (place_at line) (let z : 0 + i ≡ i = omega arith in z)

-- what a cursor that has passed so many fields is asked
pub questions_reached : (line i : ℕ) (forms : List Form) (fs : List (List ℕ)) → i + length forms < 2 ^ 64 → questions_from (place_after i (place_at line 0)) forms (drop i fs) ≡ field_questions line i forms fs
questions_reached line i [] fs h = refl
questions_reached line i (form ∷ forms) fs h = ap (λ p. questions_from p (form ∷ forms) (drop i fs)) (place_reached line i (omega arith)) ∙ from_index line i (form ∷ forms) fs h

-- the reply to an entry whose first field has this index
pub reply_reached : {E : Type 0} (M : EntryForm E) (line index : ℕ) (fs : List (List ℕ)) → index + length M.forms < 2 ^ 64 → entry_reply M (record { place = place_after index (place_at line 0); left = drop index fs }) ≡ answered (field_questions line index M.forms fs) (M.spelled (drop index fs))
reply_reached M line index fs h = ap (λ qs. replied (first_no qs) (M.spelled (drop index fs))) (questions_reached line index M.forms fs h)
