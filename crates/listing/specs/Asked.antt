-- Questions that are put one after the other. Assumes nothing.
use Rattle.std.proofs.Common.{◌≡◌, ℕ, suc, ◌+◌, Bool, true, false, cond, List, [], ◌∷◌, ◌++◌, length, get_or, drop, ◌^◌, ◌<◌, Some, None, Ok, Err, Option, sym, refl, ap, ◌∙◌, arith}
use Rattle.std.specs.List.{AllByRecursion}
use Rattle.fields.specs.declared.faults.Place.{Place}
use Rattle.fields.specs.declared.faults.FieldFault.{FieldFault}
use Rattle.fields.specs.Questions.{Question, first_no, replied}
use Rattle.fields.specs.Forms.{Form, asked}
use Rattle.listing.specs.Lines.{place_at, field_questions, next_place, place_after, questions_from}
use Rattle.std.proofs.lemmas.List.{drop-drop, drop_all, get_or-drop}

module _ {F A : Type 0} where
  pub replied_ok : (o : Option F) (x v : A) → Ok x ≡ replied o v → (o ≡ None) × (x ≡ v)
  replied_ok None x v e = (refl, cc)
  replied_ok (Some f) x v e = absurd cc

  pub replied_err : (o : Option F) (f : F) (v : A) → Err f ≡ replied o v → o ≡ Some f
  replied_err None f v e = absurd cc
  replied_err (Some g) f v e = cc

module _ {F : Type 0} where
  yes_by : (t : Bool) (f : F) (o o' p : Option F) → (o ≡ None → o' ≡ p) → cond t o (Some f) ≡ None → cond t o' (Some f) ≡ p
  yes_by true f o o' p h e = h e
  yes_by false f o o' p h e = absurd cc

  -- where these are all answered yes, the first no is that of the others
  pub first_after : (qs rs : List (Question F)) → first_no qs ≡ None → first_no (qs ++ rs) ≡ first_no rs
  first_after [] rs e = refl
  first_after (q ∷ qs) rs e = yes_by q.0 q.1 (first_no qs) (first_no (qs ++ rs)) (first_no rs) (first_after qs rs) e

  pub all_yes : (qs : List (Question F)) → AllByRecursion (λ q. q.0 ≡ true) qs → first_no qs ≡ None
  all_yes [] h = refl
  all_yes (q ∷ qs) h = ap (λ t. cond t (first_no qs) (Some q.1)) h.0 ∙ all_yes qs h.1

  no_by : (t : Bool) (g f : F) (o o' : Option F) → (o ≡ Some f → o' ≡ Some f) → cond t o (Some g) ≡ Some f → cond t o' (Some g) ≡ Some f
  no_by true g f o o' h e = h e
  no_by false g f o o' h e = e

  -- a no among these comes before the others
  pub first_among : (qs rs : List (Question F)) (f : F) → first_no qs ≡ Some f → first_no (qs ++ rs) ≡ Some f
  first_among [] rs f e = absurd cc
  first_among (q ∷ qs) rs f e = no_by q.0 q.1 f (first_no qs) (first_no (qs ++ rs)) (first_among qs rs f) e

-- a field that is read, and then the others
module _ (form : Form) (p : Place) (forms : List Form) (fs : List (List ℕ)) where
  pub field_yes : first_no (asked form p (get_or fs 0 [])) ≡ None → first_no (questions_from p (form ∷ forms) fs) ≡ first_no (questions_from (next_place p) forms (drop 1 fs))
  field_yes e = first_after (asked form p (get_or fs 0 [])) (questions_from (next_place p) forms (drop 1 fs)) e

  pub field_no : (f : FieldFault) → first_no (asked form p (get_or fs 0 [])) ≡ Some f → first_no (questions_from p (form ∷ forms) fs) ≡ Some f
  field_no f e = first_among (asked form p (get_or fs 0 [])) (questions_from (next_place p) forms (drop 1 fs)) f e

pub first_dropped : (i : ℕ) (fs : List (List ℕ)) → get_or (drop i fs) 0 [] ≡ get_or fs i []
first_dropped i fs = get_or-drop i fs 0 [] ∙ ap (λ k. get_or fs k []) (let z : i + 0 ≡ i = omega arith in z)

pub ++-right_assoc : {A : Type 0} (xs ys zs : List A) → (xs ++ ys) ++ zs ≡ xs ++ (ys ++ zs)
++-right_assoc [] ys zs = refl
++-right_assoc (x ∷ xs) ys zs = ap (λ l. x ∷ l) (++-right_assoc xs ys zs)

pub questions_append : (p : Place) (xs ys : List Form) (fs : List (List ℕ)) → questions_from p (xs ++ ys) fs ≡ questions_from p xs fs ++ questions_from (place_after (length xs) p) ys (drop (length xs) fs)
questions_append p [] ys fs = refl
questions_append p (x ∷ xs) ys fs =
    ap (λ l. asked x p (get_or fs 0 []) ++ l)
    (questions_append (next_place p) xs ys (drop 1 fs) ∙ ap (λ l. questions_from (next_place p) xs (drop 1 fs) ++ questions_from (place_after (length xs) (next_place p)) ys l) (dropped xs fs))
    ∙ sym (++-right_assoc (asked x p (get_or fs 0 [])) (questions_from (next_place p) xs (drop 1 fs)) (questions_from (place_after (length xs) (next_place p)) ys (drop (suc (length xs)) fs)))
  where
    dropped : (xs : List Form) (fs : List (List ℕ)) → drop (length xs) (drop 1 fs) ≡ drop (suc (length xs)) fs
    dropped xs [] = drop_all (length xs) [] (omega arith)
    dropped xs (f ∷ fs) = refl

-- the same questions at the places of a line's fields, where these fit their numbers
pub from_index : (line i : ℕ) (forms : List Form) (fs : List (List ℕ)) → i + length forms < 2 ^ 64 → questions_from (place_at line i) forms (drop i fs) ≡ field_questions line i forms fs
from_index line i [] fs h = refl
from_index line i (form ∷ []) fs h = ap (λ w. asked form (place_at line i) w ++ []) (first_dropped i fs)
from_index line i (form ∷ other ∷ forms) fs h =
    let next : next_place (place_at line i) ≡ place_at line (i + 1) = ap (λ n. record { line = line; field = n }) (omega arith) in
    ap (λ w. asked form (place_at line i) w ++ questions_from (next_place (place_at line i)) (other ∷ forms) (drop 1 (drop i fs))) (first_dropped i fs)
    ∙ ap (λ p. asked form (place_at line i) (get_or fs i []) ++ questions_from p (other ∷ forms) (drop 1 (drop i fs))) next
    ∙ ap (λ l. asked form (place_at line i) (get_or fs i []) ++ questions_from (place_at line (i + 1)) (other ∷ forms) l) (drop-drop 1 i fs)
    ∙ ap (λ l. asked form (place_at line i) (get_or fs i []) ++ l) (from_index line (i + 1) (other ∷ forms) fs (omega arith))
