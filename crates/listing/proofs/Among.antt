-- An entry that is written into fields is read back from them wherever they stand in a line. Assumes nothing.
use Rattle.std.proofs.Common.{◌≡◌, ℕ, ◌+◌, Bool, true, false, cond, List, [], ◌∷◌, ◌++◌, length, get_or, drop, Some, None, Option, sym, refl, ap, ◌∙◌}
use Rattle.std.specs.List.{AllByRecursion}
use Rattle.std.proofs.lemmas.List.{drop-drop}
use Rattle.std.proofs.Math.Seq.{drop-append_seam}
use Rattle.fields.specs.declared.faults.Place.{Place}
use Rattle.fields.specs.Questions.{Question, first_no}
use Rattle.fields.specs.Forms.{Form, natural, integer, layout, kind, asked}
use Rattle.listing.specs.Lines.{place_at, field_questions, next_place, questions_from}
use Rattle.listing.specs.Entries.{EntryForm}
use Rattle.listing.specs.Written.{ReadsBack}
use Rattle.listing.specs.Asked.{all_yes, first_after, first_dropped}

module _ {F : Type 0} where
  yes_first : (t : Bool) (f : F) (o : Option F) → cond t o (Some f) ≡ None → (t ≡ true) × (o ≡ None)
  yes_first true f o e = (refl, e)
  yes_first false f o e = absurd cc

  yes_all : (qs : List (Question F)) → first_no qs ≡ None → AllByRecursion (λ q. q.0 ≡ true) qs
  yes_all [] e = tt
  yes_all (q ∷ qs) e = let p = yes_first q.0 q.1 (first_no qs) e in (p.0, yes_all qs p.1)

  yes_both : (qs rs : List (Question F)) → first_no (qs ++ rs) ≡ None → (first_no qs ≡ None) × (first_no rs ≡ None)
  yes_both [] rs e = (refl, e)
  yes_both (q ∷ qs) rs e =
      let p = yes_first q.0 q.1 (first_no (qs ++ rs)) e in
      let r = yes_both qs rs p.1 in
      (ap (λ t. cond t (first_no qs) (Some q.1)) p.0 ∙ r.0, r.1)

-- the answers to a field's questions are the same at each place
same_answers : (form : Form) (p q : Place) (w : List ℕ) → first_no (asked form p w) ≡ None → first_no (asked form q w) ≡ None
same_answers natural p q w h = all_yes (asked natural q w) (yes_all (asked natural p w) h)
same_answers integer p q w h = all_yes (asked integer q w) (yes_all (asked integer p w) h)
same_answers layout p q w h = all_yes (asked layout q w) (yes_all (asked layout p w) h)
same_answers kind p q w h = all_yes (asked kind q w) (yes_all (asked kind p w) h)

passes_at : (forms : List Form) (line i : ℕ) (fs : List (List ℕ)) (p : Place) → first_no (questions_from p forms (drop i fs)) ≡ None → first_no (field_questions line i forms fs) ≡ None
passes_at [] line i fs p h = refl
passes_at (form ∷ forms) line i fs p h =
    let both = yes_both (asked form p (get_or (drop i fs) 0 [])) (questions_from (next_place p) forms (drop 1 (drop i fs))) h in
    first_after (asked form (place_at line i) (get_or fs i [])) (field_questions line (i + 1) forms fs)
    (same_answers form p (place_at line i) (get_or fs i []) (ap (λ w. first_no (asked form p w)) (sym (first_dropped i fs)) ∙ both.0))
    ∙ passes_at forms line (i + 1) fs (next_place p) (ap (λ l. first_no (questions_from (next_place p) forms l)) (sym (drop-drop 1 i fs)) ∙ both.1)

-- whatever stands before and after the entry's fields
module _ {E : Type 0} (M : EntryForm E) (law : ReadsBack M) (e : E) (front more : List (List ℕ)) (fits : M.fits e ≡ true) where
  pub passes_among : (line : ℕ) → first_no (field_questions line (length front) M.forms (front ++ (M.written e ++ more))) ≡ None
  passes_among line =
      passes_at M.forms line (length front) (front ++ (M.written e ++ more)) (place_at line (length front))
      (ap (λ l. first_no (questions_from (place_at line (length front)) M.forms l)) (drop-append_seam front (M.written e ++ more)) ∙ law.passes e (place_at line (length front)) more fits)

  pub same_among : M.spelled (drop (length front) (front ++ (M.written e ++ more))) ≡ e
  same_among = ap M.spelled (drop-append_seam front (M.written e ++ more)) ∙ law.same e more fits
