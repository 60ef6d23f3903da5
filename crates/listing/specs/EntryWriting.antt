-- An entry that is written into fields is read back. Assumes nothing.
use Rattle.std.proofs.Common.{◌≡◌, ℕ, suc, true, List, [], ◌∷◌, ◌++◌, length, drop, None, decimal, sym, refl, ap, ◌∙◌, append_assoc, append-nil, arith, length-append}
use Rattle.std.specs.Fmt.{signed_decimal}
use Rattle.std.proofs.ByRecursion.{All-append}
use Rattle.std.proofs.Math.Seq.{drop-append_seam}
use Rattle.std.proofs.lemmas.Bool.{and_parts}
use Rattle.fields.specs.Values.{natural_range, integer_range}
use Rattle.fields.specs.Questions.{first_no}
use Rattle.fields.specs.Forms.{Form, natural, integer, asked}
use Rattle.score.specs.declared.values.Two.{Two}
use Rattle.listing.specs.Text.{comma, Without}
use Rattle.fields.specs.declared.faults.Place.{Place}
use Rattle.listing.specs.Lines.{next_place, place_after, questions_from}
use Rattle.listing.specs.Entries.{EntryForm, access_form, slack_form, weighted_form, by_value_form}
use Rattle.listing.specs.Written.{ReadsBack}
use Rattle.listing.specs.Asked.{first_after, field_yes, questions_append}
use Rattle.listing.specs.NumberWriting.{natural_passes, integer_passes, natural_is, natural_plain, signed_is, signed_plain}

-- one field, and then the others
pub passes_field : (form : Form) (forms : List Form) (p : Place) (w : List ℕ) (ws : List (List ℕ)) → first_no (asked form p w) ≡ None → first_no (questions_from (next_place p) forms ws) ≡ None → first_no (questions_from p (form ∷ forms) (w ∷ ws)) ≡ None
passes_field form forms p w ws h k = field_yes form p forms (w ∷ ws) h ∙ k

pub access_back : ReadsBack access_form
access_back = record {
  count = λ e. refl;
  passes = λ e place more h.
      let p = and_parts (natural_range e.hits) (integer_range e.cycles) h in
      passes_field natural (integer ∷ []) place (decimal e.hits) (signed_decimal e.cycles ∷ more) (natural_passes e.hits _ p.0)
      (passes_field integer [] (next_place place) (signed_decimal e.cycles) more (integer_passes e.cycles _ p.1) refl);
  same = λ e more h. let p = and_parts (natural_range e.hits) (integer_range e.cycles) h in λ i. record { hits = natural_is e.hits p.0 i; cycles = signed_is e.cycles p.1 i };
  plain = λ e h. let p = and_parts (natural_range e.hits) (integer_range e.cycles) h in (natural_plain e.hits p.0, (signed_plain e.cycles p.1, tt));
}

pub slack_back : ReadsBack slack_form
slack_back = record {
  count = λ e. refl;
  passes = λ e place more h. passes_field integer [] place (signed_decimal e.margin) more (integer_passes e.margin _ h) refl;
  same = λ e more h i. record { margin = signed_is e.margin h i };
  plain = λ e h. (signed_plain e.margin h, tt);
}

module _ {E : Type 0} (M : EntryForm E) (back : ReadsBack M) where
  pub weighted_back : ReadsBack (weighted_form M)
  weighted_back = record {
    count = λ e. ap suc (back.count e.second);
    passes = λ e place more h.
        let p = and_parts (integer_range e.weight) (M.fits e.second) h in
        passes_field integer M.forms place (signed_decimal e.weight) (M.written e.second ++ more) (integer_passes e.weight _ p.0) (back.passes e.second (next_place place) more p.1);
    same = λ e more h. let p = and_parts (integer_range e.weight) (M.fits e.second) h in λ i. record { weight = signed_is e.weight p.0 i; second = back.same e.second more p.1 i };
    plain = λ e h. let p = and_parts (integer_range e.weight) (M.fits e.second) h in (signed_plain e.weight p.0, back.plain e.second p.1);
  }

  -- the fields of two entries before some others
  module _ (e : Two E) (more : List (List ℕ)) where
    whole : (M.written e.zero ++ M.written e.one) ++ more ≡ M.written e.zero ++ (M.written e.one ++ more)
    whole = append_assoc (M.written e.zero) (M.written e.one) more

    second_part : drop (length M.forms) ((M.written e.zero ++ M.written e.one) ++ more) ≡ M.written e.one ++ more
    second_part = ap (drop (length M.forms)) whole ∙ ap (λ n. drop n (M.written e.zero ++ (M.written e.one ++ more))) (sym (back.count e.zero)) ∙ drop-append_seam (M.written e.zero) (M.written e.one ++ more)

  pub by_value_back : ReadsBack (by_value_form M)
  by_value_back = record {
    count = λ e. simp length-append (omega (arith, back.count e.zero, back.count e.one));
    passes = λ e place more h.
        let p = and_parts (M.fits e.zero) (M.fits e.one) h in
        let fs = (M.written e.zero ++ M.written e.one) ++ more in
        ap first_no (questions_append place M.forms M.forms fs)
        ∙ first_after (questions_from place M.forms fs) (questions_from (place_after (length M.forms) place) M.forms (drop (length M.forms) fs))
        (ap (λ l. first_no (questions_from place M.forms l)) (whole e more) ∙ back.passes e.zero place (M.written e.one ++ more) p.0)
        ∙ ap (λ l. first_no (questions_from (place_after (length M.forms) place) M.forms l)) (second_part e more)
        ∙ back.passes e.one (place_after (length M.forms) place) more p.1;
    same = λ e more h.
        let p = and_parts (M.fits e.zero) (M.fits e.one) h in
        let a = ap M.spelled (whole e more) ∙ back.same e.zero (M.written e.one ++ more) p.0 in
        let b = ap M.spelled (second_part e more) ∙ back.same e.one more p.1 in
        λ i. record { zero = a i; one = b i };
    plain = λ e h. let p = and_parts (M.fits e.zero) (M.fits e.one) h in All-append (Without comma) (M.written e.zero) (M.written e.one) (back.plain e.zero p.0) (back.plain e.one p.1);
  }

-- an entry whose fields are the last
module _ {E : Type 0} (M : EntryForm E) (back : ReadsBack M) (e : E) (h : M.fits e ≡ true) where
  pub passes_last : (p : Place) → first_no (questions_from p M.forms (M.written e)) ≡ None
  passes_last p = ap (λ ws. first_no (questions_from p M.forms ws)) (sym (append-nil (M.written e))) ∙ back.passes e p [] h

  pub same_last : M.spelled (M.written e) ≡ e
  same_last = ap M.spelled (sym (append-nil (M.written e))) ∙ back.same e [] h
