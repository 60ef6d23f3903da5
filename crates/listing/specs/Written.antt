-- What is written into fields is read back from them. Assumes nothing.
use Rattle.std.specs.Prelude.{◌≡◌, ℕ, true, List, ◌++◌, length, None}
use Rattle.std.specs.List.{AllByRecursion}
use Rattle.fields.specs.Questions.{first_no}
use Rattle.listing.specs.Text.{comma, Without}
use Rattle.fields.specs.declared.faults.Place.{Place}
use Rattle.listing.specs.Lines.{questions_from}
use Rattle.listing.specs.Entries.{EntryForm}

pub record ReadsBack {E : Type 0} (M : EntryForm E) : Type 0 where
  pub count : (e : E) → length (M.written e) ≡ length M.forms
  -- every question to the fields is answered yes, wherever they stand and whatever stands after them
  pub passes : (e : E) (p : Place) (more : List (List ℕ)) → M.fits e ≡ true → first_no (questions_from p M.forms (M.written e ++ more)) ≡ None
  -- they spell the entry
  pub same : (e : E) (more : List (List ℕ)) → M.fits e ≡ true → M.spelled (M.written e ++ more) ≡ e
  -- no field has a comma
  pub plain : (e : E) → M.fits e ≡ true → AllByRecursion (Without comma) (M.written e)
