-- What each removal does to the records, whatever they say. Assumes nothing.
--
-- b, vs, ps: the base, the variable records and the pair records in use before, and with a prime afterwards. n' of `long` pair
-- records are in use afterwards.
use Rattle.std.specs.Prelude.{◌≡◌, ℕ, ◌≤◌, Bool, true, false, List, Some, None, Option, MatchOption, slice_set}
use Rattle.score.specs.Model.{Model}
use Rattle.score.specs.declared.choice.Choice.{Choice}
use Rattle.notes.specs.declared.removal.Removal.{Removal}
use Rattle.records.specs.declared.pairs.Link.{Link}
use Rattle.records.specs.declared.pairs.Pair.{Pair}
use Rattle.partners.specs.declared.links.ByOne.{ByOne}
use Rattle.partners.specs.declared.links.ByTwo.{ByTwo}
use Rattle.score.specs.declared.values.Two.{Two}
use Rattle.score.specs.Values.{at_two}
use Rattle.sheets.specs.Changed.{chosen, worth_one, two_best, two_scores, join_at, handed, kept, post}
use Rattle.partners.specs.Links.{present_at, alone_at, one_at, two_at}
use Rattle.sheets.specs.declared.variables.Var.{Var}
use Rattle.sheets.specs.declared.variables.Var.TheVariants.{Left}
use Rattle.worksheet.specs.Noting.{alone_note, one_note, two_note, set_note}

module _ {E S K : Type 0} (M : Model E S) (means : K → S) (J : K → K → K) where
  -- the choice of a variable with one partner that stands at u
  abbrev pub best_one : Two K → Link K → Bool → Choice K
  best_one r l u = chosen M means (worth_one J r l u false) (worth_one J r l u true)

  pub record AloneGone (b b' : K) (vs vs' : List (Var K)) (y : ℕ) (n : Option Removal) (r : Two K) : Type 0 where
    pub base_is : b' ≡ J b (chosen M means r.zero r.one).score
    pub vars_are : vs' ≡ slice_set vs y (Left r)
    pub note_is : n ≡ Some (alone_note y (chosen M means r.zero r.one))

  abbrev pub AloneDoes : K → K → List (Var K) → List (Var K) → List (Pair K) → ℕ → Option Removal → Type 0
  AloneDoes b b' vs vs' ps y n = MatchOption (alone_at vs ps y) (n ≡ None) (AloneGone b b' vs vs' y n)

  pub record OneGone (vs vs' : List (Var K)) (ps ps' : List (Pair K)) (n' long y : ℕ) (n : Option Removal) (by : ByOne K) : Type 0 where
    pub vars_are : vs' ≡ join_at J (slice_set vs y (Left by.var)) by.link.partner (record { zero = (best_one by.var by.link false).score; one = (best_one by.var by.link true).score })
    pub pairs_are : ps' ≡ kept y ps
    pub within : n' ≤ long
    pub note_is : n ≡ Some (one_note y by.link.partner (best_one by.var by.link false) (best_one by.var by.link true))

  abbrev pub OneDoes : List (Var K) → List (Var K) → List (Pair K) → List (Pair K) → ℕ → ℕ → ℕ → Option Removal → Type 0
  OneDoes vs vs' ps ps' n' long y n = MatchOption (one_at vs ps y) (n ≡ None) (OneGone vs vs' ps ps' n' long y n)

  pub record TwoGone (vs vs' : List (Var K)) (ps ps' : List (Pair K)) (n' long y : ℕ) (n : Option Removal) (by : ByTwo K) : Type 0 where
    pub vars_are : vs' ≡ slice_set vs y (Left by.var)
    pub pairs_are : ps' ≡ post J by.low.partner by.high.partner (two_scores (two_best M means J by.var by.low by.high)) (kept y ps)
    pub within : n' ≤ long
    pub note_is : n ≡ Some (two_note y by.low.partner by.high.partner (two_best M means J by.var by.low by.high))

  abbrev pub TwoDoes : List (Var K) → List (Var K) → List (Pair K) → List (Pair K) → ℕ → ℕ → ℕ → Option Removal → Type 0
  TwoDoes vs vs' ps ps' n' long y n = MatchOption (two_at vs ps y) (n ≡ None) (TwoGone vs vs' ps ps' n' long y n)

module _ {K : Type 0} (J : K → K → K) where
  pub record SetGone (b b' : K) (vs vs' : List (Var K)) (ps ps' : List (Pair K)) (n' long y : ℕ) (c : Bool) (n : Option Removal) (r : Two K) : Type 0 where
    pub base_is : b' ≡ J b (at_two r c)
    pub vars_are : vs' ≡ handed J y c (slice_set vs y (Left r)) ps
    pub pairs_are : ps' ≡ kept y ps
    pub within : n' ≤ long
    pub note_is : n ≡ Some (set_note y c)

  abbrev pub SetDoes : K → K → List (Var K) → List (Var K) → List (Pair K) → List (Pair K) → ℕ → ℕ → ℕ → Bool → Option Removal → Type 0
  SetDoes b b' vs vs' ps ps' n' long y c n = MatchOption (present_at vs y) (n ≡ None) (SetGone b b' vs vs' ps ps' n' long y c n)
