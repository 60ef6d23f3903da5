-- What a board's memory holds, and how a call changes it. Assumes nothing.
use Rattle.std.specs.Prelude.{◌≡◌, ℕ, suc, ◌-◌, Bool, true, false, List, map, take, Some, None, Option, slice_set}
use Rattle.std.specs.List.{slice_get}
use Rattle.score.specs.declared.values.Four.{Four}
use Rattle.score.specs.declared.values.Two.{Two}
use Rattle.calls.specs.Questions.{View}
use Rattle.calls.specs.Standing.{has_key}
use Rattle.records.specs.Pairs.{joined_pair}
use Rattle.records.specs.Variables.{joined_var, with_pin}
use Rattle.records.specs.declared.pairs.Pair.{Pair}
use Rattle.records.specs.declared.history.Undo.{Undo}
use Rattle.records.specs.declared.variables.Var.{Var}
use Rattle.records.specs.declared.history.Was.{Was}
use Rattle.records.specs.declared.history.Was.TheVariants.{Var as WasVar, Pair as WasPair, Unkept}

-- every record of every memory, and every count
pub record Held (K : Type 0) : Type 0 where
  pub vars : List (Var K)
  pub pairs : List (Pair K)
  pub history : List (Undo K)
  pub n : ℕ
  pub kept : ℕ
  pub standing : ℕ

abbrev pub pair_key : {K : Type 0} → Pair K → ℕ × ℕ
pair_key p = (p.low, p.high)

abbrev pub var_pin : {K : Type 0} → Option (Var K) → Option Bool
var_pin None = None
var_pin (Some r) = r.pin

-- the pair records in use
abbrev pub used : {K : Type 0} → Held K → List (Pair K)
used h = take h.kept h.pairs

-- what the questions look at, read off the records
abbrev pub records_view : {K : Type 0} → Held K → View
records_view h = record { n = h.n; standing = h.standing; kept = h.kept; keys = map pair_key (used h); pin = λ v. var_pin (slice_get h.vars v) }

abbrev pub undo_at : {K : Type 0} → ℕ → Was K → Undo K
undo_at i w = record { at = i; was = w }

-- what a change replaces is kept in the history
abbrev pub noted : {K : Type 0} → Held K → ℕ → Was K → Held K
noted h i w = record {
  vars = h.vars;
  pairs = h.pairs;
  history = slice_set h.history h.standing (undo_at i w);
  n = h.n;
  kept = h.kept;
  standing = suc h.standing;
}

-- a variable's record is replaced, and the old one kept in the history
abbrev pub replace_var : {K : Type 0} → Held K → ℕ → Var K → Var K → Held K
replace_var h v old new = record {
  vars = slice_set h.vars v new;
  pairs = h.pairs;
  history = slice_set h.history h.standing (undo_at v (WasVar old));
  n = h.n;
  kept = h.kept;
  standing = suc h.standing;
}

-- a pair's record is replaced, and the old one kept in the history
abbrev pub replace_pair : {K : Type 0} → Held K → ℕ → Pair K → Pair K → Held K
replace_pair h i old new = record {
  vars = h.vars;
  pairs = slice_set h.pairs i new;
  history = slice_set h.history h.standing (undo_at i (WasPair old));
  n = h.n;
  kept = h.kept;
  standing = suc h.standing;
}

-- a pair is kept that was not
abbrev pub keep_pair : {K : Type 0} → Held K → Pair K → Held K
keep_pair h new = record {
  vars = h.vars;
  pairs = slice_set h.pairs h.kept new;
  history = slice_set h.history h.standing (undo_at h.kept Unkept);
  n = h.n;
  kept = suc h.kept;
  standing = suc h.standing;
}

-- the newest history record's contents are put back
abbrev pub put_back : {K : Type 0} → Held K → Undo K → Held K
put_back h u = elim u.was [
  | WasVar old ↦ record { vars = slice_set h.vars u.at old; pairs = h.pairs; history = h.history; n = h.n; kept = h.kept; standing = h.standing - 1 }
  | WasPair old ↦ record { vars = h.vars; pairs = slice_set h.pairs u.at old; history = h.history; n = h.n; kept = h.kept; standing = h.standing - 1 }
  | Unkept ↦ record { vars = h.vars; pairs = h.pairs; history = h.history; n = h.n; kept = h.kept - 1; standing = h.standing - 1 }
]

-- the newest change is taken back
abbrev pub take_back : {K : Type 0} → Held K → Held K
take_back h = elim (slice_get h.history (h.standing - 1)) [ None ↦ h | Some u ↦ put_back h u ]

-- J: what a join of two held scores holds
module _ {K : Type 0} (J : K → K → K) where
  -- two scores are joined onto a variable's
  abbrev pub join_one : Held K → ℕ → Two K → Held K
  join_one h v t = elim (slice_get h.vars v) [ None ↦ h | Some old ↦ replace_var h v old (joined_var J old t) ]

  -- four scores, the lower variable first, are joined onto the pair's at its place, or become that pair
  abbrev pub join_pair : Held K → ℕ × ℕ → Four K → Option ℕ → Held K
  join_pair h k f (Some i) = elim (slice_get h.pairs i) [ None ↦ h | Some old ↦ replace_pair h i old (joined_pair J old f) ]
  join_pair h k f None = keep_pair h (record { low = k.0; high = k.1; scores = f })

abbrev pub set_pin : {K : Type 0} → Held K → ℕ → Option Bool → Held K
set_pin h v p = elim (slice_get h.vars v) [ None ↦ h | Some old ↦ replace_var h v old (with_pin old p) ]

-- where a pair with this key stands among these records; none if there is none
pub record AtPlace {K : Type 0} (k : ℕ × ℕ) (ps : List (Pair K)) (i : ℕ) : Type 0 where
  pub pair : Pair K
  pub there : slice_get ps i ≡ Some pair
  pub key_is : pair_key pair ≡ k

abbrev pub Place : {K : Type 0} → ℕ × ℕ → List (Pair K) → Option ℕ → Type 0
Place k ps (Some i) = (has_key k (map pair_key ps) ≡ true) × AtPlace k ps i
Place k ps None = has_key k (map pair_key ps) ≡ false
