-- A board just opened. Assumes nothing.
use Rattle.std.proofs.Common.{◌≡◌, ℕ, ◌<◌, true, false, leb, List, length, is_err, Some, None, Ok, Err, Result, sym, refl, subst, arith}
use Rattle.std.specs.List.{slice_get}
use Rattle.std.proofs.lemmas.Bool.{true≢false, false≢true, and_parts, leb-true}
use Rattle.score.specs.Model.{Model}
use Rattle.calls.specs.declared.refusals.Refusal.{Refusal}
use Rattle.calls.specs.Questions.{refusal_in, opening_questions, most_variables, most_pairs, most_changes}
use Rattle.calls.specs.Standing.{fresh}
use Rattle.calls.proofs.Asked.{all_yes}
use Rattle.records.specs.declared.pairs.Pair.{Pair}
use Rattle.records.specs.declared.history.Undo.{Undo}
use Rattle.records.specs.declared.variables.Var.{Var}
use Rattle.records.specs.Variables.{Fresh}
use Rattle.board.specs.Opening.{not_opened, no_changes, Opened}
use Rattle.board.specs.Stands.{Stands}
use Rattle.board.specs.Tables.{Held}

module _ {E S K : Type 0} (M : Model E S) (means : K → S) (n : ℕ) (vars : List (Var K)) (pairs : List (Pair K)) (history : List (Undo K)) where
  opened_so : (cleared : List (Var K)) (r : Var K) (h : Held K) → None ≡ not_opened n vars pairs history → Fresh M means r
      → length cleared ≡ length vars → ((v : ℕ) → v < n → v < length vars → slice_get cleared v ≡ Some r) → h ≡ no_changes cleared pairs history n
      → Opened M means n vars pairs history h
  opened_so cleared r h e fr long each is =
      let yes' = all_yes (opening_questions n (length vars) (length pairs) (length history)) (sym e) in
      let n_small = leb-true n most_variables (and_parts (leb 1 n) (leb n most_variables) yes'.0).1 in
      let memory = and_parts (leb most_variables (length vars)) _ yes'.1.0 in
      let rest = and_parts (leb most_pairs (length pairs)) (leb most_changes (length history)) memory.1 in
      let vars_long = leb-true most_variables (length vars) memory.0 in
      record {
        opened = λ _. subst (λ x. Stands M means n x fresh) (sym is) (record {
          n_is = refl;
          standing_is = refl;
          kept_is = refl;
          vars_long = omega (arith, long, vars_long);
          pairs_long = leb-true most_pairs (length pairs) rest.0;
          history_long = leb-true most_changes (length history) rest.1;
          n_small = n_small;
          valid = tt;
          traces = record {
            vars = λ v below. (r, each v below (omega (arith, below, n_small, vars_long)), record { zero = fr.scores false; one = fr.scores true; pin = fr.pin });
            keys = refl;
            pairs = tt;
          };
        });
        refused = λ f k. absurd cc;
      }

  pub opens : (reply : Result (Unit {0}) Refusal) (cleared : List (Var K)) (r : Var K) (h : Held K) → is_err reply ≡ false → refusal_in reply ≡ not_opened n vars pairs history → Fresh M means r
      → length cleared ≡ length vars → ((v : ℕ) → v < n → v < length vars → slice_get cleared v ≡ Some r) → h ≡ no_changes cleared pairs history n
      → Opened M means n vars pairs history h
  opens (Ok x) cleared r h good e = opened_so cleared r h e
  opens (Err f) cleared r h bad e = absurd (true≢false bad)

  pub refuses : (reply : Result (Unit {0}) Refusal) (h : Held K) → is_err reply ≡ true → refusal_in reply ≡ not_opened n vars pairs history → h ≡ no_changes vars pairs history 0
      → Opened M means n vars pairs history h
  refuses (Ok x) h bad e same = absurd (false≢true bad)
  refuses (Err f) h bad e same = record { opened = λ k. absurd cc; refused = λ _ _. same }
