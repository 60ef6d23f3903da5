-- A layout of bytes read from the notes is the layout that the steps read. Assumes nothing.
use Rattle.std.proofs.Common.{◌≡◌, ℕ, ◌<◌, Bool, true, false, eqb, List, [], ◌∷◌, ◌++◌, map, reverse, length, sym, refl, ap, ◌∙◌, subst, ⊎_elim}
use mathlib.Core.Path.{fun_ext}
use mathlib.Core.List.{reverse-cons}
use Rattle.std.proofs.lemmas.List.{length-set, get_or-set_same, get_or-set_other}
use Rattle.std.proofs.lemmas.Bool.{cases_eq, cond-true, cond-false, eq-eqb, ne_eqb}
use Rattle.steps.specs.Sheet.{put}
use Rattle.steps.specs.Steps.{Note, taken, read}
use Rattle.notes.specs.declared.removal.Removal.{Removal}
use Rattle.notes.specs.Layouts.{bank_at, settled, read_back, ReadFrom}
use Rattle.notes.specs.Removals.{bank, bank_number, way_of, note_of}

-- a bank's number stands for that bank
pub bank_back : (u : Bool) → bank (bank_number u) ≡ u
bank_back true = refl
bank_back false = refl

-- one note more at the end, read last
read_last : (ms : List (Note Bool)) (m : Note Bool) (l : ℕ → Bool) → read (ms ++ m ∷ []) l ≡ put (read ms l) m.variable (taken m.way (read ms l))
read_last [] m l = refl
read_last (k ∷ ms) m l = read_last ms m (put l k.variable (taken k.way l))

settled_is : (bs : List ℕ) (n : Removal) → n.variable < length bs → bank_at (settled bs n) ≡ put (bank_at bs) n.variable (taken (way_of n.way) (bank_at bs))
settled_is bs n below = fun_ext (λ v.
    ⊎_elim
    (λ (e : v ≡ n.variable).
    ap (bank_at (settled bs n)) e
    ∙ ap bank (get_or-set_same bs n.variable (bank_number t) 0 below)
    ∙ bank_back t
    ∙ sym (cond-true (eqb v n.variable) t (bank_at bs v) (eq-eqb v n.variable e)))
    (λ (e : v ≡ n.variable → ⊥).
    ap bank (get_or-set_other bs n.variable v (bank_number t) 0 e)
    ∙ sym (cond-false (eqb v n.variable) t (bank_at bs v) (ne_eqb v n.variable e)))
    (cases_eq v n.variable))
  where
    t : Bool
    t = taken (way_of n.way) (bank_at bs)

read_length : (bs : List ℕ) (ns : List Removal) → length (read_back bs ns) ≡ length bs
read_length bs [] = refl
read_length bs (n ∷ ns) = length-set (read_back bs ns) n.variable _ ∙ read_length bs ns

pub read_from : (ns : List Removal) (bs : List ℕ) → ReadFrom ns bs (read_back bs ns)
read_from [] bs h = refl
read_from (n ∷ ns) bs h =
    settled_is (read_back bs ns) n (subst (λ k. n.variable < k) (sym (read_length bs ns)) h.0)
    ∙ ap (λ l. put l n.variable (taken (way_of n.way) l)) (read_from ns bs h.1)
    ∙ sym (ap (λ ms. read ms (bank_at bs)) (reverse-cons (note_of n) (map note_of ns)) ∙ read_last (reverse (map note_of ns)) (note_of n) (bank_at bs))

pub reads : (ns : List Removal) (bs bs' : List ℕ) → bs' ≡ read_back bs ns → ReadFrom ns bs bs'
reads ns bs bs' e = subst (ReadFrom ns bs) (sym e) (read_from ns bs)
