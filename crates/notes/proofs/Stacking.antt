-- The stack of notes and that of open splits are lists. Assumes nothing.
use Rattle.std.proofs.Common.{◌≡◌, ℕ, ◌+◌, ◌-◌, ◌<◌, ◌≤◌, Bool, true, false, cond, ltb, List, [], ◌∷◌, ◌++◌, length, take, drop, set, get_or, Some, None, Option, sym, refl, ap, ◌∙◌, add-one, arith}
use Rattle.std.specs.List.{slice_get}
use Rattle.std.proofs.lemmas.List.{length-set, length-append, length-take, length-drop, take_all, take_more, take_more_set, take-take, drop_more, drop-set-lt}
use Rattle.std.proofs.lemmas.Option.{slice_get-get_or}
use Rattle.std.proofs.lemmas.Bool.{cond-true, ltb-true, lt-ltb}
use Rattle.notes.specs.declared.splits.Split.{Split}
use Rattle.notes.specs.declared.splits.TheConstants.{MOST_SPLITS}
use Rattle.notes.specs.Claims.{Stacks}
use Rattle.notes.specs.Splits.{Opened, Bounded, at_zero, at_one, pushed, top_of, begun, popped}
use Rattle.notes.specs.Stack.{notes_of}
use Rattle.std.proofs.lemmas.Option.{slice_get_within}
use Rattle.records.proofs.Lists.{take_set, nth_take, nth_set_same}

-- a table of which the first n are open
abbrev opened : List Split → ℕ → Opened
opened xs n = record { splits = take n xs; spare = drop n xs }

same_parts : {ss ts rs us : List Split} → ss ≡ ts → rs ≡ us → ◌≡◌ {A = Opened} (record { splits = ss; spare = rs }) (record { splits = ts; spare = us })
same_parts {ss} {ts} {rs} {us} e f = ap (λ l. record { splits = l; spare = rs }) e ∙ ap (λ l. record { splits = ts; spare = l }) f

begun_by : (s : Opened) (p : Split) → top_of s ≡ Some p → begun s ≡ record { splits = set s.splits (length s.splits - 1) (at_one p); spare = s.spare }
begun_by s p top = ap (λ o. elim o [ None ↦ s | Some q ↦ record { splits = set s.splits (length s.splits - 1) (at_one q); spare = s.spare } ]) top

popped_by : (s : Opened) (p : Split) → top_of s ≡ Some p → popped s ≡ record { splits = take (length s.splits - 1) s.splits; spare = p ∷ s.spare }
popped_by s p top = ap (λ o. elim o [ None ↦ s | Some q ↦ record { splits = take (length s.splits - 1) s.splits; spare = q ∷ s.spare } ]) top

-- the first that is not in use, taken
pub pushed_at : (xs : List Split) (n y m : ℕ) → n < MOST_SPLITS → length xs ≡ MOST_SPLITS → opened (set xs n (at_zero y m)) (n + 1) ≡ pushed (opened xs n) y m
pushed_at xs n y m room long =
    let x = at_zero y m in
    same_parts (take_more_set xs n x (omega (arith, long)))
    (drop-set-lt (n + 1) xs n x (omega arith) ∙ sym (ap (drop 1) (drop_more xs n x (omega (arith, long)))))
    ∙ sym (cond-true (ltb (length (take n xs)) MOST_SPLITS) _ (opened xs n) (lt-ltb (length (take n xs)) MOST_SPLITS (omega (arith, length-take n xs))))

top_at : (xs : List Split) (n k : ℕ) (d : Split) → k + 1 ≡ n → n ≤ length xs → top_of (opened xs n) ≡ Some (get_or xs k d)
top_at xs n k d last below =
    let long : length (take n xs) - 1 ≡ k = omega (arith, length-take n xs) in
    ap (slice_get (take n xs)) long ∙ nth_take xs n k (omega arith) ∙ slice_get-get_or xs k d (omega arith)

-- the newest of the first n, marked
pub begun_at : (xs : List Split) (n k : ℕ) (d : Split) → k + 1 ≡ n → n ≤ length xs → opened (set xs k (at_one (get_or xs k d))) n ≡ begun (opened xs n)
begun_at xs n k d last below =
    let long : length (take n xs) - 1 ≡ k = omega (arith, length-take n xs) in
    let p = get_or xs k d in
    same_parts (take_set xs n k (at_one p) ∙ ap (λ i. set (take n xs) i (at_one p)) (sym long))
    (drop-set-lt n xs k (at_one p) (omega arith))
    ∙ sym (begun_by (opened xs n) p (top_at xs n k d last below))

pub marked_at : (xs : List Split) (n k : ℕ) (p : Split) → k + 1 ≡ n → n ≤ length xs → top_of (opened (set xs k p) n) ≡ Some p
marked_at xs n k p last below =
    let long : length (take n (set xs k p)) - 1 ≡ k = omega (arith, length-take n (set xs k p), length-set xs k p) in
    ap (slice_get (take n (set xs k p))) long ∙ nth_take (set xs k p) n k (omega arith) ∙ nth_set_same xs k p (omega arith)

-- the newest of the first n, not in use any more
pub popped_at : (xs : List Split) (n k : ℕ) (d : Split) → k + 1 ≡ n → n ≤ length xs → opened xs k ≡ popped (opened xs n)
popped_at xs n k d last below =
    let long : length (take n xs) - 1 ≡ k = omega (arith, length-take n xs) in
    same_parts (sym (take-take k n xs (omega arith)) ∙ ap (λ i. take i (take n xs)) (sym long))
    (drop_more xs k d (omega arith) ∙ ap (λ i. get_or xs k d ∷ drop i xs) last)
    ∙ sym (popped_by (opened xs n) (get_or xs k d) (top_at xs n k d last below))

-- all but the newest, and the newest
split_off : (s : List Split) → 0 < length s → s ≡ take (length s - 1) s ++ get_or s (length s - 1) (at_zero 0 0) ∷ []
split_off s some =
    sym (take_all (length s) s (omega arith)) ∙ ap (λ k. take k s) (omega arith) ∙ take_more s (length s - 1) (at_zero 0 0) (omega arith)

-- a list whose last is another
last_set : (s : List Split) (p : Split) → 0 < length s → set s (length s - 1) p ≡ take (length s - 1) s ++ p ∷ []
last_set s p some =
    sym (take_all (length s) (set s (length s - 1) p) (omega (arith, length-set s (length s - 1) p)))
    ∙ ap (λ k. take k (set s (length s - 1) p)) (omega arith)
    ∙ take_more_set s (length s - 1) p (omega arith)

split_more : (s : Opened) (y n : ℕ) → length s.splits < MOST_SPLITS
    → ((pushed s y n).splits ≡ s.splits ++ at_zero y n ∷ []) × ((pushed s y n).spare ≡ drop 1 s.spare)
split_more s y n room =
    let e = cond-true (ltb (length s.splits) MOST_SPLITS) (record { splits = s.splits ++ at_zero y n ∷ []; spare = drop 1 s.spare }) s (lt-ltb (length s.splits) MOST_SPLITS room) in
    (ap Opened.splits e, ap Opened.spare e)

split_fewer : (s : Opened) → 0 < length s.splits
    → (p : Split) × (top_of s ≡ Some p) × (s.splits ≡ (popped s).splits ++ p ∷ []) × ((popped s).spare ≡ p ∷ s.spare)
split_fewer s some =
    let last = length s.splits - 1 in
    let p = get_or s.splits last (at_zero 0 0) in
    let top : top_of s ≡ Some p = slice_get-get_or s.splits last (at_zero 0 0) (omega arith) in
    let e = popped_by s p top in
    (p, top, split_off s.splits some ∙ ap (λ l. l ++ p ∷ []) (sym (ap Opened.splits e)), ap Opened.spare e)

split_begun : (s : Opened) (p : Split) → top_of s ≡ Some p
    → ((begun s).splits ≡ (popped s).splits ++ at_one p ∷ []) × ((begun s).spare ≡ s.spare)
split_begun s p top =
    let some : length s.splits - 1 < length s.splits = slice_get_within s.splits (length s.splits - 1) p top in (
      ap Opened.splits (begun_by s p top) ∙ last_set s.splits (at_one p) (omega arith) ∙ ap (λ l. l ++ at_one p ∷ []) (sym (ap Opened.splits (popped_by s p top))),
      ap Opened.spare (begun_by s p top),
    )

push_bounded : (s : Opened) (y n : ℕ) → Bounded s → Bounded (pushed s y n)
push_bounded s y n b = go (ltb (length s.splits) MOST_SPLITS) refl
  where
    go : (t : Bool) → ltb (length s.splits) MOST_SPLITS ≡ t → Bounded (cond t (record { splits = s.splits ++ at_zero y n ∷ []; spare = drop 1 s.spare }) s)
    go true e = record {
      table_is = omega (arith, b.table_is, ltb-true (length s.splits) MOST_SPLITS e, length-append s.splits (at_zero y n ∷ []), length-drop 1 s.spare);
      most = omega (arith, ltb-true (length s.splits) MOST_SPLITS e, length-append s.splits (at_zero y n ∷ []));
    }
    go false e = b

begun_bounded : (s : Opened) → Bounded s → Bounded (begun s)
begun_bounded s b = go (top_of s)
  where
    go : (o : Option Split) → Bounded (elim o [ None ↦ s | Some p ↦ record { splits = set s.splits (length s.splits - 1) (at_one p); spare = s.spare } ])
    go None = b
    go (Some p) = record {
      table_is = omega (arith, b.table_is, length-set s.splits (length s.splits - 1) (at_one p));
      most = omega (arith, b.most, length-set s.splits (length s.splits - 1) (at_one p));
    }

pop_bounded : (s : Opened) → Bounded s → Bounded (popped s)
pop_bounded s b = go (top_of s) refl
  where
    go : (o : Option Split) → top_of s ≡ o → Bounded (elim o [ None ↦ s | Some p ↦ record { splits = take (length s.splits - 1) s.splits; spare = p ∷ s.spare } ])
    go None e = b
    go (Some p) e =
        let some : length s.splits - 1 < length s.splits = slice_get_within s.splits (length s.splits - 1) p e in
        record {
          table_is = omega (arith, b.table_is, some, length-take (length s.splits - 1) s.splits);
          most = omega (arith, b.most, length-take (length s.splits - 1) s.splits);
        }

pub stacks : Stacks
stacks = record {
  note_more = λ h n room.
      ap notes_of (cond-true (ltb h.count (length h.table)) _ h (lt-ltb h.count (length h.table) room))
      ∙ ap (λ k. take k (set h.table h.count n)) (sym (add-one h.count))
      ∙ take_more_set h.table h.count n room;
  note_fewer = λ h k few. ap (λ m. take m h.table) (omega arith) ∙ sym (take-take k h.count h.table few);
  most_is = refl;
  split_more = split_more;
  split_fewer = split_fewer;
  split_begun = split_begun;
  push_bounded = push_bounded;
  begun_bounded = begun_bounded;
  pop_bounded = pop_bounded;
}
