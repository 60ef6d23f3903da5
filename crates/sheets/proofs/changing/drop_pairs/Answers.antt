use Rattle.std.proofs.Common.{sym, ◌∙◌, arith}
use Rattle.std.proofs.lemmas.List.Filters.{FiltersInPlace-more_no, FiltersInPlace-more_set}
use Rattle.sheets.proofs.changing.drop_pairs.Goals as goal
use Rattle.sheets.proofs.changing.drop_pairs.Goals.{then-stays, else-stays}

pub loop-i-preserved : goal.loop-i-preserved
loop-i-preserved g c =
    elim c.if-stays.branch [
      | then-stays w ↦ rw (w.pairs-is, w.next-is) (FiltersInPlace-more_set c.loop-i.invariant (omega arith) (sym c.stays.ensures ∙ w.if-stays.true) c.index-pairs-i.is)
      | else-stays w ↦ rw (w.pairs-is, w.next-is) (FiltersInPlace-more_no c.loop-i.invariant (omega arith) (sym c.stays.ensures ∙ w.if-stays.false) c.index-pairs-i.is)
    ]
