-- A history record before any change. Assumes nothing.
use Rattle.records.specs.declared.history.Undo.{Undo}
use Rattle.records.specs.declared.history.Was.TheVariants.{Unkept}

abbrev pub unused_undo : {K : Type 0} → Undo K
unused_undo = record { at = 0; was = Unkept }
