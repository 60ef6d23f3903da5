use Rattle.std.proofs.Common.{length, subst, sym, length-append}
use Rattle.listing.specs.Lines.{Passed}
use Rattle.listing.proofs.EntryReading.{passed_on, zero_no, one_no, both_yes, passed_both}
use Rattle.listing.proofs.entries.TwoEntryFields.read.Goals as goal

pub returns-in_err-zero-clause-reply : goal.returns-in_err-zero-clause-reply
returns-in_err-zero-clause-reply g c = passed_on c.from_residual.result _ _ c.from_residual.ensures.1 (zero_no g.E.EntryFields.form c.args.fields.now c.args.fields.now _ c.in_err-zero.ensures.reply)

pub returns-in_err-one-clause-reply : goal.returns-in_err-one-clause-reply
returns-in_err-one-clause-reply g c =
    passed_on c.from_residual-in_err-one.result _ _ c.from_residual-in_err-one.ensures.1
    (one_no g.E.EntryFields.form c.args.fields.now c.read.new.fields _ c.in_ok-zero.ensures.reply c.in_ok-zero.ensures.passed _ c.in_err-one.ensures.reply)

pub returns-clause-reply : goal.returns-clause-reply
returns-clause-reply g c = both_yes g.E.EntryFields.form c.args.fields.now c.read.new.fields _ c.in_ok-zero.ensures.reply c.in_ok-zero.ensures.passed _ c.in_ok-one.ensures.reply

pub returns-clause-passed : goal.returns-clause-passed
returns-clause-passed g c =
    let F = g.E.EntryFields.form.forms in
    subst (λ n. Passed n c.args.fields.now c.read-2.new.fields) (sym (length-append F F))
    (passed_both (length F) (length F) c.args.fields.now c.read.new.fields c.read-2.new.fields c.in_ok-zero.ensures.passed c.in_ok-one.ensures.passed)
