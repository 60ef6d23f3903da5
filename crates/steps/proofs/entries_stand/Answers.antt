use Rattle.std.proofs.Common.{le_refl}
use Rattle.steps.proofs.Entries.{all_of_few, few_of_all, joins_exact, removal_few, set_few, pinned_few}
use Rattle.steps.proofs.entries_stand.Goals as goal

pub returns-clause-few : goal.returns-clause-few
returns-clause-few g c s sound f =
    let laws = g.met.K.Kind.lawful in
    let all = all_of_few f in
    record {
      exact = joins_exact laws sound all (le_refl _);
      after_removal = λ vs m s' r. few_of_all (removal_few laws sound all r);
      after_setting = λ y u there. few_of_all (set_few laws sound all y (sound.below y there) u);
      after_pins = λ pins k h. few_of_all (pinned_few laws pins sound all k h);
    }

pub returns-clause-total : goal.returns-clause-total
returns-clause-total g c s m sound f =
    let laws = g.met.K.Kind.lawful in
    record {
      exact = joins_exact laws sound f;
      after_removal = λ vs n s' r. removal_few laws sound f r;
      after_setting = λ y u there. set_few laws sound f y (sound.below y there) u;
      after_pins = λ pins k h. pinned_few laws pins sound f k h;
    }
