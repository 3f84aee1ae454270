use Rattle.std.proofs.Common.{◌≡◌, true, length, subst}
use Rattle.std.proofs.lemmas.Result.{on_ok_weaker}
use Rattle.lg_dict.specs.Lengths.{has_length}
use Rattle.lg_dict.proofs.lengths.Lengths.add_word.Goals as goal

pub returns-clause-kept : goal.returns-clause-kept
returns-clause-kept c = λ n h. c.add-2.ensures.kept n (c.add.ensures.kept n h)

pub returns-clause-added : goal.returns-clause-added
returns-clause-added c = on_ok_weaker c.add-2.result (λ there. record {
  whole = c.add-2.ensures.kept (length c.args.word.now) c.in_ok-add.ensures.added;
  stem = subst (λ l. has_length c.add-2.new.self (length l) ≡ true) c.stem.ensures there;
}) c.add-2.ensures.added
