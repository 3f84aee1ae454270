use Rattle.lg_audit.specs.Answers.{replies_of}
use Rattle.lg_audit.specs.Grounds.{basis_in}
use Rattle.lg_audit.proofs.Audited.{all_formed, short_all}
use Rattle.lg_audit.proofs.auditing.judged.Goals as goal

pub journal_holds-requires-clause-short : goal.journal_holds-requires-clause-short
journal_holds-requires-clause-short c = short_all (basis_in c.args.basis.now).scripts (replies_of c.args.replies.now) c.requires.usable.scripts c.requires.form

pub first_wrong-requires-clause-form : goal.first_wrong-requires-clause-form
first_wrong-requires-clause-form c = all_formed (basis_in c.args.basis.now).scripts (replies_of c.args.replies.now) c.requires.form
