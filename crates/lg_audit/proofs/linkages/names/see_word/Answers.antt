use Rattle.std.proofs.Common.{subst, ◌∙◌}
use Rattle.std.proofs.lemmas.Option.{same_Some}
use Rattle.lg_gram.specs.Trees.{tree_of}
use Rattle.lg_disj.specs.Exist.{HasNames}
use Rattle.lg_audit.proofs.linkages.names.see_word.Goals as goal

pub returns-in-Some : goal.returns-in-Some
returns-in-Some c = λ t got. subst HasNames (same_Some (tree_of c.in-Some.formula.now) t (c.in-Some.ensures ∙ got)) c.see_names.ensures
