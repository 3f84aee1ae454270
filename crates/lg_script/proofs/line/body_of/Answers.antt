use Rattle.std.proofs.Common.{[], ◌∷◌, Some, None}
use Rattle.std.proofs.lemmas.Bool.Decides.{Decides-eqb}
use Rattle.std.proofs.lemmas.Slice.Eq.{strip_suffix_is}
use Rattle.lg_script.specs.Lines.{returned, plain}
use Rattle.lg_script.proofs.line.body_of.Goals as goal

pub returns-in-Some : goal.returns-in-Some
returns-in-Some c = returned c.in-Some.body.now (strip_suffix_is Decides-eqb c.args.line.now (13 ∷ []) (Some c.in-Some.body) c.in-Some.ensures.cases)

pub returns-in-None : goal.returns-in-None
returns-in-None c = plain (strip_suffix_is Decides-eqb c.args.line.now (13 ∷ []) None c.in-None.ensures.cases)
