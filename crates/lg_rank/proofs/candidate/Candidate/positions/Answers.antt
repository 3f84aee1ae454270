use Rattle.std.proofs.Common.{ℕ, ◌<◌, ap, sym, ◌∙◌, subst}
use Rattle.lg_rank.specs.declared.part.Part.{Part}
use Rattle.lg_rank.proofs.Making.{same_positions, word_within}
use Rattle.lg_rank.proofs.candidate.Candidate.positions.Goals as goal

pub returns-clause-right : goal.returns-clause-right
returns-clause-right c = ap (λ (p : Part). p.positions) c.part.ensures ∙ same_positions c.args.self.now c.requires

pub returns-clause-word : goal.returns-clause-word
returns-clause-word c = subst (λ (n : ℕ). c.args.self.now.way.word < n) (sym (ap (λ (p : Part). p.positions) c.part.ensures)) (word_within c.args.self.now c.requires)
