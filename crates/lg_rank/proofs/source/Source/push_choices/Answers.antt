use Rattle.std.proofs.Common.{ℕ, List, ◌++◌, ap, sym, ◌∙◌, arith}
use Rattle.lg_rank.specs.Sources.{value_in}
use Rattle.lg_rank.specs.declared.source.Source.{Source}
use Rattle.lg_rank.proofs.Making.{spelled_long, spelled_piece}
use Rattle.lg_rank.proofs.source.Source.push_choices.Goals as goal

pub push_between-requires-clause-within : goal.push_between-requires-clause-within
push_between-requires-clause-within c =
    let long = spelled_long c.args.self.now c.choices.result.now (c.choices.ensures ∙ sym (ap (λ (s : Source). (value_in s).choices) c.in-Waiting.is)) in
    let within = c.requires.within in
    omega arith

pub returns-in_ok-push_between-in-Waiting : goal.returns-in_ok-push_between-in-Waiting
returns-in_ok-push_between-in-Waiting c =
    let e = c.choices.ensures ∙ sym (ap (λ (s : Source). (value_in s).choices) c.in-Waiting.is) in
    c.in_ok-push_between-in-Waiting.ensures ∙ ap (λ (l : List ℕ). c.args.out.now.items ++ l) (spelled_piece c.args.self.now c.choices.result.now c.args.from c.args.to c.requires.rising c.requires.within e)
