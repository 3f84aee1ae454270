use Rattle.std.proofs.Common.{rules, ◌≡◌, ◌==◌, length}
use Rattle.std.specs.List.{count_by}
use Rattle.lg_answer.proofs.Searching.{no_fewer_than_empty}
use Rattle.lg_answer.proofs.wide.words_without.Goals as goal

pub returns-clause-least : goal.returns-clause-least
returns-clause-least c =
    let count : c.count.result ≡ count_by (λ ws. length ws == 0) c.args.words.now = search rules in
    no_fewer_than_empty c.args.words.now c.count.result count
