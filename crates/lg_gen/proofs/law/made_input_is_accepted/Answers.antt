use Rattle.std.proofs.Common.{[], refl, arith}
use Rattle.lg_gen.proofs.Dictionaries.{dictionary_gives}
use Rattle.lg_gen.proofs.Lengths.{entries_are_short, sentences_are_short}
use Rattle.lg_gen.proofs.Scripts.{script_is}
use Rattle.lg_gen.proofs.law.made_input_is_accepted.Goals as goal

pub returns-clause-dictionaries : goal.returns-clause-dictionaries
returns-clause-dictionaries c = λ contents words made.
    let short = entries_are_short 0 words (omega (arith, made.few)) in
    let few = made.few in
    let (entries, gives) = dictionary_gives c.tokens_are_one_list.ensures.lexed c.exactly_one.ensures.some words made.some made.few in
    (omega arith, (entries, record { asked = []; names_are = refl; found = tt; gives = gives }))

pub returns-clause-scripts : goal.returns-clause-scripts
returns-clause-scripts c = λ seed words sentences small made told.
    let short = sentences_are_short words made.some made.few sentences seed in
    let few = told.few in
    (omega arith, script_is words made.some made.few sentences seed told.some)
