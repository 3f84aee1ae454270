use Rattle.std.proofs.Common.{ℕ, List, refl, subst}
use Rattle.lg_lex.specs.declared.marks.Marks.TheVariants.{Knowledge}
use Rattle.lg_lex.specs.Lexing.{tokens_from}
use Rattle.lg_lex.specs.Marked.{without_mark}
use Rattle.lg_knowread.specs.Reading.{not_utf8}
use Rattle.lg_knowread.specs.Automaton.{answer_of}
use Rattle.lg_knowread.specs.View.{TellsAnswer}
use Rattle.lg_knowread.proofs.Texts.{told_text}
use Rattle.lg_knowread.proofs.read.read_knowledge.Goals as goal

pub returns-in-Some-clause-told : goal.returns-in-Some-clause-told
returns-in-Some-clause-told c = not_utf8 c.in-Some.byte c.in-Some.ensures.fault

-- the text is UTF-8, and what its tokens are is told
pub returns-in-None-clause-told : goal.returns-in-None-clause-told
returns-in-None-clause-told c =
    let text = without_mark c.args.bytes.now in
    told_text c.names_are_written.ensures c.args.bytes.now (tokens_from Knowledge text 0) c.read_text.result
    (record { utf8 = c.in-None.ensures.none.0 refl; tokens = c.tokens_are_one_list.ensures.lexed Knowledge 0 text })
    (subst (λ (t : List ℕ). TellsAnswer t (answer_of (tokens_from Knowledge t 0)) c.read_text.result) c.without_mark.ensures c.read_text.ensures.told)
