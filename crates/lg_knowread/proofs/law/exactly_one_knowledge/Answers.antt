use Rattle.lg_lex.specs.declared.marks.Marks.TheVariants.{Knowledge}
use Rattle.lg_knowread.proofs.Texts.{some_text, one_text}
use Rattle.lg_knowread.proofs.law.exactly_one_knowledge.Goals as goal

pub returns-clause-some : goal.returns-clause-some
returns-clause-some c =
    let tokens = c.tokens_are_one_list.ensures in
    let utf8 = c.bytes_are_utf8_or_at_fault.ensures in
    some_text c.names_are_written.ensures (tokens.lexed Knowledge 0) (λ ts bytes. tokens.one Knowledge ts 0 bytes) utf8.some utf8.one utf8.apart

pub returns-clause-one : goal.returns-clause-one
returns-clause-one c =
    let tokens = c.tokens_are_one_list.ensures in
    let utf8 = c.bytes_are_utf8_or_at_fault.ensures in
    one_text c.names_are_written.ensures (tokens.lexed Knowledge 0) (λ ts bytes. tokens.one Knowledge ts 0 bytes) utf8.some utf8.one utf8.apart
