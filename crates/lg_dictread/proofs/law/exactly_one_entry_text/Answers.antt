use Rattle.lg_lex.specs.declared.marks.Marks.TheVariants.{Dictionary}
use Rattle.lg_dictread.specs.EntryTexts.{free_rules}
use Rattle.lg_dictread.proofs.EntryTexts.{some_text, one_text}
use Rattle.lg_dictread.proofs.law.exactly_one_entry_text.Goals as goal

pub returns-clause-some : goal.returns-clause-some
returns-clause-some c =
    let tokens = c.tokens_are_one_list.ensures in
    let entries = c.exactly_one_entry.ensures in
    let utf8 = c.bytes_are_utf8_or_at_fault.ensures in
    some_text (tokens.lexed Dictionary 0) (λ ts bytes. tokens.one Dictionary ts 0 bytes) (entries.some free_rules) (entries.one free_rules) utf8.some utf8.one utf8.apart

pub returns-clause-one : goal.returns-clause-one
returns-clause-one c =
    let tokens = c.tokens_are_one_list.ensures in
    let entries = c.exactly_one_entry.ensures in
    let utf8 = c.bytes_are_utf8_or_at_fault.ensures in
    one_text (tokens.lexed Dictionary 0) (λ ts bytes. tokens.one Dictionary ts 0 bytes) (entries.some free_rules) (entries.one free_rules) utf8.some utf8.one utf8.apart
