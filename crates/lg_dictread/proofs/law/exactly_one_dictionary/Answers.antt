use Rattle.lg_lex.specs.declared.marks.Marks.TheVariants.{Dictionary}
use Rattle.lg_lex.specs.declared.run.Separators.TheVariants.{WhiteSpace}
use Rattle.lg_dictread.proofs.ItemAnswers.{Laws}
use Rattle.lg_dictread.proofs.TextAnswers.{EntryLaws}
use Rattle.lg_dictread.proofs.Dictionaries.{TokenLaws, some_dictionary, one_dictionary, one_found}
use Rattle.lg_dictread.proofs.law.exactly_one_dictionary.Goals as goal

-- the laws of runs, of UTF-8, of entries and of tokens
laws : goal.After-exactly_one_entry → Laws
laws c = record {
  cut = c.runs_are_one_list.ensures.cut WhiteSpace 0;
  one_cut = λ rs bytes. c.runs_are_one_list.ensures.one WhiteSpace rs 0 bytes;
  utf8_or_fault = c.bytes_are_utf8_or_at_fault.ensures.some;
  one_fault = c.bytes_are_utf8_or_at_fault.ensures.one;
  fault_apart = c.bytes_are_utf8_or_at_fault.ensures.apart;
}

entry_laws : goal.After-exactly_one_entry → EntryLaws
entry_laws c = record { some = c.exactly_one_entry.ensures.some; one = c.exactly_one_entry.ensures.one }

token_laws : goal.After-exactly_one_entry → TokenLaws
token_laws c = record {
  lexed = c.tokens_are_one_list.ensures.lexed Dictionary 0;
  one = λ ts bytes. c.tokens_are_one_list.ensures.one Dictionary ts 0 bytes;
}

pub returns-clause-some : goal.returns-clause-some
returns-clause-some c = λ contents bytes. some_dictionary (laws c) (entry_laws c) (token_laws c) bytes contents

pub returns-clause-one : goal.returns-clause-one
returns-clause-one c = λ contents bytes asked other x y h k. one_dictionary (laws c) (entry_laws c) (token_laws c) bytes contents asked other x y h k

pub returns-clause-found : goal.returns-clause-found
returns-clause-found c = λ bytes asked x y h k. one_found (laws c) (entry_laws c) (token_laws c) bytes asked x y h k
