use Rattle.lg_text.proofs.Reading.{journals_are_shown, lines_are_apart, heads_are_shown, documents_are_shown}
use Rattle.lg_text.proofs.law.documents_show.Goals as goal

pub returns : goal.returns
returns c = record { journals = journals_are_shown; lines = lines_are_apart; heads = heads_are_shown; documents = documents_are_shown }
