use Rattle.lg_export.proofs.Chain.{text_reads_back}
use Rattle.lg_export.proofs.Texts.{cost_token}
use Rattle.lg_export.proofs.law.exports_read_back.Goals as goal

pub returns : goal.returns
returns c =
    text_reads_back c.tokens_are_one_list.ensures.lexed c.exactly_one.ensures.some c.names_are_written.ensures c.parts_are_written.ensures.only (cost_token c.cost_number_laws.ensures.read_back c.cost_number_laws.ensures.reads)
