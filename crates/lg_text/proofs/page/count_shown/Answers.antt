use Rattle.std.proofs.Common.{rules}
use Rattle.lg_text.proofs.page.count_shown.Goals as goal

pub returns : goal.returns
returns c = search rules
