use Rattle.std.proofs.Common.{◌≡◌, Some, arith}
use Rattle.lg_gram.specs.Labels.{label_at}
use Rattle.std.proofs.lemmas.Result.{IfOk-weaker}
use Rattle.lg_pp.specs.Labels.{FitsOne, MatchesOne}
use Rattle.lg_pp.specs.Reach.{IsStart, StartsOne}
use Rattle.lg_pp.proofs.Good.{matches_by_label, starts_by_label}
use Rattle.lg_pp.proofs.Picking.{flags_of_links, picked_count}
use Rattle.lg_pp.proofs.Zipped.{zip_length}
use Rattle.lg_pp.proofs.reach.rows.Goals as goal

pub found_rows-requires-clause-ignored : goal.found_rows-requires-clause-ignored
found_rows-requires-clause-ignored c =
    let labels = zip_length (λ l label. label_at c.args.g.now l ≡ Some label) c.args.g.now.links c.args.labels.now c.requires.labels in
    let flags = picked_count (FitsOne c.args.know.now.ignored) c.args.labels.now c.in_ok-ignored.ignored c.in_ok-ignored.ensures in
    rw c.items.ensures (omega arith)

pub found_rows-requires-clause-starts : goal.found_rows-requires-clause-starts
found_rows-requires-clause-starts c =
    let labels = zip_length (λ l label. label_at c.args.g.now l ≡ Some label) c.args.g.now.links c.args.labels.now c.requires.labels in
    let flags = picked_count (StartsOne c.args.know.now.starts) c.args.labels.now c.in_ok-starts.starts c.in_ok-starts.ensures in
    rw c.items-2.ensures (omega arith)

-- what the labels say of ignored links and of starts
pub returns : goal.returns
returns c =
    let know = c.args.know.now in
    let g = c.args.g.now in
    let labels = c.args.labels.now in
    IfOk-weaker c.found_rows.result _ _
    (λ rows are. are know
    (rw c.items.ensures (flags_of_links (FitsOne know.ignored) g (MatchesOne know.ignored g) labels c.in_ok-ignored.ignored (λ l label has. matches_by_label know.ignored g l label) c.requires.labels c.in_ok-ignored.ensures))
    (rw c.items-2.ensures (flags_of_links (StartsOne know.starts) g (IsStart know g) labels c.in_ok-starts.starts (starts_by_label know g) c.requires.labels c.in_ok-starts.ensures)))
    c.found_rows.ensures
