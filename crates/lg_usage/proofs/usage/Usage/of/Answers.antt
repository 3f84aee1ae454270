use Rattle.lg_usage.specs.Totals.{words_used, labels_used}
use Rattle.lg_usage.proofs.Seen.{counts_alone}
use Rattle.lg_usage.proofs.usage.Usage.of.Goals as goal

-- the words and the labels are counted
pub returns : goal.returns
returns c = record {
  words = counts_alone (words_used c.args.g.now) c.in_ok-word_counts.field-0 c.in_ok-word_counts.ensures;
  labels = counts_alone (labels_used c.args.g.now) c.in_ok-label_counts.field-0 c.in_ok-label_counts.ensures;
}
