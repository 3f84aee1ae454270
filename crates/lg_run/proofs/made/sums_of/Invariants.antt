use Rattle.std.proofs.Common.{◌≡◌, ◌≤◌, ◌*◌, ◌^◌, length, take}
use Rattle.std.specs.List.{sum_by}
use Rattle.lg_gram.specs.Linkages.{unlinked, total_length}
use Rattle.lg_text.specs.Pages.{shown}
use Rattle.lg_run.specs.Documents.{items_of}
use Rattle.lg_run.specs.MadeRuns.{first_of}
use Rattle.lg_run.proofs.made.sums_of.Given as goal

-- the sums over the answers so far
abbrev pub invariant-loop-reply : goal.invariant-loop-reply
invariant-loop-reply l = record {
  looked : l.sums.examined ≡ sum_by (λ r. length (items_of r)) (take l.reply-index l.replies);
  pass : l.sums.shown ≡ sum_by (λ r. shown (items_of r)) (take l.reply-index l.replies);
  free : l.sums.unused ≡ sum_by (λ r. first_of unlinked (items_of r)) (take l.reply-index l.replies);
  long : l.sums.lengths ≡ sum_by (λ r. first_of total_length (items_of r)) (take l.reply-index l.replies);
  few_looked : l.sums.examined ≤ 1000 * l.reply-index;
  few_pass : l.sums.shown ≤ 1000 * l.reply-index;
  few_free : l.sums.unused ≤ 2 ^ 32 * l.reply-index;
  few_long : l.sums.lengths ≤ 2 ^ 40 * l.reply-index;
}
