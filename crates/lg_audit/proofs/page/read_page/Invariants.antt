use Rattle.std.proofs.Common.{◌≡◌, ◌++◌, length, map}
use Rattle.std.specs.List.{AllByRecursion, flat_map}
use Rattle.lg_text.specs.Shown.{closed}
use Rattle.lg_audit.specs.Lines.{IsItemInForm}
use Rattle.lg_audit.specs.Documents.{item_lines}
use Rattle.lg_audit.specs.Views.{item_of}
use Rattle.lg_audit.proofs.Items.{GivesPages}
use Rattle.lg_audit.proofs.page.read_page.Given as goal

-- the candidates so far, and what is left
abbrev pub invariant-loop-items : goal.invariant-loop-items
invariant-loop-items l = record {
  form : AllByRecursion IsItemInForm (map item_of l.items.items);
  read : l.text ≡ flat_map closed (flat_map item_lines (map item_of l.items.items)) ++ l.left;
  gives : GivesPages l.text l.left;
}

abbrev pub decreases-loop-items : goal.decreases-loop-items
decreases-loop-items l = length l.left
