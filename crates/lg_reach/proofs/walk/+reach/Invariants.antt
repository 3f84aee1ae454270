use Rattle.std.proofs.Common.{ℕ, ◌≡◌, ◌≤◌, drop, get_or, length, map, take}
use Rattle.lg_gram.specs.Trees.{tree_of, trees_in}
use Rattle.lg_gram.specs.declared.expr.Expr.{Expr}
use Rattle.lg_reach.proofs.Walking.{WalksOn, WalksTo}
use Rattle.lg_reach.proofs.walk.+reach.Given as goal

abbrev pub invariant-reach_all-loop-place : goal.invariant-reach_all-loop-place
invariant-reach_all-loop-place l = record {
  long : length l.members.items ≡ length l.fn.members.items;
  same : (k : ℕ) (d : Expr) → l.place ≤ k → get_or l.members.items k d ≡ get_or l.fn.members.items k d;
  walks : WalksOn l.fn.sites l.sites l.stand l.fn.start (trees_in l.fn.members.items) (map tree_of (take l.place l.members.items)) l.least (trees_in (drop l.place l.fn.members.items));
}

abbrev pub invariant-reach_any-loop-place : goal.invariant-reach_any-loop-place
invariant-reach_any-loop-place l = record {
  few : l.kept ≤ l.place;
  long : length l.members.items ≡ length l.fn.members.items;
  same : (k : ℕ) (d : Expr) → l.place ≤ k → get_or l.members.items k d ≡ get_or l.fn.members.items k d;
  walks : WalksTo l.fn.sites l.sites l.stand l.fn.start (take l.place l.fn.members.items) (take l.kept l.members.items) l.least;
}
