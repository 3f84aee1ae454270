use Rattle.std.proofs.Common.{◌≡◌, ◌≤◌, All, IfSome, length, map, drop, string_bytes}
use Rattle.lg_script.specs.Bounds.{AreInBounds}
use Rattle.lg_script.specs.Commands.{script_views}
use Rattle.lg_run.specs.Reads.{AsksMore}
use Rattle.lg_run.proofs.ScriptLists.{ComesOn}
use Rattle.lg_run.proofs.script.read_each.Given as goal

-- the scripts so far were read, and what comes of the names that are left comes behind them
abbrev pub invariant-loop-name : goal.invariant-loop-name
invariant-loop-name g l = record {
  same : g.F.Files.contents l.files ≡ g.F.Files.contents l.fn.files;
  asks : AsksMore (g.F.Files.asked l.fn.files) (g.F.Files.asked l.files);
  on : IfSome (g.F.Files.contents l.fn.files) (λ known. ComesOn known (map string_bytes l.names) (script_views l.scripts.items) (map string_bytes (drop l.name-index l.names)) (g.F.Files.asked l.fn.files) (g.F.Files.asked l.files));
  number : length l.scripts.items ≡ l.name-index;
  each : All AreInBounds (script_views l.scripts.items);
  later : g.F.Files.faults l.fn.files ≤ g.F.Files.faults l.files;
}
