-- Small scripts, of which a few keep the bounds of sessions together.
use Rattle.std.specs.Prelude.{◌≤◌, List, map, count_by}
use Rattle.lg_script.specs.declared.command.Command.{Command}
use Rattle.lg_script.specs.Bounds.{AreInBounds}
use Rattle.lg_script.specs.Commands.{command_view, is_edit}

-- within the bounds of a script, with at most a hundred edits
abbrev pub IsSmall : List Command → Type 0
IsSmall commands = AreInBounds (map command_view commands) × (count_by is_edit (map command_view commands) ≤ 100)
