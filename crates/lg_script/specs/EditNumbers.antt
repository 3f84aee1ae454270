-- The edits of scripts, by their numbers.
use Rattle.std.specs.Prelude.{ℕ, List, map, filter, count_by}
use Rattle.std.specs.List.{enumerate_from}
use Rattle.lg_script.specs.Commands.{CommandView, is_edit}

-- the numbers, from 1, of the commands of a script that are edits
abbrev pub edit_numbers : List CommandView → List ℕ
edit_numbers commands = map (λ n. n.0) (filter (λ n. is_edit n.1) (enumerate_from 1 commands))

-- how many edits each script has
abbrev pub edit_counts : List (List CommandView) → List ℕ
edit_counts scripts = map (count_by is_edit) scripts
