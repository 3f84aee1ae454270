-- The commands at places.
use Rattle.std.proofs.Common.{◌≡◌, ℕ, suc, ◌+◌, ◌<◌, ◌^◌, List, [], length, map, get_or, slice_get, All, Option, Some, None, refl, ap, sym, ◌∙◌, arith, add-one, IsSome, true≢false}
use Rattle.std.proofs.lemmas.List.{length-map, get_or-map}
use Rattle.std.proofs.lemmas.Option.{none-some, slice_get_within, get_or_from_slice_get}
use Rattle.lg_script.specs.Bounds.{AreInBounds}
use Rattle.lg_script.specs.declared.command.Command.{Command}
use Rattle.lg_script.specs.Commands.{CommandView, command_view, script_views}
use Rattle.lg_script.specs.Histories.{numbered, command_in, command_at}
use Rattle.lg_script.specs.Codes.{commands_of}

pub at_place : (scripts : List (List CommandView)) (session place : ℕ) (c : CommandView) → command_at scripts (record { session = session + 1; command = place + 1 }) ≡ Some c
    → (session < length scripts) × (slice_get (commands_of scripts session) place ≡ Some c)
at_place scripts session place c is =
    go (slice_get scripts session) refl ((λ i. command_in (numbered scripts (sym (add-one session) i)) (sym (add-one place) i)) ∙ is)
  where
    go : (o : Option (List CommandView)) → slice_get scripts session ≡ o → command_in o (suc place) ≡ Some c → (session < length scripts) × (slice_get (commands_of scripts session) place ≡ Some c)
    go None read is = absurd (none-some c is)
    go (Some cs) read is = (slice_get_within scripts session cs read, ap (λ (l : List CommandView). slice_get l place) (get_or_from_slice_get scripts session cs [] read) ∙ is)

-- the commands of a session, as they are read
pub commands_read : (scripts seen : List (List Command)) (session number : ℕ) (commands : List Command) → session < length (script_views scripts) → seen ≡ scripts → number ≡ session → commands ≡ get_or seen number commands
    → commands_of (script_views scripts) session ≡ map command_view commands
commands_read scripts seen session number commands inside same is read =
    let in_ : session < length scripts = omega (arith, inside, length-map scripts (map command_view)) in
    get_or-map (map command_view) scripts session commands [] in_
    ∙ ap (map command_view) (sym (read ∙ (λ i. get_or (same i) (is i) commands)))

-- ---- the command at a place, as it is read

pub some_of : {A : Type 0} (o : Option A) → IsSome o → (x : A) × (o ≡ Some x)
some_of None some = absurd (true≢false (sym some))
some_of (Some x) some = (x, refl)

pub place_in_items : (items : List Command) (place : ℕ) (c : CommandView) → slice_get (map command_view items) place ≡ Some c → place < length items
place_in_items items place c is = omega (arith, slice_get_within (map command_view items) place c is, length-map items command_view)

pub read_command : (items : List Command) (place : ℕ) (command : Command) (c : CommandView) → slice_get (map command_view items) place ≡ Some c → command ≡ get_or items place command → c ≡ command_view command
read_command items place command c is read =
    sym (get_or_from_slice_get (map command_view items) place c (command_view command) is) ∙ get_or-map command_view items place command (command_view command) (place_in_items items place c is) ∙ ap command_view (sym read)

-- the numbers of commands are small
pub place_fits : (scripts : List (List CommandView)) (session place : ℕ) → All AreInBounds scripts → IsSome (command_at scripts (record { session = session + 1; command = place + 1 })) → place + 1 < 2 ^ 32
place_fits scripts session place all next =
    let some = some_of (command_at scripts (record { session = session + 1; command = place + 1 })) next in
    let found = at_place scripts session place some.0 some.1 in
    omega (arith, slice_get_within (commands_of scripts session) place some.0 found.1, (all session [] found.0).few)
