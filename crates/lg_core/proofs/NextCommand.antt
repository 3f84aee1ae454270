-- The next command of a session, and steps that need one.
use Rattle.std.proofs.Common.{◌≡◌, ℕ, suc, ◌+◌, ◌<◌, ◌≤◌, List, [], length, map, get_or, slice_get, Option, Some, None, refl, ap, sym, subst, ◌∙◌, add-one}
use Rattle.std.specs.Option.{option_map}
use Rattle.std.proofs.lemmas.Option.{none-some, same_Some, slice_get_read, slice_get_past, slice_get-map, slice_get_within, get_or_from_slice_get}
use Rattle.lg_script.specs.declared.command.Command.{Command}
use Rattle.lg_script.specs.Codes.{commands_of}
use Rattle.lg_script.specs.Commands.{CommandView, command_view, script_views}
use Rattle.lg_script.specs.Histories.{command_in, command_at}
use Rattle.lg_core.specs.declared.state.Actor.{Actor}
use Rattle.lg_core.specs.declared.state.Core.{Core}
use Rattle.lg_core.specs.Core.{next_place, IsNext}
use Rattle.lg_core.specs.Steps.{HasNoNext}

-- what is read of a list
pub item_at : {A : Type 0} (xs ys : List A) (i : ℕ) (x : A) → ys ≡ xs → i < length ys → x ≡ get_or ys i x → slice_get xs i ≡ Some x
item_at xs ys i x same less is = subst (λ l. slice_get l i ≡ Some x) same (slice_get_read ys (length ys) i x refl less is)

pub no_item_at : {A : Type 0} (xs ys : List A) (i : ℕ) → ys ≡ xs → length ys ≤ i → slice_get xs i ≡ None
no_item_at xs ys i same past = subst (λ l. slice_get l i ≡ None) same (slice_get_past ys i past)

-- the command at a place, by indexes from 0
pub asked : (scripts : List (List CommandView)) (s i : ℕ) (c : CommandView) → command_at scripts (record { session = s + 1; command = i + 1 }) ≡ Some c
    → (s < length scripts) × (slice_get (commands_of scripts s) i ≡ Some c)
asked scripts s i c is = go (slice_get scripts s) refl (rw (add-one, add-one) at is)
  where
    go : (o : Option (List CommandView)) → slice_get scripts s ≡ o → command_in o (suc i) ≡ Some c → (s < length scripts) × (slice_get (commands_of scripts s) i ≡ Some c)
    go None e is = absurd (none-some c is)
    go (Some commands) e is = (slice_get_within scripts s commands e, ap (λ (l : List CommandView). slice_get l i) (get_or_from_slice_get scripts s commands [] e) ∙ is)

commanded : (scripts : List (List Command)) (s i : ℕ) (commands : List Command) → slice_get scripts s ≡ Some commands
    → command_at (script_views scripts) (record { session = s + 1; command = i + 1 }) ≡ option_map command_view (slice_get commands i)
commanded scripts s i commands is =
    let views : slice_get (script_views scripts) s ≡ Some (map command_view commands) = slice_get-map (map command_view) scripts s ∙ ap (option_map (map command_view)) is in
    rw (add-one, add-one) (ap (λ o. command_in o (suc i)) views ∙ slice_get-map command_view commands i)

module _ (scripts : List (List Command)) (core : Core) (s : ℕ) (a : Actor) (commands : List Command) (at : slice_get core.actors s ≡ Some a) (script : slice_get scripts s ≡ Some commands) where
  pub is_next : (command : Command) → slice_get commands a.place ≡ Some command → IsNext (script_views scripts) core s a (command_view command)
  is_next command is = record { stands = at; asks_for = commanded scripts s a.place commands script ∙ ap (option_map command_view) is }

  pub no_next : slice_get commands a.place ≡ None → HasNoNext (script_views scripts) core s
  no_next none = λ b command next.
      let same : a ≡ b = same_Some a b (sym at ∙ next.stands) in
      let asks_for : command_at (script_views scripts) (next_place s a) ≡ Some command = subst (λ (z : Actor). command_at (script_views scripts) (next_place s z) ≡ Some command) (sym same) next.asks_for in
      none-some command (sym (ap (option_map command_view) none) ∙ sym (commanded scripts s a.place commands script) ∙ asks_for)
