-- The commands of one of the scripts, each at its place.
use Rattle.std.proofs.Common.{◌≡◌, ℕ, ◌+◌, ◌<◌, ◌^◌, List, [], ◌∷◌, length, map, drop, get_or, slice_index_or, Some, refl, ap, sym, ◌∙◌, arith, add-one}
use Rattle.std.proofs.Math.Seq.{drop-cons}
use Rattle.std.proofs.lemmas.List.{length-map, get_or-map, get_or_default}
use Rattle.std.proofs.lemmas.Option.{slice_get_read}
use Rattle.lg_script.specs.declared.command.Command.{Command}
use Rattle.lg_script.specs.Commands.{CommandView, command_view, asks, script_views}
use Rattle.lg_script.specs.Histories.{command_at, command_in, numbered}
use Rattle.lg_script.specs.Codes.{commands_of, AreScripts}
use Rattle.lg_session.specs.Rows.{Ground}

module _ (g : Ground) (number : ℕ) (in_ : number < length g.scripts) where
  pub few_commands : AreScripts g.scripts → length (commands_of g.scripts number) < 2 ^ 32
  few_commands are = (are.each number [] in_).few

  script_at : numbered g.scripts (number + 1) ≡ Some (commands_of g.scripts number)
  script_at = rw add-one (slice_get_read g.scripts (length g.scripts) number (commands_of g.scripts number) refl in_ (get_or_default g.scripts number [] (commands_of g.scripts number) in_))

  module _ (n : ℕ) (inside : n < length (commands_of g.scripts number)) where
    -- the command after the first n
    abbrev pub command_after : CommandView
    command_after = slice_index_or (commands_of g.scripts number) n asks

    pub stands : command_at g.scripts (record { session = number + 1; command = n + 1 }) ≡ Some command_after
    stands = ap (λ cs. command_in cs (n + 1)) script_at ∙ (rw add-one (slice_get_read (commands_of g.scripts number) (length (commands_of g.scripts number)) n command_after refl inside (get_or_default (commands_of g.scripts number) n asks command_after inside)))

    pub split : drop n (commands_of g.scripts number) ≡ command_after ∷ drop (n + 1) (commands_of g.scripts number)
    split = rw add-one (drop-cons (commands_of g.scripts number) n asks inside)

-- ---- a script in code

module _ (scripts seen : List (List Command)) (script : List Command) (number : ℕ) (in_ : number < length (script_views scripts)) (same : seen ≡ scripts) (found : script ≡ slice_index_or seen number script) where
  pub script_is : commands_of (script_views scripts) number ≡ map command_view script
  script_is = get_or-map (λ (l : List Command). map command_view l) scripts number script [] (omega (arith, in_, length-map scripts (λ (l : List Command). map command_view l)))
      ∙ ap (λ (l : List Command). map command_view l) (ap (λ (l : List (List Command)). get_or l number script) (sym same) ∙ sym found)

  pub as_many : (items : List Command) → items ≡ script → length items ≡ length (commands_of (script_views scripts) number)
  as_many items are = ap length are ∙ sym (length-map script command_view) ∙ ap length (sym script_is)

  -- one of its commands, at its place
  pub command_is : (items : List Command) (n : ℕ) (one : Command) → items ≡ script → n < length items → one ≡ get_or items n one → slice_index_or (commands_of (script_views scripts) number) n asks ≡ command_view one
  command_is items n one are inside is =
      ap (λ (l : List CommandView). slice_index_or l n asks) (script_is ∙ ap (λ (l : List Command). map command_view l) (sym are)) ∙ get_or-map command_view items n one asks inside ∙ ap command_view (sym is)
