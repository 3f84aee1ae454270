-- The command at a place, as it is read.
use Rattle.std.proofs.Common.{◌≡◌, ◌⊎◌, inl, inr, ℕ, zero, suc, ◌-◌, ◌<◌, ◌≤◌, List, length, map, get_or, slice_get, Option, Some, None, refl, ap, subst, ◌∙◌, arith}
use Rattle.std.specs.Option.{option_map}
use Rattle.std.proofs.lemmas.Option.{slice_get_read, slice_get_past, slice_get-map}
use Rattle.lg_gram.specs.declared.reply.Place.{Place}
use Rattle.lg_script.specs.declared.command.Command.{Command}
use Rattle.lg_script.specs.Commands.{CommandView, command_view, script_views}
use Rattle.lg_script.specs.Histories.{numbered, command_in, command_at}

-- what is read of a list
pub item_at : {A : Type 0} (xs ys : List A) (i : ℕ) (x : A) → ys ≡ xs → i < length ys → x ≡ get_or ys i x → slice_get xs i ≡ Some x
item_at xs ys i x same less is = subst (λ l. slice_get l i ≡ Some x) same (slice_get_read ys (length ys) i x refl less is)

pub no_item_at : {A : Type 0} (xs ys : List A) (i : ℕ) → ys ≡ xs → length ys ≤ i → slice_get xs i ≡ None
no_item_at xs ys i same past = subst (λ l. slice_get l i ≡ None) same (slice_get_past ys i past)

pub by_index : {A : Type 0} (xs : List A) (n : ℕ) → (n ≡ 0 → ⊥) → numbered xs n ≡ slice_get xs (n - 1)
by_index xs zero some = absurd (some refl)
by_index xs (suc n) some = let same : n ≡ suc n - 1 = omega arith in ap (slice_get xs) same

no_number : (o : Option (List CommandView)) (n : ℕ) → n ≡ 0 → command_in o n ≡ None
no_number None n is = refl
no_number (Some commands) n is = ap (numbered commands) is

module _ (scripts : List (List Command)) (p : Place) where
  pub no_place : (p.session ≡ 0) ⊎ (p.command ≡ 0) → command_at (script_views scripts) p ≡ None
  no_place (inl none) = ap (λ (n : ℕ). command_in (numbered (script_views scripts) n) p.command) none
  no_place (inr none) = no_number (numbered (script_views scripts) p.session) p.command none

  pub no_session : (p.session ≡ 0 → ⊥) → slice_get scripts (p.session - 1) ≡ None → command_at (script_views scripts) p ≡ None
  no_session some none =
      ap (λ (o : Option (List CommandView)). command_in o p.command)
      (by_index (script_views scripts) p.session some ∙ slice_get-map (map command_view) scripts (p.session - 1) ∙ ap (option_map (map command_view)) none)

  pub commanded : (commands : List Command) → (p.session ≡ 0 → ⊥) → (p.command ≡ 0 → ⊥) → slice_get scripts (p.session - 1) ≡ Some commands
      → command_at (script_views scripts) p ≡ option_map command_view (slice_get commands (p.command - 1))
  commanded commands some some' is =
      ap (λ (o : Option (List CommandView)). command_in o p.command)
      (by_index (script_views scripts) p.session some ∙ slice_get-map (map command_view) scripts (p.session - 1) ∙ ap (option_map (map command_view)) is)
      ∙ by_index (map command_view commands) p.command some' ∙ slice_get-map command_view commands (p.command - 1)
