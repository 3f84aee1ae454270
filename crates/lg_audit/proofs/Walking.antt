-- The commands of a session beside their answers.
use Rattle.std.proofs.Common.{◌≡◌, ℕ, zero, suc, ◌+◌, ◌^◌, ◌<◌, List, [], ◌∷◌, length, map, get_or, slice_get, Option, Some, refl, ap, subst, ◌∙◌, add-one}
use Rattle.std.specs.Option.{option_map}
use Rattle.std.proofs.lemmas.Option.{none-some, same_Some, slice_get-map, slice_get_read, slice_get_within, get_or_from_slice_get}
use Rattle.lg_script.specs.Bounds.{AreInBounds}
use Rattle.lg_script.specs.Codes.{AreScripts}
use Rattle.lg_script.specs.Commands.{CommandView}
use Rattle.lg_script.specs.Histories.{numbered, command_in, command_at}
use Rattle.lg_audit.specs.Fronts.{AreFormed}

pub read_at : {A B : Type 0} (f : A → B) (xs : List A) (i : ℕ) (x : A) → i < length xs → x ≡ get_or xs i x → slice_get (map f xs) i ≡ Some (f x)
read_at f xs i x lt is = slice_get-map f xs i ∙ ap (option_map f) (slice_get_read xs (length xs) i x refl lt is)

pub number_at : {A B : Type 0} (f : A → B) (xs : List A) (i : ℕ) (x : A) → i < length xs → x ≡ get_or xs i x → numbered (map f xs) (i + 1) ≡ Some (f x)
number_at f xs i x lt is = ap (numbered (map f xs)) (add-one i) ∙ read_at f xs i x lt is

pub command_there : (scripts : List (List CommandView)) (session n : ℕ) (commands : List CommandView) (c : CommandView) → numbered scripts session ≡ Some commands → numbered commands n ≡ Some c
    → command_at scripts (record { session = session; command = n }) ≡ Some c
command_there scripts session n commands c script is = ap (λ (o : Option (List CommandView)). command_in o n) script ∙ is

-- a session has fewer than 2^32 commands
pub few_commands : (scripts : List (List CommandView)) → AreScripts scripts → (session : ℕ) (commands : List CommandView) → numbered scripts session ≡ Some commands → length commands < 2 ^ 32
few_commands scripts are zero commands is = absurd (none-some commands is)
few_commands scripts are (suc n) commands is =
    (subst AreInBounds (get_or_from_slice_get scripts n commands commands is) (are.each n commands (slice_get_within scripts n commands is))).few

module _ {C X : Type 0} (Form : C → X → Type 0) where
  pub formed_lengths : (cs : List C) (xs : List X) → AreFormed Form cs xs → length xs ≡ length cs
  formed_lengths [] [] form = refl
  formed_lengths [] (x ∷ xs) form = absurd form
  formed_lengths (c ∷ cs) [] form = absurd form
  formed_lengths (c ∷ cs) (x ∷ xs) form = ap suc (formed_lengths cs xs form.1)

  pub formed_at : (cs : List C) (xs : List X) (n : ℕ) (c : C) (x : X) → AreFormed Form cs xs → slice_get cs n ≡ Some c → slice_get xs n ≡ Some x → Form c x
  formed_at [] [] n c x form a b = absurd (none-some c a)
  formed_at [] (y ∷ xs) n c x form a b = absurd form
  formed_at (d ∷ cs) [] n c x form a b = absurd form
  formed_at (d ∷ cs) (y ∷ xs) zero c x form a b = subst (λ (e : C). Form e x) (same_Some d c a) (subst (Form d) (same_Some y x b) form.0)
  formed_at (d ∷ cs) (y ∷ xs) (suc n) c x form a b = formed_at cs xs n c x form.1 a b
