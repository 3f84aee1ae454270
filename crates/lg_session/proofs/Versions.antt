-- The versions of a dictionary as the journal grows.
use Rattle.std.proofs.Common.{◌≡◌, ℕ, zero, suc, ◌+◌, ◌≤◌, List, [], ◌∷◌, ◌++◌, length, Some, refl, ap, add-one}
use Rattle.std.proofs.Math.Seq.{take-length}
use Rattle.std.proofs.lemmas.List.{take-append-le}
use Rattle.std.proofs.lemmas.Option.{none-some}
use Rattle.lg_gram.specs.declared.reply.Place.{Place}
use Rattle.lg_dict.specs.Dictionary.{Dictionary}
use Rattle.lg_script.specs.Commands.{CommandView}
use Rattle.lg_script.specs.Histories.{numbered, command_at, after_command, dictionary_after, version_of}

-- a version that is there stays as it is
pub version_more : (scripts : List (List CommandView)) (base : Dictionary) (journal more : List Place) (n : ℕ) → n ≤ length journal
    → version_of scripts base (journal ++ more) n ≡ version_of scripts base journal n
version_more scripts base journal more n there = ap (dictionary_after scripts base) (take-append-le n journal more there)

pub version_newest : (scripts : List (List CommandView)) (base : Dictionary) (journal : List Place)
    → version_of scripts base journal (length journal) ≡ dictionary_after scripts base journal
version_newest scripts base journal = ap (dictionary_after scripts base) (take-length journal)

-- one edit more
pub after_push : (scripts : List (List CommandView)) (base : Dictionary) (journal : List Place) (p : Place)
    → dictionary_after scripts base (journal ++ p ∷ []) ≡ after_command (dictionary_after scripts base journal) (command_at scripts p)
after_push scripts base [] p = refl
after_push scripts base (q ∷ qs) p = after_push scripts (after_command base (command_at scripts q)) qs p

pub numbered_more : {A : Type 0} → (xs more : List A) (n : ℕ) (x : A) → numbered xs n ≡ Some x → numbered (xs ++ more) n ≡ Some x
numbered_more xs more zero x is = is
numbered_more [] more (suc n) x is = absurd (none-some x is)
numbered_more (y ∷ ys) more (suc zero) x is = is
numbered_more (y ∷ ys) more (suc (suc n)) x is = numbered_more ys more (suc n) x is

last : {A : Type 0} → (xs : List A) (x : A) → numbered (xs ++ x ∷ []) (suc (length xs)) ≡ Some x
last [] x = refl
last (y ∷ ys) x = last ys x

pub numbered_push : {A : Type 0} → (xs : List A) (x : A) → numbered (xs ++ x ∷ []) (length xs + 1) ≡ Some x
numbered_push xs x = rw add-one (last xs x)
