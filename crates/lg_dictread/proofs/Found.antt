-- What was found of the files that were asked for, in parts.
use Rattle.std.proofs.Common.{◌≡◌, ℕ, ◌<◌, ◌≤◌, nat_lt, Bool, true, false, List, [], ◌∷◌, ◌++◌, length, Option, None, Some, IsSomeAnd, if◌then◌else◌, refl, sym, ap, subst, ◌∙◌, append_assoc, arith}
use Rattle.std.proofs.lemmas.Bool.{ltb-true, ltb-false}
use Rattle.std.proofs.lemmas.List.{append-nil}
use Rattle.std.specs.FinMap.{from_entries}
use Rattle.lg_base.specs.Contents.{Contents}
use Rattle.lg_dictread.specs.Limits.{FILE}
use Rattle.lg_dictread.specs.Findings.{too_long, has_bytes, Asked, names_of, found_of, AreIn, AreKnown}
use Rattle.lg_dictread.specs.Telling.{Determined, Answers, AsksFront}

-- ---- one after the other

pub names_then : (a b : List Asked) → names_of (a ++ b) ≡ names_of a ++ names_of b
names_then [] b = refl
names_then (x ∷ a) b = ap (λ (l : List (List ℕ)). x.name ∷ l) (names_then a b)

pub grown_then : (start old new : List (List ℕ)) (a b : List Asked) → old ≡ start ++ names_of a → new ≡ old ++ names_of b → new ≡ start ++ names_of (a ++ b)
grown_then start old new a b p q = q ∙ ap (λ (l : List (List ℕ)). l ++ names_of b) p ∙ append_assoc start (names_of a) (names_of b) ∙ ap (λ (l : List (List ℕ)). start ++ l) (sym (names_then a b))

pub in_then : (contents : Contents) (a b : List Asked) → AreIn contents a → AreIn contents b → AreIn contents (a ++ b)
in_then contents [] b h k = k
in_then contents (x ∷ a) b h k = (h.0, in_then contents a b h.1 k)

pub in_rest : (contents : Contents) (a b : List Asked) → AreIn contents (a ++ b) → AreIn contents b
in_rest contents [] b h = h
in_rest contents (x ∷ a) b h = in_rest contents a b h.1

pub in_front : (contents : Contents) (a b : List Asked) → AreIn contents (a ++ b) → AreIn contents a
in_front contents [] b h = tt
in_front contents (x ∷ a) b h = (h.0, in_front contents a b h.1)

pub known_none : (known : Option Contents) → AreKnown known []
known_none None = tt
known_none (Some contents) = tt

pub known_then : (known : Option Contents) (a b : List Asked) → AreKnown known a → AreKnown known b → AreKnown known (a ++ b)
known_then None a b h k = tt
known_then (Some contents) a b h k = in_then contents a b h k

-- the contents that are known, or none
abbrev pub or_none : Option Contents → Contents
or_none None = from_entries []
or_none (Some contents) = contents

pub known_in : (known : Option Contents) (asked : List Asked) → AreIn (or_none known) asked → AreKnown known asked
known_in None asked h = tt
known_in (Some contents) asked h = h

-- the front of names is that of what was asked
pub front_of : (asked : List Asked) (a b : List (List ℕ)) → names_of asked ≡ a ++ b → (front : List Asked) × (rest : List Asked) × (asked ≡ front ++ rest) × (names_of front ≡ a)
front_of asked [] b h = ([], asked, refl, refl)
front_of [] (n ∷ a) b h = absurd cc
front_of (x ∷ asked) (n ∷ a) b h =
    let first : x.name ≡ n = cc in
    let further = front_of asked a b cc in
    (x ∷ further.0, further.1, ap (λ (l : List Asked). x ∷ l) further.2, (λ i. first i ∷ further.3 i))

-- ---- what is asked in front of an answer

pub all_front : {A : Type 0} (known : Option Contents) (is : Determined A) (old new : List (List ℕ)) (answer : A) → Answers known is old new answer → AsksFront known is old new
all_front known is old new answer h = record {
  front = h.asked;
  rest = [];
  answer = answer;
  names = h.names;
  found = subst (AreKnown known) (sym (append-nil h.asked)) h.found;
  answers = subst (λ (l : List Asked). is l answer) (sym (append-nil h.asked)) h.answers;
}

-- ---- what a file has

short_found : (bytes : List ℕ) (long : Bool) → nat_lt FILE (length bytes) ≡ long → length bytes ≤ FILE → (if long then too_long else has_bytes bytes) ≡ has_bytes bytes
short_found bytes false e h = refl
short_found bytes true e h = absurd (omega (arith, ltb-true FILE (length bytes) e))

long_found : (bytes : List ℕ) (long : Bool) → nat_lt FILE (length bytes) ≡ long → FILE < length bytes → (if long then too_long else has_bytes bytes) ≡ too_long
long_found bytes true e h = refl
long_found bytes false e h = absurd (omega (arith, ltb-false FILE (length bytes) e))

pub found_bytes : (found : Option (List ℕ)) (bytes : List ℕ) → found ≡ Some bytes → length bytes ≤ FILE → has_bytes bytes ≡ found_of found
found_bytes found bytes is h = sym (ap found_of is ∙ short_found bytes (nat_lt FILE (length bytes)) refl h)

pub found_long : (found : Option (List ℕ)) → IsSomeAnd found (λ bytes. FILE < length bytes) → too_long ≡ found_of found
found_long None h = absurd h
found_long (Some bytes) h = sym (long_found bytes (nat_lt FILE (length bytes)) refl h)
