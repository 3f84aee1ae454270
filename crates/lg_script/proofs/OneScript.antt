-- At most one: the lines of a text are one list, and give one outcome.
use Rattle.std.proofs.Common.{◌≡◌, ◌≢◌, ℕ, ◌+◌, List, [], ◌∷◌, ◌++◌, ◌⊎◌, inl, inr, min, Result, Ok, Err, refl, sym, ap, subst, ◌∙◌}
use Rattle.std.specs.List.{AllByRecursion, join_with_byte}
use Rattle.std.specs.Str.{IsUtf8, IsValidUpTo}
use Rattle.std.proofs.lemmas.List.{append-nil}
use Rattle.lg_lex.specs.Classes.{line_feed}
use Rattle.lg_lex.specs.Marked.{without_mark}
use Rattle.lg_dictread.specs.declared.entry_text.EntryError.{EntryError}
use Rattle.lg_gram.specs.EntryViews.{EntryView}
use Rattle.lg_dictread.specs.EntryTexts.{EntryTextIs}
use Rattle.lg_script.specs.declared.script_error.ScriptError.TheVariants.{NotUtf8}
use Rattle.lg_script.specs.Lines.{AreLines, Says, IsPassedOver, IsCommand}
use Rattle.lg_script.specs.Commands.{CommandView, Fault, CommandIs}
use Rattle.lg_script.specs.Scripts.{LINES_COUNTED, error_at, Outcome, with_command, LinesGive, ended, passed, command, fault, ScriptIs, not_utf8, lines}
use Rattle.lg_script.proofs.Alone.{one_body, one_command, passed_apart}
use Rattle.lg_script.proofs.Meanings.{one_answer}

-- ---- one list of lines

abbrev Whole : List ℕ → Type 0
Whole l = AllByRecursion (λ b. b ≢ line_feed) l

-- what stands behind a first line: nothing, or a line feed and more
abbrev Behind : List ℕ → Type 0
Behind [] = Unit {0}
Behind (b ∷ bs) = b ≡ line_feed

same_first : (l m s t : List ℕ) → Whole l → Whole m → Behind s → Behind t → l ++ s ≡ m ++ t → (l ≡ m) × (s ≡ t)
same_first [] [] s t h k a b e = (refl, e)
same_first [] (c ∷ m) [] t h k a b e = absurd cc
same_first [] (c ∷ m) (d ∷ s) t h k a b e = let same : c ≡ d = cc in absurd (k.0 (same ∙ a))
same_first (c ∷ l) [] s [] h k a b e = absurd cc
same_first (c ∷ l) [] s (d ∷ t) h k a b e = let same : c ≡ d = cc in absurd (h.0 (same ∙ b))
same_first (c ∷ l) (d ∷ m) s t h k a b e =
    let tails : l ++ s ≡ m ++ t = cc in
    let same : c ≡ d = cc in
    let parts = same_first l m s t h.1 k.1 a b tails in
    (λ i. same i ∷ parts.0 i, parts.1)

-- the bytes behind a first line
abbrev behind : List (List ℕ) → List ℕ
behind [] = []
behind (l ∷ ls) = line_feed ∷ join_with_byte line_feed (l ∷ ls)

is_behind : (ls : List (List ℕ)) → Behind (behind ls)
is_behind [] = tt
is_behind (l ∷ ls) = refl

parted : (l : List ℕ) (ls : List (List ℕ)) → l ++ behind ls ≡ join_with_byte line_feed (l ∷ ls)
parted l [] = append-nil l
parted l (m ∷ ls) = refl

one_list : (ls ms : List (List ℕ)) → AllByRecursion Whole ls → AllByRecursion Whole ms → behind ls ≡ behind ms → ls ≡ ms
one_list [] [] h k e = refl
one_list [] (m ∷ ms) h k e = absurd cc
one_list (l ∷ ls) [] h k e = absurd cc
one_list (l ∷ ls) (m ∷ ms) h k e =
    let joined : join_with_byte line_feed (l ∷ ls) ≡ join_with_byte line_feed (m ∷ ms) = cc in
    let parts = same_first l m (behind ls) (behind ms) h.0 k.0 (is_behind ls) (is_behind ms) (parted l ls ∙ joined ∙ sym (parted m ms)) in
    let rest = one_list ls ms h.1 k.1 parts.1 in
    (λ i. parts.0 i ∷ rest i)

behind_some : (ls : List (List ℕ)) → ls ≢ [] → behind ls ≡ line_feed ∷ join_with_byte line_feed ls
behind_some [] some = absurd (some refl)
behind_some (l ∷ ls) some = refl

pub one_cut : (bytes : List ℕ) (ls ms : List (List ℕ)) → AreLines ls bytes → AreLines ms bytes → ls ≡ ms
one_cut bytes ls ms h k = one_list ls ms h.whole k.whole (behind_some ls h.some ∙ ap (λ (x : List ℕ). line_feed ∷ x) (sym h.joined ∙ k.joined) ∙ sym (behind_some ms k.some))

-- ---- one outcome of some lines

abbrev Gives : ℕ → Result CommandView Fault → (Outcome → Type 0) → Outcome → Type 0
Gives n (Ok c) Rest y = (x : Outcome) × Rest x × (y ≡ with_command c x)
Gives n (Err f) Rest y = y ≡ Err (error_at (min n LINES_COUNTED) f)

-- what the first line does: it is passed over, gives a command, or is at fault
abbrev Turn : ℕ → List ℕ → (Outcome → Type 0) → Outcome → Type 0
Turn n line Rest y = ((body : List ℕ) × Says line body × IsPassedOver body × Rest y)
    ⊎ ((body : List ℕ) × (word : List ℕ) × (rest : List ℕ) × (r : Result CommandView Fault) × Says line body × IsCommand body word rest × CommandIs word rest r × Gives n r Rest y)

turn : (n : ℕ) (line : List ℕ) (ls : List (List ℕ)) (y : Outcome) → LinesGive n (line ∷ ls) y → Turn n line (LinesGive (n + 1) ls) y
turn n line ls y (passed m l body ms z says is h) = inl (body, says, is, h)
turn n line ls y (command m l body word rest ms c x says is means h) = inr (body, word, rest, Ok c, says, is, means, (x, h, refl))
turn n line ls y (fault m l body word rest ms f says is means) = inr (body, word, rest, Err f, says, is, means, refl)

none : (n : ℕ) (y : Outcome) → LinesGive n [] y → y ≡ Ok []
none n y (ended m) = refl

module _ (one_text : (bytes : List ℕ) (x y : Result EntryView EntryError) → EntryTextIs bytes x → EntryTextIs bytes y → x ≡ y) where
  one_given : (n : ℕ) (r : Result CommandView Fault) (Rest : Outcome → Type 0) (x y : Outcome) → ((v w : Outcome) → Rest v → Rest w → v ≡ w) → Gives n r Rest x → Gives n r Rest y → x ≡ y
  one_given n (Ok c) Rest x y one (v, h, p) (w, k, q) = p ∙ ap (with_command c) (one v w h k) ∙ sym q
  one_given n (Err f) Rest x y one p q = p ∙ sym q

  one_turn : (n : ℕ) (line : List ℕ) (Rest : Outcome → Type 0) (x y : Outcome) → ((v w : Outcome) → Rest v → Rest w → v ≡ w) → Turn n line Rest x → Turn n line Rest y → x ≡ y
  one_turn n line Rest x y one (inl (a, says, is, h)) (inl (b, says_too, is_too, k)) = one x y h k
  one_turn n line Rest x y one (inl (a, says, is, h)) (inr (b, word, rest, r, says_too, is_too, means, k)) = absurd (passed_apart b word rest (subst IsPassedOver (one_body line a b says says_too) is) is_too)
  one_turn n line Rest x y one (inr (a, word, rest, r, says, is, means, h)) (inl (b, says_too, is_too, k)) = absurd (passed_apart a word rest (subst IsPassedOver (one_body line b a says_too says) is_too) is)
  one_turn n line Rest x y one (inr (a, word, rest, r, says, is, means, h)) (inr (b, v, w, s, says_too, is_too, means_too, k)) =
      let parts = one_command b word v rest w (subst (λ (z : List ℕ). IsCommand z word rest) (one_body line a b says says_too) is) is_too in
      let moved : CommandIs v w r = subst (λ (z : List ℕ). CommandIs v z r) parts.1 (subst (λ (z : List ℕ). CommandIs z rest r) parts.0 means) in
      let answers : s ≡ r = one_answer one_text v w s r means_too moved in
      one_given n r Rest x y one h (subst (λ (z : Result CommandView Fault). Gives n z Rest y) answers k)

  one_lines : (n : ℕ) (ls : List (List ℕ)) (x y : Outcome) → LinesGive n ls x → LinesGive n ls y → x ≡ y
  one_lines n [] x y h k = none n x h ∙ sym (none n y k)
  one_lines n (line ∷ ls) x y h k = one_turn n line (LinesGive (n + 1) ls) x y (λ v w p q. one_lines (n + 1) ls v w p q) (turn n line ls x h) (turn n line ls y k)

  module _ (one_fault : (bytes : List ℕ) (n m : ℕ) → IsValidUpTo bytes n → IsValidUpTo bytes m → n ≡ m)
      (fault_apart : (bytes : List ℕ) (n : ℕ) → IsValidUpTo bytes n → IsUtf8 bytes → ⊥) where
    pub one_script : (bytes : List ℕ) (x y : Outcome) → ScriptIs bytes x → ScriptIs bytes y → x ≡ y
    one_script bytes x y (not_utf8 n h) (not_utf8 m k) = ap (λ (i : ℕ). Err (NotUtf8 i)) (one_fault bytes n m h k)
    one_script bytes x y (not_utf8 n h) (lines ms z utf8 are gives) = absurd (fault_apart bytes n h utf8)
    one_script bytes x y (lines ls z utf8 are gives) (not_utf8 m k) = absurd (fault_apart bytes m k utf8)
    one_script bytes x y (lines ls v utf8 are gives) (lines ms w utf8_too are_too gives_too) =
        one_lines 1 ls v w gives (subst (λ (l : List (List ℕ)). LinesGive 1 l w) (one_cut (without_mark bytes) ms ls are_too are) gives_too)
