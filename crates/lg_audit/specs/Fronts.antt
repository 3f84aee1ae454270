-- What a reader finds at the front of a text.
use Rattle.std.specs.Prelude.{◌≡◌, ℕ, ◌+◌, eqb, false, List, [], ◌∷◌, ◌++◌, codes}
use Rattle.std.specs.List.{flat_map, starts_with}
use Rattle.lg_text.specs.Shown.{closed}

-- the lines stand at the front of the text, each with its line feed, and then the rest
abbrev pub Leaves : List (List ℕ) → List ℕ → List ℕ → Type 0
Leaves lines text rest = text ≡ flat_map closed lines ++ rest

-- none of the form stands at the front of the text
pub record HasNone {X : Type 0} (Form : X → Type 0) (lines : X → List (List ℕ)) (text : List ℕ) : Type 0 where
  pub none : (y : X) (s : List ℕ) → Form y → Leaves (lines y) text s → ⊥

-- one of the form stands at the front of the text, and before any end none that leaves another rest
pub record IsRead {X : Type 0} (Form : X → Type 0) (lines : X → List (List ℕ)) (IsEnd : List ℕ → Type 0) (text : List ℕ) (x : X) (rest : List ℕ) : Type 0 where
  pub form : Form x
  pub is : Leaves (lines x) text rest
  pub only : (y : X) (s : List ℕ) → Form y → IsEnd s → Leaves (lines y) text s → s ≡ rest

-- no line begins here that a linkage may have behind its heading
pub record EndsLinkage (text : List ℕ) : Type 0 where
  pub no_word : starts_with eqb text (codes "word ") ≡ false
  pub no_link : starts_with eqb text (codes "link ") ≡ false
  pub no_drawn : starts_with eqb text (codes ">") ≡ false

-- any text is an end
abbrev pub Anything : List ℕ → Type 0
Anything text = Unit {0}

-- each is of the form that its key asks for
abbrev pub AreFormed : {C X : Type 0} → (C → X → Type 0) → List C → List X → Type 0
AreFormed Form [] [] = Unit {0}
AreFormed Form (c ∷ cs) (x ∷ xs) = Form c x × AreFormed Form cs xs
AreFormed Form _ _ = ⊥

-- the lines of each, by its number and its key, from this number on
abbrev pub numbered_lines : {C X : Type 0} → (ℕ → C → X → List (List ℕ)) → ℕ → List C → List X → List (List ℕ)
numbered_lines lines n (c ∷ cs) (x ∷ xs) = lines n c x ++ numbered_lines lines (n + 1) cs xs
numbered_lines lines n (c ∷ cs) [] = []
numbered_lines lines n [] xs = []
