-- Runs of lines that go as far as they can.
use Rattle.std.proofs.Common.{◌≡◌, ℕ, false, List, [], ◌∷◌, ◌++◌, map, drop, codes, refl, ap, sym, ◌∙◌, subst, eqb, true≢false}
use Rattle.std.specs.List.{flat_map, starts_with, AllByRecursion}
use Rattle.std.proofs.lemmas.Bool.Decides.{Decides-eqb}
use Rattle.std.proofs.lemmas.List.{append_assoc, map-id}
use Rattle.std.proofs.lemmas.Slice.Eq.{starts_is}
use Rattle.lg_text.specs.Shown.{IsOneLine, closed}
use Rattle.lg_audit.specs.Lines.{ShownWord, ShownLink, word_line, link_line, IsWordInForm, IsLinkInForm, IsUnread, AreUnread}
use Rattle.lg_audit.specs.Fronts.{EndsLinkage}
use Rattle.lg_audit.proofs.Rows.{same_line, word_single, link_single}
use Rattle.lg_audit.proofs.Singles.{joined}

-- two runs that both go as far as they can end at the same place
module _ {X : Type 0} (Form : X → Type 0) (f : X → List ℕ) (single : (x : X) → Form x → IsOneLine (f x)) where
  pub same_run : (text r s : List ℕ) (xs ys : List X) → AllByRecursion Form xs → AllByRecursion Form ys
      → text ≡ flat_map closed (map f xs) ++ r → text ≡ flat_map closed (map f ys) ++ s
      → ((x : X) (t : List ℕ) → Form x → r ≡ closed (f x) ++ t → ⊥) → ((x : X) (t : List ℕ) → Form x → s ≡ closed (f x) ++ t → ⊥) → r ≡ s
  same_run text r s [] [] p q e g no_r no_s = sym e ∙ g
  same_run text r s [] (y ∷ ys) p q e g no_r no_s = absurd (no_r y (flat_map closed (map f ys) ++ s) q.0 (sym e ∙ g ∙ append_assoc (closed (f y)) (flat_map closed (map f ys)) s))
  same_run text r s (x ∷ xs) [] p q e g no_r no_s = absurd (no_s x (flat_map closed (map f xs) ++ r) p.0 (sym g ∙ e ∙ append_assoc (closed (f x)) (flat_map closed (map f xs)) r))
  same_run text r s (x ∷ xs) (y ∷ ys) p q e g no_r no_s =
      let parts = same_line text (f x) (f y) (flat_map closed (map f xs) ++ r) (flat_map closed (map f ys) ++ s) (single x p.0) (single y q.0)
      (e ∙ append_assoc (closed (f x)) (flat_map closed (map f xs)) r) (g ∙ append_assoc (closed (f y)) (flat_map closed (map f ys)) s) in
      same_run (flat_map closed (map f xs) ++ r) r s xs ys p.1 q.1 refl parts.1 no_r no_s

-- ---- texts that begin otherwise

no_word : (t : List ℕ) → starts_with eqb t (codes "word ") ≡ false → (w : ShownWord) (r : List ℕ) → IsWordInForm w → t ≡ closed (word_line w) ++ r → ⊥
no_word t none w r form e = true≢false (sym (ap (λ (l : List ℕ). starts_with eqb l (codes "word ")) e) ∙ none)

no_link : (t : List ℕ) → starts_with eqb t (codes "link ") ≡ false → (l : ShownLink) (r : List ℕ) → IsLinkInForm l → t ≡ closed (link_line l) ++ r → ⊥
no_link t none l r form e = true≢false (sym (ap (λ (l : List ℕ). starts_with eqb l (codes "link ")) e) ∙ none)

drawn_is : (u : List ℕ) → IsUnread (codes ">") u → u ≡ 62 ∷ drop 1 u
drawn_is u form = (starts_is Decides-eqb u (codes ">") (starts_with eqb u (codes ">")) refl).0 form.1

no_drawn : (t : List ℕ) → starts_with eqb t (codes ">") ≡ false → (u r : List ℕ) → IsUnread (codes ">") u → t ≡ closed u ++ r → ⊥
no_drawn t none u r form e =
    let begins : t ≡ closed (62 ∷ drop 1 u) ++ r = e ∙ ap (λ (l : List ℕ). closed l ++ r) (drawn_is u form) in
    true≢false (sym (ap (λ (l : List ℕ). starts_with eqb l (codes ">")) begins) ∙ none)

module _ (s : List ℕ) (ends : EndsLinkage s) where
  drawn_no_word : (us : List (List ℕ)) → AreUnread (codes ">") us → starts_with eqb (flat_map closed us ++ s) (codes "word ") ≡ false
  drawn_no_word [] form = ends.no_word
  drawn_no_word (u ∷ us) form = subst (λ (v : List ℕ). starts_with eqb (flat_map closed (v ∷ us) ++ s) (codes "word ") ≡ false) (sym (drawn_is u form.0)) refl

  drawn_no_link : (us : List (List ℕ)) → AreUnread (codes ">") us → starts_with eqb (flat_map closed us ++ s) (codes "link ") ≡ false
  drawn_no_link [] form = ends.no_link
  drawn_no_link (u ∷ us) form = subst (λ (v : List ℕ). starts_with eqb (flat_map closed (v ∷ us) ++ s) (codes "link ") ≡ false) (sym (drawn_is u form.0)) refl

  links_no_word : (ls : List ShownLink) (us : List (List ℕ)) → AreUnread (codes ">") us → starts_with eqb (flat_map closed (map link_line ls ++ us) ++ s) (codes "word ") ≡ false
  links_no_word [] us form = drawn_no_word us form
  links_no_word (l ∷ ls) us form = refl

-- ---- a linkage

-- what was read behind a heading, run by run
pub record AreRuns (text a b left : List ℕ) (ws : List ShownWord) (ls : List ShownLink) (us : List (List ℕ)) : Type 0 where
  pub words : AllByRecursion IsWordInForm ws × (text ≡ flat_map closed (map word_line ws) ++ a) × ((w : ShownWord) (r : List ℕ) → IsWordInForm w → a ≡ closed (word_line w) ++ r → ⊥)
  pub links : AllByRecursion IsLinkInForm ls × (a ≡ flat_map closed (map link_line ls) ++ b) × ((l : ShownLink) (r : List ℕ) → IsLinkInForm l → b ≡ closed (link_line l) ++ r → ⊥)
  pub drawn : AllByRecursion (IsUnread (codes ">")) us × (b ≡ flat_map closed us ++ left) × ((u r : List ℕ) → IsUnread (codes ">") u → left ≡ closed u ++ r → ⊥)

abbrev lines_of : List ShownWord → List ShownLink → List (List ℕ) → List (List ℕ)
lines_of ws ls us = map word_line ws ++ (map link_line ls ++ us)

module _ (text a b left : List ℕ) (ws : List ShownWord) (ls : List ShownLink) (us : List (List ℕ)) (runs : AreRuns text a b left ws ls us) where
  pub runs_are : text ≡ flat_map closed (lines_of ws ls us) ++ left
  runs_are =
      runs.words.1
      ∙ ap (λ (t : List ℕ). flat_map closed (map word_line ws) ++ t) (runs.links.1 ∙ ap (λ (t : List ℕ). flat_map closed (map link_line ls) ++ t) runs.drawn.1 ∙ sym (joined (map link_line ls) us left))
      ∙ sym (joined (map word_line ws) (map link_line ls ++ us) left)

  -- whatever else stands there, it leaves the same
  pub same_runs : (s : List ℕ) (ws' : List ShownWord) (ls' : List ShownLink) (us' : List (List ℕ)) → AllByRecursion IsWordInForm ws' → AllByRecursion IsLinkInForm ls' → AreUnread (codes ">") us'
      → EndsLinkage s → text ≡ flat_map closed (lines_of ws' ls' us') ++ s → s ≡ left
  same_runs s ws' ls' us' p q r ends e =
      let a' : List ℕ = flat_map closed (map link_line ls' ++ us') ++ s in
      let b' : List ℕ = flat_map closed us' ++ s in
      let one : a ≡ a' = same_run IsWordInForm word_line word_single text a a' ws ws' runs.words.0 p runs.words.1 (e ∙ joined (map word_line ws') (map link_line ls' ++ us') s)
      runs.words.2 (no_word a' (links_no_word s ends ls' us' r)) in
      let two : b ≡ b' = same_run IsLinkInForm link_line link_single a b b' ls ls' runs.links.0 q runs.links.1 (one ∙ joined (map link_line ls') us' s)
      runs.links.2 (no_link b' (drawn_no_link s ends us' r)) in
      let itself : (vs : List (List ℕ)) (t : List ℕ) → flat_map closed vs ++ t ≡ flat_map closed (map (λ (u : List ℕ). u) vs) ++ t = λ vs t. ap (λ (ls : List (List ℕ)). flat_map closed ls ++ t) (sym (map-id vs)) in
      sym (same_run (IsUnread (codes ">")) (λ (u : List ℕ). u) (λ u form. form.0) b left s us us' runs.drawn.0 r (runs.drawn.1 ∙ itself us left) (two ∙ itself us' s)
      runs.drawn.2 (no_drawn s ends.no_drawn))
