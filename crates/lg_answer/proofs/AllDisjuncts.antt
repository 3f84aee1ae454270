-- The disjuncts of all choices of words, as lists.
use Rattle.std.proofs.Common.{◌≡◌, ◌↔◌, ℕ, zero, suc, Bool, true, false, not, ◌||◌, List, [], ◌∷◌, length, Contains, All, refl, sym, subst, true≢false}
use Rattle.std.specs.Prelude.{slice_index_or, ◌≤ℤ◌, T}
use Rattle.std.specs.Bool.{Decides, passes}
use Rattle.std.specs.Cmp.Lexicographic.{pointwise}
use Rattle.std.specs.Int.Signed.{le_z, le_z_yes}
use Rattle.std.specs.List.{flat_map}
use Rattle.std.proofs.lemmas.Bool.Decides.{Decides-and, Decides-by_and}
use Rattle.std.proofs.lemmas.List.{length-map}
use Rattle.std.proofs.lemmas.List.Elements.{All-contains, All-contains_itself, All-weaker}
use Rattle.std.proofs.lemmas.Slice.Eq.{slice_eq-Decides}
use Rattle.lg_base.proofs.Elements.{filter_in, filter_out, flat_in, flat_out, map_in, map_out}
use Rattle.lg_gram.proofs.Same.{connector_Decides}
use Rattle.lg_gram.specs.Connectors.{Connector, connector_eq}
use Rattle.lg_gram.specs.Disjuncts.{choice_of, IsDisjunctOf}
use Rattle.lg_gram.specs.Measures.{Choice, choices_of}
use Rattle.lg_gram.specs.declared.disjunct.Disjunct.{Disjunct}
use Rattle.lg_disj.specs.Choices.{disjunct_of}
use Rattle.lg_eprune.specs.Live.{WordTree}
use Rattle.lg_answer.specs.Steps.{IsOfTrees}
use Rattle.lg_answer.specs.Wide.{all_disjuncts, disjuncts_in, is_cheapest, same_lists}

-- ---- the cheapest choices

either_decides : {S L : Type 0} (s l : Bool) → Decides s S → Decides l L → Decides (not s || l) (S → L)
either_decides true l is_s is_l = (λ h here. is_l.0 h, λ h. is_l.1 (h (is_s.0 refl)))
either_decides false l is_s is_l = (λ h here. absurd (true≢false (sym (is_s.1 here))), λ h. refl)

pub equal_lists : (xs ys : List Connector) → Decides (pointwise connector_eq xs ys) (xs ≡ ys)
equal_lists xs ys = slice_eq-Decides connector_Decides xs ys _ refl

is_true : (b : Bool) → T b → b ≡ true
is_true true t = refl
is_true false t = absurd t

-- the second costs no less, if it has the lists of the first
abbrev IsNoCheaper : Choice → Choice → Type 0
IsNoCheaper c e = (c.left ≡ e.left) × (c.right ≡ e.right) → c.cost ≤ℤ e.cost

no_cheaper : (c e : Choice) → Decides (not (same_lists c e) || le_z c.cost e.cost) (IsNoCheaper c e)
no_cheaper c e =
    either_decides (same_lists c e) (le_z c.cost e.cost) (Decides-and _ _ (equal_lists c.left e.left) (equal_lists c.right e.right))
    (λ h. le_z_yes (passes _ h), λ h. is_true _ h.le)

none_cheaper : (cs : List Choice) (c : Choice) → Decides (is_cheapest cs c) (All (IsNoCheaper c) cs)
none_cheaper cs c = Decides-by_and (λ e. not (same_lists c e) || le_z c.cost e.cost) (IsNoCheaper c) (λ es. is_cheapest es c) (no_cheaper c) refl (λ e es. refl) cs

-- ---- the disjuncts of a word

-- they are those of its cheapest choices
word_members : (w : WordTree) (d : Disjunct) → Contains (disjuncts_in w) d ↔ IsDisjunctOf w.word w.tree d
word_members w d =
    let cs = choices_of w.tree in (
      λ h.
          let (c, kept, is) = map_out (disjunct_of w.word) _ d h in
          let (listed, cheap) = filter_out (is_cheapest cs) cs c kept in
          subst (IsDisjunctOf w.word w.tree) is (record {
            named = refl;
            chosen = listed;
            least = λ e m left right. All-contains (IsNoCheaper c) cs e ((none_cheaper cs c).0 cheap) m (sym left, sym right);
          }),
      λ is.
          let cheap = (none_cheaper cs (choice_of d)).1 (All-weaker (Contains cs) (IsNoCheaper (choice_of d)) (λ e m same. is.least e m (sym same.0) (sym same.1)) cs (All-contains_itself cs)) in
          let same : disjunct_of w.word (choice_of d) ≡ d = (λ i. record { word = sym is.named i; left = d.left; right = d.right; cost = d.cost }) in
          subst (Contains (disjuncts_in w)) same (map_in (disjunct_of w.word) _ (choice_of d) (filter_in (is_cheapest cs) cs (choice_of d) is.chosen cheap)),
    )

-- ---- the disjuncts of each position

pub all_length : (words : List (List WordTree)) → length (all_disjuncts words) ≡ length words
all_length words = length-map words (flat_map disjuncts_in)

all_at : (words : List (List WordTree)) (i : ℕ) → slice_index_or (all_disjuncts words) i [] ≡ flat_map disjuncts_in (slice_index_or words i [])
all_at [] i = refl
all_at (ws ∷ words) zero = refl
all_at (ws ∷ words) (suc i) = all_at words i

position_members : (ws : List WordTree) (d : Disjunct) → Contains (flat_map disjuncts_in ws) d ↔ IsOfTrees ws d
position_members ws d = (
  λ h. let (w, listed, here) = flat_out disjuncts_in ws d h in (w, listed, (word_members w d).0 here),
  λ of. flat_in disjuncts_in ws of.0 d of.1 ((word_members of.0 d).1 of.2),
)

-- each position has the disjuncts of its words
pub all_members : (words : List (List WordTree)) (i : ℕ) (d : Disjunct) → Contains (slice_index_or (all_disjuncts words) i []) d ↔ IsOfTrees (slice_index_or words i []) d
all_members words i d = subst (λ ds. Contains ds d ↔ IsOfTrees (slice_index_or words i []) d) (sym (all_at words i)) (position_members (slice_index_or words i []) d)
