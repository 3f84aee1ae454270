-- A linkage by what is shown of it: its choices and links are determined, and its words, sums and links are shown so.
use Rattle.std.proofs.Common.{◌≡◌, ℕ, zero, suc, ◌+◌, ◌-◌, ◌<◌, ◌≤◌, false, is_some, List, [], ◌∷◌, length, map, get_or, drop, Contains, Option, Some, None, MatchOption, Result, Ok, Err, refl, sym, ap, ◌∙◌, subst, arith}
use Rattle.std.specs.List.{AllByRecursion, enumerate_from, zip}
use Rattle.std.specs.Result.{IfOk}
use Rattle.lg_base.proofs.Elements.{contains_here, contains_later}
use Rattle.lg_gram.specs.Connectors.{ConnectorsToldApart}
use Rattle.lg_gram.specs.Limits.{LINKAGE_POSITIONS}
use Rattle.lg_gram.specs.Linkages.{Linkage, IsLinkage}
use Rattle.lg_gram.specs.Names.{NamesAreWritten}
use Rattle.lg_gram.specs.declared.disjunct.Disjunct.{Disjunct}
use Rattle.lg_gram.specs.declared.linkage.Link.{Link}
use Rattle.lg_gram.specs.declared.listing.Token.{Token}
use Rattle.lg_gram.specs.declared.listing.Violation.{Violation}
use Rattle.lg_dict.specs.Dictionary.{Dictionary}
use Rattle.lg_knowread.specs.declared.knowledge.Knowledge.{Knowledge}
use Rattle.lg_pp.specs.Breaks.{Judges}
use Rattle.lg_text.specs.Texts.{label_text}
use Rattle.lg_audit.specs.Lines.{ShownWord, ShownLink, ShownLinkage}
use Rattle.lg_audit.specs.Replies.{shown_word}
use Rattle.lg_audit.specs.Pages.{AreShown, AreFound, HaveNamedWords, MayFit, IsOneOf, Keeps, problem_of, links_in, shown_links}
use Rattle.lg_audit.proofs.OneShown.{one_row}
use Rattle.lg_audit.proofs.Alone.{good_linkage}

words_shown : (dict : Dictionary) (position : ℕ) (ts : List Token) (ws : List ShownWord) (os : List (Option Disjunct)) → AreShown dict position ts ws os
    → map shown_word (enumerate_from position (zip ts os)) ≡ ws
words_shown dict position [] [] [] h = refl
words_shown dict position (t ∷ ts) (w ∷ ws) (o ∷ os) h =
    let rest = words_shown dict (position + 1) ts ws os h.1 in
    (λ i. h.0.is i ∷ rest i)
words_shown dict position [] [] (o ∷ os) h = absurd h
words_shown dict position [] (w ∷ ws) [] h = absurd h
words_shown dict position [] (w ∷ ws) (o ∷ os) h = absurd h
words_shown dict position (t ∷ ts) [] [] h = absurd h
words_shown dict position (t ∷ ts) [] (o ∷ os) h = absurd h
words_shown dict position (t ∷ ts) (w ∷ ws) [] h = absurd h

pub row_length : (dict : Dictionary) (position : ℕ) (ts : List Token) (ws : List ShownWord) (os : List (Option Disjunct)) → AreShown dict position ts ws os → length os ≡ length ts
row_length dict position [] [] [] h = refl
row_length dict position (t ∷ ts) (w ∷ ws) (o ∷ os) h = ap suc (row_length dict (position + 1) ts ws os h.1)
row_length dict position [] [] (o ∷ os) h = absurd h
row_length dict position [] (w ∷ ws) [] h = absurd h
row_length dict position [] (w ∷ ws) (o ∷ os) h = absurd h
row_length dict position (t ∷ ts) [] [] h = absurd h
row_length dict position (t ∷ ts) [] (o ∷ os) h = absurd h
row_length dict position (t ∷ ts) (w ∷ ws) [] h = absurd h

links_back : (g : Linkage) (ls : List Link) → links_in (map (λ (l : Link). record { link = l; label = label_text g l }) ls) ≡ ls
links_back g [] = refl
links_back g (l ∷ ls) = ap (λ (ms : List Link). l ∷ ms) (links_back g ls)

shown_links_are : (know : Knowledge) (dict : Dictionary) (tokens : List Token) (s : ShownLinkage) (g : Linkage) → IsOneOf know dict tokens s g → g.links ≡ links_in s.links
shown_links_are know dict tokens s g is = sym (links_back g g.links) ∙ ap (λ (t : ShownLinkage). links_in t.links) is.is

-- no two linkages are shown alike
pub one_linkage : NamesAreWritten → ConnectorsToldApart → (know : Knowledge) (dict : Dictionary) (tokens : List Token) → HaveNamedWords dict tokens → (s : ShownLinkage) (g h : Linkage)
    → IsOneOf know dict tokens s g → IsOneOf know dict tokens s h → g ≡ h
one_linkage written apart know dict tokens named s g h is other =
    let row = one_row written apart dict 0 tokens s.words named g.chosen h.chosen is.chosen other.chosen in
    let links = shown_links_are know dict tokens s g is ∙ sym (shown_links_are know dict tokens s h other) in
    (λ i. record { chosen = row i; links = links i })

module _ (written : NamesAreWritten) (apart : ConnectorsToldApart) (know : Knowledge) (dict : Dictionary) (tokens : List Token) (few : length tokens ≤ LINKAGE_POSITIONS)
    (named : HaveNamedWords dict tokens) (s : ShownLinkage) (chosen : List (Option Disjunct)) (found : AreFound dict 0 tokens s.words chosen) where
  abbrev made : Linkage
  made = record { chosen = chosen; links = links_in s.links }

  pub fits : (g : Linkage) → g ≡ made → AllByRecursion MayFit g.chosen
  fits g same = subst (AllByRecursion MayFit) (sym (ap (λ (h : Linkage). h.chosen) same)) found.fit

  same_row : (g : Linkage) → IsOneOf know dict tokens s g → g.chosen ≡ chosen
  same_row g is = one_row written apart dict 0 tokens s.words named g.chosen chosen is.chosen found.shown

  same_made : (g : Linkage) → IsOneOf know dict tokens s g → g ≡ made
  same_made g is =
      let row = same_row g is in
      let links = shown_links_are know dict tokens s g is in
      (λ i. record { chosen = row i; links = links i })

  pub none_made : (IsLinkage made → ⊥) → (g : Linkage) → IsOneOf know dict tokens s g → ⊥
  none_made never g is =
      let count : length g.chosen ≤ LINKAGE_POSITIONS = (let many = row_length dict 0 tokens s.words g.chosen is.chosen in omega arith) in
      never (subst IsLinkage (same_made g is) (good_linkage (problem_of g.chosen) g count (fits g (same_made g is)) is.good))

  keeps : (g : Linkage) → IsOneOf know dict tokens s g → Keeps know s.sums s.links g
  keeps g is = record {
    good = is.good;
    passes = is.passes;
    has_sums = ap (λ (t : ShownLinkage). t.sums) is.is;
    has_links = ap (λ (t : ShownLinkage). t.links) is.is;
  }

  not_kept : (h : Linkage) → h ≡ made → (Keeps know s.sums s.links h → ⊥) → (g : Linkage) → IsOneOf know dict tokens s g → ⊥
  not_kept h same never g is = never (subst (Keeps know s.sums s.links) (same_made g is ∙ sym same) (keeps g is))

  is_one : (g : Linkage) → g ≡ made → Keeps know s.sums s.links g → IsOneOf know dict tokens s g
  is_one g same k =
      let row = subst (AreShown dict 0 tokens s.words) (sym (ap (λ (h : Linkage). h.chosen) same)) found.shown in
      let words = words_shown dict 0 tokens s.words g.chosen row in
      record {
        chosen = row;
        good = k.good;
        passes = k.passes;
        is = λ i. record { sums = k.has_sums i; words = words i; links = k.has_links i };
      }

  pub one_kept : {E : Type 0} (h : Linkage) → h ≡ made → (r : Result (Option Linkage) E)
      → IfOk r (λ o. MatchOption o (Keeps know s.sums s.links h → ⊥) (λ k. (k ≡ h) × Keeps know s.sums s.links h))
      → IfOk r (λ o. MatchOption o ((g : Linkage) → IsOneOf know dict tokens s g → ⊥) (IsOneOf know dict tokens s))
  one_kept h same (Ok None) never = not_kept h same never
  one_kept h same (Ok (Some k)) is = subst (IsOneOf know dict tokens s) (sym is.0) (is_one h same is.1)
  one_kept h same (Err e) is = tt

-- ---- labels

abbrev pub IsLabelled : Linkage → ShownLink → Type 0
IsLabelled g s = label_text g s.link ≡ s.label

labels_same : (g : Linkage) (ss : List ShownLink) → AllByRecursion (IsLabelled g) ss → map (λ (l : Link). record { link = l; label = label_text g l }) (links_in ss) ≡ ss
labels_same g [] all = refl
labels_same g (s ∷ ss) all =
    let rest = labels_same g ss all.1 in
    (λ i. record { link = s.link; label = all.0 i } ∷ rest i)

pub labels_are : (g : Linkage) (ss : List ShownLink) → g.links ≡ links_in ss → AllByRecursion (IsLabelled g) ss → shown_links g ≡ ss
labels_are g ss same all = ap (map (λ (l : Link). record { link = l; label = label_text g l })) same ∙ labels_same g ss all

pub labelled_at : (g : Linkage) (ss : List ShownLink) → map (λ (l : Link). record { link = l; label = label_text g l }) (links_in ss) ≡ ss → (i : ℕ) (d : ShownLink) → i < length ss
    → IsLabelled g (get_or ss i d)
labelled_at g [] same i d within = absurd (omega arith)
labelled_at g (s ∷ ss) same zero d within = ap (λ (xs : List ShownLink). (get_or xs 0 s).label) same
labelled_at g (s ∷ ss) same (suc i) d within = labelled_at g ss (ap (drop 1) same) i d (omega arith)

pub not_labels : (g : Linkage) (ss : List ShownLink) → g.links ≡ links_in ss → (i : ℕ) (s : ShownLink) → i < length ss → s ≡ get_or ss i s → (IsLabelled g s → ⊥) → shown_links g ≡ ss → ⊥
not_labels g ss links i s within read never same =
    never (subst (IsLabelled g) (sym read) (labelled_at g ss (ap (map (λ (l : Link). record { link = l; label = label_text g l })) (sym links) ∙ same) i s within))

-- the links of lines are links of the linkage
link_at : (ss : List ShownLink) (i : ℕ) (d : ShownLink) → i < length ss → Contains (links_in ss) (get_or ss i d).link
link_at [] i d within = absurd (omega arith)
link_at (s ∷ ss) zero d within = contains_here s.link (links_in ss)
link_at (s ∷ ss) (suc i) d within = contains_later s.link (links_in ss) (get_or ss i d).link (link_at ss i d (omega arith))

pub link_in : (g : Linkage) (ss : List ShownLink) → g.links ≡ links_in ss → (i : ℕ) (s : ShownLink) → i < length ss → s ≡ get_or ss i s → Contains g.links s.link
link_in g ss links i s within read =
    subst (λ (ls : List Link). Contains ls s.link) (sym links) (subst (λ (t : ShownLink). Contains (links_in ss) t.link) (sym read) (link_at ss i s within))

-- ---- judged

pub passed : (know : Knowledge) (g : Linkage) (v : Option Violation) → is_some v ≡ false → Judges know g v → Judges know g None
passed know g None e j = j
passed know g (Some v) e j = let no : ⊥ = cc in absurd no
