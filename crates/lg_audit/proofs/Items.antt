-- The candidates of a page, and the page.
use Rattle.std.proofs.Common.{◌≡◌, ℕ, ◌+◌, ◌<◌, false, List, [], ◌∷◌, ◌++◌, length, map, codes, refl, ap, sym, ◌∙◌, eqb, true≢false, arith, length-append}
use Rattle.std.specs.List.{flat_map, starts_with, AllByRecursion}
use Rattle.std.proofs.lemmas.Grind.{flat_map-append}
use Rattle.std.proofs.lemmas.List.{append_assoc, append-nil}
use Rattle.lg_gram.specs.declared.listing.Violation.{Violation}
use Rattle.lg_text.specs.Shown.{IsOneLine, closed}
use Rattle.lg_audit.specs.declared.shown.ShownEnd.{ShownEnd}
use Rattle.lg_audit.specs.declared.shown.ShownSums.{ShownSums}
use Rattle.lg_audit.specs.Pieces.{IsNumber}
use Rattle.lg_audit.specs.Lines.{ShownWord, ShownLink, ShownItem, passes, fails, ShownPage, word_line, link_line, heading_line, fail_line, page_line, AreSumsInForm, IsViolationInForm, IsItemInForm, IsEndInForm}
use Rattle.lg_audit.specs.Documents.{item_lines, page_lines, IsPageInForm}
use Rattle.lg_audit.specs.Fronts.{Leaves, HasNone, IsRead, EndsLinkage, Anything}
use Rattle.lg_audit.proofs.Singles.{heading_single, fail_single, page_single, cut_front, no_front, joined, one_line}
use Rattle.lg_audit.proofs.LongRuns.{AreRuns, runs_are, same_runs}

abbrev head_of : ShownItem → List ℕ
head_of (passes number g unread) = heading_line number g.sums
head_of (fails number v) = fail_line number v

abbrev body_of : ShownItem → List (List ℕ)
body_of (passes number g unread) = map word_line g.words ++ (map link_line g.links ++ unread)
body_of (fails number v) = []

item_is : (x : ShownItem) (s : List ℕ) → flat_map closed (item_lines x) ++ s ≡ flat_map closed (head_of x ∷ body_of x) ++ s
item_is (passes number g unread) s = refl
item_is (fails number v) s = refl

head_single : (x : ShownItem) → IsItemInForm x → IsOneLine (head_of x)
head_single (passes number g unread) form = heading_single number g.sums form.0 form.1.sums
head_single (fails number v) form = fail_single number v form.0 form.1

pub no_text : (text : List ℕ) → IsOneLine text → HasNone IsItemInForm item_lines text
no_text text single = record { none = λ y s form is. no_front text (head_of y) s (body_of y) single (is ∙ item_is y s) }

-- a first line, and what stands behind it
module _ (text line rest : List ℕ) (single : IsOneLine line) (cut : text ≡ closed line ++ rest) where
  parts : (y : ShownItem) (s : List ℕ) → IsItemInForm y → Leaves (item_lines y) text s → (line ≡ head_of y) × (rest ≡ flat_map closed (body_of y) ++ s)
  parts y s form is = cut_front text line rest (head_of y) s (body_of y) single (head_single y form) cut (is ∙ item_is y s)

  pub no_item : ((n : ℕ) (v : Violation) → IsNumber n → IsViolationInForm v → line ≡ fail_line n v → ⊥)
      → ((n : ℕ) (sums : ShownSums) → IsNumber n → AreSumsInForm sums → line ≡ heading_line n sums → ⊥) → HasNone IsItemInForm item_lines text
  no_item no_failure no_heading = record { none = λ y s form is. by y form (parts y s form is).0 }
    where
      by : (y : ShownItem) → IsItemInForm y → line ≡ head_of y → ⊥
      by (passes n g unread) form is = no_heading n g.sums form.0 form.1.sums is
      by (fails n v) form is = no_failure n v form.0 form.1 is

  other : (n m : ℕ) (v : Violation) (sums : ShownSums) → line ≡ fail_line n v → line ≡ heading_line m sums → ⊥
  other n m v sums e f = true≢false (ap (λ (l : List ℕ). starts_with eqb l (codes "fail ")) (sym e ∙ f))

  pub failed : (n : ℕ) (v : Violation) → IsNumber n × IsViolationInForm v × (line ≡ fail_line n v) → IsRead IsItemInForm item_lines EndsLinkage text (fails n v) rest
  failed n v found = record {
    form = (found.0, found.1);
    is = cut ∙ ap (λ (l : List ℕ). closed l ++ rest) found.2 ∙ one_line (fail_line n v) rest;
    only = λ y s form ends is. by y s form (parts y s form is);
  }
    where
      by : (y : ShownItem) (s : List ℕ) → IsItemInForm y → (line ≡ head_of y) × (rest ≡ flat_map closed (body_of y) ++ s) → s ≡ rest
      by (passes m g unread) s form is = absurd (other n m v g.sums found.2 is.0)
      by (fails m w) s form is = sym is.1

  pub passed : (a b left : List ℕ) (n : ℕ) (sums : ShownSums) (ws : List ShownWord) (ls : List ShownLink) (us : List (List ℕ)) → IsNumber n × AreSumsInForm sums × (line ≡ heading_line n sums)
      → AreRuns rest a b left ws ls us
      → IsRead IsItemInForm item_lines EndsLinkage text (passes n (record { sums = sums; words = ws; links = ls }) us) left
  passed a b left n sums ws ls us found runs = record {
    form = (found.0, record { sums = found.1; words = runs.words.0; links = runs.links.0 }, runs.drawn.0);
    is =
        cut ∙ ap (λ (l : List ℕ). closed l ++ rest) found.2 ∙ ap (λ (t : List ℕ). closed (heading_line n sums) ++ t) (runs_are rest a b left ws ls us runs)
        ∙ sym (append_assoc (closed (heading_line n sums)) (flat_map closed (map word_line ws ++ (map link_line ls ++ us))) left);
    only = λ y s form ends is. by y s form ends (parts y s form is);
  }
    where
      by : (y : ShownItem) (s : List ℕ) → IsItemInForm y → EndsLinkage s → (line ≡ head_of y) × (rest ≡ flat_map closed (body_of y) ++ s) → s ≡ left
      by (passes m g unread) s form ends is = same_runs rest a b left ws ls us runs s g.words g.links unread form.1.words form.1.links form.2 ends is.1
      by (fails m v) s form ends is = absurd (other m n v sums is.0 found.2)

-- ---- a page, candidate by candidate

-- a page stands at the front of the text, before s
pub record HasPage (text s : List ℕ) : Type 0 where
  pub page : ShownPage
  pub form : IsPageInForm page
  pub is : Leaves (page_lines page) text s

-- a page of the text is one of what is left of it
abbrev pub GivesPages : List ℕ → List ℕ → Type 0
GivesPages text left = (s : List ℕ) → HasPage text s → HasPage left s

ends : (ys : List ShownItem) (last : ShownEnd) (s : List ℕ) → EndsLinkage (flat_map closed (flat_map item_lines ys ++ page_line last ∷ []) ++ s)
ends [] last s = record { no_word = refl; no_link = refl; no_drawn = refl }
ends (passes n g us ∷ ys) last s = record { no_word = refl; no_link = refl; no_drawn = refl }
ends (fails n v ∷ ys) last s = record { no_word = refl; no_link = refl; no_drawn = refl }

no_page : (x : ShownItem) (s : List ℕ) → starts_with eqb (flat_map closed (item_lines x) ++ s) (codes "page ") ≡ false
no_page (passes n g us) s = refl
no_page (fails n v) s = refl

first_item : (y : ShownItem) (ys : List ShownItem) (last : ShownEnd) (s : List ℕ)
    → flat_map closed (flat_map item_lines (y ∷ ys) ++ page_line last ∷ []) ++ s ≡ flat_map closed (item_lines y) ++ (flat_map closed (flat_map item_lines ys ++ page_line last ∷ []) ++ s)
first_item y ys last s =
    ap (λ (ls : List (List ℕ)). flat_map closed ls ++ s) (append_assoc (item_lines y) (flat_map item_lines ys) (page_line last ∷ []))
    ∙ joined (item_lines y) (flat_map item_lines ys ++ page_line last ∷ []) s

pub next_pages : (text left rest : List ℕ) (x : ShownItem) → GivesPages text left → IsRead IsItemInForm item_lines EndsLinkage left x rest → GivesPages text rest
next_pages text left rest x gives read = λ s has. let p = gives s has in by p.page.items p.page.last s p.form.items p.form.last p.is
  where
    by : (items : List ShownItem) (last : ShownEnd) (s : List ℕ) → AllByRecursion IsItemInForm items → IsEndInForm last
        → left ≡ flat_map closed (flat_map item_lines items ++ page_line last ∷ []) ++ s → HasPage rest s
    by [] last s form end e = absurd (true≢false (ap (λ (l : List ℕ). starts_with eqb l (codes "page ")) (sym e ∙ read.is) ∙ no_page x rest))
    by (y ∷ ys) last s form end e = record {
      page = record { items = ys; last = last };
      form = record { items = form.1; last = end };
      is = sym (read.only y (flat_map closed (flat_map item_lines ys ++ page_line last ∷ []) ++ s) form.0 (ends ys last s) (e ∙ first_item y ys last s));
    }

-- the last line of a page stands at the front of the text, before s
record HasEnd (text s : List ℕ) : Type 0 where
  last : ShownEnd
  form : IsEndInForm last
  is : Leaves (page_line last ∷ []) text s

module _ (text left : List ℕ) (none : HasNone IsItemInForm item_lines left) (gives : GivesPages text left) where
  end_of : (page : ShownPage) (s : List ℕ) → IsPageInForm page → Leaves (page_lines page) text s → HasEnd left s
  end_of page s form is = let p = gives s (record { page = page; form = form; is = is }) in by p.page.items p.page.last s p.form.items p.form.last p.is
    where
      by : (items : List ShownItem) (last : ShownEnd) (s : List ℕ) → AllByRecursion IsItemInForm items → IsEndInForm last
          → left ≡ flat_map closed (flat_map item_lines items ++ page_line last ∷ []) ++ s → HasEnd left s
      by [] last s form end e = record { last = last; form = end; is = e }
      by (y ∷ ys) last s form end e = absurd (none.none y _ form.0 (e ∙ first_item y ys last s))

  pub cut_off : IsOneLine left → HasNone IsPageInForm page_lines text
  cut_off single = record { none = λ page s form is. let h = end_of page s form is in no_front left (page_line h.last) s [] single h.is }

  module _ (line rest : List ℕ) (single : IsOneLine line) (cut : left ≡ closed line ++ rest) where
    same_end : (page : ShownPage) (s : List ℕ) (form : IsPageInForm page) (is : Leaves (page_lines page) text s) → (line ≡ page_line (end_of page s form is).last) × (rest ≡ s)
    same_end page s form is = let h = end_of page s form is in cut_front left line rest (page_line h.last) s [] single (page_single h.last h.form) cut h.is

    pub no_end : ((e : ShownEnd) → IsEndInForm e → line ≡ page_line e → ⊥) → HasNone IsPageInForm page_lines text
    no_end none_such = record { none = λ page s form is. let h = end_of page s form is in none_such h.last h.form (same_end page s form is).0 }

    pub ended : (items : List ShownItem) (last : ShownEnd) → AllByRecursion IsItemInForm items → text ≡ flat_map closed (flat_map item_lines items) ++ left
        → IsEndInForm last × (line ≡ page_line last) → IsRead IsPageInForm page_lines Anything text (record { items = items; last = last }) rest
    ended items last form read found = record {
      form = record { items = form; last = found.0 };
      is =
          read ∙ ap (λ (t : List ℕ). flat_map closed (flat_map item_lines items) ++ t) (cut ∙ ap (λ (l : List ℕ). closed l ++ rest) found.1 ∙ one_line (page_line last) rest)
          ∙ sym (joined (flat_map item_lines items) (page_line last ∷ []) rest);
      only = λ page s form' ends is. sym (same_end page s form' is).1;
    }

-- ---- what is left is shorter

pub shorter : (text rest : List ℕ) (x : ShownItem) → Leaves (item_lines x) text rest → length rest < length text
shorter text rest x is =
    let sizes : length text ≡ length (head_of x ++ 10 ∷ []) + (length (flat_map closed (body_of x)) + length rest) =
    ap length (is ∙ item_is x rest ∙ append_assoc (closed (head_of x)) (flat_map closed (body_of x)) rest)
    ∙ length-append (closed (head_of x)) (flat_map closed (body_of x) ++ rest) ∙ ap (λ (n : ℕ). length (closed (head_of x)) + n) (length-append (flat_map closed (body_of x)) rest) in
    omega (arith, sizes, length-append (head_of x) (10 ∷ []))

pub one_item_more : (text left rest : List ℕ) (xs : List ShownItem) (x : ShownItem) → text ≡ flat_map closed (flat_map item_lines xs) ++ left → Leaves (item_lines x) left rest
    → text ≡ flat_map closed (flat_map item_lines (xs ++ x ∷ [])) ++ rest
one_item_more text left rest xs x read is =
    read ∙ ap (λ (t : List ℕ). flat_map closed (flat_map item_lines xs) ++ t) is ∙ sym (joined (flat_map item_lines xs) (item_lines x) rest)
    ∙ ap (λ (ls : List (List ℕ)). flat_map closed ls ++ rest) (sym (flat_map-append item_lines xs (x ∷ []) ∙ ap (λ (ls : List (List ℕ)). flat_map item_lines xs ++ ls) (append-nil (item_lines x))))
