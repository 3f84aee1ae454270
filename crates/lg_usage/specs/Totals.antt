-- How often dictionary words and labels are used.
use Rattle.std.specs.Prelude.{◌≡◌, ◌≢◌, ℕ, ◌+◌, ◌≤◌, ◌^◌, List, [], ◌∷◌, ◌++◌, map, codes, decimal, Option, Some, None}
use Rattle.std.specs.List.{flat_map, count_by}
use Rattle.std.specs.Option.{unwrap_or}
use Rattle.std.specs.FinMap.{FinMap, empty, get, entries}
use Rattle.std.specs.Ordering.{nat_cmp}
use Rattle.std.specs.Str.{bytes_eq}
use Rattle.std.specs.Cmp.Lexicographic.{slice_cmp}
use Rattle.lg_gram.specs.Labels.{label_at}
use Rattle.lg_gram.specs.Linkages.{Linkage}
use Rattle.lg_gram.specs.Names.{Name}
use Rattle.lg_gram.specs.Rules.{Good}
use Rattle.lg_gram.specs.declared.disjunct.Disjunct.{Disjunct}
use Rattle.lg_gram.specs.declared.linkage.Link.{Link}

-- a finite map from texts, in the order of their bytes, to numbers
abbrev pub Tally : Type 0
Tally = FinMap (slice_cmp nat_cmp) ℕ

-- What contracts see of usage: how often each dictionary word, and how often each label, is used.
pub record Totals : Type 0 where
  pub words : Tally
  pub labels : Tally

abbrev pub no_totals : Totals
no_totals = record { words = empty; labels = empty }

-- how often a tally counts a text; 0 if the text is not there
abbrev pub count_in : Tally → List ℕ → ℕ
count_in tally text = unwrap_or (get tally text) 0

-- each number of the tally is above 0: it has only texts that were counted
abbrev pub HasNoZero : Tally → Type 0
HasNoZero tally = (text : List ℕ) → get tally text ≢ Some 0

pub record HaveNoZero (t : Totals) : Type 0 where
  pub words : HasNoZero t.words
  pub labels : HasNoZero t.labels

-- how often a text stands among texts
abbrev pub times : List ℕ → List (List ℕ) → ℕ
times text texts = count_by (bytes_eq text) texts

abbrev pub word_of : Option Disjunct → List (List ℕ)
word_of None = []
word_of (Some d) = d.word ∷ []

-- the dictionary word of each linked position, in order
abbrev pub words_used : Linkage → List (List ℕ)
words_used g = flat_map word_of g.chosen

abbrev pub letters_of : Option Name → List ℕ
letters_of None = []
letters_of (Some n) = n.caps ++ n.subs

-- the text of a link's label
abbrev pub label_text : Linkage → Link → List ℕ
label_text g l = letters_of (label_at g l)

-- the label of each link, in order; a good linkage has a label at each link
abbrev pub labels_used : Linkage → List (List ℕ)
labels_used g = map (label_text g) g.links

-- a good linkage of some problem
pub record IsGood (g : Linkage) : Type 0 where
  pub positions : List (List Disjunct)
  pub good : Good positions g

-- The tally counts exactly these texts, each as often as it stands among them.
pub record IsTally (texts : List (List ℕ)) (tally : Tally) : Type 0 where
  pub counts : (text : List ℕ) → count_in tally text ≡ times text texts
  pub only : HasNoZero tally

-- the totals of some linkages
pub record AreTotals (gs : List Linkage) (t : Totals) : Type 0 where
  pub words : IsTally (flat_map words_used gs) t.words
  pub labels : IsTally (flat_map labels_used gs) t.labels

-- The new tally has these texts beside the old one.
pub record AddsTexts (old : Tally) (texts : List (List ℕ)) (new : Tally) : Type 0 where
  pub counts : (text : List ℕ) → count_in new text ≡ count_in old text + times text texts
  pub only : HasNoZero new

-- the new totals have one linkage more
pub record Adds (old : Totals) (g : Linkage) (new : Totals) : Type 0 where
  pub words : AddsTexts old.words (words_used g) new.words
  pub labels : AddsTexts old.labels (labels_used g) new.labels

-- The sum has each text as often as both tallies together.
pub record IsSumOfTallies (a b sum : Tally) : Type 0 where
  pub counts : (text : List ℕ) → count_in sum text ≡ count_in a text + count_in b text
  pub only : HasNoZero sum

-- the sum of two totals
pub record IsSum (a b sum : Totals) : Type 0 where
  pub words : IsSumOfTallies a.words b.words sum.words
  pub labels : IsSumOfTallies a.labels b.labels sum.labels

-- no number of a sum may pass this one
abbrev pub GREATEST : ℕ
GREATEST = 2 ^ 63

-- there is room for one linkage more
pub record HasRoomFor (t : Totals) (g : Linkage) : Type 0 where
  pub words : (text : List ℕ) → count_in t.words text + times text (words_used g) ≤ GREATEST
  pub labels : (text : List ℕ) → count_in t.labels text + times text (labels_used g) ≤ GREATEST

-- no number of the sum of two totals is too great
pub record MayBeAdded (a b : Totals) : Type 0 where
  pub words : (text : List ℕ) → count_in a.words text + count_in b.words text ≤ GREATEST
  pub labels : (text : List ℕ) → count_in a.labels text + count_in b.labels text ≤ GREATEST

-- a line of usage: `usage`, what is counted, the text, and its number
abbrev pub usage_line : List ℕ → List ℕ × ℕ → List ℕ
usage_line kind entry = codes "usage " ++ (kind ++ (32 ∷ (entry.0 ++ (32 ∷ (decimal entry.1 ++ 10 ∷ [])))))

-- A line `usage word WORD N` for each word by its bytes, and then a line `usage label LABEL N` for each label.
abbrev pub usage_text : Totals → List ℕ
usage_text t = flat_map (usage_line (codes "word")) (entries t.words) ++ flat_map (usage_line (codes "label")) (entries t.labels)
