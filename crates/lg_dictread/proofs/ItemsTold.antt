-- What the items of an entry are told to define, one after another.
use Rattle.std.proofs.Common.{◌≡◌, ℕ, Option, None, Some, List, [], ◌∷◌, ◌++◌, refl, sym, ap, subst, ◌∙◌, append_assoc}
use Rattle.std.proofs.Common.{◌⊎◌, inl, inr, Bor, Iter}
use Rattle.std.proofs.lemmas.List.{append-nil}
use Rattle.std.proofs.lemmas.Slice.Zip.{Zip-more, either_empty_from_Zip}
use Rattle.std.specs.declared.iter.Zip.{Zip}
use Rattle.std.specs.Iterator.Adapters.{zip_first, zip_second, zip_steps}
use Rattle.std.specs.List.{zip}
use Rattle.std.specs.Slice.Iter.{iter_rest, iter_steps}
use Rattle.lg_base.specs.Contents.{Contents}
use Rattle.lg_base.specs.Files.{AsksWithin}
use Rattle.lg_gram.specs.declared.entry.Item.{Item}
use Rattle.lg_gram.specs.declared.entry.ItemKind.{ItemKind}
use Rattle.lg_gram.specs.declared.entry.ItemKind.TheVariants as kinds
use Rattle.lg_dictread.specs.declared.dict_error.DictError.{DictError}
use Rattle.lg_dictread.specs.Definitions.{Lines, AreNew, Defined, none_defined, both, Given, gives, fails, KindGives, ItemsAnswer, define, refuse_items, with_defined, ItemsGive, no_item, defines, twice, unread}
use Rattle.lg_dictread.specs.Findings.{Asked, names_of, AreKnown}
use Rattle.lg_dictread.specs.Telling.{Answers, AsksFront, ErrorTells}
use Rattle.lg_dictread.specs.Defining.{names_in, AddsNames, Listed, none_listed, AddsDefined, ItemIs, ItemsAre, asked_by}
use Rattle.lg_dictread.proofs.Found.{names_then as found_then, grown_then, known_none, known_then, known_in, or_none, front_of}
use Rattle.lg_dictread.proofs.ErrorMaps.{error_map}
use Rattle.lg_dictread.proofs.ItemAnswers.{Laws, some_items}
use Rattle.lg_dictread.proofs.ItemTold.{adds_none}

-- ---- additions one after another

pub new_then : (old a b : Lines) → AreNew old a → AreNew (old ++ a) b → AreNew old (a ++ b)
new_then old [] b h k = subst (λ (l : Lines). AreNew l b) (append-nil old) k
new_then old (d ∷ a) b h k = (h.0, new_then (old ++ d ∷ []) a b h.1 (subst (λ (l : Lines). AreNew l b) (sym (append_assoc old (d ∷ []) a)) k))

pub names_then : (a b : Lines) → names_in (a ++ b) ≡ names_in a ++ names_in b
names_then [] b = refl
names_then (d ∷ a) b = ap (λ (l : List (List ℕ)). d.0 ∷ l) (names_then a b)

adds_then : (old mid now : Lines) (names more most : List (List ℕ)) (a b : Lines) → AddsNames old mid names more a → AddsNames mid now more most b → AddsNames old now names most (a ++ b)
adds_then old mid now names more most a b h k = record {
  are_new = new_then old a b h.are_new (subst (λ (l : Lines). AreNew l b) h.table k.are_new);
  table = k.table ∙ ap (λ (l : Lines). l ++ b) h.table ∙ append_assoc old a b;
  listed = k.listed ∙ ap (λ (l : List (List ℕ)). l ++ names_in b) h.listed ∙ append_assoc names (names_in a) (names_in b) ∙ ap (λ (l : List (List ℕ)). names ++ l) (sym (names_then a b));
}

defined_then : (old mid now : Defined) (listed more most : Listed) (a b : Defined) → AddsDefined old mid listed more a → AddsDefined mid now more most b → AddsDefined old now listed most (both a b)
defined_then old mid now listed more most a b h k = record {
  words = adds_then old.words mid.words now.words listed.words more.words most.words a.words b.words h.words k.words;
  macros = adds_then old.macros mid.macros now.macros listed.macros more.macros most.macros a.macros b.macros h.macros k.macros;
}

pub now_is : (old now : Defined) (listed more : Listed) (d : Defined) → AddsDefined old now listed more d → now ≡ both old d
now_is old now listed more d h = λ i. record { words = h.words.table i; macros = h.macros.table i }

with_both : (a b : Defined) (answer : ItemsAnswer) → with_defined a (with_defined b answer) ≡ with_defined (both a b) answer
with_both a b (define d) = λ i. define (record { words = sym (append_assoc a.words b.words d.words) i; macros = sym (append_assoc a.macros b.macros d.macros) i })
with_both a b (refuse_items error) = refl

with_none : (d : Defined) → with_defined d (define none_defined) ≡ define d
with_none d = λ i. define (record { words = append-nil d.words i; macros = append-nil d.macros i })

-- ---- the items so far

-- what is defined and found so far, and what the answer of the items that are left makes of the answer of all
pub record SoFar (known : Option Contents) (asked now : List (List ℕ)) (old at : Defined) (listed : Listed) (all rest : List (Item × ℕ)) : Type 0 where
  pub new : Defined
  pub adds : AddsDefined old at none_listed listed new
  pub found : List Asked
  pub grown : now ≡ asked ++ names_of found
  pub known_so : AreKnown known found
  pub leads : (more : List Asked) (answer : ItemsAnswer) → ItemsGive at rest more answer → ItemsGive old all (found ++ more) (with_defined new answer)

with_nothing : (answer : ItemsAnswer) → with_defined none_defined answer ≡ answer
with_nothing (define d) = refl
with_nothing (refuse_items error) = refl

pub so_far_none : (known : Option Contents) (asked : List (List ℕ)) (old : Defined) (all : List (Item × ℕ)) → SoFar known asked asked old old none_listed all all
so_far_none known asked old all = record {
  new = none_defined;
  adds = record { words = adds_none old.words []; macros = adds_none old.macros [] };
  found = [];
  grown = sym (append-nil asked);
  known_so = known_none known;
  leads = λ more answer h. subst (ItemsGive old all more) (sym (with_nothing answer)) h;
}

-- an item asks for its word file
asked_here : (kind : ItemKind) (text : List ℕ) (here : List Asked) (given : Given) → KindGives kind text here given → names_of here ≡ asked_by kind text
asked_here kinds.Word text here given h = ap names_of h.0
asked_here kinds.Macro text here given h = ap names_of h.0
asked_here kinds.File text here given h = ap names_of h.1

first_asked : (at : Defined) (left : List (Item × ℕ)) (i : Item × ℕ) (asked : List Asked) (answer : ItemsAnswer) → ItemsGive at (i ∷ left) asked answer → (more : List (List ℕ)) × (names_of asked ≡ asked_by i.0.kind i.0.text ++ more)
first_asked at left i asked answer (defines e item line items given here more reply is new h) = (names_of more, found_then here more ∙ ap (λ (l : List (List ℕ)). l ++ names_of more) (asked_here item.kind item.text here (gives given) is))
first_asked at left i asked answer (twice e item line items given here error is again) = ([], asked_here item.kind item.text here (gives given) is ∙ sym (append-nil (asked_by item.kind item.text)))
first_asked at left i asked answer (unread e item line items here cause is) = ([], asked_here item.kind item.text here (fails cause) is ∙ sym (append-nil (asked_by item.kind item.text)))

module _ (known : Option Contents) (asked now : List (List ℕ)) (old at : Defined) (listed : Listed) (all rest : List (Item × ℕ)) (so_far : SoFar known asked now old at listed all rest) where
  -- one item more
  pub so_far_more : (next : List (List ℕ)) (to : Defined) (more : Listed) (left : List (Item × ℕ)) (i : Item × ℕ) (d : Defined) → rest ≡ i ∷ left → AddsDefined at to listed more d → Answers known (ItemIs at i) now next (define d)
      → SoFar known asked next old to more all left
  so_far_more next to more left i d split adds answers = record {
    new = both so_far.new d;
    adds = defined_then old at to none_listed listed more so_far.new d so_far.adds adds;
    found = so_far.found ++ answers.asked;
    grown = grown_then asked now next so_far.found answers.asked so_far.grown answers.names;
    known_so = known_then known so_far.found answers.asked so_far.known_so answers.found;
    leads = λ further answer h.
        let here = answers.answers left further answer (subst (λ (x : Defined). ItemsGive x left further answer) (now_is at to listed more d adds) h) in
        let whole = so_far.leads (answers.asked ++ further) (with_defined d answer) (subst (λ (l : List (Item × ℕ)). ItemsGive at l (answers.asked ++ further) (with_defined d answer)) (sym split) here) in
        subst (λ (l : List Asked). ItemsGive old all l (with_defined (both so_far.new d) answer)) (sym (append_assoc so_far.found answers.asked further))
        (subst (ItemsGive old all (so_far.found ++ (answers.asked ++ further))) (with_both so_far.new d answer) whole);
  }

  -- no item is left
  pub so_far_all : rest ≡ [] → (d : Defined) × AddsDefined old at none_listed listed d × Answers known (ItemsAre old all) asked now (define d)
  so_far_all ends =
      let whole = so_far.leads [] (define none_defined) (subst (λ (l : List (Item × ℕ)). ItemsGive at l [] (define none_defined)) (sym ends) (no_item at)) in (
        so_far.new,
        so_far.adds,
        record {
          asked = so_far.found;
          names = so_far.grown;
          found = so_far.known_so;
          answers = subst (λ (l : List Asked). ItemsGive old all l (define so_far.new)) (append-nil so_far.found) (subst (ItemsGive old all (so_far.found ++ [])) (with_none so_far.new) whole);
        },
      )

  -- the call ends at an item
  front_here : (laws : Laws) (next : List (List ℕ)) (left : List (Item × ℕ)) (i : Item × ℕ) → rest ≡ i ∷ left → AsksWithin now next (asked_by i.0.kind i.0.text) → AsksFront known (ItemsAre old all) asked next
  front_here laws next left i split within =
      let here = some_items laws (or_none known) (i ∷ left) at in
      let first = first_asked at left i here.0 here.1 here.3 in
      let cut = front_of here.0 within.0 (within.1 ++ first.0) (first.1 ∙ ap (λ (l : List (List ℕ)). l ++ first.0) within.2 ∙ append_assoc within.0 within.1 first.0) in
      let parts : so_far.found ++ here.0 ≡ (so_far.found ++ cut.0) ++ cut.1 = ap (λ (l : List Asked). so_far.found ++ l) cut.2 ∙ sym (append_assoc so_far.found cut.0 cut.1) in
      record {
        front = so_far.found ++ cut.0;
        rest = cut.1;
        answer = with_defined so_far.new here.1;
        names = grown_then asked now next so_far.found cut.0 so_far.grown (within.3 ∙ ap (λ (l : List (List ℕ)). now ++ l) (sym cut.3));
        found = subst (AreKnown known) parts (known_then known so_far.found here.0 so_far.known_so (known_in known here.0 here.2));
        answers = subst (λ (l : List Asked). ItemsGive old all l (with_defined so_far.new here.1)) parts
            (so_far.leads here.0 here.1 (subst (λ (l : List (Item × ℕ)). ItemsGive at l here.0 here.1) (sym split) here.3));
      }

  -- the error of an item is that of all
  pub so_far_error : (laws : Laws) (next : List (List ℕ)) (left : List (Item × ℕ)) (i : Item × ℕ) (error : DictError) → rest ≡ i ∷ left
      → ErrorTells (AsksWithin now next (asked_by i.0.kind i.0.text)) known (ItemIs at i) refuse_items now next error
      → ErrorTells (AsksFront known (ItemsAre old all) asked next) known (ItemsAre old all) refuse_items asked next error
  so_far_error laws next left i error split tells =
      error_map (AsksWithin now next (asked_by i.0.kind i.0.text)) (AsksFront known (ItemsAre old all) asked next) known (ItemIs at i) (ItemsAre old all) refuse_items refuse_items asked now next so_far.found
      so_far.known_so so_far.grown (front_here laws next left i split)
      (λ further e on. so_far.leads further (refuse_items e) (subst (λ (l : List (Item × ℕ)). ItemsGive at l further (refuse_items e)) (sym split) (on left))) error tells

-- ---- a loop over items and their lines

zip_ended : {A B : Type 0} (xs : List A) (ys : List B) → (xs ≡ []) ⊎ (ys ≡ []) → zip xs ys ≡ []
zip_ended xs ys (inl e) = ap (λ (l : List _). zip l ys) e
zip_ended [] ys (inr e) = refl
zip_ended (x ∷ xs) ys (inr e) = ap (zip (x ∷ xs)) e

pub no_pair : (s t : Zip (Iter Item) (Iter ℕ)) (r : Option (Bor Item × Bor ℕ)) → r ≡ None → zip_steps iter_steps iter_steps s r t → zip (iter_rest (zip_first s)) (iter_rest (zip_second s)) ≡ []
no_pair s t r e steps = zip_ended (iter_rest (zip_first s)) (iter_rest (zip_second s)) (either_empty_from_Zip s t r e steps)

pub one_pair : (s t : Zip (Iter Item) (Iter ℕ)) (r : Option (Bor Item × Bor ℕ)) (p : Bor Item × Bor ℕ) → r ≡ Some p → zip_steps iter_steps iter_steps s r t
    → zip (iter_rest (zip_first s)) (iter_rest (zip_second s)) ≡ (p.0.now, p.1.now) ∷ zip (iter_rest (zip_first t)) (iter_rest (zip_second t))
one_pair s t r p e steps = let more = Zip-more s t r p e steps in (λ i. zip (more.0 i) (more.1 i))

pub one_first : (s t : Zip (Iter Item) (Iter ℕ)) (r : Option (Bor Item × Bor ℕ)) (p : Bor Item × Bor ℕ) → r ≡ Some p → zip_steps iter_steps iter_steps s r t → iter_rest (zip_first s) ≡ p.0.now ∷ iter_rest (zip_first t)
one_first s t r p e steps = (Zip-more s t r p e steps).0
