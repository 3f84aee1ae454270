-- Words that were narrowed, one after another and time after time.
use Rattle.std.proofs.Common.{◌≡◌, inl, inr, refl, sym, ◌∙◌, subst, List, [], ◌∷◌, ◌++◌, Contains}
use Rattle.lg_base.proofs.Elements.{contains_cases, contains_none, contains_here, contains_later}
use Rattle.lg_eprune.specs.Live.{WordTree}
use Rattle.lg_gram.specs.Measures.{Choice, choices_of}
use Rattle.lg_reach.specs.Reach.{Narrows, nothing, kept, dropped}

-- what is left of a first word that was kept, and of the words behind it
data Goes (Used : Choice → Type 0) (old : WordTree) (olds ends : List WordTree) : Type 0 where
  stays : (new : WordTree) (news : List WordTree) → ends ≡ new ∷ news → new.word ≡ old.word → ((c : Choice) → Contains (choices_of new.tree) c → Contains (choices_of old.tree) c)
      → ((c : Choice) → Contains (choices_of old.tree) c → Used c → Contains (choices_of new.tree) c) → Narrows Used olds news → Goes Used old olds ends
  goes : ((c : Choice) → Contains (choices_of old.tree) c → Used c → ⊥) → Narrows Used olds ends → Goes Used old olds ends

goes_on : (Used : Choice → Type 0) (old : WordTree) (olds ends : List WordTree) → Narrows Used (old ∷ olds) ends → Goes Used old olds ends
goes_on Used _ _ _ (kept old new olds news named less more others) = stays new news refl named less more others
goes_on Used _ _ _ (dropped old olds news none others) = goes none others

kept_then : (Used : Choice → Type 0) (old new : WordTree) (olds news ends : List WordTree) → new.word ≡ old.word
    → ((c : Choice) → Contains (choices_of new.tree) c → Contains (choices_of old.tree) c) → ((c : Choice) → Contains (choices_of old.tree) c → Used c → Contains (choices_of new.tree) c)
    → ((later : List WordTree) → Narrows Used news later → Narrows Used olds later) → Goes Used new news ends → Narrows Used (old ∷ olds) ends
kept_then Used old new olds news ends named less more all (stays next nexts is renamed fewer keeps others) =
    subst (λ x. Narrows Used (old ∷ olds) x) (sym is)
    (kept old next olds nexts (renamed ∙ named) (λ c m. less c (fewer c m)) (λ c m used. keeps c (more c m used) used) (all nexts others))
kept_then Used old new olds news ends named less more all (goes none others) = dropped old olds ends (λ c m used. none c (more c m used) used) (all ends others)

pub narrows_then : (Used : Choice → Type 0) (firsts nexts lasts : List WordTree) → Narrows Used firsts nexts → Narrows Used nexts lasts → Narrows Used firsts lasts
narrows_then Used _ _ lasts nothing k = k
narrows_then Used _ _ lasts (kept old new olds news named less more others) k =
    kept_then Used old new olds news lasts named less more (λ later h. narrows_then Used olds news later others h) (goes_on Used new news lasts k)
narrows_then Used _ _ lasts (dropped old olds news none others) k = dropped old olds lasts none (narrows_then Used olds news lasts others k)

pub narrows_itself : (Used : Choice → Type 0) (ws : List WordTree) → Narrows Used ws ws
narrows_itself Used [] = nothing
narrows_itself Used (w ∷ ws) = kept w w ws ws refl (λ c m. m) (λ c m used. m) (narrows_itself Used ws)

pub narrows_append : (Used : Choice → Type 0) (olds news more_olds more_news : List WordTree) → Narrows Used olds news → Narrows Used more_olds more_news
    → Narrows Used (olds ++ more_olds) (news ++ more_news)
narrows_append Used _ _ xs ys nothing k = k
narrows_append Used _ _ xs ys (kept old new olds news named less more others) k = kept old new (olds ++ xs) (news ++ ys) named less more (narrows_append Used olds news xs ys others k)
narrows_append Used _ _ xs ys (dropped old olds news none others) k = dropped old (olds ++ xs) (news ++ ys) none (narrows_append Used olds news xs ys others k)

-- where a used choice is now
pub narrows_finds : (Used : Choice → Type 0) (olds news : List WordTree) → Narrows Used olds news → (w : WordTree) (c : Choice) → Contains olds w → Contains (choices_of w.tree) c → Used c
    → (v : WordTree) × Contains news v × Contains (choices_of v.tree) c
narrows_finds Used _ _ nothing w c m h used = absurd (contains_none w m)
narrows_finds Used _ _ (kept old new olds news named less more others) w c m h used =
    elim (contains_cases old olds w m) [
      | inl same ↦ (new, contains_here new news, more c (subst (λ x. Contains (choices_of x.tree) c) (sym same) h) used)
      | inr later ↦ (let (v, is, has) = narrows_finds Used olds news others w c later h used in (v, contains_later new news v is, has))
    ]
narrows_finds Used _ _ (dropped old olds news none others) w c m h used =
    elim (contains_cases old olds w m) [
      | inl same ↦ absurd (none c (subst (λ x. Contains (choices_of x.tree) c) (sym same) h) used)
      | inr later ↦ narrows_finds Used olds news others w c later h used
    ]
