-- At most one: a script stands for one outcome.
use Rattle.std.proofs.Common.{◌≡◌, ◌≢◌, ℕ, true, false, List, [], ◌∷◌, ◌++◌, refl, sym, ap, subst, ◌∙◌}
use Rattle.std.proofs.lemmas.List.{append_cancel_right}
use Rattle.lg_lex.specs.declared.run.Separators.TheVariants.{Blanks}
use Rattle.lg_lex.specs.Classes.{percent_sign}
use Rattle.lg_lex.specs.Runs.{is_separator, AreSeparators, AreInner}
use Rattle.lg_script.specs.Lines.{Says, returned, plain, carriage_return, Trims, IsPassedOver, blank, comment, IsCommand}
use Rattle.lg_script.specs.Commands.{lists, IsNumber, IsListing}
use Rattle.lg_script.specs.Parts.{BeginsInner, EndsInner}
use Rattle.lg_script.proofs.Cuts.{same_run, same_gap}
use Rattle.lg_script.proofs.Listings.{Cut, listing_cut, digits_inner, gap_ends, inner_begins}

-- ---- a line

pub one_body : (line a b : List ℕ) → Says line a → Says line b → a ≡ b
one_body line a b (returned c h) (returned d k) = append_cancel_right c d (carriage_return ∷ []) (sym h ∙ k)
one_body line a b (returned c h) (plain other) = absurd (other c h)
one_body line a b (plain other) (returned d k) = absurd (other d k)
one_body line a b (plain h) (plain k) = refl

clash : (b : ℕ) → is_separator Blanks b ≡ true → is_separator Blanks b ≡ false → ⊥
clash b h k = let e : true ≡ false = sym h ∙ k in cc

-- blanks that do not end in a blank are none
no_back : (v : List ℕ) → AreSeparators Blanks v → EndsInner v → v ≡ []
no_back [] are ends = refl
no_back (c ∷ []) are ends = absurd (clash c are.0 (ends c [] refl))
no_back (c ∷ d ∷ v) are ends = let none : d ∷ v ≡ [] = no_back (d ∷ v) are.1 (λ b rest e. ends b (c ∷ rest) (ap (λ (x : List ℕ). c ∷ x) e)) in absurd cc

front_blanks : (v w : List ℕ) → AreSeparators Blanks (v ++ w) → AreSeparators Blanks v
front_blanks [] w are = tt
front_blanks (c ∷ v) w are = (are.0, front_blanks v w are.1)

back_blanks : (v w : List ℕ) → AreSeparators Blanks (v ++ w) → AreSeparators Blanks w
back_blanks [] w are = are
back_blanks (c ∷ v) w are = back_blanks v w are.1

all_blanks : (v w : List ℕ) → AreSeparators Blanks v → AreSeparators Blanks w → AreSeparators Blanks (v ++ w)
all_blanks [] w h k = k
all_blanks (c ∷ v) w h k = (h.0, all_blanks v w h.1 k)

less : (c : ℕ) (v : List ℕ) → EndsInner (c ∷ v) → EndsInner v
less c v ends = λ b rest e. ends b (c ∷ rest) (ap (λ (x : List ℕ). c ∷ x) e)

same_back : (v w x y : List ℕ) → EndsInner v → EndsInner w → AreSeparators Blanks x → AreSeparators Blanks y → v ++ x ≡ w ++ y → v ≡ w
same_back [] w x y h k a b e = sym (no_back w (front_blanks w y (subst (AreSeparators Blanks) e a)) k)
same_back (c ∷ v) [] x y h k a b e = no_back (c ∷ v) (front_blanks (c ∷ v) x (subst (AreSeparators Blanks) (sym e) b)) h
same_back (c ∷ v) (d ∷ w) x y h k a b e =
    let tails : v ++ x ≡ w ++ y = cc in
    let same : c ≡ d = cc in
    let rest = same_back v w x y (less c v h) (less d w k) a b tails in
    (λ i. same i ∷ rest i)

begins_still : (v w : List ℕ) → BeginsInner v → v ≢ [] → BeginsInner (v ++ w)
begins_still [] w h some = absurd (some refl)
begins_still (c ∷ v) w h some = λ b rest e. let same : c ≡ b = cc in subst (λ (x : ℕ). is_separator Blanks x ≡ false) same (h c v refl)

-- what stands between blanks, where all is blanks
none_between : (bytes v : List ℕ) → AreSeparators Blanks bytes → Trims bytes v → v ≡ []
none_between bytes v are t = no_back v (front_blanks v t.back (back_blanks t.front (v ++ t.back) (subst (AreSeparators Blanks) t.split are))) t.trimmed.back

blank_trims : (bytes : List ℕ) → Trims bytes [] → AreSeparators Blanks bytes
blank_trims bytes t = subst (AreSeparators Blanks) (sym t.split) (all_blanks t.front t.back t.blanks.0 t.blanks.1)

pub one_trim : (bytes v w : List ℕ) → Trims bytes v → Trims bytes w → v ≡ w
one_trim bytes [] w t u = sym (none_between bytes w (blank_trims bytes t) u)
one_trim bytes (c ∷ v) [] t u = none_between bytes (c ∷ v) (blank_trims bytes u) t
one_trim bytes (c ∷ v) (d ∷ w) t u =
    let fronts = same_gap t.front u.front ((c ∷ v) ++ t.back) ((d ∷ w) ++ u.back) t.blanks.0 u.blanks.0
    (begins_still (c ∷ v) t.back t.trimmed.front (λ e. cc)) (begins_still (d ∷ w) u.back u.trimmed.front (λ e. cc)) (sym t.split ∙ u.split) in
    same_back (c ∷ v) (d ∷ w) t.back u.back t.trimmed.back u.trimmed.back t.blanks.1 u.blanks.1 fronts.1

pub one_command : (body word v rest w : List ℕ) → IsCommand body word rest → IsCommand body v w → (word ≡ v) × (rest ≡ w)
one_command body word v rest w h k =
    let fronts = same_gap h.front k.front (word ++ h.tail) (v ++ k.tail) h.blanks k.blanks (inner_begins word h.tail h.some h.inner) (inner_begins v k.tail k.some k.inner) (sym h.split ∙ k.split) in
    let words = same_run word v h.tail k.tail h.inner k.inner h.ends k.ends fronts.1 in
    (words.0, one_trim k.tail rest w (subst (λ (x : List ℕ). Trims x rest) words.1 h.trims) k.trims)

percent_begins : (rest : List ℕ) → BeginsInner (percent_sign ∷ rest)
percent_begins rest = λ b r e. let same : percent_sign ≡ b = cc in subst (λ (x : ℕ). is_separator Blanks x ≡ false) same refl

first_percent : (word tail rest : List ℕ) → word ≢ [] → percent_sign ∷ rest ≡ word ++ tail → (b : List ℕ) × (word ≡ percent_sign ∷ b)
first_percent [] tail rest some e = absurd (some refl)
first_percent (c ∷ word) tail rest some e = let same : c ≡ percent_sign = cc in (word, ap (λ (x : ℕ). x ∷ word) same)

some_blank : (word : List ℕ) → word ≢ [] → AreInner Blanks word → AreSeparators Blanks word → ⊥
some_blank [] some inner are = some refl
some_blank (c ∷ word) some inner are = clash c are.0 inner.0

pub passed_apart : (body word rest : List ℕ) → IsPassedOver body → IsCommand body word rest → ⊥
passed_apart body word rest (blank are) k = some_blank word k.some k.inner (front_blanks word k.tail (back_blanks k.front (word ++ k.tail) (subst (AreSeparators Blanks) k.split are)))
passed_apart body word rest (comment front others are split) k =
    let fronts = same_gap front k.front (percent_sign ∷ others) (word ++ k.tail) are k.blanks (percent_begins others) (inner_begins word k.tail k.some k.inner) (sym split ∙ k.split) in
    let found = first_percent word k.tail others k.some fronts.1 in
    k.no_comment found.0 found.1

-- ---- a listing

one_number : (ds : List ℕ) (n m : ℕ) → IsNumber ds n → IsNumber ds m → n ≡ m
one_number ds n m h k = h.value ∙ sym k.value

pub cut_of : (rest : List ℕ) (from want : ℕ) (s : List ℕ) (h : IsListing rest from want s) → Cut rest h.first (h.gap ++ (h.second ++ (h.more ++ s))) (h.second ++ (h.more ++ s)) h.second (h.more ++ s) s
cut_of rest from want s h = record {
  split = h.split;
  first_inner = digits_inner h.first h.first_is.all_digits;
  first_ends = gap_ends h.gap (h.second ++ (h.more ++ s)) h.apart.0 h.apart.1;
  gap = (h.gap, refl, h.apart.1);
  left_begins = inner_begins h.second (h.more ++ s) h.second_is.some (digits_inner h.second h.second_is.all_digits);
  left_split = refl;
  second_inner = digits_inner h.second h.second_is.all_digits;
  second_ends = h.ends;
  more = (h.more, refl, h.apart.2);
  sentence_begins = h.trimmed.front;
}

pub one_listing : (rest : List ℕ) (from want : ℕ) (s : List ℕ) (f w : ℕ) (t : List ℕ) → IsListing rest from want s → IsListing rest f w t → lists from want s ≡ lists f w t
one_listing rest from want s f w t h k =
    let parts = listing_cut rest h.first (h.gap ++ (h.second ++ (h.more ++ s))) (h.second ++ (h.more ++ s)) h.second (h.more ++ s) s (cut_of rest from want s h) f w t k in
    (λ i. lists (one_number h.first from f h.first_is parts.0 i) (one_number h.second want w h.second_is parts.1 i) (sym parts.2 i))
