-- The text of the sums, and how many they are.
use Rattle.std.proofs.Common.{◌≡◌, ◌∙◌, ℕ, ◌*◌, ◌^◌, ◌≤◌, ◌<◌, List, [], ◌∷◌, ◌++◌, length, map, sym, ap, append-nil, append_assoc, arith}
use Rattle.std.specs.Prelude.{decimal, codes}
use Rattle.std.specs.List.{AllByRecursion, flat_map, join_with_byte, sum_by}
use Rattle.std.proofs.lemmas.List.Folds.{flat_map-map}
use Rattle.std.proofs.lemmas.List.Sums.{sum_by-cons}
use Rattle.lg_gram.specs.Linkages.{Linkage, IsLinkage, link_length, total_length}
use Rattle.lg_gram.specs.declared.linkage.Link.{Link}
use Rattle.lg_text.specs.Texts.{line_of}
use Rattle.lg_gram.specs.declared.reply.Reply.{Reply}
use Rattle.lg_run.specs.MadeRuns.{number_line, sums_text}
use Rattle.lg_run.specs.Sums.{EndsWithin, AreSums, sum_lines}
use Rattle.lg_run.specs.declared.made.Sums.{Sums}
use Rattle.lg_run.proofs.Numbers.{from_all}

-- joined parts are the first one, and each other one behind the byte
parts_joined : (c : ℕ) (first : List ℕ) (parts : List (List ℕ)) → join_with_byte c (first ∷ parts) ≡ first ++ flat_map (λ (part : List ℕ). c ∷ part) parts
parts_joined c first [] = sym (append-nil first)
parts_joined c first (part ∷ parts) = ap (λ (rest : List ℕ). first ++ c ∷ rest) (parts_joined c part parts)

-- a line is its word, the numbers behind it, and a line feed
pub numbers_line : (word numbers : List ℕ) → line_of (word ∷ map decimal numbers) ≡ word ++ (flat_map (λ (n : ℕ). 32 ∷ decimal n) numbers ++ 10 ∷ [])
numbers_line word numbers =
    ap (λ (line : List ℕ). line ++ 10 ∷ []) (parts_joined 32 word (map decimal numbers) ∙ ap (λ (l : List ℕ). word ++ l) (flat_map-map (λ (part : List ℕ). 32 ∷ part) decimal numbers))
    ∙ append_assoc word (flat_map (λ (n : ℕ). 32 ∷ decimal n) numbers) (10 ∷ [])

-- links that end among few positions are short
short_links : (most : ℕ) (links : List Link) → AllByRecursion (λ (l : Link). l.right < most) links → most ≤ 252 → sum_by link_length links ≤ 252 * length links
short_links most [] h few = omega arith
short_links most (l ∷ links) h few = let rest = short_links most links h.1 few in let one = h.0 in omega (arith, rest, sum_by-cons link_length l links, one, few)

pub short_linkage : (g : Linkage) → EndsWithin g → IsLinkage g → total_length g ≤ 2 ^ 40
short_linkage g ends is = let le = short_links (length g.chosen) g.links (from_all (λ (l : Link). l.right < length g.chosen) g.links ends) is.few in omega (arith, le, is.few_links)

-- the lines of the sums over these answers
pub text_is : (seed words sentences : ℕ) (sums : Sums) (a b c : List ℕ) (replies : List Reply) → AreSums replies sums
    → a ≡ line_of (codes "gen" ∷ decimal seed ∷ decimal words ∷ decimal sentences ∷ []) → b ≡ a ++ number_line (codes "sentences") sentences → c ≡ b ++ sum_lines sums → c ≡ sums_text seed words sentences replies
text_is seed words sentences sums a b c replies h e f g =
    let first = line_of (codes "gen" ∷ decimal seed ∷ decimal words ∷ decimal sentences ∷ []) in
    let second = number_line (codes "sentences") sentences in
    g ∙ ap (λ (l : List ℕ). l ++ sum_lines sums) (f ∙ ap (λ (l : List ℕ). l ++ second) e) ∙ append_assoc first second (sum_lines sums)
    ∙ (λ i. first ++ (second ++ (number_line (codes "examined") (h.looked i) ++ (number_line (codes "shown") (h.pass i) ++ (number_line (codes "unused") (h.free i) ++ number_line (codes "length") (h.long i))))))
