-- A sentence has at most one list of tokens.
use Rattle.std.proofs.Common.{◌≡◌, ◌⊎◌, inl, inr, ◌↔◌, ◌+◌, ℕ, List, [], ◌∷◌, ◌++◌, Bool, true, false, length, All, Contains, refl, sym, ap, subst, ◌∙◌}
use Rattle.std.specs.declared.cmp.Ordering.{Ordering}
use Rattle.std.specs.declared.cmp.Ordering.TheVariants.{Less, Greater}
use Rattle.std.specs.Ordering.{nat_cmp, ordering_reverse}
use Rattle.std.specs.Cmp.{IsTotalOrder}
use Rattle.std.specs.Cmp.Lexicographic.{slice_cmp, nat_list_cmp_total}
use Rattle.std.specs.List.Sorted.{IsStrictlySortedBy}
use Rattle.std.proofs.lemmas.List.{same_from_push, append_cancel_right}
use Rattle.std.proofs.lemmas.List.Elements.{All-from_recursion, All-contains}
use Rattle.lg_gram.specs.declared.listing.Token.{Token}
use Rattle.lg_lex.specs.declared.run.Separators.TheVariants.{Blanks}
use Rattle.lg_lex.specs.Runs.{AreRuns, runs_of, outside}
use Rattle.lg_dict.specs.Dictionary.{Dictionary, IsWordOf}
use Rattle.lg_token.proofs.Members.{here, there, here_or_there, nowhere}
use Rattle.lg_token.specs.Words.{AreWords}
use Rattle.lg_token.specs.Cuts.{possessive, EndsWithSign, BeginsWithSign, EndsWithPossessive, HasNoClosing, HasNoOpening, Pieces, whole, with_before, with_after, IsCut, known, closing, opening, owner, unknown}
use Rattle.lg_token.specs.Tokens.{pieces_of, IsToken, AreOfPieces, AreOfChunk, AreOfChunks, IsWall, stands, absent, AreTokens}

-- words that rise are told by what is among them

module _ {K : Type 0} (R : K → K → Ordering) (total : IsTotalOrder R) where
  not_both : (x y : K) → R x y ≡ Less → R y x ≡ Less → ⊥
  not_both x y p q = let e : Less ≡ Greater = sym p ∙ total.antisymm x y ∙ ap ordering_reverse q in cc

  same_head : (x y : K) (xs ys : List K) → All (λ z. R x z ≡ Less) xs → All (λ z. R y z ≡ Less) ys → (x ≡ y) ⊎ Contains ys x → (y ≡ x) ⊎ Contains xs y → x ≡ y
  same_head x y xs ys above_x above_y (inl e) q = e
  same_head x y xs ys above_x above_y (inr p) (inl e) = sym e
  same_head x y xs ys above_x above_y (inr p) (inr q) = absurd (not_both x y (All-contains (λ z. R x z ≡ Less) xs y above_x q) (All-contains (λ z. R y z ≡ Less) ys x above_y p))

  in_rest : (x y w : K) (xs ys : List K) → All (λ z. R x z ≡ Less) xs → x ≡ y → Contains xs w → (w ≡ y) ⊎ Contains ys w → Contains ys w
  in_rest x y w xs ys above e h (inl is) =
      let less : R x x ≡ Less = ap (R x) (sym (is ∙ sym e)) ∙ All-contains (λ z. R x z ≡ Less) xs w above h in
      absurd (not_both x x less less)
  in_rest x y w xs ys above e h (inr there) = there

  same_rising : (xs ys : List K) → IsStrictlySortedBy R xs → IsStrictlySortedBy R ys → ((w : K) → Contains xs w ↔ Contains ys w) → xs ≡ ys
  unfolding IsStrictlySortedBy
  same_rising [] [] sx sy same = refl
  same_rising [] (y ∷ ys) sx sy same = absurd (nowhere y ((same y).1 (here y ys)))
  same_rising (x ∷ xs) [] sx sy same = absurd (nowhere x ((same x).0 (here x xs)))
  same_rising (x ∷ xs) (y ∷ ys) sx sy same =
      let above_x = All-from_recursion (λ z. R x z ≡ Less) xs sx.0 in
      let above_y = All-from_recursion (λ z. R y z ≡ Less) ys sy.0 in
      let head : x ≡ y = same_head x y xs ys above_x above_y (here_or_there y x ys ((same x).0 (here x xs))) (here_or_there x y xs ((same y).1 (here y ys))) in
      let rest : (w : K) → Contains xs w ↔ Contains ys w = λ w. (
        λ h. in_rest x y w xs ys above_x head h (here_or_there y w ys ((same w).0 (there x w xs h))),
        λ h. in_rest y x w ys xs above_y (sym head) h (here_or_there x w xs ((same w).1 (there y w ys h))),
      ) in
      let tail = same_rising xs ys sx.1 sy.1 rest in
      λ i. head i ∷ tail i

one_words : (P : List ℕ → Type 0) (xs ys : List (List ℕ)) → AreWords P xs → AreWords P ys → xs ≡ ys
one_words P xs ys a b =
    same_rising (slice_cmp nat_cmp) nat_list_cmp_total xs ys a.rise b.rise (λ w. (λ h. (b.exactly w).1 ((a.exactly w).0 h), λ h. (a.exactly w).1 ((b.exactly w).0 h)))

-- walls

one_wall : (dict : Dictionary) (name : List ℕ) (at : ℕ) (ts us : List Token) → IsWall dict name at ts → IsWall dict name at us → ts ≡ us
one_wall dict name at ts us (stands _ words a) (stands _ others b) =
    ap (λ w. record { from = at; to = at; text = name; words = w } ∷ [])
    (one_words (IsWordOf dict name) words others (record { rise = a.rise; exactly = a.exactly }) (record { rise = b.rise; exactly = b.exactly }))
one_wall dict name at ts us (stands has _ _) (absent without) = absurd (without has)
one_wall dict name at ts us (absent without) (stands has _ _) = absurd (without has)
one_wall dict name at ts us (absent _) (absent _) = refl

-- the pieces of a chunk

module _ (Known : List ℕ → Type 0) (HasPossessive : Type 0) where
  -- whatever cuts the rest so, is this
  OnlyCut : List ℕ → Pieces → Type 0
  OnlyCut rest p = (q : Pieces) → IsCut Known HasPossessive rest q → p ≡ q

  one_known : (chunk : List ℕ) (q : Pieces) → Known chunk → IsCut Known HasPossessive chunk q → whole chunk ≡ q
  one_known chunk q is (known _ _) = refl
  one_known chunk q is (closing _ _ _ _ not _ _) = absurd (not is)
  one_known chunk q is (opening _ _ _ _ not _ _ _) = absurd (not is)
  one_known chunk q is (owner _ _ _ not _ _ _ _ _) = absurd (not is)
  one_known chunk q is (unknown _ not _ _ _) = absurd (not is)

  one_closing : (chunk rest : List ℕ) (sign : ℕ) (p q : Pieces) → (Known chunk → ⊥) → EndsWithSign chunk rest sign → OnlyCut rest p → IsCut Known HasPossessive chunk q → with_after p (sign ∷ []) ≡ q
  unfolding OnlyCut
  one_closing chunk rest sign p q not ends only (known _ is) = absurd (not is)
  one_closing chunk rest sign p q not ends only (closing _ other last r _ others cut) =
      let same = same_from_push rest other sign last (sym ends.0 ∙ others.0) in
      let pieces = only r (subst (λ l. IsCut Known HasPossessive l r) (sym same.0) cut) in
      λ i. with_after (pieces i) (same.1 i ∷ [])
  one_closing chunk rest sign p q not ends only (opening _ _ _ _ _ none _ _) = absurd (none rest sign ends)
  one_closing chunk rest sign p q not ends only (owner _ _ _ _ none _ _ _ _) = absurd (none rest sign ends)
  one_closing chunk rest sign p q not ends only (unknown _ _ none _ _) = absurd (none rest sign ends)

  one_opening : (chunk rest : List ℕ) (sign : ℕ) (p q : Pieces) → (Known chunk → ⊥) → HasNoClosing chunk → BeginsWithSign chunk sign rest → OnlyCut rest p → IsCut Known HasPossessive chunk q
      → with_before (sign ∷ []) p ≡ q
  unfolding OnlyCut
  one_opening chunk rest sign p q not no_closing begins only (known _ is) = absurd (not is)
  one_opening chunk rest sign p q not no_closing begins only (closing _ other last _ _ ends _) = absurd (no_closing other last ends)
  one_opening chunk rest sign p q not no_closing begins only (opening _ other first r _ _ others cut) =
      let same : sign ∷ rest ≡ first ∷ other = sym begins.0 ∙ others.0 in
      let same_sign : sign ≡ first = cc in
      let same_rest : rest ≡ other = cc in
      let pieces = only r (subst (λ l. IsCut Known HasPossessive l r) (sym same_rest) cut) in
      λ i. with_before (same_sign i ∷ []) (pieces i)
  one_opening chunk rest sign p q not no_closing begins only (owner _ _ _ _ _ none _ _ _) = absurd (none sign rest begins)
  one_opening chunk rest sign p q not no_closing begins only (unknown _ _ _ none _) = absurd (none sign rest begins)

  one_owner : (chunk rest : List ℕ) (p q : Pieces) → (Known chunk → ⊥) → HasNoClosing chunk → HasNoOpening chunk → HasPossessive → EndsWithPossessive chunk rest → OnlyCut rest p
      → IsCut Known HasPossessive chunk q → with_after p possessive ≡ q
  unfolding OnlyCut
  one_owner chunk rest p q not no_closing no_opening has ends only (known _ is) = absurd (not is)
  one_owner chunk rest p q not no_closing no_opening has ends only (closing _ other last _ _ others _) = absurd (no_closing other last others)
  one_owner chunk rest p q not no_closing no_opening has ends only (opening _ other first _ _ _ others _) = absurd (no_opening first other others)
  one_owner chunk rest p q not no_closing no_opening has ends only (owner _ other r _ _ _ _ others cut) =
      let same = append_cancel_right rest other possessive (sym ends.0 ∙ others.0) in
      ap (λ r. with_after r possessive) (only r (subst (λ l. IsCut Known HasPossessive l r) (sym same) cut))
  one_owner chunk rest p q not no_closing no_opening has ends only (unknown _ _ _ _ none) = absurd (none has rest ends)

  one_unknown : (chunk : List ℕ) (q : Pieces) → (Known chunk → ⊥) → HasNoClosing chunk → HasNoOpening chunk → (HasPossessive → (rest : List ℕ) → EndsWithPossessive chunk rest → ⊥)
      → IsCut Known HasPossessive chunk q → whole chunk ≡ q
  one_unknown chunk q not no_closing no_opening none (known _ is) = absurd (not is)
  one_unknown chunk q not no_closing no_opening none (closing _ other last _ _ ends _) = absurd (no_closing other last ends)
  one_unknown chunk q not no_closing no_opening none (opening _ other first _ _ _ begins _) = absurd (no_opening first other begins)
  one_unknown chunk q not no_closing no_opening none (owner _ other _ _ _ _ has ends _) = absurd (none has other ends)
  one_unknown chunk q not no_closing no_opening none (unknown _ _ _ _ _) = refl

  one_cut : (chunk : List ℕ) (p : Pieces) → IsCut Known HasPossessive chunk p → OnlyCut chunk p
  unfolding OnlyCut
  one_cut chunk p (known _ is) = λ q cut. one_known chunk q is cut
  one_cut chunk p (closing _ rest sign r not ends cut) = λ q other. one_closing chunk rest sign r q not ends (one_cut rest r cut) other
  one_cut chunk p (opening _ rest sign r not none begins cut) = λ q other. one_opening chunk rest sign r q not none begins (one_cut rest r cut) other
  one_cut chunk p (owner _ rest r not none nor has ends cut) = λ q other. one_owner chunk rest r q not none nor has ends (one_cut rest r cut) other
  one_cut chunk p (unknown _ not none nor without) = λ q other. one_unknown chunk q not none nor without other

-- tokens

one_token : (dict : Dictionary) (from : ℕ) (p : Bool × List ℕ) (t u : Token) → IsToken dict from p t → IsToken dict from p u → t ≡ u
one_token dict from p t u a b =
    let begins = a.begins ∙ sym b.begins in
    let ends = a.ends ∙ sym b.ends in
    let text = a.text ∙ sym b.text in
    let words = one_words _ t.words u.words a.words b.words in
    λ i. record { from = begins i; to = ends i; text = text i; words = words i }

one_pieces : (dict : Dictionary) (ps : List (Bool × List ℕ)) (from : ℕ) (ts us : List Token) → AreOfPieces dict from ps ts → AreOfPieces dict from ps us → ts ≡ us
one_pieces dict [] from ts us a b = a ∙ sym b
one_pieces dict (p ∷ ps) from [] us a b = absurd a
one_pieces dict (p ∷ ps) from (t ∷ ts) [] a b = absurd b
one_pieces dict (p ∷ ps) from (t ∷ ts) (u ∷ us) a b =
    let head = one_token dict from p t u a.0 b.0 in
    let tail = one_pieces dict ps (from + length p.1) ts us a.1 b.1 in
    λ i. head i ∷ tail i

one_chunk : (dict : Dictionary) (initial : Bool) (chunk : List ℕ × ℕ) (ts us : List Token) → AreOfChunk dict initial chunk ts → AreOfChunk dict initial chunk us → ts ≡ us
unfolding OnlyCut
one_chunk dict initial chunk ts us (p, cut, a) (q, other, b) =
    let same = one_cut _ _ chunk.0 p cut q other in
    one_pieces dict (pieces_of initial p) chunk.1 ts us a (subst (λ r. AreOfPieces dict chunk.1 (pieces_of initial r) us) (sym same) b)

one_chunks : (dict : Dictionary) (initial : Bool) (chunks : List (List ℕ × ℕ)) (ts us : List Token) → AreOfChunks dict initial chunks ts → AreOfChunks dict initial chunks us → ts ≡ us
one_chunks dict initial [] ts us a b = a ∙ sym b
one_chunks dict initial (c ∷ cs) ts us (t, rest, is, a, more) (u, others, are, b, further) =
    let head = one_chunk dict initial c t u a b in
    let tail = one_chunks dict false cs rest others more further in
    is ∙ (λ i. head i ++ tail i) ∙ sym are

pub one_list : ((runs : List (List ℕ × ℕ)) (text : List ℕ) → AreRuns Blanks runs 0 text → runs_of Blanks outside 0 text ≡ runs) → (dict : Dictionary) (text : List ℕ) (ts us : List Token) → AreTokens dict text ts → AreTokens dict text us → ts ≡ us
one_list one dict text ts us a b =
    let chunks : a.chunks ≡ b.chunks = sym (one a.chunks text a.runs) ∙ one b.chunks text b.runs in
    let left = one_wall dict _ 0 a.left b.left a.left_wall b.left_wall in
    let right = one_wall dict _ (length text) a.right b.right a.right_wall b.right_wall in
    let inner = one_chunks dict true a.chunks a.inner b.inner a.of_chunks (subst (λ cs. AreOfChunks dict true cs b.inner) (sym chunks) b.of_chunks) in
    a.parts ∙ (λ i. left i ++ (inner i ++ right i)) ∙ sym b.parts
