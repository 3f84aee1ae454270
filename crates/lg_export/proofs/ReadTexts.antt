-- What the reader of expressions makes of the spelling of an expression.
use Rattle.std.proofs.Common.{◌≡◌, ◌≢◌, ℕ, zero, suc, ◌+◌, ◌<◌, ◌≤◌, ◌^◌, max, replicate, Bool, true, false, ltb, List, [], ◌∷◌, ◌++◌, length, codes, refl, ap, sym, subst, ◌∙◌, arith, append_assoc, append-nil}
use Rattle.std.specs.Prelude.{ℤ, unsigned_abs}
use Rattle.std.proofs.lemmas.Bool.{cond-true, lt-ltb}
use Rattle.std.proofs.lemmas.Bool.Decides.{nat_tests}
use Rattle.lg_base.specs.Costs.{cost_text, IsCostNumber}
use Rattle.lg_gram.specs.Connectors.{Connector, name_of}
use Rattle.lg_gram.specs.Limits.{LEVEL}
use Rattle.lg_gram.specs.Names.{NamesAreWritten, is_capital, is_subscript}
use Rattle.lg_gram.specs.RawTrees.{RawTree, raw_empty, raw_leaf, raw_all, raw_one, raw_priced, raw_tree, raw_trees_of}
use Rattle.lg_gram.specs.Trees.{Tree, Trees, empty, leaf, all_of, one_of, priced, no_trees, tree}
use Rattle.lg_lex.specs.declared.marks.Class.TheVariants.{Other}
use Rattle.lg_lex.specs.declared.marks.Marks.TheVariants.{Dictionary}
use Rattle.lg_lex.specs.Classes.{class_of}
use Rattle.lg_lex.specs.Lexing.{lex, between}
use Rattle.lg_lex.specs.Tokens.{Lexeme, Token, sign, plain, ArePlain, EndsPlain}
use Rattle.lg_expr.specs.declared.macros.Known.{Known}
use Rattle.lg_expr.specs.declared.part.Operator.TheVariants.{And, Or}
use Rattle.lg_expr.specs.declared.part.Bracket.{Bracket}
use Rattle.lg_expr.specs.declared.part.Bracket.TheVariants.{Round, Curly, Square}
use Rattle.lg_expr.specs.Automaton.{Frame, Outer, fresh, with_factor, value, Phase, opened, wanting, reached, closed, State, Move, goes, start, step, opening, inside, Answer, read, follow, run}
use Rattle.lg_expr.specs.Classes.{part_of_lexeme}
use Rattle.lg_expr.specs.Grammar.{Rules, joined, optional}
use Rattle.lg_expr.specs.Parts.{Part, connects, number, opens}
use Rattle.lg_expr.specs.Words.{Writes, at_text, sign_text}
use Rattle.lg_dictread.specs.Entries.{part}
use Rattle.lg_export.specs.Spelling.{top, in_or, in_and, connector_spelled, round, spelled, members_spelled, level_at, members_level, bracketed}
use Rattle.lg_export.specs.Spots.{is_optional}
use Rattle.lg_export.specs.Levels.{raw_of, raws_of}
use Rattle.lg_export.specs.Exportable.{AreMany, IsLettered, IsReadable, AreReadable}
use Rattle.lg_export.proofs.Spelled.{top_or, top_or_level, either_or, either_or_level, in_round, in_round_level}
use Rattle.lg_export.proofs.Lexed.{plain_bytes, plain_both, one_plain}

-- ---- connectors as tokens

capital_class : (b : ℕ) → is_capital b ≡ true → class_of Dictionary b ≡ Other
capital_class b e = grind (arith, nat_tests)

subscript_class : (b : ℕ) → is_subscript b ≡ true → class_of Dictionary b ≡ Other
subscript_class b e = grind (arith, nat_tests)

at_plain : (multi : Bool) → ArePlain Dictionary (at_text multi)
at_plain true = (refl, tt)
at_plain false = tt

sign_plain : (right : Bool) → ArePlain Dictionary (sign_text right)
sign_plain true = (refl, tt)
sign_plain false = (refl, tt)

module _ (names : NamesAreWritten) where
  connector_plain : (c : Connector) → IsLettered (name_of c) → ArePlain Dictionary (connector_spelled c)
  connector_plain c name =
      let parts = names c.caps c.subs name.written in
      plain_both (at_text c.multi) (c.caps ++ (c.subs ++ sign_text c.right)) (at_plain c.multi)
      (plain_both c.caps (c.subs ++ sign_text c.right) (plain_bytes is_capital capital_class c.caps parts.capitals)
      (plain_both c.subs (sign_text c.right) (plain_bytes is_subscript subscript_class c.subs parts.subscripts) (sign_plain c.right)))

  some_bytes : (multi : Bool) (caps more : List ℕ) → 0 < length caps → at_text multi ++ (caps ++ more) ≢ []
  some_bytes true caps more some e = cc
  some_bytes false [] more some e = absurd (omega arith)
  some_bytes false (b ∷ caps) more some e = cc

  connector_some : (c : Connector) → IsLettered (name_of c) → connector_spelled c ≢ []
  connector_some c name = some_bytes c.multi c.caps (c.subs ++ sign_text c.right) (names c.caps c.subs name.written).some

-- ---- the reader

-- just before an expression: whether a round bracket was just opened
abbrev before : Bool → Phase
before true = opened
before false = wanting

abbrev state : Phase → Frame → List Outer → ℕ → State
state p f outer d = record { phase = p; here = f; outer = outer; deepest = d }

module _ (names : NamesAreWritten)
    (only : (x : Lexeme) (p : Part) → Writes x p → part_of_lexeme x ≡ p)
    (costs : (cost : ℤ) → unsigned_abs cost ≤ 10 ^ 7 → IsCostNumber (cost_text cost) cost × ArePlain Dictionary (cost_text cost) × (cost_text cost ≢ []))
    (known : List ℕ → Known) where
  abbrev rules : Rules
  rules = record { known = known; limit = LEVEL }

  abbrev pub run_from : State → ℕ → List ℕ → Answer Token
  run_from s at bytes = run Token part rules s (lex Dictionary between at bytes)

  -- the text leads from one state to another, if no plain token goes on after it
  abbrev Leads : State → List ℕ → State → Type 0
  Leads s xs t = (at : ℕ) (rest : List ℕ) → EndsPlain Dictionary rest → (n : ℕ) × (run_from s at (xs ++ rest) ≡ run_from t n rest)

  leads_then : (s m t : State) (xs : List ℕ) (c : ℕ) (ys : List ℕ) → class_of Dictionary c ≢ Other → Leads s xs m → Leads m (c ∷ ys) t → Leads s (xs ++ c ∷ ys) t
  leads_then s m t xs c ys other first second at rest e =
      let (k, one) = first at (c ∷ (ys ++ rest)) other in
      let (n, two) = second k rest e in
      (n, ap (run_from s at) (append_assoc xs (c ∷ ys) rest) ∙ one ∙ two)

  leads_byte : (s m t : State) (c : ℕ) (ys : List ℕ) → ((at : ℕ) (rest : List ℕ) → run_from s at (c ∷ rest) ≡ run_from m (at + 1) rest) → Leads m ys t → Leads s (c ∷ ys) t
  leads_byte s m t c ys one more at rest e = let (n, two) = more (at + 1) rest e in (n, one at (ys ++ rest) ∙ two)

  leads_to : (s t u : State) (xs : List ℕ) → t ≡ u → Leads s xs t → Leads s xs u
  leads_to s t u xs same = subst (Leads s xs) same

  -- a step at a token that is known to be this part
  stepped : (s t : State) (token : Token) (ts : List Token) (p : Part) → part token ≡ p → step rules s p ≡ goes t → run Token part rules s (token ∷ ts) ≡ run Token part rules t ts
  stepped s t token ts p is moves =
      ap (λ (q : Part). follow Token part (λ next. run Token part rules next ts) (step rules s q) token ts) is
      ∙ ap (λ (m : Move). follow Token part (λ next. run Token part rules next ts) m token ts) moves

  -- a plain token that is this part
  leads_plain : (s t : State) (w : List ℕ) (p : Part) → w ≢ [] → ArePlain Dictionary w → part_of_lexeme (plain w) ≡ p → step rules s p ≡ goes t → Leads s w t
  leads_plain s t w p some plain_w is moves at rest e =
      let (n, one) = one_plain w some plain_w at rest e in
      (n, ap (run Token part rules s) one ∙ stepped s t (plain w, at) (lex Dictionary between n rest) p is moves)

  -- ---- what a text reads as: as a member of an `&`, as one of an `or`, and by itself

  abbrev PrimText : List ℕ → RawTree → ℕ → Type 0
  PrimText xs r lv = (b : Bool) (f : Frame) (outer : List Outer) (d : ℕ) → length outer ≤ d → length outer + lv ≤ LEVEL
      → Leads (state (before b) f outer d) xs (state reached (with_factor f r) outer (max d (length outer + lv)))

  abbrev OrText : List ℕ → RawTree → ℕ → Type 0
  OrText xs r lv = (b : Bool) (alts : List RawTree) (outer : List Outer) (d : ℕ) → length outer ≤ d → length outer + lv ≤ LEVEL
      → (fs : List RawTree) × (joined And fs ≡ r)
      × Leads (state (before b) (record { alternatives = alts; factors = [] }) outer d) xs (state reached (record { alternatives = alts; factors = fs }) outer (max d (length outer + lv)))

  abbrev pub TopText : List ℕ → RawTree → ℕ → Type 0
  TopText xs r lv = (b : Bool) (outer : List Outer) (d : ℕ) → length outer ≤ d → length outer + lv ≤ LEVEL
      → (f : Frame) × (value f ≡ r) × Leads (state (before b) fresh outer d) xs (state reached f outer (max d (length outer + lv)))

  prim_or : (xs : List ℕ) (r : RawTree) (lv : ℕ) → PrimText xs r lv → OrText xs r lv
  prim_or xs r lv reads b alts outer d h k = (r ∷ [], refl, reads b (record { alternatives = alts; factors = [] }) outer d h k)

  or_top : (xs : List ℕ) (r : RawTree) (lv : ℕ) → OrText xs r lv → TopText xs r lv
  or_top xs r lv reads b outer d h k = let (fs, is, leads) = reads b [] outer d h k in (record { alternatives = []; factors = fs }, is, leads)

  top_is : (xs ys : List ℕ) (r : RawTree) (m n : ℕ) → xs ≡ ys → m ≡ n → TopText xs r m → TopText ys r n
  top_is xs ys r m n same level reads = subst (λ (l : List ℕ). TopText l r n) same (subst (λ (k : ℕ). TopText xs r k) level reads)

  prim_is : (xs ys : List ℕ) (r : RawTree) (m n : ℕ) → xs ≡ ys → m ≡ n → PrimText xs r m → PrimText ys r n
  prim_is xs ys r m n same level reads = subst (λ (l : List ℕ). PrimText l r n) same (subst (λ (k : ℕ). PrimText xs r k) level reads)

  -- ---- brackets

  may_open : (bracket : Bracket) (f : Frame) (outer : List Outer) (d : ℕ) → length outer < LEVEL → opening LEVEL bracket f outer d ≡ goes (inside bracket f outer d)
  may_open bracket f outer d h = cond-true (ltb (length outer) LEVEL) _ _ (lt-ltb (length outer) LEVEL h)

  opens_with : (b : Bool) (bracket : Bracket) (f : Frame) (outer : List Outer) (d : ℕ) (token : Token) (ts : List Token) → part token ≡ opens bracket → length outer < LEVEL
      → run Token part rules (state (before b) f outer d) (token ∷ ts) ≡ run Token part rules (inside bracket f outer d) ts
  opens_with true bracket f outer d token ts is h = stepped (state opened f outer d) (inside bracket f outer d) token ts (opens bracket) is (may_open bracket f outer d h)
  opens_with false bracket f outer d token ts is h = stepped (state wanting f outer d) (inside bracket f outer d) token ts (opens bracket) is (may_open bracket f outer d h)

  abbrev around : Bracket → Frame → List Outer → List Outer
  around bracket f outer = record { bracket = bracket; frame = f } ∷ outer

  round_prim : (xs : List ℕ) (r : RawTree) (lv : ℕ) → TopText xs r lv → PrimText (round xs) r (suc lv)
  round_prim xs r lv reads b f outer d h k =
      let e = max d (suc (length outer)) in
      let (g, is, leads) = reads true (around Round f outer) e (omega arith) (omega arith) in
      let deep : max e (suc (length outer) + lv) ≡ max d (length outer + suc lv) = omega arith in
      let final : state reached (with_factor f (value g)) outer (max e (suc (length outer) + lv)) ≡ state reached (with_factor f r) outer (max d (length outer + suc lv))
      = λ i. state reached (with_factor f (is i)) outer (deep i) in
      leads_byte (state (before b) f outer d) (state opened fresh (around Round f outer) e) _ 40 (xs ++ 41 ∷ [])
      (λ at rest. opens_with b Round f outer d (sign 40, at) (lex Dictionary between (at + 1) rest) refl (omega arith))
      (leads_then (state opened fresh (around Round f outer) e) (state reached g (around Round f outer) (max e (suc (length outer) + lv))) _ xs 41 [] (λ q. cc) leads
      (leads_to (state reached g (around Round f outer) (max e (suc (length outer) + lv))) _ _ (41 ∷ []) final (λ at rest e. (at + 1, refl))))

  curly_prim : (xs : List ℕ) (r : RawTree) (lv : ℕ) → TopText xs r lv → PrimText (codes "{" ++ (xs ++ codes "}")) (optional r) (suc lv)
  curly_prim xs r lv reads b f outer d h k =
      let e = max d (suc (length outer)) in
      let (g, is, leads) = reads false (around Curly f outer) e (omega arith) (omega arith) in
      let deep : max e (suc (length outer) + lv) ≡ max d (length outer + suc lv) = omega arith in
      let final : state reached (with_factor f (optional (value g))) outer (max e (suc (length outer) + lv)) ≡ state reached (with_factor f (optional r)) outer (max d (length outer + suc lv))
      = λ i. state reached (with_factor f (optional (is i))) outer (deep i) in
      leads_byte (state (before b) f outer d) (state wanting fresh (around Curly f outer) e) _ 123 (xs ++ 125 ∷ [])
      (λ at rest. opens_with b Curly f outer d (sign 123, at) (lex Dictionary between (at + 1) rest) refl (omega arith))
      (leads_then (state wanting fresh (around Curly f outer) e) (state reached g (around Curly f outer) (max e (suc (length outer) + lv))) _ xs 125 [] (λ q. cc) leads
      (leads_to (state reached g (around Curly f outer) (max e (suc (length outer) + lv))) _ _ (125 ∷ []) final (λ at rest e. (at + 1, refl))))

  square_prim : (xs : List ℕ) (r : RawTree) (lv : ℕ) (cost : ℤ) → unsigned_abs cost ≤ 10 ^ 7 → TopText xs r lv → PrimText (codes "[" ++ (xs ++ (codes "]" ++ cost_text cost))) (raw_priced r cost) (suc lv)
  square_prim xs r lv cost small reads b f outer d h k =
      let e = max d (suc (length outer)) in
      let (g, is, leads) = reads false (around Square f outer) e (omega arith) (omega arith) in
      let n = max e (suc (length outer) + lv) in
      let deep : n ≡ max d (length outer + suc lv) = omega arith in
      let final : state reached (with_factor f (raw_priced (value g) cost)) outer n ≡ state reached (with_factor f (raw_priced r cost)) outer (max d (length outer + suc lv))
      = λ i. state reached (with_factor f (raw_priced (is i) cost)) outer (deep i) in
      let (written, plain_cost, some) = costs cost small in
      let is_number = only (plain (cost_text cost)) (number cost) (cost_text cost, refl, written) in
      leads_byte (state (before b) f outer d) (state wanting fresh (around Square f outer) e) _ 91 (xs ++ 93 ∷ cost_text cost)
      (λ at rest. opens_with b Square f outer d (sign 91, at) (lex Dictionary between (at + 1) rest) refl (omega arith))
      (leads_then (state wanting fresh (around Square f outer) e) (state reached g (around Square f outer) n) _ xs 93 (cost_text cost) (λ q. cc) leads
      (leads_byte (state reached g (around Square f outer) n) (state (closed (value g)) f outer n) _ 93 (cost_text cost) (λ at rest. refl)
      (leads_to (state (closed (value g)) f outer n) _ _ (cost_text cost) final (leads_plain (state (closed (value g)) f outer n) (state reached (with_factor f (raw_priced (value g) cost)) outer n) (cost_text cost) (number cost) some plain_cost is_number refl))))

  -- ---- leaves

  empty_prim : PrimText (codes "()") raw_empty 1
  empty_prim b f outer d h k =
      let e = max d (suc (length outer)) in
      let deep : e ≡ max d (length outer + 1) = omega arith in
      leads_byte (state (before b) f outer d) (state opened fresh (around Round f outer) e) _ 40 (41 ∷ []) (λ at rest. opens_with b Round f outer d (sign 40, at) (lex Dictionary between (at + 1) rest) refl (omega arith))
      (leads_to (state opened fresh (around Round f outer) e) (state reached (with_factor f raw_empty) outer e) (state reached (with_factor f raw_empty) outer (max d (length outer + 1))) (41 ∷ []) (ap (state reached (with_factor f raw_empty) outer) deep) (λ at rest e. (at + 1, refl)))

  connector_prim : (c : Connector) → IsLettered (name_of c) → PrimText (connector_spelled c) (raw_leaf c) 0
  connector_prim c name b f outer d h k =
      let deep : d ≡ max d (length outer + 0) = omega arith in
      let is = only (plain (connector_spelled c)) (connects c) (connector_spelled c, refl, record { caps = c.caps; subs = c.subs; spells = refl; written = name.written; caps_are = refl; subs_are = sym name.short }) in
      leads_to (state (before b) f outer d) (state reached (with_factor f (raw_leaf c)) outer d) _ (connector_spelled c) (ap (state reached (with_factor f (raw_leaf c)) outer) deep)
      (leads_plain (state (before b) f outer d) (state reached (with_factor f (raw_leaf c)) outer d) (connector_spelled c) (connects c) (connector_some names c name) (connector_plain names c name) is (leaf_step b))
    where
      leaf_step : (b : Bool) → step rules (state (before b) f outer d) (connects c) ≡ goes (state reached (with_factor f (raw_leaf c)) outer d)
      leaf_step true = refl
      leaf_step false = refl

  -- ---- members

  -- one after another, each at its spot
  record Reads (t : Tree) : Type 0 where
    prim : PrimText (spelled in_and t) (raw_of t) (level_at in_and t)
    ored : OrText (spelled in_or t) (raw_of t) (level_at in_or t)
    topped : TopText (spelled top t) (raw_of t) (level_at top t)

  abbrev AllRead : Trees → Type 0
  AllRead no_trees = Unit {0}
  AllRead (tree t ts) = Reads t × AllRead ts

  abbrev raw_list : Trees → List RawTree
  raw_list no_trees = []
  raw_list (tree t ts) = raw_of t ∷ raw_list ts

  raw_list_is : (ts : Trees) → raw_trees_of (raw_list ts) ≡ raws_of ts
  raw_list_is no_trees = refl
  raw_list_is (tree t ts) = ap (raw_tree (raw_of t)) (raw_list_is ts)

  abbrev with_factors : Frame → List RawTree → Frame
  with_factors f rs = record { alternatives = f.alternatives; factors = f.factors ++ rs }

  -- members joined by `&`, in the order of the list
  and_members : (t : Tree) (ts : Trees) → Reads t → AllRead ts → (b : Bool) (f : Frame) (outer : List Outer) (d : ℕ) → length outer ≤ d → length outer + members_level in_and (tree t ts) ≤ LEVEL
      → Leads (state (before b) f outer d) (members_spelled in_and (codes " & ") (tree t ts)) (state reached (with_factors f (raw_list (tree t ts))) outer (max d (length outer + members_level in_and (tree t ts))))
  and_members t no_trees one all b f outer d h k =
      let deep : max d (length outer + level_at in_and t) ≡ max d (length outer + members_level in_and (tree t no_trees)) = omega arith in
      leads_to (state (before b) f outer d) _ _ (spelled in_and t) (ap (state reached (with_factor f (raw_of t)) outer) deep) (one.prim b f outer d h (omega arith))
  and_members t (tree u us) one all b f outer d h k =
      let e = max d (length outer + level_at in_and t) in
      let g = with_factor f (raw_of t) in
      let more = and_members u us all.0 all.1 false g outer e (omega arith) (omega arith) in
      let deep : max e (length outer + members_level in_and (tree u us)) ≡ max d (length outer + members_level in_and (tree t (tree u us))) = omega arith in
      let same : state reached (with_factors g (raw_list (tree u us))) outer (max e (length outer + members_level in_and (tree u us)))
      ≡ state reached (with_factors f (raw_list (tree t (tree u us)))) outer (max d (length outer + members_level in_and (tree t (tree u us))))
      = λ i. state reached (record { alternatives = f.alternatives; factors = append_assoc f.factors (raw_of t ∷ []) (raw_list (tree u us)) i }) outer (deep i) in
      leads_then (state (before b) f outer d) (state reached g outer e) _ (spelled in_and t) 32 (38 ∷ 32 ∷ members_spelled in_and (codes " & ") (tree u us)) (λ q. cc)
      (one.prim b f outer d h (omega arith))
      (leads_to (state reached g outer e) _ _ (32 ∷ 38 ∷ 32 ∷ members_spelled in_and (codes " & ") (tree u us)) same (λ at rest ends. more (at + 1 + 1 + 1) rest ends))

  -- members joined by `or`
  or_members : (t : Tree) (ts : Trees) → Reads t → AllRead ts → (b : Bool) (alts : List RawTree) (outer : List Outer) (d : ℕ) → length outer ≤ d → length outer + members_level in_or (tree t ts) ≤ LEVEL
      → (f : Frame) × (f.alternatives ++ joined And f.factors ∷ [] ≡ alts ++ raw_list (tree t ts))
      × Leads (state (before b) (record { alternatives = alts; factors = [] }) outer d) (members_spelled in_or (codes " or ") (tree t ts)) (state reached f outer (max d (length outer + members_level in_or (tree t ts))))
  or_members t no_trees one all b alts outer d h k =
      let (fs, is, leads) = one.ored b alts outer d h (omega arith) in
      let f : Frame = record { alternatives = alts; factors = fs } in
      let deep : max d (length outer + level_at in_or t) ≡ max d (length outer + members_level in_or (tree t no_trees)) = omega arith in
      (f, ap (λ (r : RawTree). alts ++ r ∷ []) is, leads_to (state (before b) (record { alternatives = alts; factors = [] }) outer d) _ _ (spelled in_or t) (ap (state reached f outer) deep) leads)
  or_members t (tree u us) one all b alts outer d h k =
      let e = max d (length outer + level_at in_or t) in
      let (fs, is, leads) = one.ored b alts outer d h (omega arith) in
      let (g, more_is, more) = or_members u us all.0 all.1 false (alts ++ joined And fs ∷ []) outer e (omega arith) (omega arith) in
      let deep : max e (length outer + members_level in_or (tree u us)) ≡ max d (length outer + members_level in_or (tree t (tree u us))) = omega arith in (
        g,
        more_is ∙ append_assoc alts (joined And fs ∷ []) (raw_list (tree u us)) ∙ ap (λ (r : RawTree). alts ++ r ∷ raw_list (tree u us)) is,
        leads_then (state (before b) (record { alternatives = alts; factors = [] }) outer d) (state reached (record { alternatives = alts; factors = fs }) outer e) _ (spelled in_or t) 32
            (111 ∷ 114 ∷ 32 ∷ members_spelled in_or (codes " or ") (tree u us)) (λ q. cc) leads
            (leads_to (state reached (record { alternatives = alts; factors = fs }) outer e) _ _ (32 ∷ 111 ∷ 114 ∷ 32 ∷ members_spelled in_or (codes " or ") (tree u us)) (ap (state reached g outer) deep) (λ at rest ends. more (at + 1 + 1 + 1 + 1) rest ends)),
      )

  -- ---- lists of members as a whole

  all_or : (ts : Trees) → AreMany ts → AllRead ts → OrText (members_spelled in_and (codes " & ") ts) (raw_all (raws_of ts)) (members_level in_and ts)
  all_or no_trees many all = absurd many
  all_or (tree t no_trees) many all = absurd many
  all_or (tree t (tree u us)) many all = λ b alts outer d h k.
      (raw_list (tree t (tree u us)), ap raw_all (raw_list_is (tree t (tree u us))), and_members t (tree u us) all.0 all.1 b (record { alternatives = alts; factors = [] }) outer d h k)

  any_top : (ts : Trees) → AreMany ts → AllRead ts → TopText (members_spelled in_or (codes " or ") ts) (raw_one (raws_of ts)) (members_level in_or ts)
  any_top no_trees many all = absurd many
  any_top (tree t no_trees) many all = absurd many
  any_top (tree t (tree u us)) many all = λ b outer d h k.
      let (f, is, leads) = or_members t (tree u us) all.0 all.1 b [] outer d h k in
      (f, ap (joined Or) is ∙ ap raw_one (raw_list_is (tree t (tree u us))), leads)

  of_prim : (t : Tree) → spelled in_or t ≡ spelled in_and t → spelled top t ≡ spelled in_and t → level_at in_or t ≡ level_at in_and t → level_at top t ≡ level_at in_and t
      → PrimText (spelled in_and t) (raw_of t) (level_at in_and t) → Reads t
  of_prim t or_is top_is or_level top_level reads = record {
    prim = reads;
    ored = prim_or (spelled in_or t) (raw_of t) (level_at in_or t) (prim_is _ _ (raw_of t) _ _ (sym or_is) (sym or_level) reads);
    topped = or_top (spelled top t) (raw_of t) (level_at top t) (prim_or (spelled top t) (raw_of t) (level_at top t) (prim_is _ _ (raw_of t) _ _ (sym top_is) (sym top_level) reads));
  }

  all_reads : (ts : Trees) → AreMany ts → AllRead ts → Reads (all_of ts)
  all_reads ts many all =
      let whole = all_or ts many all in
      let alone = or_top (members_spelled in_and (codes " & ") ts) (raw_all (raws_of ts)) (members_level in_and ts) whole in
      record { prim = round_prim (members_spelled in_and (codes " & ") ts) (raw_all (raws_of ts)) (members_level in_and ts) alone; ored = whole; topped = alone }

  -- an `or` whose spelling as a member of an `or` is known to be read
  any_reads : (ts : Trees) → AreMany ts → AllRead ts → PrimText (spelled in_or (one_of ts)) (raw_one (raws_of ts)) (level_at in_or (one_of ts)) → Reads (one_of ts)
  any_reads ts many all reads = record {
    prim = prim_is _ _ (raw_one (raws_of ts)) _ _ (sym (either_or ts)) (sym (either_or_level ts)) reads;
    ored = prim_or (spelled in_or (one_of ts)) (raw_one (raws_of ts)) (level_at in_or (one_of ts)) reads;
    topped = top_is _ _ (raw_one (raws_of ts)) _ _ (sym (top_or ts)) (sym (top_or_level ts)) (any_top ts many all);
  }

  rounded : (ts : Trees) → is_optional ts ≡ false → AreMany ts → AllRead ts → Reads (one_of ts)
  rounded ts is many all =
      any_reads ts many all (prim_is _ _ (raw_one (raws_of ts)) _ _ (sym (in_round ts is)) (sym (in_round_level ts is)) (round_prim (members_spelled in_or (codes " or ") ts) (raw_one (raws_of ts)) (members_level in_or ts) (any_top ts many all)))

  one_reads : (ts : Trees) → AreMany ts → AllRead ts → Reads (one_of ts)
  one_reads no_trees many all = absurd many
  one_reads (tree empty no_trees) many all = absurd many
  one_reads (tree empty (tree t no_trees)) many all = any_reads (tree empty (tree t no_trees)) many all (curly_prim (spelled top t) (raw_of t) (level_at top t) all.1.0.topped)
  one_reads (tree empty (tree t (tree u us))) many all = rounded (tree empty (tree t (tree u us))) refl many all
  one_reads (tree (leaf c) us) many all = rounded (tree (leaf c) us) refl many all
  one_reads (tree (all_of ts) us) many all = rounded (tree (all_of ts) us) refl many all
  one_reads (tree (one_of ts) us) many all = rounded (tree (one_of ts) us) refl many all
  one_reads (tree (priced t cost) us) many all = rounded (tree (priced t cost) us) refl many all

  mutual
    reads_back : (t : Tree) → IsReadable t → Reads t
    reads_back empty readable = of_prim empty refl refl refl refl empty_prim
    reads_back (leaf c) readable = of_prim (leaf c) refl refl refl refl (connector_prim c readable)
    reads_back (all_of ts) readable = all_reads ts readable.0 (all_back ts readable.1)
    reads_back (one_of ts) readable = one_reads ts readable.0 (all_back ts readable.1)
    reads_back (priced t cost) readable =
        of_prim (priced t cost) refl refl refl refl (square_prim (spelled top t) (raw_of t) (level_at top t) cost readable.0 (reads_back t readable.1).topped)

    all_back : (ts : Trees) → AreReadable ts → AllRead ts
    all_back no_trees readable = tt
    all_back (tree t ts) readable = (reads_back t readable.0, all_back ts readable.1)

  -- ---- in so many pairs of round brackets

  shifted : (n c : ℕ) (ys : List ℕ) → replicate n c ++ c ∷ ys ≡ c ∷ (replicate n c ++ ys)
  shifted zero c ys = refl
  shifted (suc n) c ys = ap (λ (l : List ℕ). c ∷ l) (shifted n c ys)

  one_pair_more : (n : ℕ) (xs : List ℕ) → bracketed n (round xs) ≡ bracketed (suc n) xs
  one_pair_more n xs = ap (λ (l : List ℕ). replicate n 40 ++ 40 ∷ l) (append_assoc xs (41 ∷ []) (replicate n 41)) ∙ shifted n 40 (xs ++ 41 ∷ replicate n 41)

  bracketed_top : (n : ℕ) (xs : List ℕ) (r : RawTree) (lv : ℕ) → TopText xs r lv → TopText (bracketed n xs) r (n + lv)
  bracketed_top zero xs r lv reads = top_is _ _ r _ _ (sym (append-nil xs)) (omega arith) reads
  bracketed_top (suc n) xs r lv reads =
      let pair = or_top (round xs) r (suc lv) (prim_or (round xs) r (suc lv) (round_prim xs r lv reads)) in
      top_is _ _ r _ _ (one_pair_more n xs) (omega arith) (bracketed_top n (round xs) r (suc lv) pair)

  -- ---- an expression with its end

  ends_entry : (xs : List ℕ) (r : RawTree) (lv : ℕ) → TopText xs r lv → lv ≤ LEVEL → (at : ℕ) (rest : List ℕ)
      → (n : ℕ) × (run Token part rules start (lex Dictionary between at (32 ∷ (xs ++ 59 ∷ 10 ∷ rest))) ≡ read r lv (lex Dictionary between n rest))
  ends_entry xs r lv reads few at rest =
      let (f, is, leads) = reads false [] 0 (omega arith) (omega arith) in
      let (n, run_is) = leads (at + 1) (59 ∷ 10 ∷ rest) (λ q. cc) in
      let deep : max 0 (0 + lv) ≡ lv = omega arith in
      (n + 1 + 1, run_is ∙ (λ i. read (is i) (deep i) (lex Dictionary between (n + 1 + 1) rest)))

  pub expression_read : (n : ℕ) (t : Tree) → IsReadable t → n + level_at top t ≤ LEVEL → (at : ℕ) (rest : List ℕ)
      → (m : ℕ) × (run Token part rules start (lex Dictionary between at (32 ∷ (bracketed n (spelled top t) ++ 59 ∷ 10 ∷ rest))) ≡ read (raw_of t) (n + level_at top t) (lex Dictionary between m rest))
  expression_read n t readable few at rest =
      ends_entry (bracketed n (spelled top t)) (raw_of t) (n + level_at top t) (bracketed_top n (spelled top t) (raw_of t) (level_at top t) (reads_back t readable).topped) few at rest

  pub alone_read : (t : Tree) → IsReadable t → level_at top t ≤ LEVEL → (at : ℕ) (rest : List ℕ)
      → (m : ℕ) × (run Token part rules start (lex Dictionary between at (32 ∷ (spelled top t ++ 59 ∷ 10 ∷ rest))) ≡ read (raw_of t) (level_at top t) (lex Dictionary between m rest))
  alone_read t readable few at rest = ends_entry (spelled top t) (raw_of t) (level_at top t) (reads_back t readable).topped few at rest
