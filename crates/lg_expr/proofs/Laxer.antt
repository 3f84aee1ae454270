-- Laxer rules take whatever stricter ones take.
use Rattle.std.proofs.Common.{◌≡◌, ℕ, suc, ◌+◌, ◌<◌, ◌≤◌, Bool, true, false, cond, ltb, List, [], ◌∷◌, length, Option, Some, None, refl, sym, arith, lt-ltb, ltb-true}
use Rattle.lg_gram.specs.RawTrees.{named}
use Rattle.lg_expr.specs.declared.part.Bracket.{Bracket}
use Rattle.lg_expr.specs.declared.part.Bracket.TheVariants.{Round, Curly, Square}
use Rattle.lg_expr.specs.declared.macros.Known.{Known}
use Rattle.lg_expr.specs.declared.macros.Known.TheVariants.{Unknown, Free, Leveled}
use Rattle.lg_expr.specs.declared.fault.Fault.TheVariants.{TooDeep}
use Rattle.lg_expr.specs.Parts.{Part, connects, names, operates, opens, closes, number, no_number, ends, wrong}
use Rattle.lg_expr.specs.Grammar.{Alternatives, alternative, or_else, Factors, factor, and_then, Primary, connector, macro, brackets, bracketed, braced, costly, costing, Rules, Admits, Keeps, FactorsKeep, PrimaryKeeps}
use Rattle.lg_expr.specs.Automaton.{Frame, Outer, Phase, opened, wanting, reached, closed, State, goes, refused, after, inside, opening, naming, step_in, step}
use Rattle.lg_expr.proofs.Sound.{Half, Held, Stage, at_opening, at_primary, at_reached, at_cost, Fits, BeforeKeeps, NowKeeps, HalfKeeps, OuterKeeps}

-- what admits wherever the other does
abbrev pub IsLaxer : Known → Known → Type 0
IsLaxer Unknown k = Unit {0}
IsLaxer Free Unknown = ⊥
IsLaxer Free Free = Unit {0}
IsLaxer Free (Leveled n) = ⊥
IsLaxer (Leveled n) Unknown = ⊥
IsLaxer (Leveled n) Free = Unit {0}
IsLaxer (Leveled n) (Leveled m) = m ≤ n

pub record Laxer (r any : Rules) : Type 0 where
  pub limit : r.limit ≤ any.limit
  pub known : (m : List ℕ) → IsLaxer (r.known m) (any.known m)

pub laxer_same : (k : Known) → IsLaxer k k
laxer_same Unknown = tt
laxer_same Free = tt
laxer_same (Leveled n) = omega arith

laxer_free : (k : Known) → IsLaxer k Free
laxer_free Unknown = tt
laxer_free Free = tt
laxer_free (Leveled n) = tt

laxer_twice : (a b c : Known) → IsLaxer a b → IsLaxer b c → IsLaxer a c
laxer_twice Unknown b c h k = tt
laxer_twice Free Unknown c h k = absurd h
laxer_twice Free Free c h k = k
laxer_twice Free (Leveled n) c h k = absurd h
laxer_twice (Leveled a) Unknown c h k = absurd h
laxer_twice (Leveled a) Free Unknown h k = absurd k
laxer_twice (Leveled a) Free Free h k = tt
laxer_twice (Leveled a) Free (Leveled n) h k = absurd k
laxer_twice (Leveled a) (Leveled b) Unknown h k = absurd k
laxer_twice (Leveled a) (Leveled b) Free h k = tt
laxer_twice (Leveled a) (Leveled b) (Leveled c) h k = omega arith

pub laxer_self : (r : Rules) → Laxer r r
laxer_self r = record { limit = omega arith; known = λ m. laxer_same (r.known m) }

pub laxer_laxer : (r any more : Rules) → Laxer r any → Laxer any more → Laxer r more
laxer_laxer r any more h k = record { limit = omega (arith, h.limit, k.limit); known = λ m. laxer_twice (r.known m) (any.known m) (more.known m) (h.known m) (k.known m) }

-- every macro may stand everywhere
abbrev pub all_free : ℕ → Rules
all_free n = record { known = λ m. Free; limit = n }

pub laxer_all_free : (r : Rules) (n : ℕ) → r.limit ≤ n → Laxer r (all_free n)
laxer_all_free r n le = record { limit = le; known = λ m. laxer_free (r.known m) }

-- the same macros under a wider limit
pub laxer_limit : (r : Rules) (n : ℕ) → r.limit ≤ n → Laxer r (record r { limit = n })
laxer_limit r n le = record { limit = le; known = λ m. laxer_same (r.known m) }

laxer_admits : (k l : Known) (depth limit other : ℕ) → IsLaxer k l → limit ≤ other → Admits k depth limit → Admits l depth other
laxer_admits Unknown l depth limit other h le a = absurd a
laxer_admits Free Unknown depth limit other h le a = absurd h
laxer_admits Free Free depth limit other h le a = tt
laxer_admits Free (Leveled n) depth limit other h le a = absurd h
laxer_admits (Leveled n) Unknown depth limit other h le a = absurd h
laxer_admits (Leveled n) Free depth limit other h le a = tt
laxer_admits (Leveled n) (Leveled m) depth limit other h le a = omega arith

laxer_lt : (r any : Rules) → Laxer r any → (n : ℕ) → n < r.limit → n < any.limit
laxer_lt r any lax n lt = omega (arith, lax.limit)

mutual
  pub keeps_lax : (a : Alternatives) (r any : Rules) (depth : ℕ) → Laxer r any → Keeps r depth a → Keeps any depth a
  keeps_lax (alternative f) r any depth lax k = factors_lax f r any depth lax k
  keeps_lax (or_else a f) r any depth lax k = (keeps_lax a r any depth lax k.0, factors_lax f r any depth lax k.1)

  factors_lax : (f : Factors) (r any : Rules) (depth : ℕ) → Laxer r any → FactorsKeep r depth f → FactorsKeep any depth f
  factors_lax (factor p) r any depth lax k = primary_lax p r any depth lax k
  factors_lax (and_then f p) r any depth lax k = (factors_lax f r any depth lax k.0, primary_lax p r any depth lax k.1)

  primary_lax : (p : Primary) (r any : Rules) (depth : ℕ) → Laxer r any → PrimaryKeeps r depth p → PrimaryKeeps any depth p
  primary_lax (connector c) r any depth lax k = tt
  primary_lax (macro m) r any depth lax k = laxer_admits (r.known m) (any.known m) depth r.limit any.limit (lax.known m) lax.limit k
  primary_lax brackets r any depth lax k = laxer_lt r any lax depth k
  primary_lax (bracketed a) r any depth lax k = (laxer_lt r any lax depth k.0, keeps_lax a r any (suc depth) lax k.1)
  primary_lax (braced a) r any depth lax k = (laxer_lt r any lax depth k.0, keeps_lax a r any (suc depth) lax k.1)
  primary_lax (costly a) r any depth lax k = (laxer_lt r any lax depth k.0, keeps_lax a r any (suc depth) lax k.1)
  primary_lax (costing a cost) r any depth lax k = (laxer_lt r any lax depth k.0, keeps_lax a r any (suc depth) lax k.1)

before_lax : (r any : Rules) (depth : ℕ) (b : Option Alternatives) → Laxer r any → BeforeKeeps r depth b → BeforeKeeps any depth b
before_lax r any depth None lax k = tt
before_lax r any depth (Some a) lax k = keeps_lax a r any depth lax k

now_lax : (r any : Rules) (depth : ℕ) (n : Option Factors) → Laxer r any → NowKeeps r depth n → NowKeeps any depth n
now_lax r any depth None lax k = tt
now_lax r any depth (Some f) lax k = factors_lax f r any depth lax k

half_lax : (r any : Rules) (depth : ℕ) (h : Half) → Laxer r any → HalfKeeps r depth h → HalfKeeps any depth h
half_lax r any depth h lax k = (before_lax r any depth h.before lax k.0, now_lax r any depth h.now lax k.1)

outer_lax : (r any : Rules) (hs : List Held) → Laxer r any → OuterKeeps r hs → OuterKeeps any hs
outer_lax r any [] lax k = tt
outer_lax r any (h ∷ hs) lax k = (half_lax r any (length hs) h.half lax k.0, laxer_lt r any lax (length hs) k.1, outer_lax r any hs lax k.2)

pub fits_lax : (r any : Rules) (q : Stage) → Laxer r any → Fits r q → Fits any q
fits_lax r any (at_opening h hs) lax k = (half_lax r any (length hs) h lax k.0, laxer_lt r any lax (length hs) k.1, outer_lax r any hs lax k.2)
fits_lax r any (at_primary h hs) lax k = (half_lax r any (length hs) h lax k.0, outer_lax r any hs lax k.1)
fits_lax r any (at_reached b f hs) lax k = (before_lax r any (length hs) b lax k.0, factors_lax f r any (length hs) lax k.1, outer_lax r any hs lax k.2)
fits_lax r any (at_cost h a hs) lax k = (half_lax r any (length hs) h lax k.0, primary_lax (costly a) r any (length hs) lax k.1, outer_lax r any hs lax k.2)

-- ---- a step that goes on goes on so under laxer rules

lax_opening : (b : Bool) (limit wider : ℕ) (k : Bracket) (f : Frame) (outer : List Outer) (n : ℕ) (t : State) → b ≡ ltb (length outer) limit → limit ≤ wider
    → cond b (goes (inside k f outer n)) (refused TooDeep) ≡ goes t → opening wider k f outer n ≡ goes t
lax_opening true limit wider k f outer n t is le e = rw (lt-ltb (length outer) wider (omega (arith, ltb-true _ _ (sym is)))) e
lax_opening false limit wider k f outer n t is le e = absurd cc

lax_level : (b : Bool) (own other limit wider : ℕ) (m : List ℕ) (f : Frame) (outer : List Outer) (n : ℕ) (t : State) → b ≡ ltb (own + length outer) limit → other ≤ own → limit ≤ wider
    → cond b (after f outer n (named m (length outer))) (refused TooDeep) ≡ goes t → naming (Leveled other) wider m f outer n ≡ goes t
lax_level true own other limit wider m f outer n t is le wide e = rw (lt-ltb (other + length outer) wider (omega (arith, ltb-true _ _ (sym is)))) e
lax_level false own other limit wider m f outer n t is le wide e = absurd cc

lax_freed : (b : Bool) (m : List ℕ) (f : Frame) (outer : List Outer) (n : ℕ) (t : State) → cond b (after f outer n (named m (length outer))) (refused TooDeep) ≡ goes t → after f outer n (named m (length outer)) ≡ goes t
lax_freed true m f outer n t e = e
lax_freed false m f outer n t e = absurd cc

lax_naming : (k l : Known) (limit wider : ℕ) (m : List ℕ) (f : Frame) (outer : List Outer) (n : ℕ) (t : State) → IsLaxer k l → limit ≤ wider → naming k limit m f outer n ≡ goes t → naming l wider m f outer n ≡ goes t
lax_naming Unknown l limit wider m f outer n t low le e = absurd cc
lax_naming Free Unknown limit wider m f outer n t low le e = absurd low
lax_naming Free Free limit wider m f outer n t low le e = e
lax_naming Free (Leveled b) limit wider m f outer n t low le e = absurd low
lax_naming (Leveled a) Unknown limit wider m f outer n t low le e = absurd low
lax_naming (Leveled a) Free limit wider m f outer n t low le e = lax_freed (ltb (a + length outer) limit) m f outer n t e
lax_naming (Leveled a) (Leveled b) limit wider m f outer n t low le e = lax_level (ltb (a + length outer) limit) a b limit wider m f outer n t refl low le e

lax_in : (r any : Rules) (ph : Phase) (f : Frame) (outer : List Outer) (n : ℕ) (p : Part) (t : State) → Laxer r any → step_in r ph f outer n p ≡ goes t → step_in any ph f outer n p ≡ goes t
lax_in r any reached f outer n p t lax e = e
lax_in r any (closed x) f outer n p t lax e = e
lax_in r any opened f outer n (opens k) t lax e = lax_opening (ltb (length outer) r.limit) r.limit any.limit k f outer n t refl lax.limit e
lax_in r any opened f outer n (names m) t lax e = lax_naming (r.known m) (any.known m) r.limit any.limit m f outer n t (lax.known m) lax.limit e
lax_in r any opened f outer n (connects c) t lax e = e
lax_in r any opened f outer n (operates o) t lax e = e
lax_in r any opened f outer n (closes Round) t lax e = e
lax_in r any opened f outer n (closes Curly) t lax e = e
lax_in r any opened f outer n (closes Square) t lax e = e
lax_in r any opened f outer n (number cost) t lax e = e
lax_in r any opened f outer n no_number t lax e = e
lax_in r any opened f outer n ends t lax e = e
lax_in r any opened f outer n wrong t lax e = e
lax_in r any wanting f outer n (opens k) t lax e = lax_opening (ltb (length outer) r.limit) r.limit any.limit k f outer n t refl lax.limit e
lax_in r any wanting f outer n (names m) t lax e = lax_naming (r.known m) (any.known m) r.limit any.limit m f outer n t (lax.known m) lax.limit e
lax_in r any wanting f outer n (connects c) t lax e = e
lax_in r any wanting f outer n (operates o) t lax e = e
lax_in r any wanting f outer n (closes k) t lax e = e
lax_in r any wanting f outer n (number cost) t lax e = e
lax_in r any wanting f outer n no_number t lax e = e
lax_in r any wanting f outer n ends t lax e = e
lax_in r any wanting f outer n wrong t lax e = e

pub lax_step : (r any : Rules) (s t : State) (p : Part) → Laxer r any → step r s p ≡ goes t → step any s p ≡ goes t
lax_step r any s t p lax e = lax_in r any s.phase s.here s.outer s.deepest p t lax e
