-- What each step tells its seat: of the step, the seat before, the number found and the seat after.
use Rattle.std.specs.Prelude.{◌≡◌, ◌≢◌, ℕ, ◌*◌, ◌%◌, ◌<◌, None, Some, List, ◌∷◌, [], IfSome}
use Rattle.atomic_table.specs.Table.{Me, Step, rest}
use Rattle.atomic_table.specs.Seated.{TableId}
use Rattle.lg_memo.specs.declared.view.About.{About}
use Rattle.lg_memo.specs.declared.view.View.{View}
use Rattle.lg_memo.specs.Views.{counted, NoFewer, fresh_view, loses, takes_shard, gives_shard}

module _ {N S : Type 0} where
  -- the shard was at home, and the seat has what was there
  pub record Taken (Good : About N → ℕ → ℕ → S → Type 0) (shard : ℕ) (me after : Me S (View N)) : Type 0 where
    pub entries : ℕ
    pub content : S
    pub seat : after ≡ (takes_shard me.0 shard entries, (shard, content) ∷ me.1)
    pub good : IfSome me.0.about (λ about. Good about shard entries content)
    pub known : NoFewer me.0.known shard entries

  -- Where the word is odd, another seat has the shard; else the seat takes it.
  abbrev pub Takes : (About N → ℕ → ℕ → S → Type 0) → Step S → Me S (View N) → ℕ → Me S (View N) → Type 0
  Takes Good step me found after = (found % 2 ≡ 1 → after ≡ (loses me.0, me.1)) × (found % 2 ≢ 1 → Taken Good step.word me after)

  -- The shard is at home with as many entries as the word says.
  abbrev pub Gives : Step S → Me S (View N) → ℕ → Me S (View N) → Type 0
  Gives step me found after = (entries : ℕ) → found ≡ 2 * entries → after ≡ (gives_shard me.0 step.word entries, rest me.1)

  -- the table and the seat of a new memo, which stands for the seats of these numbers
  abbrev pub at_start : TableId → About N → List ℕ → TableId × Me S (View N)
  at_start table about numbers = (table, (fresh_view about numbers, []))

  -- the seat of this memo has no shard
  pub record IsFree (table : TableId) (about : About N) (its_table : TableId) (me : Me S (View N)) : Type 0 where
    pub same_table : its_table ≡ table
    pub same_memo : me.0.about ≡ Some about
    pub no_shard : me.0.has ≡ None
    pub no_slot : me.1 ≡ []

  -- the seat of this memo has the shard of this number, and took so many entries
  pub record HasShard (table : TableId) (about : About N) (vacant : S) (its_table : TableId) (me : Me S (View N)) (shard entries : ℕ) : Type 0 where
    pub same_table : its_table ≡ table
    pub same_memo : me.0.about ≡ Some about
    pub within : shard < about.shards
    pub has : me.0.has ≡ Some (counted shard entries)
    pub one_slot : me.1 ≡ (shard, vacant) ∷ []
