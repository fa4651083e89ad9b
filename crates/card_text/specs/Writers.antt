-- What each method of the writer of a text does.
use Rattle.std.specs.Prelude.{◌≡◌, ℕ, ◌+◌, ◌≤◌, List, length}
use Rattle.card_text.specs.declared.write.TextWriter.{TextWriter}
use Rattle.card_text.specs.Texts.{over}

-- the bytes fit in the memory left
abbrev pub HasRoom : List ℕ → TextWriter → Type 0
HasRoom bytes t = t.end + length bytes ≤ length t.memory.now

-- the writer t wrote the bytes after those written before, in the same memory, and is then u
pub record Wrote (bytes : List ℕ) (t u : TextWriter) : Type 0 where
  pub named : u.memory.ghost_name ≡ t.memory.ghost_name
  pub room : HasRoom bytes t
  pub long : length u.memory.now ≡ length t.memory.now
  pub end : u.end ≡ t.end + length bytes
  pub memory : u.memory.now ≡ over t.end bytes t.memory.now
