-- What contracts see of the buffer of a session.
use Rattle.std.specs.Prelude.{ℕ, ◌+◌, List, []}

-- how many bytes a line has at most
abbrev pub longest_line : ℕ
longest_line = 65536

-- how many bytes it holds at most, the beginning of a line whose newline isn't found yet, and the bytes behind it, in which none was
-- looked for
pub record Buffer : Type 0 where
  pub room : ℕ
  pub part : List ℕ
  pub fresh : List ℕ

-- no bytes, and room for the longest line and its newline
abbrev pub empty_buffer : Buffer
empty_buffer = record { room = longest_line + 1; part = []; fresh = [] }
