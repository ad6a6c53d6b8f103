use Rattle.std.proofs.Common.{◌≡◌, take}
use Rattle.command_words.specs.Words.{query_text}
use Rattle.command_words.specs.SeenWords.{words_of}
use Rattle.index_cmd.proofs.line.query_line.Given as goal

-- the words so far are joined
abbrev pub invariant-loop-i : goal.invariant-loop-i
invariant-loop-i l = l.text.items ≡ query_text (words_of (take l.i l.words))
