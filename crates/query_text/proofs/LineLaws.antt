-- A line is of one word, or of a word and its argument.
use Rattle.std.proofs.Common.{◌≡◌, ℕ, Bool, true, false, cond, List, Option, Some, None, refl, eqb}
use Rattle.std.specs.Prelude.{bytes_eq, codes}
use Rattle.std.specs.List.{list_any}
use Rattle.index_model.specs.Queries.{Query, AskMain, AskCache, query_of}
use Rattle.query_text.specs.Lines.{word_asked, argument_asked}

abbrev words : Bool → Bool → Option Query → Option Query
words a b rest = cond a (Some AskMain) (cond b (Some AskCache) rest)

one_word : (a b : Bool) (rest : Option Query) (q : Query) → Some q ≡ words a b None → Some q ≡ words a b rest
one_word true b rest q e = e
one_word false true rest q e = e
one_word false false rest q e = absurd (cc)

no_word : (a b : Bool) (rest : Option Query) → None ≡ words a b None → rest ≡ words a b rest
no_word true b rest e = absurd (cc)
no_word false true rest e = absurd (cc)
no_word false false rest e = refl

-- a line of one word asks what the word asks
pub by_word : (line : List ℕ) (q : Query) → list_any (λ b. eqb b 10) line ≡ false → Some q ≡ word_asked line → Some q ≡ query_of line
unfolding query_of
by_word line q one e = rw one (one_word (bytes_eq line (codes "main")) (bytes_eq line (codes "cache")) (argument_asked line) q e)

-- another line asks by its argument
pub by_argument : (line : List ℕ) (r : Option Query) → list_any (λ b. eqb b 10) line ≡ false → None ≡ word_asked line → r ≡ argument_asked line → r ≡ query_of line
unfolding query_of
by_argument line r one other e = rw (one, e) (no_word (bytes_eq line (codes "main")) (bytes_eq line (codes "cache")) (argument_asked line) other)
