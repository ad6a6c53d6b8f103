-- What a loop has read, and what it still reads.
use Rattle.std.specs.Prelude.{List, ◌++◌, Result, Ok}
use Rattle.index_model.specs.Meaning.{◌>>=◌}

-- what was read before, in front of what is still read
abbrev pub with_front : {A E : Type 0} → List A → Result (List A) E → Result (List A) E
with_front front left = left >>= λ xs. Ok (front ++ xs)
