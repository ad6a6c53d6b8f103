-- Transcripts of lines, and of more lines behind them.
use Rattle.std.proofs.Common.{◌≡◌, ℕ, ◌+◌, ◌++◌, List, [], ◌∷◌, length, Option, Some, None, Result, refl, sym, ap, ◌∙◌, append_assoc, append-nil, arith}
use Rattle.std.specs.Prelude.{map}
use Rattle.std.proofs.lemmas.List.{map-append}
use Rattle.ix_base.specs.declared.fault.Fault.{Fault}
use Rattle.name_quotes.specs.declared.quote.Spelling.{Spelling}
use Rattle.name_quotes.specs.declared.quote.Spelling.TheVariants.{Plain}
use Rattle.index_model.specs.declared.answer.CacheSize.{CacheSize}
use Rattle.index_model.specs.Cache.{size_in}
use Rattle.index_model.specs.Faults.{Built, built_of}
use Rattle.index_model.specs.Outputs.{Subject}
use Rattle.index_model.specs.Queries.{Query, query_of}
use Rattle.index_model.specs.Transcripts.{bad_query, text_of_look, texts_at, transcript_of}
use Rattle.query_text.specs.Spelled.{PlainSessionsAreTranscripts, text_of_look_in, texts_in, transcript_in}
use Rattle.query_text.specs.Sessions.{look_text, look_ups, one_if, transcript}

-- how many are queries
abbrev asked : List (Option Query) → ℕ
asked [] = 0
asked (q ∷ qs) = one_if q (asked qs)

look_ups_asked : (lines : List (List ℕ)) → look_ups lines ≡ asked (map query_of lines)
look_ups_asked [] = refl
look_ups_asked (line ∷ lines) = ap (one_if (query_of line)) (look_ups_asked lines)

one_if_sum : (q : Option Query) (a b : ℕ) → one_if q (a + b) ≡ one_if q a + b
one_if_sum None a b = refl
one_if_sum (Some q) a b = omega arith

pub look_ups_more : (lines more : List (List ℕ)) → look_ups (lines ++ more) ≡ look_ups lines + look_ups more
look_ups_more [] more = omega arith
look_ups_more (line ∷ lines) more = ap (one_if (query_of line)) (look_ups_more lines more) ∙ one_if_sum (query_of line) (look_ups lines) (look_ups more)

module _ (spelling : Spelling) (r : Result Built Fault) (cache : CacheSize) where
  texts_more : (qs rs : List (Option Query)) (ms ns : List ℕ) → length ms ≡ asked qs → texts_in spelling r cache (qs ++ rs) (ms ++ ns) ≡ texts_in spelling r cache qs ms ++ texts_in spelling r cache rs ns
  unfolding texts_in
  texts_more [] rs [] ns e = refl
  texts_more [] rs (m ∷ ms) ns e = absurd (omega (arith, e))
  texts_more (None ∷ qs) rs ms ns e =
      ap (λ (t : List ℕ). bad_query ++ t) (texts_more qs rs ms ns e) ∙ sym (append_assoc bad_query (texts_in spelling r cache qs ms) (texts_in spelling r cache rs ns))
  texts_more (Some q ∷ qs) rs [] ns e = absurd (omega (arith, e))
  texts_more (Some q ∷ qs) rs (m ∷ ms) ns e =
      ap (λ (t : List ℕ). text_of_look_in spelling r cache q m ++ t) (texts_more qs rs ms ns (omega (arith, e)))
      ∙ sym (append_assoc (text_of_look_in spelling r cache q m) (texts_in spelling r cache qs ms) (texts_in spelling r cache rs ns))

module _ (spelling : Spelling) (s : Subject) where
  -- the text of lines and of more lines
  pub transcript_more : (lines more : List (List ℕ)) (ms ns : List ℕ) → length ms ≡ look_ups lines → transcript spelling s (lines ++ more) (ms ++ ns) ≡ transcript spelling s lines ms ++ transcript spelling s more ns
  unfolding transcript_in
  transcript_more lines more ms ns e =
      let r = built_of s.file in
      let cache = size_in s.cache r in
      ap (λ (qs : List (Option Query)). texts_in spelling r cache qs (ms ++ ns)) (map-append query_of lines more)
      ∙ texts_more spelling r cache (map query_of lines) (map query_of more) ms ns (e ∙ look_ups_asked lines)

  -- of no line
  pub transcript_none : [] ≡ transcript spelling s [] []
  unfolding transcript_in texts_in
  transcript_none = refl

  -- of a line that is no query
  pub transcript_bad : (line : List ℕ) → query_of line ≡ None → bad_query ≡ transcript spelling s (line ∷ []) []
  unfolding transcript_in texts_in
  transcript_bad line e = rw e (sym (append-nil bad_query))

  -- of a look-up
  pub transcript_look : (line : List ℕ) (q : Query) (mark : ℕ) → query_of line ≡ Some q → look_text spelling s q mark ≡ transcript spelling s (line ∷ []) (mark ∷ [])
  unfolding transcript_in texts_in
  transcript_look line q mark e = rw e (sym (append-nil (look_text spelling s q mark)))

pub count_bad : (line : List ℕ) → query_of line ≡ None → 0 ≡ look_ups (line ∷ [])
count_bad line e = rw e refl

pub count_look : (line : List ℕ) (q : Query) → query_of line ≡ Some q → 1 ≡ look_ups (line ∷ [])
count_look line q e = rw e refl

-- where names are written as they stand
plain_texts : (r : Result Built Fault) (cache : CacheSize) (qs : List (Option Query)) (ms : List ℕ) → texts_in Plain r cache qs ms ≡ texts_at r cache qs ms
unfolding texts_in texts_at text_of_look
plain_texts r cache [] ms = refl
plain_texts r cache (None ∷ qs) ms = ap (λ (t : List ℕ). bad_query ++ t) (plain_texts r cache qs ms)
plain_texts r cache (Some q ∷ qs) [] = refl
plain_texts r cache (Some q ∷ qs) (m ∷ ms) = ap (λ (t : List ℕ). text_of_look_in Plain r cache q m ++ t) (plain_texts r cache qs ms)

pub plain_transcripts : PlainSessionsAreTranscripts
unfolding transcript_in transcript_of
plain_transcripts r cache lines marks = plain_texts r cache (map query_of lines) marks
