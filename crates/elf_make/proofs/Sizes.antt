-- The names, contents and headers of the sections from one on, and what they take.
use Rattle.std.proofs.Common.{◌≡◌, ℕ, ◌+◌, ◌-◌, ◌<◌, List, [], ◌∷◌, ◌++◌, length, get_or, drop, refl, sym, ap, ◌∙◌, arith}
use Rattle.std.proofs.lemmas.List.{append_assoc, length-append, at_drop_more}
use Rattle.elf_make.specs.declared.section.Section.{Section}
use Rattle.elf_make.specs.Packed.{names, contents, name_table, names_at, names_end, added_headers, section_header, section_headers, zeros}

pub length-name_table : (ss : List Section) → length (name_table ss) ≡ 11 + length (names ss)
unfolding name_table
length-name_table ss = grind (arith, length-append)

pub names_at_is : (ss : List Section) → names_at ss ≡ 64 + length (contents ss)
unfolding names_at
names_at_is ss = refl

pub names_end_is : (ss : List Section) → names_end ss ≡ names_at ss + length (name_table ss)
unfolding names_end
names_end_is ss = refl

names_first : (s : Section) (ss : List Section) → length (names (s ∷ ss)) ≡ length s.name + 1 + length (names ss)
unfolding names
names_first s ss = grind (arith, length-append)

contents_first : (s : Section) (ss : List Section) → length (contents (s ∷ ss)) ≡ length s.content + length (contents ss)
unfolding contents
contents_first s ss = grind (arith, length-append)

headers_first : (n p : ℕ) (s : Section) (ss : List Section)
    → added_headers n p (s ∷ ss) ≡ section_header n 1 p (length s.content) ++ added_headers (n + length s.name + 1) (p + length s.content) ss
unfolding added_headers
headers_first n p s ss = refl

pub names_none : length (names []) ≡ 0
unfolding names
names_none = refl

pub contents_none : length (contents []) ≡ 0
unfolding contents
contents_none = refl

pub headers_none : (n p : ℕ) → added_headers n p [] ≡ []
unfolding added_headers
headers_none n p = refl

-- s is the section at i
pub names_next : (ss : List Section) (i : ℕ) (s : Section) → i < length ss → s ≡ get_or ss i s
    → length (names (drop i ss)) ≡ length s.name + 1 + length (names (drop (i + 1) ss))
names_next ss i s lt is = at_drop_more (λ xs. length (names xs)) ss i s lt ∙ rw (← is) (names_first s _)

pub contents_next : (ss : List Section) (i : ℕ) (s : Section) → i < length ss → s ≡ get_or ss i s
    → length (contents (drop i ss)) ≡ length s.content + length (contents (drop (i + 1) ss))
contents_next ss i s lt is = at_drop_more (λ xs. length (contents xs)) ss i s lt ∙ rw (← is) (contents_first s _)

pub headers_next : (n p : ℕ) (ss : List Section) (i : ℕ) (s : Section) → i < length ss → s ≡ get_or ss i s
    → added_headers n p (drop i ss) ≡ section_header n 1 p (length s.content) ++ added_headers (n + length s.name + 1) (p + length s.content) (drop (i + 1) ss)
headers_next n p ss i s lt is = at_drop_more (λ xs. added_headers n p xs) ss i s lt ∙ rw (← is) (headers_first n p s _)

-- one more header behind those before it, where a and b are the sizes of the name and of the content
pub headers_on : (n p : ℕ) (ss : List Section) (i : ℕ) (s : Section) (a b : ℕ) (file more before : List ℕ)
    → i < length ss → s ≡ get_or ss i s → a ≡ length s.name → b ≡ length s.content
    → more ≡ file ++ section_header n 1 p b
    → file ++ added_headers n p (drop i ss) ≡ before
    → more ++ added_headers (n + (a + 1)) (p + b) (drop (i + 1) ss) ≡ before
headers_on n p ss i s a b file more before lt is name content one h =
    let e : n + (a + 1) ≡ n + length s.name + 1 = omega (arith, name) in
    rw (one, append_assoc, e, content) (ap (λ xs. file ++ xs) (sym (headers_next n p ss i s lt is)) ∙ h)

-- the headers of section 0, of the added sections and of `.shstrtab`, behind one another
pub headers_joined : (ss : List Section) (file a b c : List ℕ) (own start end : ℕ)
    → a ≡ file ++ zeros 64 → b ≡ a ++ added_headers 1 64 ss → c ≡ b ++ section_header own 3 start (end - start)
    → own ≡ 1 + length (names ss) → start ≡ names_at ss → end ≡ names_end ss
    → c ≡ file ++ section_headers ss
unfolding section_headers
headers_joined ss file a b c own start end at_a at_b at_c is_own is_start is_end =
    let whole = names_end_is ss in
    let size : end - start ≡ length (name_table ss) = omega (arith, whole, is_start, is_end) in
    rw (at_c, at_b, at_a, size, is_own, is_start) (simp append_assoc refl)
