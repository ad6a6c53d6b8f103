-- The law of sections that grow, as a statement: what stands behind the bytes that a program reads changes nothing of what it means.
use Rattle.std.specs.Prelude.{◌≡◌, ℕ, List, ◌++◌, codes, Ok}
use Rattle.index_model.specs.declared.answer.CacheSize.{CacheSize}
use Rattle.index_model.specs.declared.job.CacheKind.TheVariants.{Gdb8, Gdb9}
use Rattle.index_model.specs.Sections.{Section, section_bytes, sections_of}
use Rattle.index_model.specs.MainProgram.{main_of}
use Rattle.index_model.specs.Faults.{Built, built_of}
use Rattle.index_model.specs.Queries.{Query}
use Rattle.index_model.specs.Answers.{answer_to, entries_in}
use Rattle.index_model.specs.Cache.{cache_in}

-- each section of the first program is the front of that of the second, and those of the units are the same
pub record Grows (first second : List Section) : Type 0 where
  pub info : section_bytes second (codes ".debug_info") ≡ section_bytes first (codes ".debug_info")
  pub types : section_bytes second (codes ".debug_types") ≡ section_bytes first (codes ".debug_types")
  pub others : (name : List ℕ) → (more : List ℕ) × (section_bytes second name ≡ section_bytes first name ++ more)

-- two programs have the same units, entries, ranges and main, so every question has the same answer
pub record MeansTheSame (b c : Built) : Type 0 where
  pub walks : c.program.walks ≡ b.program.walks
  pub links : c.links ≡ b.links
  pub ranges : c.ranges ≡ b.ranges
  pub entries : entries_in c ≡ entries_in b
  pub main : main_of c.program c.links ≡ main_of b.program b.links
  pub answers : (size : CacheSize) (q : Query) → answer_to c size q ≡ answer_to b size q
  pub index_8 : cache_in Gdb8 c ≡ cache_in Gdb8 b
  pub index_9 : cache_in Gdb9 c ≡ cache_in Gdb9 b

-- a program whose sections have grown has no fault either, and means the same
abbrev pub GrownProgramsMeanTheSame : Type 0
GrownProgramsMeanTheSame = (f g : List ℕ) (first second : List Section) (b : Built) →
    sections_of f ≡ Ok first → sections_of g ≡ Ok second → Grows first second → built_of f ≡ Ok b →
    (c : Built) × (built_of g ≡ Ok c) × (c.program.sections ≡ second) × MeansTheSame b c
