-- The debug sections that were found once.
use Rattle.std.specs.Prelude.{◌≡◌, ◌≤◌, ℕ, List, length, codes}
use Rattle.ix_base.specs.declared.limits.TheConstants.{MAX_FILE_BYTES}
use Rattle.index_model.specs.Sections.{Section, section_bytes}
use Rattle.file_image.specs.declared.resolved.Resolved.{Resolved}

-- the bytes are those of the first section of the name, and no more than a file may have
pub record IsFound (ss : List Section) (name bytes : List ℕ) : Type 0 where
  pub value : bytes ≡ section_bytes ss name
  pub small : length bytes ≤ MAX_FILE_BYTES

-- each is that of its name
pub record AreFound (ss : List Section) (r : Resolved) : Type 0 where
  pub info : IsFound ss (codes ".debug_info") r.info.now
  pub abbrev_ : IsFound ss (codes ".debug_abbrev") r.«abbrev».now
  pub str : IsFound ss (codes ".debug_str") r.str.now
  pub line_str : IsFound ss (codes ".debug_line_str") r.line_str.now
  pub str_offsets : IsFound ss (codes ".debug_str_offsets") r.str_offsets.now
  pub addr : IsFound ss (codes ".debug_addr") r.addr.now
  pub rnglists : IsFound ss (codes ".debug_rnglists") r.rnglists.now
  pub ranges : IsFound ss (codes ".debug_ranges") r.ranges.now
