use Rattle.std.proofs.Common.{◌≡◌, ap, sym, ◌∙◌, arith}
use Rattle.std.proofs.lemmas.Result.{err_from_is_err_and}
use Rattle.index_model.specs.declared.index_code.TheConstants.{NAMES_STRING_OFFSET}
use Rattle.index_model.specs.Meaning.{fault, wrong_in}
use Rattle.debugnames_read.specs.Abbreviations.{abbreviations_in}
use Rattle.debugnames_read.specs.Names.{tables_of, string_at}
use Rattle.debugnames_read.proofs.Counted.{string_place, string_total}
use Rattle.debugnames_read.proofs.NameLaws.{string_fault, string_found, string_wrong}
use Rattle.debugnames_read.proofs.Opened.{as_entries, no_hash, no_text}
use Rattle.string_ends.proofs.TextLaws.{no_text_here, some_text_here}
use Rattle.debugnames_read.proofs.names.IndexTables.check_name.Goals as goal

pub place-requires : goal.place-requires
place-requires c = omega (arith, string_total c.args.self.now.tables, c.requires.within)

pub returns-then-not-has_string-clause-value : goal.returns-then-not-has_string-clause-value
returns-then-not-has_string-clause-value c =
    let n = c.args.self.now in
    let t = tables_of n in
    let k = c.args.number in
    let is : c.fault.result ≡ string_wrong t n.strings.now n.base k = c.fault.ensures ∙ ap (fault NAMES_STRING_OFFSET) (c.place.ensures ∙ string_place n.tables k) in
    let none = no_text_here (string_at t n.strings.now n.base k) (sym c.has_string.ensures ∙ c.if-not-has_string.true) in
    rw is (sym (ap wrong_in (no_text t (abbreviations_in t.abbreviations) n.strings.now n.base k (string_wrong t n.strings.now n.base k) (string_fault t n.strings.now n.base k none))))

pub returns-in_err-check_hash-clause-value : goal.returns-in_err-check_hash-clause-value
returns-in_err-check_hash-clause-value c =
    let n = c.args.self.now in
    let t = tables_of n in
    let k = c.args.number in
    let p = err_from_is_err_and c.from_residual.result c.from_residual.ensures.1 in
    let s = some_text_here (string_at t n.strings.now n.base k) (sym c.has_string.ensures ∙ c.if-not-has_string.false) in
    let text = string_found t n.strings.now n.base k s.0 s.1 in
    rw (p.1, p.2) (sym (ap wrong_in (no_hash t (abbreviations_in t.abbreviations) n.strings.now n.base k s.0 text c.in_err-check_hash.field-0.0 (c.in_err-check_hash.ensures s.0 s.1))))

pub returns-clause-value : goal.returns-clause-value
returns-clause-value c =
    let n = c.args.self.now in
    let t = tables_of n in
    let k = c.args.number in
    let s = some_text_here (string_at t n.strings.now n.base k) (sym c.has_string.ensures ∙ c.if-not-has_string.false) in
    let text = string_found t n.strings.now n.base k s.0 s.1 in
    c.check_entries.ensures.value ∙ sym (as_entries t (abbreviations_in t.abbreviations) n.strings.now n.base k s.0 text (c.in_ok-check_hash.ensures s.0 s.1))
